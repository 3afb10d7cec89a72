pub mod DigestLemmas
pub mod EncodingLemmas
