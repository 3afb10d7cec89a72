pub mod OrderLemmas
pub mod SpanLemmas
pub mod FaultLemmas
pub mod KeyRowLemmas
pub mod OrderedRowLemmas
pub mod SameRowLemmas
pub mod SchemaRowLemmas
