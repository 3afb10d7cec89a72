-- The checksum of rows is one that a SETMASTER can say, and so is the key of a row that a CHECKSUM can.
use Rattle.std.proofs.Common.{◌≡◌, ℕ, zero, suc, ◌<◌, ◌≤◌, ◌/◌, ◌%◌, ◌^◌, List, [], ◌∷◌, ◌++◌, refl, ◌∙◌, arith}
use Rattle.std.specs.Prelude.{length, take, drop, replicate, slice_index}
use Rattle.std.specs.Int.{w32, byte_at, bytes_low_first, bytes_high_first, to_le_bytes, to_be_bytes}
use Rattle.std.proofs.lemmas.Nat.{xor_of_8}
use Rattle.hex.specs.Hex.{IsBytes}
use Rattle.md5.specs.Md5 as m
use Rattle.md5.proofs.StandardFacts.{length-md5}
use Rattle.sha1.specs.Sha1 as s
use Rattle.row_types.specs.declared.values.Value.{Value}
use Rattle.row_types.specs.declared.digests.Digest.{Digest}
use Rattle.row_types.specs.declared.digests.DigestKind.{DigestKind}
use Rattle.row_types.specs.declared.digests.DigestKind.TheVariants.{Md5, Sha1}
use Rattle.row_types.specs.declared.table_schema.Column.{Column}
use Rattle.row_types.specs.Fit.{ValuesFit}
use Rattle.row_digest.specs.Encoding.{encoded}
use Rattle.row_digest.specs.Digest.{xored, added, added_rows, no_rows}
use Rattle.statement_round_trip.specs.RoundTrip.{IsXor, ChecksumsAreSaid, KeysAreSaid}

-- ---- bytes

pub appended : (a b : List ℕ) → IsBytes a → IsBytes b → (i : ℕ) → slice_index (a ++ b) i < 256
appended [] b h g i = g i
appended (x ∷ a) b h g zero = h 0
appended (x ∷ a) b h g (suc i) = appended a b (λ k. h (suc k)) g i

low : (n : ℕ) → n % 256 < 256
low n = omega arith

byte_low : (i n : ℕ) → byte_at i n < 256
byte_low zero n = low n
byte_low (suc i) n = low (n / 256 ^ suc i)

low_first : (from k n i : ℕ) → slice_index (bytes_low_first from k n) i < 256
low_first from zero n i = omega arith
low_first from (suc k) n zero = byte_low from n
low_first from (suc k) n (suc i) = low_first (suc from) k n i

high_first : (k n i : ℕ) → slice_index (bytes_high_first k n) i < 256
high_first zero n i = omega arith
high_first (suc k) n zero = byte_low k n
high_first (suc k) n (suc i) = high_first k n i

md5_words : (h : List ℕ) (n : ℕ) → IsBytes (m.digest_bytes h n)
unfolding m.digest_bytes
md5_words h zero i = omega arith
md5_words h (suc n) i = appended (m.digest_bytes h n) (to_le_bytes w32 (slice_index h n)) (md5_words h n) (low_first 0 4 (slice_index h n)) i

sha1_words : (h : List ℕ) (n : ℕ) → IsBytes (s.digest_bytes h n)
unfolding s.digest_bytes
sha1_words h zero i = omega arith
sha1_words h (suc n) i = appended (s.digest_bytes h n) (to_be_bytes w32 (slice_index h n)) (sha1_words h n) (high_first 4 (slice_index h n)) i

md5_bytes : (text : List ℕ) → IsBytes (m.md5 text)
unfolding m.md5
md5_bytes text = md5_words _ 4

sha1_bytes : (text : List ℕ) → IsBytes (s.sha1 text)
unfolding s.sha1
sha1_bytes text = sha1_words _ 5

-- ---- checksums

xored_long : (xs hs : List ℕ) → length (xored xs hs) ≡ length xs
xored_long xs [] = refl
xored_long [] (h ∷ hs) = refl
xored_long (x ∷ xs) (h ∷ hs) = let i = xored_long xs hs in omega arith

xored_bytes : (xs hs : List ℕ) → IsBytes xs → IsBytes hs → (i : ℕ) → slice_index (xored xs hs) i < 256
xored_bytes xs [] a b i = a i
xored_bytes [] (h ∷ hs) a b i = a i
xored_bytes (x ∷ xs) (h ∷ hs) a b zero = xor_of_8 x h (a 0) (b 0)
xored_bytes (x ∷ xs) (h ∷ hs) a b (suc i) = xored_bytes xs hs (λ k. a (suc k)) (λ k. b (suc k)) i

xored_behind : (n : ℕ) (xs hs : List ℕ) → length hs ≤ n → drop n (xored xs hs) ≡ drop n xs
xored_behind n xs [] e = refl
xored_behind n [] (h ∷ hs) e = refl
xored_behind zero (x ∷ xs) (h ∷ hs) e = absurd (omega arith)
xored_behind (suc n) (x ∷ xs) (h ∷ hs) e = xored_behind n xs hs (omega arith)

pub zeros : (n i : ℕ) → slice_index (replicate n 0) i < 256
zeros zero i = omega arith
zeros (suc n) zero = omega arith
zeros (suc n) (suc i) = zeros n i

none_is : (kind : DigestKind) → IsXor kind (replicate 20 0)
none_is Md5 = record { long = refl; bytes = zeros 20; ends = refl }
none_is Sha1 = record { long = refl; bytes = zeros 20; ends = tt }

more_is : (kind : DigestKind) (row : List Value) (digest : Digest) → IsXor kind digest.xor → IsXor kind (added kind row digest).xor
more_is Md5 row digest i = record {
  long = xored_long digest.xor (m.md5 (encoded row)) ∙ i.long;
  bytes = xored_bytes digest.xor (m.md5 (encoded row)) i.bytes (md5_bytes (encoded row));
  ends = xored_behind 16 digest.xor (m.md5 (encoded row)) (let l = length-md5 (encoded row) in omega (arith, l)) ∙ i.ends;
}
more_is Sha1 row digest i = record {
  long = xored_long digest.xor (s.sha1 (encoded row)) ∙ i.long;
  bytes = xored_bytes digest.xor (s.sha1 (encoded row)) i.bytes (sha1_bytes (encoded row));
  ends = tt;
}

rows_are : (kind : DigestKind) (rows : List (List Value)) (digest : Digest) → IsXor kind digest.xor → IsXor kind (added_rows kind rows digest).xor
rows_are kind [] digest i = i
rows_are kind (row ∷ rows) digest i = rows_are kind rows (added kind row digest) (more_is kind row digest i)

pub checksums_are_said : ChecksumsAreSaid
checksums_are_said kind rows = rows_are kind rows no_rows (none_is kind)

-- ---- keys

taken_fit : (n : ℕ) (columns : List Column) (values : List Value) → ValuesFit columns values → ValuesFit (take n columns) (take n values)
taken_fit zero columns values h = tt
taken_fit (suc n) [] [] h = tt
taken_fit (suc n) [] (value ∷ values) h = absurd h
taken_fit (suc n) (column ∷ columns) [] h = absurd h
taken_fit (suc n) (column ∷ columns) (value ∷ values) h = (h.0, taken_fit n columns values h.1)

pub keys_are_said : KeysAreSaid
keys_are_said schema row h = taken_fit schema.key_len schema.columns row h
