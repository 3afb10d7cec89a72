-- Steps of the checksum of rows, and of more rows.
use Rattle.std.proofs.Common.{ℕ, zero, suc, ◌≡◌, ◌<◌, ◌+◌, List, [], ◌∷◌, ◌++◌, length, take, get_or, set, refl, ap, ◌∙◌, arith, bit_xor}
use Rattle.row_types.specs.declared.values.Value.{Value}
use Rattle.row_types.specs.declared.digests.DigestKind.{DigestKind}
use Rattle.row_types.specs.declared.digests.Digest.{Digest}
use Rattle.row_digest.specs.Digest.{xored, added, added_rows, no_rows, digest_of}

-- one more byte of the hash
pub xored_suc : (xs hs : List ℕ) (i : ℕ) → i < length xs → i < length hs → set (xored xs (take i hs)) i (bit_xor (get_or (xored xs (take i hs)) i 0) (get_or hs i 0)) ≡ xored xs (take (suc i) hs)
xored_suc [] hs i h k = absurd (omega arith)
xored_suc (x ∷ xs) [] i h k = absurd (omega arith)
xored_suc (x ∷ xs) (b ∷ hs) zero h k = refl
xored_suc (x ∷ xs) (b ∷ hs) (suc i) h k = ap (λ ys. bit_xor x b ∷ ys) (xored_suc xs hs i (omega arith) (omega arith))

pub xored_more : (xs hs : List ℕ) (i : ℕ) → i < length xs → i < length hs → set (xored xs (take i hs)) i (bit_xor (get_or (xored xs (take i hs)) i 0) (get_or hs i 0)) ≡ xored xs (take (i + 1) hs)
xored_more xs hs i h k =
    let e : suc i ≡ i + 1 = omega arith in
    xored_suc xs hs i h k ∙ ap (λ n. xored xs (take n hs)) e

-- rows added to a checksum, and then more
pub added_rows-append : (kind : DigestKind) (rows more : List (List Value)) (digest : Digest) → added_rows kind (rows ++ more) digest ≡ added_rows kind more (added_rows kind rows digest)
added_rows-append kind [] more digest = refl
added_rows-append kind (row ∷ rows) more digest = added_rows-append kind rows more (added kind row digest)

pub added_rows-count : (kind : DigestKind) (rows : List (List Value)) (digest : Digest) → (added_rows kind rows digest).count ≡ digest.count + length rows
added_rows-count kind [] digest = omega arith
added_rows-count kind (row ∷ rows) digest = let more = added_rows-count kind rows (added kind row digest) in omega arith

pub digest_of-count : (kind : DigestKind) (rows : List (List Value)) → (digest_of kind rows).count ≡ length rows
digest_of-count kind rows = let counted = added_rows-count kind rows no_rows in omega arith
