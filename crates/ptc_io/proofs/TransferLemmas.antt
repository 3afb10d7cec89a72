-- What two writes, or two reads, in a row do to the bytes that are told.
use Rattle.std.proofs.Common.{◌≡◌, ◌+◌, ◌≤◌, ℕ, List, ◌++◌, length, drop, refl, ap, sym, ◌∙◌, append_assoc, arith}
use Rattle.std.proofs.Math.Seq.{drop-append-add}
use Rattle.std.specs.Prelude.{Option, None, Some}
use Rattle.std.specs.Option.{option_map}
use Rattle.ptc_io.specs.Bytes.{Appends, Loses, TakesAtMost}

appending_twice : (old : Option (List ℕ)) (xs ys : List ℕ)
    → option_map (λ held. held ++ ys) (option_map (λ held. held ++ xs) old) ≡ option_map (λ held. held ++ (xs ++ ys)) old
appending_twice None xs ys = refl
appending_twice (Some held) xs ys = ap (λ (zs : List ℕ). Some zs) (append_assoc held xs ys)

pub Appends-more : (old mid new : Option (List ℕ)) (xs ys : List ℕ) → Appends old mid xs → Appends mid new ys → Appends old new (xs ++ ys)
Appends-more old mid new xs ys first second =
    second ∙ ap (λ (known : Option (List ℕ)). option_map (λ held. held ++ ys) known) first ∙ appending_twice old xs ys

dropped_after : (old mid new : Option (List ℕ)) (bytes : List ℕ) (count : ℕ) → Loses old mid bytes
    → new ≡ option_map (λ all. drop count all) mid → new ≡ option_map (λ all. drop (length bytes + count) all) old
dropped_after old None new bytes count lost rest = rest ∙ ap (λ (known : Option (List ℕ)). option_map (λ all. drop (length bytes + count) all) known) (sym lost)
dropped_after old (Some left) new bytes count lost rest =
    rest ∙ ap (λ (xs : List ℕ). Some xs) (sym (drop-append-add bytes left count))
    ∙ ap (λ (known : Option (List ℕ)). option_map (λ all. drop (length bytes + count) all) known) (sym lost)

-- what was read so far, and then a read of at most what is still allowed
pub TakesAtMost-after : (old mid new : Option (List ℕ)) (bytes : List ℕ) (size most room : ℕ) → Loses old mid bytes → size ≡ length bytes
    → size + room ≤ most → TakesAtMost room mid new → TakesAtMost most old new
TakesAtMost-after old mid new bytes size most room lost is_size within then = record {
  count = length bytes + then.count;
  within = omega (arith, then.within, is_size, within);
  rest = dropped_after old mid new bytes then.count lost then.rest;
}
