use Rattle.std.proofs.Common.{◌≡◌, ℕ, ◌+◌, ◌≤◌, [], ◌++◌, length, take, drop, ap, ◌∙◌, sym, subst, List, length-drop, arith}
use Rattle.std.specs.Prelude.{Option}
use Rattle.std.proofs.Math.Seq.{drop-drop, take-add}
use Rattle.ptc_io.specs.Bytes.{Appends}
use Rattle.ptc_io.proofs.TransferLemmas.{Appends-more}
use Rattle.ptc_io.proofs.whole.write_all.Goals as goal

within_text : (text rest : List ℕ) (size n : ℕ) → rest ≡ drop size text → size ≤ length text → n ≤ length rest → size + n ≤ length text
within_text text rest size n is_rest within bound = omega (arith, length-drop size text, ap (length {A = ℕ}) is_rest)

front_longer : (old mid new : Option (List ℕ)) (text rest : List ℕ) (size n : ℕ) → rest ≡ drop size text
    → Appends old mid (take size text) → Appends mid new (take n rest) → Appends old new (take (size + n) text)
front_longer old mid new text rest size n is_rest before now =
    let joined : take size text ++ take n rest ≡ take (size + n) text =
    ap (λ (xs : List ℕ). take size text ++ take n xs) is_rest ∙ sym (take-add size n text) in
    subst (Appends old new) joined (Appends-more old mid new (take size text) (take n rest) before now)

none_from_empty : (text : List ℕ) (size n : ℕ) → text ≡ [] → size + n ≤ length text → n ≡ 0
none_from_empty text size n empty within = omega (arith, ap (length {A = ℕ}) empty)

pub loop-rest-preserved : goal.loop-rest-preserved
loop-rest-preserved g c =
    let kept = c.loop-rest.invariant in
    let within : kept.size + c.in_ok-count.count ≤ length c.args.text.now =
    within_text c.args.text.now c.loop-rest.rest.now kept.size c.in_ok-count.count kept.is_rest kept.within c.in_ok-count.ensures.bound in
    record {
      size = kept.size + c.in_ok-count.count;
      within = within;
      is_rest = c.split_at.ensures.back ∙ ap (drop c.in_ok-count.count) kept.is_rest ∙ drop-drop c.in_ok-count.count kept.size c.args.text.now;
      appended = front_longer _ _ _ c.args.text.now c.loop-rest.rest.now kept.size c.in_ok-count.count kept.is_rest kept.appended c.in_ok-count.ensures.appends;
      never_falls = omega (arith, kept.never_falls, c.in_ok-count.ensures.cause.never_falls);
      nothing = λ empty. absurd (c.if-count-eq0.false (none_from_empty _ _ _ empty within));
    }
