use Rattle.std.proofs.Common.{◌≡◌, ◌++◌, ◌+◌, List, ℕ, take, drop, sym, ap, ◌∙◌}
use Rattle.std.proofs.lemmas.List.{take-append-drop}
use Rattle.std.proofs.Math.Seq.{drop-drop}
use Rattle.ptc_io.proofs.unread.Unread.take.Goals as goal

-- bytes from a place on are what was copied of them, and those from further on
split_after : (at n : ℕ) (bytes copied : List ℕ) → take n copied ≡ take n (drop at bytes) → drop at bytes ≡ take n copied ++ drop (at + n) bytes
split_after at n bytes copied same =
    sym (take-append-drop n (drop at bytes)) ∙ ap (λ (xs : List ℕ). xs ++ drop n (drop at bytes)) (sym same)
    ∙ ap (λ (xs : List ℕ). take n copied ++ xs) (drop-drop n at bytes)

pub returns-clause-moves : goal.returns-clause-moves
returns-clause-moves c =
    sym c.self.view_is ∙ split_after c.self.inside.at c.copy_front-count.result c.self.inside.bytes.items c.copy_front-count.new.to
    (c.copy_front-count.ensures.copied ∙ ap (take c.copy_front-count.result) (c.split_at.ensures.back ∙ ap (drop c.self.inside.at) c.deref.ensures.value))
