-- Notes as callers see them.
use Rattle.std.specs.Prelude.{ℕ, ◌==◌, not, filter, List}
use Rattle.node_parts.specs.declared.notes.Note.{Note}

-- the notes in the order of the changes, and how many more can be made without memory
pub record NotesView : Type 0 where
  pub notes : List Note
  pub spare : ℕ

-- the notes without those of an owner
abbrev pub forgotten : ℕ → List Note → List Note
forgotten owner notes = filter (λ (note : Note). not (note.owner.0 == owner)) notes
