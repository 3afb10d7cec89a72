-- What notes keep.
use Rattle.std.specs.Prelude.{◌≤◌, ◌+◌, vec_len, vec_capacity}
use Rattle.node_parts.specs.declared.notes.Notes.TheInside.{Inside}
use Rattle.node_parts.specs.NotesView.{NotesView}

abbrev pub notes_view : Inside → NotesView
notes_view notes = record { notes = notes.notes.items; spare = notes.spare }

-- there is room for the spare notes
abbrev pub HasRoom : Inside → Type 0
HasRoom notes = vec_len notes.notes + notes.spare ≤ vec_capacity notes.notes
