-- On a source no turn of the tool tells that another's visit rolled its chunk back.
use Rattle.std.specs.Prelude.{ℕ, ◌≡◌, ◌≢◌, ◌≤◌, List}
use Rattle.std.specs.List.{AllByRecursion}
use Rattle.row_types.specs.declared.digests.DigestKind.{DigestKind}
use Rattle.row_types.specs.declared.table_schema.Schema.{Schema}
use Rattle.row_types.specs.KeyRows.{TableRows}
use Rattle.node_model.specs.declared.parts.Part.TheVariants.{Client}
use Rattle.node_model.specs.Calls.{Call, Begin, Start, Visit, Commit, Rollback, Publish, fresh_node}
use Rattle.checksum_tool.specs.declared.phases.ToolTurn.TheVariants.{Victim}
use Rattle.checksum_tool.specs.Tools.{tool_owner, new_tool}
use Rattle.checksum_tool.specs.Moves.{next_move}
use Rattle.checksum_tool_laws.specs.Courses.{Event, Own, Other, EventFits, after_events}

-- a call of another owner of a source, who applies no entries and does not roll the tool back
abbrev pub IsApart : Call → Type 0
IsApart (Begin other part) = part ≡ Client
IsApart (Start other statement) = Unit {0}
IsApart (Visit other) = Unit {0}
IsApart (Commit other origin) = Unit {0}
IsApart (Rollback other) = other.0 ≢ tool_owner.0
IsApart (Publish table chunk) = Unit {0}

abbrev pub EventApart : Event → Type 0
EventApart Own = Unit {0}
EventApart (Other call) = IsApart call

abbrev pub ToolIsNoVictim : Type 0
ToolIsNoVictim =
    (tables : ℕ) (kind : DigestKind) (retries : ℕ) (schemas : List Schema) (start : TableRows) (events : List Event) → 1 ≤ tables → AllByRecursion EventFits events → AllByRecursion EventApart events
    → (next_move
    (after_events events (record { tool = new_tool tables kind retries; node = fresh_node schemas start })).tool
    (after_events events (record { tool = new_tool tables kind retries; node = fresh_node schemas start })).node).turn
    ≢ Victim
