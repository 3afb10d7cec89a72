-- The commit of a CHECKSUM and the publication of a checksum, as the tool makes them; and that its statements fit.
use Rattle.std.proofs.Common.{◌≡◌, ◌∙◌, ℕ, zero, suc, ◌<◌, true, false, List, [], ◌∷◌, Option, None, Some, length, refl, ap, sym, arith, length-append}
use Rattle.std.specs.Prelude.{is_some, IsSome}
use Rattle.std.specs.List.{slice_get}
use Rattle.row_types.specs.declared.edges.Span.{Span}
use Rattle.row_types.specs.declared.digests.DigestKind.{DigestKind}
use Rattle.row_types.specs.declared.table_schema.Schema.{Schema}
use Rattle.ptc_statement.specs.declared.statements.Statement.TheVariants.{Check, SetMaster, ClearChecks}
use Rattle.ptc_statement.specs.Fits.{FitsSchemas}
use Rattle.statement_log.specs.declared.origins.Origin.TheVariants.{Checksum}
use Rattle.checksum_table.specs.declared.check_rows.CheckRow.{CheckRow}
use Rattle.checksum_table.specs.Checks.{check_at}
use Rattle.history.specs.Replay.{fold}
use Rattle.node_model.specs.declared.txns.Txn.{Txn}
use Rattle.node_model.specs.Txns.{txn_of}
use Rattle.node_model.specs.Node.{NodeView}
use Rattle.node_model.specs.Calls.{after_call, published, Publish as PublishCall}
use Rattle.node_engine.specs.Commits.{answer_written, commit_answer}
use Rattle.checksum_tool.specs.Tools.{ToolView, tool_owner, mastered_tool}
use Rattle.checksum_tool.specs.Moves.{next_position, master_move, choose_move}
use Rattle.checksum_tool.specs.declared.phases.ToolTurn.TheVariants.{Mastered}

-- the tool's commit writes an entry
pub check_written : (node : NodeView) → is_some (txn_of tool_owner.0 node.txns) ≡ true → commit_answer tool_owner.0 Checksum node ≡ Some (next_position node)
check_written node begun = at (txn_of tool_owner.0 node.txns) begun
  where
    at : (o : Option Txn) → is_some o ≡ true → answer_written Checksum o node ≡ Some (next_position node)
    at None e = absurd (let q : false ≡ true = e in cc)
    at (Some txn) e = refl

published_at : (table chunk : ℕ) (found : Option CheckRow) (node : NodeView) → IsSome found → length (published table chunk found node).history ≡ next_position node
published_at table chunk None node there = absurd (let q : false ≡ true = there in cc)
published_at table chunk (Some row) node there =
    length-append node.history (record { origin = Checksum; statements = SetMaster table chunk row.kind row.this ∷ [] } ∷ [])

-- a publication, and the turn that it is
pub published_turn : (tool : ToolView) (node new : NodeView) (position : ℕ) → IsSome (check_at tool.table tool.chunk (fold node.schemas node.start node.history).checks)
    → new ≡ after_call (PublishCall tool.table tool.chunk) node → position ≡ length new.history
    → record { turn = Mastered position; tool = mastered_tool position tool; node = new }
    ≡ master_move (check_at tool.table tool.chunk (fold node.schemas node.start node.history).checks) tool node
published_turn tool node new position there is at_end =
    (λ i. record { turn = Mastered (same i); tool = mastered_tool (same i) tool; node = is i })
    ∙ sym (masters (check_at tool.table tool.chunk (fold node.schemas node.start node.history).checks) there)
  where
    same : position ≡ next_position node
    same =
        at_end ∙ ap (λ (n : NodeView). length n.history) is
        ∙ published_at tool.table tool.chunk (check_at tool.table tool.chunk (fold node.schemas node.start node.history).checks) node there

    masters : (found : Option CheckRow) → IsSome found
        → master_move found tool node ≡ record { turn = Mastered (next_position node); tool = mastered_tool (next_position node) tool; node = after_call (PublishCall tool.table tool.chunk) node }
    masters None there = absurd (let q : false ≡ true = there in cc)
    masters (Some row) there = refl

-- without a check row the chunk is chosen
pub chosen_turn : (tool : ToolView) (node : NodeView) (found : Option CheckRow) → found ≡ None → master_move found tool node ≡ choose_move tool node
chosen_turn tool node found none = ap (λ (o : Option CheckRow). master_move o tool node) none

-- a statement of the tool fits where its table is one of the node's

pub record There (schemas : List Schema) (table : ℕ) : Type 0 where
  pub schema : Schema
  pub found : slice_get schemas table ≡ Some schema

there : (schemas : List Schema) (table : ℕ) → table < length schemas → There schemas table
there [] table within = absurd (omega arith)
there (schema ∷ schemas) zero within = record { schema = schema; found = refl }
there (schema ∷ schemas) (suc table) within =
    let more : There schemas table = there schemas table (omega arith) in
    record { schema = more.schema; found = more.found }

pub clear_fits : (schemas : List Schema) (table : ℕ) → table < length schemas → FitsSchemas schemas (ClearChecks table)
clear_fits schemas table within =
    let is : There schemas table = there schemas table within in
    record { schema = is.schema; found = is.found; fits = tt }

pub check_fits : (schemas : List Schema) (table chunk : ℕ) (span : Span) (kind : DigestKind) → table < length schemas → FitsSchemas schemas (Check table chunk span kind)
check_fits schemas table chunk span kind within =
    let is : There schemas table = there schemas table within in
    record { schema = is.schema; found = is.found; fits = tt }
