-- What a node keeps after one more entry.
use Rattle.std.proofs.Common.{◌≡◌, ℕ, ◌+◌, List, [], ◌∷◌, ◌++◌, length, ap, sym, ◌∙◌}
use Rattle.row_types.specs.declared.values.Value.{Value}
use Rattle.row_types.specs.declared.table_schema.Schema.{Schema}
use Rattle.statement_log.specs.declared.entries.Entry.{Entry}
use Rattle.history.specs.Replay.{Replayed, after_statements, after_entry, fold, position_of}
use Rattle.history.proofs.ReplayLemmas.{fold_more}

-- the replay of a history with one more entry
pub log_keeps : (schemas : List Schema) (start : List (List (List Value))) (history new : List Entry) (entry : Entry) (number position : ℕ) (here after : Replayed)
    → fold schemas start history ≡ here
    → number ≡ length history
    → position ≡ position_of (number + 1) entry.origin
    → after ≡ after_statements schemas position entry.statements here
    → new ≡ history ++ entry ∷ []
    → fold schemas start new ≡ after
log_keeps schemas start history new entry number position here after replayed counted at changed grown =
    let place : position_of (length history + 1) entry.origin ≡ position =
    ap (λ n. position_of (n + 1) entry.origin) (sym counted) ∙ sym at in
    ap (fold schemas start) grown
    ∙ fold_more schemas start history entry
    ∙ ap (after_entry schemas (length history + 1) entry) replayed
    ∙ ap (λ p. after_statements schemas p entry.statements here) place
    ∙ sym changed
