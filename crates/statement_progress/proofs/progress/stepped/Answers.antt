use Rattle.std.proofs.Common.{◌≡◌, ◌++◌, ◌∷◌, List, [], Option, Some, None, sym, subst, ap, ◌∙◌, length}
use Rattle.std.specs.Prelude.{◌<◌, ◌^◌, Ok, Err, Bool}
use Rattle.row_types.specs.declared.table_schema.Schema.{Schema}
use Rattle.statement_reader.specs.Spots.{spot_of}
use Rattle.statement_trees.specs.Trees.{IsStep, IsStopped, IsReading}
use Rattle.statement_reading.specs.Readers.{reading_of}
use Rattle.statement_reading.specs.TreeEnds.{IsTreeEnd}
use Rattle.statement_reading_laws.proofs.ReadingLemmas.{ready}
use Rattle.statement_progress.specs.Progress.{GoesOn, IsWithin}
use Rattle.statement_progress.proofs.ProgressLemmas.{steps_at, used_short, enters_or_not, goes_on, ends_before}
use Rattle.statement_tokens.specs.declared.words.Token.{Token}
use Rattle.statement_grammar.specs.Begins.{Begins}
use Rattle.statement_grammar.specs.FirstFault.{keys_in}
use Rattle.statement_drafts.specs.Drafts.{schema_at}
use Rattle.statement_trees.specs.Trees.{tree_setting}
use Rattle.statement_reading.specs.Readers.{used}
use Rattle.statement_progress.proofs.progress.stepped.Goals as goal

pub returns-in-Moved : goal.returns-in-Moved
returns-in-Moved c key front rest ts t h i e =
    goes_on c.args.schemas.now.tables c.args.nothing.now key front c.args.reader c.args.base c.args.next ts t c.in-Moved.tree c.requires.nothing h
    (subst (IsStep (used c.args.nothing.now (schema_at c.args.schemas.now.tables c.args.reader.draft.table)) c.args.base ts t) c.in-Moved.is i)

pub returns-in-Stuck : goal.returns-in-Stuck
returns-in-Stuck c key front rest ts t h i e =
    let s = subst (IsStep (used c.args.nothing.now (schema_at c.args.schemas.now.tables c.args.reader.draft.table)) c.args.base ts t) c.in-Stuck.is i in
    subst (λ (x : Token). GoesOn c.args.schemas.now.tables c.args.nothing.now key front x rest c.behind.result) s.token
    (c.behind.ensures key front rest ts h s.stopped
    (subst (λ (x : Token). Begins (tree_setting (used c.args.nothing.now (schema_at c.args.schemas.now.tables c.args.reader.draft.table)) c.args.base) (ts ++ x ∷ []) → ⊥) (sym s.token) s.none)
    (subst (λ (x : Token). key ≡ keys_in c.args.schemas.now.tables (front ++ (x ∷ rest))) (sym s.token) e))
