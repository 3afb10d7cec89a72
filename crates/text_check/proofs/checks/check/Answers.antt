use Rattle.std.proofs.Common.{List, [], Option, sym, subst}
use Rattle.std.proofs.lemmas.Result.{IfOk-weaker}
use Rattle.std.specs.Prelude.{MatchOption}
use Rattle.row_types.specs.declared.table_schema.Schema.{Schema}
use Rattle.text_check.specs.Checks.{AreAnswers, IsChecked, IsNoTable, IsTableLine, texts_of}
use Rattle.text_check.proofs.AnswerLemmas.{ChecksOn, first_text, table_read, tables_end, tables_alone}
use Rattle.text_check.proofs.checks.check.Goals as goal

pub loop-line-preserved : goal.loop-line-preserved
loop-line-preserved c =
    let at = c.loop-line in
    let line = c.content.result.now in
    let told : IsTableLine line c.in-Some-2.schema = subst (λ (t : Option Schema). MatchOption t (IsNoTable line) (λ schema. IsTableLine line schema)) c.in-Some-2.is c.in_ok-table_in.ensures in
    subst (λ (tables : List Schema). ChecksOn (texts_of c.args.text.now) tables (texts_of c.in-Some.more.now)) (sym c.in_ok-push-in-Some-2.ensures.ok)
    (table_read (texts_of c.args.text.now) at.tables c.in-Some-2.schema line (texts_of at.rest.now) (texts_of c.in-Some.more.now) (first_text at.rest.now c.in-Some.line.now line c.in-Some.more.now c.in-Some.ensures.0 c.content.ensures) told at.invariant)

pub returns-in-None : goal.returns-in-None
returns-in-None c =
    let at = c.loop-line in
    let line = c.content.result.now in
    let whole = texts_of c.args.text.now in
    let none : IsNoTable line = subst (λ (t : Option Schema). MatchOption t (IsNoTable line) (λ schema. IsTableLine line schema)) c.in-None.is c.in_ok-table_in.ensures in
    IfOk-weaker c.answers.result (λ out. AreAnswers at.tables (texts_of at.rest.now) out.items) (λ out. IsChecked [] whole out.items)
    (λ out k. tables_end whole at.tables line (texts_of at.rest.now) (texts_of c.in-Some.more.now) out.items (first_text at.rest.now c.in-Some.line.now line c.in-Some.more.now c.in-Some.ensures.0 c.content.ensures) none at.invariant k) c.answers.ensures

pub returns : goal.returns
returns c =
    let whole = texts_of c.args.text.now in
    subst (IsChecked [] whole) (sym c.new.ensures.items) (tables_alone whole c.loop-line.tables c.loop-line.rest.now c.in_default.ensures c.loop-line.invariant)
