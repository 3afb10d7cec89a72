use Rattle.std.proofs.Common.{◌≡◌, ◌≤◌, ◌∙◌, Some, None, sym, subst, length}
use Rattle.file_text.specs.Said.{Said}
use Rattle.line_decisions.specs.Decides.{Decides}
use Rattle.line_values.specs.Lines.{Gives}
use Rattle.file_state.specs.Keeps.{LeadsTo}
use Rattle.file_text.specs.declared.places.Section.TheVariants.{TableLines}
use Rattle.row_types.specs.Fit.{IsSchema}
use Rattle.row_types.specs.declared.table_schema.Schema.{Schema}
use Rattle.line_values.specs.Tables.{schema_in}
use Rattle.line_takes.proofs.TakeLemmas.{table_only, refused, went_on}
use Rattle.line_takes.proofs.RowLemmas.{table_schema}
use Rattle.line_takes.proofs.table_lines.take_table.Goals as goal

pub take_table-requires-clause-kept : goal.take_table-requires-clause-kept
take_table-requires-clause-kept c = record { before = c.requires.before; keeps = c.requires.keeps }

pub take_table-requires-clause-schema : goal.take_table-requires-clause-schema
take_table-requires-clause-schema c =
    let same : c.in_ok-schema.schema ≡ schema_in c.args.items.now = c.in_ok-schema.ensures in
    subst IsSchema (sym same) (table_schema c.args.state.now c.args.line.now c.args.items.now c.requires).schema

pub take_table-requires-clause-few : goal.take_table-requires-clause-few
take_table-requires-clause-few c =
    let same : c.in_ok-schema.schema ≡ schema_in c.args.items.now = c.in_ok-schema.ensures in
    subst (λ (x : Schema). length x.columns ≤ 16) (sym same) (table_schema c.args.state.now c.args.line.now c.args.items.now c.requires).few

pub returns-in-Some : goal.returns-in-Some
returns-in-Some c = λ before k l.
    let same : c.in_ok-schema.schema ≡ schema_in c.args.items.now = c.in_ok-schema.ensures in
    refused TableLines before c.args.line.now c.args.items.now c.in-Some.fault l
    (λ said of gives. table_only (λ (s : Said). Gives s c.args.items.now → Decides TableLines before c.args.line.now s (Some c.in-Some.fault)) said of (λ name columns g. c.in-Some.ensures before c.args.line.now name columns k.marked k.rows (same ∙ g.is)) gives)

pub returns-in_ok-take_table-in-None : goal.returns-in_ok-take_table-in-None
returns-in_ok-take_table-in-None c = λ before k l.
    let same : c.in_ok-schema.schema ≡ schema_in c.args.items.now = c.in_ok-schema.ensures in
    went_on TableLines before c.args.line.now c.args.items.now c.args.state.now c.take_table.new.self k l
    (λ said of gives. record {
      decided = table_only (λ (s : Said). Gives s c.args.items.now → Decides TableLines before c.args.line.now s None) said of (λ name columns g. c.in-None.ensures before c.args.line.now name columns k.marked k.rows (same ∙ g.is)) gives;
      leads = table_only (λ (s : Said). Gives s c.args.items.now → LeadsTo s c.args.state.now c.take_table.new.self) said of (λ name columns g. c.in_ok-take_table-in-None.ensures name columns (same ∙ g.is)) gives;
    })
