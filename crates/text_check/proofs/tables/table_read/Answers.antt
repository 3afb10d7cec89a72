use Rattle.std.proofs.Common.{[], Option, Some, subst}
use Rattle.std.specs.Prelude.{◌≡◌, MatchOption}
use Rattle.std.proofs.lemmas.Result.{IfOk-weaker}
use Rattle.row_types.specs.declared.table_schema.Schema.{Schema}
use Rattle.file_text.specs.declared.places.Section.TheVariants.{TableLines}
use Rattle.line_items.specs.Readings.{IsReading}
use Rattle.line_values.specs.Tables.{schema_in}
use Rattle.text_check.specs.Checks.{IsNoTable, IsTableLine}
use Rattle.text_check.proofs.TableLemmas.{is_table, over_no_table, misfit_no_table}
use Rattle.text_check.proofs.tables.table_read.Goals as goal

pub returns-in-Whole : goal.returns-in-Whole
returns-in-Whole c line short opens h =
    IfOk-weaker c.table_of.result (λ (told : Option Schema). told ≡ Some (schema_in c.in-Whole.items.items)) (λ (told : Option Schema). MatchOption told (IsNoTable line) (λ schema. IsTableLine line schema))
    (λ told. is_table c.whole_lines_say.ensures line c.in-Whole.items.items told short opens (subst (IsReading TableLines [] line) c.in-Whole.is h)) c.table_of.ensures

pub returns-in-Over : goal.returns-in-Over
returns-in-Over c line short opens h = over_no_table line _ (subst (IsReading TableLines [] line) c.in-Over.is h)

pub returns-in-Misfit : goal.returns-in-Misfit
returns-in-Misfit c line short opens h = misfit_no_table line _ (subst (IsReading TableLines [] line) c.in-Misfit.is h)
