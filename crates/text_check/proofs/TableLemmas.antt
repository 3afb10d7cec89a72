-- What a TABLE line says.
use Rattle.std.proofs.Common.{◌≡◌, ◌≤◌, ◌<◌, ℕ, List, [], ◌∷◌, Option, Some, refl, sym, subst, length, arith}
use Rattle.std.specs.Prelude.{MatchOption}
use Rattle.row_types.specs.declared.table_schema.Schema.{Schema}
use Rattle.file_text.specs.declared.places.Section.{Section}
use Rattle.file_text.specs.declared.places.Section.TheVariants.{TableLines}
use Rattle.file_text.specs.declared.places.Keyword.TheVariants.{First}
use Rattle.file_text.specs.declared.faults.LimitKind.{LimitKind}
use Rattle.file_text.specs.Said.{Said, Skipped, Header, Isolation, Replicas, TableOf, RowOf, SessionOf, LocalOf, StepOf, Schedule, End, ColumnText, Word, section_of, behind_first}
use Rattle.file_text.specs.Rules.{IsSkipped, Opens, OpensNone, IsWritten, Says, parts_in}
use Rattle.file_laws.proofs.FitLemmas.{whole_fits}
use Rattle.file_laws.proofs.SaidLemmas.{one_section}
use Rattle.line_items.specs.declared.found_items.LineItem.{LineItem}
use Rattle.line_items.specs.Readings.{Exceeds, IsWholeLine, IsMisfitAt}
use Rattle.line_values.specs.Tables.{schema_in}
use Rattle.line_values.specs.Lines.{WholeLineSays, Gives}
use Rattle.text_check.specs.Checks.{IsTableLine, IsNoTable}

said_table : (said : Said) → section_of said ≡ Some TableLines → (name : List ℕ) × (columns : List ColumnText) × (said ≡ TableOf name columns)
said_table Skipped e = absurd (cc e)
said_table (Header version) e = absurd (cc e)
said_table (Isolation level) e = absurd (cc e)
said_table (Replicas count) e = absurd (cc e)
said_table (TableOf name columns) e = (name, columns, refl)
said_table (RowOf node table literals) e = absurd (cc e)
said_table (SessionOf session) e = absurd (cc e)
said_table (LocalOf replica session) e = absurd (cc e)
said_table (StepOf step) e = absurd (cc e)
said_table (Schedule words) e = absurd (cc e)
said_table End e = absurd (cc e)

pub is_table : WholeLineSays → (line : List ℕ) (items : List LineItem) (told : Option Schema) → length line ≤ 65535 → Opens TableLines line → IsWholeLine TableLines [] (parts_in TableLines line) items → told ≡ Some (schema_in items)
    → MatchOption told (IsNoTable line) (λ schema. IsTableLine line schema)
is_table law line items told short opens h is =
    let s = law TableLines [] line items short opens h in
    let said = said_table s.said s.of in
    subst (λ (t : Option Schema). MatchOption t (IsNoTable line) (λ schema. IsTableLine line schema)) (sym is) (record {
      short = short;
      name = said.0;
      columns = said.1;
      says = subst (Says [] line) said.2 s.says;
      under = h.under;
      is = (subst (λ (x : Said). Gives x items) said.2 s.gives).is;
    })

some_is : (a b : Section) → Some a ≡ Some b → a ≡ b
some_is a b e = cc e

-- the section of a TABLE line
written : (line : List ℕ) (schema : Schema) (is : IsTableLine line schema) → IsWritten TableLines [] line (TableOf is.name is.columns)
written line schema is = subst (λ (s : Section). IsWritten s [] line (TableOf is.name is.columns)) (sym (some_is TableLines is.says.0 is.says.1.of)) is.says.1

pub over_no_table : (line : List ℕ) (which : LimitKind) → Exceeds TableLines [] (parts_in TableLines line) which → IsNoTable line
over_no_table line which e schema is = is.under which e

pub misfit_no_table : (line : List ℕ) (place : ℕ) → IsMisfitAt TableLines [] line place → IsNoTable line
misfit_no_table line place m schema is =
    let w = written line schema is in
    whole_fits TableLines [] (parts_in TableLines line) m.fitting m.left m.misfit (Word (First TableLines) ∷ behind_first (TableOf is.name is.columns)) (record { said = TableOf is.name is.columns; of = refl; form = w.form; written = refl }) w.spelled w.in_range m.fits

pub long_no_table : (line : List ℕ) → 65535 < length line → IsNoTable line
long_no_table line long schema is = let short = is.short in absurd (omega arith)

pub skipped_no_table : (line : List ℕ) → IsSkipped line → IsNoTable line
skipped_no_table line skipped schema is = absurd (cc (skipped, (written line schema is).opens.counts))

pub unopened_no_table : (line : List ℕ) → OpensNone line → IsNoTable line
unopened_no_table line none schema is = absurd (cc (none.none, (written line schema is).opens.first))

pub other_no_table : (section : Section) (line : List ℕ) → (section ≡ TableLines → ⊥) → Opens section line → IsNoTable line
other_no_table section line other opens schema is = other (one_section section TableLines line opens (written line schema is).opens)
