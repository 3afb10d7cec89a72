-- What a good line is known to be: in order, and behind sections that rise.
use Rattle.std.proofs.Common.{◌≡◌, ◌<◌, ◌≤◌, ℕ, Bool, true, false, List, [], ◌∷◌, ◌++◌, Option, Some, None, refl, sym, ap, subst, ◌∙◌, arith, inl, inr, leb, leb-true, leb-false}
use Rattle.std.specs.Prelude.{◌||◌}
use Rattle.std.specs.List.{flat_map}
use Rattle.std.proofs.lemmas.Bool.Decides.{nat_tests}
use Rattle.row_types.specs.declared.table_schema.Schema.{Schema}
use Rattle.file_text.specs.declared.places.Section.{Section}
use Rattle.file_text.specs.declared.places.Section.TheVariants.{ReplicaLines, TableLines, RowLines}
use Rattle.file_text.specs.declared.faults.LimitKind.TheVariants.{Tables}
use Rattle.file_text.specs.declared.faults.LineCause.TheVariants.{Order, Twice}
use Rattle.file_text.specs.Said.{Said, Replicas, TableOf, RowOf, section_of}
use Rattle.file_text.specs.Context.{schema_said, schemas_of, replicas_said, replicas_of, section_at, same_section, is_there, rank}
use Rattle.file_text.specs.Rules.{Opens}
use Rattle.file_text.specs.Causes.{OfLimit, OfLine, IsInOrder, IsGood, at_or_behind, tables_in}
use Rattle.file_text.specs.File.{row_said}
use Rattle.file_laws.proofs.FitLemmas.{some_is, none_some}
use Rattle.file_laws.proofs.SaidLemmas.{view, View, IsSkip, IsOfStep, IsOfSection}
use Rattle.file_laws.proofs.TestLemmas.{either, le_true}
use Rattle.cause_laws.proofs.MoreLemmas.{newest, section_more, there_more}
use Rattle.line_checks.specs.declared.marks.Marks.{Marks}
use Rattle.line_checks.specs.MarksOf.{IsMarked, in_order}
use Rattle.line_checks.proofs.OrderLemmas.{is_in_order, out_of_order}
use Rattle.file_state.specs.Keeps.{is_no_later, IsRising}

pub opens_of : (section : Section) (before : List Said) (line : List ℕ) (said : Said) → section_of said ≡ Some section → IsGood before line said → Opens section line
opens_of section before line said e g = cases (view before line said g.says)
  where
    cases : View before line said → Opens section line
    cases (IsSkip s k) = absurd (none_some (section_of said) section (ap section_of s) e)
    cases (IsOfStep step s k) = absurd (none_some (section_of said) section (ap section_of s) e)
    cases (IsOfSection s) = subst (λ (x : Section). Opens x line) (some_is s.0 section (sym s.1.of ∙ e)) s.1.opens

pub good_order : (section : Section) (before : List Said) (line : List ℕ) (said : Said) (marks : Marks) → IsMarked marks before → section_of said ≡ Some section → IsGood before line said → IsInOrder before section
good_order section before line said marks m e g = by_test (in_order section marks) refl
  where
    by_test : (b : Bool) → in_order section marks ≡ b → IsInOrder before section
    by_test true t = is_in_order marks before section m t
    by_test false t = absurd (g.good (OfLine Order) (record { section = section; opens = opens_of section before line said e g; breaks = out_of_order marks before section m t }))

-- ---- sections that rise

same_rank : (s t : Section) → same_section s (Some t) ≡ true → rank s ≡ rank t
same_rank s t e = grind (arith, nat_tests, e)

no_later : (last : Option Section) (section next : Section) → is_no_later last section ≡ true → at_or_behind last next ≡ true → rank section ≤ rank next
no_later None section next e f = absurd cc
no_later (Some last) section next e f = let a = leb-true (rank section) (rank last) e in let b = leb-true (rank last) (rank next) f in omega (arith, a, b)

rising_at : (before : List Said) (said : Said) (section next : Section) → section_of said ≡ Some next → IsRising before → at_or_behind (section_at before) next ≡ true → is_there section (before ++ said ∷ []) ≡ true
    → is_no_later (section_at (before ++ said ∷ [])) section ≡ true
rising_at before said section next e r o t =
    subst (λ (last : Option Section). is_no_later last section ≡ true) (sym (section_more before said ∙ ap (λ (x : Option Section). newest x (section_at before)) e))
    (le_true (rank section) (rank next) (elim (either (same_section section (section_of said)) (is_there section before) (sym (there_more section before said) ∙ t)) [
      | inl s ↦ let q = same_rank section next (ap (same_section section) (sym e) ∙ s) in omega (arith, q)
      | inr s ↦ no_later (section_at before) section next (r section s) o
    ]))

pub rising_more : (before : List Said) (said : Said) (next : Section) → section_of said ≡ Some next → IsRising before → IsInOrder before next → IsRising (before ++ said ∷ [])
rising_more before said next e r i section t = rising_at before said section next e r i.not_back t

no_section_more : (before : List Said) (said : Said) (section : Section) → section_of said ≡ None → is_there section (before ++ said ∷ []) ≡ is_there section before
no_section_more before said section e = there_more section before said ∙ ap (λ (x : Option Section). same_section section x || is_there section before) e

pub rising_stays : (before : List Said) (said : Said) → section_of said ≡ None → IsRising before → IsRising (before ++ said ∷ [])
rising_stays before said e r section t =
    subst (λ (last : Option Section). is_no_later last section ≡ true) (sym (section_more before said ∙ ap (λ (x : Option Section). newest x (section_at before)) e)) (r section (sym (no_section_more before said section e) ∙ t))

-- where a line of a section may come, none of a later one is there
pub none_there : (before : List Said) (section later : Section) → IsRising before → IsInOrder before section → rank section < rank later → is_there later before ≡ false
none_there before section later r i lt = by_test (is_there later before) refl
  where
    by_test : (b : Bool) → is_there later before ≡ b → is_there later before ≡ false
    by_test true e = let h = no_later (section_at before) later section (r later e) i.not_back in absurd (omega (arith, h, lt))
    by_test false e = e

or_false : (a b : Bool) → (a || b) ≡ false → (a ≡ false) × (b ≡ false)
or_false true b e = absurd cc
or_false false b e = (refl, e)

row_none : (said : Said) (node : ℕ) (table : List ℕ) → same_section RowLines (section_of said) ≡ false → row_said node table said ≡ []
row_none (RowOf which other literals) node table e = absurd cc
row_none _ node table e = refl

pub no_rows : (before : List Said) → is_there RowLines before ≡ false → (node : ℕ) (table : List ℕ) → flat_map (row_said node table) before ≡ []
no_rows [] e node table = refl
no_rows (said ∷ before) e node table =
    let p = or_false (same_section RowLines (section_of said)) (is_there RowLines before) e in
    ap (λ (l : List _). l ++ flat_map (row_said node table) before) (row_none said node table p.0) ∙ no_rows before p.1 node table

schema_none : (said : Said) → same_section TableLines (section_of said) ≡ false → schema_said said ≡ []
schema_none (TableOf name columns) e = absurd cc
schema_none _ e = refl

pub no_schemas : (before : List Said) → is_there TableLines before ≡ false → schemas_of before ≡ []
no_schemas [] e = refl
no_schemas (said ∷ before) e =
    let p = or_false (same_section TableLines (section_of said)) (is_there TableLines before) e in
    ap (λ (l : List Schema). l ++ schemas_of before) (schema_none said p.0) ∙ no_schemas before p.1

count_none : (said : Said) → same_section ReplicaLines (section_of said) ≡ false → replicas_said said ≡ 0
count_none (Replicas count) e = absurd cc
count_none _ e = refl

pub no_replicas : (before : List Said) → is_there ReplicaLines before ≡ false → replicas_of before ≡ 0
no_replicas [] e = refl
no_replicas (said ∷ before) e =
    let p = or_false (same_section ReplicaLines (section_of said)) (is_there ReplicaLines before) e in
    let a = count_none said p.0 in
    let b = no_replicas before p.1 in
    omega (arith, a, b)

-- a good REPLICAS line is the first
pub first_replicas : (before : List Said) (line : List ℕ) (count : ℕ) → IsGood before line (Replicas count) → is_there ReplicaLines before ≡ false
first_replicas before line count g = by_test (is_there ReplicaLines before) refl
  where
    by_test : (b : Bool) → is_there ReplicaLines before ≡ b → is_there ReplicaLines before ≡ false
    by_test true e = absurd (g.good (OfLine Twice) (record { said = Replicas count; says = g.says; wrong = e }))
    by_test false e = e

pub few_tables : (before : List Said) (line : List ℕ) (said : Said) → section_of said ≡ Some TableLines → IsGood before line said → tables_in before < 16
few_tables before line said e g = by_test (leb 16 (tables_in before)) refl
  where
    by_test : (b : Bool) → leb 16 (tables_in before) ≡ b → tables_in before < 16
    by_test true t = absurd (g.good (OfLimit Tables) (opens_of TableLines before line said e g, leb-true 16 (tables_in before) t))
    by_test false t = leb-false 16 (tables_in before) t
