-- The first fault of a tree, from the facts of what is read of it.
use Rattle.std.proofs.Common.{◌≡◌, ℕ, Bool, true, false, List, Option, Some, None, refl, sym, ap, ◌∙◌}
use Rattle.std.specs.Prelude.{map}
use Rattle.std.specs.Option.{option_or, option_map}
use Rattle.row_types.specs.declared.table_schema.Schema.{Schema}
use Rattle.statement_grammar.specs.declared.text_faults.TextFault.{TextFault}
use Rattle.statement_grammar.specs.declared.text_faults.TextFault.TheVariants.{UnknownColumn, TooDeep}
use Rattle.statement_grammar.specs.Grammar.{Shape}
use Rattle.statement_grammar.specs.Cut.{Part, cut}
use Rattle.statement_grammar.specs.Kinds as kinds
use Rattle.statement_grammar.specs.Kinds.{places, when_true, sort_of, sort_of_number, text_operand, begins_at, breaches, unknown_in}
use Rattle.statement_grammar.specs.Sentence.{Spot, ExprDue}
use Rattle.statement_grammar.specs.Draft.{Draft}
use Rattle.statement_grammar.specs.Faults.{column_or_0, kind_fault, common_faults, condition_faults, assignment_breach, assignment_faults, part_faults, tree_faults, deep_in}
use Rattle.statement_grammar.specs.FirstFault.{first_of}
use Rattle.statement_reader.specs.Facts.{as_sort, least_of, sorts_differ, facts_of}
use Rattle.statement_reader.specs.declared.facts.Facts.{Facts}
use Rattle.statement_faults.specs.TreeFaults.{merged, is_expression, breach_at, first_by}
use Rattle.statement_faults.proofs.MergeLemmas.{first_of_both, first_of_places}

least_one : (place : Option ℕ) → least_of (places place) ≡ place
least_one None = refl
least_one (Some n) = refl

differ_is : (a b : kinds.Sort) → kinds.differ a b ≡ sorts_differ (as_sort a) (as_sort b)
differ_is kinds.OfNumber kinds.OfNumber = refl
differ_is kinds.OfNumber kinds.OfText = refl
differ_is kinds.OfNumber kinds.OfAny = refl
differ_is kinds.OfText kinds.OfNumber = refl
differ_is kinds.OfText kinds.OfText = refl
differ_is kinds.OfText kinds.OfAny = refl
differ_is kinds.OfAny kinds.OfNumber = refl
differ_is kinds.OfAny kinds.OfText = refl
differ_is kinds.OfAny kinds.OfAny = refl

breach_is : (schema : Schema) (column : Option ℕ) (x : Part) → assignment_breach schema column x ≡ breach_at schema column (facts_of schema x)
breach_is schema column x = ap (λ (b : Bool). option_or (text_operand schema x) (when_true b (begins_at x))) (differ_is (sort_of_number schema column) (sort_of schema x))

kinds_first : (n : ℕ) (us : List ℕ) → first_of (map (kind_fault n) us) ≡ option_map (kind_fault n) (least_of us)
kinds_first n us = first_of_places (kind_fault n) 7 us (λ k. refl) (λ k. refl)

common_first : (schema : Schema) (x : Part) (deep : Option ℕ) → first_of (common_faults schema x (places deep)) ≡ merged (option_map UnknownColumn (facts_of schema x).unknown) (option_map TooDeep deep)
common_first schema x deep =
    first_of_both (map UnknownColumn (unknown_in schema x)) (map TooDeep (places deep))
    ∙ ap (λ (o : Option TextFault). merged o (first_of (map TooDeep (places deep)))) (first_of_places UnknownColumn 2 (unknown_in schema x) (λ k. refl) (λ k. refl))
    ∙ ap (λ (o : Option TextFault). merged (option_map UnknownColumn (least_of (unknown_in schema x))) o) (first_of_places TooDeep 10 (places deep) (λ k. refl) (λ k. refl))
    ∙ ap (λ (o : Option ℕ). merged (option_map UnknownColumn (least_of (unknown_in schema x))) (option_map TooDeep o)) (least_one deep)

condition_first : (schema : Schema) (column : Option ℕ) (x : Part) (deep : Option ℕ) → first_of (condition_faults schema x (places deep)) ≡ first_by false schema column (facts_of schema x) deep
condition_first schema column x deep =
    first_of_both (common_faults schema x (places deep)) (map (kind_fault 0) (breaches schema x))
    ∙ ap (λ (o : Option TextFault). merged o (first_of (map (kind_fault 0) (breaches schema x)))) (common_first schema x deep)
    ∙ ap (merged (merged (option_map UnknownColumn (facts_of schema x).unknown) (option_map TooDeep deep))) (kinds_first 0 (breaches schema x))

assignment_first : (schema : Schema) (column : Option ℕ) (x : Part) (deep : Option ℕ) → first_of (assignment_faults schema column x (places deep)) ≡ first_by true schema column (facts_of schema x) deep
assignment_first schema column x deep =
    first_of_both (common_faults schema x (places deep)) (map (kind_fault (column_or_0 column)) (places (assignment_breach schema column x)))
    ∙ ap (λ (o : Option TextFault). merged o (first_of (map (kind_fault (column_or_0 column)) (places (assignment_breach schema column x))))) (common_first schema x deep)
    ∙ ap (merged (merged (option_map UnknownColumn (facts_of schema x).unknown) (option_map TooDeep deep))) (kinds_first (column_or_0 column) (places (assignment_breach schema column x)) ∙ ap (option_map (kind_fault (column_or_0 column))) (least_one (assignment_breach schema column x) ∙ breach_is schema column x))

part_first : (schema : Schema) (spot : Spot) (draft : Draft) (x : Part) (deep : Option ℕ) → first_of (part_faults (Some schema) spot draft x (places deep)) ≡ first_by (is_expression spot) schema draft.column (facts_of schema x) deep
part_first schema ExprDue draft x deep = assignment_first schema draft.column x deep
part_first schema _ draft x deep = condition_first schema draft.column x deep

pub tree_first : (schema : Schema) (spot : Spot) (column deep : Option ℕ) (facts : Facts) (draft : Draft) (s : Shape) (n : ℕ) → draft.column ≡ column → facts ≡ facts_of schema (cut true n s) → places deep ≡ deep_in s n
    → first_by (is_expression spot) schema column facts deep ≡ first_of (tree_faults (Some schema) spot draft s n)
tree_first schema spot column deep facts draft s n c f d =
    ap (λ (o : Option ℕ). first_by (is_expression spot) schema o facts deep) (sym c)
    ∙ ap (λ (y : Facts). first_by (is_expression spot) schema draft.column y deep) f
    ∙ sym (part_first schema spot draft (cut true n s) deep)
    ∙ ap (λ (us : List ℕ). first_of (part_faults (Some schema) spot draft (cut true n s) us)) d
