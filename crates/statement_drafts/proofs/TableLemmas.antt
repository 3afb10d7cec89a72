-- Tables are looked up by name.
use Rattle.std.proofs.Common.{◌≡◌, ℕ, suc, ◌+◌, Bool, true, false, List, [], ◌∷◌, Option, Some, None, refl, sym, ap, ◌∙◌, arith, add-one, add-zero, zero-add}
use Rattle.std.specs.Prelude.{slice_get, if◌then◌else◌}
use Rattle.std.specs.Option.{option_map}
use Rattle.std.specs.Str.{bytes_eq}
use Rattle.row_types.specs.declared.table_schema.Schema.{Schema}
use Rattle.statement_grammar.specs.Grammar.{same_bytes}
use Rattle.statement_grammar.specs.Draft as the
use Rattle.statement_grammar.specs.Draft.{table_from, with_table}
use Rattle.statement_reader.proofs.NameLemmas.{same_is}
use Rattle.statement_drafts.specs.Drafts.{draft_of}
use Rattle.statement_drafts.specs.Tables.{is_none}
use Rattle.statement_drafts.specs.declared.drafts.Draft.{Draft}

some_is : {A : Type 0} (x y : A) → Some x ≡ Some y → x ≡ y
some_is x y e = cc

abbrev number : Option (ℕ × Schema) → Option ℕ
number o = option_map (λ (found : ℕ × Schema). found.0) o

pub found_here : (n : ℕ) (schema : Schema) (schemas : List Schema) (name : List ℕ) (found : Option ℕ) → bytes_eq schema.name name ≡ true → number (table_from n (schema ∷ schemas) name) ≡ found → Some n ≡ found
found_here n schema schemas name found is e = sym (rw (same_is schema.name name, is) refl) ∙ e

skipped : (n : ℕ) (schema : Schema) (schemas : List Schema) (name : List ℕ) → bytes_eq schema.name name ≡ false → table_from n (schema ∷ schemas) name ≡ table_from (suc n) schemas name
skipped n schema schemas name is = rw (same_is schema.name name, is) refl

pub found_later : (n : ℕ) (schema : Schema) (schemas : List Schema) (name : List ℕ) (found : Option ℕ) → bytes_eq schema.name name ≡ false → number (table_from n (schema ∷ schemas) name) ≡ found → number (table_from (n + 1) schemas name) ≡ found
found_later n schema schemas name found is e = ap (λ (m : ℕ). number (table_from m schemas name)) (add-one n) ∙ sym (ap number (skipped n schema schemas name is)) ∙ e

-- the schema that was found stands at its number
at_number : (n : ℕ) (schemas : List Schema) (name : List ℕ) (found : ℕ × Schema) → table_from n schemas name ≡ Some found → (j : ℕ) × (found.0 ≡ n + j) × (slice_get schemas j ≡ Some found.1)
at_number n [] name found e = cc
at_number n (schema ∷ schemas) name found e = elim (same_bytes schema.name name) as (λ b. (if b then Some (n, schema) else table_from (suc n) schemas name) ≡ Some found → (j : ℕ) × (found.0 ≡ n + j) × (slice_get (schema ∷ schemas) j ≡ Some found.1)) [
  | true ↦ λ d. let f : (n, schema) ≡ found = some_is (n, schema) found d in (0, ap (λ (p : ℕ × Schema). p.0) (sym f) ∙ sym (add-zero n), ap (λ (p : ℕ × Schema). Some p.1) f)
  | false ↦ λ d. let i = at_number (suc n) schemas name found d in (suc i.0, i.1 ∙ shifted n i.0, i.2)
] e
  where
    shifted : (n j : ℕ) → suc n + j ≡ n + suc j
    shifted n j = omega arith

table_at : (schemas : List Schema) (name : List ℕ) (found : ℕ × Schema) → table_from 0 schemas name ≡ Some found → slice_get schemas found.0 ≡ Some found.1
table_at schemas name found e =
    let i = at_number 0 schemas name found e in
    let same : found.0 ≡ i.0 = i.1 ∙ zero-add i.0 in ap (λ (n : ℕ). slice_get schemas n) same ∙ i.2

by_found : (schemas : List Schema) (name : List ℕ) (old new : Draft) (n : ℕ) (o : Option (ℕ × Schema)) → table_from 0 schemas name ≡ o → Some n ≡ number o → new ≡ record old { table = Some n } → draft_of schemas new ≡ with_table (draft_of schemas old) o
by_found schemas name old new n None t e r = cc
by_found schemas name old new n (Some found) t e r =
    let same : n ≡ found.0 = some_is n found.0 e in
    ap (draft_of schemas) r
    ∙ ap (λ (k : ℕ). record (draft_of schemas old) { table = k; schema = slice_get schemas k }) same
    ∙ ap (λ (s : Option Schema). record (draft_of schemas old) { table = found.0; schema = s }) (table_at schemas name found t)

pub with_named : (schemas : List Schema) (name : List ℕ) (old new : Draft) (n : ℕ) → Some n ≡ number (table_from 0 schemas name) → new ≡ record old { table = Some n } → draft_of schemas new ≡ with_table (draft_of schemas old) (table_from 0 schemas name)
with_named schemas name old new n e r = by_found schemas name old new n (table_from 0 schemas name) refl e r

none_by : (d : the.Draft) (o : Option (ℕ × Schema)) → None ≡ number o → d ≡ with_table d o
none_by d None e = refl
none_by d (Some found) e = cc

pub with_none : (schemas : List Schema) (name : List ℕ) (old : Draft) → None ≡ number (table_from 0 schemas name) → draft_of schemas old ≡ with_table (draft_of schemas old) (table_from 0 schemas name)
with_none schemas name old e = none_by (draft_of schemas old) (table_from 0 schemas name) e

none_is : (o : Option (ℕ × Schema)) → None ≡ number o → true ≡ is_none o
none_is None e = refl
none_is (Some found) e = cc

pub no_table : (schemas : List Schema) (name : List ℕ) → None ≡ number (table_from 0 schemas name) → true ≡ is_none (table_from 0 schemas name)
no_table schemas name e = none_is (table_from 0 schemas name) e

some_too : (o : Option (ℕ × Schema)) (n : ℕ) → Some n ≡ number o → false ≡ is_none o
some_too None n e = cc
some_too (Some found) n e = refl

pub a_table : (schemas : List Schema) (name : List ℕ) (n : ℕ) → Some n ≡ number (table_from 0 schemas name) → false ≡ is_none (table_from 0 schemas name)
a_table schemas name n e = some_too (table_from 0 schemas name) n e
