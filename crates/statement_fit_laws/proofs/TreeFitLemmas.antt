-- A whole tree without a fault leads from what is known at a spot to what is known behind it.
use Rattle.std.proofs.Common.{◌≡◌, ℕ, suc, ◌≤◌, ◌+◌, nat_lt, Bool, true, false, List, [], ◌∷◌, ◌++◌, Option, None, Some, refl, sym, ◌∙◌, ap, subst, inl, inr, arith}
use Rattle.std.specs.Prelude.{length, map, is_some, if◌then◌else◌}
use Rattle.std.specs.List.{slice_get}
use Rattle.row_types.specs.declared.table_schema.ColumnKind.{ColumnKind}
use Rattle.row_types.specs.declared.table_schema.ColumnKind.TheVariants.{Int as IntColumn, BigInt, Text as TextColumn}
use Rattle.row_types.specs.declared.table_schema.Column.{Column}
use Rattle.row_types.specs.declared.table_schema.Schema.{Schema}
use Rattle.ptc_statement.specs.declared.expressions.Expr.{Expr}
use Rattle.ptc_statement.specs.declared.conditions.Cond.{Cond}
use Rattle.ptc_statement.specs.declared.assignments.Assignment.{Assignment}
use Rattle.ptc_statement.specs.Fits as fit
use Rattle.ptc_statement.specs.Fits.{expr_height, cond_height, AssignmentFits, CondFits}
use Rattle.statement_tokens.specs.declared.words.Token.{Token}
use Rattle.statement_tokens.proofs.ReservedLemmas.{some_is}
use Rattle.statement_grammar.specs.declared.text_faults.TextFault.{TextFault}
use Rattle.statement_grammar.specs.declared.text_faults.TextFault.TheVariants.{UnknownColumn, TooDeep}
use Rattle.statement_grammar.specs.Grammar.{Shape, IsAt, tokens_of}
use Rattle.statement_grammar.specs.Cut.{Part, whole, len, cut, height}
use Rattle.statement_grammar.specs.Kinds.{Sort, OfNumber, OfText, OfAny, sort_of, sort_of_kind, sort_of_column, sort_of_number, differ, is_text, text_operand, when_true, begins_at, breaches, unknown_in, places}
use Rattle.statement_grammar.specs.Terms.{expression_of, condition_of, expr_in, cond_in, column_or_0}
use Rattle.statement_grammar.specs.Sentence.{Spot, CondDue, CondEnds, ExprDue, SetEnds, SelectCond, LockDue, tree_at, Keys, setting}
use Rattle.statement_grammar.specs.FirstFault.{keys_of}
use Rattle.statement_grammar.specs.Draft.{Draft, with_tree}
use Rattle.statement_grammar.specs.Faults.{kind_fault, deep_from, deep_in, condition_faults, assignment_breach, assignment_faults, tree_faults}
use Rattle.statement_grammar.proofs.BasicLemmas.{both, both_true, lt_no}
use Rattle.statement_grammar.proofs.CutLemmas.{take_all}
use Rattle.statement_grammar.proofs.SentenceLemmas.{tree_some}
use Rattle.statement_text_laws.specs.SpelledWords.{expr_spells, cond_spells}
use Rattle.statement_text_laws.specs.StatementWords.{assignment_spells, assignments_spell}
use Rattle.statement_round_trip.proofs.PlacedLemmas.{empty, neither, no_place}
use Rattle.statement_round_trip.proofs.DeepLemmas.{whole_cut}
use Rattle.statement_round_trip.proofs.KindLemmas.{is_a_number}
use Rattle.statement_fit_laws.proofs.PrintLemmas.{AllPrint}
use Rattle.statement_fit_laws.proofs.ExprFitLemmas.{ExprKnown, expr_known, no_text}
use Rattle.statement_fit_laws.proofs.CondFitLemmas.{CondKnown, cond_known}
use Rattle.statement_fit_laws.proofs.GoodLemmas.{Tabled, WhereOk, SetsOk, SomeSets, GivesTo, Good}
use Rattle.statement_fit_laws.proofs.EndFitLemmas.{delete_ends, update_ends}

-- ---- no fault

none_mapped : (f : ℕ → TextFault) (l : List ℕ) → map f l ≡ [] → l ≡ []
none_mapped f [] e = refl
none_mapped f (n ∷ l) e = cc

-- the last token of a tree is not too deep, so the tree is at most 64 high
last_low : (s : Shape) (n : ℕ) (ts : List Token) → deep_from s n ts ≡ [] → n + length ts ≡ len s → (ts ≡ [] → ⊥) → height (cut true (len s) s) ≤ 64
last_low s n [] e l some = absurd (some refl)
last_low s n (t ∷ []) e l some = let m : suc n ≡ len s = omega arith in subst (λ (k : ℕ). height (cut true k s) ≤ 64) m (by_test (nat_lt 64 (height (cut true (suc n) s))) refl e)
  where
    by_test : (b : Bool) → nat_lt 64 (height (cut true (suc n) s)) ≡ b → (if b then t.place ∷ [] else []) ≡ [] → height (cut true (suc n) s) ≤ 64
    by_test false f e = lt_no 64 (height (cut true (suc n) s)) f
    by_test true f e = cc
last_low s n (t ∷ u ∷ us) e l some = last_low s (suc n) (u ∷ us) (by_test (nat_lt 64 (height (cut false (suc n) s))) e) (omega arith) (λ f. cc)
  where
    by_test : (b : Bool) → (if b then t.place ∷ [] else deep_from s (suc n) (u ∷ us)) ≡ [] → deep_from s (suc n) (u ∷ us) ≡ []
    by_test false e = e
    by_test true e = cc

low : (key : Keys) (base : Bool) (s : Shape) → IsAt (setting base key) 1 base s → deep_in s (len s) ≡ [] → height (whole s) ≤ 64
low key base s is e =
    subst (λ (x : Part). height x ≤ 64) (whole_cut (setting base key) 1 base s is)
    (last_low s 0 (tokens_of s) (ap (deep_from s 0) (sym (take_all (len s) (tokens_of s) (omega arith))) ∙ e) (let a : 0 + len s ≡ len s = omega arith in a) (tree_some (setting base key) 1 base s is))

-- ---- conditions

cond_fits : (schema : Schema) (base : Bool) (s : Shape) → IsAt (setting base (keys_of schema)) 1 base s → true ≡ base → condition_faults schema (cut true (len s) s) (deep_in s (len s)) ≡ [] → AllPrint (tokens_of s)
    → CondFits schema (condition_of schema s) × (cond_spells schema (condition_of schema s) ≡ true)
cond_fits schema base s is b e p =
    let w = whole_cut (setting base (keys_of schema)) 1 base s is in
    let q = empty (map UnknownColumn (unknown_in schema (cut true (len s) s)) ++ map TooDeep (deep_in s (len s))) (map (kind_fault 0) (breaches schema (cut true (len s) s))) e in
    let r = empty (map UnknownColumn (unknown_in schema (cut true (len s) s))) (map TooDeep (deep_in s (len s))) q.0 in
    let u = ap (unknown_in schema) (sym w) ∙ none_mapped UnknownColumn (unknown_in schema (cut true (len s) s)) r.0 in
    let k = ap (breaches schema) (sym w) ∙ none_mapped (kind_fault 0) (breaches schema (cut true (len s) s)) q.1 in
    let h = low (keys_of schema) base s is (none_mapped TooDeep (deep_in s (len s)) r.1) in
    made_so (cond_known schema base 1 s (subst (λ (c : Bool). IsAt (setting base (keys_of schema)) 1 c s) (sym b) is) u) k h
  where
    made_so : CondKnown schema s → breaches schema (whole s) ≡ [] → height (whole s) ≤ 64 → CondFits schema (condition_of schema s) × (cond_spells schema (condition_of schema s) ≡ true)
    made_so i k h =
        let same : i.condition ≡ condition_of schema s = sym (ap cond_in i.is) in (
          record { kinds = subst (λ (c : Cond). fit.is_sound schema c ≡ true) same (i.sound k); height = subst (λ (c : Cond). cond_height c ≤ 64) same (subst (λ (n : ℕ). n ≤ 64) (sym i.high) h) },
          subst (λ (c : Cond). cond_spells schema c ≡ true) same (i.spells p),
        )

-- ---- assignments

-- an expression that breaks no rule is of the column's kind
kind_is : (schema : Schema) (column : Column) (s : Shape) (i : ExprKnown schema s) → text_operand schema (whole s) ≡ None → differ (sort_of_kind column.kind) (sort_of schema (whole s)) ≡ false → fit.is_of_kind schema column.kind i.expr ≡ true
kind_is schema column s i o d = by_kind column.kind d
  where
    number : (t : Sort) → differ OfNumber t ≡ false → is_text t ≡ false
    number OfNumber e = refl
    number OfText e = cc
    number OfAny e = refl

    text : (t : Sort) → differ OfText t ≡ false → is_a_number t ≡ false
    text OfNumber e = cc
    text OfText e = refl
    text OfAny e = refl

    by_kind : (kind : ColumnKind) → differ (sort_of_kind kind) (sort_of schema (whole s)) ≡ false → fit.is_of_kind schema kind i.expr ≡ true
    by_kind IntColumn d = i.numbers o (number (sort_of schema (whole s)) d)
    by_kind BigInt d = i.numbers o (number (sort_of schema (whole s)) d)
    by_kind (TextColumn max) d = i.texts o (text (sort_of schema (whole s)) d)

assignment_fits : (schema : Schema) (n : ℕ) (s : Shape) → IsAt (setting false (keys_of schema)) 1 false s → GivesTo (Some schema) (Some n) → assignment_faults schema (Some n) (cut true (len s) s) (deep_in s (len s)) ≡ [] → AllPrint (tokens_of s)
    → AssignmentFits schema (record { column = n; expr = expression_of schema s }) × (assignment_spells schema (record { column = n; expr = expression_of schema s }) ≡ true)
assignment_fits schema n s is g e p =
    let w = whole_cut (setting false (keys_of schema)) 1 false s is in
    let q = empty (map UnknownColumn (unknown_in schema (cut true (len s) s)) ++ map TooDeep (deep_in s (len s))) (map (kind_fault n) (places (assignment_breach schema (Some n) (cut true (len s) s)))) e in
    let r = empty (map UnknownColumn (unknown_in schema (cut true (len s) s))) (map TooDeep (deep_in s (len s))) q.0 in
    let u = ap (unknown_in schema) (sym w) ∙ none_mapped UnknownColumn (unknown_in schema (cut true (len s) s)) r.0 in
    let k = ap (assignment_breach schema (Some n)) (sym w) ∙ no_place (assignment_breach schema (Some n) (cut true (len s) s)) (none_mapped (kind_fault n) (places (assignment_breach schema (Some n) (cut true (len s) s))) q.1) in
    made_so (expr_known schema (setting false (keys_of schema)) 1 s is u) k (low (keys_of schema) false s is (none_mapped TooDeep (deep_in s (len s)) r.1))
  where
    made_so : ExprKnown schema s → assignment_breach schema (Some n) (whole s) ≡ None → height (whole s) ≤ 64
        → AssignmentFits schema (record { column = n; expr = expression_of schema s }) × (assignment_spells schema (record { column = n; expr = expression_of schema s }) ≡ true)
    made_so i k h =
        let same : i.expr ≡ expression_of schema s = sym (ap expr_in i.is) in
        let b = neither (text_operand schema (whole s)) (when_true (differ (sort_of_number schema (Some n)) (sort_of schema (whole s))) (begins_at (whole s))) k in
        let d = ap (λ (o : Option Column). differ (sort_of_column o) (sort_of schema (whole s))) (sym g.1.1) ∙ no_text (differ (sort_of_number schema (Some n)) (sort_of schema (whole s))) (begins_at (whole s)) b.1 in (
          record {
            behind_key = g.0;
            column = g.1.0;
            found = g.1.1;
            kind = subst (λ (x : Expr). fit.is_of_kind schema g.1.0.kind x ≡ true) same (kind_is schema g.1.0 s i b.0 d);
            height = subst (λ (x : Expr). expr_height x ≤ 64) same (subst (λ (m : ℕ). m ≤ 64) (sym i.high) h);
          },
          both_true (is_some (slice_get schema.columns n)) (expr_spells schema (expression_of schema s)) (ap is_some g.1.1) (subst (λ (x : Expr). expr_spells schema x ≡ true) same (i.spells p)),
        )

all_more : (schema : Schema) (sets : List Assignment) (assignment : Assignment) → SetsOk (Some schema) sets → AssignmentFits schema assignment → assignment_spells schema assignment ≡ true → SetsOk (Some schema) (sets ++ assignment ∷ [])
all_more schema [] assignment h f s = ((f, tt), both_true (assignment_spells schema assignment) true s refl)
all_more schema (a ∷ sets) assignment h f s =
    let q = both (assignment_spells schema a) (assignments_spell schema sets) h.1 in
    let i = all_more schema sets assignment (h.0.1, q.1) f s in ((h.0.0, i.0), both_true (assignment_spells schema a) (assignments_spell schema (sets ++ assignment ∷ [])) q.0 i.1)

some_more : (sets : List Assignment) (assignment : Assignment) → SomeSets (sets ++ assignment ∷ [])
some_more [] assignment = tt
some_more (a ∷ sets) assignment = tt

-- ---- each spot where a tree is due

-- a condition behind WHERE, where the table is known
where_ok : (schemas : List Schema) (key : Keys) (table : ℕ) (known : Option Schema) (base : Bool) (s : Shape) (t : Tabled schemas key table known) → IsAt (setting base key) 1 base s → true ≡ base
    → condition_faults t.schema (cut true (len s) s) (deep_in s (len s)) ≡ [] → AllPrint (tokens_of s) → WhereOk known (Some (condition_of t.schema s))
where_ok schemas key table known base s t is b e p =
    subst (λ (o : Option Schema). WhereOk o (Some (condition_of t.schema s))) (sym t.is) (cond_fits t.schema base s (subst (λ (k : Keys). IsAt (setting base k) 1 base s) t.keys is) b e p)

cond_good : (schemas : List Schema) (key : Keys) (name : List ℕ) (d : Draft) (s : Shape) (t : Tabled schemas key d.table d.schema) → WhereOk d.schema (Some (condition_of t.schema s)) → Good schemas key name CondDue d → Good schemas key name CondEnds (with_tree d.schema CondDue d s)
cond_good schemas key name d s t ok g = subst (λ (o : Option Schema). Good schemas key name CondEnds (with_tree o CondDue d s)) (sym t.is) (by_form g)
  where
    by_form : Good schemas key name CondDue d → Good schemas key name CondEnds (record d { where_true = Some (condition_of t.schema s) })
    by_form (inl g) = delete_ends schemas key (record d { where_true = Some (condition_of t.schema s) }) g ok
    by_form (inr g) = update_ends schemas key (record d { where_true = Some (condition_of t.schema s) }) (g.0.0, g.0.1, ok, g.0.3) g.1

cond_table : (schemas : List Schema) (key : Keys) (name : List ℕ) (d : Draft) → Good schemas key name CondDue d → Tabled schemas key d.table d.schema
cond_table schemas key name d (inl g) = g.0
cond_table schemas key name d (inr g) = g.0.0

-- without a fault over the schema that is known
over : (known : Option Schema) (schema : Schema) (spot : Spot) (d : Draft) (s : Shape) → known ≡ Some schema → tree_faults known spot d s (len s) ≡ [] → tree_faults (Some schema) spot d s (len s) ≡ []
over known schema spot d s e f = ap (λ (o : Option Schema). tree_faults o spot d s (len s)) (sym e) ∙ f

expr_good : (schemas : List Schema) (key : Keys) (name : List ℕ) (d : Draft) (s : Shape) → IsAt (setting false key) 1 false s → tree_faults d.schema ExprDue d s (len s) ≡ [] → AllPrint (tokens_of s)
    → Good schemas key name ExprDue d → Good schemas key name SetEnds (with_tree d.schema ExprDue d s)
expr_good schemas key name d s is e p g =
    subst (λ (o : Option Schema). Good schemas key name SetEnds (with_tree o ExprDue d s)) (sym t.is)
    (by_column d.column refl (subst (λ (o : Option Schema). GivesTo o d.column) t.is g.1) (over d.schema t.schema ExprDue d s t.is e))
  where
    t : Tabled schemas key d.table d.schema
    t = g.0.0

    at : IsAt (setting false (keys_of t.schema)) 1 false s
    at = subst (λ (k : Keys). IsAt (setting false k) 1 false s) t.keys is

    by_column : (column : Option ℕ) → d.column ≡ column → GivesTo (Some t.schema) column → assignment_faults t.schema d.column (cut true (len s) s) (deep_in s (len s)) ≡ []
        → Good schemas key name SetEnds (record d { sets = d.sets ++ record { column = column_or_0 d.column; expr = expression_of t.schema s } ∷ [] })
    by_column None f h e = absurd h
    by_column (Some n) f h e =
        let i = assignment_fits t.schema n s at h (ap (λ (o : Option ℕ). assignment_faults t.schema o (cut true (len s) s) (deep_in s (len s))) (sym f) ∙ e) p in
        let ok : SetsOk (Some t.schema) (d.sets ++ record { column = n; expr = expression_of t.schema s } ∷ []) = all_more t.schema d.sets (record { column = n; expr = expression_of t.schema s }) (subst (λ (o : Option Schema). SetsOk o d.sets) t.is g.0.3) i.0 i.1 in
        let back : SetsOk d.schema (d.sets ++ record { column = n; expr = expression_of t.schema s } ∷ []) = subst (λ (o : Option Schema). SetsOk o (d.sets ++ record { column = n; expr = expression_of t.schema s } ∷ [])) (sym t.is) ok in
        ((g.0.0, g.0.1, g.0.2, subst (λ (o : Option ℕ). SetsOk d.schema (d.sets ++ record { column = column_or_0 o; expr = expression_of t.schema s } ∷ [])) (sym f) back), some_more d.sets (record { column = column_or_0 d.column; expr = expression_of t.schema s }))

due : (spot next to : Spot) (base b : Bool) → tree_at spot ≡ Some (b, to) → tree_at spot ≡ Some (base, next) → (b ≡ base) × (to ≡ next)
due spot next to base b e f =
    let h : (b, to) ≡ (base, next) = some_is (b, to) (base, next) (sym e ∙ f) in (ap (λ (p : Bool × Spot). p.0) h, ap (λ (p : Bool × Spot). p.1) h)

pub tree_good : (schemas : List Schema) (key : Keys) (before name : List ℕ) (spot : Spot) (d : Draft) (base : Bool) (next : Spot) (s : Shape) → tree_at spot ≡ Some (base, next) → IsAt (setting base key) 1 base s → tree_faults d.schema spot d s (len s) ≡ []
    → AllPrint (tokens_of s) → Good schemas key before spot d → Good schemas key name next (with_tree d.schema spot d s)
tree_good schemas key before name CondDue d base next s e is f p g =
    let q = due CondDue next CondEnds base true refl e in
    let t = cond_table schemas key before d g in
    subst (λ (n : Spot). Good schemas key name n (with_tree d.schema CondDue d s)) q.1
    (cond_good schemas key name d s t (where_ok schemas key d.table d.schema base s t is q.0 (over d.schema t.schema CondDue d s t.is f) p) g)
tree_good schemas key before name SelectCond d base next s e is f p g =
    let q = due SelectCond next LockDue base true refl e in
    let t = g.0 in
    subst (λ (n : Spot). Good schemas key name n (with_tree d.schema SelectCond d s)) q.1
    (subst (λ (o : Option Schema). Good schemas key name LockDue (with_tree o SelectCond d s)) (sym t.is) (g.0, g.1, where_ok schemas key d.table d.schema base s t is q.0 (over d.schema t.schema SelectCond d s t.is f) p))
tree_good schemas key before name ExprDue d base next s e is f p g =
    let q = due ExprDue next SetEnds base false refl e in
    subst (λ (n : Spot). Good schemas key name n (with_tree d.schema ExprDue d s)) q.1
    (expr_good schemas key name d s (subst (λ (b : Bool). IsAt (setting b key) 1 b s) (sym q.0) is) f p g)
tree_good schemas key before name _ d base next s e is f p g = cc
