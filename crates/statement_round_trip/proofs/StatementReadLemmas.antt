-- The words of a statement are read as that statement.
use Rattle.std.proofs.Common.{◌≡◌, ℕ, ◌≤◌, nat_lt, Bool, true, false, List, [], ◌∷◌, ◌++◌, Option, None, Some, refl, sym, ◌∙◌, ap, subst, arith, append_assoc, append-nil}
use Rattle.std.specs.Prelude.{is_some, length, if◌then◌else◌}
use Rattle.std.specs.List.{slice_get, AllByRecursion}
use Rattle.std.proofs.lemmas.Bool.Decides.{nat_tests}
use Rattle.row_types.specs.declared.values.Value.{Value}
use Rattle.row_types.specs.declared.edges.Edge.TheVariants as edge
use Rattle.row_types.specs.declared.edges.Span.{Span}
use Rattle.row_types.specs.declared.lock_modes.LockMode.{LockMode}
use Rattle.row_types.specs.declared.lock_modes.LockMode.TheVariants.{Shared, Exclusive}
use Rattle.row_types.specs.declared.table_schema.ColumnKind.{ColumnKind}
use Rattle.row_types.specs.declared.table_schema.ColumnKind.TheVariants.{Int as IntColumn, BigInt, Text as TextColumn}
use Rattle.row_types.specs.declared.table_schema.Column.{Column}
use Rattle.row_types.specs.declared.table_schema.Schema.{Schema}
use Rattle.row_types.specs.Fit.{RowFits, IsSchema}
use Rattle.ptc_statement.specs.declared.expressions.Op.TheVariants as op
use Rattle.ptc_statement.specs.declared.expressions.Expr.{Expr}
use Rattle.ptc_statement.specs.declared.conditions.Cond.{Cond}
use Rattle.ptc_statement.specs.declared.assignments.Assignment.{Assignment}
use Rattle.ptc_statement.specs.declared.statements.Statement.{Statement}
use Rattle.ptc_statement.specs.declared.statements.Statement.TheVariants.{Delete, Update, LockRead}
use Rattle.ptc_statement.specs.Fits as fit
use Rattle.ptc_statement.specs.Fits.{AssignmentFits, CondFits, WhereFits}
use Rattle.statement_tokens.specs.declared.words.Math.TheVariants.{Times}
use Rattle.statement_tokens.specs.declared.words.Keyword.TheVariants as k
use Rattle.statement_tokens.specs.declared.words.Word.{Word}
use Rattle.statement_tokens.specs.declared.words.Word.TheVariants as w
use Rattle.statement_grammar.specs.declared.text_faults.TextFault.TheVariants.{KeyAssigned}
use Rattle.statement_grammar.specs.Grammar.{Shape, IsAt, tokens_of}
use Rattle.statement_grammar.specs.Cut.{whole, height}
use Rattle.statement_grammar.specs.Kinds.{Sort, OfNumber, OfText, OfAny, sort_of, sort_of_kind, sort_of_column, sort_of_number, differ, is_text, text_operand, when_true, begins_at, unknown_in, breaches, column_named}
use Rattle.statement_grammar.specs.Terms.{condition_of, expr_in, cond_in}
use Rattle.statement_grammar.specs.Sentence.{Spot, StatementDue, IntoDue, IntoTable, ValuesDue, OpenDue, FromDue, DeleteTable, WhereDue, CondDue, CondEnds, UpdateTable, SetDue, ColumnDue, EqualsDue, ExprDue, SetEnds, StarDue, SelectFrom, SelectTable, SelectWhere, SelectCond, LockDue, ForDue, EndDue, OfRow, Keys, setting, one, may_end}
use Rattle.statement_grammar.specs.FirstFault.{keys_of}
use Rattle.statement_grammar.specs.Draft.{with_token, with_tree, Form, DeleteForm, UpdateForm, ReadForm, Draft, nothing_known, table_from, with_table, said_as}
use Rattle.statement_grammar.specs.Faults.{token_faults, tree_faults, table_fault, assigned_fault, assignment_breach}
use Rattle.statement_text_laws.specs.Canonical.{name_at, expr_tree, cond_tree}
use Rattle.statement_text_laws.specs.SpelledWords.{words_of, expr_spells, cond_spells}
use Rattle.statement_text_laws.specs.StatementWords.{row_words, where_words, assignment_words, assignments_words_on, assignments_words, lock_words, statement_words, values_spell, where_spells, assignment_spells, assignments_spell, sets_spell}
use Rattle.statement_text_laws.proofs.CanonicalLemmas.{exprs_are_read_back}
use Rattle.statement_text_laws.proofs.ConditionLemmas.{conds_are_read_back}
use Rattle.statement_round_trip.specs.RoundTrip.{HasOwnNames}
use Rattle.statement_round_trip.proofs.NameLemmas.{own_column}
use Rattle.statement_round_trip.proofs.PlacedLemmas.{Same, none_of}
use Rattle.statement_round_trip.proofs.KindLemmas.{is_a_number, never, expr_is_right}
use Rattle.statement_round_trip.proofs.CondKindLemmas.{cond_is_right}
use Rattle.statement_round_trip.proofs.ReadLemmas.{Reads, at_end, step, tree, cond_right, expr_right}
use Rattle.statement_round_trip.proofs.ValueReadLemmas.{row_read}
use Rattle.statement_grammar.proofs.BasicLemmas.{both}

-- ---- the table

abbrev named : Draft → ℕ → Schema → Draft
named draft table schema = record draft { table = table; schema = Some schema }

abbrev pub Found : List Schema → ℕ → Schema → Type 0
Found schemas table schema = table_from 0 schemas schema.name ≡ Some (table, schema)

pub known : (schemas : List Schema) (table : ℕ) (schema : Schema) → Found schemas table schema → (place : ℕ) → table_fault (table_from 0 schemas schema.name) place ≡ []
known schemas table schema f place = ap (λ (o : Option (ℕ × Schema)). table_fault o place) f

pub naming : (schemas : List Schema) (table : ℕ) (schema : Schema) (draft : Draft) → Found schemas table schema → with_table draft (table_from 0 schemas schema.name) ≡ named draft table schema
naming schemas table schema draft f = ap (with_table draft) f

-- ---- WHERE

cond_tree_right : (schemas : List Schema) (schema : Schema) (spot : Spot) (draft : Draft) (condition : Cond) → HasOwnNames schema → CondFits schema condition → cond_spells schema condition ≡ true
    → (r : Shape) → Same (cond_tree schema condition) r
    → IsAt (setting true (keys_of schema)) 1 true r × (height (whole r) ≤ 64) × (unknown_in schema (whole r) ≡ []) × (breaches schema (whole r) ≡ []) × (condition_of schema r ≡ condition)
cond_tree_right schemas schema spot draft condition names fits h r same =
    let i = cond_is_right schema names condition h in
    let b = conds_are_read_back schema condition (i.read fits.kinds) in
    (same.stands (setting true (keys_of schema)) 1 true b.stands, subst (λ (n : ℕ). n ≤ 64) (sym (same.high ∙ i.height_is)) fits.height, same.known schema i.known, same.kinds schema (i.kinds fits.kinds), ap cond_in (same.means schema) ∙ b.means)

-- a condition behind WHERE; two spots take one
delete_where : (schemas : List Schema) (schema : Schema) (draft : Draft) (condition : Cond) (words : List Word) (statement : Statement) → draft.schema ≡ Some schema → HasOwnNames schema → CondFits schema condition → cond_spells schema condition ≡ true
    → Reads schemas (keys_of schema) CondEnds (record draft { where_true = Some condition }) words statement
    → Reads schemas (keys_of schema) CondDue draft (words_of (tokens_of (cond_tree schema condition)) ++ words) statement
delete_where schemas schema draft condition words statement e names fits h more =
    tree schemas (keys_of schema) CondDue draft (record draft { where_true = Some condition }) true CondEnds (cond_tree schema condition) words statement refl
    (λ r same. let i = cond_tree_right schemas schema CondDue draft condition names fits h r same in record {
      stands = i.0;
      right = ap (λ (o : Option Schema). tree_faults o CondDue draft r (length (tokens_of r))) e ∙ cond_right schema (keys_of schema) true r i.0 i.1 i.2 i.3;
      says = ap (λ (o : Option Schema). with_tree o CondDue draft r) e ∙ ap (λ (c : Cond). record draft { where_true = Some c }) i.4;
    }) more

select_where : (schemas : List Schema) (schema : Schema) (draft : Draft) (condition : Cond) (words : List Word) (statement : Statement) → draft.schema ≡ Some schema → HasOwnNames schema → CondFits schema condition → cond_spells schema condition ≡ true
    → Reads schemas (keys_of schema) LockDue (record draft { where_true = Some condition }) words statement
    → Reads schemas (keys_of schema) SelectCond draft (words_of (tokens_of (cond_tree schema condition)) ++ words) statement
select_where schemas schema draft condition words statement e names fits h more =
    tree schemas (keys_of schema) SelectCond draft (record draft { where_true = Some condition }) true LockDue (cond_tree schema condition) words statement refl
    (λ r same. let i = cond_tree_right schemas schema SelectCond draft condition names fits h r same in record {
      stands = i.0;
      right = ap (λ (o : Option Schema). tree_faults o SelectCond draft r (length (tokens_of r))) e ∙ cond_right schema (keys_of schema) true r i.0 i.1 i.2 i.3;
      says = ap (λ (o : Option Schema). with_tree o SelectCond draft r) e ∙ ap (λ (c : Cond). record draft { where_true = Some c }) i.4;
    }) more

-- ---- assignments

not_key : (schema : Schema) (n : ℕ) → schema.key_len ≤ n → nat_lt n schema.key_len ≡ false
not_key schema n h = grind (arith, nat_tests)

-- an expression of the column's kind breaks no rule
unbroken : (schema : Schema) (column : ℕ) (found : Column) (expr : Expr) (r : Shape) → HasOwnNames schema → expr_spells schema expr ≡ true → Same (expr_tree schema expr) r → slice_get schema.columns column ≡ Some found
    → fit.is_of_kind schema found.kind expr ≡ true → assignment_breach schema (Some column) (whole r) ≡ None
unbroken schema column found expr r names h same f of = by_kind found.kind refl of
  where
    calm : (d : Bool) → text_operand schema (whole (expr_tree schema expr)) ≡ None → differ (sort_of_column (slice_get schema.columns column)) (sort_of schema (whole r)) ≡ d → d ≡ false → assignment_breach schema (Some column) (whole r) ≡ None
    calm d o e g =
        none_of (text_operand schema (whole r)) (when_true (differ (sort_of_number schema (Some column)) (sort_of schema (whole r))) (begins_at (whole r))) (same.operand schema o)
        (never (differ (sort_of_number schema (Some column)) (sort_of schema (whole r))) (begins_at (whole r)) (e ∙ g))

    sorts : (kind : ColumnKind) → found.kind ≡ kind → differ (sort_of_column (slice_get schema.columns column)) (sort_of schema (whole r)) ≡ differ (sort_of_kind kind) (sort_of schema (whole (expr_tree schema expr)))
    sorts kind e = ap (λ (o : Option Column). differ (sort_of_column o) (sort_of schema (whole r))) f ∙ ap (λ (c : ColumnKind). differ (sort_of_kind c) (sort_of schema (whole r))) e ∙ ap (differ (sort_of_kind kind)) (same.sort schema)

    number : (s : Sort) → is_text s ≡ false → differ OfNumber s ≡ false
    number OfNumber e = refl
    number OfText e = cc
    number OfAny e = refl

    text : (s : Sort) → is_a_number s ≡ false → differ OfText s ≡ false
    text OfNumber e = cc
    text OfText e = refl
    text OfAny e = refl

    by_kind : (kind : ColumnKind) → found.kind ≡ kind → fit.is_of_kind schema kind expr ≡ true → assignment_breach schema (Some column) (whole r) ≡ None
    by_kind IntColumn e of = let i = (expr_is_right schema names expr h).numbers of in calm (differ OfNumber (sort_of schema (whole (expr_tree schema expr)))) i.operand (sorts IntColumn e) (number (sort_of schema (whole (expr_tree schema expr))) i.sort)
    by_kind BigInt e of = let i = (expr_is_right schema names expr h).numbers of in calm (differ OfNumber (sort_of schema (whole (expr_tree schema expr)))) i.operand (sorts BigInt e) (number (sort_of schema (whole (expr_tree schema expr))) i.sort)
    by_kind (TextColumn max) e of = let i = (expr_is_right schema names expr h).texts of in calm (differ OfText (sort_of schema (whole (expr_tree schema expr)))) i.operand (sorts (TextColumn max) e) (text (sort_of schema (whole (expr_tree schema expr))) i.sort)

-- what is known of an UPDATE so far
abbrev setting_so : ℕ → Schema → List Assignment → Option ℕ → Draft
setting_so table schema sets column = record nothing_known { form = UpdateForm; table = table; schema = Some schema; sets = sets; column = column }

assignment_read : (schemas : List Schema) (table : ℕ) (schema : Schema) (sets : List Assignment) (last : Option ℕ) (assignment : Assignment) (words : List Word) (statement : Statement)
    → HasOwnNames schema → AssignmentFits schema assignment → assignment_spells schema assignment ≡ true
    → Reads schemas (keys_of schema) SetEnds (setting_so table schema (sets ++ assignment ∷ []) (Some assignment.column)) words statement
    → Reads schemas (keys_of schema) ColumnDue (setting_so table schema sets last) (assignment_words schema assignment ++ words) statement
assignment_read schemas table schema sets last assignment words statement names fits h more =
    let q = both (is_some (slice_get schema.columns assignment.column)) (expr_spells schema assignment.expr) h in
    let found : column_named schema (name_at schema assignment.column) ≡ Some assignment.column = own_column schema assignment.column names q.0 in
    let draft = setting_so table schema sets (Some assignment.column) in
    step schemas (keys_of schema) ColumnDue (setting_so table schema sets last) (setting_so table schema sets (Some assignment.column)) (w.Name (name_at schema assignment.column))
    (w.Compare op.Eq ∷ (words_of (tokens_of (expr_tree schema assignment.expr)) ++ words)) statement EqualsDue refl
    (λ place. ap (λ (o : Option ℕ). assigned_fault schema o place) found ∙ ap (λ (b : Bool). if b then KeyAssigned place ∷ [] else []) (not_key schema assignment.column fits.behind_key))
    (λ place. ap (setting_so table schema sets) found)
    (step schemas (keys_of schema) EqualsDue (setting_so table schema sets (Some assignment.column)) (setting_so table schema sets (Some assignment.column)) (w.Compare op.Eq) (words_of (tokens_of (expr_tree schema assignment.expr)) ++ words) statement ExprDue refl (λ place. refl) (λ place. refl)
    (tree schemas (keys_of schema) ExprDue (setting_so table schema sets (Some assignment.column)) (setting_so table schema (sets ++ assignment ∷ []) (Some assignment.column)) false SetEnds (expr_tree schema assignment.expr) words statement refl
    (λ r same. let i = expr_is_right schema names assignment.expr q.1 in
    let b = exprs_are_read_back schema assignment.expr i.read in
    let is = same.stands (setting false (keys_of schema)) 1 false (b.stands (setting false (keys_of schema))) in record {
      stands = is;
      right = expr_right schema (keys_of schema) false (Some assignment.column) r is (subst (λ (n : ℕ). n ≤ 64) (sym (same.high ∙ i.height_is)) fits.height) (same.known schema i.known)
          (unbroken schema assignment.column fits.column assignment.expr r names q.1 same fits.found fits.kind);
      says = ap (λ (x : Expr). setting_so table schema (sets ++ record { column = assignment.column; expr = x } ∷ []) (Some assignment.column)) (ap expr_in (same.means schema) ∙ b.means);
    }) more))

assignments_read : (schemas : List Schema) (table : ℕ) (schema : Schema) (sets : List Assignment) (last : Option ℕ) (assignments : List Assignment) (words : List Word) (statement : Statement)
    → HasOwnNames schema → AllByRecursion (AssignmentFits schema) assignments → assignments_spell schema assignments ≡ true
    → ((column : Option ℕ) → Reads schemas (keys_of schema) SetEnds (setting_so table schema (sets ++ assignments) column) words statement)
    → Reads schemas (keys_of schema) SetEnds (setting_so table schema sets last) (assignments_words_on schema assignments ++ words) statement
assignments_read schemas table schema sets last [] words statement names fits h more = subst (λ (l : List Assignment). Reads schemas (keys_of schema) SetEnds (setting_so table schema l last) words statement) (append-nil sets) (more last)
assignments_read schemas table schema sets last (assignment ∷ assignments) words statement names fits h more =
    let q = both (assignment_spells schema assignment) (assignments_spell schema assignments) h in
    step schemas (keys_of schema) SetEnds (setting_so table schema sets last) (setting_so table schema sets last) w.Comma ((assignment_words schema assignment ++ assignments_words_on schema assignments) ++ words) statement ColumnDue refl (λ place. refl) (λ place. refl)
    (subst (λ (ws : List Word). Reads schemas (keys_of schema) ColumnDue (setting_so table schema sets last) ws statement) (sym (append_assoc (assignment_words schema assignment) (assignments_words_on schema assignments) words))
    (assignment_read schemas table schema sets last assignment (assignments_words_on schema assignments ++ words) statement names fits.0 q.0
    (assignments_read schemas table schema (sets ++ assignment ∷ []) (Some assignment.column) assignments words statement names fits.1 q.1
    (λ column. subst (λ (l : List Assignment). Reads schemas (keys_of schema) SetEnds (setting_so table schema l column) words statement) (sym (append_assoc sets (assignment ∷ []) assignments)) (more column)))))

-- ---- clients' statements

pub row_statement : (schemas : List Schema) (table : ℕ) (schema : Schema) (form : Form) (row : List Value) (statement : Statement) → Found schemas table schema → IsSchema schema → RowFits schema row → values_spell row ≡ true
    → said_as form (record nothing_known { form = form; table = table; schema = Some schema; values = row }) ≡ statement
    → Reads schemas (keys_of schema) IntoDue (record nothing_known { form = form }) (w.Keyword k.Into ∷ w.Name schema.name ∷ w.Keyword k.Values ∷ row_words row) statement
row_statement schemas table schema form row statement f is fits h said =
    step schemas (keys_of schema) IntoDue (record nothing_known { form = form }) (record nothing_known { form = form }) (w.Keyword k.Into) (w.Name schema.name ∷ w.Keyword k.Values ∷ row_words row) statement IntoTable refl (λ place. refl) (λ place. refl)
    (step schemas (keys_of schema) IntoTable (record nothing_known { form = form }) (named (record nothing_known { form = form }) table schema) (w.Name schema.name) (w.Keyword k.Values ∷ row_words row) statement ValuesDue refl
    (known schemas table schema f) (λ place. naming schemas table schema (record nothing_known { form = form }) f)
    (step schemas (keys_of schema) ValuesDue (named (record nothing_known { form = form }) table schema) (named (record nothing_known { form = form }) table schema) (w.Keyword k.Values) (row_words row) statement (OpenDue OfRow) refl (λ place. refl) (λ place. refl)
    (subst (λ (ws : List Word). Reads schemas (keys_of schema) (OpenDue OfRow) (named (record nothing_known { form = form }) table schema) ws statement) (append-nil (row_words row))
    (row_read schemas (keys_of schema) schema OfRow (named (record nothing_known { form = form }) table schema) row [] statement refl (let l = is.within in let m = is.key in omega arith) fits h
    (at_end schemas (keys_of schema) EndDue (record nothing_known { form = form; table = table; schema = Some schema; values = row }) statement refl said)))))

where_read : (schemas : List Schema) (schema : Schema) (draft : Draft) (where_true : Option Cond) (statement : Statement) (spot : Spot) → one spot (w.Keyword k.Where) ≡ Some CondDue → may_end spot ≡ true → draft.schema ≡ Some schema → draft.where_true ≡ None
    → ((place : ℕ) → token_faults schemas spot draft (w.Keyword k.Where) place ≡ []) → ((place : ℕ) → with_token schemas spot draft (w.Keyword k.Where) place ≡ draft)
    → HasOwnNames schema → WhereFits schema where_true → where_spells schema where_true ≡ true → said_as draft.form (record draft { where_true = where_true }) ≡ statement
    → Reads schemas (keys_of schema) spot draft (where_words schema where_true) statement
where_read schemas schema draft None statement spot goes ends e none right same names fits h said =
    at_end schemas (keys_of schema) spot draft statement ends (ap (λ (o : Option Cond). said_as draft.form (record draft { where_true = o })) none ∙ said)
where_read schemas schema draft (Some condition) statement spot goes ends e none right same names fits h said =
    step schemas (keys_of schema) spot draft draft (w.Keyword k.Where) (words_of (tokens_of (cond_tree schema condition))) statement CondDue goes right same
    (subst (λ (ws : List Word). Reads schemas (keys_of schema) CondDue draft ws statement) (append-nil (words_of (tokens_of (cond_tree schema condition))))
    (delete_where schemas schema draft condition [] statement e names fits h
    (at_end schemas (keys_of schema) CondEnds (record draft { where_true = Some condition }) statement refl said)))

pub delete_read : (schemas : List Schema) (table : ℕ) (schema : Schema) (where_true : Option Cond) → Found schemas table schema → HasOwnNames schema → WhereFits schema where_true → where_spells schema where_true ≡ true
    → Reads schemas (keys_of schema) StatementDue nothing_known (statement_words schema (Delete table where_true)) (Delete table where_true)
delete_read schemas table schema where_true f names fits h =
    step schemas (keys_of schema) StatementDue nothing_known (record nothing_known { form = DeleteForm }) (w.Keyword k.Delete) (w.Keyword k.From ∷ w.Name schema.name ∷ where_words schema where_true) (Delete table where_true) FromDue refl (λ place. refl) (λ place. refl)
    (step schemas (keys_of schema) FromDue (record nothing_known { form = DeleteForm }) (record nothing_known { form = DeleteForm }) (w.Keyword k.From) (w.Name schema.name ∷ where_words schema where_true) (Delete table where_true) DeleteTable refl (λ place. refl) (λ place. refl)
    (step schemas (keys_of schema) DeleteTable (record nothing_known { form = DeleteForm }) (named (record nothing_known { form = DeleteForm }) table schema) (w.Name schema.name) (where_words schema where_true) (Delete table where_true) WhereDue refl
    (known schemas table schema f) (λ place. naming schemas table schema (record nothing_known { form = DeleteForm }) f)
    (where_read schemas schema (named (record nothing_known { form = DeleteForm }) table schema) where_true (Delete table where_true) WhereDue refl refl refl refl (λ place. refl) (λ place. refl) names fits h refl)))

pub update_read : (schemas : List Schema) (table : ℕ) (schema : Schema) (sets : List Assignment) (where_true : Option Cond) → Found schemas table schema → HasOwnNames schema → AllByRecursion (AssignmentFits schema) sets → WhereFits schema where_true
    → sets_spell schema sets ≡ true → where_spells schema where_true ≡ true
    → Reads schemas (keys_of schema) StatementDue nothing_known (statement_words schema (Update table sets where_true)) (Update table sets where_true)
update_read schemas table schema [] where_true f names fits wheres h i = absurd (false_true h)
  where
    false_true : false ≡ true → ⊥
    false_true e = cc
update_read schemas table schema (assignment ∷ assignments) where_true f names fits wheres h i =
    let q = both (assignment_spells schema assignment) (assignments_spell schema assignments) h in
    step schemas (keys_of schema) StatementDue nothing_known (record nothing_known { form = UpdateForm }) (w.Keyword k.Update) (w.Name schema.name ∷ w.Keyword k.Set ∷ (assignments_words schema (assignment ∷ assignments) ++ where_words schema where_true)) (Update table (assignment ∷ assignments) where_true) UpdateTable refl (λ place. refl) (λ place. refl)
    (step schemas (keys_of schema) UpdateTable (record nothing_known { form = UpdateForm }) (setting_so table schema [] None) (w.Name schema.name) (w.Keyword k.Set ∷ (assignments_words schema (assignment ∷ assignments) ++ where_words schema where_true)) (Update table (assignment ∷ assignments) where_true) SetDue refl
    (known schemas table schema f) (λ place. naming schemas table schema (record nothing_known { form = UpdateForm }) f)
    (step schemas (keys_of schema) SetDue (setting_so table schema [] None) (setting_so table schema [] None) (w.Keyword k.Set) (assignments_words schema (assignment ∷ assignments) ++ where_words schema where_true) (Update table (assignment ∷ assignments) where_true) ColumnDue refl (λ place. refl) (λ place. refl)
    (subst (λ (ws : List Word). Reads schemas (keys_of schema) ColumnDue (setting_so table schema [] None) ws (Update table (assignment ∷ assignments) where_true)) (sym (append_assoc (assignment_words schema assignment) (assignments_words_on schema assignments) (where_words schema where_true)))
    (assignment_read schemas table schema [] None assignment (assignments_words_on schema assignments ++ where_words schema where_true) (Update table (assignment ∷ assignments) where_true) names fits.0 q.0
    (assignments_read schemas table schema (assignment ∷ []) (Some assignment.column) assignments (where_words schema where_true) (Update table (assignment ∷ assignments) where_true) names fits.1 q.1
    (λ column. where_read schemas schema (setting_so table schema (assignment ∷ assignments) column) where_true (Update table (assignment ∷ assignments) where_true) SetEnds refl refl refl refl (λ place. refl) (λ place. refl) names wheres i refl))))))

-- how a locking read locks
lock_read : (schemas : List Schema) (key : Keys) (draft : Draft) (spot : Spot) (mode : LockMode) (statement : Statement) → one spot (w.Keyword k.For) ≡ Some ForDue
    → ((place : ℕ) → token_faults schemas spot draft (w.Keyword k.For) place ≡ []) → ((place : ℕ) → with_token schemas spot draft (w.Keyword k.For) place ≡ draft)
    → ((word : Word) (place : ℕ) → token_faults schemas ForDue draft word place ≡ [])
    → said_as draft.form (record draft { mode = mode }) ≡ statement → Reads schemas key spot draft (lock_words mode) statement
lock_read schemas key draft spot Shared statement goes right same behind said =
    step schemas key spot draft draft (w.Keyword k.For) (w.Keyword k.Share ∷ []) statement ForDue goes right same
    (step schemas key ForDue draft (record draft { mode = Shared }) (w.Keyword k.Share) [] statement EndDue refl (behind (w.Keyword k.Share)) (λ place. refl) (at_end schemas key EndDue (record draft { mode = Shared }) statement refl said))
lock_read schemas key draft spot Exclusive statement goes right same behind said =
    step schemas key spot draft draft (w.Keyword k.For) (w.Keyword k.Update ∷ []) statement ForDue goes right same
    (step schemas key ForDue draft (record draft { mode = Exclusive }) (w.Keyword k.Update) [] statement EndDue refl (behind (w.Keyword k.Update)) (λ place. refl) (at_end schemas key EndDue (record draft { mode = Exclusive }) statement refl said))

abbrev all_rows : Span
all_rows = record { lo = edge.Low; hi = edge.High }

pub select_read : (schemas : List Schema) (table : ℕ) (schema : Schema) (mode : LockMode) (where_true : Option Cond) → Found schemas table schema → HasOwnNames schema → WhereFits schema where_true → where_spells schema where_true ≡ true
    → Reads schemas (keys_of schema) StatementDue nothing_known (statement_words schema (LockRead table mode all_rows where_true)) (LockRead table mode all_rows where_true)
select_read schemas table schema mode where_true f names fits h =
    step schemas (keys_of schema) StatementDue nothing_known (record nothing_known { form = ReadForm }) (w.Keyword k.Select) (w.Math Times ∷ w.Keyword k.From ∷ w.Name schema.name ∷ (where_words schema where_true ++ lock_words mode)) said StarDue refl (λ place. refl) (λ place. refl)
    (step schemas (keys_of schema) StarDue (record nothing_known { form = ReadForm }) (record nothing_known { form = ReadForm }) (w.Math Times) (w.Keyword k.From ∷ w.Name schema.name ∷ (where_words schema where_true ++ lock_words mode)) said SelectFrom refl (λ place. refl) (λ place. refl)
    (step schemas (keys_of schema) SelectFrom (record nothing_known { form = ReadForm }) (record nothing_known { form = ReadForm }) (w.Keyword k.From) (w.Name schema.name ∷ (where_words schema where_true ++ lock_words mode)) said SelectTable refl (λ place. refl) (λ place. refl)
    (step schemas (keys_of schema) SelectTable (record nothing_known { form = ReadForm }) draft (w.Name schema.name) (where_words schema where_true ++ lock_words mode) said SelectWhere refl
    (known schemas table schema f) (λ place. naming schemas table schema (record nothing_known { form = ReadForm }) f)
    (by_where where_true fits h refl))))
  where
    draft : Draft
    draft = named (record nothing_known { form = ReadForm }) table schema

    said : Statement
    said = LockRead table mode all_rows where_true

    by_where : (condition : Option Cond) → WhereFits schema condition → where_spells schema condition ≡ true → LockRead table mode all_rows condition ≡ said → Reads schemas (keys_of schema) SelectWhere draft (where_words schema condition ++ lock_words mode) said
    by_where None fits h e = lock_read schemas (keys_of schema) draft SelectWhere mode said refl (λ place. refl) (λ place. refl) (λ word place. refl) e
    by_where (Some condition) fits h e =
        step schemas (keys_of schema) SelectWhere draft draft (w.Keyword k.Where) (words_of (tokens_of (cond_tree schema condition)) ++ lock_words mode) said SelectCond refl (λ place. refl) (λ place. refl)
        (select_where schemas schema draft condition (lock_words mode) said refl names fits h
        (lock_read schemas (keys_of schema) (record draft { where_true = Some condition }) LockDue mode said refl (λ place. refl) (λ place. refl) (λ word place. refl) e))
