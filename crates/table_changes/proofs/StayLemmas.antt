-- A row that a statement doesn't take makes no change.
use Rattle.std.proofs.Common.{◌≡◌, ◌≢◌, ◌∙◌, ℕ, Bool, false, cond, Option, Some, None, List, [], ◌∷◌, ◌++◌, refl, ap, sym, append-nil}
use Rattle.std.specs.Ordering.{is_eq}
use Rattle.row_types.specs.declared.values.Value.{Value}
use Rattle.row_types.specs.declared.table_schema.Schema.{Schema}
use Rattle.row_types.proofs.OrderLemmas.{key_ties}
use Rattle.ptc_statement.specs.declared.assignments.Assignment.{Assignment}
use Rattle.ptc_statement.specs.declared.conditions.Cond.{Cond}
use Rattle.ptc_statement.specs.declared.statements.Statement.{Statement}
use Rattle.ptc_statement.specs.declared.statements.Statement.TheVariants.{Insert, Replace, Delete, Update, LockRead, Check, SetMaster, ClearChecks}
use Rattle.ptc_statement.specs.Meaning.{is_taken}
use Rattle.ptc_statement.specs.Effect.{after_sets, effect_within}
use Rattle.table_changes.specs.declared.row_changes.RowChange.{RowChange}
use Rattle.table_changes.specs.declared.row_changes.RowChange.TheVariants.{Put}
use Rattle.table_changes.specs.RowChanges.{changes_to}

pub unchanged : (schema : Schema) (row : List Value) (left : Option (List Value)) (changes : List RowChange) → left ≡ Some row
    → changes ≡ changes ++ changes_to schema row left
unchanged schema row left changes stays =
    sym (ap (λ (o : Option (List Value)). changes ++ changes_to schema row o) stays
    ∙ ap (λ (same : Bool). changes ++ cond same [] (Put row ∷ [])) (ap is_eq (key_ties row))
    ∙ append-nil changes)

pub not_deleted : (schema : Schema) (statement : Statement) (table : ℕ) (where_true : Option Cond) (row : List Value) (taken : Bool) → statement ≡ Delete table where_true
    → taken ≡ is_taken schema where_true row → taken ≡ false → effect_within schema statement (Some row) ≡ Some row
not_deleted schema statement table where_true row taken is takes out =
    ap (λ (s : Statement). effect_within schema s (Some row)) is ∙ ap (λ (b : Bool). cond b None (Some row)) (sym takes ∙ out)

pub not_updated : (schema : Schema) (statement : Statement) (table : ℕ) (sets : List Assignment) (where_true : Option Cond) (row : List Value) (taken : Bool)
    → statement ≡ Update table sets where_true
    → taken ≡ is_taken schema where_true row → taken ≡ false → effect_within schema statement (Some row) ≡ Some row
not_updated schema statement table sets where_true row taken is takes out =
    ap (λ (s : Statement). effect_within schema s (Some row)) is
    ∙ ap (λ (b : Bool). Some (cond b (after_sets schema sets row) row)) (sym takes ∙ out)

-- no other statement that makes no row changes one
pub others_leave : (schema : Schema) (statement : Statement) (row : List Value) → effect_within schema statement None ≡ None
    → ((table : ℕ) (where_true : Option Cond) → statement ≢ Delete table where_true)
    → ((table : ℕ) (sets : List Assignment) (where_true : Option Cond) → statement ≢ Update table sets where_true)
    → effect_within schema statement (Some row) ≡ Some row
others_leave schema (Insert table new) row absent no_delete no_update = refl
others_leave schema (Replace table new) row absent no_delete no_update = cc
others_leave schema (Delete table where_true) row absent no_delete no_update = absurd (no_delete table where_true refl)
others_leave schema (Update table sets where_true) row absent no_delete no_update = absurd (no_update table sets where_true refl)
others_leave schema (LockRead table mode span where_true) row absent no_delete no_update = refl
others_leave schema (Check table chunk span kind) row absent no_delete no_update = refl
others_leave schema (SetMaster table chunk kind master) row absent no_delete no_update = refl
others_leave schema (ClearChecks table) row absent no_delete no_update = refl
