-- What a statement makes of the row at a key.
use Rattle.std.proofs.Common.{◌≡◌, ◌≢◌, ℕ, List, [], ◌∷◌, ◌++◌, ◌==◌, ◌&&◌, Bool, true, false, cond, Option, None, Some, refl, sym, ap, ◌∙◌}
use Rattle.std.specs.Prelude.{IsSome}
use Rattle.std.specs.List.{slice_get}
use Rattle.std.specs.Option.{option_map_or}
use Rattle.row_types.specs.declared.values.Value.{Value}
use Rattle.row_types.specs.declared.table_schema.Schema.{Schema}
use Rattle.row_types.specs.declared.lock_modes.LockMode.{LockMode}
use Rattle.row_types.specs.Order.{has}
use Rattle.row_types.specs.Fit.{key_of}
use Rattle.ptc_statement.specs.declared.statements.Statement.{Statement}
use Rattle.ptc_statement.specs.declared.statements.Statement.TheVariants.{Insert, Replace, Delete, Update, LockRead, Check, SetMaster, ClearChecks}
use Rattle.ptc_statement.specs.Reach.{reach_of}
use Rattle.ptc_statement.specs.Effect.{table_of, effect, effect_within}
use Rattle.ptc_statement.proofs.ActLemmas.{effect_outside}
use Rattle.node_model.specs.Node.{act, reaches, acts}
use Rattle.node_model.specs.LockFacts.{Walks}

either_way : (b : Bool) (old : Option (List Value)) → cond b old old ≡ old
either_way true old = refl
either_way false old = refl

-- outside its reach a statement leaves the row
pub act_outside : (schemas : List Schema) (statement : Statement) (table : ℕ) (key : List Value) (old : Option (List Value))
    → reaches schemas statement table key ≡ false → act schemas statement table key old ≡ old
act_outside schemas statement table key old = at (table_of statement == table) (slice_get schemas table)
  where
    at : (b : Bool) (schema : Option Schema) → b && option_map_or (λ (s : Schema). has (reach_of s statement) key) schema false ≡ false
        → cond b (option_map_or (λ (s : Schema). effect s statement key old) schema old) old ≡ old
    at false schema e = refl
    at true None e = refl
    at true (Some schema) e = effect_outside schema statement key old e

-- a statement that leaves a row leaves it at each key
left_everywhere : (schemas : List Schema) (statement : Statement) (table : ℕ) (key : List Value) (old : Option (List Value))
    → ((schema : Schema) → effect_within schema statement old ≡ old) → act schemas statement table key old ≡ old
left_everywhere schemas statement table key old leaves = at (table_of statement == table) (slice_get schemas table)
  where
    within : (schema : Schema) (b : Bool) → cond b (effect_within schema statement old) old ≡ old
    within schema true = leaves schema
    within schema false = refl

    at : (b : Bool) (schema : Option Schema) → cond b (option_map_or (λ (s : Schema). effect s statement key old) schema old) old ≡ old
    at false schema = refl
    at true None = refl
    at true (Some schema) = within schema (has (reach_of schema statement) key)

-- a statement that reads, or one on the check rows, changes no row
abbrev pub ChangesNone : Statement → Type 0
ChangesNone (Insert table row) = ⊥
ChangesNone (Replace table row) = ⊥
ChangesNone (Delete table where_true) = ⊥
ChangesNone (Update table sets where_true) = ⊥
ChangesNone (LockRead table mode span where_true) = Unit {0}
ChangesNone (Check table chunk span kind) = Unit {0}
ChangesNone (SetMaster table chunk kind master) = Unit {0}
ChangesNone (ClearChecks table) = Unit {0}

pub act_none_changed : (schemas : List Schema) (statement : Statement) (table : ℕ) (key : List Value) (old : Option (List Value)) → ChangesNone statement
    → act schemas statement table key old ≡ old
act_none_changed schemas (Insert of row) table key old is = absurd is
act_none_changed schemas (Replace of row) table key old is = absurd is
act_none_changed schemas (Delete of where_true) table key old is = absurd is
act_none_changed schemas (Update of sets where_true) table key old is = absurd is
act_none_changed schemas (LockRead of mode span where_true) table key old is = left_everywhere schemas (LockRead of mode span where_true) table key old (λ schema. refl)
act_none_changed schemas (Check of chunk span kind) table key old is = left_everywhere schemas (Check of chunk span kind) table key old (λ schema. refl)
act_none_changed schemas (SetMaster of chunk kind master) table key old is = left_everywhere schemas (SetMaster of chunk kind master) table key old (λ schema. refl)
act_none_changed schemas (ClearChecks of) table key old is = left_everywhere schemas (ClearChecks of) table key old (λ schema. refl)

-- a statement that walks puts no row in at an absent key
pub act_absent : (schemas : List Schema) (statement : Statement) (table : ℕ) (key : List Value) → Walks statement → act schemas statement table key None ≡ None
act_absent schemas (Insert of row) table key is = absurd is
act_absent schemas (Replace of row) table key is = absurd is
act_absent schemas (Delete of where_true) table key is = left_everywhere schemas (Delete of where_true) table key None (λ schema. refl)
act_absent schemas (Update of sets where_true) table key is = left_everywhere schemas (Update of sets where_true) table key None (λ schema. refl)
act_absent schemas (LockRead of mode span where_true) table key is = left_everywhere schemas (LockRead of mode span where_true) table key None (λ schema. refl)
act_absent schemas (Check of chunk span kind) table key is = left_everywhere schemas (Check of chunk span kind) table key None (λ schema. refl)
act_absent schemas (SetMaster of chunk kind master) table key is = left_everywhere schemas (SetMaster of chunk kind master) table key None (λ schema. refl)
act_absent schemas (ClearChecks of) table key is = left_everywhere schemas (ClearChecks of) table key None (λ schema. refl)

-- an INSERT leaves a present row
pub insert_present : (schemas : List Schema) (of : ℕ) (row : List Value) (table : ℕ) (key : List Value) (old : Option (List Value)) → IsSome old
    → act schemas (Insert of row) table key old ≡ old
insert_present schemas of row table key None is = cc
insert_present schemas of row table key (Some there) is = left_everywhere schemas (Insert of row) table key (Some there) (λ schema. refl)

-- one statement more
pub acts_more : (schemas : List Schema) (statements : List Statement) (statement : Statement) (table : ℕ) (key : List Value) (old : Option (List Value))
    → acts schemas (statements ++ statement ∷ []) table key old ≡ act schemas statement table key (acts schemas statements table key old)
acts_more schemas [] statement table key old = refl
acts_more schemas (first ∷ statements) statement table key old = acts_more schemas statements statement table key (act schemas first table key old)
