-- A node without a history and without transactions.
use Rattle.std.proofs.Common.{◌≡◌, ◌∙◌, ℕ, zero, suc, cond, List, [], ◌∷◌, Option, None, Some, refl, ap, sym, subst, arith}
use Rattle.std.specs.Prelude.{option_and_then}
use Rattle.std.specs.List.{slice_get, AllByRecursion}
use Rattle.std.specs.Ordering.{is_eq}
use Rattle.row_types.specs.declared.values.Value.{Value}
use Rattle.row_types.specs.declared.table_schema.Schema.{Schema}
use Rattle.row_types.specs.Order.{key_cmp}
use Rattle.row_types.specs.Fit.{IsSchema, IsTable, AreTables, key_of}
use Rattle.ptc_statement.specs.Effect.{row_at as row_of}
use Rattle.history.specs.Replay.{table_rows}
use Rattle.row_types.specs.KeyRows.{row_at}
use Rattle.ordered_table.specs.TableView.{TableView}
use Rattle.node_model.specs.Calls.{fresh_node}
use Rattle.node_model.specs.Node.{NodeView}
use Rattle.node_model.proofs.CallLemmas.{fresh_kept}
use Rattle.node_parts.specs.declared.notes.Note.{Note}
use Rattle.node_parts.specs.declared.parts.Parts.{Parts}
use Rattle.node_parts.specs.Kept.{node_view, notes_of, IsLive, NoteFits, PartsKept}
use Rattle.node_model.specs.Kept.{IsKept}
use Rattle.node_model.specs.PutBack.{LeadsBack}
use Rattle.history.specs.Replay.{fold, applied_of}
use Rattle.node_parts.specs.Fresh.{fresh_tables}

-- the two ways to say what a table has at a key are one
pub same_row : (schema : Schema) (key : List Value) (rows : List (List Value)) → row_at schema.key_len key rows ≡ row_of schema key rows
same_row schema key [] = refl
same_row schema key (row ∷ rows) = ap (λ (o : Option (List Value)). cond (is_eq (key_cmp key (key_of schema row))) (Some row) o) (same_row schema key rows)

pub record FreshAt (schemas : List Schema) (start : List (List (List Value))) (number : ℕ) (schema : Schema) : Type 0 where
  pub is_schema : IsSchema schema
  pub is_table : IsTable schema (table_rows start number)
  pub there : slice_get (fresh_tables schemas start) number ≡ Some (record { key_len = schema.key_len; rows = table_rows start number; spare = 0 })

pub fresh_at : (schemas : List Schema) (start : List (List (List Value))) (number : ℕ) (schema : Schema) → AllByRecursion IsSchema schemas → AreTables schemas start → slice_get schemas number ≡ Some schema
    → FreshAt schemas start number schema
fresh_at [] start number schema are tables found = absurd (let q : None ≡ Some schema = found in cc)
fresh_at (first ∷ schemas) [] number schema are tables found = absurd tables
fresh_at (first ∷ schemas) (rows ∷ start) zero schema are tables found =
    let same : first ≡ schema = let q : Some first ≡ Some schema = found in cc in
    record {
      is_schema = subst IsSchema same are.0;
      is_table = subst (λ (s : Schema). IsTable s rows) same tables.0;
      there = ap (λ (s : Schema). Some (record { key_len = s.key_len; rows = rows; spare = 0 })) same;
    }
fresh_at (first ∷ schemas) (rows ∷ start) (suc number) schema are tables found =
    let f = fresh_at schemas start number schema are.1 tables.1 found in
    record { is_schema = f.is_schema; is_table = f.is_table; there = f.there }

fresh_live : (schemas : List Schema) (start : List (List (List Value))) (number : ℕ) (schema : Schema) → AllByRecursion IsSchema schemas → AreTables schemas start → slice_get schemas number ≡ Some schema
    → IsLive (fresh_node schemas start) number schema (fresh_tables schemas start) []
fresh_live schemas start number schema are tables found =
    let f = fresh_at schemas start number schema are tables found in
    record {
      live = record { key_len = schema.key_len; rows = table_rows start number; spare = 0 };
      there = f.there;
      sound = record { is_schema = f.is_schema; is_table = f.is_table; same_key = refl };
      rows = λ key. same_row schema key (table_rows start number)
          ∙ ap (option_and_then (λ (s : Schema). row_of s key (table_rows start number))) (sym found);
      room = omega arith;
    }

pub record IsFresh (schemas : List Schema) (start : List (List (List Value))) (parts : Parts) : Type 0 where
  pub schemas_are : parts.schemas.tables ≡ schemas
  pub start_is : parts.start ≡ start
  pub history : parts.history.entries ≡ []
  pub checks : parts.checks ≡ []
  pub applied : parts.applied ≡ 0
  pub tables : parts.tables.items ≡ fresh_tables schemas start
  pub txns : parts.txns ≡ []
  pub held : parts.locks.held ≡ []
  pub notes : parts.notes.notes ≡ []

pub fresh_view : (schemas : List Schema) (start : List (List (List Value))) (parts : Parts) → IsFresh schemas start parts → node_view parts ≡ fresh_node schemas start
fresh_view schemas start parts is = λ i. record { schemas = is.schemas_are i; start = is.start_is i; history = is.history i; txns = is.txns i; held = is.held i }

pub fresh_parts_kept : (schemas : List Schema) (start : List (List (List Value))) (parts : Parts) → AllByRecursion IsSchema schemas → AreTables schemas start → IsFresh schemas start parts → PartsKept parts
fresh_parts_kept schemas start parts are tables is =
    let view = sym (fresh_view schemas start parts is) in
    record {
      laws = subst IsKept view (fresh_kept schemas start tables);
      live = λ number schema found.
          subst (λ (n : NodeView). IsLive n number schema parts.tables.items parts.notes.notes) view
          (subst (λ (ts : List TableView). IsLive (fresh_node schemas start) number schema ts parts.notes.notes) (sym is.tables)
          (subst (IsLive (fresh_node schemas start) number schema (fresh_tables schemas start)) (sym is.notes)
          (fresh_live schemas start number schema are tables (ap (λ (ss : List Schema). slice_get ss number) (sym is.schemas_are) ∙ found))));
      back = λ owner.
          subst (λ (n : NodeView). LeadsBack n owner (notes_of owner parts.notes.notes)) view
          (subst (λ (ns : List Note). LeadsBack (fresh_node schemas start) owner (notes_of owner ns)) (sym is.notes) (record { own = tt; back = λ table key on. absurd on }));
      notes = subst (AllByRecursion (NoteFits parts.schemas.tables)) (sym is.notes) tt;
      checks = (λ i. (fold (is.schemas_are i) (is.start_is i) (is.history i)).checks) ∙ sym is.checks;
      applied = ap applied_of is.history ∙ sym is.applied;
    }
