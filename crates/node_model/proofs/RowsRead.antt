-- The rows that a walk has read, as a list: they grow by the row of each visit, and stay where each row stays.
use Rattle.std.proofs.Common.{◌≡◌, ◌≢◌, ◌∙◌, ℕ, List, [], ◌∷◌, ◌++◌, ◌&&◌, Bool, true, false, not, cond, Option, None, Some, take, refl, ap, sym, subst}
use Rattle.std.specs.Prelude.{filter}
use Rattle.std.proofs.lemmas.List.{append-nil}
use Rattle.std.specs.Option.{option_to_list}
use Rattle.std.specs.Ordering.{is_eq, is_le, ordering_then, ordering_reverse}
use Rattle.std.specs.declared.cmp.Ordering.{Ordering}
use Rattle.std.specs.declared.cmp.Ordering.TheVariants.{Less, Equal, Greater}
use Rattle.row_types.specs.declared.values.Value.{Value}
use Rattle.row_types.specs.declared.edges.Edge.{Edge}
use Rattle.row_types.specs.declared.edges.Edge.TheVariants.{Before, After}
use Rattle.row_types.specs.declared.edges.Span.{Span}
use Rattle.row_types.specs.declared.table_schema.Schema.{Schema}
use Rattle.row_types.specs.Order.{key_cmp, edge_le, has, is_past_edge, is_before_edge}
use Rattle.row_types.specs.Fit.{key_of, IsSchema, IsTable, IsBelowAll}
use Rattle.row_types.proofs.OrderLemmas.{key_ties, keys_exact}
use Rattle.row_types.proofs.SpanLemmas.{past_or_before, edge_le_trans}
use Rattle.ptc_statement.specs.Effect.{row_at}
use Rattle.row_digest.specs.Digest.{rows_in}
use Rattle.row_types.specs.KeyRows.{AreOrdered, HasKey, row_at as row_found}
use Rattle.row_types.proofs.KeyRowLemmas.{found_at, part_at}
use Rattle.row_types.proofs.OrderedRowLemmas.{filter_ordered}
use Rattle.row_types.proofs.SameRowLemmas.{same_rows}
use Rattle.row_types.proofs.SchemaRowLemmas.{table_ordered}

found_has_key : (key_len : ℕ) (key row : List Value) (rows : List (List Value)) → AreOrdered key_len rows → row_found key_len key rows ≡ Some row → HasKey key_len row
found_has_key key_len key row [] ordered found = absurd (let q : None ≡ Some row = found in cc)
found_has_key key_len key row (first ∷ rows) ordered found = at (is_eq (key_cmp key (take key_len first))) found (λ f. found_has_key key_len key row rows ordered.2 f)
  where
    at : (b : Bool) → cond b (Some first) (row_found key_len key rows) ≡ Some row → (row_found key_len key rows ≡ Some row → HasKey key_len row) → HasKey key_len row
    at true f more = subst (HasKey key_len) (let same : first ≡ row = cc in same) ordered.0
    at false f more = more f

-- rows of two tables that are the same at each key of a span are the same list there
pub rows_same_in : (schema : Schema) (span : Span) (rows others : List (List Value)) → IsSchema schema → IsTable schema rows → IsTable schema others
    → ((key : List Value) → has span key ≡ true → row_at schema key rows ≡ row_at schema key others) → rows_in schema span rows ≡ rows_in schema span others
rows_same_in schema span rows others is table other_table same =
    same_rows schema.key_len (rows_in schema span rows) (rows_in schema span others)
    (filter_ordered schema.key_len (λ (row : List Value). has span (key_of schema row)) rows (table_ordered schema rows is table))
    (filter_ordered schema.key_len (λ (row : List Value). has span (key_of schema row)) others (table_ordered schema others is other_table))
    (λ key. part_at schema.key_len (has span) key rows ∙ at key (has span key) refl ∙ sym (part_at schema.key_len (has span) key others))
  where
    at : (key : List Value) (b : Bool) → has span key ≡ b → cond b (row_found schema.key_len key rows) None ≡ cond b (row_found schema.key_len key others) None
    at key true e = same key e
    at key false e = refl

-- rows on both sides of an edge

both_pass : (a b : Bool) → a ≡ true → b ≡ true → a && b ≡ true
both_pass a b e f = λ i. e i && f i

no_first : (a b : Bool) → a ≡ false → a && b ≡ false
no_first a b e = ap (λ (x : Bool). x && b) e

no_second : (a b : Bool) → b ≡ false → a && b ≡ false
no_second true b e = e
no_second false b e = refl

first_only : (a b : Bool) → b ≡ true → a && b ≡ a
first_only true b e = e
first_only false b e = refl

second_only : (a b : Bool) → a ≡ true → a && b ≡ b
second_only a b e = ap (λ (x : Bool). x && b) e

past_behind : (edge : Edge) (a b : List Value) → is_past_edge edge a ≡ true → key_cmp a b ≡ Less → is_past_edge edge b ≡ true
past_behind edge a b past less = edge_le_trans edge (Before a) (Before b) past (ap is_le less)

past_is : (edge : Edge) (key : List Value) (b : Bool) → is_before_edge edge key ≡ b → is_past_edge edge key ≡ not b
past_is edge key b e = past_or_before edge key ∙ ap not e

-- behind a row that is past an edge none is before it
none_before : (schema : Schema) (lo mid : Edge) (row : List Value) (rows : List (List Value)) → is_past_edge mid (key_of schema row) ≡ true → IsBelowAll schema row rows
    → rows_in schema (record { lo = lo; hi = mid }) rows ≡ []
none_before schema lo mid row [] past below = refl
none_before schema lo mid row (other ∷ rows) past below =
    ap (λ (b : Bool). cond b (other ∷ rows_in schema (record { lo = lo; hi = mid }) rows) (rows_in schema (record { lo = lo; hi = mid }) rows))
    (no_second (is_past_edge lo (key_of schema other)) (is_before_edge mid (key_of schema other)) (behind (is_before_edge mid (key_of schema other)) refl))
    ∙ none_before schema lo mid row rows past below.1
  where
    behind : (b : Bool) → is_before_edge mid (key_of schema other) ≡ b → b ≡ false
    behind false e = refl
    behind true e = let q : true ≡ false = sym (past_behind mid (key_of schema row) (key_of schema other) past below.0) ∙ past_is mid (key_of schema other) true e in absurd cc

pub rows_split : (schema : Schema) (lo mid hi : Edge) (rows : List (List Value)) → IsTable schema rows → edge_le lo mid ≡ true → edge_le mid hi ≡ true
    → rows_in schema (record { lo = lo; hi = hi }) rows ≡ rows_in schema (record { lo = lo; hi = mid }) rows ++ rows_in schema (record { lo = mid; hi = hi }) rows
rows_split schema lo mid hi [] table low high = refl
rows_split schema lo mid hi (row ∷ rows) table low high = at (is_before_edge mid (key_of schema row)) refl (rows_split schema lo mid hi rows table.2 low high)
  where
    key : List Value
    key = key_of schema row

    whole : Bool → List (List Value)
    whole b = cond b (row ∷ rows_in schema (record { lo = lo; hi = hi }) rows) (rows_in schema (record { lo = lo; hi = hi }) rows)

    below : Bool → List (List Value)
    below b = cond b (row ∷ rows_in schema (record { lo = lo; hi = mid }) rows) (rows_in schema (record { lo = lo; hi = mid }) rows)

    above : Bool → List (List Value)
    above b = cond b (row ∷ rows_in schema (record { lo = mid; hi = hi }) rows) (rows_in schema (record { lo = mid; hi = hi }) rows)

    same_front : (b : Bool) → rows_in schema (record { lo = lo; hi = hi }) rows ≡ rows_in schema (record { lo = lo; hi = mid }) rows ++ rows_in schema (record { lo = mid; hi = hi }) rows
        → whole b ≡ below b ++ rows_in schema (record { lo = mid; hi = hi }) rows
    same_front true more = ap (λ (rs : List (List Value)). row ∷ rs) more
    same_front false more = more

    same_back : (b : Bool) → rows_in schema (record { lo = lo; hi = hi }) rows ≡ rows_in schema (record { lo = lo; hi = mid }) rows ++ rows_in schema (record { lo = mid; hi = hi }) rows
        → rows_in schema (record { lo = lo; hi = mid }) rows ≡ [] → whole b ≡ above b
    same_back true more none = ap (λ (rs : List (List Value)). row ∷ rs) (more ∙ ap (λ (rs : List (List Value)). rs ++ rows_in schema (record { lo = mid; hi = hi }) rows) none)
    same_back false more none = more ∙ ap (λ (rs : List (List Value)). rs ++ rows_in schema (record { lo = mid; hi = hi }) rows) none

    at : (b : Bool) → is_before_edge mid key ≡ b → rows_in schema (record { lo = lo; hi = hi }) rows ≡ rows_in schema (record { lo = lo; hi = mid }) rows ++ rows_in schema (record { lo = mid; hi = hi }) rows
        → whole (is_past_edge lo key && is_before_edge hi key) ≡ below (is_past_edge lo key && is_before_edge mid key) ++ above (is_past_edge mid key && is_before_edge hi key)
    at true before more =
        ap whole (first_only (is_past_edge lo key) (is_before_edge hi key) (edge_le_trans (After key) mid hi before high))
        ∙ same_front (is_past_edge lo key) more
        ∙ sym (λ i. below (first_only (is_past_edge lo key) (is_before_edge mid key) before i) ++ above (no_first (is_past_edge mid key) (is_before_edge hi key) (past_is mid key true before) i))
    at false behind more =
        let past : is_past_edge mid key ≡ true = past_is mid key false behind in
        ap whole (second_only (is_past_edge lo key) (is_before_edge hi key) (edge_le_trans lo mid (Before key) low past))
        ∙ same_back (is_before_edge hi key) more (none_before schema lo mid row rows past table.1)
        ∙ sym (ap (λ (rs : List (List Value)). rs ++ above (is_before_edge hi key)) (none_before schema lo mid row rows past table.1))
        ∙ sym (λ i. below (no_second (is_past_edge lo key) (is_before_edge mid key) behind i) ++ above (second_only (is_past_edge mid key) (is_before_edge hi key) past i))

-- the rows from one edge to just after a key, where only that key has one between: its row
one_row : (schema : Schema) (mid : Edge) (key : List Value) (rows : List (List Value)) (found : Option (List Value)) → IsSchema schema → IsTable schema rows
    → row_at schema key rows ≡ found → is_past_edge mid key ≡ true
    → ((other : List Value) → is_past_edge mid other ≡ true → is_before_edge (Before key) other ≡ true → row_at schema other rows ≡ None)
    → rows_in schema (record { lo = mid; hi = After key }) rows ≡ option_to_list found
one_row schema mid key rows found is table e past none =
    same_rows schema.key_len (rows_in schema (record { lo = mid; hi = After key }) rows) (option_to_list found)
    (filter_ordered schema.key_len (λ (row : List Value). has (record { lo = mid; hi = After key }) (key_of schema row)) rows ordered) (alone found e)
    (λ other. part_at schema.key_len (has (record { lo = mid; hi = After key })) other rows ∙ at other (key_cmp other key) refl)
  where
    ordered : AreOrdered schema.key_len rows
    ordered = table_ordered schema rows is table

    here : row_found schema.key_len key rows ≡ found
    here = e

    alone : (o : Option (List Value)) → row_at schema key rows ≡ o → AreOrdered schema.key_len (option_to_list o)
    alone None f = tt
    alone (Some row) f = (found_has_key schema.key_len key row rows ordered (f), tt, tt)

    only : (o : Option (List Value)) → row_found schema.key_len key rows ≡ o → (other : List Value) → (b : Bool) → is_eq (key_cmp other key) ≡ b → row_found schema.key_len other (option_to_list o) ≡ cond b o None
    only None f other true g = refl
    only None f other false g = refl
    only (Some row) f other b g =
        ap (λ (k : List Value). cond (is_eq (key_cmp other k)) (Some row) None) (found_at schema.key_len key row rows f) ∙ ap (λ (x : Bool). cond x (Some row) None) g

    at : (other : List Value) (o : Ordering) → key_cmp other key ≡ o
        → cond (has (record { lo = mid; hi = After key }) other) (row_found schema.key_len other rows) None ≡ row_found schema.key_len other (option_to_list found)
    at other Less g = below (is_past_edge mid other) refl ∙ sym (only found here other false (ap is_eq g))
      where
        below : (b : Bool) → is_past_edge mid other ≡ b → cond (b && is_before_edge (After key) other) (row_found schema.key_len other rows) None ≡ None
        below false f = refl
        below true f = either (is_before_edge (After key) other) (none other f (ap (λ (o : Ordering). is_le (ordering_then o Greater)) g))
          where
            either : (b : Bool) {o : Option (List Value)} → o ≡ None → cond b o None ≡ None
            either true n = n
            either false n = refl
    at other Equal g =
        let same : other ≡ key = keys_exact other key g in
        ap (λ (b : Bool). cond b (row_found schema.key_len other rows) None) (both_pass (is_past_edge mid other) (is_before_edge (After key) other) (ap (is_past_edge mid) same ∙ past) (ap is_le g))
        ∙ ap (λ (k : List Value). row_found schema.key_len k rows) same ∙ here
        ∙ sym (only found here other true (ap is_eq g))
    at other Greater g =
        ap (λ (b : Bool). cond b (row_found schema.key_len other rows) None) (no_second (is_past_edge mid other) (is_before_edge (After key) other) (ap is_le g))
        ∙ sym (only found here other false (ap is_eq g))

-- what a walk has read grows by the live row of its visit
pub rows_read_more : (schema : Schema) (lo cursor : Edge) (key : List Value) (rows : List (List Value)) → IsSchema schema → IsTable schema rows → edge_le lo cursor ≡ true → is_past_edge cursor key ≡ true
    → ((other : List Value) → is_past_edge cursor other ≡ true → is_before_edge (Before key) other ≡ true → row_at schema other rows ≡ None)
    → rows_in schema (record { lo = lo; hi = After key }) rows ≡ rows_in schema (record { lo = lo; hi = cursor }) rows ++ option_to_list (row_at schema key rows)
rows_read_more schema lo cursor key rows is table low past none =
    rows_split schema lo cursor (After key) rows table low (edge_le_trans cursor (Before key) (After key) past (ap (λ (o : Ordering). is_le (ordering_then o Less)) (key_ties key)))
    ∙ ap (λ (rs : List (List Value)). rows_in schema (record { lo = lo; hi = cursor }) rows ++ rs) (one_row schema cursor key rows (row_at schema key rows) is table refl past none)

-- where no key has a row between two edges, the rows up to the one are those up to the other
pub rows_none_more : (schema : Schema) (lo mid hi : Edge) (rows : List (List Value)) → IsSchema schema → IsTable schema rows → edge_le lo mid ≡ true → edge_le mid hi ≡ true
    → ((other : List Value) → is_past_edge mid other ≡ true → is_before_edge hi other ≡ true → row_at schema other rows ≡ None)
    → rows_in schema (record { lo = lo; hi = hi }) rows ≡ rows_in schema (record { lo = lo; hi = mid }) rows
rows_none_more schema lo mid hi rows is table low high none =
    rows_split schema lo mid hi rows table low high
    ∙ ap (λ (rs : List (List Value)). rows_in schema (record { lo = lo; hi = mid }) rows ++ rs) empty
    ∙ append-nil (rows_in schema (record { lo = lo; hi = mid }) rows)
  where
    empty : rows_in schema (record { lo = mid; hi = hi }) rows ≡ []
    empty = same_rows schema.key_len (rows_in schema (record { lo = mid; hi = hi }) rows) []
        (filter_ordered schema.key_len (λ (row : List Value). has (record { lo = mid; hi = hi }) (key_of schema row)) rows (table_ordered schema rows is table)) tt
        (λ other. part_at schema.key_len (has (record { lo = mid; hi = hi })) other rows ∙ at other (is_past_edge mid other) refl (is_before_edge hi other) refl)
      where
        at : (other : List Value) (p : Bool) → is_past_edge mid other ≡ p → (q : Bool) → is_before_edge hi other ≡ q → cond (p && q) (row_found schema.key_len other rows) None ≡ None
        at other true e true f = none other e f
        at other true e false f = refl
        at other false e q f = refl
