-- The rows of a table on the nodes that a word names.
use Rattle.std.specs.Prelude.{◌==◌, ◌&&◌, ◌||◌, leb, ℕ, suc, Bool, true, false, List, [], ◌∷◌, map, is_some}
use Rattle.std.specs.List.{AllByRecursion}
use Rattle.row_types.specs.declared.values.Value.{Value}
use Rattle.row_types.specs.KeyRows.{Row, Rows, HasKey, put_row, row_at}
use Rattle.ordered_table.specs.TableView.{TableView}
use Rattle.line_words.specs.declared.nodes.NodeWord.{NodeWord}
use Rattle.line_words.specs.declared.nodes.NodeWord.TheVariants as n

-- the word names the node of this number, 0 the source
abbrev pub is_for_word : NodeWord → ℕ → Bool
is_for_word n.All node = true
is_for_word n.Source node = node == 0
is_for_word (n.Replica replica) node = leb 1 replica && (node == replica)

abbrev pub row_put : Bool → Row → TableView → Rows
row_put true row table = put_row table.key_len row table.rows
row_put false row table = table.rows

-- the rows of nodes numbered from here on, with this row where the word names them
abbrev pub rows_put : NodeWord → Row → ℕ → List TableView → List Rows
rows_put which row node [] = []
rows_put which row node (table ∷ tables) = row_put (is_for_word which node) row table ∷ rows_put which row (suc node) tables

abbrev pub rows_of : List TableView → List Rows
rows_of tables = map (λ (table : TableView). table.rows) tables

abbrev pub key_lens : List TableView → List ℕ
key_lens tables = map (λ (table : TableView). table.key_len) tables

abbrev pub has_at : List Value → TableView → Bool
has_at key table = is_some (row_at table.key_len key table.rows)

-- one of the nodes that the word names, numbered from here on, has a row at the key
abbrev pub any_has : NodeWord → List Value → ℕ → List TableView → Bool
any_has which key node [] = false
any_has which key node (table ∷ tables) = (is_for_word which node && has_at key table) || any_has which key (suc node) tables

abbrev pub TakeRow : Row → List TableView → Type 0
TakeRow row tables = AllByRecursion (λ (table : TableView). HasKey table.key_len row) tables
