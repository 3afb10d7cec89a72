-- The row that the items of a ROW line give.
use Rattle.std.specs.Prelude.{◌==◌, false, List, [], ◌∷◌, ◌++◌}
use Rattle.std.specs.Int.{w64, saturate_signed}
use Rattle.row_types.specs.declared.values.Value.{Value}
use Rattle.row_types.specs.declared.values.Value.TheVariants.{Null, Int, Text as OneText}
use Rattle.file_text.specs.declared.places.Keyword.{Keyword}
use Rattle.file_text.specs.declared.places.Keyword.TheVariants.{NullKeyword}
use Rattle.file_text.specs.Said.{signed}
use Rattle.line_words.specs.declared.nodes.NodeWord.TheVariants.{All}
use Rattle.line_items.specs.declared.found_items.LineItem.{LineItem}
use Rattle.line_items.specs.declared.found_items.LineItem.TheVariants as i
use Rattle.line_values.specs.declared.row_texts.RowText.{RowText}

abbrev pub no_row : RowText
no_row = record { node = All; table = []; values = []; minus = false }

abbrev pub with_value : Value → RowText → RowText
with_value value row = record { node = row.node; table = row.table; values = row.values ++ value ∷ []; minus = false }

abbrev pub with_keyword : Keyword → RowText → RowText
with_keyword NullKeyword row = with_value Null row
with_keyword word row = row

abbrev pub row_behind : RowText → LineItem → RowText
row_behind row (i.Node node) = record { node = node; table = row.table; values = row.values; minus = row.minus }
row_behind row (i.Name name) = record { node = row.node; table = name; values = row.values; minus = row.minus }
row_behind row (i.Sign sign) = record { node = row.node; table = row.table; values = row.values; minus = sign == 45 }
row_behind row (i.Digits n) = with_value (Int (saturate_signed w64 (signed row.minus n))) row
row_behind row (i.Quote text) = with_value (OneText text) row
row_behind row (i.Word word) = with_keyword word row
row_behind row item = row

abbrev pub row_on : RowText → List LineItem → RowText
row_on row [] = row
row_on row (item ∷ items) = row_on (row_behind row item) items

abbrev pub row_in : List LineItem → RowText
row_in items = row_on no_row items
