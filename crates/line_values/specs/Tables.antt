-- The form of a table that the items of a TABLE line give. The items are read from the last to the first, so that
-- a column's kind is known where its name comes.
use Rattle.std.specs.Prelude.{◌+◌, leb, ℕ, true, false, List, [], ◌∷◌, ◌++◌, Option, None, Some, reverse, drop, if◌then◌else◌}
use Rattle.row_types.specs.declared.table_schema.ColumnKind.{ColumnKind}
use Rattle.row_types.specs.declared.table_schema.ColumnKind.TheVariants.{Int as IntColumn, BigInt, Text as TextColumn}
use Rattle.row_types.specs.declared.table_schema.Schema.{Schema}
use Rattle.file_text.specs.declared.places.Keyword.{Keyword}
use Rattle.file_text.specs.declared.places.Keyword.TheVariants.{IntWord, BigIntWord, KeyWord, NotWord}
use Rattle.line_items.specs.declared.found_items.LineItem.{LineItem}
use Rattle.line_items.specs.declared.found_items.LineItem.TheVariants as i
use Rattle.line_values.specs.declared.table_texts.TableDraft.{TableDraft}

abbrev pub fresh : TableDraft
fresh = record { columns = []; kind = IntColumn; nullable = true; keys = 0 }

abbrev pub one_more_key : ℕ → ℕ
one_more_key keys = if leb 2 keys then keys else keys + 1

abbrev pub short_length : ℕ → ℕ
short_length length = if leb 255 length then 255 else length

abbrev pub with_name : List ℕ → TableDraft → TableDraft
with_name name draft = record {
  columns = draft.columns ++ record { name = name; kind = draft.kind; nullable = draft.nullable } ∷ [];
  kind = IntColumn;
  nullable = true;
  keys = draft.keys;
}

abbrev pub of_kind : ColumnKind → TableDraft → TableDraft
of_kind kind draft = record { columns = draft.columns; kind = kind; nullable = draft.nullable; keys = draft.keys }

abbrev pub not_null : TableDraft → TableDraft
not_null draft = record { columns = draft.columns; kind = draft.kind; nullable = false; keys = draft.keys }

abbrev pub of_key : TableDraft → TableDraft
of_key draft = record { columns = draft.columns; kind = draft.kind; nullable = false; keys = one_more_key draft.keys }

abbrev pub with_word : Keyword → TableDraft → TableDraft
with_word IntWord draft = of_kind IntColumn draft
with_word BigIntWord draft = of_kind BigInt draft
with_word KeyWord draft = of_key draft
with_word NotWord draft = not_null draft
with_word word draft = draft

abbrev pub drafted : LineItem → TableDraft → TableDraft
drafted (i.Name name) draft = with_name name draft
drafted (i.Word word) draft = with_word word draft
drafted (i.Length length) draft = of_kind (TextColumn (short_length length)) draft
drafted item draft = draft

abbrev pub drafted_on : List LineItem → TableDraft → TableDraft
drafted_on [] draft = draft
drafted_on (item ∷ items) draft = drafted item (drafted_on items draft)

abbrev pub name_of : LineItem → Option (List ℕ)
name_of (i.Name name) = Some name
name_of item = None

abbrev pub name_or : Option (List ℕ) → List ℕ → List ℕ
name_or None rest = rest
name_or (Some name) rest = name

abbrev pub name_in : List LineItem → List ℕ
name_in [] = []
name_in (item ∷ items) = name_or (name_of item) (name_in items)

-- the columns behind the line's first word and the table's name
abbrev pub draft_in : List LineItem → TableDraft
draft_in items = drafted_on (drop 2 items) fresh

abbrev pub schema_in : List LineItem → Schema
schema_in items = record { name = name_in items; columns = reverse (draft_in items).columns; key_len = (draft_in items).keys }
