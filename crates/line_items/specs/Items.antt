-- The items of a line as the reader keeps them.
use Rattle.std.specs.Prelude.{◌≡◌, ℕ, List, Some}
use Rattle.file_text.specs.declared.places.Spot.{Spot}
use Rattle.file_text.specs.Said.{Item, Word, Sign, Name, Version, Count, Length, NodeWord, SessionWord, LocalWord, Turns, Digits, Quote, IsItem}
use Rattle.file_text.specs.Spots.{moved}
use Rattle.line_words.specs.Actors.{kept}
use Rattle.line_words.specs.Items.{kept_word, kept_node}
use Rattle.line_items.specs.declared.found_items.LineItem.{LineItem}
use Rattle.line_items.specs.declared.found_items.LineItem.TheVariants as i
use Rattle.line_items.specs.declared.found_items.FoundItem.{FoundItem}

abbrev pub kept_item : Item → LineItem
kept_item (Word keyword) = i.Word keyword
kept_item (Sign sign) = i.Sign sign
kept_item (Name name) = i.Name name
kept_item (Version number) = i.Version (kept number)
kept_item (Count number) = i.Count (kept number)
kept_item (Length number) = i.Length (kept number)
kept_item (NodeWord node) = i.Node (kept_node node)
kept_item (SessionWord session) = i.Session (kept session)
kept_item (LocalWord replica session) = i.Local (kept replica) (kept session)
kept_item (Turns word) = i.Turns (kept_word word)
kept_item (Digits number) = i.Digits (kept number)
kept_item (Quote text) = i.Quote text

-- the text is this item, which may stand at the place
pub record IsItemAt (spot : Spot) (text : List ℕ) (found : FoundItem) : Type 0 where
  pub item : Item
  pub moves : moved spot item ≡ Some found.next
  pub is : IsItem item text
  pub kept : found.item ≡ kept_item item

-- the text is no item that may stand at the place
abbrev pub NoItemAt : Spot → List ℕ → Type 0
NoItemAt spot text = (item : Item) (next : Spot) → moved spot item ≡ Some next → IsItem item text → ⊥
