-- What single items of a line give: the level, the number of replicas, a replica, the words of a schedule.
use Rattle.std.specs.Prelude.{◌||◌, ℕ, Bool, true, false, List, [], ◌∷◌, Option, None, Some}
use Rattle.file_text.specs.declared.places.Keyword.TheVariants.{RepeatableWord}
use Rattle.line_words.specs.declared.items.ItemWord.{ItemWord}
use Rattle.line_items.specs.declared.found_items.LineItem.{LineItem}
use Rattle.line_items.specs.declared.found_items.LineItem.TheVariants as i

abbrev pub is_repeatable_word : LineItem → Bool
is_repeatable_word (i.Word RepeatableWord) = true
is_repeatable_word item = false

abbrev pub repeatable_in : List LineItem → Bool
repeatable_in [] = false
repeatable_in (item ∷ items) = is_repeatable_word item || repeatable_in items

abbrev pub counted : LineItem → Option ℕ
counted (i.Count count) = Some count
counted item = None

abbrev pub or_else : Option ℕ → ℕ → ℕ
or_else None n = n
or_else (Some m) n = m

abbrev pub the_count : List LineItem → ℕ
the_count [] = 0
the_count (item ∷ items) = or_else (counted item) (the_count items)

abbrev pub replica_of : LineItem → Option ℕ
replica_of (i.Local replica session) = Some replica
replica_of item = None

abbrev pub the_replica : List LineItem → ℕ
the_replica [] = 0
the_replica (item ∷ items) = or_else (replica_of item) (the_replica items)

abbrev pub before_words : LineItem → List ItemWord → List ItemWord
before_words (i.Turns word) words = word ∷ words
before_words item words = words

abbrev pub the_words : List LineItem → List ItemWord
the_words [] = []
the_words (item ∷ items) = before_words item (the_words items)
