-- What the rules on kinds and heights ask of a tree, and how it comes from its parts.
use Rattle.std.specs.Prelude.{ℕ, ◌+◌, min, max, Bool, true, false, List, [], ◌∷◌, Option, None, Some}
use Rattle.std.specs.Option.{option_or}
use Rattle.row_types.specs.declared.table_schema.Schema.{Schema}
use Rattle.statement_tokens.specs.declared.words.Word.{Word}
use Rattle.statement_tokens.specs.declared.words.Word.TheVariants as w
use Rattle.statement_grammar.specs.Cut.{Part, height}
use Rattle.statement_grammar.specs.Kinds as kinds
use Rattle.statement_reader.specs.declared.facts.Facts.{Facts}
use Rattle.statement_reader.specs.declared.facts.Sort.{Sort}
use Rattle.statement_reader.specs.declared.facts.Sort.TheVariants.{Number, Text, Any}

abbrev pub as_sort : kinds.Sort → Sort
as_sort kinds.OfNumber = Number
as_sort kinds.OfText = Text
as_sort kinds.OfAny = Any

-- the lesser of two places
abbrev pub least : Option ℕ → Option ℕ → Option ℕ
least None b = b
least (Some a) None = Some a
least (Some a) (Some b) = Some (min a b)

abbrev pub least_of : List ℕ → Option ℕ
least_of [] = None
least_of (place ∷ places) = least (Some place) (least_of places)

-- the facts of a tree so far; heights past 64 count as 65
abbrev pub facts_of : Schema → Part → Facts
facts_of schema part = record {
  height = min 65 (height part);
  place = kinds.begins_at part;
  sort = as_sort (kinds.sort_of schema part);
  text = kinds.text_operand schema part;
  breach = least_of (kinds.breaches schema part);
  unknown = least_of (kinds.unknown_in schema part);
}

-- whether a number meets a text
abbrev pub sorts_differ : Sort → Sort → Bool
sorts_differ Number Text = true
sorts_differ Text Number = true
sorts_differ a b = false

abbrev pub place_of_text : Sort → ℕ → Option ℕ
place_of_text Text place = Some place
place_of_text sort place = None

-- the place of the first text in an operand of arithmetic
abbrev pub text_in : Facts → Option ℕ
text_in x = option_or x.text (place_of_text x.sort x.place)

-- the breach of a comparison
abbrev pub compared : Facts → Facts → Option ℕ
compared l r = option_or l.text (option_or r.text (kinds.when_true (sorts_differ l.sort r.sort) r.place))

abbrev pub leaf_facts : ℕ → Sort → Option ℕ → Facts
leaf_facts place sort unknown = record { height = 1; place = place; sort = sort; text = None; breach = None; unknown = unknown }

abbrev pub sign_breach : Word → Facts → Option ℕ
sign_breach w.Not x = x.breach
sign_breach word x = text_in x

abbrev pub sign_facts : Word → ℕ → Facts → Facts
sign_facts word place x = record { height = min 65 (x.height + 1); place = place; sort = Number; text = text_in x; breach = sign_breach word x; unknown = x.unknown }

abbrev pub two_breach : Word → Facts → Facts → Option ℕ
two_breach w.And l r = least l.breach r.breach
two_breach w.Or l r = least l.breach r.breach
two_breach (w.Compare o) l r = compared l r
two_breach word l r = option_or (text_in l) (text_in r)

abbrev pub two_facts : Word → Facts → Facts → Facts
two_facts word l r = record { height = min 65 (max l.height r.height + 1); place = l.place; sort = Number; text = option_or (text_in l) (text_in r); breach = two_breach word l r; unknown = least l.unknown r.unknown }

abbrev pub lower_facts : Facts → Facts → Facts
lower_facts x l = record { height = min 65 (max x.height l.height + 2); place = x.place; sort = Any; text = None; breach = compared x l; unknown = least x.unknown l.unknown }

abbrev pub range_facts : Facts → Facts → Facts → Facts
range_facts x l h = record { height = min 65 (max x.height (max l.height h.height) + 2); place = x.place; sort = Any; text = None; breach = least (compared x l) (compared x h); unknown = least x.unknown (least l.unknown h.unknown) }

abbrev pub nullness_facts : Facts → Facts
nullness_facts x = record { height = min 65 (x.height + 1); place = x.place; sort = Any; text = None; breach = x.text; unknown = x.unknown }

abbrev pub paren_facts : ℕ → Facts → Facts
paren_facts place x = record { height = x.height; place = place; sort = x.sort; text = x.text; breach = x.breach; unknown = x.unknown }
