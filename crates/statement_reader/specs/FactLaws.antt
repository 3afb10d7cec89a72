-- The facts of a tree come from those of its parts.
use Rattle.std.specs.Prelude.{◌≡◌, None}
use Rattle.row_types.specs.declared.table_schema.Schema.{Schema}
use Rattle.statement_tokens.specs.declared.words.Token.{Token}
use Rattle.statement_grammar.specs.Cut.{Part, Gap, Leaf, Prefix, Binary, Lower, Range, Nullness, Paren, Signed}
use Rattle.statement_grammar.specs.Kinds.{sort_of_word, unknown}
use Rattle.statement_reader.specs.Facts.{as_sort, least_of, facts_of, leaf_facts, sign_facts, two_facts, lower_facts, range_facts, nullness_facts, paren_facts}
use Rattle.statement_reader.specs.declared.facts.Sort.TheVariants.{Number, Any}

pub record LeavesHaveFacts : Type 0 where
  pub gap : (schema : Schema) → facts_of schema Gap ≡ leaf_facts 0 Any None
  pub leaf : (schema : Schema) (t : Token) → facts_of schema (Leaf t) ≡ leaf_facts t.place (as_sort (sort_of_word schema t.word)) (least_of (unknown schema t.word t.place))

abbrev pub SignsHaveFacts : Type 0
SignsHaveFacts = (schema : Schema) (t : Token) (x : Part) → facts_of schema (Prefix t x) ≡ sign_facts t.word t.place (facts_of schema x)

abbrev pub PairsHaveFacts : Type 0
PairsHaveFacts = (schema : Schema) (l : Part) (t : Token) (r : Part) → facts_of schema (Binary l t r) ≡ two_facts t.word (facts_of schema l) (facts_of schema r)

abbrev pub LowersHaveFacts : Type 0
LowersHaveFacts = (schema : Schema) (x : Part) (b : Token) (l : Part) → facts_of schema (Lower x b l) ≡ lower_facts (facts_of schema x) (facts_of schema l)

abbrev pub RangesHaveFacts : Type 0
RangesHaveFacts = (schema : Schema) (x : Part) (b : Token) (l : Part) (a : Token) (h : Part) → facts_of schema (Range x b l a h) ≡ range_facts (facts_of schema x) (facts_of schema l) (facts_of schema h)

abbrev pub NullTestsHaveFacts : Type 0
NullTestsHaveFacts = (schema : Schema) (x : Part) (i : Token) → facts_of schema (Nullness x i) ≡ nullness_facts (facts_of schema x)

abbrev pub ParensHaveFacts : Type 0
ParensHaveFacts = (schema : Schema) (o : Token) (x : Part) → facts_of schema (Paren o x) ≡ paren_facts o.place (facts_of schema x)

abbrev pub SignedHaveFacts : Type 0
SignedHaveFacts = (schema : Schema) (t d : Token) → facts_of schema (Signed t d) ≡ leaf_facts t.place Number None
