-- The facts of a tree come from those of its parts.
use Rattle.std.proofs.Common.{◌≡◌, ℕ, ◌+◌, min, max, Bool, List, [], ◌∷◌, ◌++◌, Option, None, Some, refl, ◌∙◌, ap, arith}
use Rattle.std.specs.Option.{option_or}
use Rattle.row_types.specs.declared.table_schema.Schema.{Schema}
use Rattle.statement_tokens.specs.declared.words.Word.{Word}
use Rattle.statement_tokens.specs.declared.words.Word.TheVariants as w
use Rattle.statement_grammar.specs.Cut.{Part, height}
use Rattle.statement_grammar.specs.Kinds as kinds
use Rattle.statement_reader.specs.Facts.{as_sort, least, least_of, facts_of, sorts_differ, place_of_text, text_in, compared, sign_breach, two_breach}
use Rattle.statement_reader.specs.FactLaws.{LeavesHaveFacts, SignsHaveFacts, PairsHaveFacts, LowersHaveFacts, RangesHaveFacts, NullTestsHaveFacts, ParensHaveFacts, SignedHaveFacts}
use Rattle.statement_reader.specs.declared.facts.Facts.{Facts}
use Rattle.statement_reader.specs.declared.facts.Sort.{Sort}
use Rattle.statement_reader.specs.declared.facts.Sort.TheVariants.{Number, Any}

least_one : (place : Option ℕ) → least_of (kinds.places place) ≡ place
least_one None = refl
least_one (Some n) = refl

min_assoc : (a b c : ℕ) → min a (min b c) ≡ min (min a b) c
min_assoc a b c = omega arith

least_assoc : (a : ℕ) (b c : Option ℕ) → least (Some a) (least b c) ≡ least (least (Some a) b) c
least_assoc a None c = refl
least_assoc a (Some b) None = refl
least_assoc a (Some b) (Some c) = ap (λ (n : ℕ). Some n) (min_assoc a b c)

least_more : (xs ys : List ℕ) → least_of (xs ++ ys) ≡ least (least_of xs) (least_of ys)
least_more [] ys = refl
least_more (x ∷ xs) ys = ap (λ (o : Option ℕ). least (Some x) o) (least_more xs ys) ∙ least_assoc x (least_of xs) (least_of ys)

own_is : (sort : kinds.Sort) (place : ℕ) → kinds.when_true (kinds.is_text sort) place ≡ place_of_text (as_sort sort) place
own_is kinds.OfNumber place = refl
own_is kinds.OfText place = refl
own_is kinds.OfAny place = refl

differ_is : (a b : kinds.Sort) → kinds.differ a b ≡ sorts_differ (as_sort a) (as_sort b)
differ_is kinds.OfNumber kinds.OfNumber = refl
differ_is kinds.OfNumber kinds.OfText = refl
differ_is kinds.OfNumber kinds.OfAny = refl
differ_is kinds.OfText kinds.OfNumber = refl
differ_is kinds.OfText kinds.OfText = refl
differ_is kinds.OfText kinds.OfAny = refl
differ_is kinds.OfAny kinds.OfNumber = refl
differ_is kinds.OfAny kinds.OfText = refl
differ_is kinds.OfAny kinds.OfAny = refl

or_assoc : (a b c : Option ℕ) → option_or a (option_or b c) ≡ option_or (option_or a b) c
or_assoc None b c = refl
or_assoc (Some n) b c = refl

-- the first text in an operand
text_is : (schema : Schema) (x : Part) → option_or (kinds.text_operand schema x) (kinds.own_text schema x) ≡ text_in (facts_of schema x)
text_is schema x = ap (λ (o : Option ℕ). option_or (kinds.text_operand schema x) o) (own_is (kinds.sort_of schema x) (kinds.begins_at x))

texts_are : (schema : Schema) (l r : Part)
    → option_or (kinds.text_operand schema l) (option_or (kinds.own_text schema l) (option_or (kinds.text_operand schema r) (kinds.own_text schema r))) ≡ option_or (text_in (facts_of schema l)) (text_in (facts_of schema r))
texts_are schema l r =
    or_assoc (kinds.text_operand schema l) (kinds.own_text schema l) (option_or (kinds.text_operand schema r) (kinds.own_text schema r))
    ∙ ap (λ (o : Option ℕ). option_or o (option_or (kinds.text_operand schema r) (kinds.own_text schema r))) (text_is schema l)
    ∙ ap (λ (o : Option ℕ). option_or (text_in (facts_of schema l)) o) (text_is schema r)

compared_is : (schema : Schema) (l r : Part) → kinds.breach schema l r ≡ compared (facts_of schema l) (facts_of schema r)
compared_is schema l r =
    ap (λ (b : Bool). option_or (kinds.text_operand schema l) (option_or (kinds.text_operand schema r) (kinds.when_true b (kinds.begins_at r)))) (differ_is (kinds.sort_of schema l) (kinds.sort_of schema r))

abbrev facts : ℕ → ℕ → Sort → Option ℕ → Option ℕ → Option ℕ → Facts
facts high place sort text breach unknown = record { height = high; place = place; sort = sort; text = text; breach = breach; unknown = unknown }

same_facts : (a b place : ℕ) (sort : Sort) (text breach unknown text_too breach_too unknown_too : Option ℕ) → a ≡ b → text ≡ text_too → breach ≡ breach_too → unknown ≡ unknown_too
    → facts a place sort text breach unknown ≡ facts b place sort text_too breach_too unknown_too
same_facts a b place sort text breach unknown text_too breach_too unknown_too high first broken named =
    ap (λ (n : ℕ). facts n place sort text breach unknown) high
    ∙ ap (λ (o : Option ℕ). facts b place sort o breach unknown) first
    ∙ ap (λ (o : Option ℕ). facts b place sort text_too o unknown) broken
    ∙ ap (λ (o : Option ℕ). facts b place sort text_too breach_too o) named

one_higher : (n : ℕ) → min 65 (n + 1) ≡ min 65 (min 65 n + 1)
one_higher n = omega arith

higher_of_two : (a b : ℕ) → min 65 (max a b + 1) ≡ min 65 (max (min 65 a) (min 65 b) + 1)
higher_of_two a b = omega arith

higher_by_two : (a b : ℕ) → min 65 (max a b + 2) ≡ min 65 (max (min 65 a) (min 65 b) + 2)
higher_by_two a b = omega arith

higher_of_three : (a b c : ℕ) → min 65 (max a (max b c) + 2) ≡ min 65 (max (min 65 a) (max (min 65 b) (min 65 c)) + 2)
higher_of_three a b c = omega arith

sign_breach_is : (schema : Schema) (word : Word) (x : Part) → least_of (kinds.sign_breaches schema word x (kinds.breaches schema x)) ≡ sign_breach word (facts_of schema x)
sign_breach_is schema w.Not x = refl
sign_breach_is schema _ x = least_one (option_or (kinds.text_operand schema x) (kinds.own_text schema x)) ∙ text_is schema x

two_breach_is : (schema : Schema) (word : Word) (l r : Part)
    → least_of (kinds.joined_breaches schema word l r (kinds.breaches schema l) (kinds.breaches schema r)) ≡ two_breach word (facts_of schema l) (facts_of schema r)
two_breach_is schema w.And l r = least_more (kinds.breaches schema l) (kinds.breaches schema r)
two_breach_is schema w.Or l r = least_more (kinds.breaches schema l) (kinds.breaches schema r)
two_breach_is schema (w.Compare o) l r = least_one (kinds.breach schema l r) ∙ compared_is schema l r
two_breach_is schema _ l r =
    least_one (option_or (kinds.text_operand schema l) (option_or (kinds.own_text schema l) (option_or (kinds.text_operand schema r) (kinds.own_text schema r)))) ∙ texts_are schema l r

pub leaves : LeavesHaveFacts
leaves = record { gap = λ schema. refl; leaf = λ schema t. refl }

pub signs : SignsHaveFacts
signs schema t x =
    same_facts (min 65 (height x + 1)) (min 65 (min 65 (height x) + 1)) t.place Number
    (option_or (kinds.text_operand schema x) (kinds.own_text schema x)) (least_of (kinds.sign_breaches schema t.word x (kinds.breaches schema x))) (least_of (kinds.unknown_in schema x))
    (text_in (facts_of schema x)) (sign_breach t.word (facts_of schema x)) (least_of (kinds.unknown_in schema x))
    (one_higher (height x)) (text_is schema x) (sign_breach_is schema t.word x) refl

unknown_of_two : (schema : Schema) (l r : Part) → least_of (kinds.unknown_in schema l ++ kinds.unknown_in schema r) ≡ least (least_of (kinds.unknown_in schema l)) (least_of (kinds.unknown_in schema r))
unknown_of_two schema l r = least_more (kinds.unknown_in schema l) (kinds.unknown_in schema r)

pub pairs : PairsHaveFacts
pairs schema l t r =
    same_facts (min 65 (max (height l) (height r) + 1)) (min 65 (max (min 65 (height l)) (min 65 (height r)) + 1)) (kinds.begins_at l) Number
    (option_or (kinds.text_operand schema l) (option_or (kinds.own_text schema l) (option_or (kinds.text_operand schema r) (kinds.own_text schema r))))
    (least_of (kinds.joined_breaches schema t.word l r (kinds.breaches schema l) (kinds.breaches schema r)))
    (least_of (kinds.unknown_in schema l ++ kinds.unknown_in schema r))
    (option_or (text_in (facts_of schema l)) (text_in (facts_of schema r))) (two_breach t.word (facts_of schema l) (facts_of schema r))
    (least (least_of (kinds.unknown_in schema l)) (least_of (kinds.unknown_in schema r)))
    (higher_of_two (height l) (height r)) (texts_are schema l r) (two_breach_is schema t.word l r) (unknown_of_two schema l r)

pub lowers : LowersHaveFacts
lowers schema x b l =
    same_facts (min 65 (max (height x) (height l) + 2)) (min 65 (max (min 65 (height x)) (min 65 (height l)) + 2)) (kinds.begins_at x) Any
    None (least_of (kinds.places (kinds.breach schema x l))) (least_of (kinds.unknown_in schema x ++ kinds.unknown_in schema l))
    None (compared (facts_of schema x) (facts_of schema l)) (least (least_of (kinds.unknown_in schema x)) (least_of (kinds.unknown_in schema l)))
    (higher_by_two (height x) (height l)) refl (least_one (kinds.breach schema x l) ∙ compared_is schema x l) (unknown_of_two schema x l)

both_breaches : (schema : Schema) (x l h : Part)
    → least_of (kinds.places (kinds.breach schema x l) ++ kinds.places (kinds.breach schema x h)) ≡ least (compared (facts_of schema x) (facts_of schema l)) (compared (facts_of schema x) (facts_of schema h))
both_breaches schema x l h =
    least_more (kinds.places (kinds.breach schema x l)) (kinds.places (kinds.breach schema x h))
    ∙ ap (λ (o : Option ℕ). least o (least_of (kinds.places (kinds.breach schema x h)))) (least_one (kinds.breach schema x l) ∙ compared_is schema x l)
    ∙ ap (λ (o : Option ℕ). least (compared (facts_of schema x) (facts_of schema l)) o) (least_one (kinds.breach schema x h) ∙ compared_is schema x h)

unknown_of_three : (schema : Schema) (x l h : Part)
    → least_of (kinds.unknown_in schema x ++ (kinds.unknown_in schema l ++ kinds.unknown_in schema h)) ≡ least (least_of (kinds.unknown_in schema x)) (least (least_of (kinds.unknown_in schema l)) (least_of (kinds.unknown_in schema h)))
unknown_of_three schema x l h =
    least_more (kinds.unknown_in schema x) (kinds.unknown_in schema l ++ kinds.unknown_in schema h)
    ∙ ap (λ (o : Option ℕ). least (least_of (kinds.unknown_in schema x)) o) (unknown_of_two schema l h)

pub ranges : RangesHaveFacts
ranges schema x b l a h =
    same_facts (min 65 (max (height x) (max (height l) (height h)) + 2)) (min 65 (max (min 65 (height x)) (max (min 65 (height l)) (min 65 (height h))) + 2)) (kinds.begins_at x) Any
    None (least_of (kinds.places (kinds.breach schema x l) ++ kinds.places (kinds.breach schema x h)))
    (least_of (kinds.unknown_in schema x ++ (kinds.unknown_in schema l ++ kinds.unknown_in schema h)))
    None (least (compared (facts_of schema x) (facts_of schema l)) (compared (facts_of schema x) (facts_of schema h)))
    (least (least_of (kinds.unknown_in schema x)) (least (least_of (kinds.unknown_in schema l)) (least_of (kinds.unknown_in schema h))))
    (higher_of_three (height x) (height l) (height h)) refl (both_breaches schema x l h) (unknown_of_three schema x l h)

pub null_tests : NullTestsHaveFacts
null_tests schema x i =
    same_facts (min 65 (height x + 1)) (min 65 (min 65 (height x) + 1)) (kinds.begins_at x) Any
    None (least_of (kinds.places (kinds.text_operand schema x))) (least_of (kinds.unknown_in schema x))
    None (kinds.text_operand schema x) (least_of (kinds.unknown_in schema x))
    (one_higher (height x)) refl (least_one (kinds.text_operand schema x)) refl

pub parens : ParensHaveFacts
parens schema o x = refl

pub signed : SignedHaveFacts
signed schema t d = refl
