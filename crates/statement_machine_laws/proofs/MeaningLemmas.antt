-- What operands and states are, in the words of the grammar.
use Rattle.std.proofs.Common.{◌≡◌, ℕ, ◌+◌, ◌≤◌, min, max, Bool, true, false, List, [], ◌∷◌, refl, sym, ap, ◌∙◌, arith, nat_lt}
use Rattle.std.specs.Prelude.{if◌then◌else◌}
use Rattle.std.proofs.lemmas.Bool.Decides.{nat_tests}
use Rattle.row_types.specs.declared.table_schema.Schema.{Schema}
use Rattle.ptc_statement.specs.declared.conditions.Cond.{roll-Cond}
use Rattle.ptc_statement.specs.declared.conditions.Cond.TheOpen as c
use Rattle.statement_tokens.specs.declared.words.Token.{Token}
use Rattle.statement_grammar.specs.declared.frames.Frame.{Frame}
use Rattle.statement_grammar.specs.declared.frames.Frame.TheVariants.{Before, Behind, Low, High, Opened}
use Rattle.statement_grammar.specs.Grammar as g
use Rattle.statement_grammar.specs.Grammar.{Shape, is_number}
use Rattle.statement_grammar.specs.Machine.{made, Held, Due, Read, SawIs, SawNot, Lone, InRow, SawMinus}
use Rattle.statement_grammar.specs.Cut.{Part, Gap, Leaf, Prefix, Binary, Lower, Range, Nullness, Paren, Signed, RowTest, parts, whole, height}
use Rattle.statement_grammar.specs.SoFar.{filled_up}
use Rattle.statement_grammar.specs.Terms.{Term, OfExpr, OfCond, terms, sign_term, two_term, expr_in, is_negated}
use Rattle.statement_reader.specs.Facts.{facts_of, sign_facts, two_facts, lower_facts, range_facts, nullness_facts, paren_facts}
use Rattle.statement_reader.specs.declared.facts.Facts.{Facts}
use Rattle.statement_reader.proofs.FactLemmas.{signs, pairs, lowers, ranges, null_tests, parens}
use Rattle.statement_operands.specs.Trees.{term_of, tree_of, expr_of}
use Rattle.statement_operands.specs.Operands.{operands, range_term}
use Rattle.statement_operands.specs.declared.operands.Tree.{Tree}
use Rattle.statement_stacks.specs.Plugs.{plug}
use Rattle.statement_stacks.specs.Levels.{around}
use Rattle.statement_machine_laws.specs.Images.{stack_image, HasFacts, HasHeight, HasTrees}

-- the facts of an operand are those of its tree
pub operand_facts : (schema : Schema) (s : Shape) → (made (operands schema) s).facts ≡ facts_of schema (whole s)
operand_facts schema (g.Leaf t) = refl
operand_facts schema (g.Prefix t s) = ap (sign_facts t.word t.place) (operand_facts schema s) ∙ sym (signs schema t (whole s))
operand_facts schema (g.Binary l t r) =
    ap (λ (x : Facts). two_facts t.word x (made (operands schema) r).facts) (operand_facts schema l)
    ∙ ap (two_facts t.word (facts_of schema (whole l))) (operand_facts schema r) ∙ sym (pairs schema (whole l) t (whole r))
operand_facts schema (g.Range x b l a h) =
    ap (λ (y : Facts). range_facts y (made (operands schema) l).facts (made (operands schema) h).facts) (operand_facts schema x)
    ∙ ap (λ (y : Facts). range_facts (facts_of schema (whole x)) y (made (operands schema) h).facts) (operand_facts schema l)
    ∙ ap (range_facts (facts_of schema (whole x)) (facts_of schema (whole l))) (operand_facts schema h)
    ∙ sym (ranges schema (whole x) b (whole l) a (whole h))
operand_facts schema (g.Nullness x i ws) = ap nullness_facts (operand_facts schema x) ∙ sym (null_tests schema (whole x) i)
operand_facts schema (g.Paren o s p) = ap (paren_facts o.place) (operand_facts schema s) ∙ sym (parens schema o (whole s))
operand_facts schema (g.Signed t d) = refl
operand_facts schema (g.RowTest ts) = refl

-- ---- facts of states

pub plug_is : (schema : Schema) (fs : List (Frame Shape)) (x : Part) → plug (stack_image (operands schema) fs) (facts_of schema x) ≡ facts_of schema (filled_up (stack_image parts fs) x)
plug_is schema [] x = refl
plug_is schema (Before t ∷ fs) x = ap (plug (stack_image (operands schema) fs)) (sym (signs schema t x)) ∙ plug_is schema fs (Prefix t x)
plug_is schema (Behind l t ∷ fs) x =
    ap (λ (y : Facts). plug (stack_image (operands schema) fs) (two_facts t.word y (facts_of schema x))) (operand_facts schema l)
    ∙ ap (plug (stack_image (operands schema) fs)) (sym (pairs schema (whole l) t x)) ∙ plug_is schema fs (Binary (whole l) t x)
plug_is schema (Low v b ∷ fs) x =
    ap (λ (y : Facts). plug (stack_image (operands schema) fs) (lower_facts y (facts_of schema x))) (operand_facts schema v)
    ∙ ap (plug (stack_image (operands schema) fs)) (sym (lowers schema (whole v) b x)) ∙ plug_is schema fs (Lower (whole v) b x)
plug_is schema (High v b l a ∷ fs) x =
    ap (λ (y : Facts). plug (stack_image (operands schema) fs) (range_facts y (made (operands schema) l).facts (facts_of schema x))) (operand_facts schema v)
    ∙ ap (λ (y : Facts). plug (stack_image (operands schema) fs) (range_facts (facts_of schema (whole v)) y (facts_of schema x))) (operand_facts schema l)
    ∙ ap (plug (stack_image (operands schema) fs)) (sym (ranges schema (whole v) b (whole l) a x)) ∙ plug_is schema fs (Range (whole v) b (whole l) a x)
plug_is schema (Opened o takes ∷ fs) x = ap (plug (stack_image (operands schema) fs)) (sym (parens schema o x)) ∙ plug_is schema fs (Paren o x)

null_is : (schema : Schema) (h : Held Shape) (i : Token) → plug (stack_image (operands schema) h.stack) (nullness_facts (made (operands schema) h.x).facts) ≡ facts_of schema (filled_up (stack_image parts h.stack) (Nullness (whole h.x) i))
null_is schema h i =
    ap (λ (y : Facts). plug (stack_image (operands schema) h.stack) (nullness_facts y)) (operand_facts schema h.x)
    ∙ ap (plug (stack_image (operands schema) h.stack)) (sym (null_tests schema (whole h.x) i)) ∙ plug_is schema h.stack (Nullness (whole h.x) i)

pub has_facts : HasFacts
has_facts schema (Due fs) = plug_is schema fs Gap
has_facts schema (Read h) = ap (plug (stack_image (operands schema) h.stack)) (operand_facts schema h.x) ∙ plug_is schema h.stack (whole h.x)
has_facts schema (SawIs h i) = null_is schema h i
has_facts schema (SawNot h i n) = null_is schema h i
has_facts schema (Lone fs o a) = plug_is schema fs (Paren o (Leaf a))
has_facts schema (InRow fs seen slot slots) = plug_is schema fs (RowTest seen)
has_facts schema (SawMinus fs o) = ap (plug (stack_image (operands schema) fs)) (sym (signs schema o Gap)) ∙ plug_is schema fs (Prefix o Gap)

-- ---- heights of states

operand_height : (schema : Schema) (s : Shape) → (made (operands schema) s).facts.height ≡ min 65 (height (whole s))
operand_height schema s = ap (λ (f : Facts). f.height) (operand_facts schema s)

around_is : (schema : Schema) (fs : List (Frame Shape)) (n : ℕ) (x : Part) → min 65 n ≡ min 65 (height x) → around (stack_image (operands schema) fs) n ≡ min 65 (height (filled_up (stack_image parts fs) x))
around_is schema [] n x e = e
around_is schema (Before t ∷ fs) n x e = around_is schema fs (max 0 n + 1) (Prefix t x) (omega arith)
around_is schema (Behind l t ∷ fs) n x e =
    let a : (made (operands schema) l).facts.height ≡ min 65 (height (whole l)) = operand_height schema l in
    around_is schema fs (max (made (operands schema) l).facts.height n + 1) (Binary (whole l) t x) (omega arith)
around_is schema (Low v b ∷ fs) n x e =
    let a : (made (operands schema) v).facts.height ≡ min 65 (height (whole v)) = operand_height schema v in
    around_is schema fs (max (made (operands schema) v).facts.height n + 2) (Lower (whole v) b x) (omega arith)
around_is schema (High v b l q ∷ fs) n x e =
    let a : (made (operands schema) v).facts.height ≡ min 65 (height (whole v)) = operand_height schema v in
    let d : (made (operands schema) l).facts.height ≡ min 65 (height (whole l)) = operand_height schema l in
    around_is schema fs (max (max (made (operands schema) v).facts.height (made (operands schema) l).facts.height) n + 2) (Range (whole v) b (whole l) q x) (omega arith)
around_is schema (Opened o takes ∷ fs) n x e = around_is schema fs (max 0 n + 0) (Paren o x) (omega arith)

null_height : (schema : Schema) (h : Held Shape) (i : Token) → around (stack_image (operands schema) h.stack) (nullness_facts (made (operands schema) h.x).facts).height ≡ min 65 (height (filled_up (stack_image parts h.stack) (Nullness (whole h.x) i)))
null_height schema h i =
    let a : (made (operands schema) h.x).facts.height ≡ min 65 (height (whole h.x)) = operand_height schema h.x in
    around_is schema h.stack (nullness_facts (made (operands schema) h.x).facts).height (Nullness (whole h.x) i) (omega arith)

sign_height : (schema : Schema) (fs : List (Frame Shape)) (o t : Token) (b : Bool)
    → around (stack_image (operands schema) fs) (if b then 1 else 2) ≡ min 65 (height (if b then filled_up (stack_image parts fs) (Signed o t) else filled_up (stack_image parts fs) (Prefix o Gap)))
sign_height schema fs o t true = around_is schema fs 1 (Signed o t) refl
sign_height schema fs o t false = around_is schema fs 2 (Prefix o Gap) refl

pub has_height : HasHeight
has_height schema (Due fs) t = around_is schema fs 1 Gap refl
has_height schema (Read h) t =
    let a : (made (operands schema) h.x).facts.height ≡ min 65 (height (whole h.x)) = operand_height schema h.x in
    around_is schema h.stack (made (operands schema) h.x).facts.height (whole h.x) (omega arith)
has_height schema (SawIs h i) t = null_height schema h i
has_height schema (SawNot h i n) t = null_height schema h i
has_height schema (Lone fs o a) t = around_is schema fs 1 (Paren o (Leaf a)) refl
has_height schema (InRow fs seen slot slots) t = around_is schema fs 1 (RowTest seen) refl
has_height schema (SawMinus fs o) t = sign_height schema fs o t (is_number t.word)

-- ---- meanings

back : (x : Term) → term_of (tree_of x) ≡ x
back (OfExpr x) = refl
back (OfCond x) = refl

low_enough : (schema : Schema) (s : Shape) → height (whole s) ≤ 64 → nat_lt 64 (made (operands schema) s).facts.height ≡ false
low_enough schema s h = let a : (made (operands schema) s).facts.height ≡ min 65 (height (whole s)) = operand_height schema s in let b : (made (operands schema) s).facts.height ≤ 64 = omega arith in not_lt (made (operands schema) s).facts.height b
  where
    not_lt : (n : ℕ) → n ≤ 64 → nat_lt 64 n ≡ false
    not_lt n l = grind (arith, nat_tests)

taken : (b : Bool) (leaf x : Tree) → b ≡ false → (if b then leaf else x) ≡ x
taken true leaf x e = cc
taken false leaf x e = refl

term_is : (schema : Schema) (s : Shape) → (made (operands schema) s).tree ≡ tree_of (made (terms schema) s) → term_of (made (operands schema) s).tree ≡ made (terms schema) s
term_is schema s e = ap term_of e ∙ back (made (terms schema) s)

pub has_trees : HasTrees
has_trees schema (g.Leaf t) h = refl
has_trees schema (g.Prefix t s) h =
    taken _ _ _ (low_enough schema (g.Prefix t s) h)
    ∙ ap (λ (x : Term). tree_of (sign_term t.word x)) (term_is schema s (has_trees schema s (omega arith)))
has_trees schema (g.Binary l t r) h =
    taken _ _ _ (low_enough schema (g.Binary l t r) h)
    ∙ ap (λ (x : Term). tree_of (two_term t.word x (term_of (made (operands schema) r).tree))) (term_is schema l (has_trees schema l (omega arith)))
    ∙ ap (λ (x : Term). tree_of (two_term t.word (made (terms schema) l) x)) (term_is schema r (has_trees schema r (omega arith)))
has_trees schema (g.Range x b l a y) h =
    taken _ _ _ (low_enough schema (g.Range x b l a y) h)
    ∙ ap (λ (z : Term). range_term (expr_in z) (expr_of (made (operands schema) l).tree) (expr_of (made (operands schema) y).tree)) (term_is schema x (has_trees schema x (omega arith)))
    ∙ ap (λ (z : Term). range_term (expr_in (made (terms schema) x)) (expr_in z) (expr_of (made (operands schema) y).tree)) (term_is schema l (has_trees schema l (omega arith)))
    ∙ ap (λ (z : Term). range_term (expr_in (made (terms schema) x)) (expr_in (made (terms schema) l)) (expr_in z)) (term_is schema y (has_trees schema y (omega arith)))
has_trees schema (g.Nullness x i ws) h =
    taken _ _ _ (low_enough schema (g.Nullness x i ws) h)
    ∙ ap (λ (z : Term). tree_of (OfCond (roll-Cond (c.IsNull (expr_in z) (is_negated ws))))) (term_is schema x (has_trees schema x (omega arith)))
has_trees schema (g.Paren o s p) h = has_trees schema s h
has_trees schema (g.Signed t d) h = refl
has_trees schema (g.RowTest ts) h = refl
