-- Spans from one edge to another hold each key between these once.
use Rattle.std.proofs.Common.{◌≡◌, ◌∙◌, ℕ, ◌+◌, Bool, true, false, not, ◌&&◌, cond, List, [], ◌∷◌, ◌++◌, refl, ap, sym}
use Rattle.std.specs.Ordering.{is_le}
use Rattle.std.specs.declared.cmp.Ordering.{Ordering}
use Rattle.std.specs.declared.cmp.Ordering.TheVariants.{Less}
use Rattle.row_types.specs.declared.values.Value.{Value}
use Rattle.row_types.specs.declared.edges.Edge.{Edge}
use Rattle.row_types.specs.declared.edges.Edge.TheVariants.{Low, Before, High}
use Rattle.row_types.specs.declared.edges.Span.{Span}
use Rattle.row_types.specs.Order.{edge_cmp, edge_le, is_past_edge, has}
use Rattle.row_types.proofs.SpanLemmas.{edge_ties, edge_le_trans}
use Rattle.ordered_table.proofs.CutLemmas.{before_is}
use Rattle.checksum_tool_laws.specs.Cover.{Reaches, holding}

-- one span more
pub reaches_more : (lo mid : Edge) (spans : List Span) (span : Span) → Reaches lo spans mid → span.lo ≡ mid → edge_cmp span.lo span.hi ≡ Less → Reaches lo (spans ++ span ∷ []) span.hi
reaches_more lo mid [] span r at_mid less = (at_mid ∙ sym r, less, refl)
reaches_more lo mid (first ∷ spans) span r at_mid less = (r.0, r.1, reaches_more first.hi mid spans span r.2 at_mid less)

less_le : (o : Ordering) → o ≡ Less → is_le o ≡ true
less_le o e = ap is_le e

reaches_le : (lo hi : Edge) (spans : List Span) → Reaches lo spans hi → edge_le lo hi ≡ true
reaches_le lo hi [] r = ap is_le (ap (edge_cmp lo) (sym r) ∙ edge_ties lo)
reaches_le lo hi (span ∷ spans) r =
    edge_le_trans lo span.hi hi (ap (λ (e : Edge). edge_le e span.hi) (sym r.0) ∙ less_le (edge_cmp span.lo span.hi) r.1) (reaches_le span.hi hi spans r.2)

-- what lies past an edge lies past each lower one
past_lower : (key : List Value) (lo hi : Edge) → edge_le lo hi ≡ true → is_past_edge hi key ≡ true → is_past_edge lo key ≡ true
past_lower key lo hi le past = edge_le_trans lo hi (Before key) le past

-- one for a key past the lower edge and not past the upper one
abbrev between : Bool → Bool → ℕ
between lo hi = cond lo (cond hi 0 1) 0

no_between : (b : Bool) → between b b ≡ 0
no_between true = refl
no_between false = refl

-- a span and those behind it
one_more : (lo mid hi : Bool) → (mid ≡ true → lo ≡ true) → (hi ≡ true → mid ≡ true) → cond (lo && not mid) (between mid hi + 1) (between mid hi) ≡ between lo hi
one_more true true hi up high = refl
one_more true false true up high = absurd (let q : false ≡ true = high refl in cc)
one_more true false false up high = refl
one_more false true hi up high = absurd (let q : false ≡ true = up refl in cc)
one_more false false hi up high = refl

holding_between : (key : List Value) (lo hi : Edge) (spans : List Span) → Reaches lo spans hi → holding key spans ≡ between (is_past_edge lo key) (is_past_edge hi key)
holding_between key lo hi [] r = sym (ap (λ (e : Edge). between (is_past_edge lo key) (is_past_edge e key)) (sym r) ∙ no_between (is_past_edge lo key))
holding_between key lo hi (span ∷ spans) r =
    ap (λ (n : ℕ). cond (has span key) (n + 1) n) (holding_between key span.hi hi spans r.2)
    ∙ ap (λ (b : Bool). cond (is_past_edge span.lo key && b) (between (is_past_edge span.hi key) (is_past_edge hi key) + 1) (between (is_past_edge span.hi key) (is_past_edge hi key))) (before_is span.hi key)
    ∙ one_more (is_past_edge span.lo key) (is_past_edge span.hi key) (is_past_edge hi key)
    (past_lower key span.lo span.hi (less_le (edge_cmp span.lo span.hi) r.1)) (past_lower key span.hi hi (reaches_le span.hi hi spans r.2))
    ∙ ap (λ (e : Edge). between (is_past_edge e key) (is_past_edge hi key)) r.0

pub whole_once : (key : List Value) (spans : List Span) → Reaches Low spans High → holding key spans ≡ 1
whole_once key spans r = holding_between key Low High spans r
