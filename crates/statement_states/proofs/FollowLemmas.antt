-- Behind an operand.
use Rattle.std.proofs.Common.{◌≡◌, ℕ, ◌≤◌, Bool, true, false, List, [], ◌∷◌, Option, Some, None, refl, sym, ap, subst, ◌∙◌, arith}
use Rattle.std.specs.Prelude.{not, ◌&&◌, if◌then◌else◌}
use Rattle.row_types.specs.declared.table_schema.Schema.{Schema}
use Rattle.statement_tokens.specs.declared.words.Math.TheVariants.{Plus, Minus, Times}
use Rattle.statement_tokens.specs.declared.words.Token.{Token}
use Rattle.statement_tokens.specs.declared.words.Word.{Word}
use Rattle.statement_tokens.specs.declared.words.Word.TheVariants as w
use Rattle.statement_grammar.specs.declared.frames.Frame.{Frame}
use Rattle.statement_grammar.specs.declared.frames.Frame.TheVariants.{Before, Behind, Low, High, Opened}
use Rattle.statement_grammar.specs.Grammar.{Setting}
use Rattle.statement_grammar.specs.Sentence.{Keys, setting}
use Rattle.statement_grammar.specs.Machine as m
use Rattle.statement_grammar.specs.Machine.{◌>>=◌, close, followed}
use Rattle.statement_operands.specs.Operands.{operands}
use Rattle.statement_operands.specs.declared.operands.Operand.{Operand}
use Rattle.statement_stacks.specs.Tops.{top_of}
use Rattle.statement_stacks.specs.Closes.{held_of, IsClosed}
use Rattle.statement_stacks.specs.declared.tops.Top.{Top}
use Rattle.statement_stacks.specs.declared.tops.Top.TheVariants as top
use Rattle.statement_stacks.specs.declared.closes.Held.{Held}
use Rattle.statement_stacks.specs.declared.closes.Closed.{Closed}
use Rattle.statement_states.specs.States.{AreAlike}
use Rattle.statement_states.specs.Steps.{IsStuck, IsStepped, closing_level, continued, takes, is_low, is_opened, follow_when, follow_of, state_by}
use Rattle.statement_states.specs.declared.follows.Follow.{Follow}
use Rattle.statement_states.specs.declared.follows.Follow.TheVariants as f
use Rattle.statement_states.specs.declared.states.Stepped.{Stepped}
use Rattle.statement_states.specs.declared.states.Stepped.TheVariants as s
use Rattle.statement_states.proofs.OperandLemmas.{takes_is}

when_state : (schema : Schema) (b : Bool) (follow : Follow) (state : m.State Operand) (q : m.Held Operand) (t : Token) → state_by schema follow q t ≡ Some state → m.when b state ≡ state_by schema (follow_when b follow) q t
when_state schema true follow state q t e = sym e
when_state schema false follow state q t e = refl

-- with the test that the machine makes
tested : (base : Bool) (key : Keys) (schema : Schema) (follow : Follow) (state : m.State Operand) (q : m.Held Operand) (t : Token) → state_by schema follow q t ≡ Some state
    → m.when (not q.condition && m.takes_condition (setting base key) q.stack) state ≡ state_by schema (follow_when (not q.condition && takes base (top_of q.stack)) follow) q t
tested base key schema follow state q t e =
    ap (λ (b : Bool). m.when (not q.condition && b) state) (sym (takes_is base key q.stack)) ∙ when_state schema (not q.condition && takes base (top_of q.stack)) follow state q t e

and_is : (schema : Schema) (fs : List (Frame Operand)) (c : Bool) (x : Operand) (t : Token) → m.and_then fs c x t ≡ state_by schema (follow_of true w.And (top_of fs) c) (record { stack = fs; condition = c; x = x }) t
and_is schema [] c x t = when_state schema c f.Right (m.Due (Behind x t ∷ [])) (record { stack = []; condition = c; x = x }) t refl
and_is schema (Before b ∷ fs) c x t = when_state schema c f.Right (m.Due (Behind x t ∷ Before b ∷ fs)) (record { stack = Before b ∷ fs; condition = c; x = x }) t refl
and_is schema (Behind y b ∷ fs) c x t = when_state schema c f.Right (m.Due (Behind x t ∷ Behind y b ∷ fs)) (record { stack = Behind y b ∷ fs; condition = c; x = x }) t refl
and_is schema (Low y b ∷ fs) true x t = refl
and_is schema (Low y b ∷ fs) false x t = refl
and_is schema (High v b l a ∷ fs) c x t = when_state schema c f.Right (m.Due (Behind x t ∷ High v b l a ∷ fs)) (record { stack = High v b l a ∷ fs; condition = c; x = x }) t refl
and_is schema (Opened o b ∷ fs) c x t = when_state schema c f.Right (m.Due (Behind x t ∷ Opened o b ∷ fs)) (record { stack = Opened o b ∷ fs; condition = c; x = x }) t refl

close_is : (schema : Schema) (fs : List (Frame Operand)) (c : Bool) (x : Operand) (t : Token) → m.closed (operands schema) fs c x t ≡ state_by schema (follow_when (is_opened (top_of fs)) f.End) (record { stack = fs; condition = c; x = x }) t
close_is schema [] c x t = refl
close_is schema (Before b ∷ fs) c x t = refl
close_is schema (Behind y b ∷ fs) c x t = refl
close_is schema (Low y b ∷ fs) c x t = refl
close_is schema (High v b l a ∷ fs) c x t = refl
close_is schema (Opened o b ∷ fs) c x t = refl

pub continued_is : (base : Bool) (key : Keys) (schema : Schema) (u : Word) (q : m.Held Operand) (t : Token) → continued (setting base key) schema u q t ≡ state_by schema (follow_of base u (top_of q.stack) q.condition) q t
continued_is base key schema (w.Math o) q t = when_state schema (not q.condition) f.Right (m.Due (Behind q.x t ∷ q.stack)) q t refl
continued_is base key schema (w.Compare o) q t = tested base key schema f.Right (m.Due (Behind q.x t ∷ q.stack)) q t refl
continued_is base key schema w.Between q t = tested base key schema f.Range (m.Due (Low q.x t ∷ q.stack)) q t refl
continued_is base key schema w.Is q t = tested base key schema f.Nullness (m.SawIs q t) q t refl
continued_is base key schema w.And q t = and_is schema q.stack q.condition q.x t
continued_is base key schema w.Or q t = when_state schema q.condition f.Right (m.Due (Behind q.x t ∷ q.stack)) q t refl
continued_is base key schema w.Close q t = close_is schema q.stack q.condition q.x t
continued_is base key schema _ q t = refl

only : (b : Bool) (follow other : Follow) → (follow ≡ other → ⊥) → (f.Misfit ≡ other → ⊥) → follow_when b follow ≡ other → ⊥
only true follow other n m e = n e
only false follow other n m e = m e

pub upper_is_low : (base : Bool) (u : Word) (above : Top) (c : Bool) → follow_of base u above c ≡ f.Upper → is_low above ≡ true
upper_is_low base (w.Math o) above c e = absurd (only (not c) f.Right f.Upper (λ d. cc) (λ d. cc) e)
upper_is_low base (w.Compare o) above c e = absurd (only (not c && takes base above) f.Right f.Upper (λ d. cc) (λ d. cc) e)
upper_is_low base w.Between above c e = absurd (only (not c && takes base above) f.Range f.Upper (λ d. cc) (λ d. cc) e)
upper_is_low base w.Is above c e = absurd (only (not c && takes base above) f.Nullness f.Upper (λ d. cc) (λ d. cc) e)
upper_is_low base w.And top.Low c e = refl
upper_is_low base w.And top.Bare c e = absurd (only c f.Right f.Upper (λ d. cc) (λ d. cc) e)
upper_is_low base w.And (top.Binds s b) c e = absurd (only c f.Right f.Upper (λ d. cc) (λ d. cc) e)
upper_is_low base w.And (top.Opened b) c e = absurd (only c f.Right f.Upper (λ d. cc) (λ d. cc) e)
upper_is_low base w.Or above c e = absurd (only c f.Right f.Upper (λ d. cc) (λ d. cc) e)
upper_is_low base w.Close above c e = absurd (only (is_opened above) f.End f.Upper (λ d. cc) (λ d. cc) e)
upper_is_low base _ above c e = cc

when_true : (b : Bool) → follow_when b f.End ≡ f.End → b ≡ true
when_true true e = refl
when_true false e = cc

pub end_is_opened : (base : Bool) (u : Word) (above : Top) (c : Bool) → follow_of base u above c ≡ f.End → is_opened above ≡ true
end_is_opened base (w.Math o) above c e = absurd (only (not c) f.Right f.End (λ d. cc) (λ d. cc) e)
end_is_opened base (w.Compare o) above c e = absurd (only (not c && takes base above) f.Right f.End (λ d. cc) (λ d. cc) e)
end_is_opened base w.Between above c e = absurd (only (not c && takes base above) f.Range f.End (λ d. cc) (λ d. cc) e)
end_is_opened base w.Is above c e = absurd (only (not c && takes base above) f.Nullness f.End (λ d. cc) (λ d. cc) e)
end_is_opened base w.And top.Low c e = absurd (only (not c) f.Upper f.End (λ d. cc) (λ d. cc) e)
end_is_opened base w.And top.Bare c e = absurd (only c f.Right f.End (λ d. cc) (λ d. cc) e)
end_is_opened base w.And (top.Binds s b) c e = absurd (only c f.Right f.End (λ d. cc) (λ d. cc) e)
end_is_opened base w.And (top.Opened b) c e = absurd (only c f.Right f.End (λ d. cc) (λ d. cc) e)
end_is_opened base w.Or above c e = absurd (only c f.Right f.End (λ d. cc) (λ d. cc) e)
end_is_opened base w.Close above c e = when_true (is_opened above) e
end_is_opened base _ above c e = cc

-- a word closes, and goes on from there
follows_closed : (g : Setting) (schema : Schema) (u : Word) (h : m.Held Operand) (t : Token) → 1 ≤ closing_level u
    → followed g (operands schema) u h t ≡ (close (operands schema) (closing_level u) h.stack h.condition h.x >>= λ (q : m.Held Operand). continued g schema u q t)
follows_closed g schema (w.Math o) h t l = refl
follows_closed g schema (w.Compare o) h t l = refl
follows_closed g schema w.Between h t l = refl
follows_closed g schema w.Is h t l = refl
follows_closed g schema w.And h t l = refl
follows_closed g schema w.Or h t l = refl
follows_closed g schema w.Close h t l = refl
follows_closed g schema _ h t l = absurd (omega arith)

at_done : (done : Bool) (q : m.Held Operand) → (b : Bool) → done ≡ b → (if done then Some q else None) ≡ (if b then Some q else None)
at_done done q b e = ap (λ (d : Bool). if d then Some q else None) e

closes_to : (g : Setting) (schema : Schema) (u : Word) (h : Held) (k : Closed) (t : Token) (b : Bool) → 1 ≤ closing_level u → IsClosed schema (closing_level u) h k → k.done ≡ b
    → followed g (operands schema) u (held_of h) t ≡ ((if b then Some (held_of k.held) else None) >>= λ (q : m.Held Operand). continued g schema u q t)
closes_to g schema u h k t b l c e =
    follows_closed g schema u (held_of h) t l ∙ ap (λ (o : Option (m.Held Operand)). o >>= λ (q : m.Held Operand). continued g schema u q t) (c.result ∙ at_done k.done (held_of k.held) b e)

alike_read : (schema : Schema) (k : ℕ) (h : Held) (z : Closed) → IsClosed schema k h z → AreAlike schema (m.Read (held_of h)) (m.Read (held_of z.held))
alike_read schema k h z c = record { facts = c.alike.facts; whole = c.alike.whole }

alike_through : (schema : Schema) (a b c : m.State Operand) → AreAlike schema a b → AreAlike schema b c → AreAlike schema a c
alike_through schema a b c p q = record { facts = p.facts ∙ q.facts; whole = p.whole ∙ q.whole }

pub steps_closed : (g : Setting) (schema : Schema) (u : Word) (h : Held) (k : Closed) (t : Token) (stepped : Stepped) → 1 ≤ closing_level u → IsClosed schema (closing_level u) h k → k.done ≡ true
    → IsStepped schema (continued g schema u (held_of k.held) t) (m.Read (held_of k.held)) t stepped
    → IsStepped schema (followed g (operands schema) u (held_of h) t) (m.Read (held_of h)) t stepped
steps_closed g schema u h k t (s.Moved state) l c e i = closes_to g schema u h k t true l c e ∙ i
steps_closed g schema u h k t (s.Stuck state token) l c e i = record {
  none = closes_to g schema u h k t true l c e ∙ i.none;
  alike = alike_through schema (m.Read (held_of h)) (m.Read (held_of k.held)) _ (alike_read schema (closing_level u) h k c) i.alike;
  token = i.token;
}

pub steps_at : (g : Setting) (schema : Schema) (u : Word) (h : Held) (k : Closed) (t : Token) (stepped : Stepped) (n : ℕ) → n ≡ closing_level u → 1 ≤ n → IsClosed schema n h k → k.done ≡ true
    → IsStepped schema (continued g schema u (held_of k.held) t) (m.Read (held_of k.held)) t stepped
    → IsStepped schema (followed g (operands schema) u (held_of h) t) (m.Read (held_of h)) t stepped
steps_at g schema u h k t stepped n e l c d i = steps_closed g schema u h k t stepped (omega arith) (subst (λ (j : ℕ). IsClosed schema j h k) e c) d i
