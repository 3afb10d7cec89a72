-- What comes of a token.
use Rattle.std.specs.Prelude.{◌≡◌, ℕ, Bool, true, false, not, ◌&&◌, List, ◌∷◌, Option, None, Some}
use Rattle.row_types.specs.declared.table_schema.Schema.{Schema}
use Rattle.statement_tokens.specs.declared.words.Token.{Token}
use Rattle.statement_tokens.specs.declared.words.Word.{Word}
use Rattle.statement_tokens.specs.declared.words.Word.TheVariants as w
use Rattle.statement_grammar.specs.declared.frames.Frame.TheVariants.{Behind, Low, Opened}
use Rattle.statement_grammar.specs.declared.frames.Frame.{Frame}
use Rattle.statement_grammar.specs.Grammar.{Setting, level}
use Rattle.statement_grammar.specs.Machine as m
use Rattle.statement_grammar.specs.Machine.{takes_condition, when, and_then, closed}
use Rattle.statement_operands.specs.Operands.{operands}
use Rattle.statement_operands.specs.declared.operands.Operand.{Operand}
use Rattle.statement_stacks.specs.declared.tops.Top.{Top}
use Rattle.statement_stacks.specs.declared.tops.Top.TheVariants as top
use Rattle.statement_states.specs.States.{state_of, AreAlike}
use Rattle.statement_states.specs.declared.follows.Follow.{Follow}
use Rattle.statement_states.specs.declared.follows.Follow.TheVariants as f
use Rattle.statement_states.specs.declared.states.Stepped.{Stepped}
use Rattle.statement_states.specs.declared.states.Stepped.TheVariants as s

-- nothing follows; as much is read, and the token is given back
pub record IsStuck (schema : Schema) (next : Option (m.State Operand)) (before behind : m.State Operand) (t given : Token) : Type 0 where
  pub none : next ≡ None
  pub alike : AreAlike schema before behind
  pub token : given ≡ t

abbrev pub IsStepped : Schema → Option (m.State Operand) → m.State Operand → Token → Stepped → Type 0
IsStepped schema next before t (s.Moved state) = next ≡ Some (state_of state)
IsStepped schema next before t (s.Stuck state token) = IsStuck schema next before (state_of state) t token

-- how far a word closes what is open before it; 0 where it follows no operand
abbrev pub closing_level : Word → ℕ
closing_level (w.Math o) = level (w.Math o)
closing_level (w.Compare o) = 5
closing_level w.Between = 5
closing_level w.Is = 5
closing_level w.And = 2
closing_level w.Or = 1
closing_level w.Close = 1
closing_level word = 0

-- the state behind a word where all is closed that it closes
abbrev pub continued : Setting → Schema → Word → m.Held Operand → Token → Option (m.State Operand)
continued g schema (w.Math o) q t = when (not q.condition) (m.Due (Behind q.x t ∷ q.stack))
continued g schema (w.Compare o) q t = when (not q.condition && takes_condition g q.stack) (m.Due (Behind q.x t ∷ q.stack))
continued g schema w.Between q t = when (not q.condition && takes_condition g q.stack) (m.Due (Low q.x t ∷ q.stack))
continued g schema w.Is q t = when (not q.condition && takes_condition g q.stack) (m.SawIs q t)
continued g schema w.And q t = and_then q.stack q.condition q.x t
continued g schema w.Or q t = when q.condition (m.Due (Behind q.x t ∷ q.stack))
continued g schema w.Close q t = closed (operands schema) q.stack q.condition q.x t
continued g schema word q t = None

-- whether a condition may stand behind what is open
abbrev pub takes : Bool → Top → Bool
takes base top.Bare = base
takes base (top.Binds strength wants) = wants
takes base top.Low = false
takes base (top.Opened may) = may

abbrev pub is_low : Top → Bool
is_low top.Low = true
is_low _ = false

abbrev pub is_opened : Top → Bool
is_opened (top.Opened may) = true
is_opened _ = false

abbrev pub follow_when : Bool → Follow → Follow
follow_when true follow = follow
follow_when false follow = f.Misfit

abbrev pub follow_and : Top → Bool → Follow
follow_and top.Low c = follow_when (not c) f.Upper
follow_and above c = follow_when c f.Right

-- what follows by a word, by what is open and whether the operand before it is a condition
abbrev pub follow_of : Bool → Word → Top → Bool → Follow
follow_of base (w.Math o) above c = follow_when (not c) f.Right
follow_of base (w.Compare o) above c = follow_when (not c && takes base above) f.Right
follow_of base w.Between above c = follow_when (not c && takes base above) f.Range
follow_of base w.Is above c = follow_when (not c && takes base above) f.Nullness
follow_of base w.And above c = follow_and above c
follow_of base w.Or above c = follow_when c f.Right
follow_of base w.Close above c = follow_when (is_opened above) f.End
follow_of base word above c = f.Misfit

abbrev pub state_by : Schema → Follow → m.Held Operand → Token → Option (m.State Operand)
state_by schema f.Misfit q t = None
state_by schema f.Right q t = Some (m.Due (Behind q.x t ∷ q.stack))
state_by schema f.Range q t = Some (m.Due (Low q.x t ∷ q.stack))
state_by schema f.Nullness q t = Some (m.SawIs q t)
state_by schema f.Upper q t = and_then q.stack false q.x t
state_by schema f.End q t = closed (operands schema) q.stack q.condition q.x t

-- a parenthesis that takes a condition is innermost
abbrev pub may_compare : Top → Bool
may_compare (top.Opened may) = may
may_compare _ = false

-- behind such a parenthesis and the first column of the key
abbrev pub lone_state : List (Frame Operand) → Token → Option (m.State Operand)
lone_state (Opened o true ∷ fs) t = Some (m.Lone fs o t)
lone_state _ t = None
