-- From one state to the next.
use Rattle.std.proofs.Common.{◌≡◌, true, false, List, [], ◌∷◌, ◌++◌, Option, Some, None, refl, sym, ap, ◌∙◌}
use Rattle.std.specs.Option.{option_map}
use Rattle.row_types.specs.declared.table_schema.Schema.{Schema}
use Rattle.statement_tokens.specs.declared.words.Token.{Token}
use Rattle.statement_tokens.specs.declared.words.Word.{Word}
use Rattle.statement_tokens.specs.declared.words.Word.TheVariants as w
use Rattle.statement_grammar.specs.declared.frames.Frame.{Frame}
use Rattle.statement_grammar.specs.declared.frames.Frame.TheVariants.{Before}
use Rattle.statement_grammar.specs.Grammar.{Setting, Slot, is_number, is_comma, slot_after, after_comma}
use Rattle.statement_grammar.specs.Machine as m
use Rattle.statement_operands.specs.Operands.{operands, signed_operand}
use Rattle.statement_operands.specs.declared.operands.Operand.{Operand}
use Rattle.statement_states.specs.Steps.{IsStepped}
use Rattle.statement_states.specs.declared.states.Stepped.{Stepped}
use Rattle.statement_states.specs.declared.states.Stepped.TheVariants as s

minus_parts : (g : Setting) (schema : Schema) (fs : List (Frame Operand)) (o t : Token) → is_number t.word ≡ false → m.behind_minus g (operands schema) fs o t ≡ m.begun g (operands schema) t.word (Before o ∷ fs) t
minus_parts g schema fs o t e = rw e refl

pub minus_steps : (g : Setting) (schema : Schema) (fs : List (Frame Operand)) (o t : Token) (stepped : Stepped) → is_number t.word ≡ false
    → IsStepped schema (m.begun g (operands schema) t.word (Before o ∷ fs) t) (m.Due (Before o ∷ fs)) t stepped
    → IsStepped schema (m.behind_minus g (operands schema) fs o t) (m.SawMinus fs o) t stepped
minus_steps g schema fs o t (s.Moved state) e i = minus_parts g schema fs o t e ∙ i
minus_steps g schema fs o t (s.Stuck state token) e i = record {
  none = minus_parts g schema fs o t e ∙ i.none;
  alike = record { facts = i.alike.facts; whole = i.alike.whole };
  token = i.token;
}

no_comma : (g : Setting) (schema : Schema) (u : Word) (fs : List (Frame Operand)) (o a t : Token) → is_comma u ≡ false → m.behind_lone g (operands schema) u fs o a t ≡ m.followed g (operands schema) u (m.lone_held (operands schema) fs o a) t
no_comma g schema w.Comma fs o a t e = cc
no_comma g schema _ fs o a t e = refl

pub lone_steps : (g : Setting) (schema : Schema) (fs : List (Frame Operand)) (o a t : Token) (stepped : Stepped) → is_comma t.word ≡ false
    → IsStepped schema (m.followed g (operands schema) t.word (m.lone_held (operands schema) fs o a) t) (m.Read (m.lone_held (operands schema) fs o a)) t stepped
    → IsStepped schema (m.behind_lone g (operands schema) t.word fs o a t) (m.Lone fs o a) t stepped
lone_steps g schema fs o a t (s.Moved state) e i = no_comma g schema t.word fs o a t e ∙ i
lone_steps g schema fs o a t (s.Stuck state token) e i = record {
  none = no_comma g schema t.word fs o a t e ∙ i.none;
  alike = record { facts = i.alike.facts; whole = i.alike.whole };
  token = i.token;
}

pub comma_steps : (g : Setting) (schema : Schema) (u : Word) (fs : List (Frame Operand)) (o a t : Token) → is_comma u ≡ true
    → m.behind_lone g (operands schema) u fs o a t ≡ Some (m.row_next (operands schema) fs (o ∷ a ∷ t ∷ []) after_comma)
comma_steps g schema w.Comma fs o a t e = refl
comma_steps g schema _ fs o a t e = cc

row_is : (schema : Schema) (fs : List (Frame Operand)) (seen : List Token) (slots : List Slot) (o : Option (List Slot))
    → m.row_left (operands schema) fs seen slots o ≡ option_map (m.row_next (operands schema) fs seen) (option_map (λ more. more ++ slots) o)
row_is schema fs seen slots None = refl
row_is schema fs seen slots (Some more) = refl

pub row_moves : (g : Setting) (schema : Schema) (fs : List (Frame Operand)) (seen : List Token) (slot : Slot) (slots : List Slot) (t : Token) (after : Option (List Slot)) (state : m.State Operand)
    → after ≡ option_map (λ more. more ++ slots) (slot_after g slot t.word) → option_map (m.row_next (operands schema) fs (seen ++ t ∷ [])) after ≡ Some state
    → m.in_row g (operands schema) fs seen slot slots t ≡ Some state
row_moves g schema fs seen slot slots t after state e i =
    row_is schema fs (seen ++ t ∷ []) slots (slot_after g slot t.word) ∙ ap (option_map (m.row_next (operands schema) fs (seen ++ t ∷ []))) (sym e) ∙ i

pub row_stops : (g : Setting) (schema : Schema) (fs : List (Frame Operand)) (seen : List Token) (slot : Slot) (slots : List Slot) (t : Token)
    → None ≡ option_map (λ more. more ++ slots) (slot_after g slot t.word) → m.in_row g (operands schema) fs seen slot slots t ≡ None
row_stops g schema fs seen slot slots t e =
    row_is schema fs (seen ++ t ∷ []) slots (slot_after g slot t.word) ∙ ap (option_map (m.row_next (operands schema) fs (seen ++ t ∷ []))) (sym e)
