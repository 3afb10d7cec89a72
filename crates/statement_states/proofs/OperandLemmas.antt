-- Where an operand is due.
use Rattle.std.proofs.Common.{◌≡◌, Bool, true, false, List, [], ◌∷◌, Some, refl}
use Rattle.std.specs.Prelude.{◌&&◌, if◌then◌else◌}
use Rattle.row_types.specs.declared.table_schema.Schema.{Schema}
use Rattle.statement_tokens.specs.declared.words.Token.{Token}
use Rattle.statement_tokens.specs.declared.words.Word.{Word}
use Rattle.statement_tokens.specs.declared.words.Word.TheVariants as w
use Rattle.statement_grammar.specs.declared.frames.Frame.{Frame}
use Rattle.statement_grammar.specs.declared.frames.Frame.TheVariants.{Before, Behind, Low, High, Opened}
use Rattle.statement_grammar.specs.Grammar.{Setting, first_is}
use Rattle.statement_grammar.specs.Sentence.{Keys, setting}
use Rattle.statement_grammar.specs.Machine as m
use Rattle.statement_operands.specs.Operands.{operands}
use Rattle.statement_operands.specs.declared.operands.Operand.{Operand}
use Rattle.statement_stacks.specs.Tops.{top_of}
use Rattle.statement_states.specs.Steps.{takes, may_compare, lone_state}

pub takes_is : (base : Bool) (key : Keys) (fs : List (Frame Operand)) → takes base (top_of fs) ≡ m.takes_condition (setting base key) fs
takes_is base key [] = refl
takes_is base key (Before t ∷ fs) = refl
takes_is base key (Behind x t ∷ fs) = refl
takes_is base key (Low x t ∷ fs) = refl
takes_is base key (High x b l a ∷ fs) = refl
takes_is base key (Opened o b ∷ fs) = refl

abbrev read : Schema → List (Frame Operand) → Token → m.State Operand
read schema fs t = m.Read (record { stack = fs; condition = false; x = (operands schema).leaf t })

pub operand_is_lone : (g : Setting) (schema : Schema) (u : Word) (fs : List (Frame Operand)) (t : Token) (s : m.State Operand) → may_compare (top_of fs) ≡ true → first_is g u ≡ true → lone_state fs t ≡ Some s → s ≡ m.operand g (operands schema) u fs t
operand_is_lone g schema (w.Name n) (Opened o true ∷ fs) t s c f l = by_name (first_is g (w.Name n)) f
  where
    by_name : (b : Bool) → b ≡ true → s ≡ (if b then m.Lone fs o t else read schema (Opened o true ∷ fs) t)
    by_name true e = cc
    by_name false e = cc
operand_is_lone g schema (w.Name n) (Opened o false ∷ fs) t s c f l = cc
operand_is_lone g schema (w.Name n) [] t s c f l = cc
operand_is_lone g schema (w.Name n) (Before b ∷ fs) t s c f l = cc
operand_is_lone g schema (w.Name n) (Behind x b ∷ fs) t s c f l = cc
operand_is_lone g schema (w.Name n) (Low x b ∷ fs) t s c f l = cc
operand_is_lone g schema (w.Name n) (High x b l a ∷ fs) t s c f k = cc
operand_is_lone g schema _ fs t s c f l = cc

pub operand_is_leaf : (g : Setting) (schema : Schema) (u : Word) (fs : List (Frame Operand)) (t : Token) → (may_compare (top_of fs) && first_is g u) ≡ false → read schema fs t ≡ m.operand g (operands schema) u fs t
operand_is_leaf g schema (w.Name n) (Opened o true ∷ fs) t e = by_name (first_is g (w.Name n)) e
  where
    by_name : (b : Bool) → b ≡ false → read schema (Opened o true ∷ fs) t ≡ (if b then m.Lone fs o t else read schema (Opened o true ∷ fs) t)
    by_name true e = cc
    by_name false e = refl
operand_is_leaf g schema (w.Name n) (Opened o false ∷ fs) t e = refl
operand_is_leaf g schema (w.Name n) [] t e = refl
operand_is_leaf g schema (w.Name n) (Before b ∷ fs) t e = refl
operand_is_leaf g schema (w.Name n) (Behind x b ∷ fs) t e = refl
operand_is_leaf g schema (w.Name n) (Low x b ∷ fs) t e = refl
operand_is_leaf g schema (w.Name n) (High x b l a ∷ fs) t e = refl
operand_is_leaf g schema _ fs t e = refl
