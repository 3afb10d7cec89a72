-- How a statement is read, token by token, up to its end or to its first fault.
use Rattle.std.specs.Prelude.{◌≡◌, ℕ, Bool, true, false, List, [], ◌∷◌, ◌++◌, length, Option, Some, None}
use Rattle.row_types.specs.declared.table_schema.Schema.{Schema}
use Rattle.statement_tokens.specs.declared.words.Token.{Token}
use Rattle.statement_tokens.specs.declared.text_ends.TextEnd.{TextEnd}
use Rattle.statement_tokens.specs.declared.text_ends.TextEnd.TheVariants.{Whole}
use Rattle.statement_grammar.specs.declared.text_faults.TextFault.{TextFault}
use Rattle.statement_grammar.specs.declared.text_faults.TextFault.TheVariants as fault
use Rattle.statement_grammar.specs.Grammar.{Shape, IsAt, tokens_of}
use Rattle.statement_grammar.specs.Machine as m
use Rattle.statement_grammar.specs.Machine.{run, shapes}
use Rattle.statement_grammar.specs.Begins.{Begins}
use Rattle.statement_grammar.specs.Sentence.{Spot, Keys, setting, tree_at, one, may_end}
use Rattle.statement_grammar.specs.Draft.{said_as}
use Rattle.statement_grammar.specs.Faults.{tree_faults}
use Rattle.statement_grammar.specs.FirstFault.{earlier, first_of, keys_in, end_place, IsWhole, BreaksOff, IsWrong, IsStatement}
use Rattle.statement_faults.specs.TreeFaults.{merged}
use Rattle.statement_reading_laws.specs.Reading.{Reading, IsReady, IsAtEnd, IsAtSpot, IsInTree, all_known, with_one, HasTree}

-- where no tree is due a token is tried
abbrev pub Readies : Type 0
Readies =
    (schemas : List Schema) (key : Keys) (front : List Token) (r : Reading) (t : Token) → IsAtSpot schemas key front r → tree_at r.spot ≡ None → IsReady schemas key front r t

-- the tokens may end at a spot
abbrev pub Ends : Type 0
Ends =
    (schemas : List Schema) (key : Keys) (front : List Token) (r : Reading) → IsAtSpot schemas key front r → IsAtEnd schemas key front r

-- a token that is due
abbrev pub Takes : Type 0
Takes =
    (schemas : List Schema) (key : Keys) (front rest : List Token) (r : Reading) (t : Token) (next : Spot) → IsReady schemas key front r t → one r.spot t.word ≡ Some next → key ≡ keys_in schemas (front ++ (t ∷ rest))
    → IsAtSpot schemas key (front ++ t ∷ []) (with_one schemas r next t)

-- a token that is not due
abbrev pub Sticks : Type 0
Sticks =
    (schemas : List Schema) (key : Keys) (front rest : List Token) (r : Reading) (t : Token) (end : TextEnd) → IsReady schemas key front r t → one r.spot t.word ≡ None → BreaksOff key schemas (front ++ (t ∷ rest)) end (earlier (fault.At t.place) r.first)

-- the end of a statement without a fault
abbrev pub EndsWhole : Type 0
EndsWhole =
    (schemas : List Schema) (key : Keys) (front : List Token) (r : Reading) (past : ℕ) → IsAtEnd schemas key front r → may_end r.spot ≡ true → r.first ≡ None → IsStatement key schemas front (Whole past) (said_as (all_known r).form (all_known r))

-- the end of one with a fault
abbrev pub EndsWrong : Type 0
EndsWrong =
    (schemas : List Schema) (key : Keys) (front : List Token) (r : Reading) (past : ℕ) (f : TextFault) → IsAtEnd schemas key front r → may_end r.spot ≡ true → r.first ≡ Some f → IsWrong key schemas front (Whole past) f

-- an end where no statement may end
abbrev pub EndsShort : Type 0
EndsShort =
    (schemas : List Schema) (key : Keys) (front : List Token) (r : Reading) (end : TextEnd) → IsAtEnd schemas key front r → (IsWhole end → may_end r.spot ≡ false) → BreaksOff key schemas front end (earlier (fault.At (end_place end)) r.first)

-- the first token of a tree
abbrev pub TreeBegins : Type 0
TreeBegins =
    (schemas : List Schema) (key : Keys) (front : List Token) (r : Reading) (base : Bool) (next : Spot) (t : Token) (state : m.State Shape) → IsAtSpot schemas key front r → tree_at r.spot ≡ Some (base, next)
    → run (setting base key) shapes (m.Due []) (t ∷ []) ≡ Some state → IsInTree schemas key (front ++ t ∷ []) r (t ∷ []) base

-- one token more of a tree
abbrev pub TreeGoesOn : Type 0
TreeGoesOn =
    (schemas : List Schema) (key : Keys) (front : List Token) (r : Reading) (ts : List Token) (base : Bool) (t : Token) (state : m.State Shape) → IsInTree schemas key front r ts base
    → run (setting base key) shapes (m.Due []) (ts ++ t ∷ []) ≡ Some state → IsInTree schemas key (front ++ t ∷ []) r (ts ++ t ∷ []) base

-- a whole tree, behind which a token is tried
abbrev pub TreeIsWhole : Type 0
TreeIsWhole =
    (schemas : List Schema) (key : Keys) (front : List Token) (r behind : Reading) (ts : List Token) (base : Bool) (t : Token) (s : Shape) (h : IsInTree schemas key front r ts base) → IsAt (setting base key) 1 base s → tokens_of s ≡ ts
    → (Begins (setting base key) (ts ++ t ∷ []) → ⊥) → HasTree r h.next s behind → IsReady schemas key front behind t

-- a whole tree with which the tokens end
abbrev pub TreeEndsWhole : Type 0
TreeEndsWhole =
    (schemas : List Schema) (key : Keys) (front : List Token) (r behind : Reading) (ts : List Token) (base : Bool) (s : Shape) (h : IsInTree schemas key front r ts base) → IsAt (setting base key) 1 base s → tokens_of s ≡ ts
    → HasTree r h.next s behind → IsAtEnd schemas key front behind

-- a token that fits in no way behind an open tree
abbrev pub TreeBreaks : Type 0
TreeBreaks =
    (schemas : List Schema) (key : Keys) (front rest : List Token) (r : Reading) (ts : List Token) (base : Bool) (t : Token) (end : TextEnd) (f : Option TextFault) → IsInTree schemas key front r ts base → (ts ≡ [] → ⊥)
    → (Begins (setting base key) (ts ++ t ∷ []) → ⊥) → ((s : Shape) → IsAt (setting base key) 1 base s → tokens_of s ≡ ts → ⊥)
    → ((s : Shape) (more : List Token) → IsAt (setting base key) 1 base s → tokens_of s ≡ ts ++ more → f ≡ first_of (tree_faults r.draft.schema r.spot r.draft s (length ts)))
    → BreaksOff key schemas (front ++ (t ∷ rest)) end (earlier (fault.At t.place) (merged r.first f))

-- an end within a tree
abbrev pub TreeEndsOpen : Type 0
TreeEndsOpen =
    (schemas : List Schema) (key : Keys) (front : List Token) (r : Reading) (ts : List Token) (base : Bool) (end : TextEnd) (f : Option TextFault) → IsInTree schemas key front r ts base → (ts ≡ [] → ⊥)
    → ((s : Shape) → IsAt (setting base key) 1 base s → tokens_of s ≡ ts → ⊥)
    → ((s : Shape) (more : List Token) → IsAt (setting base key) 1 base s → tokens_of s ≡ ts ++ more → f ≡ first_of (tree_faults r.draft.schema r.spot r.draft s (length ts)))
    → BreaksOff key schemas front end (earlier (fault.At (end_place end)) (merged r.first f))

-- a token with which no tree begins
abbrev pub TreeIsNone : Type 0
TreeIsNone =
    (schemas : List Schema) (key : Keys) (front rest : List Token) (r : Reading) (base : Bool) (next : Spot) (t : Token) (end : TextEnd) → IsAtSpot schemas key front r → tree_at r.spot ≡ Some (base, next)
    → (Begins (setting base key) (t ∷ []) → ⊥) → BreaksOff key schemas (front ++ (t ∷ rest)) end (earlier (fault.At t.place) r.first)
