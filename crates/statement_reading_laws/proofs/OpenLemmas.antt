-- Where a tree breaks off.
use Rattle.std.proofs.Common.{◌≡◌, ℕ, zero, suc, ◌≤◌, ◌+◌, Bool, true, false, cond, List, [], ◌∷◌, ◌++◌, Option, Some, None, refl, sym, ap, subst, ◌∙◌, arith, append_assoc, append-nil, length}
use Rattle.std.specs.Prelude.{◌&&◌, take}
use Rattle.row_types.specs.declared.table_schema.Schema.{Schema}
use Rattle.statement_tokens.specs.declared.words.Token.{Token}
use Rattle.statement_tokens.specs.declared.text_ends.TextEnd.{TextEnd}
use Rattle.statement_grammar.specs.declared.frames.Frame.{Frame}
use Rattle.statement_grammar.specs.declared.text_faults.TextFault.{TextFault}
use Rattle.statement_grammar.specs.declared.text_faults.TextFault.TheVariants as fault
use Rattle.statement_grammar.specs.Grammar.{Shape, IsAt, tokens_of}
use Rattle.statement_grammar.specs.Machine as m
use Rattle.statement_grammar.specs.Machine.{run, shapes, moved, held_at, close, same_sort}
use Rattle.statement_grammar.specs.Laws.{IsRead}
use Rattle.statement_grammar.specs.Begins.{Begins}
use Rattle.statement_grammar.specs.Sentence.{Piece, pieces_tokens, Spot, StatementDue, Keys, setting, tree_at, one, may_end}
use Rattle.statement_grammar.specs.SentenceMachine.{Place, At, In, put_at, put_in, is_whole, is_bare, no_frames, closed_held, entered, behind_tree, place_ends, stepped}
use Rattle.statement_grammar.specs.Draft.{Draft, nothing_known}
use Rattle.statement_grammar.specs.Faults.{tree_faults, faults_from}
use Rattle.statement_grammar.specs.FirstFault.{earlier, first_of, end_place, IsWhole, SoFar, BreaksOff}
use Rattle.statement_grammar.proofs.Alive.{lives}
use Rattle.statement_grammar.proofs.Sound.{sound}
use Rattle.statement_grammar.proofs.CutLemmas.{length_on}
use Rattle.statement_faults.specs.TreeFaults.{merged}
use Rattle.statement_piece_laws.specs.Pieces.{known}
use Rattle.statement_piece_laws.proofs.PieceLemmas.{has_open_tree, keeps_tree_faults}
use Rattle.statement_reading_laws.specs.Reading.{Reading, HasRead, IsAtSpot, IsInTree}
use Rattle.statement_reading_laws.proofs.ReadingLemmas.{stops_before, stops_at_end, no_move, so_far}

take_front : (xs ys : List Token) → take (length xs) (xs ++ ys) ≡ xs
take_front [] ys = refl
take_front (x ∷ xs) ys = ap (λ (l : List Token). x ∷ l) (take_front xs ys)

at_least_one : (ts : List Token) → (ts ≡ [] → ⊥) → 1 ≤ length ts
at_least_one [] n = absurd (n refl)
at_least_one (t ∷ ts) n = omega arith

within : (s : Shape) (ts more : List Token) → tokens_of s ≡ ts ++ more → length ts ≤ length (tokens_of s)
within s ts more e = let a = length_on ts more in let b : length (tokens_of s) ≡ length (ts ++ more) = ap length e in omega arith

-- the tree so far, and its faults, for any tree that begins with the tokens
record Broken (schemas : List Schema) (key : Keys) (front : List Token) (r : Reading) (ts : List Token) (base : Bool) (f : Option TextFault) : Type 0 where
  pieces : List Piece
  tree : Shape
  read : SoFar key front pieces (Some (tree, length ts))
  first : first_of (faults_from schemas StatementDue nothing_known pieces (Some (tree, length ts))) ≡ merged r.first f

broken : (schemas : List Schema) (key : Keys) (front : List Token) (r : Reading) (ts : List Token) (base : Bool) (f : Option TextFault) → IsInTree schemas key front r ts base → (ts ≡ [] → ⊥)
    → ((s : Shape) (more : List Token) → IsAt (setting base key) 1 base s → tokens_of s ≡ ts ++ more → f ≡ first_of (tree_faults r.draft.schema r.spot r.draft s (length ts))) → Broken schemas key front r ts base f
broken schemas key front r ts base f h some faults =
    let b = lives (setting base key) ts h.state h.runs in record {
      pieces = h.pieces;
      tree = b.whole;
      read = record {
        spot = r.spot;
        follows = h.has.follows;
        open_tree = (at_least_one ts some, within b.whole ts b.more b.spelled, (base, h.next, h.due, b.is));
        spelled = ap (λ (us : List Token). pieces_tokens h.pieces ++ us) (ap (take (length ts)) b.spelled ∙ take_front ts b.more) ∙ h.spelled;
      };
      first = has_open_tree key schemas h.pieces r.spot b.whole (length ts) h.has.follows
          ∙ ap (λ (fs : List TextFault). merged (first_of (faults_from schemas StatementDue nothing_known h.pieces None)) (first_of fs)) (sym (keeps_tree_faults (known schemas h.pieces).schema r.spot (known schemas h.pieces) b.whole (length ts)))
          ∙ ap (λ (d : Draft). merged (first_of (faults_from schemas StatementDue nothing_known h.pieces None)) (first_of (tree_faults d.schema r.spot d b.whole (length ts)))) (sym h.has.draft)
          ∙ ap (λ (o : Option TextFault). merged o (first_of (tree_faults r.draft.schema r.spot r.draft b.whole (length ts)))) (sym h.has.first)
          ∙ ap (merged r.first) (sym (faults b.whole b.more b.is b.spelled));
    }

-- a tree that is closed is one of the grammar
sorts : (a b : Bool) → same_sort a b ≡ true → b ≡ a
sorts true true e = refl
sorts true false e = cc
sorts false true e = cc
sorts false false e = refl

record WholeTree (key : Keys) (base : Bool) (ts : List Token) : Type 0 where
  tree : Shape
  is : IsAt (setting base key) 1 base tree
  spelled : tokens_of tree ≡ ts

closed_tree : (key : Keys) (base : Bool) (ts : List Token) (state : m.State Shape) → run (setting base key) shapes (m.Due []) ts ≡ Some state → is_whole base state ≡ true → WholeTree key base ts
closed_tree key base ts state r e = by_held (held_at shapes state) refl e
  where
    by_stack : (h : m.Held Shape) → held_at shapes state ≡ Some h → (q : m.Held Shape) → close shapes 1 h.stack h.condition h.x ≡ Some q → (fs : List (Frame Shape)) → q.stack ≡ fs → (no_frames fs && same_sort base q.condition) ≡ true → WholeTree key base ts
    by_stack h a q c [] f e =
        let t : q.condition ≡ base = sorts base q.condition e in
        let d : IsRead (setting base key) shapes ts base q.x = record { state = state; runs = r; held = h; ends = a; closes = c ∙ ap (λ (b : Bool). Some (record { stack = q.stack; condition = b; x = q.x })) t ∙ ap (λ (fs : List (Frame Shape)). Some (record { stack = fs; condition = base; x = q.x })) f } in
        let i = sound (setting base key) ts base q.x d in
        record { tree = q.x; is = i.1; spelled = i.2 }
    by_stack h a q c (x ∷ fs) f e = cc

    by_close : (h : m.Held Shape) → held_at shapes state ≡ Some h → (o : Option (m.Held Shape)) → close shapes 1 h.stack h.condition h.x ≡ o → is_bare base o ≡ true → WholeTree key base ts
    by_close h a None c e = cc
    by_close h a (Some q) c e = by_stack h a q c q.stack refl e

    by_held : (o : Option (m.Held Shape)) → held_at shapes state ≡ o → is_bare base (closed_held o) ≡ true → WholeTree key base ts
    by_held None a e = cc
    by_held (Some h) a e = by_close h a (close shapes 1 h.stack h.condition h.x) refl e

not_whole : (key : Keys) (base : Bool) (ts : List Token) (state : m.State Shape) → run (setting base key) shapes (m.Due []) ts ≡ Some state → ((s : Shape) → IsAt (setting base key) 1 base s → tokens_of s ≡ ts → ⊥) → is_whole base state ≡ false
not_whole key base ts state r n = by_test (is_whole base state) refl
  where
    by_test : (b : Bool) → is_whole base state ≡ b → is_whole base state ≡ false
    by_test false e = e
    by_test true e = let w = closed_tree key base ts state r e in absurd (n w.tree w.is w.spelled)

-- behind an open tree comes a token with which none begins
pub tree_breaks : (schemas : List Schema) (key : Keys) (front rest : List Token) (r : Reading) (ts : List Token) (base : Bool) (t : Token) (end : TextEnd) (f : Option TextFault) → IsInTree schemas key front r ts base → (ts ≡ [] → ⊥)
    → (Begins (setting base key) (ts ++ t ∷ []) → ⊥) → ((s : Shape) → IsAt (setting base key) 1 base s → tokens_of s ≡ ts → ⊥)
    → ((s : Shape) (more : List Token) → IsAt (setting base key) 1 base s → tokens_of s ≡ ts ++ more → f ≡ first_of (tree_faults r.draft.schema r.spot r.draft s (length ts)))
    → BreaksOff key schemas (front ++ (t ∷ rest)) end (earlier (fault.At t.place) (merged r.first f))
tree_breaks schemas key front rest r ts base t end f h some none unclosed faults =
    let b = broken schemas key front r ts base f h some faults in
    let stuck : stepped key (In base h.next h.state) t ≡ None =
    ap (λ (o : Option (m.State Shape)). behind_tree base h.next h.state t.word o) (no_move (setting base key) ts t h.state h.runs none)
    ∙ ap (λ (x : Bool). cond x (put_at (one h.next t.word)) None) (not_whole key base ts h.state h.runs unclosed) in record {
      front = front;
      left = t ∷ rest;
      stops = stops_before key front rest (In base h.next h.state) t end h.walks stuck;
      pieces = b.pieces;
      tree = Some (b.tree, length ts);
      so_far = b.read;
      first = ap (λ (o : Option TextFault). Some (earlier (fault.At t.place) o)) b.first;
    }

-- the tokens end within a tree
pub tree_ends_open : (schemas : List Schema) (key : Keys) (front : List Token) (r : Reading) (ts : List Token) (base : Bool) (end : TextEnd) (f : Option TextFault) → IsInTree schemas key front r ts base → (ts ≡ [] → ⊥)
    → ((s : Shape) → IsAt (setting base key) 1 base s → tokens_of s ≡ ts → ⊥)
    → ((s : Shape) (more : List Token) → IsAt (setting base key) 1 base s → tokens_of s ≡ ts ++ more → f ≡ first_of (tree_faults r.draft.schema r.spot r.draft s (length ts)))
    → BreaksOff key schemas front end (earlier (fault.At (end_place end)) (merged r.first f))
tree_ends_open schemas key front r ts base end f h some unclosed faults =
    let b = broken schemas key front r ts base f h some faults in record {
      front = front;
      left = [];
      stops = stops_at_end key front (In base h.next h.state) end h.walks (λ i. ap (λ (x : Bool). x && may_end h.next) (not_whole key base ts h.state h.runs unclosed));
      pieces = b.pieces;
      tree = Some (b.tree, length ts);
      so_far = b.read;
      first = ap (λ (o : Option TextFault). Some (earlier (fault.At (end_place end)) o)) b.first;
    }

-- no tree begins where one is due
pub tree_is_none : (schemas : List Schema) (key : Keys) (front rest : List Token) (r : Reading) (base : Bool) (next : Spot) (t : Token) (end : TextEnd) → IsAtSpot schemas key front r → tree_at r.spot ≡ Some (base, next)
    → (Begins (setting base key) (t ∷ []) → ⊥) → BreaksOff key schemas (front ++ (t ∷ rest)) end (earlier (fault.At t.place) r.first)
tree_is_none schemas key front rest r base next t end h d none =
    let stuck : stepped key (At r.spot) t ≡ None =
    ap (λ (o : Option (Bool × Spot)). entered key o r.spot t) d ∙ ap (put_in base next) (no_move (setting base key) [] t (m.Due []) refl none) in record {
      front = front;
      left = t ∷ rest;
      stops = stops_before key front rest (At r.spot) t end h.walks stuck;
      pieces = h.pieces;
      tree = None;
      so_far = so_far schemas key front h.pieces r h.has h.spelled;
      first = ap (λ (o : Option TextFault). Some (earlier (fault.At t.place) o)) (sym h.has.first);
    }
