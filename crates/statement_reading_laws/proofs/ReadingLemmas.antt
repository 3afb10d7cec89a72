-- How a statement is read.
use Rattle.std.proofs.Common.{◌≡◌, ℕ, zero, suc, ◌≤◌, ◌+◌, Bool, true, false, cond, List, [], ◌∷◌, ◌++◌, Option, Some, None, refl, sym, ap, subst, ◌∙◌, arith, append_assoc, append-nil, length, inl, inr}
use Rattle.std.specs.Prelude.{◌⊎◌, ⊤, ◌&&◌, take}
use Rattle.row_types.specs.declared.table_schema.Schema.{Schema}
use Rattle.ptc_statement.specs.declared.assignments.Assignment.{Assignment}
use Rattle.ptc_statement.specs.declared.conditions.Cond.{Cond}
use Rattle.ptc_statement.specs.declared.statements.Statement.{Statement}
use Rattle.statement_tokens.specs.declared.words.Keyword.TheVariants as k
use Rattle.statement_tokens.specs.declared.words.Token.{Token}
use Rattle.statement_tokens.specs.declared.words.Word.{Word}
use Rattle.statement_tokens.specs.declared.words.Word.TheVariants as w
use Rattle.statement_tokens.specs.declared.text_ends.TextEnd.{TextEnd}
use Rattle.statement_tokens.specs.declared.text_ends.TextEnd.TheVariants.{Whole, NoToken}
use Rattle.statement_grammar.specs.declared.frames.Frame.{Frame}
use Rattle.statement_grammar.specs.declared.text_faults.TextFault.{TextFault}
use Rattle.statement_grammar.specs.declared.text_faults.TextFault.TheVariants as fault
use Rattle.statement_grammar.specs.Grammar.{Shape, Setting, IsAt, tokens_of}
use Rattle.statement_grammar.specs.Machine as m
use Rattle.statement_grammar.specs.Machine.{◌>>=◌, run, shapes, moved, held_at, close, same_sort}
use Rattle.statement_grammar.specs.Laws.{IsRead}
use Rattle.statement_grammar.specs.Begins.{Begins}
use Rattle.statement_grammar.specs.Sentence as g
use Rattle.statement_grammar.specs.Sentence.{Piece, One, Tree, End, Literals, piece_tokens, pieces_tokens, Spot, StatementDue, Keys, setting, Follows, tree_at, one, may_end, IsSentence, BeginsSentence}
use Rattle.statement_grammar.specs.SentenceMachine.{Place, At, In, put_at, put_in, is_whole, is_bare, closed_held, entered, stepped, behind_tree, bound, walk, place_ends, IsWalked}
use Rattle.statement_grammar.specs.Draft.{Draft, nothing_known, with_token, with_table, with_literal, with_list, with_edge_word, with_tree, drafted, spot_or, tree_next, table_in, table_from, said_as, statement_of}
use Rattle.statement_grammar.specs.Faults.{token_faults, tree_faults, faults_from}
use Rattle.statement_grammar.specs.FirstFault.{earlier, first_of, first_name, name_or, keys_of, keys_in, keys_found, end_place, next_place, IsWhole, StopsAt, SoFar, IsOpen, open_tokens, BreaksOff, IsWrong, IsStatement}
use Rattle.statement_grammar.proofs.Alive.{lives}
use Rattle.statement_grammar.proofs.Complete.{complete}
use Rattle.statement_grammar.proofs.CutLemmas.{length_on}
use Rattle.statement_grammar.proofs.SpotLemmas.{no_tree}
use Rattle.statement_grammar.proofs.SentenceLemmas.{complete_sentence, live_sentence, begun_sentence}
use Rattle.statement_faults.specs.TreeFaults.{merged}
use Rattle.statement_faults.proofs.MergeLemmas.{no_first}
use Rattle.statement_piece_laws.specs.Pieces.{bare, known}
use Rattle.statement_piece_laws.specs.Names.{before_table, takes_table, LeadsToTable, LeadsBehind}
use Rattle.statement_piece_laws.proofs.PieceLemmas.{adds_piece, adds_token, adds_tree, has_open_tree, keeps_bare, keeps_bare_tree, keeps_faults, keeps_tree_faults}
use Rattle.statement_piece_laws.proofs.NameLemmas.{names_none, names_table, stays_behind}
use Rattle.statement_reading_laws.specs.Reading.{Reading, keys_known, IsNamed, HasRead, IsReady, IsAtEnd, IsAtSpot, IsInTree, all_known, with_one, HasTree}

some_is : {A : Type 0} (x y : A) → Some x ≡ Some y → x ≡ y
some_is x y e = cc

none_some : {A : Type 0} (o : Option A) (x : A) → o ≡ None → o ≡ Some x → ⊥
none_some o x e f = cc

follows_on : (key : Keys) (a b c : Spot) (ps qs : List Piece) → Follows key a ps b → Follows key b qs c → Follows key a (ps ++ qs) c
follows_on key a b c [] qs f g = subst (λ (s : Spot). Follows key s qs c) (sym f) g
follows_on key a b c (One t ∷ ps) qs f g = (f.0, f.1, follows_on key f.0 b c ps qs f.2 g)
follows_on key a b c (Tree s ∷ ps) qs f g = (f.0, f.1, f.2, f.3, follows_on key f.1 b c ps qs f.4 g)

tokens_on : (ps qs : List Piece) → pieces_tokens (ps ++ qs) ≡ pieces_tokens ps ++ pieces_tokens qs
tokens_on [] qs = refl
tokens_on (p ∷ ps) qs = ap (λ (ts : List Token). piece_tokens p ++ ts) (tokens_on ps qs) ∙ sym (append_assoc (piece_tokens p) (pieces_tokens ps) (pieces_tokens qs))

walk_on : (key : Keys) (p q : Place) (ts us : List Token) → walk key p ts ≡ Some q → walk key p (ts ++ us) ≡ walk key q us
walk_on key p q [] us e = ap (λ (x : Place). walk key x us) (some_is p q e)
walk_on key p q (t ∷ ts) us e = by_step (stepped key p t) e (λ n d. walk_on key n q ts us d)
  where
    by_step : (o : Option Place) → bound o (λ n. walk key n ts) ≡ Some q → ((n : Place) → walk key n ts ≡ Some q → walk key n (ts ++ us) ≡ walk key q us) → bound o (λ n. walk key n (ts ++ us)) ≡ walk key q us
    by_step None e more = cc
    by_step (Some n) e more = more n e

walk_one : (key : Keys) (p : Place) (t : Token) → walk key p (t ∷ []) ≡ stepped key p t
walk_one key p t = by_step (stepped key p t)
  where
    by_step : (o : Option Place) → bound o (λ n. walk key n []) ≡ o
    by_step None = refl
    by_step (Some n) = refl

-- one token more
walk_more : (key : Keys) (p q : Place) (front : List Token) (t : Token) → walk key p front ≡ Some q → walk key p (front ++ t ∷ []) ≡ stepped key q t
walk_more key p q front t e = walk_on key p q front (t ∷ []) e ∙ walk_one key q t

-- ---- where nothing fits

no_next : (key : Keys) (front : List Token) (place : Place) (t : Token) → walk key (At StatementDue) front ≡ Some place → stepped key place t ≡ None → BeginsSentence key (front ++ t ∷ []) → ⊥
no_next key front place t e n b =
    let i = begun_sentence key (front ++ t ∷ []) b in none_some (walk key (At StatementDue) (front ++ t ∷ [])) i.0 (walk_more key (At StatementDue) place front t e ∙ n) i.1

tokens_same : (t u : Token) (us rest : List Token) → t ∷ us ≡ u ∷ rest → t ≡ u
tokens_same t u us rest e = cc

pub stops_before : (key : Keys) (front rest : List Token) (place : Place) (t : Token) (end : TextEnd) → walk key (At StatementDue) front ≡ Some place → stepped key place t ≡ None → StopsAt key (front ++ (t ∷ rest)) end front (t ∷ rest)
stops_before key front rest place t end e n = record {
  are = refl;
  begins = live_sentence key front place e;
  not_next = λ u us d b. no_next key front place t e n (subst (λ (x : Token). BeginsSentence key (front ++ x ∷ [])) (sym (tokens_same t u rest us d)) b);
  not_whole = λ d. cc;
}

no_sentence : (key : Keys) (front : List Token) (place : Place) → walk key (At StatementDue) front ≡ Some place → place_ends place ≡ false → IsSentence key front → ⊥
no_sentence key front place e f h =
    let i = complete_sentence key front h in
    let same : i.place ≡ place = some_is i.place place (sym i.walks ∙ e) in not_both (place_ends place) (ap place_ends (sym same) ∙ i.ends) f
  where
    not_both : (b : Bool) → b ≡ true → b ≡ false → ⊥
    not_both b p q = cc

pub stops_at_end : (key : Keys) (front : List Token) (place : Place) (end : TextEnd) → walk key (At StatementDue) front ≡ Some place → (IsWhole end → place_ends place ≡ false) → StopsAt key front end front []
stops_at_end key front place end e f = record {
  are = sym (append-nil front);
  begins = live_sentence key front place e;
  not_next = λ u us d b. cc;
  not_whole = λ d i h. no_sentence key front place e (f i) h;
}

-- ---- single tokens

pub ready : (schemas : List Schema) (key : Keys) (front : List Token) (r : Reading) (t : Token) → IsAtSpot schemas key front r → tree_at r.spot ≡ None → IsReady schemas key front r t
ready schemas key front r t h e = record {
  pieces = h.pieces;
  has = h.has;
  spelled = h.spelled;
  place = At r.spot;
  walks = h.walks;
  goes = ap (λ (o : Option (Bool × Spot)). entered key o r.spot t) e;
}

pub at_end : (schemas : List Schema) (key : Keys) (front : List Token) (r : Reading) → IsAtSpot schemas key front r → IsAtEnd schemas key front r
at_end schemas key front r h = record { pieces = h.pieces; has = h.has; spelled = h.spelled; place = At r.spot; walks = h.walks; ends = refl }

pub so_far : (schemas : List Schema) (key : Keys) (front : List Token) (pieces : List Piece) (r : Reading) → HasRead schemas key front pieces r → pieces_tokens pieces ≡ front → SoFar key front pieces None
so_far schemas key front pieces r h e = record { spot = r.spot; follows = h.follows; open_tree = tt; spelled = append-nil (pieces_tokens pieces) ∙ e }

-- the token fits in no way
pub stuck_at_spot : (schemas : List Schema) (key : Keys) (front rest : List Token) (r : Reading) (t : Token) (end : TextEnd) → IsReady schemas key front r t → one r.spot t.word ≡ None → BreaksOff key schemas (front ++ (t ∷ rest)) end (earlier (fault.At t.place) r.first)
stuck_at_spot schemas key front rest r t end h e = record {
  front = front;
  left = t ∷ rest;
  stops = stops_before key front rest h.place t end h.walks (h.goes ∙ ap put_at e);
  pieces = h.pieces;
  tree = None;
  so_far = so_far schemas key front h.pieces r h.has h.spelled;
  first = ap (λ (o : Option TextFault). Some (earlier (fault.At t.place) o)) (sym h.has.first);
}

no_fault : (a b : Option TextFault) → merged a b ≡ None → a ≡ None
no_fault None b e = refl
no_fault (Some x) b e = cc

front_named : (front : List Token) (t : Token) → ((later : List Token) → first_name (front ++ later) ≡ first_name later) → (later : List Token) → first_name ((front ++ t ∷ []) ++ later) ≡ name_or t.word (first_name later)
front_named front t h later = ap first_name (append_assoc front (t ∷ []) later) ∙ h (t ∷ later)

-- ---- what a token leaves

abbrev terms : Draft → (List Assignment) × (Option Cond)
terms d = (d.sets, d.where_true)

table_terms : (d : Draft) (found : Option (ℕ × Schema)) → terms (with_table d found) ≡ terms d
table_terms d None = refl
table_terms d (Some found) = refl

literal_terms : (of : Literals) (d : Draft) (u : Word) (place : ℕ) → terms (with_literal of d u place) ≡ terms d
literal_terms of d (w.Math o) place = refl
literal_terms of d _ place = refl

list_terms : (of : Literals) (d : Draft) (u : Word) → terms (with_list of d u) ≡ terms d
list_terms g.OfRow d u = refl
list_terms (g.OfEdge g.Lower) d w.Close = refl
list_terms (g.OfEdge g.Upper) d w.Close = refl
list_terms (g.OfEdge end) d _ = refl

edge_terms : (end : End) (d : Draft) (u : Word) → terms (with_edge_word end d u) ≡ terms d
edge_terms g.Lower d (w.Keyword k.Low) = refl
edge_terms g.Upper d (w.Keyword k.Low) = refl
edge_terms g.Lower d (w.Keyword k.High) = refl
edge_terms g.Upper d (w.Keyword k.High) = refl
edge_terms end d (w.Keyword k.Before) = refl
edge_terms end d (w.Keyword k.After) = refl
edge_terms end d _ = refl

terms_kept : (schemas : List Schema) (spot : Spot) (d : Draft) (u : Word) (place : ℕ) → terms (with_token schemas spot d u place) ≡ terms d
terms_kept schemas g.IntoTable d u place = table_terms d (table_in schemas u)
terms_kept schemas g.DeleteTable d u place = table_terms d (table_in schemas u)
terms_kept schemas g.UpdateTable d u place = table_terms d (table_in schemas u)
terms_kept schemas g.SelectTable d u place = table_terms d (table_in schemas u)
terms_kept schemas (g.ChunkTable tool) d u place = table_terms d (table_in schemas u)
terms_kept schemas g.ClearTable d u place = table_terms d (table_in schemas u)
terms_kept schemas (g.LiteralDue of) d u place = literal_terms of d u place
terms_kept schemas (g.LiteralEnds of) d u place = list_terms of d u
terms_kept schemas (g.EdgeDue end) d u place = edge_terms end d u
terms_kept schemas _ d u place = refl

literal_schema : (of : Literals) (d : Draft) (u : Word) (place : ℕ) → (with_literal of d u place).schema ≡ d.schema
literal_schema of d (w.Math o) place = refl
literal_schema of d _ place = refl

list_schema : (of : Literals) (d : Draft) (u : Word) → (with_list of d u).schema ≡ d.schema
list_schema g.OfRow d u = refl
list_schema (g.OfEdge g.Lower) d w.Close = refl
list_schema (g.OfEdge g.Upper) d w.Close = refl
list_schema (g.OfEdge end) d _ = refl

edge_schema : (end : End) (d : Draft) (u : Word) → (with_edge_word end d u).schema ≡ d.schema
edge_schema g.Lower d (w.Keyword k.Low) = refl
edge_schema g.Upper d (w.Keyword k.Low) = refl
edge_schema g.Lower d (w.Keyword k.High) = refl
edge_schema g.Upper d (w.Keyword k.High) = refl
edge_schema end d (w.Keyword k.Before) = refl
edge_schema end d (w.Keyword k.After) = refl
edge_schema end d _ = refl

schema_kept : (schemas : List Schema) (spot : Spot) (d : Draft) (u : Word) (place : ℕ) → takes_table spot ≡ false → (with_token schemas spot d u place).schema ≡ d.schema
schema_kept schemas g.IntoTable d u place e = cc
schema_kept schemas g.DeleteTable d u place e = cc
schema_kept schemas g.UpdateTable d u place e = cc
schema_kept schemas g.SelectTable d u place e = cc
schema_kept schemas (g.ChunkTable tool) d u place e = cc
schema_kept schemas g.ClearTable d u place e = cc
schema_kept schemas (g.LiteralDue of) d u place e = literal_schema of d u place
schema_kept schemas (g.LiteralEnds of) d u place e = list_schema of d u
schema_kept schemas (g.EdgeDue end) d u place e = edge_schema end d u
schema_kept schemas _ d u place e = refl

table_taken : (schemas : List Schema) (spot : Spot) (d : Draft) (u : Word) (place : ℕ) → takes_table spot ≡ true → with_token schemas spot d u place ≡ with_table d (table_in schemas u)
table_taken schemas g.IntoTable d u place e = refl
table_taken schemas g.DeleteTable d u place e = refl
table_taken schemas g.UpdateTable d u place e = refl
table_taken schemas g.SelectTable d u place e = refl
table_taken schemas (g.ChunkTable tool) d u place e = refl
table_taken schemas g.ClearTable d u place e = refl
table_taken schemas _ d u place e = cc

not_table : (spot : Spot) → before_table spot ≡ false → takes_table spot ≡ false
not_table g.IntoTable e = cc
not_table g.DeleteTable e = cc
not_table g.UpdateTable e = cc
not_table g.SelectTable e = cc
not_table (g.ChunkTable tool) e = cc
not_table g.ClearTable e = cc
not_table _ e = refl

found_keys : (d : Draft) (o : Option (ℕ × Schema)) → d.schema ≡ None → keys_found o ≡ keys_known (with_table d o).schema
found_keys d None e = ap keys_known (sym e)
found_keys d (Some found) e = refl

named_too : (schemas : List Schema) (key : Keys) (front rest : List Token) (r : Reading) (t : Token) (next : Spot) → one r.spot t.word ≡ Some next → key ≡ keys_in schemas (front ++ (t ∷ rest)) → IsNamed key front r.spot r.draft
    → IsNamed key (front ++ t ∷ []) next (with_token schemas r.spot r.draft t.word t.place)
named_too schemas key front rest r t next e is (inr h) =
    inr (stays_behind r.spot next t.word h.0 e, h.1 ∙ ap keys_known (sym (schema_kept schemas r.spot r.draft t.word t.place (not_table r.spot h.0))))
named_too schemas key front rest r t next e is (inl h) = by_table (takes_table r.spot) refl
  where
    by_table : (b : Bool) → takes_table r.spot ≡ b → IsNamed key (front ++ t ∷ []) next (with_token schemas r.spot r.draft t.word t.place)
    by_table false f =
        let l = names_none r.spot next t.word h.0 f e in
        inl (l.before, schema_kept schemas r.spot r.draft t.word t.place f ∙ h.1, λ later. front_named front t h.2 later ∙ l.no_name (first_name later))
    by_table true f =
        let l = names_table r.spot next t.word f e in
        let name : first_name (front ++ (t ∷ rest)) ≡ l.name = h.2 (t ∷ rest) ∙ ap (λ (u : Word). name_or u (first_name rest)) l.is in
        let found : table_from 0 schemas (first_name (front ++ (t ∷ rest))) ≡ table_in schemas t.word = ap (table_from 0 schemas) name ∙ ap (table_in schemas) (sym l.is) in
        inr (l.behind, is ∙ ap keys_found found ∙ found_keys r.draft (table_in schemas t.word) h.1 ∙ ap (λ (d : Draft). keys_known d.schema) (sym (table_taken schemas r.spot r.draft t.word t.place f)))

-- a token that is due
pub takes : (schemas : List Schema) (key : Keys) (front rest : List Token) (r : Reading) (t : Token) (next : Spot) → IsReady schemas key front r t → one r.spot t.word ≡ Some next → key ≡ keys_in schemas (front ++ (t ∷ rest))
    → IsAtSpot schemas key (front ++ t ∷ []) (with_one schemas r next t)
takes schemas key front rest r t next h e is =
    let more = adds_piece key schemas h.pieces (One t ∷ []) r.spot h.has.follows in
    let kept = terms_kept schemas r.spot (known schemas h.pieces) t.word t.place in record {
      pieces = h.pieces ++ One t ∷ [];
      has = record {
        follows = follows_on key StatementDue r.spot next h.pieces (One t ∷ []) h.has.follows (next, e, refl);
        draft = ap (λ (d : Draft). with_token schemas r.spot d t.word t.place) h.has.draft ∙ sym (keeps_bare schemas r.spot (known schemas h.pieces) t.word t.place) ∙ ap bare (sym more);
        terms = λ n. let i = h.has.terms (no_fault r.first _ n) in (ap (λ (d : Draft). d.sets) more ∙ ap (λ (p : (List Assignment) × (Option Cond)). p.0) kept ∙ i.0, ap (λ (d : Draft). d.where_true) more ∙ ap (λ (p : (List Assignment) × (Option Cond)). p.1) kept ∙ i.1);
        first = ap (λ (o : Option TextFault). merged o (first_of (token_faults schemas r.spot r.draft t.word t.place))) h.has.first
            ∙ ap (λ (d : Draft). merged (first_of (faults_from schemas StatementDue nothing_known h.pieces None)) (first_of (token_faults schemas r.spot d t.word t.place))) h.has.draft
            ∙ ap (λ (fs : List TextFault). merged (first_of (faults_from schemas StatementDue nothing_known h.pieces None)) (first_of fs)) (keeps_faults schemas r.spot (known schemas h.pieces) t.word t.place)
            ∙ sym (adds_token key schemas h.pieces r.spot t h.has.follows);
        named = named_too schemas key front rest r t next e is h.has.named;
      };
      spelled = tokens_on h.pieces (One t ∷ []) ∙ ap (λ (ts : List Token). ts ++ t ∷ []) h.spelled;
      walks = walk_more key (At StatementDue) h.place front t h.walks ∙ h.goes ∙ ap put_at e;
    }

-- ---- the end

known_all : (schemas : List Schema) (key : Keys) (front : List Token) (pieces : List Piece) (r : Reading) → HasRead schemas key front pieces r → r.first ≡ None → all_known r ≡ known schemas pieces
known_all schemas key front pieces r h n =
    let i = h.terms n in
    ap (λ (d : Draft). record d { sets = r.sets; where_true = r.where_true }) h.draft
    ∙ ap (λ (x : List Assignment). record (known schemas pieces) { sets = x; where_true = r.where_true }) (sym i.0)
    ∙ ap (λ (x : Option Cond). record (known schemas pieces) { where_true = x }) (sym i.1)

pub ends_whole : (schemas : List Schema) (key : Keys) (front : List Token) (r : Reading) (past : ℕ) → IsAtEnd schemas key front r → may_end r.spot ≡ true → r.first ≡ None → IsStatement key schemas front (Whole past) (said_as (all_known r).form (all_known r))
ends_whole schemas key front r past h e n = record {
  all = tt;
  whole = record { pieces = h.pieces; end = r.spot; follows = h.has.follows; ends = e; spelled = h.spelled };
  right = no_first (faults_from schemas StatementDue nothing_known h.pieces None) (sym h.has.first ∙ n);
  is = ap (λ (d : Draft). said_as d.form d) (known_all schemas key front h.pieces r h.has n);
}

pub ends_wrong : (schemas : List Schema) (key : Keys) (front : List Token) (r : Reading) (past : ℕ) (f : TextFault) → IsAtEnd schemas key front r → may_end r.spot ≡ true → r.first ≡ Some f → IsWrong key schemas front (Whole past) f
ends_wrong schemas key front r past f h e n = record {
  all = tt;
  whole = record { pieces = h.pieces; end = r.spot; follows = h.has.follows; ends = e; spelled = h.spelled };
  first = sym h.has.first ∙ n;
}

pub ends_short : (schemas : List Schema) (key : Keys) (front : List Token) (r : Reading) (end : TextEnd) → IsAtEnd schemas key front r → (IsWhole end → may_end r.spot ≡ false) → BreaksOff key schemas front end (earlier (fault.At (end_place end)) r.first)
ends_short schemas key front r end h e = record {
  front = front;
  left = [];
  stops = stops_at_end key front h.place end h.walks (λ i. h.ends ∙ e i);
  pieces = h.pieces;
  tree = None;
  so_far = so_far schemas key front h.pieces r h.has h.spelled;
  first = ap (λ (o : Option TextFault). Some (earlier (fault.At (end_place end)) o)) (sym h.has.first);
}

-- ---- trees

tree_behind : (spot : Spot) (due : Bool × Spot) → tree_at spot ≡ Some due → before_table spot ≡ false
tree_behind g.CondDue due e = refl
tree_behind g.ExprDue due e = refl
tree_behind g.SelectCond due e = refl
tree_behind _ due e = cc

named_on : (key : Keys) (front longer : List Token) (spot : Spot) (draft : Draft) (due : Bool × Spot) → tree_at spot ≡ Some due → IsNamed key front spot draft → IsNamed key longer spot draft
named_on key front longer spot draft due e (inr h) = inr h
named_on key front longer spot draft due e (inl h) = absurd (not_both (before_table spot) h.0 (tree_behind spot due e))
  where
    not_both : (b : Bool) → b ≡ true → b ≡ false → ⊥
    not_both b p q = cc

read_on : (schemas : List Schema) (key : Keys) (front longer : List Token) (pieces : List Piece) (r : Reading) (due : Bool × Spot) → tree_at r.spot ≡ Some due → HasRead schemas key front pieces r → HasRead schemas key longer pieces r
read_on schemas key front longer pieces r due e h = record { follows = h.follows; draft = h.draft; terms = h.terms; first = h.first; named = named_on key front longer r.spot r.draft due e h.named }

run_more : (x : Setting) (a next : m.State Shape) (ts us : List Token) → run x shapes a ts ≡ Some next → run x shapes a (ts ++ us) ≡ run x shapes next us
run_more x a next [] us e = ap (λ (n : m.State Shape). run x shapes n us) (some_is a next e)
run_more x a next (t ∷ ts) us e = by_next (moved x shapes a t) e (λ n d. run_more x n next ts us d)
  where
    by_next : (o : Option (m.State Shape)) → (o >>= λ (n : m.State Shape). run x shapes n ts) ≡ Some next → ((n : m.State Shape) → run x shapes n ts ≡ Some next → run x shapes n (ts ++ us) ≡ run x shapes next us)
        → (o >>= λ (n : m.State Shape). run x shapes n (ts ++ us)) ≡ run x shapes next us
    by_next None e more = cc
    by_next (Some n) e more = more n e

run_one : (x : Setting) (a : m.State Shape) (t : Token) → run x shapes a (t ∷ []) ≡ moved x shapes a t
run_one x a t = by_next (moved x shapes a t)
  where
    by_next : (o : Option (m.State Shape)) → (o >>= λ (n : m.State Shape). run x shapes n []) ≡ o
    by_next None = refl
    by_next (Some n) = refl

-- the first token of a tree
pub tree_begins : (schemas : List Schema) (key : Keys) (front : List Token) (r : Reading) (base : Bool) (next : Spot) (t : Token) (state : m.State Shape) → IsAtSpot schemas key front r → tree_at r.spot ≡ Some (base, next)
    → run (setting base key) shapes (m.Due []) (t ∷ []) ≡ Some state → IsInTree schemas key (front ++ t ∷ []) r (t ∷ []) base
tree_begins schemas key front r base next t state h d e = record {
  pieces = h.pieces;
  has = read_on schemas key front (front ++ t ∷ []) h.pieces r (base, next) d h.has;
  next = next;
  due = d;
  spelled = ap (λ (ts : List Token). ts ++ t ∷ []) h.spelled;
  state = state;
  runs = e;
  walks = walk_more key (At StatementDue) (At r.spot) front t h.walks ∙ ap (λ (o : Option (Bool × Spot)). entered key o r.spot t) d ∙ ap (put_in base next) (sym (run_one (setting base key) (m.Due []) t) ∙ e);
}

-- one token more of a tree
pub tree_goes_on : (schemas : List Schema) (key : Keys) (front : List Token) (r : Reading) (ts : List Token) (base : Bool) (t : Token) (state : m.State Shape) → IsInTree schemas key front r ts base
    → run (setting base key) shapes (m.Due []) (ts ++ t ∷ []) ≡ Some state → IsInTree schemas key (front ++ t ∷ []) r (ts ++ t ∷ []) base
tree_goes_on schemas key front r ts base t state h e =
    let step : moved (setting base key) shapes h.state t ≡ Some state = sym (run_one (setting base key) h.state t) ∙ sym (run_more (setting base key) (m.Due []) h.state ts (t ∷ []) h.runs) ∙ e in record {
      pieces = h.pieces;
      has = read_on schemas key front (front ++ t ∷ []) h.pieces r (base, h.next) h.due h.has;
      next = h.next;
      due = h.due;
      spelled = sym (append_assoc (pieces_tokens h.pieces) ts (t ∷ [])) ∙ ap (λ (us : List Token). us ++ t ∷ []) h.spelled;
      state = state;
      runs = e;
      walks = walk_more key (At StatementDue) (In base h.next h.state) front t h.walks ∙ ap (λ (o : Option (m.State Shape)). behind_tree base h.next h.state t.word o) step;
    }

-- where no tree begins with the token the machine has no move
pub no_move : (x : Setting) (ts : List Token) (t : Token) (state : m.State Shape) → run x shapes (m.Due []) ts ≡ Some state → (Begins x (ts ++ t ∷ []) → ⊥) → moved x shapes state t ≡ None
no_move x ts t state e n = by_move (moved x shapes state t) refl
  where
    by_move : (o : Option (m.State Shape)) → moved x shapes state t ≡ o → moved x shapes state t ≡ None
    by_move None d = d
    by_move (Some q) d = absurd (n (lives x (ts ++ t ∷ []) q (run_more x (m.Due []) state ts (t ∷ []) e ∙ run_one x state t ∙ d)))

sort_self : (b : Bool) → same_sort b b ≡ true
sort_self true = refl
sort_self false = refl

whole_tree : (key : Keys) (base : Bool) (state : m.State Shape) (s : Shape) → IsAt (setting base key) 1 base s → run (setting base key) shapes (m.Due []) (tokens_of s) ≡ Some state → is_whole base state ≡ true
whole_tree key base state s h r =
    let i = complete (setting base key) shapes 1 base s [] [] h (λ u k e. tt) (λ e. e) tt in
    let same : state ≡ m.Read i.held = some_is state (m.Read i.held) (sym r ∙ ap (run (setting base key) shapes (m.Due [])) (sym (append-nil (tokens_of s))) ∙ i.runs) in
    ap (is_whole base) same ∙ ap (is_bare base) (i.closes 1 (omega arith)) ∙ sort_self base

with_tree_on : (schemas : List Schema) (key : Keys) (front : List Token) (r behind : Reading) (ts : List Token) (base : Bool) (s : Shape) (h : IsInTree schemas key front r ts base) → IsAt (setting base key) 1 base s → tokens_of s ≡ ts → HasTree r h.next s behind
    → HasRead schemas key front (h.pieces ++ Tree s ∷ []) behind
with_tree_on schemas key front r behind ts base s h is spelled t =
    let more = adds_piece key schemas h.pieces (Tree s ∷ []) r.spot h.has.follows in
    let schema : r.draft.schema ≡ (known schemas h.pieces).schema = ap (λ (d : Draft). d.schema) h.has.draft in record {
      follows = follows_on key StatementDue r.spot behind.spot h.pieces (Tree s ∷ []) h.has.follows (base, h.next, h.due, is, sym t.spot);
      draft = t.draft ∙ h.has.draft ∙ sym (keeps_bare_tree (known schemas h.pieces).schema r.spot (known schemas h.pieces) s) ∙ ap bare (sym more);
      terms = λ n.
          let none : r.first ≡ None = no_fault r.first _ (sym t.first ∙ n) in
          let all : all_known r ≡ known schemas h.pieces = known_all schemas key front h.pieces r h.has none in
          let same : with_tree (known schemas h.pieces).schema r.spot (known schemas h.pieces) s ≡ with_tree r.draft.schema r.spot (all_known r) s =
          ap (λ (o : Option Schema). with_tree o r.spot (known schemas h.pieces) s) (sym schema) ∙ ap (λ (d : Draft). with_tree r.draft.schema r.spot d s) (sym all) in
          (ap (λ (d : Draft). d.sets) (more ∙ same) ∙ sym (t.sets n), ap (λ (d : Draft). d.where_true) (more ∙ same) ∙ sym (t.where_true n));
      first = t.first
          ∙ ap (λ (o : Option TextFault). merged o (first_of (tree_faults r.draft.schema r.spot r.draft s (length (tokens_of s))))) h.has.first
          ∙ ap (λ (d : Draft). merged (first_of (faults_from schemas StatementDue nothing_known h.pieces None)) (first_of (tree_faults d.schema r.spot d s (length (tokens_of s))))) h.has.draft
          ∙ ap (λ (fs : List TextFault). merged (first_of (faults_from schemas StatementDue nothing_known h.pieces None)) (first_of fs)) (keeps_tree_faults (known schemas h.pieces).schema r.spot (known schemas h.pieces) s (length (tokens_of s)))
          ∙ sym (adds_tree key schemas h.pieces r.spot s h.has.follows);
      named = named_behind h.has.named;
    }
  where
    behind_it : (spot next : Spot) → tree_at spot ≡ Some (base, next) → before_table next ≡ false
    behind_it g.CondDue next e = ap (λ (d : Bool × Spot). before_table d.1) (some_is (base, next) (true, g.CondEnds) (sym e))
    behind_it g.ExprDue next e = ap (λ (d : Bool × Spot). before_table d.1) (some_is (base, next) (false, g.SetEnds) (sym e))
    behind_it g.SelectCond next e = ap (λ (d : Bool × Spot). before_table d.1) (some_is (base, next) (true, g.LockDue) (sym e))
    behind_it _ next e = cc

    named_behind : IsNamed key front r.spot r.draft → IsNamed key front behind.spot behind.draft
    named_behind (inr i) = inr (ap before_table t.spot ∙ behind_it r.spot h.next h.due, i.1 ∙ ap (λ (d : Draft). keys_known d.schema) (sym t.draft))
    named_behind (inl i) = absurd (not_both (before_table r.spot) i.0 (tree_behind r.spot (base, h.next) h.due))
      where
        not_both : (b : Bool) → b ≡ true → b ≡ false → ⊥
        not_both b p q = cc

tree_spelled : (pieces : List Piece) (s : Shape) (ts front : List Token) → tokens_of s ≡ ts → pieces_tokens pieces ++ ts ≡ front → pieces_tokens (pieces ++ Tree s ∷ []) ≡ front
tree_spelled pieces s ts front e f = tokens_on pieces (Tree s ∷ []) ∙ ap (λ (us : List Token). pieces_tokens pieces ++ us) (append-nil (tokens_of s) ∙ e) ∙ f

-- a whole tree, behind which a token is tried
pub tree_is_whole : (schemas : List Schema) (key : Keys) (front : List Token) (r behind : Reading) (ts : List Token) (base : Bool) (t : Token) (s : Shape) (h : IsInTree schemas key front r ts base) → IsAt (setting base key) 1 base s → tokens_of s ≡ ts
    → (Begins (setting base key) (ts ++ t ∷ []) → ⊥) → HasTree r h.next s behind → IsReady schemas key front behind t
tree_is_whole schemas key front r behind ts base t s h is e n d = record {
  pieces = h.pieces ++ Tree s ∷ [];
  has = with_tree_on schemas key front r behind ts base s h is e d;
  spelled = tree_spelled h.pieces s ts front e h.spelled;
  place = In base h.next h.state;
  walks = h.walks;
  goes = ap (λ (o : Option (m.State Shape)). behind_tree base h.next h.state t.word o) (no_move (setting base key) ts t h.state h.runs n)
      ∙ ap (λ (b : Bool). cond b (put_at (one h.next t.word)) None) (whole_tree key base h.state s is (ap (run (setting base key) shapes (m.Due [])) e ∙ h.runs))
      ∙ ap (λ (spot : Spot). put_at (one spot t.word)) (sym d.spot);
}

-- a whole tree with which the tokens end
pub tree_ends_whole : (schemas : List Schema) (key : Keys) (front : List Token) (r behind : Reading) (ts : List Token) (base : Bool) (s : Shape) (h : IsInTree schemas key front r ts base) → IsAt (setting base key) 1 base s → tokens_of s ≡ ts
    → HasTree r h.next s behind → IsAtEnd schemas key front behind
tree_ends_whole schemas key front r behind ts base s h is e d = record {
  pieces = h.pieces ++ Tree s ∷ [];
  has = with_tree_on schemas key front r behind ts base s h is e d;
  spelled = tree_spelled h.pieces s ts front e h.spelled;
  place = In base h.next h.state;
  walks = h.walks;
  ends = ap (λ (b : Bool). b && may_end h.next) (whole_tree key base h.state s is (ap (run (setting base key) shapes (m.Due [])) e ∙ h.runs)) ∙ ap may_end (sym d.spot);
}
