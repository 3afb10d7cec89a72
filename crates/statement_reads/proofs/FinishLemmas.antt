-- How a statement begins and ends.
use Rattle.std.proofs.Common.{◌≡◌, Bool, true, false, List, [], Some, None, refl, sym, ap, subst, inl, inr}
use Rattle.std.specs.Prelude.{◌⊎◌, ℕ, Result, Ok, Err}
use Rattle.row_types.specs.declared.table_schema.Schema.{Schema}
use Rattle.ptc_statement.specs.declared.statements.Statement.{Statement}
use Rattle.statement_tokens.specs.declared.words.Token.{Token}
use Rattle.statement_tokens.specs.declared.text_ends.TextEnd.{TextEnd}
use Rattle.statement_tokens.specs.declared.text_ends.TextEnd.TheVariants as ends
use Rattle.statement_grammar.specs.declared.text_faults.TextFault.{TextFault}
use Rattle.statement_grammar.specs.declared.text_faults.TextFault.TheVariants as fault
use Rattle.statement_grammar.specs.Grammar.{Setting, IsAt}
use Rattle.statement_grammar.specs.Sentence.{Spot, Keys, may_end}
use Rattle.statement_grammar.specs.FirstFault.{earlier, end_place, IsWhole, BreaksOff, IsWrong, IsStatement}
use Rattle.statement_reader.specs.Spots.{spot_of}
use Rattle.statement_reader.specs.declared.spots.Spot.{Spot as Due}
use Rattle.statement_drafts.specs.Drafts.{schema_at}
use Rattle.statement_states.specs.States.{facts_so_far, closed_state}
use Rattle.statement_trees.specs.Trees.{IsReading, IsStopped}
use Rattle.statement_trees.specs.declared.trees.OpenTree.{OpenTree}
use Rattle.statement_reading_laws.specs.Reading.{Reading, IsAtEnd, IsAtSpot, HasTree}
use Rattle.statement_reading_laws.proofs.ReadingLemmas.{ends_whole, ends_wrong, ends_short, tree_ends_whole}
use Rattle.statement_reading_laws.proofs.OpenLemmas.{tree_ends_open}
use Rattle.statement_reading.specs.Readers.{reading_of, used, IsNothing}
use Rattle.statement_reading.specs.TreeEnds.{IsTreeEnd}
use Rattle.statement_reading.specs.declared.readers.Reader.{Reader}
use Rattle.statement_progress.specs.Progress.{IsOpenAt}
use Rattle.statement_progress.proofs.ProgressLemmas.{setting_open}
use Rattle.statement_reads.specs.Reads.{nothing_read, IsSaid, IsFinished}

-- nothing is read
begun : (schemas : List Schema) (key : Keys) → IsAtSpot schemas key [] nothing_read
begun schemas key = record {
  pieces = [];
  has = record { follows = refl; draft = refl; terms = λ e. (refl, refl); first = refl; named = inl (refl, refl, λ later. refl) };
  spelled = refl;
  walks = refl;
}

pub starts : (schemas : List Schema) (key : Keys) (r : Reading) → r ≡ nothing_read → IsAtSpot schemas key [] r
starts schemas key r e = subst (IsAtSpot schemas key []) (sym e) (begun schemas key)

-- an end where no token begins
pub finishes_short : (schemas : List Schema) (key : Keys) (front : List Token) (r : Reading) (end : TextEnd) (f : TextFault) → IsAtEnd schemas key front r → (IsWhole end → may_end r.spot ≡ false) → f ≡ earlier (fault.At (end_place end)) r.first → IsFinished schemas key front end (Err f)
finishes_short schemas key front r end f h short e = inr (inl (subst (BreaksOff key schemas front end) (sym e) (ends_short schemas key front r end h short)))

pub finishes_before : (schemas : List Schema) (key : Keys) (front : List Token) (r : Reading) (end : TextEnd) (place : ℕ) (f : TextFault) → end ≡ ends.NoToken place → IsAtEnd schemas key front r → f ≡ earlier (fault.At place) r.first → IsFinished schemas key front end (Err f)
finishes_before schemas key front r end place f is h e =
    subst (λ (x : TextEnd). IsFinished schemas key front x (Err f)) (sym is) (finishes_short schemas key front r (ends.NoToken place) f h (λ w. absurd w) e)

pub finishes_wrong : (schemas : List Schema) (key : Keys) (front : List Token) (r : Reading) (past : ℕ) (f : TextFault) → IsAtEnd schemas key front r → may_end r.spot ≡ true → r.first ≡ Some f → IsFinished schemas key front (ends.Whole past) (Err f)
finishes_wrong schemas key front r past f h m e = inr (inr (ends_wrong schemas key front r past f h m e))

pub finishes : (schemas : List Schema) (key : Keys) (front : List Token) (r : Reader) (past : ℕ) (result : Result Statement TextFault) → IsAtEnd schemas key front (reading_of schemas r) → may_end (spot_of r.spot) ≡ true → r.first ≡ None → IsSaid schemas r result → IsFinished schemas key front (ends.Whole past) result
finishes schemas key front r past (Ok statement) h m n e = subst (IsStatement key schemas front (ends.Whole past)) (sym e) (ends_whole schemas key front (reading_of schemas r) past h m n)
finishes schemas key front r past (Err f) h m n e = inl e

-- what is read of a tree may end there
pub stopped : (schema : Schema) (base : Bool) (ts : List Token) (tree : OpenTree) → IsReading schema base ts tree → IsStopped schema base ts tree
stopped schema base ts tree i = record {
  state = i.state;
  runs = i.runs;
  alike = record { facts = ap (facts_so_far schema) (sym i.is); whole = ap (closed_state schema) (sym i.is) };
  depth = i.depth;
}

-- the end of a tree
abbrev pub EndsTree : List Schema → Keys → List Token → TextEnd → Result Reader TextFault → Type 0
EndsTree schemas key front end (Ok behind) = IsAtEnd schemas key front (reading_of schemas behind)
EndsTree schemas key front end (Err f) = (f ≡ fault.Memory) ⊎ (BreaksOff key schemas front end f ⊎ IsWrong key schemas front end f)

pub ends_tree : (schemas : List Schema) (nothing : Schema) (key : Keys) (front : List Token) (r : Reader) (base : Bool) (next : Due) (ts : List Token) (end : TextEnd) (result : Result Reader TextFault) → IsNothing nothing → IsOpenAt schemas key front r base next ts
    → IsTreeEnd schemas (used nothing (schema_at schemas r.draft.table)) base ts (reading_of schemas r) (spot_of next) (end_place end) result → EndsTree schemas key front end result
ends_tree schemas nothing key front r base next ts end (Ok behind) n h e =
    let k = setting_open schemas nothing key front r base next ts n h in
    tree_ends_whole schemas key front (reading_of schemas r) (reading_of schemas behind) ts base e.tree h.in_tree (subst (λ (x : Setting). IsAt x 1 base e.tree) (sym k) e.is) e.spelled
    (subst (λ (x : Spot). HasTree (reading_of schemas r) x e.tree (reading_of schemas behind)) (sym h.behind) e.has)
ends_tree schemas nothing key front r base next ts end (Err f) n h (inl e) = inl e
ends_tree schemas nothing key front r base next ts end (Err f) n h (inr e) =
    let k = setting_open schemas nothing key front r base next ts n h in
    inr (inl (subst (BreaksOff key schemas front end) (sym e.is)
    (tree_ends_open schemas key front (reading_of schemas r) ts base end e.fault h.in_tree h.some
    (λ s a. e.none s (subst (λ (x : Setting). IsAt x 1 base s) k a))
    (λ s more a. e.are s more (subst (λ (x : Setting). IsAt x 1 base s) k a)))))
