-- How far a statement is read.
use Rattle.std.proofs.Common.{◌≡◌, Bool, true, false, List, [], ◌∷◌, ◌++◌, Option, Some, None, refl, sym, ap, subst, ◌∙◌, append_assoc, length, inl, inr}
use Rattle.std.specs.Prelude.{◌⊎◌, ◌<◌, ◌^◌, ℕ, slice_get, Result, Ok, Err}
use Rattle.row_types.specs.declared.table_schema.Schema.{Schema}
use Rattle.statement_tokens.specs.declared.words.Token.{Token}
use Rattle.statement_tokens.specs.declared.text_ends.TextEnd.{TextEnd}
use Rattle.statement_grammar.specs.declared.text_faults.TextFault.{TextFault}
use Rattle.statement_grammar.specs.declared.text_faults.TextFault.TheVariants as fault
use Rattle.statement_grammar.specs.Grammar.{Shape, Setting, IsAt, tokens_of}
use Rattle.statement_grammar.specs.Machine as m
use Rattle.statement_grammar.specs.Begins.{Begins}
use Rattle.statement_grammar.specs.Sentence.{Spot, Keys, setting, tree_at, one}
use Rattle.statement_grammar.specs.Sentence as g
use Rattle.statement_grammar.specs.Faults.{tree_faults}
use Rattle.statement_grammar.specs.FirstFault.{earlier, first_of, keys_of, keys_in, BreaksOff}
use Rattle.statement_grammar.proofs.SentenceLemmas.{no_nil}
use Rattle.statement_draft_tokens.specs.Tokens.{AreShort}
use Rattle.statement_reader.specs.Spots.{spot_of}
use Rattle.statement_reader.specs.declared.spots.Spot.{Spot as Due}
use Rattle.statement_drafts.specs.Drafts.{schema_at}
use Rattle.statement_faults.specs.TreeFaults.{merged}
use Rattle.statement_trees.specs.Trees.{tree_setting, IsReading, IsStopped, IsStuck, IsStep}
use Rattle.statement_trees.specs.declared.trees.OpenTree.{OpenTree}
use Rattle.statement_trees.specs.declared.trees.TreeStep.{TreeStep}
use Rattle.statement_trees.specs.declared.trees.TreeStep.TheVariants as step
use Rattle.statement_piece_laws.specs.Names.{before_table}
use Rattle.statement_reading_laws.specs.Reading.{Reading, keys_known, IsNamed, IsReady, IsAtSpot, IsInTree, HasTree, with_one}
use Rattle.statement_reading_laws.proofs.ReadingLemmas.{ready, takes, stuck_at_spot, tree_begins, tree_goes_on, tree_is_whole}
use Rattle.statement_reading_laws.proofs.OpenLemmas.{tree_breaks, tree_is_none}
use Rattle.statement_reading.specs.Readers.{reading_of, used, IsNothing, IsTaken, IsOneStep}
use Rattle.statement_reading.specs.TreeEnds.{EndsWhole, EndsOpen, IsTreeEnd}
use Rattle.statement_progress.specs.Progress.{IsOpenAt, IsWithin, IsProgress, GoesOn, entered_by}
use Rattle.statement_reading.specs.declared.readers.Reader.{Reader}
use Rattle.statement_progress.specs.declared.progress.Inner.{Inner}
use Rattle.statement_progress.specs.declared.progress.Progress.{Progress}
use Rattle.statement_progress.specs.declared.progress.Progress.TheVariants as p

some_is : {A : Type 0} (x y : A) → Some x ≡ Some y → x ≡ y
some_is x y e = cc

-- a single token at the spot
abbrev pub StepsAt : List Schema → Keys → List Token → Token → List Token → Result Reader TextFault → Type 0
StepsAt schemas key front t rest (Ok behind) = IsAtSpot schemas key (front ++ t ∷ []) (reading_of schemas behind)
StepsAt schemas key front t rest (Err f) = (f ≡ fault.Memory) ⊎ ((end : TextEnd) → BreaksOff key schemas (front ++ (t ∷ rest)) end f)

pub steps_at : (schemas : List Schema) (key : Keys) (front rest : List Token) (r : Reader) (t : Token) (result : Result Reader TextFault) → IsOneStep schemas (reading_of schemas r) t result → IsReady schemas key front (reading_of schemas r) t → key ≡ keys_in schemas (front ++ (t ∷ rest))
    → StepsAt schemas key front t rest result
steps_at schemas key front rest r t (Ok behind) i h e = subst (IsAtSpot schemas key (front ++ t ∷ [])) (sym i.is) (takes schemas key front rest (reading_of schemas r) t i.next h i.fits e)
steps_at schemas key front rest r t (Err f) (inl i) h e = inl i
steps_at schemas key front rest r t (Err f) (inr i) h e = inr (λ end. subst (BreaksOff key schemas (front ++ (t ∷ rest)) end) (sym i.1) (stuck_at_spot schemas key front rest (reading_of schemas r) t end h i.0))

-- where a tree is due, the table is named
tree_behind : (spot : Spot) (due : Bool × Spot) → tree_at spot ≡ Some due → before_table spot ≡ false
tree_behind g.CondDue due e = refl
tree_behind g.ExprDue due e = refl
tree_behind g.SelectCond due e = refl
tree_behind _ due e = cc

-- the key's columns are those of the schema that is used
key_used : (nothing : Schema) (key : Keys) (o : Option Schema) → IsNothing nothing → key ≡ keys_known o → key ≡ keys_of (used nothing o)
key_used nothing key None n e = e ∙ sym n.keys
key_used nothing key (Some schema) n e = e

key_named : (nothing : Schema) (key : Keys) (front : List Token) (spot : Spot) (due : Bool × Spot) (r : Reading) → IsNothing nothing → tree_at spot ≡ Some due → IsNamed key front spot r.draft → key ≡ keys_of (used nothing r.draft.schema)
key_named nothing key front spot due r n d (inr i) = key_used nothing key r.draft.schema n i.1
key_named nothing key front spot due r n d (inl i) = absurd (not_both (before_table spot) i.0 (tree_behind spot due d))
  where
    not_both : (b : Bool) → b ≡ true → b ≡ false → ⊥
    not_both b x y = cc

same_setting : (key : Keys) (schema : Schema) (base : Bool) → key ≡ keys_of schema → setting base key ≡ tree_setting schema base
same_setting key schema base e = ap (setting base) e

due_same : (spot next other : Spot) (base also : Bool) → tree_at spot ≡ Some (base, next) → tree_at spot ≡ Some (also, other) → next ≡ other
due_same spot next other base also e f = ap (λ (d : Bool × Spot). d.1) (some_is (base, next) (also, other) (sym e ∙ f))

-- a schema that is used has few columns
pub used_short : (schemas : List Schema) (nothing : Schema) (table : Option ℕ) → IsNothing nothing → AreShort schemas → length (used nothing (schema_at schemas table)).columns < 2 ^ 32
used_short schemas nothing None n a = n.short
used_short schemas nothing (Some number) n a = cases (slice_get schemas number) refl
  where
    cases : (o : Option Schema) → slice_get schemas number ≡ o → length (used nothing o).columns < 2 ^ 32
    cases None e = n.short
    cases (Some schema) e = a.short number schema e

-- the first token of a tree
enters : (schemas : List Schema) (nothing : Schema) (key : Keys) (front : List Token) (r : Reader) (base : Bool) (next : Due) (t : Token) (tree : OpenTree) → IsNothing nothing → IsAtSpot schemas key front (reading_of schemas r) → tree_at (spot_of r.spot) ≡ Some (base, spot_of next)
    → IsReading (used nothing (schema_at schemas r.draft.table)) base (t ∷ []) tree → IsWithin schemas nothing key (front ++ t ∷ []) (record { reader = r; base = base; next = next; tree = tree })
enters schemas nothing key front r base next t tree n h d i =
    let k = key_named nothing key front (spot_of r.spot) (base, spot_of next) (reading_of schemas r) n d h.has.named in
    let runs = subst (λ (x : Setting). m.run x m.shapes (m.Due []) (t ∷ []) ≡ Some i.state) (sym (same_setting key (used nothing (schema_at schemas r.draft.table)) base k)) i.runs in
    let begun = tree_begins schemas key front (reading_of schemas r) base (spot_of next) t i.state h d runs in record {
      ts = t ∷ [];
      is_open = record { some = λ e. no_nil [] [] t e; in_tree = begun; behind = due_same (spot_of r.spot) begun.next (spot_of next) base base begun.due d };
      reads = i;
    }

pub enters_or_not : (schemas : List Schema) (nothing : Schema) (key : Keys) (front rest : List Token) (r : Reader) (base : Bool) (next : Due) (t : Token) (s : TreeStep) → IsNothing nothing → IsAtSpot schemas key front (reading_of schemas r) → tree_at (spot_of r.spot) ≡ Some (base, spot_of next)
    → IsStep (used nothing (schema_at schemas r.draft.table)) base [] t s → GoesOn schemas nothing key front t rest (entered_by r base next s t.place)
enters_or_not schemas nothing key front rest r base next t (step.Moved tree) n h d i = enters schemas nothing key front r base next t tree n h d i
enters_or_not schemas nothing key front rest r base next t (step.Stuck tree given) n h d i =
    let k = key_named nothing key front (spot_of r.spot) (base, spot_of next) (reading_of schemas r) n d h.has.named in
    inr (λ end. tree_is_none schemas key front rest (reading_of schemas r) base (spot_of next) t end h d (λ b. i.none (subst (λ (x : Setting). Begins x (t ∷ [])) (same_setting key (used nothing (schema_at schemas r.draft.table)) base k) b)))

-- the setting of an open tree
pub setting_open : (schemas : List Schema) (nothing : Schema) (key : Keys) (front : List Token) (r : Reader) (base : Bool) (next : Due) (ts : List Token) → IsNothing nothing → IsOpenAt schemas key front r base next ts → setting base key ≡ tree_setting (used nothing (schema_at schemas r.draft.table)) base
setting_open schemas nothing key front r base next ts n h = same_setting key (used nothing (schema_at schemas r.draft.table)) base (key_named nothing key front (spot_of r.spot) (base, h.in_tree.next) (reading_of schemas r) n h.in_tree.due h.in_tree.has.named)

-- one token more of a tree
pub goes_on : (schemas : List Schema) (nothing : Schema) (key : Keys) (front : List Token) (r : Reader) (base : Bool) (next : Due) (ts : List Token) (t : Token) (further : OpenTree) → IsNothing nothing → IsOpenAt schemas key front r base next ts
    → IsReading (used nothing (schema_at schemas r.draft.table)) base (ts ++ t ∷ []) further → IsWithin schemas nothing key (front ++ t ∷ []) (record { reader = r; base = base; next = next; tree = further })
goes_on schemas nothing key front r base next ts t further n h i =
    let runs = subst (λ (x : Setting). m.run x m.shapes (m.Due []) (ts ++ t ∷ []) ≡ Some i.state) (sym (setting_open schemas nothing key front r base next ts n h)) i.runs in
    let gone = tree_goes_on schemas key front (reading_of schemas r) ts base t i.state h.in_tree runs in record {
      ts = ts ++ t ∷ [];
      is_open = record { some = no_nil ts [] t; in_tree = gone; behind = due_same (spot_of r.spot) gone.next h.in_tree.next base base gone.due h.in_tree.due ∙ h.behind };
      reads = i;
    }

-- what comes of the end of a tree before a token
abbrev pub EndsBefore : List Schema → Keys → List Token → Token → List Token → Result Reader TextFault → Type 0
EndsBefore schemas key front t rest (Ok behind) = IsReady schemas key front (reading_of schemas behind) t
EndsBefore schemas key front t rest (Err f) = (f ≡ fault.Memory) ⊎ ((end : TextEnd) → BreaksOff key schemas (front ++ (t ∷ rest)) end f)

pub ends_before : (schemas : List Schema) (nothing : Schema) (key : Keys) (front rest : List Token) (r : Reader) (base : Bool) (next : Due) (ts : List Token) (t : Token) (result : Result Reader TextFault) → IsNothing nothing → IsOpenAt schemas key front r base next ts
    → (Begins (tree_setting (used nothing (schema_at schemas r.draft.table)) base) (ts ++ t ∷ []) → ⊥) → IsTreeEnd schemas (used nothing (schema_at schemas r.draft.table)) base ts (reading_of schemas r) (spot_of next) t.place result
    → EndsBefore schemas key front t rest result
ends_before schemas nothing key front rest r base next ts t (Ok behind) n h none e =
    let k = setting_open schemas nothing key front r base next ts n h in
    tree_is_whole schemas key front (reading_of schemas r) (reading_of schemas behind) ts base t e.tree h.in_tree (subst (λ (x : Setting). IsAt x 1 base e.tree) (sym k) e.is) e.spelled
    (λ b. none (subst (λ (x : Setting). Begins x (ts ++ t ∷ [])) k b)) (subst (λ (x : Spot). HasTree (reading_of schemas r) x e.tree (reading_of schemas behind)) (sym h.behind) e.has)
ends_before schemas nothing key front rest r base next ts t (Err f) n h none (inl e) = inl e
ends_before schemas nothing key front rest r base next ts t (Err f) n h none (inr e) =
    let k = setting_open schemas nothing key front r base next ts n h in
    inr (λ end. subst (BreaksOff key schemas (front ++ (t ∷ rest)) end) (sym e.is)
    (tree_breaks schemas key front rest (reading_of schemas r) ts base t end e.fault h.in_tree h.some
    (λ b. none (subst (λ (x : Setting). Begins x (ts ++ t ∷ [])) k b))
    (λ s a. e.none s (subst (λ (x : Setting). IsAt x 1 base s) k a))
    (λ s more a. e.are s more (subst (λ (x : Setting). IsAt x 1 base s) k a))))
