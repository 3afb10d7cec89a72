-- Where each place tells its items, each list of parts is a whole line or has a first misfit.
use Rattle.std.proofs.Common.{◌≡◌, Bool, true, false, List, [], ◌∷◌, ◌++◌, Option, Some, None, refl, sym, ap, subst, ◌∙◌, append_assoc, append-nil}
use Rattle.file_text.specs.Parts.{Part}
use Rattle.file_text.specs.declared.places.Section.{Section}
use Rattle.file_text.specs.Said.{Said, Item, Spells}
use Rattle.file_text.specs.Rules.{Digit, misplaced, InRange, Begins, Misfit, Missing, Unfit, Misplaced, Misses}
use Rattle.file_text.specs.declared.places.Spot.{Spot}
use Rattle.file_text.specs.declared.places.Spot.TheVariants.{SectionDue}
use Rattle.file_text.specs.Spots.{moved, walked, may_end}
use Rattle.file_laws.specs.Laws.{Told, TheItem, NoItem, Tells, Decided, Whole, Fails}
use Rattle.file_laws.proofs.WalkLemmas.{complete}
use Rattle.file_laws.proofs.SoundLemmas.{sound, lives}
use Rattle.file_laws.proofs.FitLemmas.{some_is, true_false, bound_some, one_step, walk_on, range_push, walk_front, walks, spells_append}

-- what is read so far
record Read (section : Section) (before : List Said) (parts fitting left : List Part) : Type 0 where
  are : parts ≡ fitting ++ left
  front : List Item
  spot : Spot
  walked_to : walked (SectionDue section) front ≡ Some spot
  spelled : Spells front fitting
  in_range : InRange before [] front

begins : (section : Section) (before : List Said) (parts fitting left : List Part) → (r : Read section before parts fitting left) → Begins section before fitting r.front
begins section before parts fitting left r = record { may = lives section r.front r.spot r.walked_to; spelled = r.spelled; in_range = r.in_range }

fails : (section : Section) (before : List Said) (parts fitting left : List Part) (misfit : Misfit) → (r : Read section before parts fitting left) → Misses section before r.front left misfit → Decided section before parts
fails section before parts fitting left misfit r m = Fails fitting left misfit (record { are = r.are; front = r.front; begins = begins section before parts fitting left r; misses = m })

at_end : (section : Section) (before : List Said) (parts fitting : List Part) → Read section before parts fitting [] → Decided section before parts
at_end section before parts fitting r = by_end (may_end r.spot) refl
  where
    by_end : (b : Bool) → may_end r.spot ≡ b → Decided section before parts
    by_end true e = Whole r.front (sound section r.front (record { end = r.spot; walks = r.walked_to; ends = e })) (subst (Spells r.front) (sym (r.are ∙ append-nil fitting)) r.spelled) r.in_range
    by_end false e = fails section before parts fitting [] Missing r (λ line.
        let c = complete section r.front line in
        true_false (may_end r.spot) (ap may_end (some_is r.spot c.end (sym r.walked_to ∙ c.walks)) ∙ c.ends) e)

decide : Tells → (section : Section) (before : List Said) (parts fitting left : List Part) → Read section before parts fitting left → Decided section before parts
decide tells section before parts fitting [] r = at_end section before parts fitting r
decide tells section before parts fitting (part ∷ left) r = by_item (tells r.spot part.text) (λ more. decide tells section before parts (fitting ++ part ∷ []) left more)
  where
    by_item : Told r.spot part.text → (Read section before parts (fitting ++ part ∷ []) left → Decided section before parts) → Decided section before parts
    by_item (NoItem none) go = fails section before parts fitting (part ∷ left) Unfit r (λ item may is.
        let w = walks section (r.front ++ item ∷ []) may in
        let f = walk_front (SectionDue section) r.front (item ∷ []) w.0 w.1 in
        let s : f.mid ≡ r.spot = some_is f.mid r.spot (sym f.first ∙ r.walked_to) in
        let b = bound_some (moved f.mid item) (λ n. walked n []) w.0 f.rest in
        none item b.0 (ap (λ (x : Spot). moved x item) (sym s) ∙ b.1) is)
    by_item (TheItem item next m is) go = by_place (misplaced before r.front item) refl
      where
        to : walked (SectionDue section) (r.front ++ item ∷ []) ≡ Some next
        to = walk_on (SectionDue section) r.spot next r.front (item ∷ []) r.walked_to (one_step r.spot next item m)

        by_place : (o : Option Digit) → misplaced before r.front item ≡ o → Decided section before parts
        by_place (Some digit) e = fails section before parts fitting (part ∷ left) (Misplaced digit) r (item, lives section (r.front ++ item ∷ []) next to, is, e)
        by_place None e = go (record {
          are = r.are ∙ sym (append_assoc fitting (part ∷ []) left);
          front = r.front ++ item ∷ [];
          spot = next;
          walked_to = to;
          spelled = spells_append r.front (item ∷ []) fitting (part ∷ []) r.spelled (is, tt);
          in_range = range_push before [] r.front item r.in_range e;
        })

-- deciding a line is total
pub total : Tells → (section : Section) (before : List Said) (parts : List Part) → Decided section before parts
total tells section before parts = decide tells section before parts [] parts (record { are = refl; front = []; spot = SectionDue section; walked_to = refl; spelled = tt; in_range = tt })
