-- A line that is read item by item.
use Rattle.std.proofs.Common.{◌≡◌, ◌⊎◌, inl, inr, ℕ, Bool, true, false, List, [], ◌∷◌, ◌++◌, Option, Some, None, map, refl, sym, ap, subst, ◌∙◌, arith, append_assoc, append-nil}
use Rattle.std.specs.Prelude.{◌+◌, ◌-◌, ◌≤◌, ◌==◌, zero, suc, length, ⊤, MatchOption}
use Rattle.std.specs.Option.{option_map}
use Rattle.file_text.specs.Parts.{Part, past_end, place_of}
use Rattle.file_text.specs.declared.places.Section.{Section}
use Rattle.file_text.specs.declared.places.Section.TheVariants.{PtcLines, IsolationLines, ReplicaLines, TableLines, RowLines, SessionLines, LocalLines, ScheduleLines, EndLines}
use Rattle.file_text.specs.declared.places.Spot.{Spot}
use Rattle.file_text.specs.declared.places.Spot.TheVariants.{SectionDue}
use Rattle.file_text.specs.declared.faults.LimitKind.{LimitKind}
use Rattle.file_text.specs.Said.{Said, Item, IsItem, IsLineOf, Spells}
use Rattle.file_text.specs.Rules.{Digit, misplaced, InRange, MayBegin, Begins, Misfit, Missing, Unfit, Misplaced, Misses, FitsUpTo, AtFirst, BehindLetter, BehindPoint, BehindPointLetter, BehindStar, behind_byte, parts_in, next_place, next_text, offset_of, offset_in}
use Rattle.file_text.specs.Causes.{PassesAt, limits}
use Rattle.file_text.specs.Spots.{moved, bound, walked, may_end}
use Rattle.file_laws.proofs.WalkLemmas.{complete}
use Rattle.file_laws.proofs.SoundLemmas.{sound, lives}
use Rattle.file_laws.proofs.FitLemmas.{some_is, true_false, bound_some, walk_on, one_step, range_push, begins_front, goes_no_further, walk_front, walks, spells_append, spells_split, one_front, cuts, Longer, Split}
use Rattle.line_parts.specs.declared.cuttings.Cutting.{Cutting}
use Rattle.line_parts.specs.Cuts.{parts_from, NextPart}
use Rattle.line_items.specs.declared.counts.Counts.{Counts}
use Rattle.line_items.specs.declared.counts.Tally.{Tally}
use Rattle.line_items.specs.declared.found_items.LineItem.{LineItem}
use Rattle.line_items.specs.declared.found_items.FoundItem.{FoundItem}
use Rattle.line_items.specs.declared.ranges.NumberSpot.{NumberSpot}
use Rattle.line_items.specs.declared.steps.Step.{Step}
use Rattle.line_items.specs.declared.steps.Step.TheVariants.{Taken, Over as StepOver, Unfit as StepUnfit}
use Rattle.line_items.specs.declared.steps.Walk.{Walk}
use Rattle.line_items.specs.declared.line_readings.LineReading.{LineReading}
use Rattle.line_items.specs.declared.line_readings.LineReading.TheVariants.{Whole, Over, Misfit as MisfitRead}
use Rattle.line_items.specs.Items.{kept_item, IsItemAt, NoItemAt}
use Rattle.line_items.specs.Counted.{IsCounted, IsTally, digit_of, misplaced_item, passed_item, tally_behind}
use Rattle.line_items.specs.Readings.{Exceeds, IsUnder, IsWholeLine, IsMisfitAt, IsReading, cutting_of, step_by, step_of, IsStart, IsBehind, Steps, NoItem, AnItem, ends}
use Rattle.line_items.proofs.WithinLemmas.{first_within}
use Rattle.line_items.proofs.RangeLemmas.{misplaced_kept, TellsPass, passed_kept, tally_push}

abbrev pub UnderAt : Section → List Said → List Item → Item → Type 0
UnderAt section before front item = (which : LimitKind) → limits which ≡ Some section → PassesAt which before item front → ⊥

-- none of the second items, behind the first ones, passes a limit
abbrev pub UnderAll : Section → List Said → List Item → List Item → Type 0
UnderAll section before front [] = ⊤
UnderAll section before front (item ∷ items) = UnderAt section before front item × UnderAll section before (front ++ item ∷ []) items

-- what is read so far, and the parts that are left
pub record IsRead (section : Section) (before : List Said) (parts left : List Part) (walk : Walk) : Type 0 where
  pub fitting : List Part
  pub are : parts ≡ fitting ++ left
  pub front : List Item
  pub walked_to : walked (SectionDue section) front ≡ Some walk.spot
  pub spelled : Spells front fitting
  pub in_range : InRange before [] front
  pub under : UnderAll section before [] front
  pub kept : walk.items.items ≡ map kept_item front
  pub tally : IsTally walk.tally front

under_push : (section : Section) (before : List Said) (acc front : List Item) (item : Item) → UnderAll section before acc front → UnderAt section before (acc ++ front) item → UnderAll section before acc (front ++ item ∷ [])
under_push section before acc [] item r u = (subst (λ (l : List Item). UnderAt section before l item) (append-nil acc) u, tt)
under_push section before acc (x ∷ front) item r u = (r.0, under_push section before (acc ++ x ∷ []) front item r.1 (subst (λ (l : List Item). UnderAt section before l item) (sym (append_assoc acc (x ∷ []) front)) u))

under_at : (section : Section) (before : List Said) (acc front : List Item) (item : Item) (more : List Item) → UnderAll section before acc (front ++ item ∷ more) → UnderAt section before (acc ++ front) item
under_at section before acc [] item more r = subst (λ (l : List Item). UnderAt section before l item) (sym (append-nil acc)) r.0
under_at section before acc (x ∷ front) item more r = subst (λ (l : List Item). UnderAt section before l item) (append_assoc acc (x ∷ []) front) (under_at section before (acc ++ x ∷ []) front item more r.1)

map_push : (front : List Item) (item : Item) → map kept_item (front ++ item ∷ []) ≡ map kept_item front ++ kept_item item ∷ []
map_push [] item = refl
map_push (x ∷ front) item = ap (λ (l : List LineItem). kept_item x ∷ l) (map_push front item)

begins_of : (section : Section) (before : List Said) (parts left : List Part) (walk : Walk) → (r : IsRead section before parts left walk) → Begins section before r.fitting r.front
begins_of section before parts left walk r = record { may = lives section r.front walk.spot r.walked_to; spelled = r.spelled; in_range = r.in_range }

-- where the first parts pass no limit and no line goes on behind them, none is passed
under_here : (section : Section) (before : List Said) (parts left : List Part) (walk : Walk) (misfit : Misfit) → (r : IsRead section before parts left walk)
    → ((part : Part) (more : List Part) → left ≡ part ∷ more → Misses section before r.front left misfit) → IsUnder section before parts
under_here section before parts left walk misfit r stops which x =
    by_cut (cuts x.fitting x.left r.fitting left (sym x.are ∙ r.are))
  where
    b : Begins section before r.fitting r.front
    b = begins_of section before parts left walk r

    at_front : (more : List Item) → r.front ≡ (x.front ++ x.item ∷ []) ++ more → ⊥
    at_front more e = under_at section before [] x.front x.item more (subst (UnderAll section before []) (e ∙ append_assoc x.front (x.item ∷ []) more) r.under) which x.of x.passes

    by_cut : ((x.fitting ≡ r.fitting) × (x.left ≡ left)) ⊎ (Longer x.fitting x.left r.fitting left ⊎ Longer r.fitting left x.fitting x.left) → ⊥
    by_cut (inl e) =
        at_front [] (one_front section r.front (x.front ++ x.item ∷ []) r.fitting b.may x.begins.may r.spelled (subst (Spells (x.front ++ x.item ∷ [])) e.0 x.begins.spelled) ∙ sym (append-nil (x.front ++ x.item ∷ [])))
    by_cut (inr (inl s)) =
        let p = spells_split r.front x.fitting (s.item ∷ s.more) (subst (Spells r.front) s.longer r.spelled) in
        let f : p.first ≡ x.front ++ x.item ∷ [] = one_front section p.first (x.front ++ x.item ∷ []) x.fitting (begins_front section p.first p.second (subst (MayBegin section) p.are b.may)) x.begins.may p.of_first x.begins.spelled in
        at_front p.second (p.are ∙ ap (λ (l : List Item). l ++ p.second) f)
    by_cut (inr (inr s)) =
        goes_no_further section before r.fitting left misfit r.front s.item (s.more ++ x.left) (x.front ++ x.item ∷ []) b (stops s.item (s.more ++ x.left) s.begins) s.begins x.begins.may x.begins.in_range s.more
        (subst (Spells (x.front ++ x.item ∷ [])) s.longer x.begins.spelled)

no_part : (part : Part) (more : List Part) → [] ≡ part ∷ more → ⊥
no_part part more e = cc

-- ---- the beginning and the end

pub starts : (section : Section) (before : List Said) (parts : List Part) (walk : Walk) → IsStart section walk → IsRead section before parts parts walk
starts section before parts walk s = record {
  fitting = [];
  are = refl;
  front = [];
  walked_to = ap Some (sym s.spot);
  spelled = tt;
  in_range = tt;
  under = tt;
  kept = s.items;
  tally = subst (λ (t : Tally). IsTally t []) (sym s.tally) (record { turns = refl; names = refl; minus = refl });
}

whole_at : (section : Section) (before : List Said) (line : List ℕ) (walk : Walk) → IsRead section before (parts_in section line) [] walk → may_end walk.spot ≡ true → IsWholeLine section before (parts_in section line) walk.items.items
whole_at section before line walk r e = record {
  items = r.front;
  line = sound section r.front (record { end = walk.spot; walks = r.walked_to; ends = e });
  spelled = subst (Spells r.front) (sym (r.are ∙ append-nil r.fitting)) r.spelled;
  in_range = r.in_range;
  kept = r.kept;
  under = under_here section before (parts_in section line) [] walk Missing r (λ part more f. absurd (no_part part more f));
}

missing_at : (section : Section) (before : List Said) (line : List ℕ) (walk : Walk) → IsRead section before (parts_in section line) [] walk → may_end walk.spot ≡ false → IsMisfitAt section before line (past_end line)
missing_at section before line walk r e = record {
  fitting = r.fitting;
  left = [];
  misfit = Missing;
  fits = record {
    are = r.are;
    front = r.front;
    begins = begins_of section before (parts_in section line) [] walk r;
    misses = λ l.
        let c = complete section r.front l in
        true_false (may_end walk.spot) (ap may_end (some_is walk.spot c.end (sym r.walked_to ∙ c.walks)) ∙ c.ends) e;
  };
  is = plus_none (past_end line);
  under = under_here section before (parts_in section line) [] walk Missing r (λ part more f. absurd (no_part part more f));
}
  where
    plus_none : (n : ℕ) → n ≡ n + 0
    plus_none n = omega arith

pub ended : (section : Section) (before : List Said) (line : List ℕ) (walk : Walk) → IsRead section before (parts_in section line) [] walk → IsReading section before line (ends walk line)
ended section before line walk r = by_end (may_end walk.spot) refl
  where
    by_end : (is : Bool) → may_end walk.spot ≡ is → IsReading section before line (ends walk line)
    by_end true e = let f : ends walk line ≡ Whole walk.items = rw e refl in subst (IsReading section before line) (sym f) (whole_at section before line walk r e)
    by_end false e = let f : ends walk line ≡ MisfitRead (past_end line) = rw e refl in subst (IsReading section before line) (sym f) (missing_at section before line walk r e)

-- ---- the next part

record Chosen (section : Section) (counts : Counts) (before : List Said) (parts left : List Part) (part : Part) (old : Walk) (found : FoundItem) : Type 0 where
  counted : IsCounted counts before
  read : IsRead section before parts (part ∷ left) old
  is : IsItemAt old.spot part.text found

walks_to : (section : Section) (counts : Counts) (before : List Said) (parts left : List Part) (part : Part) (old : Walk) (found : FoundItem) → (c : Chosen section counts before parts left part old found) → walked (SectionDue section) (c.read.front ++ c.is.item ∷ []) ≡ Some found.next
walks_to section counts before parts left part old found c = walk_on (SectionDue section) old.spot found.next c.read.front (c.is.item ∷ []) c.read.walked_to (one_step old.spot found.next c.is.item c.is.moves)

misplaced_is : (section : Section) (counts : Counts) (before : List Said) (parts left : List Part) (part : Part) (old : Walk) (found : FoundItem) → (c : Chosen section counts before parts left part old found)
    → (o : Option NumberSpot) → misplaced_item counts old.tally found.item ≡ o → misplaced before c.read.front c.is.item ≡ option_map digit_of o
misplaced_is section counts before parts left part old found c o e =
    sym (misplaced_kept counts old.tally before c.read.front c.counted c.read.tally c.is.item) ∙ ap (λ (i : LineItem). option_map digit_of (misplaced_item counts old.tally i)) (sym c.is.kept) ∙ ap (option_map digit_of) e

passed_is : (section : Section) (counts : Counts) (before : List Said) (parts left : List Part) (part : Part) (old : Walk) (found : FoundItem) → (c : Chosen section counts before parts left part old found)
    → (o : Option LimitKind) → passed_item section counts old.tally found.item ≡ o → TellsPass section before c.is.item c.read.front o
passed_is section counts before parts left part old found c o e =
    subst (TellsPass section before c.is.item c.read.front) (ap (λ (i : LineItem). passed_item section counts old.tally i) (sym c.is.kept) ∙ e)
    (passed_kept section counts old.tally before c.read.front c.counted c.read.tally c.is.item)

taken_is : (section : Section) (counts : Counts) (before : List Said) (parts left : List Part) (part : Part) (old new : Walk) (found : FoundItem) → (c : Chosen section counts before parts left part old found)
    → misplaced_item counts old.tally found.item ≡ None → passed_item section counts old.tally found.item ≡ None → IsBehind old found new → IsRead section before parts left new
taken_is section counts before parts left part old new found c m p b = record {
  fitting = c.read.fitting ++ part ∷ [];
  are = c.read.are ∙ sym (append_assoc c.read.fitting (part ∷ []) left);
  front = c.read.front ++ c.is.item ∷ [];
  walked_to = walks_to section counts before parts left part old found c ∙ ap Some (sym b.spot);
  spelled = spells_append c.read.front (c.is.item ∷ []) c.read.fitting (part ∷ []) c.read.spelled (c.is.is, tt);
  in_range = range_push before [] c.read.front c.is.item c.read.in_range (misplaced_is section counts before parts left part old found c None m);
  under = under_push section before [] c.read.front c.is.item c.read.under (passed_is section counts before parts left part old found c None p);
  kept = b.items ∙ ap (λ (l : List LineItem). l ++ found.item ∷ []) c.read.kept ∙ ap (λ (i : LineItem). map kept_item c.read.front ++ i ∷ []) c.is.kept ∙ sym (map_push c.read.front c.is.item);
  tally = subst (λ (t : Tally). IsTally t (c.read.front ++ c.is.item ∷ [])) (sym (b.tally ∙ ap (tally_behind old.tally) c.is.kept)) (tally_push old.tally c.read.front c.is.item c.read.tally);
}

over_is : (section : Section) (counts : Counts) (before : List Said) (parts left : List Part) (part : Part) (old : Walk) (found : FoundItem) (which : LimitKind) → (c : Chosen section counts before parts left part old found)
    → misplaced_item counts old.tally found.item ≡ None → passed_item section counts old.tally found.item ≡ Some which → Exceeds section before parts which
over_is section counts before parts left part old found which c m p =
    let t = passed_is section counts before parts left part old found c (Some which) p in
    record {
      of = t.0;
      fitting = c.read.fitting ++ part ∷ [];
      left = left;
      are = c.read.are ∙ sym (append_assoc c.read.fitting (part ∷ []) left);
      front = c.read.front;
      item = c.is.item;
      begins = record {
        may = lives section (c.read.front ++ c.is.item ∷ []) found.next (walks_to section counts before parts left part old found c);
        spelled = spells_append c.read.front (c.is.item ∷ []) c.read.fitting (part ∷ []) c.read.spelled (c.is.is, tt);
        in_range = range_push before [] c.read.front c.is.item c.read.in_range (misplaced_is section counts before parts left part old found c None m);
      };
      passes = t.1;
    }

-- the part does not fit
pub record Fails (section : Section) (before : List Said) (parts left : List Part) (part : Part) (offset : ℕ) : Type 0 where
  pub fitting : List Part
  pub misfit : Misfit
  pub fits : FitsUpTo section before parts fitting (part ∷ left) misfit
  pub offset_is : offset ≡ offset_of misfit part.text
  pub under : IsUnder section before parts

fails_by : (section : Section) (before : List Said) (parts left : List Part) (part : Part) (offset : ℕ) (old : Walk) (misfit : Misfit) → (r : IsRead section before parts (part ∷ left) old)
    → Misses section before r.front (part ∷ left) misfit → offset ≡ offset_of misfit part.text → Fails section before parts left part offset
fails_by section before parts left part offset old misfit r m e = record {
  fitting = r.fitting;
  misfit = misfit;
  fits = record { are = r.are; front = r.front; begins = begins_of section before parts (part ∷ left) old r; misses = m };
  offset_is = e;
  under = under_here section before parts (part ∷ left) old misfit r (λ other more f. m);
}

misplaced_fails : (section : Section) (counts : Counts) (before : List Said) (parts left : List Part) (part : Part) (old : Walk) (found : FoundItem) (number : NumberSpot) → (c : Chosen section counts before parts left part old found)
    → misplaced_item counts old.tally found.item ≡ Some number → Fails section before parts left part (offset_in part.text (digit_of number))
misplaced_fails section counts before parts left part old found number c m =
    fails_by section before parts left part (offset_in part.text (digit_of number)) old (Misplaced (digit_of number)) c.read
    (c.is.item, lives section (c.read.front ++ c.is.item ∷ []) found.next (walks_to section counts before parts left part old found c), c.is.is, misplaced_is section counts before parts left part old found c (Some number) m)
    refl

unfit_fails : (section : Section) (before : List Said) (parts left : List Part) (part : Part) (old : Walk) → (r : IsRead section before parts (part ∷ left) old) → NoItemAt old.spot part.text → Fails section before parts left part 0
unfit_fails section before parts left part old r none =
    fails_by section before parts left part 0 old Unfit r
    (λ item may is.
    let w = walks section (r.front ++ item ∷ []) may in
    let f = walk_front (SectionDue section) r.front (item ∷ []) w.0 w.1 in
    let s : f.mid ≡ old.spot = some_is f.mid old.spot (sym f.first ∙ r.walked_to) in
    let b = bound_some (moved f.mid item) (λ n. walked n []) w.0 f.rest in
    none item b.0 (ap (λ (x : Spot). moved x item) (sym s) ∙ b.1) is)
    refl

abbrev pub Stepped : Section → List Said → List Part → List Part → Part → Walk → Step → Type 0
Stepped section before parts left part new Taken = IsRead section before parts left new
Stepped section before parts left part new (StepOver which) = Exceeds section before parts which
Stepped section before parts left part new (StepUnfit offset) = Fails section before parts left part offset

pub stepped : (section : Section) (counts : Counts) (before : List Said) (parts left : List Part) (part : Part) (old new : Walk) (step : Step)
    → IsCounted counts before → IsRead section before parts (part ∷ left) old → Steps section counts part.text old new step → Stepped section before parts left part new step
stepped section counts before parts left part old new step k r (NoItem none e) = subst (Stepped section before parts left part new) (sym e) (unfit_fails section before parts left part old r none)
stepped section counts before parts left part old new step k r (AnItem found is e taken) =
    by_parts (misplaced_item counts old.tally found.item) (passed_item section counts old.tally found.item) refl refl
  where
    c : Chosen section counts before parts left part old found
    c = record { counted = k; read = r; is = is }

    step_is : (o : Option NumberSpot) (p : Option LimitKind) → misplaced_item counts old.tally found.item ≡ o → passed_item section counts old.tally found.item ≡ p → step ≡ step_by o p part.text
    step_is o p m q = e ∙ ap (λ (x : Option NumberSpot). step_by x (passed_item section counts old.tally found.item) part.text) m ∙ ap (λ (x : Option LimitKind). step_by o x part.text) q

    by_parts : (o : Option NumberSpot) (p : Option LimitKind) → misplaced_item counts old.tally found.item ≡ o → passed_item section counts old.tally found.item ≡ p → Stepped section before parts left part new step
    by_parts (Some number) p m q = subst (Stepped section before parts left part new) (sym (step_is (Some number) p m q)) (misplaced_fails section counts before parts left part old found number c m)
    by_parts None (Some which) m q = subst (Stepped section before parts left part new) (sym (step_is None (Some which) m q)) (over_is section counts before parts left part old found which c m q)
    by_parts None None m q = let s = step_is None None m q in subst (Stepped section before parts left part new) (sym s) (taken_is section counts before parts left part old new found c m q (taken s))

pub misfit_read : (section : Section) (before : List Said) (line : List ℕ) (left : List Part) (part : Part) (offset : ℕ) → Fails section before (parts_in section line) left part offset → IsMisfitAt section before line (part.place + offset)
misfit_read section before line left part offset f = record {
  fitting = f.fitting;
  left = part ∷ left;
  misfit = f.misfit;
  fits = f.fits;
  is = ap (λ (n : ℕ). part.place + n) f.offset_is;
  under = f.under;
}

pub parts_are : (section : Section) (line : List ℕ) → parts_in section line ≡ parts_from (cutting_of section) 1 line
parts_are PtcLines line = refl
parts_are IsolationLines line = refl
parts_are ReplicaLines line = refl
parts_are TableLines line = refl
parts_are RowLines line = refl
parts_are SessionLines line = refl
parts_are LocalLines line = refl
parts_are ScheduleLines line = refl
parts_are EndLines line = refl

-- ---- the loop over the parts

-- what is read of the line, and what is left
pub record Reading (section : Section) (counts : Counts) (line : List ℕ) (walk : Walk) (place : ℕ) (rest : List ℕ) (cutting : Cutting) : Type 0 where
  pub read : (before : List Said) → IsCounted counts before → IsRead section before (parts_in section line) (parts_from cutting place rest) walk
  pub within : place + length rest ≡ 1 + length line

pub begun : (section : Section) (counts : Counts) (line : List ℕ) (walk : Walk) → IsStart section walk → Reading section counts line walk 1 line (cutting_of section)
begun section counts line walk s = record {
  read = λ before k. subst (λ (ps : List Part). IsRead section before (parts_in section line) ps walk) (parts_are section line) (starts section before (parts_in section line) walk s);
  within = refl;
}

step_at : (section : Section) (counts : Counts) (line : List ℕ) (old new : Walk) (place : ℕ) (rest : List ℕ) (cutting : Cutting) (at : ℕ) (text : List ℕ) (next : ℕ) (more : List ℕ) (behind : Cutting) (step : Step)
    → Reading section counts line old place rest cutting → NextPart cutting place rest at text next more behind → Steps section counts text old new step
    → (before : List Said) → IsCounted counts before → Stepped section before (parts_in section line) (parts_from behind next more) (record { place = at; text = text }) new step
step_at section counts line old new place rest cutting at text next more behind step r p s before k =
    stepped section counts before (parts_in section line) (parts_from behind next more) (record { place = at; text = text }) old new step k
    (subst (λ (ps : List Part). IsRead section before (parts_in section line) ps old) p.parts (r.read before k)) s

pub went_on : (section : Section) (counts : Counts) (line : List ℕ) (old new : Walk) (place : ℕ) (rest : List ℕ) (cutting : Cutting) (at : ℕ) (text : List ℕ) (next : ℕ) (more : List ℕ) (behind : Cutting)
    → Reading section counts line old place rest cutting → NextPart cutting place rest at text next more behind → Steps section counts text old new Taken → Reading section counts line new next more behind
went_on section counts line old new place rest cutting at text next more behind r p s = record {
  read = step_at section counts line old new place rest cutting at text next more behind Taken r p s;
  within = p.places ∙ r.within;
}

pub over_told : (section : Section) (counts : Counts) (line : List ℕ) (old new : Walk) (place : ℕ) (rest : List ℕ) (cutting : Cutting) (at : ℕ) (text : List ℕ) (next : ℕ) (more : List ℕ) (behind : Cutting) (which : LimitKind)
    → Reading section counts line old place rest cutting → NextPart cutting place rest at text next more behind → Steps section counts text old new (StepOver which)
    → (before : List Said) → IsCounted counts before → IsReading section before line (Over which)
over_told section counts line old new place rest cutting at text next more behind which r p s before k = step_at section counts line old new place rest cutting at text next more behind (StepOver which) r p s before k

pub misfit_told : (section : Section) (counts : Counts) (line : List ℕ) (old new : Walk) (place : ℕ) (rest : List ℕ) (cutting : Cutting) (at : ℕ) (text : List ℕ) (next : ℕ) (more : List ℕ) (behind : Cutting) (offset : ℕ)
    → Reading section counts line old place rest cutting → NextPart cutting place rest at text next more behind → Steps section counts text old new (StepUnfit offset)
    → (before : List Said) → IsCounted counts before → IsReading section before line (MisfitRead (at + offset))
misfit_told section counts line old new place rest cutting at text next more behind offset r p s before k =
    misfit_read section before line (parts_from behind next more) (record { place = at; text = text }) offset (step_at section counts line old new place rest cutting at text next more behind (StepUnfit offset) r p s before k)

pub all_told : (section : Section) (counts : Counts) (line : List ℕ) (walk : Walk) (place : ℕ) (rest : List ℕ) (cutting : Cutting) (reading : LineReading)
    → Reading section counts line walk place rest cutting → parts_from cutting place rest ≡ [] → reading ≡ ends walk line → (before : List Said) → IsCounted counts before → IsReading section before line reading
all_told section counts line walk place rest cutting reading r e is before k =
    subst (IsReading section before line) (sym is) (ended section before line walk (subst (λ (ps : List Part). IsRead section before (parts_in section line) ps walk) e (r.read before k)))

-- ---- bounds

pub part_short : (cutting : Cutting) (place : ℕ) (rest : List ℕ) (at : ℕ) (text : List ℕ) (next : ℕ) (more : List ℕ) (behind : Cutting) → NextPart cutting place rest at text next more behind → at + length text ≤ place + length rest
part_short cutting place rest at text next more behind p = first_within cutting place at rest text (parts_from behind next more) p.parts

behind_short : (stop : ℕ) (text : List ℕ) → behind_byte stop text ≤ length text
behind_short stop [] = omega arith
behind_short stop (byte ∷ bytes) = by_test (byte == stop) refl (behind_short stop bytes)
  where
    by_test : (is : Bool) → (byte == stop) ≡ is → behind_byte stop bytes ≤ length bytes → behind_byte stop (byte ∷ bytes) ≤ suc (length bytes)
    by_test true e l = let f : behind_byte stop (byte ∷ bytes) ≡ 1 = rw e refl in omega (arith, f)
    by_test false e l = let f : behind_byte stop (byte ∷ bytes) ≡ suc (behind_byte stop bytes) = rw e refl in omega (arith, f, l)

offset_short : (text : List ℕ) (digit : Digit) → offset_in text digit ≤ length text + 1
offset_short text AtFirst = omega arith
offset_short text BehindLetter = omega arith
offset_short text BehindPoint = let l = behind_short 46 text in omega (arith, l)
offset_short text BehindPointLetter = let l = behind_short 46 text in omega (arith, l)
offset_short text BehindStar = let l = behind_short 42 text in omega (arith, l)

unfit_is : (offset other : ℕ) → StepUnfit offset ≡ StepUnfit other → offset ≡ other
unfit_is offset other e = cc

unfit_by : (o : Option NumberSpot) (p : Option LimitKind) (text : List ℕ) (offset : ℕ) → StepUnfit offset ≡ step_by o p text → offset ≤ length text + 1
unfit_by (Some number) p text offset e = let f = unfit_is offset (offset_in text (digit_of number)) e in let l = offset_short text (digit_of number) in omega (arith, f, l)
unfit_by None (Some which) text offset e = absurd cc
unfit_by None None text offset e = absurd cc

pub unfit_short : (section : Section) (counts : Counts) (text : List ℕ) (old new : Walk) (offset : ℕ) → Steps section counts text old new (StepUnfit offset) → offset ≤ length text + 1
unfit_short section counts text old new offset (NoItem none e) = let f = unfit_is offset 0 e in omega (arith, f)
unfit_short section counts text old new offset (AnItem found is e taken) = unfit_by (misplaced_item counts old.tally found.item) (passed_item section counts old.tally found.item) text offset e

-- ---- the place of a part

-- the part that is looked for is among those that are left
pub record IsCounting (section : Section) (line : List ℕ) (number place : ℕ) (rest : List ℕ) (cutting : Cutting) (left : ℕ) : Type 0 where
  pub among : place_of (past_end line) (parts_from cutting place rest) left ≡ place_of (past_end line) (parts_in section line) number
  pub within : place + length rest ≡ 1 + length line

pub counting_begun : (section : Section) (line : List ℕ) (number : ℕ) → IsCounting section line number 1 line (cutting_of section) number
counting_begun section line number = record { among = ap (λ (ps : List Part). place_of (past_end line) ps number) (sym (parts_are section line)); within = refl }

pub part_found : (section : Section) (line : List ℕ) (number place : ℕ) (rest : List ℕ) (cutting : Cutting) (left at : ℕ) (text : List ℕ) (next : ℕ) (more : List ℕ) (behind : Cutting)
    → IsCounting section line number place rest cutting left → NextPart cutting place rest at text next more behind → left ≡ 0 → at ≡ place_of (past_end line) (parts_in section line) number
part_found section line number place rest cutting left at text next more behind k p z =
    ap (place_of (past_end line) (record { place = at; text = text } ∷ parts_from behind next more)) (sym z)
    ∙ ap (λ (ps : List Part). place_of (past_end line) ps left) (sym p.parts)
    ∙ k.among

pub part_passed : (section : Section) (line : List ℕ) (number place : ℕ) (rest : List ℕ) (cutting : Cutting) (left at : ℕ) (text : List ℕ) (next : ℕ) (more : List ℕ) (behind : Cutting) (fewer : ℕ)
    → IsCounting section line number place rest cutting left → NextPart cutting place rest at text next more behind → left ≡ suc fewer → IsCounting section line number next more behind fewer
part_passed section line number place rest cutting left at text next more behind fewer k p s = record {
  among =
      ap (place_of (past_end line) (record { place = at; text = text } ∷ parts_from behind next more)) (sym s)
      ∙ ap (λ (ps : List Part). place_of (past_end line) ps left) (sym p.parts)
      ∙ k.among;
  within = let w = k.within in let q = p.places in omega (arith, w, q);
}

pub part_missing : (section : Section) (line : List ℕ) (number place : ℕ) (rest : List ℕ) (cutting : Cutting) (left : ℕ) → IsCounting section line number place rest cutting left → parts_from cutting place rest ≡ []
    → past_end line ≡ place_of (past_end line) (parts_in section line) number
part_missing section line number place rest cutting left k e = ap (λ (ps : List Part). place_of (past_end line) ps left) (sym e) ∙ k.among

pub one_more : (n : ℕ) → (n ≡ 0 → ⊥) → n ≡ suc (n - 1)
one_more zero never = absurd (never refl)
one_more (suc n) never = omega arith
