-- What lines and items count up to, and what that says of the next item: which number in it is misplaced, and
-- which limit it passes.
use Rattle.std.specs.Prelude.{◌≡◌, ◌≤◌, ◌+◌, ◌==◌, ◌&&◌, ◌||◌, leb, not, ℕ, suc, Bool, true, false, List, [], ◌∷◌, ◌++◌, Option, None, Some, get_or, if◌then◌else◌}
use Rattle.std.specs.Option.{option_or}
use Rattle.statement_tokens.specs.Tokens.{most_number}
use Rattle.file_text.specs.declared.places.Section.{Section}
use Rattle.file_text.specs.declared.places.Section.TheVariants.{TableLines, ReplicaLines, LocalLines, ScheduleLines}
use Rattle.file_text.specs.declared.faults.LimitKind.{LimitKind}
use Rattle.file_text.specs.declared.faults.LimitKind.TheVariants.{Columns, Replicas as ReplicaLimit, Locals, Schedule as ScheduleLimit}
use Rattle.file_text.specs.Said.{Said, Item}
use Rattle.file_text.specs.Context.{sessions_in, locals_in, scheduled_in}
use Rattle.file_text.specs.Rules.{Digit, AtFirst, BehindLetter, BehindPoint, BehindPointLetter, BehindStar, turns_among, ends_in_minus, offset_in}
use Rattle.file_text.specs.Causes.{names_among}
use Rattle.line_words.specs.declared.actors.ActorWord.{ActorWord}
use Rattle.line_words.specs.declared.actors.ActorWord.TheVariants.{FurtherWorker}
use Rattle.line_words.specs.declared.items.ItemWord.{ItemWord}
use Rattle.line_words.specs.declared.items.ItemWord.TheVariants as w
use Rattle.line_words.specs.Actors.{kept}
use Rattle.line_items.specs.declared.counts.Counts.{Counts}
use Rattle.line_items.specs.declared.counts.Tally.{Tally}
use Rattle.line_items.specs.declared.found_items.LineItem.{LineItem}
use Rattle.line_items.specs.declared.found_items.LineItem.TheVariants as i
use Rattle.line_items.specs.declared.ranges.NumberSpot.{NumberSpot}
use Rattle.line_items.specs.declared.ranges.NumberSpot.TheVariants as at

-- these are the counts of the lines before, which pass no limit
pub record IsCounted (counts : Counts) (before : List Said) : Type 0 where
  pub sessions : counts.sessions ≡ sessions_in before
  pub locals : (replica : ℕ) → get_or counts.locals.items (kept replica) 0 ≡ locals_in replica before
  pub scheduled : counts.scheduled ≡ scheduled_in before
  pub few_sessions : sessions_in before ≤ 64
  pub few_locals : (replica : ℕ) → locals_in replica before ≤ 16

-- a number past a limit is one more than it
abbrev pub capped : ℕ → ℕ → ℕ
capped limit n = if leb n limit then n else suc limit

-- this is the tally of the items from the front of the line
pub record IsTally (tally : Tally) (front : List Item) : Type 0 where
  pub turns : tally.turns ≡ capped 10000000 (turns_among front)
  pub names : tally.names ≡ capped 17 (names_among front)
  pub minus : tally.behind_minus ≡ ends_in_minus front

abbrev pub turns_of_word : ItemWord → ℕ
turns_of_word (w.Times actor count) = count
turns_of_word word = 1

abbrev pub turns_of_item : LineItem → ℕ
turns_of_item (i.Turns word) = turns_of_word word
turns_of_item item = 0

abbrev pub names_of_item : LineItem → ℕ
names_of_item (i.Name name) = 1
names_of_item item = 0

abbrev pub is_minus_item : LineItem → Bool
is_minus_item (i.Sign sign) = sign == 45
is_minus_item item = false

abbrev pub tally_behind : Tally → LineItem → Tally
tally_behind tally item = record {
  turns = capped 10000000 (tally.turns + turns_of_item item);
  names = capped 17 (tally.names + names_of_item item);
  behind_minus = is_minus_item item;
}

-- ---- numbers out of their range or their order

abbrev pub digit_of : NumberSpot → Digit
digit_of at.AtFirst = AtFirst
digit_of at.BehindLetter = BehindLetter
digit_of at.BehindPoint = BehindPoint
digit_of at.BehindPointLetter = BehindPointLetter
digit_of at.BehindStar = BehindStar

abbrev pub unless_at : Bool → NumberSpot → Option NumberSpot
unless_at true number = None
unless_at false number = Some number

abbrev pub misplaced_actor : ActorWord → Option NumberSpot
misplaced_actor (FurtherWorker replica worker) = unless_at (leb 2 worker && leb worker 8) at.BehindPoint
misplaced_actor actor = None

abbrev pub misplaced_word : ℕ → ItemWord → Option NumberSpot
misplaced_word turns (w.Once actor) = misplaced_actor actor
misplaced_word turns (w.Times actor count) =
    option_or (misplaced_actor actor) (unless_at ((leb 1 count && leb count 1000000) || not (leb (turns + count) 10000000)) at.BehindStar)
misplaced_word turns word = None

-- in order where the replica has so many sessions
abbrev pub local_fits : ℕ → ℕ → Bool
local_fits locals session = session == locals + 1 || leb 16 locals

abbrev pub misplaced_item : Counts → Tally → LineItem → Option NumberSpot
misplaced_item counts tally (i.Version version) = unless_at (version == 1) at.AtFirst
misplaced_item counts tally (i.Count count) = unless_at (leb 1 count) at.AtFirst
misplaced_item counts tally (i.Length length) = unless_at (leb 1 length && leb length 255) at.AtFirst
misplaced_item counts tally (i.Session session) = unless_at (session == counts.sessions + 1) at.BehindLetter
misplaced_item counts tally (i.Local replica session) = unless_at (local_fits (get_or counts.locals.items replica 0) session) at.BehindPointLetter
misplaced_item counts tally (i.Turns word) = misplaced_word (counts.scheduled + tally.turns) word
misplaced_item counts tally (i.Digits n) = unless_at (leb n (most_number tally.behind_minus)) at.AtFirst
misplaced_item counts tally item = None

-- ---- limits

abbrev pub when_over : Bool → LimitKind → Option LimitKind
when_over true which = Some which
when_over false which = None

abbrev pub passed_columns : Tally → LineItem → Option LimitKind
passed_columns tally item = when_over (not (leb (tally.names + names_of_item item) 17)) Columns

abbrev pub passed_replicas : LineItem → Option LimitKind
passed_replicas (i.Count count) = when_over (not (leb count 8)) ReplicaLimit
passed_replicas item = None

abbrev pub passed_locals : Counts → LineItem → Option LimitKind
passed_locals counts (i.Local replica session) = when_over (leb 16 (get_or counts.locals.items replica 0)) Locals
passed_locals counts item = None

abbrev pub passed_schedule : Counts → Tally → LineItem → Option LimitKind
passed_schedule counts tally (i.Turns word) = when_over (not (leb (counts.scheduled + tally.turns + turns_of_word word) 10000000)) ScheduleLimit
passed_schedule counts tally item = None

abbrev pub passed_item : Section → Counts → Tally → LineItem → Option LimitKind
passed_item TableLines counts tally item = passed_columns tally item
passed_item ReplicaLines counts tally item = passed_replicas item
passed_item LocalLines counts tally item = passed_locals counts item
passed_item ScheduleLines counts tally item = passed_schedule counts tally item
passed_item section counts tally item = None
