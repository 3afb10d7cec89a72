-- From what a line says and the first rule that it breaks to what it makes of the state.
use Rattle.std.proofs.Common.{◌≡◌, ◌≤◌, ◌<◌, ℕ, Bool, true, false, List, map, Some, None, refl, sym, subst, ◌∙◌, arith, leb, leb-true, leb-false}
use Rattle.std.specs.Prelude.{◌+◌}
use Rattle.std.specs.List.{AllByRecursion}
use Rattle.std.proofs.Math.Nat.{min-eq_left}
use Rattle.file_text.specs.declared.faults.LimitKind.TheVariants.{Schedule as ScheduleLimit}
use Rattle.file_text.specs.Context.{replicas_of}
use Rattle.file_text.specs.Rules.{Says}
use Rattle.line_words.specs.Actors.{kept}
use Rattle.line_words.specs.Items.{kept_word}
use Rattle.line_words.specs.declared.items.ItemWord.{ItemWord}
use Rattle.file_scripts.specs.Counting.{turns_of}
use Rattle.file_scripts.specs.Schedules.{FitsWord}
use Rattle.file_scripts.proofs.CountLemmas.{turns_kept}
use Rattle.file_scripts.proofs.LimitLemmas.{turns_few}
use Rattle.file_scripts.proofs.ScheduleLemmas.{words_fit}
use Rattle.file_state.proofs.KeepLemmas.{words_are}
use Rattle.file_text.specs.declared.places.Section.{Section}
use Rattle.file_text.specs.declared.places.Section.TheVariants.{PtcLines, IsolationLines, ReplicaLines, TableLines, RowLines, SessionLines, LocalLines, ScheduleLines, EndLines}
use Rattle.file_text.specs.Said.{Said, Header, Isolation, Replicas, TableOf, RowOf, SessionOf, LocalOf, Schedule, End, Level, ColumnText, Node, Literal, ScheduleWord, section_of}
use Rattle.file_text.specs.Causes.{OfLimit, IsReplica, IsRefused, IsGood}
use Rattle.line_items.specs.declared.found_items.LineItem.{LineItem}
use Rattle.line_values.specs.Values.{the_count, the_replica, the_words}
use Rattle.line_values.specs.Lines.{Gives, IsSaid}
use Rattle.line_values.proofs.LineLemmas.{whole_says}
use Rattle.cause_laws.specs.Clear.{NamesDeclared}
use Rattle.cause_laws.proofs.SaidLemmas.{good_line, refused_line}
use Rattle.line_checks.specs.declared.line_faults.LineFault.{LineFault}
use Rattle.line_checks.specs.Faults.{cause_of}
use Rattle.line_decisions.specs.Decides.{Decides}
use Rattle.file_state.specs.declared.states.FileState.{FileState}
use Rattle.file_state.specs.Keeps.{Keeps, LeadsTo}
use Rattle.line_takes.specs.Takes.{GoesOn, IsLine, IsNext}

-- ---- what a line of each section says

pub header_only : (P : Said → Type 0) (said : Said) → section_of said ≡ Some PtcLines → ((v : ℕ) → P (Header v)) → P said
header_only P (Header v) e f = f v
header_only P _ e f = absurd cc

pub isolation_only : (P : Said → Type 0) (said : Said) → section_of said ≡ Some IsolationLines → ((l : Level) → P (Isolation l)) → P said
isolation_only P (Isolation l) e f = f l
isolation_only P _ e f = absurd cc

pub replicas_only : (P : Said → Type 0) (said : Said) → section_of said ≡ Some ReplicaLines → ((n : ℕ) → P (Replicas n)) → P said
replicas_only P (Replicas n) e f = f n
replicas_only P _ e f = absurd cc

pub table_only : (P : Said → Type 0) (said : Said) → section_of said ≡ Some TableLines → ((n : List ℕ) (cs : List ColumnText) → P (TableOf n cs)) → P said
table_only P (TableOf n cs) e f = f n cs
table_only P _ e f = absurd cc

pub row_only : (P : Said → Type 0) (said : Said) → section_of said ≡ Some RowLines → ((n : Node) (t : List ℕ) (ls : List Literal) → P (RowOf n t ls)) → P said
row_only P (RowOf n t ls) e f = f n t ls
row_only P _ e f = absurd cc

pub session_only : (P : Said → Type 0) (said : Said) → section_of said ≡ Some SessionLines → ((s : ℕ) → P (SessionOf s)) → P said
session_only P (SessionOf s) e f = f s
session_only P _ e f = absurd cc

pub local_only : (P : Said → Type 0) (said : Said) → section_of said ≡ Some LocalLines → ((r s : ℕ) → P (LocalOf r s)) → P said
local_only P (LocalOf r s) e f = f r s
local_only P _ e f = absurd cc

pub schedule_only : (P : Said → Type 0) (said : Said) → section_of said ≡ Some ScheduleLines → ((ws : List ScheduleWord) → P (Schedule ws)) → P said
schedule_only P (Schedule ws) e f = f ws
schedule_only P _ e f = absurd cc

pub end_only : (P : Said → Type 0) (said : Said) → section_of said ≡ Some EndLines → (P (End)) → P said
end_only P (End) e f = f
end_only P _ e f = absurd cc

pub said_of : (section : Section) (before : List Said) (line : List ℕ) (items : List LineItem) → IsLine section before line items → IsSaid section before line items
said_of section before line items l = whole_says section before line items l.short l.opens l.form.whole

-- ---- taken or refused

pub refused : (section : Section) (before : List Said) (line : List ℕ) (items : List LineItem) (fault : LineFault) → IsLine section before line items
    → ((said : Said) → section_of said ≡ Some section → Gives said items → Decides section before line said (Some fault)) → IsRefused before line (cause_of fault)
refused section before line items fault l f =
    let s = said_of section before line items l in
    refused_line section before line s.said (cause_of fault) l.opens s.of s.says l.form.clear (f s.said s.of s.gives)

-- what a line that breaks no rule says leads from the old state to the new one
pub record Goes (section : Section) (before : List Said) (line : List ℕ) (old new : FileState) (said : Said) : Type 0 where
  pub decided : Decides section before line said None
  pub leads : LeadsTo said old new

pub went_on : (section : Section) (before : List Said) (line : List ℕ) (items : List LineItem) (old new : FileState) → Keeps old before → IsLine section before line items
    → ((said : Said) → section_of said ≡ Some section → Gives said items → Goes section before line old new said) → GoesOn before line new
went_on section before line items old new k l f =
    let s = said_of section before line items l in
    let d = f s.said s.of s.gives in
    let g = good_line section before line s.said l.opens s.of s.says l.form.clear d.decided in
    record { said = s.said; good = g; keeps = d.leads before line k g }

-- the number of a REPLICAS line that comes next
pub few_counted : (state : FileState) (line : List ℕ) (items : List LineItem) → IsNext ReplicaLines state line items → the_count items ≤ 8
few_counted state line items n =
    let s = said_of ReplicaLines n.before line items n.is in
    replicas_only (λ (said : Said). Gives said items → the_count items ≤ 8) s.said s.of (λ count g. let e = g.is in let f = g.few in omega (arith, e, f)) s.gives

-- ---- what LOCAL and SCHEDULE lines that come next may be

small_replica : (before : List Said) (replica session : ℕ) → replicas_of before ≤ 8 → NamesDeclared before (LocalOf replica session) → replica ≤ 8
small_replica before replica session few n = by_test (leb replica 8) refl
  where
    never : 8 < replica → IsReplica before replica → ⊥
    never h r = let u = r.1 in omega (arith, h, u, few)

    by_test : (b : Bool) → leb replica 8 ≡ b → replica ≤ 8
    by_test true e = leb-true replica 8 e
    by_test false e = absurd (n 0 (refl, never (leb-false replica 8 e)))

pub kept_small : (n : ℕ) → n ≤ 8 → kept n ≡ n
kept_small n h = min-eq_left (omega (arith, h))

-- the replica that the items give is the one that is said
pub replica_is : (before : List Said) (line : List ℕ) (items : List LineItem) (replica session : ℕ) → replicas_of before ≤ 8 → Decides LocalLines before line (LocalOf replica session) None → the_replica items ≡ kept replica
    → (the_replica items ≡ replica) × (replica ≤ 8)
replica_is before line items replica session few d e = let h = small_replica before replica session few d.actor in (e ∙ kept_small replica h, h)

pub local_small : (state : FileState) (line : List ℕ) (items : List LineItem) → (n : IsNext LocalLines state line items) → ((replica session : ℕ) → the_replica items ≡ kept replica → Decides LocalLines n.before line (LocalOf replica session) None) → the_replica items ≤ 8
local_small state line items n d =
    let s = said_of LocalLines n.before line items n.is in
    local_only (λ (said : Said). Gives said items → the_replica items ≤ 8) s.said s.of
    (λ replica session g.
    let p = replica_is n.before line items replica session n.keeps.few_replicas (d replica session g) g in
    let e = p.0 in
    let h = p.1 in
    omega (arith, e, h))
    s.gives

pub record Scheduled (state : FileState) (items : List LineItem) : Type 0 where
  pub fit : AllByRecursion FitsWord (the_words items)
  pub turns : state.counts.scheduled + turns_of (the_words items) ≤ 10000000

good_schedule : (state : FileState) (before : List Said) (line : List ℕ) (items : List LineItem) (words : List ScheduleWord) → Keeps state before → IsGood before line (Schedule words) → the_words items ≡ map kept_word words → Scheduled state items
good_schedule state before line items words k g e =
    let are = words_are state before line words k g in
    let few = turns_few before line words g.says (g.good (OfLimit ScheduleLimit)) k.few_turns in
    let turns = turns_kept words are.turns in
    let same = k.counted.scheduled in
    record {
      fit = subst (AllByRecursion FitsWord) (sym e) (words_fit before words are);
      turns = subst (λ (l : List ItemWord). state.counts.scheduled + turns_of l ≤ 10000000) (sym e) (omega (arith, few, turns, same));
    }

pub scheduled : (state : FileState) (line : List ℕ) (items : List LineItem) → (n : IsNext ScheduleLines state line items) → ((words : List ScheduleWord) → the_words items ≡ map kept_word words → Decides ScheduleLines n.before line (Schedule words) None) → Scheduled state items
scheduled state line items n d =
    let s = said_of ScheduleLines n.before line items n.is in
    schedule_only (λ (said : Said). section_of said ≡ Some ScheduleLines → Says n.before line said → Gives said items → Scheduled state items) s.said s.of
    (λ words o y g. good_schedule state n.before line items words n.keeps (good_line ScheduleLines n.before line (Schedule words) n.is.opens o y n.is.form.clear (d words g)) g)
    s.of s.says s.gives
