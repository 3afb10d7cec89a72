-- What may stand at each place of a line.
use Rattle.std.proofs.Common.{◌≡◌, ◌⊎◌, ◌==◌, ℕ, Bool, true, false, List, [], ◌∷◌, Option, Some, None, refl, sym, ap, ◌∙◌, arith, inl, inr}
use Rattle.std.proofs.lemmas.Bool.Decides.{nat_tests}
use Rattle.std.specs.Prelude.{if◌then◌else◌}
use Rattle.std.specs.Str.{str_eq_ignore_ascii_case}
use Rattle.statement_tokens.specs.Spellings.{IsNameText, IsNumberText, IsQuoted}
use Rattle.file_text.specs.declared.places.Section.{Section}
use Rattle.file_text.specs.declared.places.Section.TheVariants.{PtcLines, IsolationLines, ReplicaLines, TableLines, RowLines, SessionLines, LocalLines, ScheduleLines, EndLines}
use Rattle.file_text.specs.declared.places.Keyword.{Keyword}
use Rattle.file_text.specs.declared.places.Keyword.TheVariants.{First, WorkloadWord, RepeatableWord, ReadWord, CommittedWord, UncommittedWord, SerializableWord, IntWord, BigIntWord, VarcharWord, KeyWord, NotWord, NullKeyword}
use Rattle.file_text.specs.declared.places.ColumnSpot.{ColumnSpot}
use Rattle.file_text.specs.declared.places.ColumnSpot.TheVariants.{FirstColumn, SecondColumn, FurtherColumn}
use Rattle.file_text.specs.declared.places.Spot.{Spot}
use Rattle.file_text.specs.declared.places.Spot.TheVariants.{SectionDue, WorkloadDue, VersionDue, LevelDue, ReadDue, CommittedDue, CountDue, TableDue, ColumnsDue, ColumnDue, KindDue, LengthOpens, LengthDue, LengthCloses, MarkDue, NullDue, CommaDue, NodeDue, RowTableDue, RowOpens, LiteralDue, DigitsDue, LiteralEnds, SessionDue, LocalDue, TurnsDue, NothingDue}
use Rattle.file_text.specs.Said.{Item, Word, Sign, Name, Version, Count, Length, NodeWord, SessionWord, LocalWord, Turns, Digits, Quote, Turn, OfLocal, spelling, IsDecimal, IsLed, IsTurn, IsItem}
use Rattle.file_text.specs.Spots.{when, opens_section, first_spot, next_column, moved}
use Rattle.file_text.proofs.WordLemmas.{turn_once}
use Rattle.line_words.specs.Numbers.{Capped}
use Rattle.line_words.specs.declared.actors.ActorWord.{ActorWord}
use Rattle.line_words.specs.declared.actors.ActorWord.TheVariants as a
use Rattle.line_words.specs.declared.items.ItemWord.{ItemWord}
use Rattle.line_words.specs.declared.nodes.NodeWord.{NodeWord as NodeFound}
use Rattle.line_words.specs.Actors.{kept, kept_turn, IsActorWord, NoActor}
use Rattle.line_words.specs.Items.{IsItemWord, NoItem, IsNodeWord, NoNode}
use Rattle.file_laws.proofs.FitLemmas.{true_false}
use Rattle.line_items.specs.declared.found_items.LineItem.TheVariants as i
use Rattle.line_items.specs.declared.found_items.FoundItem.{FoundItem}
use Rattle.line_items.specs.Items.{kept_item, IsItemAt, NoItemAt}
use Rattle.line_items.specs.Literals.{NoPlainLiteral, is_local}

-- ---- what is found

pub word_found : (spot next : Spot) (keyword : Keyword) (text : List ℕ) → moved spot (Word keyword) ≡ Some next → str_eq_ignore_ascii_case (spelling keyword) text ≡ true → IsItemAt spot text (record { item = i.Word keyword; next = next })
word_found spot next keyword text m e = record { item = Word keyword; moves = m; is = e; kept = refl }

opens_itself : (section : Section) → opens_section section section ≡ Some (first_spot section)
opens_itself PtcLines = refl
opens_itself IsolationLines = refl
opens_itself ReplicaLines = refl
opens_itself TableLines = refl
opens_itself RowLines = refl
opens_itself SessionLines = refl
opens_itself LocalLines = refl
opens_itself ScheduleLines = refl
opens_itself EndLines = refl

pub section_found : (section : Section) (text : List ℕ) → str_eq_ignore_ascii_case (spelling (First section)) text ≡ true → IsItemAt (SectionDue section) text (record { item = i.Word (First section); next = first_spot section })
section_found section text e = record { item = Word (First section); moves = opens_itself section; is = e; kept = refl }

pub columns_open : (text : List ℕ) → text ≡ 40 ∷ [] → IsItemAt ColumnsDue text (record { item = i.Sign 40; next = ColumnDue FirstColumn })
columns_open text e = record { item = Sign 40; moves = refl; is = e; kept = refl }

pub length_opens : (column : ColumnSpot) (text : List ℕ) → text ≡ 40 ∷ [] → IsItemAt (LengthOpens column) text (record { item = i.Sign 40; next = LengthDue column })
length_opens column text e = record { item = Sign 40; moves = refl; is = e; kept = refl }

pub length_closes : (column : ColumnSpot) (text : List ℕ) → text ≡ 41 ∷ [] → IsItemAt (LengthCloses column) text (record { item = i.Sign 41; next = MarkDue column })
length_closes column text e = record { item = Sign 41; moves = refl; is = e; kept = refl }

pub second_ends : (text : List ℕ) (found : FoundItem) → IsItemAt (CommaDue SecondColumn) text found → IsItemAt (MarkDue SecondColumn) text found
second_ends text found f = by_item f.item f.moves f.is f.kept
  where
    by_item : (item : Item) → moved (CommaDue SecondColumn) item ≡ Some found.next → IsItem item text → found.item ≡ kept_item item → IsItemAt (MarkDue SecondColumn) text found
    by_item (Sign sign) m is k = record { item = Sign sign; moves = m; is = is; kept = k }
    by_item _ m is k = absurd cc

pub further_ends : (text : List ℕ) (found : FoundItem) → IsItemAt (CommaDue FurtherColumn) text found → IsItemAt (MarkDue FurtherColumn) text found
further_ends text found f = by_item f.item f.moves f.is f.kept
  where
    by_item : (item : Item) → moved (CommaDue FurtherColumn) item ≡ Some found.next → IsItem item text → found.item ≡ kept_item item → IsItemAt (MarkDue FurtherColumn) text found
    by_item (Sign sign) m is k = record { item = Sign sign; moves = m; is = is; kept = k }
    by_item _ m is k = absurd cc

pub next_comma : (column next : ColumnSpot) (text : List ℕ) → next ≡ next_column column → text ≡ 44 ∷ [] → IsItemAt (CommaDue column) text (record { item = i.Sign 44; next = ColumnDue next })
next_comma column next text n e = record { item = Sign 44; moves = ap (λ (c : ColumnSpot). Some (ColumnDue c)) (sym n); is = e; kept = refl }

pub column_closes : (column : ColumnSpot) (text : List ℕ) → text ≡ 41 ∷ [] → IsItemAt (CommaDue column) text (record { item = i.Sign 41; next = NothingDue })
column_closes column text e = record { item = Sign 41; moves = refl; is = e; kept = refl }

pub row_opens : (text : List ℕ) → text ≡ 40 ∷ [] → IsItemAt RowOpens text (record { item = i.Sign 40; next = LiteralDue })
row_opens text e = record { item = Sign 40; moves = refl; is = e; kept = refl }

pub literal_comma : (text : List ℕ) → text ≡ 44 ∷ [] → IsItemAt LiteralEnds text (record { item = i.Sign 44; next = LiteralDue })
literal_comma text e = record { item = Sign 44; moves = refl; is = e; kept = refl }

pub row_closes : (text : List ℕ) → text ≡ 41 ∷ [] → IsItemAt LiteralEnds text (record { item = i.Sign 41; next = NothingDue })
row_closes text e = record { item = Sign 41; moves = refl; is = e; kept = refl }

pub minus_found : (text : List ℕ) → text ≡ 45 ∷ [] → IsItemAt LiteralDue text (record { item = i.Sign 45; next = DigitsDue })
minus_found text e = record { item = Sign 45; moves = refl; is = e; kept = refl }

pub name_found : (spot next : Spot) (name text : List ℕ) → moved spot (Name name) ≡ Some next → IsNameText name text → IsItemAt spot text (record { item = i.Name name; next = next })
name_found spot next name text m e = record { item = Name name; moves = m; is = e; kept = refl }

pub version_found : (text : List ℕ) (found : ℕ) → Capped (λ (n : ℕ). IsDecimal n text) found → IsItemAt VersionDue text (record { item = i.Version found; next = NothingDue })
version_found text found c = record { item = Version c.number; moves = refl; is = c.is; kept = ap i.Version c.capped }

pub count_found : (text : List ℕ) (found : ℕ) → Capped (λ (n : ℕ). IsDecimal n text) found → IsItemAt CountDue text (record { item = i.Count found; next = NothingDue })
count_found text found c = record { item = Count c.number; moves = refl; is = c.is; kept = ap i.Count c.capped }

pub length_found : (column : ColumnSpot) (text : List ℕ) (found : ℕ) → Capped (λ (n : ℕ). IsDecimal n text) found → IsItemAt (LengthDue column) text (record { item = i.Length found; next = LengthCloses column })
length_found column text found c = record { item = Length c.number; moves = refl; is = c.is; kept = ap i.Length c.capped }

pub session_found : (text : List ℕ) (found : ℕ) → Capped (λ (n : ℕ). IsLed 115 n text) found → IsItemAt SessionDue text (record { item = i.Session found; next = NothingDue })
session_found text found c = record { item = SessionWord c.number; moves = refl; is = c.is; kept = ap i.Session c.capped }

pub node_found : (text : List ℕ) (found : NodeFound) → IsNodeWord text found → IsItemAt NodeDue text (record { item = i.Node found; next = RowTableDue })
node_found text found w = record { item = NodeWord w.node; moves = refl; is = w.is; kept = ap i.Node w.kept }

pub turns_found : (text : List ℕ) (found : ItemWord) → IsItemWord text found → IsItemAt TurnsDue text (record { item = i.Turns found; next = TurnsDue })
turns_found text found w = record { item = Turns w.word; moves = refl; is = w.is; kept = ap i.Turns w.kept }

pub literal_digits_found : (text : List ℕ) (found : ℕ) → Capped (λ (n : ℕ). IsNumberText n text) found → IsItemAt LiteralDue text (record { item = i.Digits found; next = LiteralEnds })
literal_digits_found text found c = record { item = Digits c.number; moves = refl; is = c.is; kept = ap i.Digits c.capped }

pub digits_found : (text : List ℕ) (found : ℕ) → Capped (λ (n : ℕ). IsNumberText n text) found → IsItemAt DigitsDue text (record { item = i.Digits found; next = LiteralEnds })
digits_found text found c = record { item = Digits c.number; moves = refl; is = c.is; kept = ap i.Digits c.capped }

pub quote_found : (content text : List ℕ) → IsQuoted content text → IsItemAt LiteralDue text (record { item = i.Quote content; next = LiteralEnds })
quote_found content text q = record { item = Quote content; moves = refl; is = q; kept = refl }

same_local : (r s m n : ℕ) → a.Local r s ≡ a.Local m n → i.Local r s ≡ i.Local m n
same_local r s m n e = cc

pub local_found : (text : List ℕ) (replica session : ℕ) → IsActorWord text (a.Local replica session) → IsItemAt LocalDue text (record { item = i.Local replica session; next = NothingDue })
local_found text replica session w = by_turn w.turn w.is w.kept
  where
    by_turn : (turn : Turn) → IsTurn turn text → a.Local replica session ≡ kept_turn turn → IsItemAt LocalDue text (record { item = i.Local replica session; next = NothingDue })
    by_turn (OfLocal m n) is k = record { item = LocalWord m n; moves = refl; is = is; kept = same_local replica session (kept m) (kept n) k }
    by_turn _ is k = absurd cc

-- ---- what is none

none_some : (spot next : Spot) (o : Option Spot) → o ≡ None → o ≡ Some next → ⊥
none_some spot next o e f = cc

same_section : (section other : Section) (next : Spot) → opens_section section other ≡ Some next → other ≡ section
same_section PtcLines PtcLines next m = refl
same_section IsolationLines IsolationLines next m = refl
same_section ReplicaLines ReplicaLines next m = refl
same_section TableLines TableLines next m = refl
same_section RowLines RowLines next m = refl
same_section SessionLines SessionLines next m = refl
same_section LocalLines LocalLines next m = refl
same_section ScheduleLines ScheduleLines next m = refl
same_section EndLines EndLines next m = refl
same_section PtcLines _ next m = absurd cc
same_section IsolationLines _ next m = absurd cc
same_section ReplicaLines _ next m = absurd cc
same_section TableLines _ next m = absurd cc
same_section RowLines _ next m = absurd cc
same_section SessionLines _ next m = absurd cc
same_section LocalLines _ next m = absurd cc
same_section ScheduleLines _ next m = absurd cc
same_section EndLines _ next m = absurd cc

pub no_section : (section : Section) (text : List ℕ) → str_eq_ignore_ascii_case (spelling (First section)) text ≡ false → NoItemAt (SectionDue section) text
no_section section text e (Word (First other)) next m is = true_false (str_eq_ignore_ascii_case (spelling (First section)) text) (ap (λ (s : Section). str_eq_ignore_ascii_case (spelling (First s)) text) (sym (same_section section other next m)) ∙ is) e
no_section section text e _ next m is = cc

pub no_workload : (text : List ℕ) → str_eq_ignore_ascii_case (spelling WorkloadWord) text ≡ false → NoItemAt WorkloadDue text
no_workload text e (Word WorkloadWord) next m is = cc
no_workload text e _ next m is = cc

pub no_version : (text : List ℕ) → ((n : ℕ) → IsDecimal n text → ⊥) → NoItemAt VersionDue text
no_version text none (Version n) next m is = none n is
no_version text none _ next m is = cc

pub no_level : (text : List ℕ) → str_eq_ignore_ascii_case (spelling RepeatableWord) text ≡ false → str_eq_ignore_ascii_case (spelling ReadWord) text ≡ false → str_eq_ignore_ascii_case (spelling SerializableWord) text ≡ false → NoItemAt LevelDue text
no_level text e f g (Word RepeatableWord) next m is = cc
no_level text e f g (Word ReadWord) next m is = cc
no_level text e f g (Word SerializableWord) next m is = cc
no_level text e f g _ next m is = cc

pub no_read : (text : List ℕ) → str_eq_ignore_ascii_case (spelling ReadWord) text ≡ false → NoItemAt ReadDue text
no_read text e (Word ReadWord) next m is = cc
no_read text e _ next m is = cc

pub no_committed : (text : List ℕ) → str_eq_ignore_ascii_case (spelling CommittedWord) text ≡ false → str_eq_ignore_ascii_case (spelling UncommittedWord) text ≡ false → NoItemAt CommittedDue text
no_committed text e f (Word CommittedWord) next m is = cc
no_committed text e f (Word UncommittedWord) next m is = cc
no_committed text e f _ next m is = cc

pub no_count : (text : List ℕ) → ((n : ℕ) → IsDecimal n text → ⊥) → NoItemAt CountDue text
no_count text none (Count n) next m is = none n is
no_count text none _ next m is = cc

pub no_session : (text : List ℕ) → ((n : ℕ) → IsLed 115 n text → ⊥) → NoItemAt SessionDue text
no_session text none (SessionWord n) next m is = none n is
no_session text none _ next m is = cc

pub no_actor : (text : List ℕ) → NoActor text → NoItemAt LocalDue text
no_actor text none (LocalWord m n) next moves is = none (OfLocal m n) is
no_actor text none _ next m is = cc

pub no_turns : (text : List ℕ) → NoItem text → NoItemAt TurnsDue text
no_turns text none (Turns word) next m is = none word is
no_turns text none _ next m is = cc

pub no_table : (text : List ℕ) → ((name : List ℕ) → IsNameText name text → ⊥) → NoItemAt TableDue text
no_table text none (Name name) next m is = none name is
no_table text none _ next m is = cc

pub no_column : (column : ColumnSpot) (text : List ℕ) → ((name : List ℕ) → IsNameText name text → ⊥) → NoItemAt (ColumnDue column) text
no_column column text none (Name name) next m is = none name is
no_column column text none _ next m is = cc

pub no_row_table : (text : List ℕ) → ((name : List ℕ) → IsNameText name text → ⊥) → NoItemAt RowTableDue text
no_row_table text none (Name name) next m is = none name is
no_row_table text none _ next m is = cc

pub no_kind : (column : ColumnSpot) (text : List ℕ) → str_eq_ignore_ascii_case (spelling IntWord) text ≡ false → str_eq_ignore_ascii_case (spelling BigIntWord) text ≡ false → str_eq_ignore_ascii_case (spelling VarcharWord) text ≡ false → NoItemAt (KindDue column) text
no_kind column text e f g (Word IntWord) next m is = cc
no_kind column text e f g (Word BigIntWord) next m is = cc
no_kind column text e f g (Word VarcharWord) next m is = cc
no_kind column text e f g _ next m is = cc

when_sign : (sign at : ℕ) (spot next : Spot) → when (sign == at) spot ≡ Some next → sign ≡ at
when_sign sign at spot next m = by_test (sign == at) refl m
  where
    by_test : (is : Bool) → (sign == at) ≡ is → when is spot ≡ Some next → sign ≡ at
    by_test true e m = grind (arith, nat_tests, e)
    by_test false e m = absurd (none_some spot next None refl m)

either_sign : (sign at other : ℕ) (spot behind next : Spot) → (if sign == at then Some spot else when (sign == other) behind) ≡ Some next → (sign ≡ at) ⊎ (sign ≡ other)
either_sign sign at other spot behind next m = by_test (sign == at) refl m
  where
    by_test : (is : Bool) → (sign == at) ≡ is → (if is then Some spot else when (sign == other) behind) ≡ Some next → (sign ≡ at) ⊎ (sign ≡ other)
    by_test true e m = inl (grind (arith, nat_tests, e))
    by_test false e m = inr (when_sign sign other behind next m)

other_sign : (sign at : ℕ) (text : List ℕ) → (text ≡ at ∷ [] → ⊥) → text ≡ sign ∷ [] → sign ≡ at → ⊥
other_sign sign at text none is e = none (is ∙ ap (λ (s : ℕ). s ∷ []) e)

no_either : (sign at other : ℕ) (text : List ℕ) → (text ≡ at ∷ [] → ⊥) → (text ≡ other ∷ [] → ⊥) → text ≡ sign ∷ [] → (sign ≡ at) ⊎ (sign ≡ other) → ⊥
no_either sign at other text none neither is (inl e) = other_sign sign at text none is e
no_either sign at other text none neither is (inr e) = other_sign sign other text neither is e

pub no_columns : (text : List ℕ) → (text ≡ 40 ∷ [] → ⊥) → NoItemAt ColumnsDue text
no_columns text none (Sign sign) next m is = other_sign sign 40 text none is (when_sign sign 40 (ColumnDue FirstColumn) next m)
no_columns text none _ next m is = cc

pub no_length_opens : (column : ColumnSpot) (text : List ℕ) → (text ≡ 40 ∷ [] → ⊥) → NoItemAt (LengthOpens column) text
no_length_opens column text none (Sign sign) next m is = other_sign sign 40 text none is (when_sign sign 40 (LengthDue column) next m)
no_length_opens column text none _ next m is = cc

pub no_length : (column : ColumnSpot) (text : List ℕ) → ((n : ℕ) → IsDecimal n text → ⊥) → NoItemAt (LengthDue column) text
no_length column text none (Length n) next m is = none n is
no_length column text none _ next m is = cc

pub no_length_closes : (column : ColumnSpot) (text : List ℕ) → (text ≡ 41 ∷ [] → ⊥) → NoItemAt (LengthCloses column) text
no_length_closes column text none (Sign sign) next m is = other_sign sign 41 text none is (when_sign sign 41 (MarkDue column) next m)
no_length_closes column text none _ next m is = cc

pub no_first_mark : (text : List ℕ) → str_eq_ignore_ascii_case (spelling KeyWord) text ≡ false → NoItemAt (MarkDue FirstColumn) text
no_first_mark text e (Word KeyWord) next m is = cc
no_first_mark text e _ next m is = cc

pub no_second_mark : (text : List ℕ) → str_eq_ignore_ascii_case (spelling KeyWord) text ≡ false → str_eq_ignore_ascii_case (spelling NotWord) text ≡ false → NoItemAt (CommaDue SecondColumn) text → NoItemAt (MarkDue SecondColumn) text
no_second_mark text e f none (Word KeyWord) next m is = cc
no_second_mark text e f none (Word NotWord) next m is = cc
no_second_mark text e f none (Sign sign) next m is = none (Sign sign) next m is
no_second_mark text e f none _ next m is = cc

pub no_further_mark : (text : List ℕ) → str_eq_ignore_ascii_case (spelling NotWord) text ≡ false → NoItemAt (CommaDue FurtherColumn) text → NoItemAt (MarkDue FurtherColumn) text
no_further_mark text f none (Word NotWord) next m is = cc
no_further_mark text f none (Sign sign) next m is = none (Sign sign) next m is
no_further_mark text f none _ next m is = cc

pub no_null : (column : ColumnSpot) (text : List ℕ) → str_eq_ignore_ascii_case (spelling NullKeyword) text ≡ false → NoItemAt (NullDue column) text
no_null column text e (Word NullKeyword) next m is = cc
no_null column text e _ next m is = cc

pub no_comma : (column : ColumnSpot) (text : List ℕ) → (text ≡ 44 ∷ [] → ⊥) → (text ≡ 41 ∷ [] → ⊥) → NoItemAt (CommaDue column) text
no_comma column text comma close (Sign sign) next m is = no_either sign 44 41 text comma close is (either_sign sign 44 41 _ NothingDue next m)
no_comma column text comma close _ next m is = cc

pub no_node : (text : List ℕ) → NoNode text → NoItemAt NodeDue text
no_node text none (NodeWord node) next m is = none node is
no_node text none _ next m is = cc

pub no_row_opens : (text : List ℕ) → (text ≡ 40 ∷ [] → ⊥) → NoItemAt RowOpens text
no_row_opens text none (Sign sign) next m is = other_sign sign 40 text none is (when_sign sign 40 LiteralDue next m)
no_row_opens text none _ next m is = cc

pub no_plain_literal : (text : List ℕ) → str_eq_ignore_ascii_case (spelling NullKeyword) text ≡ false → (text ≡ 45 ∷ [] → ⊥) → ((n : ℕ) → IsNumberText n text → ⊥) → NoPlainLiteral text
no_plain_literal text e sign digits = record { no_null = e; no_sign = sign; no_digits = digits }

pub no_literal : (text : List ℕ) → NoPlainLiteral text → ((content : List ℕ) → IsQuoted content text → ⊥) → NoItemAt LiteralDue text
no_literal text plain none (Digits n) next m is = plain.no_digits n is
no_literal text plain none (Quote content) next m is = none content is
no_literal text plain none (Word NullKeyword) next m is = true_false (str_eq_ignore_ascii_case (spelling NullKeyword) text) is plain.no_null
no_literal text plain none (Sign sign) next m is = other_sign sign 45 text plain.no_sign is (when_sign sign 45 DigitsDue next m)
no_literal text plain none _ next m is = cc

pub no_digits : (text : List ℕ) → ((n : ℕ) → IsNumberText n text → ⊥) → NoItemAt DigitsDue text
no_digits text none (Digits n) next m is = none n is
no_digits text none _ next m is = cc

pub no_literal_end : (text : List ℕ) → (text ≡ 44 ∷ [] → ⊥) → (text ≡ 41 ∷ [] → ⊥) → NoItemAt LiteralEnds text
no_literal_end text comma close (Sign sign) next m is = no_either sign 44 41 text comma close is (either_sign sign 44 41 LiteralDue NothingDue next m)
no_literal_end text comma close _ next m is = cc

other_turn : (replica session : ℕ) (found : ActorWord) → is_local found ≡ false → found ≡ a.Local replica session → ⊥
other_turn replica session (a.Local m n) e f = cc
other_turn replica session _ e f = cc

pub other_actor : (text : List ℕ) (found : ActorWord) → is_local found ≡ false → IsActorWord text found → NoItemAt LocalDue text
other_actor text found other w (LocalWord m n) next moves is = other_turn (kept m) (kept n) found other (w.kept ∙ ap kept_turn (turn_once w.turn (OfLocal m n) text w.is is))
other_actor text found other w _ next m is = cc

pub worker_is_none : (text : List ℕ) (replica : ℕ) → IsActorWord text (a.Worker replica) → NoItemAt LocalDue text
worker_is_none text replica w = other_actor text (a.Worker replica) refl w

pub further_is_none : (text : List ℕ) (replica worker : ℕ) → IsActorWord text (a.FurtherWorker replica worker) → NoItemAt LocalDue text
further_is_none text replica worker w = other_actor text (a.FurtherWorker replica worker) refl w
