-- The laws of the definition of the workload file.
use Rattle.std.specs.Prelude.{◌≡◌, true, ℕ, List, [], Some}
use Rattle.file_text.specs.declared.faults.FileFault.{FileFault}
use Rattle.file_text.specs.Parts.{Part}
use Rattle.file_text.specs.declared.places.Section.{Section}
use Rattle.file_text.specs.Said.{Said, Item, IsItem, IsLineOf, Spells}
use Rattle.file_text.specs.declared.places.Spot.{Spot}
use Rattle.file_text.specs.declared.places.Spot.TheVariants.{SectionDue}
use Rattle.file_text.specs.Spots.{moved, walked, may_end}
use Rattle.file_text.specs.Rules.{InRange, MayBegin, Misfit, FitsUpTo, Says}
use Rattle.file_text.specs.Causes.{Cause, IsRefused}
use Rattle.file_text.specs.File.{Contents, IsFile, IsFirstFault}

-- ---- the places of a line

-- from the front of a line to its end
pub record WalksThrough (spot : Spot) (items : List Item) : Type 0 where
  pub end : Spot
  pub walks : walked spot items ≡ Some end
  pub ends : may_end end ≡ true

-- the lines of a section are the ways through its places
abbrev pub Completes : Type 0
Completes = (section : Section) (items : List Item) → IsLineOf section items → WalksThrough (SectionDue section) items

abbrev pub Sounds : Type 0
Sounds = (section : Section) (items : List Item) → WalksThrough (SectionDue section) items → IsLineOf section items

-- what is walked can be led to an end
abbrev pub Lives : Type 0
Lives = (section : Section) (front : List Item) (spot : Spot) → walked (SectionDue section) front ≡ Some spot → MayBegin section front

-- at a place a text is one item at most
abbrev pub OneItem : Type 0
OneItem =
    (spot : Spot) (item other : Item) (next later : Spot) (text : List ℕ)
    → moved spot item ≡ Some next → moved spot other ≡ Some later → IsItem item text → IsItem other text → item ≡ other

-- ---- the parts of a line

-- two first misfits are the same one
pub record SameMisfit (fitting other left right : List Part) (misfit wrong : Misfit) : Type 0 where
  pub first : fitting ≡ other
  pub rest : left ≡ right
  pub how : misfit ≡ wrong

-- parts have one first misfit
abbrev pub OneMisfit : Type 0
OneMisfit =
    (section : Section) (before : List Said) (parts fitting left other right : List Part) (misfit wrong : Misfit)
    → FitsUpTo section before parts fitting left misfit → FitsUpTo section before parts other right wrong
    → SameMisfit fitting other left right misfit wrong

-- a whole line has none
abbrev pub WholeFits : Type 0
WholeFits =
    (section : Section) (before : List Said) (parts fitting left : List Part) (misfit : Misfit) (items : List Item)
    → IsLineOf section items → Spells items parts → InRange before [] items → FitsUpTo section before parts fitting left misfit → ⊥

-- the item that a text is at a place, or that it is none
pub data Told (spot : Spot) (text : List ℕ) : Type 0 where
  TheItem : (item : Item) (next : Spot) → moved spot item ≡ Some next → IsItem item text → Told spot text
  NoItem : ((item : Item) (next : Spot) → moved spot item ≡ Some next → IsItem item text → ⊥) → Told spot text

abbrev pub Tells : Type 0
Tells = (spot : Spot) (text : List ℕ) → Told spot text

-- the items of a whole line, or the first misfit
pub data Decided (section : Section) (before : List Said) (parts : List Part) : Type 0 where
  Whole : (items : List Item) → IsLineOf section items → Spells items parts → InRange before [] items → Decided section before parts
  Fails : (fitting left : List Part) (misfit : Misfit) → FitsUpTo section before parts fitting left misfit → Decided section before parts

-- where each place tells its items, parts are a whole line or have a first misfit
abbrev pub Total : Type 0
Total = Tells → (section : Section) (before : List Said) (parts : List Part) → Decided section before parts

-- ---- lines and files

abbrev pub OneSaid : Type 0
OneSaid = (before : List Said) (line : List ℕ) (said other : Said) → Says before line said → Says before line other → said ≡ other

abbrev pub OneCause : Type 0
OneCause = (before : List Said) (line : List ℕ) (cause other : Cause) → IsRefused before line cause → IsRefused before line other → cause ≡ other

-- a text has at most one workload
abbrev pub OneFile : Type 0
OneFile = (bytes : List ℕ) (contents other : Contents) → IsFile bytes contents → IsFile bytes other → contents ≡ other

-- a text has at most one first fault
abbrev pub OneFault : Type 0
OneFault = (bytes : List ℕ) (fault other : FileFault) → IsFirstFault bytes fault → IsFirstFault bytes other → fault ≡ other

-- and never both
abbrev pub NeverBoth : Type 0
NeverBoth = (bytes : List ℕ) (fault : FileFault) (contents : Contents) → IsFirstFault bytes fault → IsFile bytes contents → ⊥
