-- What a part does to what is read of its line.
use Rattle.std.proofs.Common.{◌≡◌, ℕ, List, refl}
use Rattle.file_text.specs.declared.places.Section.{Section}
use Rattle.line_items.specs.declared.counts.Counts.{Counts}
use Rattle.line_items.specs.declared.found_items.FoundItem.{FoundItem}
use Rattle.line_items.specs.declared.steps.Step.{Step}
use Rattle.line_items.specs.declared.steps.Step.TheVariants.{Taken, Unfit}
use Rattle.line_items.specs.declared.steps.Walk.{Walk}
use Rattle.line_items.specs.Items.{IsItemAt, NoItemAt}
use Rattle.line_items.specs.Readings.{step_of, IsBehind, Steps, NoItem, AnItem}

pub no_item : (section : Section) (counts : Counts) (text : List ℕ) (old new : Walk) → NoItemAt old.spot text → Steps section counts text old new (Unfit 0)
no_item section counts text old new none = NoItem none refl

pub an_item : (section : Section) (counts : Counts) (text : List ℕ) (old new : Walk) (step : Step) (found : FoundItem) → IsItemAt old.spot text found → step ≡ step_of section counts old.tally found.item text → (step ≡ Taken → IsBehind old found new) → Steps section counts text old new step
an_item section counts text old new step found is e taken = AnItem found is e taken
