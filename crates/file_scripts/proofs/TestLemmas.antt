-- Tests and what they tell.
use Rattle.std.proofs.Common.{◌≡◌, Bool, true, false, refl}
use Rattle.file_scripts.specs.Laws.{Tells}

pub told : (is : Bool) (Holds : Type 0) → (is ≡ true → Holds) → (is ≡ false → Holds → ⊥) → Tells is Holds
told true Holds so never = so refl
told false Holds so never = never refl
