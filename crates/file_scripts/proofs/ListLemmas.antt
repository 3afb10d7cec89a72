-- The last of several scripts.
use Rattle.std.proofs.Common.{◌≡◌, ℕ, zero, suc, List, [], ◌∷◌, length, slice_index_or, slice_set, ap, ◌∙◌, arith}
use Rattle.ptc_statement.specs.declared.scripts.ScriptLine.{ScriptLine}
use Rattle.file_scripts.specs.declared.scripts.OwnScript.{OwnScript}
use Rattle.file_scripts.specs.Scripts.{longer, with_line}

pub set_last : (line : ScriptLine) (scripts : List OwnScript) (last : ℕ) (old new : OwnScript) → suc last ≡ length scripts → old ≡ slice_index_or scripts last old → new ≡ longer line old → slice_set scripts last new ≡ with_line line scripts
set_last line [] last old new len e n = absurd (omega (arith, len))
set_last line (script ∷ []) zero old new len e n = ap (λ (s : OwnScript). s ∷ []) (n ∙ ap (longer line) e)
set_last line (script ∷ []) (suc last) old new len e n = absurd (omega (arith, len))
set_last line (script ∷ next ∷ scripts) zero old new len e n = absurd (omega (arith, len))
set_last line (script ∷ next ∷ scripts) (suc last) old new len e n = ap (λ (s : List OwnScript). script ∷ s) (set_last line (next ∷ scripts) last old new (omega (arith, len)) e n)
