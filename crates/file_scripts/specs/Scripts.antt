-- The scripts of a file, as its lines are read.
use Rattle.std.specs.Prelude.{◌≡◌, ⊤, ℕ, suc, ◌==◌, if◌then◌else◌, Bool, true, false, List, [], ◌∷◌, ◌++◌}
use Rattle.ptc_statement.specs.declared.scripts.ScriptLine.{ScriptLine}
use Rattle.ptc_statement.specs.declared.scripts.Script.{Script}
use Rattle.file_text.specs.Said.{Said, SessionOf, LocalOf, StepOf}
use Rattle.file_text.specs.File.{steps_from}
use Rattle.file_scripts.specs.declared.scripts.Owner.{Owner}
use Rattle.file_scripts.specs.declared.scripts.Owner.TheVariants as o
use Rattle.file_scripts.specs.declared.scripts.OwnScript.{OwnScript}

abbrev pub begun : Owner → List OwnScript → List OwnScript
begun owner scripts = scripts ++ record { owner = owner; lines = [] } ∷ []

abbrev pub longer : ScriptLine → OwnScript → OwnScript
longer line script = record { owner = script.owner; lines = script.lines ++ line ∷ [] }

-- the last script has this line too
abbrev pub with_line : ScriptLine → List OwnScript → List OwnScript
with_line line [] = []
with_line line (script ∷ []) = longer line script ∷ []
with_line line (script ∷ next ∷ scripts) = script ∷ with_line line (next ∷ scripts)

-- the scripts that these lines give; the first line has this number
abbrev pub scripts_from : ℕ → List Said → List OwnScript
scripts_from number [] = []
scripts_from number (SessionOf session ∷ said) = record { owner = o.Session; lines = steps_from (suc number) said } ∷ scripts_from (suc number) said
scripts_from number (LocalOf replica session ∷ said) = record { owner = o.Local replica; lines = steps_from (suc number) said } ∷ scripts_from (suc number) said
scripts_from number (other ∷ said) = scripts_from (suc number) said

-- these are the scripts of the lines before
abbrev pub AreScripts : List OwnScript → List Said → Type 0
AreScripts scripts before = scripts ≡ scripts_from 1 before

-- it begins no script and is no step of one
abbrev pub IsApart : Said → Type 0
IsApart (SessionOf session) = ⊥
IsApart (LocalOf replica session) = ⊥
IsApart (StepOf step) = ⊥
IsApart _ = ⊤

abbrev pub is_of : Owner → Owner → Bool
is_of o.Session o.Session = true
is_of o.Session (o.Local replica) = false
is_of (o.Local replica) o.Session = false
is_of (o.Local replica) (o.Local other) = other == replica

-- the scripts of this owner, in order
abbrev pub scripts_by : Owner → List OwnScript → List Script
scripts_by owner [] = []
scripts_by owner (script ∷ scripts) = if is_of owner script.owner then record { lines = script.lines } ∷ scripts_by owner scripts else scripts_by owner scripts

-- the others
abbrev pub others_by : Owner → List OwnScript → List OwnScript
others_by owner [] = []
others_by owner (script ∷ scripts) = if is_of owner script.owner then others_by owner scripts else script ∷ others_by owner scripts

-- those of the sessions on the source, and on a replica
abbrev pub sessions_of : List OwnScript → List Script
sessions_of scripts = scripts_by o.Session scripts

abbrev pub locals_of : ℕ → List OwnScript → List Script
locals_of replica scripts = scripts_by (o.Local replica) scripts
