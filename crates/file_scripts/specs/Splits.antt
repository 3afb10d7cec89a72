-- One script more among those of its owner or among the others.
use Rattle.std.specs.Prelude.{[], ◌∷◌, ◌++◌, if◌then◌else◌}
use Rattle.file_scripts.specs.declared.scripts.Owner.{Owner}
use Rattle.file_scripts.specs.declared.scripts.OwnScript.{OwnScript}
use Rattle.file_scripts.specs.declared.splits.Split.{Split}
use Rattle.file_scripts.specs.Scripts.{is_of}

abbrev pub put_in : Owner → OwnScript → Split → Split
put_in owner script split =
    if is_of owner script.owner then record { own = split.own ++ record { lines = script.lines } ∷ []; others = split.others }
    else record { own = split.own; others = split.others ++ script ∷ [] }
