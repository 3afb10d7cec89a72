use Rattle.std.proofs.Common.{◌≡◌, ◌++◌, vec_len}
use Rattle.file_scripts.specs.Scripts.{scripts_by, others_by}
use Rattle.file_scripts.proofs.splits.split_by.Given as goal

abbrev pub invariant-each : goal.invariant-each
invariant-each l =
    (l.split.own ++ scripts_by l.owner l.left.items ≡ scripts_by l.owner l.fn.scripts)
    × (l.split.others ++ others_by l.owner l.left.items ≡ others_by l.owner l.fn.scripts)

abbrev pub decreases-each : goal.decreases-each
decreases-each l = vec_len l.left
