use Rattle.std.proofs.Common.{◌≡◌, length}
use Rattle.std.specs.Prelude.{reverse}
use Rattle.statement_stacks.specs.Levels.{frames_of}
use Rattle.statement_stacks.specs.Plugs.{plug}
use Rattle.statement_stacks.proofs.stacks.plug_all.Given as goal

abbrev pub invariant-loop-level : goal.invariant-loop-level
invariant-loop-level l = plug (frames_of (reverse l.left)) l.x ≡ plug (frames_of (reverse l.levels)) l.fn.x

abbrev pub decreases-loop-level : goal.decreases-loop-level
decreases-loop-level l = length l.left
