use Rattle.session_tests.specs.Scenes.{LinesFit}
use Rattle.session_tests.proofs.scripts.script.Given as goal

abbrev pub invariant-loop-line : goal.invariant-loop-line
invariant-loop-line l = LinesFit l.script
