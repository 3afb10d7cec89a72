use Rattle.session_tests.specs.Scenes.{SceneFits}
use Rattle.session_tests.proofs.plays.play_on.Given as goal

abbrev pub invariant-loop-i : goal.invariant-loop-i
invariant-loop-i l = SceneFits l.scene.node.schemas l.scene.one.script l.scene.two.script
