use Rattle.std.proofs.Common.{◌≤◌, length, arith}
use Rattle.applier.proofs.TeamLemmas.{all_emptied}
use Rattle.applier.proofs.teams.take_entries.Goals as goal

pub returns : goal.returns
returns c =
    let most : length c.args.workers.now.items ≤ c.loop-place.place = omega arith in
    all_emptied c.loop-place.place c.args.workers.now.items c.loop-place.workers.items c.loop-place.invariant.0 most
