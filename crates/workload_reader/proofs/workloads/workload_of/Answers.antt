use Rattle.workload_reader.proofs.GiveLemmas.{some_node, given}
use Rattle.workload_reader.proofs.workloads.workload_of.Goals as goal

pub parted-source-requires : goal.parted-source-requires
parted-source-requires c = some_node c.args.state c.in_ok-nodes.nodes c.requires c.in_ok-nodes.ensures

pub returns : goal.returns
returns c =
    given c.args.state c.in_ok-nodes.nodes c.parted-source.result.1 c.parted-source.result.0 c.in_ok-split.split.sessions c.in_ok-split.split.locals c.into_schedule.result
    c.in_ok-nodes.ensures c.parted-source.ensures c.in_ok-split.ensures.sessions c.in_ok-split.ensures.locals c.into_schedule.ensures
