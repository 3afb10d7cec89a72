use Rattle.cluster_core.proofs.KeptLemmas.{KeptParts, begun_parts}
use Rattle.cluster_core.proofs.worlds.World.new.Goals as goal

pub invariant_of-result : goal.invariant_of-result
invariant_of-result c =
    let parts = begun_parts c.args.workload c.requires in
    let here : KeptParts c.in_ok-new.field-0 c.in_ok-replicas.replicas.items c.in_ok-sessions.sessions.items c.args.workload.schedule =
    rw (c.in_ok-new.ensures, c.in_ok-replicas.ensures, c.in_ok-sessions.ensures, c.copies.view_is, c.sessions.view_is) parts in
    record { tables = here.tables; replicas = here.few_replicas; sessions = here.few_sessions; schemas = here.same; log = here.log; scripts = here.scripts; phase = here.some_table; schedule = here.items }
