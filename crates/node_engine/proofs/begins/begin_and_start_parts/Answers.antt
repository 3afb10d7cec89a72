use Rattle.node_engine.proofs.BeginLemmas.{all_ready, all_started, all_refused}
use Rattle.node_engine.proofs.begins.begin_and_start_parts.Goals as goal

pub start_if_begun-requires-clause-ready : goal.start_if_begun-requires-clause-ready
start_if_begun-requires-clause-ready c =
    all_ready c.args.owner c.args.part (record { statement = c.args.statement; cursor = c.in_ok-cursor.cursor }) c.args.parts.now c.begin_parts-begun.new.parts c.begin_parts-begun.result
    c.begin_parts-begun.ensures.ok c.requires.fits c.in_ok-cursor.ensures

pub returns-clause-ok : goal.returns-clause-ok
returns-clause-ok c =
    all_started c.args.owner c.args.part (record { statement = c.args.statement; cursor = c.in_ok-cursor.cursor }) c.args.parts.now c.begin_parts-begun.new.parts c.start_if_begun.new.parts c.begin_parts-begun.result
    c.start_if_begun.result c.start_if_begun.ensures.same c.begin_parts-begun.ensures.ok c.start_if_begun.ensures.ok

pub returns-clause-err : goal.returns-clause-err
returns-clause-err c =
    all_refused c.args.parts.now c.begin_parts-begun.new.parts c.start_if_begun.new.parts c.begin_parts-begun.result c.start_if_begun.result c.start_if_begun.ensures.same c.begin_parts-begun.ensures.err
    c.start_if_begun.ensures.err
