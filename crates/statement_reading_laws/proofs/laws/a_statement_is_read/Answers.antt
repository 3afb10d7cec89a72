use Rattle.statement_reading_laws.proofs.ReadingLemmas.{ready, at_end, takes, stuck_at_spot, ends_whole, ends_wrong, ends_short, tree_begins, tree_goes_on, tree_is_whole, tree_ends_whole}
use Rattle.statement_reading_laws.proofs.OpenLemmas.{tree_breaks, tree_ends_open, tree_is_none}
use Rattle.statement_reading_laws.proofs.laws.a_statement_is_read.Goals as goal

pub returns-clause-begins_at_spot : goal.returns-clause-begins_at_spot
returns-clause-begins_at_spot c = ready

pub returns-clause-ends_at_spot : goal.returns-clause-ends_at_spot
returns-clause-ends_at_spot c = at_end

pub returns-clause-takes : goal.returns-clause-takes
returns-clause-takes c = takes

pub returns-clause-sticks : goal.returns-clause-sticks
returns-clause-sticks c = stuck_at_spot

pub returns-clause-ends_whole : goal.returns-clause-ends_whole
returns-clause-ends_whole c = ends_whole

pub returns-clause-ends_wrong : goal.returns-clause-ends_wrong
returns-clause-ends_wrong c = ends_wrong

pub returns-clause-ends_short : goal.returns-clause-ends_short
returns-clause-ends_short c = ends_short

pub returns-clause-tree_begins : goal.returns-clause-tree_begins
returns-clause-tree_begins c = tree_begins

pub returns-clause-tree_goes_on : goal.returns-clause-tree_goes_on
returns-clause-tree_goes_on c = tree_goes_on

pub returns-clause-tree_is_whole : goal.returns-clause-tree_is_whole
returns-clause-tree_is_whole c = tree_is_whole

pub returns-clause-tree_ends_whole : goal.returns-clause-tree_ends_whole
returns-clause-tree_ends_whole c = tree_ends_whole

pub returns-clause-tree_breaks : goal.returns-clause-tree_breaks
returns-clause-tree_breaks c = tree_breaks

pub returns-clause-tree_ends_open : goal.returns-clause-tree_ends_open
returns-clause-tree_ends_open c = tree_ends_open

pub returns-clause-tree_is_none : goal.returns-clause-tree_is_none
returns-clause-tree_is_none c = tree_is_none
