use Rattle.statement_piece_laws.proofs.PieceLemmas.{adds_piece, adds_token, adds_tree, has_open_tree, keeps_bare, keeps_bare_tree, keeps_faults, keeps_tree_faults}
use Rattle.statement_piece_laws.proofs.laws.one_piece_more.Goals as goal

pub returns-clause-drafts : goal.returns-clause-drafts
returns-clause-drafts c = adds_piece

pub returns-clause-tokens : goal.returns-clause-tokens
returns-clause-tokens c = adds_token

pub returns-clause-trees : goal.returns-clause-trees
returns-clause-trees c = adds_tree

pub returns-clause-open_trees : goal.returns-clause-open_trees
returns-clause-open_trees c = has_open_tree

pub returns-clause-bare : goal.returns-clause-bare
returns-clause-bare c = keeps_bare

pub returns-clause-bare_trees : goal.returns-clause-bare_trees
returns-clause-bare_trees c = keeps_bare_tree

pub returns-clause-faults : goal.returns-clause-faults
returns-clause-faults c = keeps_faults

pub returns-clause-tree_faults : goal.returns-clause-tree_faults
returns-clause-tree_faults c = keeps_tree_faults
