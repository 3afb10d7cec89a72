-- The node of the tests has one table, and the scripts of its sessions fit it.
use Rattle.std.specs.Prelude.{◌≡◌, List}
use Rattle.std.specs.List.{AllByRecursion}
use Rattle.row_types.specs.declared.table_schema.Schema.{Schema}
use Rattle.ptc_statement.specs.declared.scripts.ScriptLine.{ScriptLine}
use Rattle.node_builders.specs.Nodes.{one_table}
use Rattle.session.specs.Sessions.{RunFits}

abbrev pub LinesFit : List ScriptLine → Type 0
LinesFit lines = AllByRecursion (λ (line : ScriptLine). RunFits one_table line.step) lines

-- a node and a script
pub record IsScene (schemas : List Schema) (lines : List ScriptLine) : Type 0 where
  pub schemas_are : schemas ≡ one_table
  pub lines_fit : LinesFit lines

-- a node and two scripts
pub record SceneFits (schemas : List Schema) (one two : List ScriptLine) : Type 0 where
  pub schemas_are : schemas ≡ one_table
  pub one_fits : LinesFit one
  pub two_fits : LinesFit two
