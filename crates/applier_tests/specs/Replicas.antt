-- The node of the tests has one table, and the statements of its source's log fit it.
use Rattle.std.specs.Prelude.{◌≡◌, List}
use Rattle.row_types.specs.declared.table_schema.Schema.{Schema}
use Rattle.statement_log.specs.declared.entries.Entry.{Entry}
use Rattle.node_builders.specs.Nodes.{one_table}
use Rattle.applier.specs.Appliers.{LogFits}

pub record ReplicaFits (schemas : List Schema) (log : List Entry) : Type 0 where
  pub schemas_are : schemas ≡ one_table
  pub log_fits : LogFits one_table log
