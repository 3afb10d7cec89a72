-- The tests of a ROW line.
use Rattle.std.specs.Prelude.{◌&&◌, leb, ℕ, Bool, false, List, Option, None, Some, length, take, if◌then◌else◌}
use Rattle.row_types.specs.declared.row_faults.RowFault.{RowFault}
use Rattle.file_text.specs.declared.places.Section.TheVariants.{RowLines}
use Rattle.line_words.specs.declared.nodes.NodeWord.{NodeWord}
use Rattle.line_values.specs.declared.row_texts.RowText.{RowText}
use Rattle.line_checks.specs.declared.marks.Marks.{Marks}
use Rattle.file_scripts.specs.ScriptRules.{ends_script}
use Rattle.file_scripts.specs.Declarations.{declares_node}
use Rattle.file_rows.specs.declared.file_tables.FileTable.{FileTable}
use Rattle.file_rows.specs.NodeRows.{any_has}
use Rattle.line_decisions.specs.declared.tests.LineTests.{LineTests}
use Rattle.line_decisions.specs.Tests.{part_at}

abbrev pub node_actor : ℕ → List ℕ → NodeWord → Option ℕ
node_actor replicas line node = if declares_node replicas node then None else Some (part_at RowLines line 0)

-- where there is no such table, the node's word comes first
abbrev pub unknown_actor : ℕ → List ℕ → NodeWord → Option ℕ
unknown_actor replicas line node = if declares_node replicas node then Some (part_at RowLines line 1) else Some (part_at RowLines line 0)

-- a node that the line names has a row at its key
abbrev pub row_twice : FileTable → RowText → Bool
row_twice table row = leb table.schema.key_len (length row.values) && any_has row.node (take table.schema.key_len row.values) 0 table.nodes.items

abbrev pub row_tests : Bool → Option RowFault → Option ℕ → Marks → LineTests
row_tests twice row actor marks = record { twice = twice; level = false; row = row; script = marks.in_transaction && ends_script RowLines; actor = actor }
