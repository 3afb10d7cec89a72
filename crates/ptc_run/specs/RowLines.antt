-- The spelling of a ROW line.
use Rattle.std.specs.Prelude.{ℕ, ℤ, List, [], ◌∷◌, ◌++◌, Bool, true, false, FitsSigned, codes}
use Rattle.std.specs.Fmt.{signed_decimal}
use Rattle.std.specs.Int.{w64}
use Rattle.ptc_run.specs.declared.row_lines.RowNode.{RowNode}
use Rattle.ptc_run.specs.declared.row_lines.RowNode.TheVariants.{All, Source, Replica}
use Rattle.ptc_run.specs.declared.row_lines.RowLine.{RowLine}

abbrev pub node_word : RowNode → List ℕ
node_word All = codes "*"
node_word Source = codes "source"
node_word Replica = codes "r1"

unfoldable pub row_line : RowLine → List ℕ
row_line row = codes "ROW " ++ node_word row.node ++ codes " t (" ++ signed_decimal row.key ++ codes ", " ++ signed_decimal row.value ++ codes ")\n"

-- the node with what stands behind it
abbrev pub node_text : RowNode → List ℕ
node_text node = node_word node ++ codes " t ("

-- what stands behind the bracket: a number, a comma, a blank, a number, a bracket, a line feed
abbrev pub numbers_text : ℤ → ℤ → List ℕ
numbers_text key value = signed_decimal key ++ 44 ∷ (32 ∷ (signed_decimal value ++ 41 ∷ (10 ∷ [])))

-- both numbers have 64 bits
abbrev pub NumbersFit : RowLine → Type 0
NumbersFit row = FitsSigned w64 row.key × FitsSigned w64 row.value

-- whether the line gives a row of the source
abbrev pub is_for_source : RowNode → Bool
is_for_source All = true
is_for_source Source = true
is_for_source Replica = false

-- whether the line gives a row of the replica
abbrev pub is_for_replica : RowNode → Bool
is_for_replica All = true
is_for_replica Source = false
is_for_replica Replica = true
