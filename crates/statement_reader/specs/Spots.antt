-- What is due next in a statement, as the code names it.
use Rattle.statement_grammar.specs.Sentence as the
use Rattle.statement_reader.specs.declared.spots.End.{End}
use Rattle.statement_reader.specs.declared.spots.End.TheVariants as end
use Rattle.statement_reader.specs.declared.spots.Literals.{Literals}
use Rattle.statement_reader.specs.declared.spots.Literals.TheVariants as list
use Rattle.statement_reader.specs.declared.spots.OnChunk.{OnChunk}
use Rattle.statement_reader.specs.declared.spots.OnChunk.TheVariants as tool
use Rattle.statement_reader.specs.declared.spots.Spot.{Spot}
use Rattle.statement_reader.specs.declared.spots.Spot.TheVariants as s

abbrev pub end_of : End → the.End
end_of end.Lower = the.Lower
end_of end.Upper = the.Upper

abbrev pub literals_of : Literals → the.Literals
literals_of list.OfRow = the.OfRow
literals_of (list.OfEdge end) = the.OfEdge (end_of end)

abbrev pub tool_of : OnChunk → the.OnChunk
tool_of tool.Checks = the.Checks
tool_of tool.SetsMaster = the.SetsMaster

abbrev pub spot_of : Spot → the.Spot
spot_of s.StatementDue = the.StatementDue
spot_of s.IntoDue = the.IntoDue
spot_of s.IntoTable = the.IntoTable
spot_of s.ValuesDue = the.ValuesDue
spot_of (s.OpenDue x) = the.OpenDue (literals_of x)
spot_of (s.LiteralDue x) = the.LiteralDue (literals_of x)
spot_of (s.LiteralEnds x) = the.LiteralEnds (literals_of x)
spot_of (s.DigitsDue x) = the.DigitsDue (literals_of x)
spot_of s.FromDue = the.FromDue
spot_of s.DeleteTable = the.DeleteTable
spot_of s.WhereDue = the.WhereDue
spot_of s.CondDue = the.CondDue
spot_of s.CondEnds = the.CondEnds
spot_of s.UpdateTable = the.UpdateTable
spot_of s.SetDue = the.SetDue
spot_of s.ColumnDue = the.ColumnDue
spot_of s.EqualsDue = the.EqualsDue
spot_of s.ExprDue = the.ExprDue
spot_of s.SetEnds = the.SetEnds
spot_of s.StarDue = the.StarDue
spot_of s.SelectFrom = the.SelectFrom
spot_of s.SelectTable = the.SelectTable
spot_of s.SelectWhere = the.SelectWhere
spot_of s.SelectCond = the.SelectCond
spot_of s.LockDue = the.LockDue
spot_of s.ForDue = the.ForDue
spot_of s.InDue = the.InDue
spot_of s.ShareDue = the.ShareDue
spot_of s.ModeDue = the.ModeDue
spot_of (s.ChunkTable x) = the.ChunkTable (tool_of x)
spot_of (s.ChunkDue x) = the.ChunkDue (tool_of x)
spot_of (s.ChunkNumber x) = the.ChunkNumber (tool_of x)
spot_of s.EdgeFrom = the.EdgeFrom
spot_of (s.EdgeDue x) = the.EdgeDue (end_of x)
spot_of s.EdgeTo = the.EdgeTo
spot_of s.UsingDue = the.UsingDue
spot_of s.KindDue = the.KindDue
spot_of s.CountDue = the.CountDue
spot_of s.CountNumber = the.CountNumber
spot_of s.CrcDue = the.CrcDue
spot_of s.CrcText = the.CrcText
spot_of s.ClearTable = the.ClearTable
spot_of s.EndDue = the.EndDue
spot_of s.NothingDue = the.NothingDue
