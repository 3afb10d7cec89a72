use Rattle.std.proofs.Common.{◌≡◌, drop}
use Rattle.file_rows.specs.Puts.{place_named}
use Rattle.file_rows.proofs.file_rows.FileRows.place_of.Given as goal

abbrev pub invariant-loop-place : goal.invariant-loop-place
invariant-loop-place l = place_named l.name l.place (drop l.place l.self.tables.items) ≡ place_named l.name 0 l.self.tables.items
