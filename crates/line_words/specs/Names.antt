-- Names among the words of statement text.
use Rattle.std.specs.Prelude.{ℕ, ◌==◌, List, Option, None, Some, length, if◌then◌else◌}
use Rattle.statement_tokens.specs.declared.words.Word.{Word}
use Rattle.statement_tokens.specs.declared.words.Word.TheVariants as w

abbrev pub named : Word → Option (List ℕ)
named (w.Name name) = Some name
named word = None

-- where nothing is left behind it
abbrev pub named_before : Word → List ℕ → Option (List ℕ)
named_before word rest = if length rest == 0 then named word else None
