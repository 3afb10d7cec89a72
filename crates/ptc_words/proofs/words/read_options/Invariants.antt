use Rattle.std.proofs.Common.{◌≡◌, ◌+◌, false, map, string_bytes, length}
use Rattle.ptc_words.specs.declared.given.Valued.TheVariants.{Absent}
use Rattle.ptc_words.specs.Words.{options_read, words_behind}
use Rattle.ptc_words.proofs.words.read_options.Given as goal

abbrev pub invariant-loop-word : goal.invariant-loop-word
invariant-loop-word l =
    options_read (words_behind l.given + 2) l.given (map string_bytes l.rest)
    ≡ options_read 2 (record { trace = false; retries = Absent }) (map string_bytes l.words)

abbrev pub decreases-loop-word : goal.decreases-loop-word
decreases-loop-word l = length l.rest
