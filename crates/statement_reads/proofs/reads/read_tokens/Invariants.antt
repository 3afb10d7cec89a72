use Rattle.std.proofs.Common.{◌≡◌, ◌++◌, length}
use Rattle.std.specs.Vec.Iter.{into_iter_items, into_iter_len}
use Rattle.statement_grammar.specs.FirstFault.{keys_in}
use Rattle.statement_progress.specs.Progress.{IsProgress}
use Rattle.statement_reads.proofs.reads.read_tokens.Given as goal

-- what is read and what is left are all tokens, and what is read is what they say
abbrev pub invariant-loop-token : goal.invariant-loop-token
invariant-loop-token l = (l.yielded ++ into_iter_items l.token-iterator ≡ into_iter_items l.initial.token-iterator)
    × IsProgress l.schemas.tables l.nothing (keys_in l.schemas.tables (into_iter_items l.initial.token-iterator)) l.yielded l.progress
    × (into_iter_len l.token-iterator ≡ length (into_iter_items l.token-iterator))
