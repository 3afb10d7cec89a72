-- The numbers of a chunk and of a count that are due fit.
use Rattle.std.proofs.Common.{◌≡◌, ℕ, ◌<◌, ◌≤◌, ◌^◌, Bool, true, false, Option, Some, None, refl, arith}
use Rattle.std.specs.Prelude.{leb, ◌&&◌}
use Rattle.std.proofs.lemmas.Bool.Decides.{nat_tests}
use Rattle.statement_tokens.specs.declared.words.Word.{Word}
use Rattle.statement_tokens.specs.declared.words.Word.TheVariants as w
use Rattle.statement_grammar.specs.Sentence as g
use Rattle.statement_grammar.specs.Sentence.{Spot, one, when_so, is_chunk, is_count}
use Rattle.statement_draft_tokens.specs.Tokens.{Fits}

so : (b : Bool) (spot next : Spot) → when_so b spot ≡ Some next → b ≡ true
so true spot next e = refl
so false spot next e = cc

chunk_fits : (n : ℕ) → is_chunk n ≡ true → n < 2 ^ 32
chunk_fits n e = grind (arith, nat_tests)

count_fits : (n : ℕ) → is_count n ≡ true → n < 2 ^ 64
count_fits n e = grind (arith, nat_tests)

pub fits_so : (spot next : Spot) (u : Word) → one spot u ≡ Some next → Fits spot u
fits_so (g.ChunkNumber tool) next (w.Number n) e = chunk_fits n (so (is_chunk n) (g.behind_chunk tool) next e)
fits_so (g.ChunkNumber tool) next _ e = cc
fits_so g.CountNumber next (w.Number n) e = count_fits n (so (is_count n) g.CrcDue next e)
fits_so g.CountNumber next _ e = cc
fits_so _ next u e = tt
