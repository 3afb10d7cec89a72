-- What no lines count up to.
use Rattle.std.proofs.Common.{◌≡◌, ℕ, [], get_or, ap, ◌∙◌, arith}
use Rattle.std.proofs.lemmas.List.{get_or_past}
use Rattle.line_words.specs.Actors.{kept}
use Rattle.line_items.specs.declared.counts.Counts.{Counts}
use Rattle.line_items.specs.Counted.{IsCounted}

pub none_counted : (counts : Counts) → counts.sessions ≡ 0 → counts.locals.items ≡ [] → counts.scheduled ≡ 0 → IsCounted counts []
none_counted counts s l t = record {
  sessions = s;
  locals = λ replica. ap (λ xs. get_or xs (kept replica) 0) l ∙ get_or_past [] (kept replica) 0 (omega arith);
  scheduled = t;
  few_sessions = omega arith;
  few_locals = λ replica. omega arith;
}
