use Rattle.row_types.proofs.SpanLemmas.{past_or_before}
use Rattle.row_types.proofs.order_laws.each_key_is_past_or_before.Goals as goal

pub returns : goal.returns
returns c = past_or_before
