use Rattle.row_types.proofs.SpanLemmas.{meeting_has}
use Rattle.row_types.proofs.order_laws.meeting_has_the_keys_of_both.Goals as goal

pub returns : goal.returns
returns c = meeting_has
