use Rattle.std.proofs.Common.{refl}
use Rattle.file_scripts.proofs.ScheduleLemmas.{items_more, items_stay, words_fit}
use Rattle.file_scripts.proofs.laws.schedule_of_lines.Goals as goal

pub returns-clause-none : goal.returns-clause-none
returns-clause-none c = refl

pub returns-clause-more : goal.returns-clause-more
returns-clause-more c = items_more

pub returns-clause-stay : goal.returns-clause-stay
returns-clause-stay c = items_stay

pub returns-clause-fit : goal.returns-clause-fit
returns-clause-fit c = words_fit
