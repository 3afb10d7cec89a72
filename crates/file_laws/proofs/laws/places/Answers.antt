use Rattle.file_laws.proofs.WalkLemmas.{complete}
use Rattle.file_laws.proofs.SoundLemmas.{sound, lives}
use Rattle.file_laws.proofs.ItemLemmas.{one_item}
use Rattle.file_laws.proofs.laws.places.Goals as goal

pub returns-clause-complete : goal.returns-clause-complete
returns-clause-complete c = complete

pub returns-clause-sound : goal.returns-clause-sound
returns-clause-sound c = sound

pub returns-clause-lives : goal.returns-clause-lives
returns-clause-lives c = lives

pub returns-clause-one_item : goal.returns-clause-one_item
returns-clause-one_item c = one_item
