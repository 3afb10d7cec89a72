use Rattle.statement_grammar.proofs.SentenceLemmas.{complete_sentence, sound_sentence, live_sentence, begun_sentence}
use Rattle.statement_grammar.proofs.laws.sentences.Goals as goal

pub returns-clause-complete : goal.returns-clause-complete
returns-clause-complete c = complete_sentence

pub returns-clause-sound : goal.returns-clause-sound
returns-clause-sound c = sound_sentence

pub returns-clause-lives : goal.returns-clause-lives
returns-clause-lives c = live_sentence

pub returns-clause-begun : goal.returns-clause-begun
returns-clause-begun c = begun_sentence
