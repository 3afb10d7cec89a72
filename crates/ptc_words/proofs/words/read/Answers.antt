use Rattle.std.proofs.Common.{map, string_bytes, ap}
use Rattle.ptc_words.proofs.WordLemmas.{faults_within, few_retries}
use Rattle.ptc_words.proofs.words.read.Goals as goal

pub returns-then-eq-clause-index : goal.returns-then-eq-clause-index
returns-then-eq-clause-index c =
    faults_within (string_bytes c.in-Some.word.now) (map string_bytes c.in-Some.options.now) (map string_bytes c.args.words.now) c.read_options.result
    (ap (map string_bytes) c.in-Some.ensures.cases.0) c.read_options.ensures

pub returns-then-eq-clause-retries : goal.returns-then-eq-clause-retries
returns-then-eq-clause-retries c = few_retries (map string_bytes c.in-Some.options.now) c.read_options.result c.read_options.ensures
