use Rattle.std.proofs.Common.{◌≡◌, find, length}
use Rattle.std.specs.Str.{str_eq_ignore_ascii_case}
use Rattle.statement_tokens.specs.Spellings.{keyword_text}
use Rattle.statement_tokens.specs.FirstToken.{keyword_named}
use Rattle.statement_tokens.proofs.keywords.keyword_named.Given as goal

abbrev pub invariant-loop-keyword : goal.invariant-loop-keyword
invariant-loop-keyword l =
    find (λ x. str_eq_ignore_ascii_case (keyword_text x) l.text) l.rest ≡ keyword_named l.text

abbrev pub decreases-loop-keyword : goal.decreases-loop-keyword
decreases-loop-keyword l = length l.rest
