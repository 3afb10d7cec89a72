use Rattle.std.proofs.Common.{rules}
use Rattle.statement_tokens.specs.Tokens.{IsCut}
use Rattle.statement_tokens.proofs.ListLemmas.{ends_before, ends_whole, goes_on, here_within, none_of, nothing, smaller, some_of, something}
use Rattle.statement_tokens.proofs.token_lists.tokens_of.Goals as goal

pub returns-then-is_empty : goal.returns-then-is_empty
returns-then-is_empty c =
    ends_whole c.args.text.now c.tokens.rest.now c.behind_spaces-here.result.now c.tokens.tokens c.tokens.behind_sign c.tokens.behind_operand c.place_in-past.result
    c.tokens.invariant c.behind_spaces-here.ensures.rest (nothing c.behind_spaces-here.result.now c.if-is_empty.ensures) c.place_in-past.ensures

pub returns-in_default : goal.returns-in_default
returns-in_default c =
    ends_before c.args.text.now c.tokens.rest.now c.behind_spaces-here.result.now c.tokens.tokens c.tokens.behind_sign c.tokens.behind_operand c.place_in-place.result
    c.tokens.invariant c.behind_spaces-here.ensures.rest (something c.behind_spaces-here.result.now c.if-is_empty.ensures)
    (none_of _ _ c.in_ok-word.field-0 c.in_default.is c.in_ok-word.ensures) c.place_in-place.ensures

pub tokens-smaller : goal.tokens-smaller
tokens-smaller c =
    let cut : IsCut c.tokens.behind_sign c.in-Some.word c.behind_spaces-here.result.now c.in-Some.more.now = some_of _ _ c.in_ok-word.field-0 (c.in-Some.word, c.in-Some.more) c.in-Some.is c.in_ok-word.ensures in
    smaller c.tokens.rest.now c.behind_spaces-here.result.now c.in-Some.more.now c.tokens.behind_sign c.in-Some.word c.behind_spaces-here.ensures.rest cut

pub tokens-preserved : goal.tokens-preserved
tokens-preserved c =
    let cut : IsCut c.tokens.behind_sign c.in-Some.word c.behind_spaces-here.result.now c.in-Some.more.now = some_of _ _ c.in_ok-word.field-0 (c.in-Some.word, c.in-Some.more) c.in-Some.is c.in_ok-word.ensures in
    goes_on c.args.text.now c.tokens.rest.now c.behind_spaces-here.result.now c.in-Some.more.now c.tokens.tokens c.push.new.self
    (record { word = c.in-Some.word; place = c.place_in-place.result }) c.tokens.behind_sign c.tokens.behind_operand c.is_sign-behind_sign.result c.is_operand_end-behind_operand.result
    c.tokens.invariant c.behind_spaces-here.ensures.rest c.place_in-place.ensures cut c.is_sign-behind_sign.ensures c.is_operand_end-behind_operand.ensures (search rules)

pub place_in-place-requires-clause-within : goal.place_in-place-requires-clause-within
place_in-place-requires-clause-within c = here_within c.args.text.now c.tokens.rest.now c.behind_spaces-here.result.now c.tokens.invariant.within c.behind_spaces-here.ensures.rest
