-- A text has one list of tokens, and so one reading.
use Rattle.std.proofs.Common.{ℕ, List, [], subst}
use Rattle.statement_tokens.specs.declared.words.Token.{Token}
use Rattle.statement_tokens.specs.declared.text_ends.TextEnd.{TextEnd}
use Rattle.statement_tokens.specs.Tokens.{AreTokensOf}
use Rattle.statement_tokens.proofs.OneListLemmas.{same_tokens}
use Rattle.statement_grammar.specs.FirstFault.{IsStatement, keys_in}
use Rattle.statement_grammar.specs.Unique.{HasFirstFault}
use Rattle.statement_grammar.proofs.UniqueLemmas.{one_statement, one_first_fault, never_both}
use Rattle.statement_text_laws.specs.OneText.{OneListOfTokens, OneStatementOfText, OneFaultOfText, NeverBothOfText}

pub one_list : OneListOfTokens
one_list text ts us end stop a b = same_tokens [] 1 text ts us end stop a b

-- what holds of the tokens of a text in one list, holds of them in another
carried : (P : List Token → TextEnd → Type 0) (text : List ℕ) (ts us : List Token) (end stop : TextEnd) → AreTokensOf text ts end → AreTokensOf text us stop → P us stop → P ts end
carried P text ts us end stop a b p =
    let s = one_list text us ts stop end b a in subst (λ (e : TextEnd). P ts e) s.1 (subst (λ (l : List Token). P l stop) s.0 p)

pub one_statement_of_text : OneStatementOfText
one_statement_of_text schemas text statement other a b =
    one_statement (keys_in schemas a.tokens) schemas a.tokens a.end statement other a.is
    (carried (λ (ts : List Token) (end : TextEnd). IsStatement (keys_in schemas ts) schemas ts end other) text a.tokens b.tokens a.end b.end a.are b.are b.is)

pub one_fault_of_text : OneFaultOfText
one_fault_of_text schemas text fault other a b =
    one_first_fault (keys_in schemas a.tokens) schemas a.tokens a.end fault other a.is
    (carried (λ (ts : List Token) (end : TextEnd). HasFirstFault (keys_in schemas ts) schemas ts end other) text a.tokens b.tokens a.end b.end a.are b.are b.is)

pub never_both_of_text : NeverBothOfText
never_both_of_text schemas text statement fault a b =
    never_both (keys_in schemas a.tokens) schemas a.tokens a.end statement fault a.is
    (carried (λ (ts : List Token) (end : TextEnd). HasFirstFault (keys_in schemas ts) schemas ts end fault) text a.tokens b.tokens a.end b.end a.are b.are b.is)
