use Rattle.std.proofs.Common.{◌≡◌, ◌∷◌, [], ◌++◌, List, length, refl, sym, ap, ◌∙◌, append_assoc, append-nil, arith, rules}
use Rattle.std.specs.Vec.Iter.{into_iter_items}
use Rattle.statement_tokens.specs.declared.words.Token.{Token}
use Rattle.statement_grammar.specs.FirstFault.{keys_in}
use Rattle.statement_reading.specs.Readers.{reading_of}
use Rattle.statement_reads.proofs.FinishLemmas.{starts}
use Rattle.statement_reads.proofs.ReadLemmas.{broken_so, ended_so, nothing_left}
use Rattle.statement_reads.proofs.reads.read_tokens.Goals as goal

pub loop-token-init : goal.loop-token-init
loop-token-init c = (
  refl,
  starts c.args.schemas.now.tables _ (reading_of c.args.schemas.now.tables c.start.result) (c.start.ensures c.args.schemas.now.tables),
  search rules,
)

pub loop-token-preserved : goal.loop-token-preserved
loop-token-preserved c =
    let at = c.loop-token in
    let x = c.in-Some.token in
    let steps : into_iter_items at.token-iterator ≡ x ∷ into_iter_items c.next.new.self = c.in-Some.ensures.steps.0 in
    let all = sym at.invariant.0 ∙ ap (λ (l : List Token). at.yielded ++ l) steps in (
      append_assoc at.yielded (x ∷ []) _ ∙ rw (← steps) at.invariant.0,
      c.in-Ok.ensures _ at.yielded (into_iter_items c.next.new.self) at.invariant.1 (ap (keys_in c.args.schemas.now.tables) all),
      let was = at.invariant.2 in
          let gone = c.in-Some.ensures.steps.1 in
          let short = ap length steps in
          omega arith,
    )

pub returns-in-Err : goal.returns-in-Err
returns-in-Err c =
    let at = c.loop-token in
    let x = c.in-Some.token in
    let steps : into_iter_items at.token-iterator ≡ x ∷ into_iter_items c.next.new.self = c.in-Some.ensures.steps.0 in
    let all = sym at.invariant.0 ∙ ap (λ (l : List Token). at.yielded ++ l) steps in
    broken_so c.args.schemas.now.tables c.no_schema-nothing.result _ c.args.tokens at.yielded (into_iter_items c.next.new.self) x c.args.end c.in-Err.fault (c.into_iter-token-iterator.ensures.into_iter_gives.0 ∙ c.tokens.view_is) all
    (c.in-Err.ensures _ at.yielded (into_iter_items c.next.new.self) at.invariant.1 (ap (keys_in c.args.schemas.now.tables) all))

pub returns : goal.returns
returns c =
    let at = c.loop-token in
    let none = c.in-None.ensures.steps in
    let empty : into_iter_items at.token-iterator ≡ [] = nothing_left _ (sym at.invariant.2 ∙ none.0) in
    let all = sym (append-nil at.yielded) ∙ rw empty at at.invariant.0 in
    ended_so c.args.schemas.now.tables c.no_schema-nothing.result _ c.args.tokens at.yielded c.args.end at.progress _ (c.into_iter-token-iterator.ensures.into_iter_gives.0 ∙ c.tokens.view_is) all at.invariant.1 c.end_of.ensures
