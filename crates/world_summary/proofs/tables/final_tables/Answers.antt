use Rattle.std.proofs.Common.{◌≡◌, ◌∙◌, ℕ, length, take, ap, subst, arith}
use Rattle.row_types.specs.KeyRows.{TableRows}
use Rattle.world_model.specs.Summary.{replayed_of}
use Rattle.world_summary.proofs.TableLemmas.{as_many, one_more, all_of}
use Rattle.world_summary.proofs.tables.final_tables.Goals as goal

pub loop-number-preserved : goal.loop-number-preserved
loop-number-preserved c =
    let tables : TableRows = (replayed_of c.args.node.now).tables in
    let many : length tables ≡ length c.args.node.now.schemas = as_many c.args.node.now.schemas tables c.keeps_laws.ensures.tables in
    let count : length tables ≡ c.len-count.result = omega (arith, many, ap length c.schemas.ensures, c.len-count.ensures.value) in
    c.in_ok-push.ensures.ok
    ∙ one_more tables c.loop-number.tables c.in_ok-committed.field-0 c.loop-number.number c.len-count.result c.loop-number-test.true count c.in_ok-committed.ensures
    c.loop-number.invariant

pub returns-clause-rows : goal.returns-clause-rows
returns-clause-rows c =
    let tables : TableRows = (replayed_of c.args.node.now).tables in
    let many : length tables ≡ length c.args.node.now.schemas = as_many c.args.node.now.schemas tables c.keeps_laws.ensures.tables in
    let count : length tables ≡ c.len-count.result = omega (arith, many, ap length c.schemas.ensures, c.len-count.ensures.value) in
    let end : c.loop-number.number ≡ c.len-count.result = omega (arith, c.loop-number.auto.number-end, c.loop-number-test.false) in
    all_of tables c.loop-number.tables c.len-count.result count (subst (λ (n : ℕ). c.loop-number.tables ≡ take n tables) end c.loop-number.invariant)
