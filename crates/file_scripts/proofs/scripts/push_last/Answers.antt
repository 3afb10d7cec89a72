use Rattle.std.proofs.Common.{suc, ◌≡◌, ◌-◌, length, arith}
use Rattle.std.proofs.lemmas.Result.{on_ok_weaker}
use Rattle.file_scripts.proofs.ListLemmas.{set_last}
use Rattle.file_scripts.proofs.scripts.push_last.Goals as goal

pub returns-clause-ok : goal.returns-clause-ok
returns-clause-ok c =
    let len : suc (c.len-last.result - 1) ≡ length c.args.scripts.now.items = omega (arith, c.args.scripts.now.ok) in
    on_ok_weaker c.push.result
    (λ e. set_last c.args.line c.args.scripts.now.items (c.len-last.result - 1) c.index_mut.result.now c.push.new.self len c.index_mut.ensures.value e)
    c.push.ensures.ok
