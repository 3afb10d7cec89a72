use Rattle.std.proofs.Common.{◌<◌, arith, length}
use Rattle.file_rows.proofs.PutLemmas.{takes_within, takes_at, put_at, ok_three}
use Rattle.file_rows.proofs.file_rows.FileRows.put.Goals as goal

pub index_mut-requires : goal.index_mut-requires
index_mut-requires c =
    let within : c.args.place < length c.args.self.now.tables.items = takes_within c.args.place c.args.row.now c.args.self.now.tables.items c.requires in
    omega (arith, within, c.args.self.now.tables.ok)

pub put-requires : goal.put-requires
put-requires c = takes_at c.args.place c.args.row.now c.args.self.now.tables.items c.index_mut.result.now c.requires c.index_mut.ensures.value

pub returns : goal.returns
returns c =
    ok_three c.put.result c.put.ensures.schema c.put.ensures.rows c.put.ensures.keys
    (λ schema rows keys. put_at c.args.place c.args.which c.args.row.now c.args.self.now.tables.items c.index_mut.result.now c.put.new.self c.requires c.index_mut.ensures.value (record { schema = schema; rows = rows; keys = keys }))
