use Rattle.std.proofs.Common.{◌≡◌, ◌∙◌, sym, ap, subst, List, Some, None}
use Rattle.std.specs.Prelude.{IfOk, option_copied}
use Rattle.std.specs.List.{slice_get}
use Rattle.std.proofs.lemmas.Result.{IfOk-weaker}
use Rattle.row_types.specs.declared.digests.Digest.{Digest}
use Rattle.row_digest.specs.Digest.{digest_of}
use Rattle.history.specs.Replay.{chunk_rows}
use Rattle.ordered_table.specs.TableView.{TableView}
use Rattle.cluster_core.specs.LiveTables.{LiveView, rows_of_each}
use Rattle.cluster_core.proofs.LiveLemmas.{chunk_is, no_chunk, no_schema, rows_encodable, sound_at, sound_schema}
use Rattle.cluster_core.proofs.live_tables.LiveTables.digest.Goals as goal

pub digest_rows-requires : goal.digest_rows-requires
digest_rows-requires c =
    let there : slice_get c.self.inside.tables.items c.args.table ≡ Some c.in-Some.live.now =
    ap (λ (ts : List TableView). slice_get ts c.args.table) (sym c.as_slice.ensures.value) ∙ sym c.in-Some.ensures in
    let schema = sound_schema c.self.inside.schemas.tables c.self.inside.tables.items c.args.table c.in-Some.live.now c.self.invariant there in
    let sound = sound_at c.self.inside.schemas.tables c.self.inside.tables.items c.args.table schema.0 c.in-Some.live.now c.self.invariant schema.1 there in
    rows_encodable schema.0 c.in-Some.live.now.rows sound.is_schema sound.is_table

pub returns-in-None : goal.returns-in-None
returns-in-None c =
    let none : slice_get c.self.inside.tables.items c.args.table ≡ None =
    ap (λ (ts : List TableView). slice_get ts c.args.table) (sym c.as_slice.ensures.value) ∙ sym c.table_at.ensures ∙ ap option_copied c.in-None.is in
    let gone = no_schema c.self.inside.schemas.tables c.self.inside.tables.items c.args.table c.self.invariant none in
    let rows = no_chunk c.self.inside.schemas.tables (rows_of_each c.self.inside.tables.items) c.args.table c.args.span.now gone in
    subst (λ (v : LiveView). c.empty_digest.result ≡ digest_of c.args.kind (chunk_rows v.schemas v.tables c.args.table c.args.span.now)) c.self.view_is
    (c.empty_digest.ensures ∙ ap (digest_of c.args.kind) (sym rows))

pub returns-in-Some : goal.returns-in-Some
returns-in-Some c =
    let there : slice_get c.self.inside.tables.items c.args.table ≡ Some c.in-Some.live.now =
    ap (λ (ts : List TableView). slice_get ts c.args.table) (sym c.as_slice.ensures.value) ∙ sym c.in-Some.ensures in
    let schema = sound_schema c.self.inside.schemas.tables c.self.inside.tables.items c.args.table c.in-Some.live.now c.self.invariant there in
    let here = chunk_is c.self.inside.schemas.tables c.self.inside.tables.items c.args.table schema.0 c.in-Some.live.now c.args.span.now c.self.invariant schema.1 there in
    subst (λ (v : LiveView). IfOk c.digest_rows.result (λ (digest : Digest). digest ≡ digest_of c.args.kind (chunk_rows v.schemas v.tables c.args.table c.args.span.now))) c.self.view_is
    (IfOk-weaker c.digest_rows.result _ _ (λ (digest : Digest) is. is ∙ ap (digest_of c.args.kind) here) c.digest_rows.ensures)
