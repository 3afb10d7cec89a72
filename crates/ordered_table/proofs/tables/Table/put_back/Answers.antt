use Rattle.std.proofs.Common.{◌≡◌, ◌∙◌, ◌+◌, ◌-◌, ◌*◌, ◌≤◌, Bool, true, false, Option, None, Some, List, length, take, not, subst, sym, ap, refl, arith}
use Rattle.std.specs.Prelude.{is_some, if◌then◌else◌}
use Rattle.row_types.specs.declared.values.Value.{Value}
use Rattle.row_types.specs.KeyRows.{HasKey, AreOrdered, row_at}
use Rattle.ordered_table.specs.TableView.{TableView}
use Rattle.row_types.proofs.OrderedRowLemmas.{put_ordered}
use Rattle.ordered_table.specs.Pages.{flat}
use Rattle.ordered_table.proofs.SizeLemmas.{room_to, room_for_split, pages_few}
use Rattle.ordered_table.proofs.tables.Table.put_back.Goals as goal

pub put_into-replaced-requires-clause-room : goal.put_into-replaced-requires-clause-room
put_into-replaced-requires-clause-room c =
    let allowed : row_at c.self.inside.key_len (take c.self.inside.key_len c.args.row) (flat c.self.inside.store.pages) ≡ None → 1 ≤ c.self.inside.spare =
    subst (λ (view : TableView). row_at view.key_len (take view.key_len c.args.row) view.rows ≡ None → 1 ≤ view.spare) (sym c.self.view_is) c.requires.room in
    let few : 65 * length c.self.inside.store.pages ≤ 2 * length (flat c.self.inside.store.pages) + 64 = pages_few c.self.inside.store.pages 64 (omega arith) c.self.invariant.sizes in
    λ absent. room_for_split c.self.inside.count c.self.inside.spare (length c.self.inside.store.pages) c.self.inside.store.empties c.self.invariant.room (allowed absent)
    (omega (arith, c.self.invariant.count))

none_is : (o : Option (List Value)) → is_some o ≡ false → o ≡ None
none_is None e = refl
none_is (Some row) e = cc

pub invariant_of-self : goal.invariant_of-self
invariant_of-self c =
    let allowed : row_at c.self.inside.key_len (take c.self.inside.key_len c.args.row) (flat c.self.inside.store.pages) ≡ None → 1 ≤ c.self.inside.spare =
    subst (λ (view : TableView). row_at view.key_len (take view.key_len c.args.row) view.rows ≡ None → 1 ≤ view.spare) (sym c.self.view_is) c.requires.room in
    let has : HasKey c.self.inside.key_len c.args.row = subst (λ n. HasKey n c.args.row) (sym (ap (λ (view : TableView). view.key_len) c.self.view_is)) c.requires.key in
    let known : is_some c.put_into-replaced.result ≡ false = c.is_none.ensures ∙ ap not c.if-is_none.true in
    let some : 1 ≤ c.self.inside.spare =
    allowed (none_is (row_at c.self.inside.key_len (take c.self.inside.key_len c.args.row) (flat c.self.inside.store.pages)) (ap is_some (sym c.put_into-replaced.ensures.replaced) ∙ known)) in
    let more : length (flat c.put_into-replaced.new.store.pages) ≡ length (flat c.self.inside.store.pages) + 1 =
    c.put_into-replaced.ensures.count
    ∙ ap (λ (b : Bool). if b then (length (flat c.self.inside.store.pages)) else (length (flat c.self.inside.store.pages) + 1)) known in
    let less : c.self.inside.store.empties ≤ c.put_into-replaced.new.store.empties + 1 =
    subst (λ (b : Bool). c.self.inside.store.empties ≤ c.put_into-replaced.new.store.empties + (if b then 0 else 1)) known c.put_into-replaced.ensures.less in
    record {
      key = c.self.invariant.key;
      most = c.self.invariant.most;
      ordered = subst (AreOrdered c.self.inside.key_len) (sym c.put_into-replaced.ensures.rows)
          (put_ordered c.self.inside.key_len c.args.row (flat c.self.inside.store.pages) has c.self.invariant.ordered);
      sizes = c.put_into-replaced.ensures.sizes;
      count = omega (arith, c.self.invariant.count);
      fits = omega (arith, c.self.invariant.fits);
      room = room_to c.self.inside.count c.self.inside.spare (length c.self.inside.store.pages) c.self.inside.store.empties
          (c.self.inside.count + 1) (c.self.inside.spare - 1) (length c.put_into-replaced.new.store.pages) c.put_into-replaced.new.store.empties
          c.self.invariant.room c.put_into-replaced.ensures.total (omega arith) (omega arith);
    }

pub invariant_of-self-else-is_none : goal.invariant_of-self-else-is_none
invariant_of-self-else-is_none c =
    let has : HasKey c.self.inside.key_len c.args.row = subst (λ n. HasKey n c.args.row) (sym (ap (λ (view : TableView). view.key_len) c.self.view_is)) c.requires.key in
    let known : is_some c.put_into-replaced.result ≡ true = c.is_none.ensures ∙ ap not c.if-is_none.false in
    let same : length (flat c.put_into-replaced.new.store.pages) ≡ length (flat c.self.inside.store.pages) =
    c.put_into-replaced.ensures.count
    ∙ ap (λ (b : Bool). if b then (length (flat c.self.inside.store.pages)) else (length (flat c.self.inside.store.pages) + 1)) known in
    let less : c.self.inside.store.empties ≤ c.put_into-replaced.new.store.empties + 0 =
    subst (λ (b : Bool). c.self.inside.store.empties ≤ c.put_into-replaced.new.store.empties + (if b then 0 else 1)) known c.put_into-replaced.ensures.less in
    record {
      key = c.self.invariant.key;
      most = c.self.invariant.most;
      ordered = subst (AreOrdered c.self.inside.key_len) (sym c.put_into-replaced.ensures.rows)
          (put_ordered c.self.inside.key_len c.args.row (flat c.self.inside.store.pages) has c.self.invariant.ordered);
      sizes = c.put_into-replaced.ensures.sizes;
      count = omega (arith, c.self.invariant.count);
      fits = c.self.invariant.fits;
      room = room_to c.self.inside.count c.self.inside.spare (length c.self.inside.store.pages) c.self.inside.store.empties
          c.self.inside.count c.self.inside.spare (length c.put_into-replaced.new.store.pages) c.put_into-replaced.new.store.empties
          c.self.invariant.room c.put_into-replaced.ensures.total (omega arith) (omega arith);
    }
