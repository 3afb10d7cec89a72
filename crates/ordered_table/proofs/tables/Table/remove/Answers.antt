use Rattle.std.proofs.Common.{◌≡◌, ◌∙◌, ◌+◌, ◌-◌, Bool, true, false, List, length, not, subst, sym, ap, arith}
use Rattle.std.specs.Prelude.{is_some, if◌then◌else◌}
use Rattle.row_types.specs.declared.values.Value.{Value}
use Rattle.row_types.specs.KeyRows.{AreOrdered, is_at}
use Rattle.row_types.proofs.OrderedRowLemmas.{filter_ordered}
use Rattle.ordered_table.specs.Pages.{flat}
use Rattle.ordered_table.proofs.SizeLemmas.{room_to}
use Rattle.ordered_table.proofs.tables.Table.remove.Goals as goal

pub invariant_of-self : goal.invariant_of-self
invariant_of-self c =
    let known : is_some c.take_from-removed.result ≡ true = sym c.is_some.ensures ∙ c.if-is_some.true in
    let fewer : length (flat c.self.inside.store.pages) ≡ length (flat c.take_from-removed.new.store.pages) + 1 =
    c.take_from-removed.ensures.count
    ∙ ap (λ (b : Bool). if b then (length (flat c.take_from-removed.new.store.pages) + 1) else (length (flat c.take_from-removed.new.store.pages))) known in
    record {
      key = c.self.invariant.key;
      most = c.self.invariant.most;
      ordered = subst (AreOrdered c.self.inside.key_len) (sym c.take_from-removed.ensures.rows)
          (filter_ordered c.self.inside.key_len (λ (row : List Value). not (is_at c.self.inside.key_len c.as_slice.result.now row)) (flat c.self.inside.store.pages) c.self.invariant.ordered);
      sizes = c.take_from-removed.ensures.sizes;
      count = omega (arith, c.self.invariant.count);
      fits = omega (arith, c.self.invariant.fits);
      room = room_to c.self.inside.count c.self.inside.spare (length c.self.inside.store.pages) c.self.inside.store.empties
          (c.self.inside.count - 1) c.self.inside.spare (length c.take_from-removed.new.store.pages) c.take_from-removed.new.store.empties
          c.self.invariant.room c.take_from-removed.ensures.total (omega arith) (omega (arith, c.take_from-removed.ensures.more));
    }

pub invariant_of-self-else-is_some : goal.invariant_of-self-else-is_some
invariant_of-self-else-is_some c =
    let known : is_some c.take_from-removed.result ≡ false = sym c.is_some.ensures ∙ c.if-is_some.false in
    let same : length (flat c.self.inside.store.pages) ≡ length (flat c.take_from-removed.new.store.pages) =
    c.take_from-removed.ensures.count
    ∙ ap (λ (b : Bool). if b then (length (flat c.take_from-removed.new.store.pages) + 1) else (length (flat c.take_from-removed.new.store.pages))) known in
    record {
      key = c.self.invariant.key;
      most = c.self.invariant.most;
      ordered = subst (AreOrdered c.self.inside.key_len) (sym c.take_from-removed.ensures.rows)
          (filter_ordered c.self.inside.key_len (λ (row : List Value). not (is_at c.self.inside.key_len c.as_slice.result.now row)) (flat c.self.inside.store.pages) c.self.invariant.ordered);
      sizes = c.take_from-removed.ensures.sizes;
      count = omega (arith, c.self.invariant.count);
      fits = c.self.invariant.fits;
      room = room_to c.self.inside.count c.self.inside.spare (length c.self.inside.store.pages) c.self.inside.store.empties
          c.self.inside.count c.self.inside.spare (length c.take_from-removed.new.store.pages) c.take_from-removed.new.store.empties
          c.self.invariant.room c.take_from-removed.ensures.total (omega arith) (omega (arith, c.take_from-removed.ensures.more));
    }
