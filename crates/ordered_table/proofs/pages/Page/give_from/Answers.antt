use Rattle.std.proofs.Common.{◌≡◌, ◌∙◌, ◌++◌, List, [], ◌∷◌, length, ap, sym, refl, append-nil, append_assoc, arith, rules}
use Rattle.std.specs.Prelude.{vec_len}
use Rattle.row_types.specs.declared.values.Value.{Value}
use Rattle.ordered_table.proofs.pages.Page.give_from.Goals as goal

pub loop-self-init : goal.loop-self-init
loop-self-init c =
    let empty : c.other.inside.rows.items ≡ [] = c.other.view_is ∙ c.requires.empty in
    let none : length c.other.inside.rows.items ≡ 0 = ap length empty in
    let ok : length c.other.inside.rows.items ≡ vec_len c.other.inside.rows = sym (c.other.inside.rows.ok.0) in
    let own : length c.self.inside.rows.items ≡ vec_len c.self.inside.rows = sym (c.self.inside.rows.ok.0) in
    let len : length c.self.inside.rows.items ≡ length c.args.self.now = ap length c.self.view_is in
    record {
      rows = ap (λ (xs : List (List Value)). c.self.inside.rows.items ++ xs) empty ∙ append-nil c.self.inside.rows.items;
      sum = omega arith;
      left = omega (arith, c.requires.within);
      kept = refl;
      room = c.other.invariant.room;
      same = refl;
    }

pub invariant_of-self : goal.invariant_of-self
invariant_of-self c = record {
  most = omega (arith, c.loop-self.invariant.sum, c.self.invariant.most);
  room = omega (arith, c.loop-self.invariant.kept, c.self.invariant.room);
  leading = search rules;
}

pub invariant_of-other : goal.invariant_of-other
invariant_of-other c = record {
  most = omega (arith, c.loop-self.invariant.sum, c.self.invariant.most);
  room = c.loop-self.invariant.room;
  leading = search rules;
}

pub put_in-requires-clause-room : goal.put_in-requires-clause-room
put_in-requires-clause-room c =
    omega (arith, c.loop-self.invariant.sum, c.self.invariant.most, c.loop-self.invariant.room, c.loop-self-test.true, c.len.ensures)

pub loop-self-preserved : goal.loop-self-preserved
loop-self-preserved c = record {
  rows = ap (λ (xs : List (List Value)). c.pop.new.self.items ++ xs) c.put_in.ensures.items
      ∙ sym (append_assoc c.pop.new.self.items (c.in-Some.row ∷ []) c.loop-self.other-inside.rows.items)
      ∙ ap (λ (xs : List (List Value)). xs ++ c.loop-self.other-inside.rows.items) (sym c.in-Some.ensures.items)
      ∙ c.loop-self.invariant.rows;
  sum = omega (arith, c.loop-self.invariant.sum, c.in-Some.ensures.len, c.put_in.ensures.len);
  left = omega (arith, c.loop-self-test.true, c.len.ensures, c.in-Some.ensures.len);
  kept = c.pop.ensures.capacity ∙ c.loop-self.invariant.kept;
  room = omega (arith, c.loop-self.invariant.room, c.put_in.ensures.capacity);
  same = refl;
}

pub returns-clause-rows : goal.returns-clause-rows
returns-clause-rows c = c.loop-self.invariant.rows ∙ c.self.view_is

pub returns-clause-len : goal.returns-clause-len
returns-clause-len c =
    let own : length c.loop-self.self-inside.rows.items ≡ vec_len c.loop-self.self-inside.rows = sym (c.loop-self.self-inside.rows.ok.0) in
    omega (arith, c.loop-self.invariant.left, c.loop-self-test.false, c.len.ensures)
