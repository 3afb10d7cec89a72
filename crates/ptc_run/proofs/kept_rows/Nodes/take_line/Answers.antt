use Rattle.std.proofs.Common.{◌≡◌, ℕ, List, ◌∷◌, ◌∙◌, ap, subst}
use Rattle.ptc_run.specs.Lines.{lines_of}
use Rattle.std.proofs.lemmas.Option.{same_Some, none-some}
use Rattle.ptc_run.specs.RowLines.{row_line}
use Rattle.ptc_run.specs.declared.row_lines.RowLine.{RowLine}
use Rattle.ptc_run.specs.KeptRows.{IsKnown}
use Rattle.ptc_run.proofs.LineLemmas.{no_line}
use Rattle.ptc_run.proofs.KeepLemmas.{known_not_allowed, allowed_more, last_fits, same_first}
use Rattle.ptc_run.proofs.kept_rows.Nodes.take_line.Goals as goal

pub returns-in_default : goal.returns-in_default
returns-in_default c = λ rows a k. (k, record { ends = λ row more b e. no_line c.args.bytes.now (row_line row) more c.in_default.ensures e })

pub returns-in_default-row_of : goal.returns-in_default-row_of
returns-in_default-row_of c = λ rows a k. (
  k,
  record {
    ends = λ row more b e.
        none-some row (c.in_default-row_of.ensures.only row (last_fits rows row b) (same_first _ _ more _ (row_line row) c.in-Some.ensures.0 e));
  },
)

pub returns-then-has : goal.returns-then-has
returns-then-has c = λ rows a k. (
  k,
  record {
    ends = λ row more b e.
        let same : ◌≡◌ {A = RowLine} c.in-Some-row_of.row row = same_Some c.in-Some-row_of.row row (c.in-Some-row_of.ensures.only row (last_fits rows row b) (same_first _ _ more _ (row_line row) c.in-Some.ensures.0 e)) in
        known_not_allowed c.args.self.now rows row k (subst (IsKnown c.args.self.now) same c.if-has.ensures) b;
  },
)

pub returns : goal.returns
returns c = λ rows a k. record {
  row = c.in-Some-row_of.row;
  allowed = allowed_more c.args.self.now rows c.in-Some-row_of.row a k c.in-Some-row_of.ensures.found.1 c.if-has.ensures;
  keeps = c.in_ok-put.ensures rows k;
  line = c.in-Some.ensures.0 ∙ ap (λ (x : List ℕ). x ∷ lines_of c.in-Some.rest.now) c.in-Some-row_of.ensures.found.0;
  shorter = c.in-Some.ensures.1;
}
