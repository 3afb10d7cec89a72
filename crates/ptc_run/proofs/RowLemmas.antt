-- The spelling of ROW lines.
use Rattle.std.proofs.Common.{◌≡◌, ℕ, ℤ, List, [], ◌∷◌, ◌++◌, refl, sym, ap, ◌∙◌, append_assoc, FitsSigned, w64, arith, Option, Some, lit<, get_or, true, false, not, eqb, inl, inr}
use Rattle.std.specs.Prelude.{codes}
use Rattle.std.specs.List.{list_all}
use Rattle.std.proofs.lemmas.Bool.Decides.{eqb_tells}
use Rattle.std.specs.Fmt.{signed_decimal}
use Rattle.std.proofs.lemmas.List.{append_cancel_left}
use Rattle.ptc_run.specs.declared.row_lines.RowNode.{RowNode}
use Rattle.ptc_run.specs.declared.row_lines.RowNode.TheVariants.{All, Source, Replica}
use Rattle.ptc_run.specs.declared.row_lines.RowLine.{RowLine}
use Rattle.ptc_run.specs.Lines.{IsFreeOf}
use Rattle.ptc_run.specs.RowLines.{node_text, numbers_text, row_line, NumbersFit}
use Rattle.ptc_run.specs.FirstForm.{end_line}
use Rattle.ptc_run.proofs.LineLemmas.{free-append, IsLine}
use Rattle.ptc_run.proofs.NumberLemmas.{number_once, number_free}

pub tail_is : (a b : List ℕ) → ((a ++ 44 ∷ (32 ∷ [])) ++ b) ++ 41 ∷ (10 ∷ []) ≡ a ++ 44 ∷ (32 ∷ (b ++ 41 ∷ (10 ∷ [])))
tail_is a b = append_assoc (a ++ 44 ∷ (32 ∷ [])) b (41 ∷ (10 ∷ [])) ∙ append_assoc a (44 ∷ (32 ∷ [])) (b ++ 41 ∷ (10 ∷ []))

-- the parts that the reader goes by
row_line_parts : (node : RowNode) (key value : ℤ) → row_line (record { node = node; key = key; value = value }) ≡ codes "ROW " ++ (node_text node ++ numbers_text key value)
unfolding row_line
row_line_parts All key value = ap (λ (x : List ℕ). codes "ROW * t (" ++ x) (tail_is (signed_decimal key) (signed_decimal value))
row_line_parts Source key value = ap (λ (x : List ℕ). codes "ROW source t (" ++ x) (tail_is (signed_decimal key) (signed_decimal value))
row_line_parts Replica key value = ap (λ (x : List ℕ). codes "ROW r1 t (" ++ x) (tail_is (signed_decimal key) (signed_decimal value))

pub row_line_is : (row : RowLine) → row_line row ≡ codes "ROW " ++ (node_text row.node ++ numbers_text row.key row.value)
row_line_is row = row_line_parts row.node row.key row.value

-- what stands behind the first word
pub behind_row : (line rest : List ℕ) (row : RowLine) → line ≡ codes "ROW " ++ rest → line ≡ row_line row → rest ≡ node_text row.node ++ numbers_text row.key row.value
behind_row line rest row e k = append_cancel_left (codes "ROW ") rest (node_text row.node ++ numbers_text row.key row.value) (sym e ∙ k ∙ row_line_is row)

pub row_found : (line rest numbers : List ℕ) (node : RowNode) (key value : ℤ) → line ≡ codes "ROW " ++ rest → rest ≡ node_text node ++ numbers → numbers ≡ numbers_text key value → line ≡ row_line (record { node = node; key = key; value = value })
row_found line rest numbers node key value e f g = e ∙ ap (λ (x : List ℕ). codes "ROW " ++ x) (f ∙ ap (λ (x : List ℕ). node_text node ++ x) g) ∙ sym (row_line_parts node key value)

pub same_row : (node : RowNode) (key value : ℤ) (row : RowLine) → node ≡ row.node → key ≡ row.key → value ≡ row.value → ◌≡◌ {A = Option RowLine} (Some (record { node = node; key = key; value = value })) (Some row)
same_row node key value row a b c = λ i. Some (record { node = a i; key = b i; value = c i })

abbrev pub first : List ℕ → ℕ
first xs = get_or xs 0 0

node_once : (m n : RowNode) (xs ys : List ℕ) → node_text m ++ xs ≡ node_text n ++ ys → (m ≡ n) × (xs ≡ ys)
node_once All All xs ys h = (refl, append_cancel_left (node_text All) xs ys h)
node_once All Source xs ys h = absurd (let heads : 42 ≡ 115 = ap first h in omega arith)
node_once All Replica xs ys h = absurd (let heads : 42 ≡ 114 = ap first h in omega arith)
node_once Source All xs ys h = absurd (let heads : 115 ≡ 42 = ap first h in omega arith)
node_once Source Source xs ys h = (refl, append_cancel_left (node_text Source) xs ys h)
node_once Source Replica xs ys h = absurd (let heads : 115 ≡ 114 = ap first h in omega arith)
node_once Replica All xs ys h = absurd (let heads : 114 ≡ 42 = ap first h in omega arith)
node_once Replica Source xs ys h = absurd (let heads : 114 ≡ 115 = ap first h in omega arith)
node_once Replica Replica xs ys h = (refl, append_cancel_left (node_text Replica) xs ys h)

-- ---- each line begins with its word, has one reading, and ends in a line feed

pub numbers_once : (key value k v : ℤ) → FitsSigned w64 key × FitsSigned w64 value → FitsSigned w64 k × FitsSigned w64 v → numbers_text key value ≡ numbers_text k v → (key ≡ k) × (value ≡ v)
numbers_once key value k v f g e =
    let keys = number_once 44 (lit< tt) key k _ _ f.0 g.0 e in
    let behind_blank : signed_decimal value ++ 41 ∷ (10 ∷ []) ≡ signed_decimal v ++ 41 ∷ (10 ∷ []) = let h = keys.1 in cc in
    let values = number_once 41 (lit< tt) value v (10 ∷ []) (10 ∷ []) f.1 g.1 behind_blank in
    (keys.0, values.0)

pub row_line_once : (x y : RowLine) → NumbersFit x → NumbersFit y → row_line x ≡ row_line y → ◌≡◌ {A = RowLine} x y
row_line_once x y f g e =
    let rest = behind_row (row_line x) (node_text x.node ++ numbers_text x.key x.value) y (row_line_is x) e in
    let nodes = node_once x.node y.node (numbers_text x.key x.value) (numbers_text y.key y.value) rest in
    let numbers = numbers_once x.key x.value y.key y.value f g nodes.1 in
    λ i. record { node = nodes.0 i; key = numbers.0 i; value = numbers.1 i }

pub row_line_not_end : (row : RowLine) → row_line row ≡ end_line → ⊥
unfolding end_line
row_line_not_end row e =
    let h : codes "ROW " ++ (node_text row.node ++ numbers_text row.key row.value) ≡ codes "END\n" = sym (row_line_is row) ∙ e in
    absurd (let heads : 82 ≡ 69 = ap first h in omega arith)

pub free_text : (stop : ℕ) (xs : List ℕ) → list_all (λ b. not (eqb b stop)) xs ≡ true → IsFreeOf stop xs
free_text stop [] e = tt
free_text stop (x ∷ xs) e =
    elim (eqb_tells x stop) [
      | inl h ↦ absurd (let no : false ≡ true = rw h.0 at e in cc)
      | inr h ↦ (h.1, free_text stop xs (rw h.0 at e))
    ]

node_free : (node : RowNode) → IsFreeOf 10 (node_text node)
node_free All = free_text 10 (node_text All) refl
node_free Source = free_text 10 (node_text Source) refl
node_free Replica = free_text 10 (node_text Replica) refl

pub numbers_line : (a b : List ℕ) → a ++ 44 ∷ (32 ∷ (b ++ 41 ∷ (10 ∷ []))) ≡ (a ++ 44 ∷ (32 ∷ (b ++ 41 ∷ []))) ++ 10 ∷ []
numbers_line a b = sym (append_assoc a (44 ∷ (32 ∷ (b ++ 41 ∷ []))) (10 ∷ []) ∙ ap (λ (x : List ℕ). a ++ 44 ∷ (32 ∷ x)) (append_assoc b (41 ∷ []) (10 ∷ [])))

-- the numbers without the line feed
abbrev pub numbers_front : ℤ → ℤ → List ℕ
numbers_front key value = signed_decimal key ++ 44 ∷ (32 ∷ (signed_decimal value ++ 41 ∷ []))

pub numbers_free : (key value : ℤ) → FitsSigned w64 key → FitsSigned w64 value → IsFreeOf 10 (numbers_front key value)
numbers_free key value f g =
    free-append 10 (signed_decimal key) (44 ∷ (32 ∷ (signed_decimal value ++ 41 ∷ []))) (number_free 10 (lit< tt) key f)
    ((λ e. omega arith), ((λ e. omega arith), free-append 10 (signed_decimal value) (41 ∷ []) (number_free 10 (lit< tt) value g) ((λ e. omega arith), tt)))

pub row_line-IsLine : (row : RowLine) → NumbersFit row → IsLine (row_line row)
row_line-IsLine row f = record {
  front = codes "ROW " ++ (node_text row.node ++ numbers_front row.key row.value);
  free = free-append 10 (codes "ROW ") (node_text row.node ++ numbers_front row.key row.value) (free_text 10 (codes "ROW ") refl)
      (free-append 10 (node_text row.node) (numbers_front row.key row.value) (node_free row.node) (numbers_free row.key row.value f.0 f.1));
  text = row_line_is row ∙ ap (λ (x : List ℕ). codes "ROW " ++ (node_text row.node ++ x)) (numbers_line (signed_decimal row.key) (signed_decimal row.value))
      ∙ ap (λ (x : List ℕ). codes "ROW " ++ x) (sym (append_assoc (node_text row.node) (numbers_front row.key row.value) (10 ∷ [])));
}
