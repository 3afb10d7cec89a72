-- The spelling of statements' lines.
use Rattle.std.proofs.Common.{◌≡◌, ℕ, ◌+◌, ℤ, List, [], ◌∷◌, ◌++◌, length, refl, sym, ap, ◌∙◌, append_assoc, FitsSigned, w64, arith, lit<, Option, Some}
use Rattle.std.specs.Prelude.{codes}
use Rattle.std.specs.Fmt.{signed_decimal}
use Rattle.std.proofs.lemmas.List.{append_cancel_left}
use Rattle.ptc_statement.specs.declared.scripts.ScriptLine.{ScriptLine}
use Rattle.ptc_statement.specs.declared.scripts.ScriptStep.TheVariants.{Run}
use Rattle.ptc_run.specs.declared.row_lines.RowLine.{RowLine}
use Rattle.ptc_run.specs.declared.script_lines.ScriptText.{ScriptText}
use Rattle.ptc_run.specs.declared.script_lines.ScriptText.TheVariants.{Insert, Update, Delete}
use Rattle.ptc_run.specs.Lines.{IsFreeOf}
use Rattle.ptc_run.specs.RowLines.{numbers_text, row_line}
use Rattle.ptc_run.specs.ScriptLines.{script_line, session_line, number_text, update_text, NumbersFitScript, statement_of, numbered}
use Rattle.ptc_run.specs.FirstForm.{end_line}
use Rattle.ptc_run.proofs.LineLemmas.{free-append, IsLine}
use Rattle.ptc_run.proofs.NumberLemmas.{number_once, number_free}
use Rattle.ptc_run.proofs.RowLemmas.{first, tail_is, row_line_is, numbers_once, free_text, numbers_front, numbers_line, numbers_free}

-- ---- the parts that the reader goes by

pub insert_is : (key value : ℤ) → script_line (Insert key value) ≡ codes "INSERT INTO t VALUES (" ++ numbers_text key value
unfolding script_line
insert_is key value = ap (λ (x : List ℕ). codes "INSERT INTO t VALUES (" ++ x) (tail_is (signed_decimal key) (signed_decimal value))

pub update_is : (key value : ℤ) → script_line (Update key value) ≡ codes "UPDATE t SET v = " ++ update_text key value
unfolding script_line
update_is key value =
    ap (λ (x : List ℕ). codes "UPDATE t SET v = " ++ x)
    (append_assoc (signed_decimal value ++ codes " WHERE id = ") (signed_decimal key) (10 ∷ []) ∙ append_assoc (signed_decimal value) (codes " WHERE id = ") (number_text key))

pub delete_is : (key : ℤ) → script_line (Delete key) ≡ codes "DELETE FROM t WHERE id = " ++ number_text key
unfolding script_line
delete_is key = refl

-- ---- the first letters

pub insert_first : (key value : ℤ) → first (script_line (Insert key value)) ≡ 73
insert_first key value = ap first (insert_is key value)

pub update_first : (key value : ℤ) → first (script_line (Update key value)) ≡ 85
update_first key value = ap first (update_is key value)

pub delete_first : (key : ℤ) → first (script_line (Delete key)) ≡ 68
delete_first key = ap first (delete_is key)

pub differ : (x y : List ℕ) (a b : ℕ) → first x ≡ a → first y ≡ b → (a ≡ b → ⊥) → x ≡ y → ⊥
differ x y a b f g ne e = ne (sym f ∙ ap first e ∙ g)

pub end_first : first end_line ≡ 69
unfolding end_line
end_first = refl

pub session_first : first session_line ≡ 83
unfolding session_line
session_first = refl

pub row_first : (row : RowLine) → first (row_line row) ≡ 82
row_first row = ap first (row_line_is row)

pub session_not_end : session_line ≡ end_line → ⊥
session_not_end e = differ session_line end_line 83 69 session_first end_first (λ no. omega arith) e

pub row_not_session : (row : RowLine) → row_line row ≡ session_line → ⊥
row_not_session row e = differ (row_line row) session_line 82 83 (row_first row) session_first (λ no. omega arith) e

pub script_line_not_end : (text : ScriptText) → script_line text ≡ end_line → ⊥
script_line_not_end (Insert key value) e = differ (script_line (Insert key value)) end_line 73 69 (insert_first key value) end_first (λ no. omega arith) e
script_line_not_end (Update key value) e = differ (script_line (Update key value)) end_line 85 69 (update_first key value) end_first (λ no. omega arith) e
script_line_not_end (Delete key) e = differ (script_line (Delete key)) end_line 68 69 (delete_first key) end_first (λ no. omega arith) e

pub insert_not_update : (key value k v : ℤ) → script_line (Insert key value) ≡ script_line (Update k v) → ⊥
insert_not_update key value k v e = differ (script_line (Insert key value)) (script_line (Update k v)) 73 85 (insert_first key value) (update_first k v) (λ no. omega arith) e

pub insert_not_delete : (key value k : ℤ) → script_line (Insert key value) ≡ script_line (Delete k) → ⊥
insert_not_delete key value k e = differ (script_line (Insert key value)) (script_line (Delete k)) 73 68 (insert_first key value) (delete_first k) (λ no. omega arith) e

pub update_not_delete : (key value k : ℤ) → script_line (Update key value) ≡ script_line (Delete k) → ⊥
update_not_delete key value k e = differ (script_line (Update key value)) (script_line (Delete k)) 85 68 (update_first key value) (delete_first k) (λ no. omega arith) e

-- ---- each line has one reading

number_text_once : (m n : ℤ) → FitsSigned w64 m → FitsSigned w64 n → number_text m ≡ number_text n → m ≡ n
number_text_once m n f g e = let numbers = number_once 10 (lit< tt) m n [] [] f g e in numbers.0

update_once : (key value k v : ℤ) → FitsSigned w64 key × FitsSigned w64 value → FitsSigned w64 k × FitsSigned w64 v → update_text key value ≡ update_text k v → (key ≡ k) × (value ≡ v)
update_once key value k v f g e =
    let values = number_once 32 (lit< tt) value v (codes "WHERE id = " ++ number_text key) (codes "WHERE id = " ++ number_text k) f.1 g.1 e in
    (number_text_once key k f.0 g.0 (append_cancel_left (codes "WHERE id = ") (number_text key) (number_text k) values.1), values.0)

pub script_line_once : (x y : ScriptText) → NumbersFitScript x → NumbersFitScript y → script_line x ≡ script_line y → ◌≡◌ {A = ScriptText} x y
script_line_once (Insert key value) (Insert k v) f g e =
    let numbers = numbers_once key value k v f g (append_cancel_left (codes "INSERT INTO t VALUES (") (numbers_text key value) (numbers_text k v) (sym (insert_is key value) ∙ e ∙ insert_is k v)) in
    λ i. Insert (numbers.0 i) (numbers.1 i)
script_line_once (Insert key value) (Update k v) f g e = absurd (insert_not_update key value k v e)
script_line_once (Insert key value) (Delete k) f g e = absurd (insert_not_delete key value k e)
script_line_once (Update key value) (Insert k v) f g e = absurd (insert_not_update k v key value (sym e))
script_line_once (Update key value) (Update k v) f g e =
    let numbers = update_once key value k v f g (append_cancel_left (codes "UPDATE t SET v = ") (update_text key value) (update_text k v) (sym (update_is key value) ∙ e ∙ update_is k v)) in
    λ i. Update (numbers.0 i) (numbers.1 i)
script_line_once (Update key value) (Delete k) f g e = absurd (update_not_delete key value k e)
script_line_once (Delete key) (Insert k v) f g e = absurd (insert_not_delete k v key (sym e))
script_line_once (Delete key) (Update k v) f g e = absurd (update_not_delete k v key (sym e))
script_line_once (Delete key) (Delete k) f g e =
    let same : key ≡ k = number_text_once key k f g (append_cancel_left (codes "DELETE FROM t WHERE id = ") (number_text key) (number_text k) (sym (delete_is key) ∙ e ∙ delete_is k)) in
    λ i. Delete (same i)

-- ---- each line ends in a line feed

update_line : (a b : List ℕ) → a ++ 32 ∷ (codes "WHERE id = " ++ (b ++ 10 ∷ [])) ≡ (a ++ 32 ∷ (codes "WHERE id = " ++ b)) ++ 10 ∷ []
update_line a b = sym (append_assoc a (32 ∷ (codes "WHERE id = " ++ b)) (10 ∷ []))

update_free : (key value : ℤ) → FitsSigned w64 key → FitsSigned w64 value → IsFreeOf 10 (signed_decimal value ++ (codes " WHERE id = " ++ signed_decimal key))
update_free key value f g =
    free-append 10 (signed_decimal value) (codes " WHERE id = " ++ signed_decimal key) (number_free 10 (lit< tt) value g)
    (free-append 10 (codes " WHERE id = ") (signed_decimal key) (free_text 10 (codes " WHERE id = ") refl) (number_free 10 (lit< tt) key f))

pub script_line-IsLine : (text : ScriptText) → NumbersFitScript text → IsLine (script_line text)
script_line-IsLine (Insert key value) f = record {
  front = codes "INSERT INTO t VALUES (" ++ numbers_front key value;
  free = free-append 10 (codes "INSERT INTO t VALUES (") (numbers_front key value) (free_text 10 (codes "INSERT INTO t VALUES (") refl) (numbers_free key value f.0 f.1);
  text = insert_is key value ∙ ap (λ (x : List ℕ). codes "INSERT INTO t VALUES (" ++ x) (numbers_line (signed_decimal key) (signed_decimal value));
}
script_line-IsLine (Update key value) f = record {
  front = codes "UPDATE t SET v = " ++ (signed_decimal value ++ (codes " WHERE id = " ++ signed_decimal key));
  free = free-append 10 (codes "UPDATE t SET v = ") (signed_decimal value ++ (codes " WHERE id = " ++ signed_decimal key)) (free_text 10 (codes "UPDATE t SET v = ") refl) (update_free key value f.0 f.1);
  text = update_is key value ∙ ap (λ (x : List ℕ). codes "UPDATE t SET v = " ++ x) (update_line (signed_decimal value) (signed_decimal key));
}
script_line-IsLine (Delete key) f = record {
  front = codes "DELETE FROM t WHERE id = " ++ signed_decimal key;
  free = free-append 10 (codes "DELETE FROM t WHERE id = ") (signed_decimal key) (free_text 10 (codes "DELETE FROM t WHERE id = ") refl) (number_free 10 (lit< tt) key f);
  text = delete_is key;
}

-- ---- numbered lines

pub numbered_push : (number : ℕ) (texts : List ScriptText) (text : ScriptText) → ◌≡◌ {A = List ScriptLine} (numbered number (texts ++ text ∷ [])) (numbered number texts ++ record { line = number + length texts; step = Run (statement_of text) } ∷ [])
numbered_push number [] text = λ i. record { line = (let e : number ≡ number + 0 = omega arith in e) i; step = Run (statement_of text) } ∷ []
numbered_push number (other ∷ texts) text =
    let moved : (number + 1) + length texts ≡ number + length (other ∷ texts) = omega arith in
    ap (λ (x : List ScriptLine). record { line = number; step = Run (statement_of other) } ∷ x)
    (numbered_push (number + 1) texts text ∙ ap (λ (n : ℕ). ◌++◌ {A = ScriptLine} (numbered (number + 1) texts) (record { line = n; step = Run (statement_of text) } ∷ [])) moved)

-- ---- the steps of the code

pub insert_found : (line : List ℕ) (key value : ℤ) → (line ≡ codes "INSERT INTO t VALUES (" ++ numbers_text key value) × FitsSigned w64 key × FitsSigned w64 value → (line ≡ script_line (Insert key value)) × (FitsSigned w64 key × FitsSigned w64 value)
insert_found line key value h = (h.0 ∙ sym (insert_is key value), (h.1, h.2))

pub update_found : (line : List ℕ) (key value : ℤ) → (line ≡ codes "UPDATE t SET v = " ++ update_text key value) × FitsSigned w64 key × FitsSigned w64 value → (line ≡ script_line (Update key value)) × (FitsSigned w64 key × FitsSigned w64 value)
update_found line key value h = (h.0 ∙ sym (update_is key value), (h.1, h.2))

pub delete_found : (line : List ℕ) (key : ℤ) → (line ≡ codes "DELETE FROM t WHERE id = " ++ number_text key) × FitsSigned w64 key → (line ≡ script_line (Delete key)) × FitsSigned w64 key
delete_found line key h = (h.0 ∙ sym (delete_is key), h.1)

-- a line is one statement only
pub just_one : (line : List ℕ) (found : ScriptText) → (line ≡ script_line found) × NumbersFitScript found → (text : ScriptText) → NumbersFitScript text → line ≡ script_line text → ◌≡◌ {A = Option ScriptText} (Some found) (Some text)
just_one line found h text f e = let same : ◌≡◌ {A = ScriptText} found text = script_line_once found text h.1 f (sym h.0 ∙ e) in λ i. Some (same i)

-- a line that is none of the three is no statement
pub no_statement : (line : List ℕ) → ((key value : ℤ) → FitsSigned w64 key → FitsSigned w64 value → line ≡ codes "INSERT INTO t VALUES (" ++ numbers_text key value → ⊥) → ((key value : ℤ) → FitsSigned w64 key → FitsSigned w64 value → line ≡ codes "UPDATE t SET v = " ++ update_text key value → ⊥) → ((key : ℤ) → FitsSigned w64 key → line ≡ codes "DELETE FROM t WHERE id = " ++ number_text key → ⊥)
    → (text : ScriptText) → NumbersFitScript text → line ≡ script_line text → ⊥
no_statement line a b d (Insert key value) f e = a key value f.0 f.1 (e ∙ insert_is key value)
no_statement line a b d (Update key value) f e = b key value f.0 f.1 (e ∙ update_is key value)
no_statement line a b d (Delete key) f e = d key f (e ∙ delete_is key)

pub update_numbers_found : (bytes rest last : List ℕ) (key value : ℤ) → (bytes ≡ signed_decimal value ++ 32 ∷ rest) × FitsSigned w64 value → rest ≡ codes "WHERE id = " ++ last → (last ≡ number_text key) × FitsSigned w64 key → (bytes ≡ update_text key value) × FitsSigned w64 key × FitsSigned w64 value
update_numbers_found bytes rest last key value h e k = (h.0 ∙ ap (λ (x : List ℕ). signed_decimal value ++ 32 ∷ x) (e ∙ ap (λ (x : List ℕ). codes "WHERE id = " ++ x) k.0), k.1, h.1)
