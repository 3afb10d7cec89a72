-- Answers to lines, one by one.
use Rattle.std.proofs.Common.{◌≡◌, inl, inr, ℕ, List, [], ◌∷◌, ◌++◌, refl, sym, ap, subst, ◌∙◌, append_assoc, append-nil}
use Rattle.std.specs.Prelude.{map}
use Rattle.row_types.specs.declared.table_schema.Schema.{Schema}
use Rattle.file_text.specs.File.{lines_of, content}
use Rattle.text_check.specs.Checks.{texts_of, AddsAnswer, AreAnswers, IsTableLine, IsNoTable, IsChecked}

no_texts : texts_of [] ≡ []
unfolding lines_of
no_texts = refl

pub first_text : (text raw line more : List ℕ) → lines_of text ≡ raw ∷ lines_of more → line ≡ content raw → texts_of text ≡ line ∷ texts_of more
first_text text raw line more e is = ap (map content) e ∙ ap (λ (l : List ℕ). l ∷ texts_of more) (sym is)

-- what is answered from here on gives what is answered to all
abbrev pub AnswersOn : List Schema → List (List ℕ) → List ℕ → List (List ℕ) → Type 0
AnswersOn schemas all out rest = (more whole : List ℕ) → whole ≡ out ++ more → AreAnswers schemas rest more → AreAnswers schemas all whole

pub none_answered : (schemas : List Schema) (all : List (List ℕ)) → AnswersOn schemas all [] all
none_answered schemas all more whole e h = subst (AreAnswers schemas all) (sym e) h

pub answered : (schemas : List Schema) (all : List (List ℕ)) (out new line : List ℕ) (rest lines : List (List ℕ)) → rest ≡ line ∷ lines → AddsAnswer schemas line out new → AnswersOn schemas all out rest → AnswersOn schemas all new lines
answered schemas all out new line rest lines r a h more whole e k =
    h (a.answer ++ 10 ∷ more) whole (e ∙ ap (λ (l : List ℕ). l ++ more) a.added ∙ append_assoc (out ++ a.answer) (10 ∷ []) more ∙ append_assoc out a.answer (10 ∷ more)) (subst (λ (l : List (List ℕ)). AreAnswers schemas l (a.answer ++ 10 ∷ more)) (sym r) (a.answer, more, refl, a.is, k))

pub all_answered : (schemas : List Schema) (all : List (List ℕ)) (out text : List ℕ) → text ≡ [] → AnswersOn schemas all out (texts_of text) → AreAnswers schemas all out
all_answered schemas all out text e h = h [] out (sym (append-nil out)) (subst (λ (l : List (List ℕ)). AreAnswers schemas l []) (sym (ap texts_of e ∙ no_texts)) refl)

-- what is answered from here on, over the tables so far, is answered to all
abbrev pub ChecksOn : List (List ℕ) → List Schema → List (List ℕ) → Type 0
ChecksOn all schemas rest = (out : List ℕ) → IsChecked schemas rest out → IsChecked [] all out

pub table_read : (all : List (List ℕ)) (schemas : List Schema) (schema : Schema) (line : List ℕ) (rest lines : List (List ℕ)) → rest ≡ line ∷ lines → IsTableLine line schema → ChecksOn all schemas rest → ChecksOn all (schemas ++ schema ∷ []) lines
table_read all schemas schema line rest lines r is h out k = h out (subst (λ (l : List (List ℕ)). IsChecked schemas l out) (sym r) (inl (schema, is, k)))

pub tables_end : (all : List (List ℕ)) (schemas : List Schema) (line : List ℕ) (rest lines : List (List ℕ)) (out : List ℕ) → rest ≡ line ∷ lines → IsNoTable line → ChecksOn all schemas rest → AreAnswers schemas rest out → IsChecked [] all out
tables_end all schemas line rest lines out r is h k = h out (subst (λ (l : List (List ℕ)). IsChecked schemas l out) (sym r) (inr (is, subst (λ (l : List (List ℕ)). AreAnswers schemas l out) r k)))

pub tables_alone : (all : List (List ℕ)) (schemas : List Schema) (text : List ℕ) → text ≡ [] → ChecksOn all schemas (texts_of text) → IsChecked [] all []
tables_alone all schemas text e h = h [] (subst (λ (l : List (List ℕ)). IsChecked schemas l []) (sym (ap texts_of e ∙ no_texts)) refl)
