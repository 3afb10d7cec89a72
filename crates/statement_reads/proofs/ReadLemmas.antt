-- What is read of a text.
use Rattle.std.proofs.Common.{◌≡◌, List, [], ◌∷◌, ◌++◌, refl, sym, subst, length, arith, inl, inr}
use Rattle.std.specs.Prelude.{◌⊎◌, ℕ, Result, Ok, Err, IfOk, IfErr}
use Rattle.row_types.specs.declared.table_schema.Schema.{Schema}
use Rattle.ptc_statement.specs.declared.statements.Statement.{Statement}
use Rattle.statement_tokens.specs.declared.words.Token.{Token}
use Rattle.statement_tokens.specs.declared.text_ends.TextEnd.{TextEnd}
use Rattle.statement_tokens.specs.Tokens.{AreTokensOf}
use Rattle.statement_grammar.specs.declared.text_faults.TextFault.{TextFault}
use Rattle.statement_grammar.specs.declared.text_faults.TextFault.TheVariants as fault
use Rattle.statement_grammar.specs.Sentence.{Keys}
use Rattle.statement_grammar.specs.FirstFault.{keys_in, BreaksOff, IsText, IsFirstFault}
use Rattle.statement_text_laws.proofs.OneTextLemmas.{one_statement_of_text, one_fault_of_text, never_both_of_text}
use Rattle.statement_progress.specs.Progress.{GoesOn, IsProgress}
use Rattle.statement_progress.specs.declared.progress.Progress.{Progress}
use Rattle.statement_reads.specs.Reads.{IsFinished, IsRead, IsOnly, IsExactly}

pub read_so : (schemas : List Schema) (text : List ℕ) (ts : List Token) (end : TextEnd) (result : Result Statement TextFault) → AreTokensOf text ts end → IsFinished schemas (keys_in schemas ts) ts end result → IsRead schemas text result
read_so schemas text ts end (Ok statement) a h = record { tokens = ts; end = end; are = a; is = h }
read_so schemas text ts end (Err f) a (inl h) = inl h
read_so schemas text ts end (Err f) a (inr h) = inr (record { tokens = ts; end = end; are = a; is = h })

pub found_so : (schemas : List Schema) (text : List ℕ) (result : Result Statement TextFault) → IsRead schemas text result → IfOk result (λ statement. IsText schemas text statement)
found_so schemas text (Ok statement) h = h
found_so schemas text (Err f) h = tt

pub refused_so : (schemas : List Schema) (text : List ℕ) (result : Result Statement TextFault) → IsRead schemas text result → IfErr result (λ f. (f ≡ fault.Memory) ⊎ IsFirstFault schemas text f)
refused_so schemas text (Ok statement) h = tt
refused_so schemas text (Err f) h = h

pub only_so : (schemas : List Schema) (text : List ℕ) (result : Result Statement TextFault) → IsRead schemas text result → (statement : Statement) → IsText schemas text statement → IsOnly statement result
only_so schemas text (Ok other) h statement t = one_statement_of_text schemas text other statement h t
only_so schemas text (Err f) (inl h) statement t = h
only_so schemas text (Err f) (inr h) statement t = absurd (never_both_of_text schemas text statement f t h)

pub exactly_so : (schemas : List Schema) (text : List ℕ) (result : Result Statement TextFault) → IsRead schemas text result → (f : TextFault) → IsFirstFault schemas text f → IsExactly f result
exactly_so schemas text (Ok other) h f t = never_both_of_text schemas text other f h t
exactly_so schemas text (Err g) (inl h) f t = inl h
exactly_so schemas text (Err g) (inr h) f t = inr (one_fault_of_text schemas text g f h t)

pub nothing_left : {X : Type 0} (l : List X) → length l ≡ 0 → l ≡ []
nothing_left [] h = refl
nothing_left (x ∷ xs) h = absurd (omega arith)

pub breaks_so : (schemas : List Schema) (nothing : Schema) (front rest ts : List Token) (t : Token) (end : TextEnd) (f : TextFault) → ts ≡ front ++ (t ∷ rest) → GoesOn schemas nothing (keys_in schemas ts) front t rest (Err f) → IsFinished schemas (keys_in schemas ts) ts end (Err f)
breaks_so schemas nothing front rest ts t end f e (inl h) = inl h
breaks_so schemas nothing front rest ts t end f e (inr h) = inr (inl (subst (λ (us : List Token). BreaksOff (keys_in schemas ts) schemas us end f) (sym e) (h end)))

pub broken_so : (schemas : List Schema) (nothing : Schema) (all ts front rest : List Token) (t : Token) (end : TextEnd) (f : TextFault) → all ≡ ts → all ≡ front ++ (t ∷ rest) → GoesOn schemas nothing (keys_in schemas all) front t rest (Err f) → IsFinished schemas (keys_in schemas ts) ts end (Err f)
broken_so schemas nothing all ts front rest t end f is e h =
    subst (λ (us : List Token). IsFinished schemas (keys_in schemas us) us end (Err f)) is (breaks_so schemas nothing front rest all t end f e h)

pub ended_so : (schemas : List Schema) (nothing : Schema) (all ts front : List Token) (end : TextEnd) (p : Progress) (result : Result Statement TextFault) → all ≡ ts → front ≡ all → IsProgress schemas nothing (keys_in schemas all) front p
    → ((key : Keys) (us : List Token) → IsProgress schemas nothing key us p → IsFinished schemas key us end result) → IsFinished schemas (keys_in schemas ts) ts end result
ended_so schemas nothing all ts front end p result is e h finish =
    subst (λ (us : List Token). IsFinished schemas (keys_in schemas us) us end result) is
    (subst (λ (us : List Token). IsFinished schemas (keys_in schemas all) us end result) e (finish (keys_in schemas all) front h))
