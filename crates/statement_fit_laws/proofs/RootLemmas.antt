-- The statement that a text is fits.
use Rattle.std.proofs.Common.{◌≡◌, Bool, true, List, [], ◌∷◌, ◌++◌, Option, None, refl, sym, ◌∙◌, ap, subst}
use Rattle.std.specs.Prelude.{length}
use Rattle.row_types.specs.declared.table_schema.Schema.{Schema}
use Rattle.statement_tokens.specs.declared.words.Token.{Token}
use Rattle.statement_grammar.specs.Grammar.{tokens_of}
use Rattle.statement_grammar.specs.Sentence.{Piece, One, Tree, pieces_tokens, Spot, StatementDue, WhereDue, CondEnds, SetEnds, EndDue, NothingDue, tree_at, one, may_end, Keys, Follows}
use Rattle.statement_grammar.specs.FirstFault.{first_name, keys_in}
use Rattle.statement_grammar.specs.Draft.{Draft, nothing_known, with_token, with_tree, spot_or, tree_next, drafted, said_as}
use Rattle.statement_grammar.specs.Faults.{token_faults, tree_faults, faults_from}
use Rattle.statement_text.specs.StatementTexts.{statement_text}
use Rattle.statement_round_trip.specs.RoundTrip.{IsSayable}
use Rattle.statement_round_trip.proofs.PlacedLemmas.{empty}
use Rattle.statement_round_trip.proofs.RoundTripLemmas.{written_is_read}
use Rattle.statement_fit_laws.specs.ReadFits.{ReadIsSayable, ReadAgain, SayableHasText}
use Rattle.statement_fit_laws.proofs.PrintLemmas.{AllPrint, front_prints, back_prints, tokens_print}
use Rattle.statement_fit_laws.proofs.GoodLemmas.{Good}
use Rattle.statement_fit_laws.proofs.EndFitLemmas.{delete_ends, update_ends}
use Rattle.statement_fit_laws.proofs.StepFitLemmas.{step_good}
use Rattle.statement_fit_laws.proofs.TreeFitLemmas.{tree_good}

pieces_good : (schemas : List Schema) (key : Keys) (spot end : Spot) (d : Draft) (pieces : List Piece) → Follows key spot pieces end → faults_from schemas spot d pieces None ≡ [] → AllPrint (pieces_tokens pieces)
    → Good schemas key (first_name (pieces_tokens pieces)) spot d → Good schemas key [] end (drafted schemas spot d pieces)
pieces_good schemas key spot end d [] f e p g = subst (λ (s : Spot). Good schemas key [] s d) f g
pieces_good schemas key spot end d (One t ∷ pieces) f e p g =
    let q = empty (token_faults schemas spot d t.word t.place) (faults_from schemas (spot_or spot (one spot t.word)) (with_token schemas spot d t.word t.place) pieces None) e in
    subst (λ (o : Option Spot). Good schemas key [] end (drafted schemas (spot_or spot o) (with_token schemas spot d t.word t.place) pieces)) (sym f.1)
    (pieces_good schemas key f.0 end (with_token schemas spot d t.word t.place) pieces f.2 (ap (λ (o : Option Spot). faults_from schemas (spot_or spot o) (with_token schemas spot d t.word t.place) pieces None) (sym f.1) ∙ q.1) p.1
    (step_good schemas key (first_name (pieces_tokens pieces)) spot d t.word t.place f.0 f.1 q.0 p.0 g))
pieces_good schemas key spot end d (Tree s ∷ pieces) f e p g =
    let q = empty (tree_faults d.schema spot d s (length (tokens_of s))) (faults_from schemas (tree_next spot (tree_at spot)) (with_tree d.schema spot d s) pieces None) e in
    subst (λ (o : Option (Bool × Spot)). Good schemas key [] end (drafted schemas (tree_next spot o) (with_tree d.schema spot d s) pieces)) (sym f.2)
    (pieces_good schemas key f.1 end (with_tree d.schema spot d s) pieces f.4 (ap (λ (o : Option (Bool × Spot)). faults_from schemas (tree_next spot o) (with_tree d.schema spot d s) pieces None) (sym f.2) ∙ q.1) (back_prints (tokens_of s) (pieces_tokens pieces) p)
    (tree_good schemas key (first_name (tokens_of s ++ pieces_tokens pieces)) (first_name (pieces_tokens pieces)) spot d f.0 f.1 s f.2 f.3 q.0 (front_prints (tokens_of s) (pieces_tokens pieces) p) g))

ends_good : (schemas : List Schema) (key : Keys) (end : Spot) (d : Draft) → may_end end ≡ true → Good schemas key [] end d → IsSayable schemas (said_as d.form d)
ends_good schemas key WhereDue d e g = delete_ends schemas key d g.0 g.1
ends_good schemas key CondEnds d e g = g
ends_good schemas key SetEnds d e g = update_ends schemas key d g.0 g.1
ends_good schemas key EndDue d e g = g
ends_good schemas key NothingDue d e g = g
ends_good schemas key _ d e g = cc

pub read_is_sayable : ReadIsSayable
read_is_sayable schemas text statement is =
    subst (IsSayable schemas) (sym is.is.is)
    (ends_good schemas (keys_in schemas is.tokens) is.is.whole.end (drafted schemas StatementDue nothing_known is.is.whole.pieces) is.is.whole.ends
    (pieces_good schemas (keys_in schemas is.tokens) StatementDue is.is.whole.end nothing_known is.is.whole.pieces is.is.whole.follows is.is.right
    (subst AllPrint (sym is.is.whole.spelled) (tokens_print [] 1 text is.tokens is.end is.are))
    (ap (λ (ts : List Token). keys_in schemas ts) (sym is.is.whole.spelled), record { where_true = refl; sets = refl })))

pub read_again : ReadAgain
read_again schemas text statement names is = written_is_read schemas statement names (read_is_sayable schemas text statement is)

pub sayable_has_text : SayableHasText
sayable_has_text schemas statement names =
    (λ sayable. (statement_text schemas statement, written_is_read schemas statement names sayable), λ has. read_is_sayable schemas has.0 statement has.1)
