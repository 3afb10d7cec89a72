-- What one piece more adds.
use Rattle.std.proofs.Common.{◌≡◌, ℕ, List, [], ◌∷◌, ◌++◌, Option, Some, None, refl, sym, ap, ◌∙◌, true, append_assoc, append-nil, length}
use Rattle.row_types.specs.declared.table_schema.Schema.{Schema}
use Rattle.statement_tokens.specs.declared.words.Keyword.TheVariants as k
use Rattle.statement_tokens.specs.declared.words.Word.{Word}
use Rattle.statement_tokens.specs.declared.words.Word.TheVariants as w
use Rattle.statement_grammar.specs.Grammar.{Shape, tokens_of}
use Rattle.statement_grammar.specs.Cut.{Part, cut}
use Rattle.statement_grammar.specs.Sentence as g
use Rattle.statement_grammar.specs.Sentence.{Piece, One, Tree, Spot, StatementDue, Keys, Follows, End, Literals, tree_at, one}
use Rattle.statement_grammar.specs.Draft.{Draft, nothing_known, with_token, with_table, with_literal, with_list, with_edge_word, with_tree, drafted, spot_or, tree_next, table_in}
use Rattle.statement_grammar.specs.Faults.{token_faults, behind_table, known_faults, tree_faults, part_faults, deep_in, faults_from}
use Rattle.statement_grammar.specs.FirstFault.{first_of}
use Rattle.statement_grammar.specs.declared.text_faults.TextFault.{TextFault}
use Rattle.statement_faults.specs.TreeFaults.{merged}
use Rattle.statement_faults.proofs.MergeLemmas.{first_of_both}
use Rattle.statement_piece_laws.specs.Pieces.{bare, known, AddsPiece, AddsToken, AddsTree, HasOpenTree, KeepsBare, KeepsBareTree, KeepsFaults, KeepsTreeFaults}

drafted_more : (key : Keys) (schemas : List Schema) (a b : Spot) (draft : Draft) (ps qs : List Piece) → Follows key a ps b → drafted schemas a draft (ps ++ qs) ≡ drafted schemas b (drafted schemas a draft ps) qs
drafted_more key schemas a b draft [] qs f = ap (λ (s : Spot). drafted schemas s draft qs) f
drafted_more key schemas a b draft (One t ∷ ps) qs f =
    let e : spot_or a (one a t.word) ≡ f.0 = ap (spot_or a) f.1 in
    ap (λ (s : Spot). drafted schemas s (with_token schemas a draft t.word t.place) (ps ++ qs)) e
    ∙ drafted_more key schemas f.0 b (with_token schemas a draft t.word t.place) ps qs f.2
    ∙ ap (λ (s : Spot). drafted schemas b (drafted schemas s (with_token schemas a draft t.word t.place) ps) qs) (sym e)
drafted_more key schemas a b draft (Tree x ∷ ps) qs f =
    let e : tree_next a (tree_at a) ≡ f.1 = ap (tree_next a) f.2 in
    ap (λ (s : Spot). drafted schemas s (with_tree draft.schema a draft x) (ps ++ qs)) e
    ∙ drafted_more key schemas f.1 b (with_tree draft.schema a draft x) ps qs f.4
    ∙ ap (λ (s : Spot). drafted schemas b (drafted schemas s (with_tree draft.schema a draft x) ps) qs) (sym e)

faults_more : (key : Keys) (schemas : List Schema) (a b : Spot) (draft : Draft) (ps qs : List Piece) (tree : Option (Shape × ℕ)) → Follows key a ps b
    → faults_from schemas a draft (ps ++ qs) tree ≡ faults_from schemas a draft ps None ++ faults_from schemas b (drafted schemas a draft ps) qs tree
faults_more key schemas a b draft [] qs tree f = ap (λ (s : Spot). faults_from schemas s draft qs tree) f
faults_more key schemas a b draft (One t ∷ ps) qs tree f =
    let e : spot_or a (one a t.word) ≡ f.0 = ap (spot_or a) f.1 in
    ap (λ (fs : List TextFault). token_faults schemas a draft t.word t.place ++ fs)
    (ap (λ (s : Spot). faults_from schemas s (with_token schemas a draft t.word t.place) (ps ++ qs) tree) e
    ∙ faults_more key schemas f.0 b (with_token schemas a draft t.word t.place) ps qs tree f.2
    ∙ ap (λ (s : Spot). faults_from schemas s (with_token schemas a draft t.word t.place) ps None ++ faults_from schemas b (drafted schemas s (with_token schemas a draft t.word t.place) ps) qs tree) (sym e))
    ∙ sym (append_assoc (token_faults schemas a draft t.word t.place) (faults_from schemas (spot_or a (one a t.word)) (with_token schemas a draft t.word t.place) ps None) _)
faults_more key schemas a b draft (Tree x ∷ ps) qs tree f =
    let e : tree_next a (tree_at a) ≡ f.1 = ap (tree_next a) f.2 in
    ap (λ (fs : List TextFault). tree_faults draft.schema a draft x (length (tokens_of x)) ++ fs)
    (ap (λ (s : Spot). faults_from schemas s (with_tree draft.schema a draft x) (ps ++ qs) tree) e
    ∙ faults_more key schemas f.1 b (with_tree draft.schema a draft x) ps qs tree f.4
    ∙ ap (λ (s : Spot). faults_from schemas s (with_tree draft.schema a draft x) ps None ++ faults_from schemas b (drafted schemas s (with_tree draft.schema a draft x) ps) qs tree) (sym e))
    ∙ sym (append_assoc (tree_faults draft.schema a draft x (length (tokens_of x))) (faults_from schemas (tree_next a (tree_at a)) (with_tree draft.schema a draft x) ps None) _)

pub adds_piece : AddsPiece
adds_piece key schemas pieces more spot f = drafted_more key schemas StatementDue spot nothing_known pieces more f

abbrev from_start : List Schema → List Piece → Option (Shape × ℕ) → List TextFault
from_start schemas pieces tree = faults_from schemas StatementDue nothing_known pieces tree

first_more : (key : Keys) (schemas : List Schema) (spot : Spot) (ps qs : List Piece) (tree : Option (Shape × ℕ)) → Follows key StatementDue ps spot
    → first_of (from_start schemas (ps ++ qs) tree) ≡ merged (first_of (from_start schemas ps None)) (first_of (faults_from schemas spot (known schemas ps) qs tree))
first_more key schemas spot ps qs tree f =
    ap first_of (faults_more key schemas StatementDue spot nothing_known ps qs tree f) ∙ first_of_both (from_start schemas ps None) (faults_from schemas spot (known schemas ps) qs tree)

pub adds_token : AddsToken
adds_token key schemas pieces spot t f =
    first_more key schemas spot pieces (One t ∷ []) None f
    ∙ ap (λ (fs : List TextFault). merged (first_of (from_start schemas pieces None)) (first_of fs)) (append-nil (token_faults schemas spot (known schemas pieces) t.word t.place))

pub adds_tree : AddsTree
adds_tree key schemas pieces spot x f =
    first_more key schemas spot pieces (Tree x ∷ []) None f
    ∙ ap (λ (fs : List TextFault). merged (first_of (from_start schemas pieces None)) (first_of fs)) (append-nil (tree_faults (known schemas pieces).schema spot (known schemas pieces) x (length (tokens_of x))))

pub has_open_tree : HasOpenTree
has_open_tree key schemas pieces spot x n f =
    ap (λ (ps : List Piece). first_of (from_start schemas ps (Some (x, n)))) (sym (append-nil pieces)) ∙ first_more key schemas spot pieces [] (Some (x, n)) f

-- ---- what does not rest on expressions and conditions

table_bare : (draft : Draft) (found : Option (ℕ × Schema)) → bare (with_table draft found) ≡ with_table (bare draft) found
table_bare draft None = refl
table_bare draft (Some found) = refl

literal_bare : (of : Literals) (draft : Draft) (word : Word) (place : ℕ) → bare (with_literal of draft word place) ≡ with_literal of (bare draft) word place
literal_bare of draft (w.Math o) place = refl
literal_bare of draft _ place = refl

list_bare : (of : Literals) (draft : Draft) (word : Word) → bare (with_list of draft word) ≡ with_list of (bare draft) word
list_bare g.OfRow draft word = refl
list_bare (g.OfEdge g.Lower) draft w.Close = refl
list_bare (g.OfEdge g.Upper) draft w.Close = refl
list_bare (g.OfEdge end) draft _ = refl

edge_bare : (end : End) (draft : Draft) (word : Word) → bare (with_edge_word end draft word) ≡ with_edge_word end (bare draft) word
edge_bare g.Lower draft (w.Keyword k.Low) = refl
edge_bare g.Upper draft (w.Keyword k.Low) = refl
edge_bare g.Lower draft (w.Keyword k.High) = refl
edge_bare g.Upper draft (w.Keyword k.High) = refl
edge_bare end draft (w.Keyword k.Before) = refl
edge_bare end draft (w.Keyword k.After) = refl
edge_bare end draft _ = refl

pub keeps_bare : KeepsBare
keeps_bare schemas g.IntoTable draft word place = table_bare draft (table_in schemas word)
keeps_bare schemas g.DeleteTable draft word place = table_bare draft (table_in schemas word)
keeps_bare schemas g.UpdateTable draft word place = table_bare draft (table_in schemas word)
keeps_bare schemas g.SelectTable draft word place = table_bare draft (table_in schemas word)
keeps_bare schemas (g.ChunkTable tool) draft word place = table_bare draft (table_in schemas word)
keeps_bare schemas g.ClearTable draft word place = table_bare draft (table_in schemas word)
keeps_bare schemas (g.LiteralDue of) draft word place = literal_bare of draft word place
keeps_bare schemas (g.LiteralEnds of) draft word place = list_bare of draft word
keeps_bare schemas (g.EdgeDue end) draft word place = edge_bare end draft word
keeps_bare schemas _ draft word place = refl

pub keeps_bare_tree : KeepsBareTree
keeps_bare_tree None spot draft x = refl
keeps_bare_tree (Some schema) g.ExprDue draft x = refl
keeps_bare_tree (Some schema) _ draft x = refl

known_bare : (schema : Schema) (spot : Spot) (draft : Draft) (word : Word) (place : ℕ) → known_faults schema spot (bare draft) word place ≡ known_faults schema spot draft word place
known_bare schema (g.LiteralDue of) draft word place = refl
known_bare schema (g.DigitsDue of) draft word place = refl
known_bare schema (g.LiteralEnds of) draft word place = refl
known_bare schema g.ColumnDue draft word place = refl
known_bare schema _ draft word place = refl

behind_bare : (schema : Option Schema) (spot : Spot) (draft : Draft) (word : Word) (place : ℕ) → behind_table schema spot (bare draft) word place ≡ behind_table schema spot draft word place
behind_bare None spot draft word place = refl
behind_bare (Some schema) spot draft word place = known_bare schema spot draft word place

pub keeps_faults : KeepsFaults
keeps_faults schemas g.IntoTable draft word place = refl
keeps_faults schemas g.DeleteTable draft word place = refl
keeps_faults schemas g.UpdateTable draft word place = refl
keeps_faults schemas g.SelectTable draft word place = refl
keeps_faults schemas (g.ChunkTable tool) draft word place = refl
keeps_faults schemas g.ClearTable draft word place = refl
keeps_faults schemas g.StatementDue draft word place = behind_bare draft.schema g.StatementDue draft word place
keeps_faults schemas g.IntoDue draft word place = behind_bare draft.schema g.IntoDue draft word place
keeps_faults schemas g.ValuesDue draft word place = behind_bare draft.schema g.ValuesDue draft word place
keeps_faults schemas (g.OpenDue of) draft word place = behind_bare draft.schema (g.OpenDue of) draft word place
keeps_faults schemas (g.LiteralDue of) draft word place = behind_bare draft.schema (g.LiteralDue of) draft word place
keeps_faults schemas (g.LiteralEnds of) draft word place = behind_bare draft.schema (g.LiteralEnds of) draft word place
keeps_faults schemas (g.DigitsDue of) draft word place = behind_bare draft.schema (g.DigitsDue of) draft word place
keeps_faults schemas g.FromDue draft word place = behind_bare draft.schema g.FromDue draft word place
keeps_faults schemas g.WhereDue draft word place = behind_bare draft.schema g.WhereDue draft word place
keeps_faults schemas g.CondDue draft word place = behind_bare draft.schema g.CondDue draft word place
keeps_faults schemas g.CondEnds draft word place = behind_bare draft.schema g.CondEnds draft word place
keeps_faults schemas g.SetDue draft word place = behind_bare draft.schema g.SetDue draft word place
keeps_faults schemas g.ColumnDue draft word place = behind_bare draft.schema g.ColumnDue draft word place
keeps_faults schemas g.EqualsDue draft word place = behind_bare draft.schema g.EqualsDue draft word place
keeps_faults schemas g.ExprDue draft word place = behind_bare draft.schema g.ExprDue draft word place
keeps_faults schemas g.SetEnds draft word place = behind_bare draft.schema g.SetEnds draft word place
keeps_faults schemas g.StarDue draft word place = behind_bare draft.schema g.StarDue draft word place
keeps_faults schemas g.SelectFrom draft word place = behind_bare draft.schema g.SelectFrom draft word place
keeps_faults schemas g.SelectWhere draft word place = behind_bare draft.schema g.SelectWhere draft word place
keeps_faults schemas g.SelectCond draft word place = behind_bare draft.schema g.SelectCond draft word place
keeps_faults schemas g.LockDue draft word place = behind_bare draft.schema g.LockDue draft word place
keeps_faults schemas g.ForDue draft word place = behind_bare draft.schema g.ForDue draft word place
keeps_faults schemas g.InDue draft word place = behind_bare draft.schema g.InDue draft word place
keeps_faults schemas g.ShareDue draft word place = behind_bare draft.schema g.ShareDue draft word place
keeps_faults schemas g.ModeDue draft word place = behind_bare draft.schema g.ModeDue draft word place
keeps_faults schemas (g.ChunkDue tool) draft word place = behind_bare draft.schema (g.ChunkDue tool) draft word place
keeps_faults schemas (g.ChunkNumber tool) draft word place = behind_bare draft.schema (g.ChunkNumber tool) draft word place
keeps_faults schemas g.EdgeFrom draft word place = behind_bare draft.schema g.EdgeFrom draft word place
keeps_faults schemas (g.EdgeDue end) draft word place = behind_bare draft.schema (g.EdgeDue end) draft word place
keeps_faults schemas g.EdgeTo draft word place = behind_bare draft.schema g.EdgeTo draft word place
keeps_faults schemas g.UsingDue draft word place = behind_bare draft.schema g.UsingDue draft word place
keeps_faults schemas g.KindDue draft word place = behind_bare draft.schema g.KindDue draft word place
keeps_faults schemas g.CountDue draft word place = behind_bare draft.schema g.CountDue draft word place
keeps_faults schemas g.CountNumber draft word place = behind_bare draft.schema g.CountNumber draft word place
keeps_faults schemas g.CrcDue draft word place = behind_bare draft.schema g.CrcDue draft word place
keeps_faults schemas g.CrcText draft word place = behind_bare draft.schema g.CrcText draft word place
keeps_faults schemas g.EndDue draft word place = behind_bare draft.schema g.EndDue draft word place
keeps_faults schemas g.NothingDue draft word place = behind_bare draft.schema g.NothingDue draft word place

part_bare : (schema : Option Schema) (spot : Spot) (draft : Draft) (x : Part) (deep : List ℕ) → part_faults schema spot (bare draft) x deep ≡ part_faults schema spot draft x deep
part_bare None spot draft x deep = refl
part_bare (Some schema) g.ExprDue draft x deep = refl
part_bare (Some schema) _ draft x deep = refl

pub keeps_tree_faults : KeepsTreeFaults
keeps_tree_faults schema spot draft x n = part_bare schema spot draft (cut true n x) (deep_in x n)
