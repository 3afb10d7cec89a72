-- Where a statement's table is named.
use Rattle.std.proofs.Common.{◌≡◌, ℕ, Bool, true, false, List, Option, Some, None, refl, subst}
use Rattle.std.specs.Prelude.{⊤}
use Rattle.ptc_statement.specs.declared.expressions.Op.TheVariants as op
use Rattle.statement_tokens.specs.declared.words.Math.TheVariants.{Minus, Times}
use Rattle.statement_tokens.specs.declared.words.Keyword.TheVariants as k
use Rattle.statement_tokens.specs.declared.words.Word.{Word}
use Rattle.statement_tokens.specs.declared.words.Word.TheVariants as w
use Rattle.statement_grammar.specs.Sentence as g
use Rattle.statement_grammar.specs.Sentence.{Spot, Literals, End, OnChunk, one, when_so, is_chunk, is_count, is_crc, behind_literals, behind_edge, behind_chunk}
use Rattle.statement_piece_laws.specs.Names.{before_table, LeadsToTable, LeadsBehind, NamesNone, NamesTable, StaysBehind}

some_is : {A : Type 0} (x y : A) → Some x ≡ Some y → x ≡ y
some_is x y e = cc

leads : (word : Word) (spot next : Spot) → LeadsToTable word spot → Some spot ≡ Some next → LeadsToTable word next
leads word spot next h e = subst (LeadsToTable word) (some_is spot next e) h

pub names_none : NamesNone
names_none g.StatementDue next (w.Keyword k.Insert) a b e = leads (w.Keyword k.Insert) g.IntoDue next (record { before = refl; no_name = λ later. refl }) e
names_none g.StatementDue next (w.Keyword k.Replace) a b e = leads (w.Keyword k.Replace) g.IntoDue next (record { before = refl; no_name = λ later. refl }) e
names_none g.StatementDue next (w.Keyword k.Delete) a b e = leads (w.Keyword k.Delete) g.FromDue next (record { before = refl; no_name = λ later. refl }) e
names_none g.StatementDue next (w.Keyword k.Update) a b e = leads (w.Keyword k.Update) g.UpdateTable next (record { before = refl; no_name = λ later. refl }) e
names_none g.StatementDue next (w.Keyword k.Select) a b e = leads (w.Keyword k.Select) g.StarDue next (record { before = refl; no_name = λ later. refl }) e
names_none g.StatementDue next (w.Keyword k.Checksum) a b e = leads (w.Keyword k.Checksum) (g.ChunkTable g.Checks) next (record { before = refl; no_name = λ later. refl }) e
names_none g.StatementDue next (w.Keyword k.SetMaster) a b e = leads (w.Keyword k.SetMaster) (g.ChunkTable g.SetsMaster) next (record { before = refl; no_name = λ later. refl }) e
names_none g.StatementDue next (w.Keyword k.ClearChecks) a b e = leads (w.Keyword k.ClearChecks) g.ClearTable next (record { before = refl; no_name = λ later. refl }) e
names_none g.IntoDue next (w.Keyword k.Into) a b e = leads (w.Keyword k.Into) g.IntoTable next (record { before = refl; no_name = λ later. refl }) e
names_none g.FromDue next (w.Keyword k.From) a b e = leads (w.Keyword k.From) g.DeleteTable next (record { before = refl; no_name = λ later. refl }) e
names_none g.StarDue next (w.Math Times) a b e = leads (w.Math Times) g.SelectFrom next (record { before = refl; no_name = λ later. refl }) e
names_none g.SelectFrom next (w.Keyword k.From) a b e = leads (w.Keyword k.From) g.SelectTable next (record { before = refl; no_name = λ later. refl }) e
names_none g.StatementDue next _ a b e = cc
names_none g.IntoDue next _ a b e = cc
names_none g.FromDue next _ a b e = cc
names_none g.StarDue next _ a b e = cc
names_none g.SelectFrom next _ a b e = cc
names_none (g.ChunkTable tool) next word a b e = cc
names_none g.ClearTable next word a b e = cc
names_none g.DeleteTable next word a b e = cc
names_none g.IntoTable next word a b e = cc
names_none g.SelectTable next word a b e = cc
names_none g.UpdateTable next word a b e = cc
names_none _ next word a b e = cc

behind_so : (word : Word) (name : List ℕ) (spot next : Spot) → before_table spot ≡ false → word ≡ w.Name name → Some spot ≡ Some next → LeadsBehind word next
behind_so word name spot next h i e = subst (LeadsBehind word) (some_is spot next e) (record { behind = h; name = name; is = i })

pub names_table : NamesTable
names_table g.IntoTable next (w.Name n) a e = behind_so (w.Name n) n g.ValuesDue next refl refl e
names_table g.DeleteTable next (w.Name n) a e = behind_so (w.Name n) n g.WhereDue next refl refl e
names_table g.UpdateTable next (w.Name n) a e = behind_so (w.Name n) n g.SetDue next refl refl e
names_table g.SelectTable next (w.Name n) a e = behind_so (w.Name n) n g.SelectWhere next refl refl e
names_table (g.ChunkTable tool) next (w.Name n) a e = behind_so (w.Name n) n (g.ChunkDue tool) next refl refl e
names_table g.ClearTable next (w.Name n) a e = behind_so (w.Name n) n g.EndDue next refl refl e
names_table g.IntoTable next _ a e = cc
names_table g.DeleteTable next _ a e = cc
names_table g.UpdateTable next _ a e = cc
names_table g.SelectTable next _ a e = cc
names_table (g.ChunkTable tool) next _ a e = cc
names_table g.ClearTable next _ a e = cc
names_table _ next word a e = cc

abbrev IsBehind : Option Spot → Type 0
IsBehind None = ⊤
IsBehind (Some next) = before_table next ≡ false

when_behind : (b : Bool) (spot : Spot) → before_table spot ≡ false → IsBehind (when_so b spot)
when_behind true spot h = h
when_behind false spot h = tt

edges_behind : (end : End) → before_table (behind_edge end) ≡ false
edges_behind g.Lower = refl
edges_behind g.Upper = refl

lists_behind : (of : Literals) → before_table (behind_literals of) ≡ false
lists_behind g.OfRow = refl
lists_behind (g.OfEdge end) = edges_behind end

chunks_behind : (tool : OnChunk) → before_table (behind_chunk tool) ≡ false
chunks_behind g.Checks = refl
chunks_behind g.SetsMaster = refl

behind : (spot : Spot) (word : Word) → before_table spot ≡ false → IsBehind (one spot word)
behind g.IntoDue word a = cc
behind g.DeleteTable word a = cc
behind g.StarDue word a = cc
behind g.StatementDue word a = cc
behind g.ClearTable word a = cc
behind g.SelectTable word a = cc
behind g.FromDue word a = cc
behind g.UpdateTable word a = cc
behind g.SelectFrom word a = cc
behind g.IntoTable word a = cc
behind (g.ChunkTable tool) word a = cc
behind g.ValuesDue (w.Keyword k.Values) a = refl
behind g.ValuesDue _ a = tt
behind (g.OpenDue of) w.Open a = refl
behind (g.OpenDue of) _ a = tt
behind (g.LiteralDue of) (w.Number n) a = refl
behind (g.LiteralDue of) (w.Text t) a = refl
behind (g.LiteralDue of) w.Null a = refl
behind (g.LiteralDue of) (w.Math Minus) a = refl
behind (g.LiteralDue of) _ a = tt
behind (g.LiteralEnds of) w.Comma a = refl
behind (g.LiteralEnds of) w.Close a = lists_behind of
behind (g.LiteralEnds of) _ a = tt
behind (g.DigitsDue of) (w.Number n) a = refl
behind (g.DigitsDue of) _ a = tt
behind g.WhereDue (w.Keyword k.Where) a = refl
behind g.WhereDue w.Semicolon a = refl
behind g.WhereDue _ a = tt
behind g.CondDue _ a = tt
behind g.CondEnds w.Semicolon a = refl
behind g.CondEnds _ a = tt
behind g.SetDue (w.Keyword k.Set) a = refl
behind g.SetDue _ a = tt
behind g.ColumnDue (w.Name n) a = refl
behind g.ColumnDue _ a = tt
behind g.EqualsDue (w.Compare op.Eq) a = refl
behind g.EqualsDue _ a = tt
behind g.ExprDue _ a = tt
behind g.SetEnds w.Comma a = refl
behind g.SetEnds (w.Keyword k.Where) a = refl
behind g.SetEnds w.Semicolon a = refl
behind g.SetEnds _ a = tt
behind g.SelectWhere (w.Keyword k.Where) a = refl
behind g.SelectWhere (w.Keyword k.For) a = refl
behind g.SelectWhere (w.Keyword k.Lock) a = refl
behind g.SelectWhere _ a = tt
behind g.SelectCond _ a = tt
behind g.LockDue (w.Keyword k.For) a = refl
behind g.LockDue (w.Keyword k.Lock) a = refl
behind g.LockDue _ a = tt
behind g.ForDue (w.Keyword k.Update) a = refl
behind g.ForDue (w.Keyword k.Share) a = refl
behind g.ForDue _ a = tt
behind g.InDue (w.Keyword k.In) a = refl
behind g.InDue _ a = tt
behind g.ShareDue (w.Keyword k.Share) a = refl
behind g.ShareDue _ a = tt
behind g.ModeDue (w.Keyword k.Mode) a = refl
behind g.ModeDue _ a = tt
behind (g.ChunkDue tool) (w.Keyword k.Chunk) a = refl
behind (g.ChunkDue tool) _ a = tt
behind (g.ChunkNumber tool) (w.Number n) a = when_behind (is_chunk n) (behind_chunk tool) (chunks_behind tool)
behind (g.ChunkNumber tool) _ a = tt
behind g.EdgeFrom (w.Keyword k.From) a = refl
behind g.EdgeFrom _ a = tt
behind (g.EdgeDue end) (w.Keyword k.Low) a = edges_behind end
behind (g.EdgeDue end) (w.Keyword k.High) a = edges_behind end
behind (g.EdgeDue end) (w.Keyword k.Before) a = refl
behind (g.EdgeDue end) (w.Keyword k.After) a = refl
behind (g.EdgeDue end) _ a = tt
behind g.EdgeTo (w.Keyword k.To) a = refl
behind g.EdgeTo _ a = tt
behind g.UsingDue (w.Keyword k.Using) a = refl
behind g.UsingDue _ a = tt
behind g.KindDue (w.Keyword k.Md5) a = refl
behind g.KindDue (w.Keyword k.Sha1) a = refl
behind g.KindDue _ a = tt
behind g.CountDue (w.Keyword k.Cnt) a = refl
behind g.CountDue _ a = tt
behind g.CountNumber (w.Number n) a = when_behind (is_count n) g.CrcDue refl
behind g.CountNumber _ a = tt
behind g.CrcDue (w.Keyword k.Crc) a = refl
behind g.CrcDue _ a = tt
behind g.CrcText (w.Text t) a = when_behind (is_crc t) g.EndDue refl
behind g.CrcText _ a = tt
behind g.EndDue w.Semicolon a = refl
behind g.EndDue _ a = tt
behind g.NothingDue _ a = tt

pub stays_behind : StaysBehind
stays_behind spot next word a e = subst IsBehind e (behind spot word a)
