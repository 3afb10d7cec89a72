-- The workload that the state of all lines gives, and what is answered for a file.
use Rattle.std.proofs.Common.{◌≡◌, ◌⊎◌, ◌<◌, ◌+◌, ◌^◌, ℕ, suc, List, [], ◌∷◌, map, length, Result, Ok, Err, sym, ap, subst, ◌∙◌, arith, inl, inr}
use Rattle.std.specs.Prelude.{replicate, IfOk, IfErr}
use Rattle.row_types.specs.KeyRows.{Rows}
use Rattle.ptc_statement.specs.declared.scripts.Script.{Script}
use Rattle.file_text.specs.declared.faults.FileFault.{FileFault}
use Rattle.file_text.specs.declared.faults.FileFault.TheVariants.{Memory}
use Rattle.file_text.specs.Said.{Said}
use Rattle.file_text.specs.Context.{replicas_of}
use Rattle.file_text.specs.File.{Contents, IsFirstFault, contents_of, tables_of_node, nodes_from, locals_from}
use Rattle.file_laws.proofs.CauseLemmas.{one_file, one_fault, never_both}
use Rattle.file_laws.proofs.FitLemmas.{head_of, tail_of}
use Rattle.file_scripts.specs.Scripts.{sessions_of, locals_of}
use Rattle.file_scripts.proofs.ScriptLemmas.{sessions_told, locals_told}
use Rattle.file_state.specs.declared.states.FileState.{FileState}
use Rattle.file_state.specs.Keeps.{Keeps, IsKept}
use Rattle.workload.specs.declared.schedule.Item.{Item}
use Rattle.workload.specs.declared.workloads.Workload.{Workload}
use Rattle.workload.specs.Gives.{Gives, IsWorkload}
use Rattle.file_reader.specs.Reads.{IsRead as IsReadState}
use Rattle.workload_reader.specs.Nodes.{with_tables, tables_by_node}
use Rattle.workload_reader.specs.Reads.{IsRead, IsOnly, IsExactly}
use Rattle.workload_reader.proofs.NodeLemmas.{map_same, nodes_are}

-- the tables by node are those of the lines
nodes_of : (said : List Said) (state : FileState) → Keeps state said
    → with_tables (replicate (state.marks.replicas + 1) []) (tables_by_node state.rows.tables.items) ≡ tables_of_node said 0 ∷ map (tables_of_node said) (nodes_from 1 (replicas_of said))
nodes_of said state k = nodes_are said state.rows.tables.items (state.marks.replicas + 1) k.rows (let r = k.marked.replicas in omega (arith, r))

-- there is a source
pub some_node : (state : FileState) (nodes : List (List Rows)) → IsKept state → nodes ≡ with_tables (replicate (state.marks.replicas + 1) []) (tables_by_node state.rows.tables.items) → 0 < length nodes
some_node state nodes k e = let n : length nodes ≡ suc (length (map (tables_of_node k.before) (nodes_from 1 (replicas_of k.before)))) = ap length (e ∙ nodes_of k.before state k.keeps) in omega (arith, n)

pub replicas_fit : (state : FileState) → IsKept state → state.marks.replicas + 1 < 2 ^ 32
replicas_fit state k = let r = k.keeps.marked.replicas in let f = k.keeps.few_replicas in omega (arith, r, f)

pub given : (state : FileState) (nodes copies : List (List Rows)) (source : List Rows) (sessions : List Script) (locals : List (List Script)) (schedule : List Item)
    → nodes ≡ with_tables (replicate (state.marks.replicas + 1) []) (tables_by_node state.rows.tables.items) → nodes ≡ source ∷ copies
    → sessions ≡ sessions_of state.scripts → locals ≡ map (λ (replica : ℕ). locals_of replica state.scripts) (nodes_from 1 state.marks.replicas)
    → schedule ≡ state.schedule → (said : List Said) → Keeps state said
    → Gives (contents_of said) (record { schemas = state.schemas; replicas = state.marks.replicas; source = source; copies = copies; sessions = sessions; locals = locals; schedule = schedule })
given state nodes copies source sessions locals schedule n p s l w said k = record {
  schemas = k.schemas;
  replicas = k.marked.replicas;
  source = head_of source (tables_of_node said 0) copies (map (tables_of_node said) (nodes_from 1 (replicas_of said))) both;
  copies = tail_of source (tables_of_node said 0) copies (map (tables_of_node said) (nodes_from 1 (replicas_of said))) both;
  sessions = s ∙ sessions_told state.scripts said k.scripts;
  locals =
      l
      ∙ ap (λ (count : ℕ). map (λ (replica : ℕ). locals_of replica state.scripts) (nodes_from 1 count)) k.marked.replicas
      ∙ map_same (λ (replica : ℕ). locals_of replica state.scripts) (λ (replica : ℕ). locals_from replica 1 said) (nodes_from 1 (replicas_of said)) (λ replica. locals_told state.scripts said replica k.scripts);
  schedule = w ∙ k.schedule;
}
  where
    both : source ∷ copies ≡ tables_of_node said 0 ∷ map (tables_of_node said) (nodes_from 1 (replicas_of said))
    both = sym p ∙ n ∙ nodes_of said state k

-- ---- what is answered

pub kept_of : (bytes : List ℕ) (state : FileState) → IsReadState bytes state → IsKept state
kept_of bytes state r = record { before = r.said; keeps = r.keeps }

pub found : (bytes : List ℕ) (state : FileState) (workload : Workload) → IsReadState bytes state → ((said : List Said) → Keeps state said → Gives (contents_of said) workload) → IsWorkload bytes workload
found bytes state workload r g = record { contents = contents_of r.said; file = r.file; gives = g r.said r.keeps }

one_workload : (contents : Contents) (a b : Workload) → Gives contents a → Gives contents b → a ≡ b
one_workload contents a b g h = λ i. record {
  schemas = record { tables = (g.schemas ∙ sym h.schemas) i };
  replicas = (g.replicas ∙ sym h.replicas) i;
  source = (g.source ∙ sym h.source) i;
  copies = (g.copies ∙ sym h.copies) i;
  sessions = (g.sessions ∙ sym h.sessions) i;
  locals = (g.locals ∙ sym h.locals) i;
  schedule = (g.schedule ∙ sym h.schedule) i;
}

only_one : (bytes : List ℕ) (a b : Workload) → IsWorkload bytes a → IsWorkload bytes b → a ≡ b
only_one bytes a b g h = one_workload g.contents a b g.gives (subst (λ (c : Contents). Gives c b) (one_file bytes h.contents g.contents h.file g.file) h.gives)

pub is_found : (bytes : List ℕ) (result : Result Workload FileFault) → IsRead bytes result → IfOk result (IsWorkload bytes)
is_found bytes (Ok workload) r = r
is_found bytes (Err fault) r = tt

pub is_refused : (bytes : List ℕ) (result : Result Workload FileFault) → IsRead bytes result → IfErr result (λ fault. (fault ≡ Memory) ⊎ IsFirstFault bytes fault)
is_refused bytes (Ok workload) r = tt
is_refused bytes (Err fault) r = r

pub is_only : (bytes : List ℕ) (result : Result Workload FileFault) → IsRead bytes result → (workload : Workload) → IsWorkload bytes workload → IsOnly workload result
is_only bytes (Ok other) r workload w = only_one bytes other workload r w
is_only bytes (Err fault) (inl e) workload w = e
is_only bytes (Err fault) (inr r) workload w = absurd (never_both bytes fault w.contents r w.file)

pub is_exactly : (bytes : List ℕ) (result : Result Workload FileFault) → IsRead bytes result → (fault : FileFault) → IsFirstFault bytes fault → IsExactly fault result
is_exactly bytes (Ok workload) r fault f = never_both bytes fault r.contents f r.file
is_exactly bytes (Err other) (inl e) fault f = inl e
is_exactly bytes (Err other) (inr r) fault f = inr (one_fault bytes other fault r f)
