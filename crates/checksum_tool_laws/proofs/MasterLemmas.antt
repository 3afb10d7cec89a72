-- The publication of a checksum, and where the tool goes on behind it.
use Rattle.std.proofs.Common.{◌≡◌, ◌≢◌, ◌∙◌, ◌⊎◌, inl, inr, ℕ, suc, ◌+◌, ◌<◌, ◌==◌, Bool, true, false, cond, List, [], ◌∷◌, ◌++◌, Option, Some, length, refl, ap, sym, subst, arith, append-nil, length-append}
use Rattle.std.specs.Prelude.{nat_lt, option_map}
use Rattle.std.proofs.lemmas.Bool.Decides.{nat_tests}
use Rattle.std.specs.declared.cmp.Ordering.TheVariants.{Less}
use Rattle.row_types.specs.declared.edges.Edge.{Edge}
use Rattle.row_types.specs.declared.edges.Edge.TheVariants.{Low, Before, After, High}
use Rattle.row_types.specs.declared.edges.Span.{Span}
use Rattle.row_types.specs.Order.{edge_cmp}
use Rattle.ptc_statement.specs.declared.statements.Statement.TheVariants.{SetMaster}
use Rattle.checksum_table.specs.declared.check_rows.CheckRow.{CheckRow}
use Rattle.checksum_table.specs.declared.check_rows.CheckEntry.{CheckEntry}
use Rattle.checksum_table.specs.Checks.{check_at, with_master, mastered}
use Rattle.checksum_table.proofs.CheckLemmas.{check_at-with_master_same, check_at-with_master_other}
use Rattle.lock_table.proofs.HoldLemmas.{same_or_apart, is_number, other_number}
use Rattle.node_model.specs.Node.{NodeView}
use Rattle.node_model.specs.Calls.{after_call, published, Publish as PublishCall}
use Rattle.checksum_tool.specs.declared.phases.ToolPhase.TheVariants.{Master}
use Rattle.checksum_tool.specs.Tools.{ToolView, is_high, span_of, at_next_chunk, at_next_table, at_end, behind_table, mastered_tool}
use Rattle.checksum_tool.specs.Moves.{next_position, master_move}
use Rattle.checksum_tool_laws.specs.Cover.{Reaches, mastered_in, mastered_at, span_at}
use Rattle.checksum_tool_laws.specs.Deeds.{Deed, Checks as ChecksDeed, Masters as MastersDeed, alone, deeds_in, table_deeds, tables_deeds}
use Rattle.checksum_tool_laws.specs.Told.{checks_of}
use Rattle.checksum_tool_laws.proofs.CoverLemmas.{reaches_more}
use Rattle.checksum_tool_laws.proofs.ListLemmas.{span_last, span_other, deeds_more, table_more, tables_same, append_assoc}
use Rattle.checksum_tool_laws.proofs.HoldLemmas.{Masters, Holds}
use Rattle.checksum_tool_laws.proofs.TurnLemmas.{Good, own_txn, Told, Log, Ground, tool_entry, with_tool, tool_logs, checks_more}

not_high : (edge : Edge) → is_high edge ≡ false → edge_cmp edge High ≡ Less
not_high Low e = refl
not_high (Before key) e = refl
not_high (After key) e = refl
not_high High e = absurd (let q : true ≡ false = e in cc)

high_is : (edge : Edge) → is_high edge ≡ true → edge ≡ High
high_is Low e = absurd (let q : false ≡ true = e in cc)
high_is (Before key) e = absurd (let q : false ≡ true = e in cc)
high_is (After key) e = absurd (let q : false ≡ true = e in cc)
high_is High e = refl

less_of : (a b : ℕ) → nat_lt a b ≡ true → a < b
less_of a b e = grind (arith, nat_tests)

last_of : (a b : ℕ) → nat_lt (a + 1) b ≡ false → a < b → a + 1 ≡ b
last_of a b e less = grind (arith, nat_tests)

-- the spans with the tool's chunk
abbrev more : (ℕ → List Span) → ToolView → ℕ → List Span
more spans tool t = cond (t == tool.table) (spans tool.table ++ span_of tool ∷ []) (spans t)

more_own : (spans : ℕ → List Span) (tool : ToolView) → more spans tool tool.table ≡ spans tool.table ++ span_of tool ∷ []
more_own spans tool = ap (λ (b : Bool). cond b (spans tool.table ++ span_of tool ∷ []) (spans tool.table)) (is_number tool.table tool.table refl)

more_other : (spans : ℕ → List Span) (tool : ToolView) (t : ℕ) → t ≢ tool.table → more spans tool t ≡ spans t
more_other spans tool t apart = ap (λ (b : Bool). cond b (spans tool.table ++ span_of tool ∷ []) (spans t)) (other_number t tool.table apart)

-- what is known at the publication
pub record Publishes (spans : ℕ → List Span) (tool : ToolView) (node : NodeView) : Type 0 where
  pub core : Ground spans tool node
  pub entries : Told spans Master tool node
  pub log : Log node
  pub at : Masters tool (spans tool.table) (check_at tool.table tool.chunk (checks_of node)) (own_txn node)

abbrev publication : (spans : ℕ → List Span) (tool : ToolView) (node : NodeView) → Publishes spans tool node → NodeView
publication spans tool node p = with_tool (SetMaster tool.table tool.chunk p.at.row.row.kind p.at.row.row.this) node

publishes : (spans : ℕ → List Span) (tool : ToolView) (node : NodeView) (p : Publishes spans tool node) → after_call (PublishCall tool.table tool.chunk) node ≡ publication spans tool node p
publishes spans tool node p = ap (λ (o : Option CheckRow). published tool.table tool.chunk o node) p.at.row.is

rows_more : (spans : ℕ → List Span) (tool : ToolView) (node : NodeView) (p : Publishes spans tool node)
    → (t c : ℕ) → mastered_at t c (with_master tool.table tool.chunk p.at.row.row.this (checks_of node)) ≡ span_at c (more spans tool t)
rows_more spans tool node p t c = at (same_or_apart t tool.table) (same_or_apart c tool.chunk)
  where
    row : CheckRow
    row = p.at.row.row

    checks : List CheckEntry
    checks = with_master tool.table tool.chunk row.this (checks_of node)

    own : mastered_at tool.table tool.chunk checks ≡ Some (span_of tool)
    own =
        ap mastered_in (check_at-with_master_same tool.table tool.chunk row.this (checks_of node))
        ∙ ap (λ (o : Option CheckRow). mastered_in (option_map (λ (r : CheckRow). mastered r row.this) o)) p.at.row.is
        ∙ ap (λ (s : Span). Some s) p.at.row.over

    at : (t ≡ tool.table) ⊎ (t ≢ tool.table) → (c ≡ tool.chunk) ⊎ (c ≢ tool.chunk) → mastered_at t c checks ≡ span_at c (more spans tool t)
    at (inr apart) chunk =
        ap mastered_in (check_at-with_master_other t c tool.table tool.chunk row.this (checks_of node) (inl apart))
        ∙ p.core.rows t c ∙ sym (ap (span_at c) (more_other spans tool t apart))
    at (inl same) (inr apart) =
        ap mastered_in (check_at-with_master_other t c tool.table tool.chunk row.this (checks_of node) (inr apart))
        ∙ p.core.rows t c ∙ ap (λ (k : ℕ). span_at c (spans k)) same
        ∙ sym (span_other (spans tool.table) (span_of tool) tool.chunk c p.at.number apart)
        ∙ sym (ap (span_at c) (more_own spans tool)) ∙ ap (λ (k : ℕ). span_at c (more spans tool k)) (sym same)
    at (inl same) (inl mine) =
        (λ i. mastered_at (same i) (mine i) checks) ∙ own
        ∙ sym (span_last (spans tool.table) (span_of tool) tool.chunk p.at.number)
        ∙ sym (ap (span_at tool.chunk) (more_own spans tool))
        ∙ (λ i. span_at (sym mine i) (more spans tool (sym same i)))

rows_there : (spans : ℕ → List Span) (tool : ToolView) (node : NodeView) (p : Publishes spans tool node)
    → (t c : ℕ) → mastered_at t c (checks_of (publication spans tool node p)) ≡ span_at c (more spans tool t)
rows_there spans tool node p =
    subst (λ (checks : List CheckEntry). (t c : ℕ) → mastered_at t c checks ≡ span_at c (more spans tool t))
    (sym (checks_more (SetMaster tool.table tool.chunk p.at.row.row.kind p.at.row.row.this) node)) (rows_more spans tool node p)

deeds_there : (spans : ℕ → List Span) (tool : ToolView) (node : NodeView) (p : Publishes spans tool node)
    → deeds_in (publication spans tool node p).history ≡ tables_deeds (more spans tool) tool.table ++ table_deeds tool.table (more spans tool tool.table)
deeds_there spans tool node p =
    deeds_more node.history (tool_entry (SetMaster tool.table tool.chunk p.at.row.row.kind p.at.row.row.this) ∷ [])
    ∙ ap (λ (ds : List (List Deed)). ds ++ masters) p.entries
    ∙ append_assoc before (now ++ checks) masters
    ∙ ap (λ (ds : List (List Deed)). before ++ ds)
    (sym (table_more tool.table tool.chunk (spans tool.table) (span_of tool) p.at.number) ∙ ap (table_deeds tool.table) (sym (more_own spans tool)))
    ∙ ap (λ (ds : List (List Deed)). ds ++ table_deeds tool.table (more spans tool tool.table))
    (tables_same spans (more spans tool) tool.table (λ t within. sym (more_other spans tool t (λ e. absurd (let q : t < tool.table = within in omega arith)))))
  where
    before : List (List Deed)
    before = tables_deeds spans tool.table

    now : List (List Deed)
    now = table_deeds tool.table (spans tool.table)

    checks : List (List Deed)
    checks = alone (ChecksDeed tool.table tool.chunk (span_of tool))

    masters : List (List Deed)
    masters = alone (MastersDeed tool.table tool.chunk)

reaches_there : (spans : ℕ → List Span) (tool : ToolView) (node : NodeView) → Publishes spans tool node → Reaches Low (more spans tool tool.table) tool.until
reaches_there spans tool node p =
    subst (λ (ss : List Span). Reaches Low ss tool.until) (sym (more_own spans tool))
    (subst (λ (e : Edge). Reaches Low (spans tool.table ++ span_of tool ∷ []) e) (sym p.at.until)
    (reaches_more Low tool.after (spans tool.table) (span_of tool) p.at.reaches refl p.core.begins))

behind_there : (spans : ℕ → List Span) (tool : ToolView) (node : NodeView) → Publishes spans tool node → (t : ℕ) → t < tool.table → Reaches Low (more spans tool t) High
behind_there spans tool node p t within =
    subst (λ (ss : List Span). Reaches Low ss High) (sym (more_other spans tool t (λ e. absurd (omega arith)))) (p.core.behind t within)

ahead_there : (spans : ℕ → List Span) (tool : ToolView) (node : NodeView) → Publishes spans tool node → (t : ℕ) → tool.table < t → more spans tool t ≡ []
ahead_there spans tool node p t within = more_other spans tool t (λ e. absurd (omega arith)) ∙ p.core.ahead t within

log_there : (spans : ℕ → List Span) (tool : ToolView) (node : NodeView) (p : Publishes spans tool node) → Log (publication spans tool node p)
log_there spans tool node p =
    tool_logs (SetMaster tool.table tool.chunk p.at.row.row.kind p.at.row.row.this) node p.log (λ c. c) (p.at.row.row, p.at.row.is, refl, refl)

-- the next chunk, the next table, the end

chunk_holds : (spans : ℕ → List Span) (tool : ToolView) (node : NodeView) (p : Publishes spans tool node) → is_high tool.until ≡ false → Holds (at_next_chunk tool) (publication spans tool node p)
chunk_holds spans tool node p high = record {
  spans = more spans tool;
  core = record {
    behind = behind_there spans tool node p;
    ahead = ahead_there spans tool node p;
    rows = rows_there spans tool node p;
    begins = not_high tool.until high;
    others = p.core.others;
    within = p.core.within;
  };
  entries = deeds_there spans tool node p;
  log = log_there spans tool node p;
  staged = record {
    number = ap (λ (n : ℕ). n + 1) (p.at.number ∙ sym (length-append (spans tool.table) (span_of tool ∷ [])) ∙ ap (λ (ss : List Span). length ss) (sym (more_own spans tool)));
    reaches = reaches_there spans tool node p;
    txn = p.at.txn;
  };
}

whole_there : (spans : ℕ → List Span) (tool : ToolView) (node : NodeView) → Publishes spans tool node → is_high tool.until ≡ true → Reaches Low (more spans tool tool.table) High
whole_there spans tool node p high = subst (λ (e : Edge). Reaches Low (more spans tool tool.table) e) (high_is tool.until high) (reaches_there spans tool node p)

table_holds : (spans : ℕ → List Span) (tool : ToolView) (node : NodeView) (p : Publishes spans tool node) → is_high tool.until ≡ true → tool.table + 1 < tool.tables
    → Holds (at_next_table tool) (publication spans tool node p)
table_holds spans tool node p high next = record {
  spans = more spans tool;
  core = record {
    behind = λ t within. at t (up_to t within);
    ahead = λ t within. ahead_there spans tool node p t (omega arith);
    rows = rows_there spans tool node p;
    begins = refl;
    others = p.core.others;
    within = next;
  };
  log = log_there spans tool node p;
  entries =
      deeds_there spans tool node p
      ∙ ap (tables_deeds (more spans tool)) {x = suc tool.table} {y = tool.table + 1} (omega arith)
      ∙ sym (append-nil (tables_deeds (more spans tool) (tool.table + 1)));
  staged = record { none = ahead_there spans tool node p (tool.table + 1) (omega arith); number = refl; after = refl; txn = p.at.txn };
}
  where
    up_to : (t : ℕ) → t < tool.table + 1 → (t ≡ tool.table) ⊎ (t < tool.table)
    up_to t within = apart_or (same_or_apart t tool.table)
      where
        apart_or : (t ≡ tool.table) ⊎ (t ≢ tool.table) → (t ≡ tool.table) ⊎ (t < tool.table)
        apart_or (inl same) = inl same
        apart_or (inr apart) = inr (omega arith)

    at : (t : ℕ) → (t ≡ tool.table) ⊎ (t < tool.table) → Reaches Low (more spans tool t) High
    at t (inl same) = subst (λ (k : ℕ). Reaches Low (more spans tool k) High) (sym same) (whole_there spans tool node p high)
    at t (inr within) = behind_there spans tool node p t within

end_holds : (spans : ℕ → List Span) (tool : ToolView) (node : NodeView) (position : ℕ) (p : Publishes spans tool node) → is_high tool.until ≡ true → tool.table + 1 ≡ tool.tables
    → Holds (at_end position tool) (publication spans tool node p)
end_holds spans tool node position p high last = record {
  spans = more spans tool;
  core = record {
    behind = behind_there spans tool node p;
    ahead = ahead_there spans tool node p;
    rows = rows_there spans tool node p;
    begins = p.core.begins;
    others = p.core.others;
    within = p.core.within;
  };
  entries = deeds_there spans tool node p;
  log = log_there spans tool node p;
  staged = record { reaches = whole_there spans tool node p high; all = last; txn = p.at.txn };
}

mastered_holds : (spans : ℕ → List Span) (tool : ToolView) (node : NodeView) (position : ℕ) (p : Publishes spans tool node) → Holds (mastered_tool position tool) (publication spans tool node p)
mastered_holds spans tool node position p = at (is_high tool.until) refl
  where
    behind : is_high tool.until ≡ true → (b : Bool) → nat_lt (tool.table + 1) tool.tables ≡ b → Holds (cond b (at_next_table tool) (at_end position tool)) (publication spans tool node p)
    behind high true e = table_holds spans tool node p high (less_of (tool.table + 1) tool.tables e)
    behind high false e = end_holds spans tool node position p high (last_of tool.table tool.tables e p.core.within)

    at : (b : Bool) → is_high tool.until ≡ b → Holds (cond b (behind_table position tool) (at_next_chunk tool)) (publication spans tool node p)
    at true e = behind e (nat_lt (tool.table + 1) tool.tables) refl
    at false e = chunk_holds spans tool node p e

pub master_good : (spans : ℕ → List Span) (tool : ToolView) (node : NodeView) → Publishes spans tool node → Good (master_move (check_at tool.table tool.chunk (checks_of node)) tool node)
master_good spans tool node p =
    subst (λ (o : Option CheckRow). Good (master_move o tool node)) (sym p.at.row.is)
    (subst (Holds (mastered_tool (next_position node) tool)) (sym (publishes spans tool node p)) (mastered_holds spans tool node (next_position node) p))
