-- A run has one end, and how many moves there are.
use Rattle.std.proofs.Common.{◌≡◌, ℕ, zero, suc, ◌+◌, ◌-◌, ◌*◌, ◌≤◌, List, [], ◌∷◌, ◌++◌, length, drop, map, refl, ap, sym, ◌∙◌, subst, arith, append-nil, Option, Some, None, cond, is_some}
use Rattle.std.specs.Prelude.{unwrap_or}
use Rattle.std.specs.List.{AllByRecursion}
use Rattle.std.proofs.lemmas.List.{length-map}
use Rattle.row_types.specs.declared.values.Value.{Value}
use Rattle.row_types.specs.declared.table_schema.Schema.{Schema}
use Rattle.ptc_statement.specs.declared.scripts.Script.{Script}
use Rattle.cluster_core.specs.Sessions.{unstarted}
use Rattle.cluster_core.specs.World.{WorldView, fresh, begun, move, behind_item, step, played, order, round, rounds, IsStill, EndsIn}
use Rattle.cluster_core.specs.Turns.{lags, lines_left, turns_left, moves_of, lines_of, most_moves}
use Rattle.workload_file.specs.Workload.{IsWorkload}
use Rattle.workload_file.specs.declared.workload.Workload.{Workload}
use Rattle.workload_file.specs.declared.schedule.Item.{Item}
use Rattle.cluster_core.proofs.RunLemmas.{move_nearer, step_unplayed, stays_at, played_behind}

-- ---- one end

none_moves : (items : List Item) (w : WorldView) → w.unplayed ≡ [] → AllByRecursion (λ item. move item w ≡ None) items → played items w ≡ w
none_moves [] w behind none = refl
none_moves (item ∷ items) w behind none =
    ap (played items) (stays_at item w (step item w) behind none.0 refl) ∙ none_moves items w behind none.1

-- where nobody can move, rounds change nothing
still_stays : (n : ℕ) (w : WorldView) → w.unplayed ≡ [] → IsStill w → rounds n w ≡ w
still_stays zero w behind still = refl
still_stays (suc n) w behind still = ap (rounds n) (none_moves (order w) w behind still) ∙ still_stays n w behind still

same_end : (m n : ℕ) (first : WorldView) → first.unplayed ≡ [] → IsStill (rounds m first) → IsStill (rounds n first) → rounds m first ≡ rounds n first
same_end zero n first behind one other = sym (still_stays n first behind one)
same_end (suc m) zero first behind one other = still_stays (suc m) first behind other
same_end (suc m) (suc n) first behind one other = same_end m n (round first) (played_behind (order first) first behind) one other

played_unplayed : (items rest : List Item) (w : WorldView) → w.unplayed ≡ items ++ rest → (played items w).unplayed ≡ rest
played_unplayed [] rest w is = is
played_unplayed (item ∷ items) rest w is = played_unplayed items rest (step item w) (step_unplayed item w ∙ ap (drop 1) is)

-- a run has one end
pub one_end : (first last other : WorldView) → EndsIn first last → EndsIn first other → last ≡ other
one_end first last other one two =
    one.reached
    ∙ same_end one.count two.count (played first.unplayed first) (played_unplayed first.unplayed [] first (sym (append-nil first.unplayed)))
    (subst IsStill one.reached one.still) (subst IsStill two.reached two.still)
    ∙ sym two.reached

-- ---- how many moves there are

-- one turn fewer is left for each move
moves_bounded_as : (item : Item) (w : WorldView) (next : Option WorldView) → move item w ≡ next
    → cond (is_some next) 1 0 + turns_left (behind_item (unwrap_or next w)) ≤ turns_left w
moves_bounded_as item w None is = omega arith
moves_bounded_as item w (Some v) is = omega (arith, move_nearer item w v is)

pub moves_bounded : (items : List Item) (w : WorldView) → moves_of items w + turns_left (played items w) ≤ turns_left w
moves_bounded [] w = omega arith
moves_bounded (item ∷ items) w =
    let rest = moves_bounded items (step item w) in
    let one = moves_bounded_as item w (move item w) refl in
    omega (arith, rest, one)

lines_begun : (scripts : List Script) → lines_left (map unstarted scripts) ≡ lines_of scripts
lines_begun [] = refl
lines_begun (script ∷ scripts) = omega (arith, lines_begun scripts)

lags_begun : (schemas : List Schema) (copies : List (List (List (List Value)))) → lags 0 (map (fresh schemas) copies) ≡ 0
lags_begun schemas [] = refl
lags_begun schemas (tables ∷ copies) = omega (arith, lags_begun schemas copies)

pub begun_left : (workload : Workload) → IsWorkload workload → turns_left (begun workload) ≤ most_moves workload
begun_left workload is =
    let nodes : length (map (fresh workload.schemas.tables) workload.copies) ≡ workload.replicas = length-map workload.copies (fresh workload.schemas.tables) ∙ is.each_copied in
    let tool : 3 * (length workload.schemas.tables - 0 - 1) + 3 ≡ 3 * length workload.schemas.tables = omega (arith, is.some_table) in
    rw (nodes, lines_begun workload.sessions, lags_begun workload.schemas.tables workload.copies, tool) (omega arith)

pub few_moves : (workload : Workload) (items : List Item) → IsWorkload workload → moves_of items (begun workload) ≤ most_moves workload
few_moves workload items is = omega (arith, moves_bounded items (begun workload), begun_left workload is)
