-- What is known of a sound workload is what a run asks of it.
use Rattle.std.proofs.Common.{ℕ, ◌≤◌, List, length, sym, subst, ◌∙◌}
use Rattle.std.specs.List.{AllByRecursion}
use Rattle.row_types.specs.declared.table_schema.Schema.{Schema}
use Rattle.ptc_statement.specs.declared.scripts.Script.{Script}
use Rattle.ptc_statement.specs.declared.scripts.ScriptLine.{ScriptLine}
use Rattle.session.specs.Sessions.{RunFits}
use Rattle.workload.specs.declared.workloads.Workload.{Workload}
use Rattle.workload_laws.specs.Sound.{RunsClients, IsStep, IsScript, IsSound}
use Rattle.world_model.specs.CanRun.{ScriptFits, ScriptsFit, LocalsFit, IsRunnable}
use Rattle.world_laws.specs.Clients.{LinesOfClients, ScriptsOfClients, AreClients}
use Rattle.world_laws.specs.InOrder.{IsInOrder, SoundScriptsAreInOrder}
use Rattle.world_laws.specs.Sound.{SoundWorkloadsCanRun}
use Rattle.world_laws.proofs.ListLemmas.{each_is, each_both}

script_fits : (schemas : List Schema) (script : Script) → IsScript schemas script → ScriptFits schemas script
script_fits schemas script is =
    each_is (λ (line : ScriptLine). IsStep schemas line.step) (λ (line : ScriptLine). RunFits schemas line.step) script.lines (λ line step. step.fits) is.steps

script_clients : (schemas : List Schema) (script : Script) → IsScript schemas script → LinesOfClients script.lines
script_clients schemas script is =
    each_is (λ (line : ScriptLine). IsStep schemas line.step) (λ (line : ScriptLine). RunsClients line.step) script.lines (λ line step. step.clients) is.steps

scripts_fit : (schemas : List Schema) (scripts : List Script) → AllByRecursion (IsScript schemas) scripts → ScriptsFit schemas scripts
scripts_fit schemas scripts are = each_is (IsScript schemas) (ScriptFits schemas) scripts (λ script is. script_fits schemas script is) are

scripts_clients : (schemas : List Schema) (scripts : List Script) → AllByRecursion (IsScript schemas) scripts → ScriptsOfClients scripts
scripts_clients schemas scripts are = each_is (IsScript schemas) (λ (script : Script). LinesOfClients script.lines) scripts (λ script is. script_clients schemas script is) are

locals_fit : (schemas : List Schema) (locals : List (List Script)) → AllByRecursion (AllByRecursion (IsScript schemas)) locals
    → AllByRecursion (λ (scripts : List Script). length scripts ≤ 16) locals → LocalsFit schemas locals
locals_fit schemas locals are most =
    each_both (ScriptsFit schemas) (λ (scripts : List Script). length scripts ≤ 16) locals
    (each_is (AllByRecursion (IsScript schemas)) (ScriptsFit schemas) locals (λ scripts is. scripts_fit schemas scripts is) are) most

runnable : (workload : Workload) → IsSound workload → IsRunnable workload
runnable workload sound = record {
  some_table = sound.tables.0;
  few_tables = sound.tables.1;
  schemas = sound.schemas;
  source = sound.source;
  copies = sound.copies;
  replicas = sym sound.counted;
  some_replica = subst (λ (count : ℕ). 1 ≤ count) (sym sound.counted) sound.replicas.0;
  few_replicas = subst (λ (count : ℕ). count ≤ 8) (sym sound.counted) sound.replicas.1;
  scripts = scripts_fit workload.schemas.tables workload.sessions sound.scripts;
  few_sessions = sound.sessions;
  locals = locals_fit workload.schemas.tables workload.locals sound.local_scripts sound.locals_most;
  each_local = sound.locals ∙ sym sound.counted;
}

clients : (workload : Workload) → IsSound workload → AreClients workload
clients workload sound = record {
  sessions = scripts_clients workload.schemas.tables workload.sessions sound.scripts;
  locals = each_is (AllByRecursion (IsScript workload.schemas.tables)) ScriptsOfClients workload.locals (λ scripts is. scripts_clients workload.schemas.tables scripts is) sound.local_scripts;
}

pub sound_can_run : SoundWorkloadsCanRun
sound_can_run options workload are sound = (record { options_fit = are; runnable = runnable workload sound }, clients workload sound)

in_order : (schemas : List Schema) (scripts : List Script) → AllByRecursion (IsScript schemas) scripts → AllByRecursion IsInOrder scripts
in_order schemas scripts are = each_is (IsScript schemas) IsInOrder scripts (λ script is. record { whole = is.whole; rise = is.rise }) are

pub sound_in_order : SoundScriptsAreInOrder
sound_in_order workload sound = record {
  sessions = in_order workload.schemas.tables workload.sessions sound.scripts;
  locals = each_is (AllByRecursion (IsScript workload.schemas.tables)) (AllByRecursion IsInOrder) workload.locals (λ scripts are. in_order workload.schemas.tables scripts are) sound.local_scripts;
}
