use Rattle.std.proofs.Common.{◌≡◌, ◌∙◌, ℕ, Some, None, subst, arith}
use Rattle.file_text.specs.Said.{Said}
use Rattle.line_decisions.specs.Decides.{Decides}
use Rattle.line_values.specs.Lines.{Gives}
use Rattle.file_state.specs.Keeps.{LeadsTo}
use Rattle.file_text.specs.declared.places.Section.TheVariants.{LocalLines}
use Rattle.line_takes.proofs.TakeLemmas.{local_only, replica_is, local_small, refused, went_on}
use Rattle.file_text.specs.Said.{LocalOf}
use Rattle.line_values.specs.Values.{the_replica}
use Rattle.line_takes.proofs.script_lines.take_local.Goals as goal

pub local_fault-requires : goal.local_fault-requires
local_fault-requires c = c.requires.is.short

pub overflow_cast-replica : goal.overflow_cast-replica
overflow_cast-replica c =
    let same : c.replica_in-replica.result ≡ the_replica c.args.items.now = c.replica_in-replica.ensures in
    let small = local_small c.args.state.now c.args.line.now c.args.items.now c.requires (λ replica session e. c.in-None.ensures c.requires.before replica session c.requires.keeps.marked (same ∙ e)) in
    omega (arith, same, small)

pub take_local-requires : goal.take_local-requires
take_local-requires c = record { before = c.requires.before; keeps = c.requires.keeps }

pub returns-in-Some : goal.returns-in-Some
returns-in-Some c = λ before k l.
    let same : c.replica_in-replica.result ≡ the_replica c.args.items.now = c.replica_in-replica.ensures in
    refused LocalLines before c.args.line.now c.args.items.now c.in-Some.fault l
    (λ said of gives. local_only (λ (s : Said). Gives s c.args.items.now → Decides LocalLines before c.args.line.now s (Some c.in-Some.fault)) said of (λ replica session g. c.in-Some.ensures before replica session k.marked (same ∙ g)) gives)

pub returns-in_ok-take_local-in-None : goal.returns-in_ok-take_local-in-None
returns-in_ok-take_local-in-None c = λ before k l.
    let same : c.replica_in-replica.result ≡ the_replica c.args.items.now = c.replica_in-replica.ensures in
    went_on LocalLines before c.args.line.now c.args.items.now c.args.state.now c.take_local.new.self k l
    (λ said of gives. record {
      decided = local_only (λ (s : Said). Gives s c.args.items.now → Decides LocalLines before c.args.line.now s None) said of (λ replica session g. c.in-None.ensures before replica session k.marked (same ∙ g)) gives;
      leads = local_only (λ (s : Said). Gives s c.args.items.now → LeadsTo s c.args.state.now c.take_local.new.self) said of
          (λ replica session g.
          let p = replica_is before c.args.line.now c.args.items.now replica session k.few_replicas (c.in-None.ensures before replica session k.marked (same ∙ g)) g in
          subst (λ (r : ℕ). LeadsTo (LocalOf r session) c.args.state.now c.take_local.new.self) (same ∙ p.0) (c.in_ok-take_local-in-None.ensures session))
          gives;
    })
