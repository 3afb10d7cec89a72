use Rattle.std.proofs.Common.{◌∙◌, ℕ, Some, None, subst, arith}
use Rattle.file_text.specs.Said.{Said}
use Rattle.line_decisions.specs.Decides.{Decides}
use Rattle.file_text.specs.declared.places.Section.TheVariants.{ReplicaLines}
use Rattle.file_text.specs.Said.{Replicas}
use Rattle.line_values.specs.Lines.{Gives}
use Rattle.file_state.specs.Keeps.{LeadsTo}
use Rattle.line_takes.proofs.TakeLemmas.{replicas_only, few_counted, refused, went_on}
use Rattle.line_takes.proofs.plain_lines.take_replicas.Goals as goal

pub overflow_cast-count_in : goal.overflow_cast-count_in
overflow_cast-count_in c =
    let few = few_counted c.args.state.now c.args.line.now c.args.items.now c.requires in
    let same = c.count_in.ensures in
    omega (arith, few, same)

pub take_replicas-requires-clause-few : goal.take_replicas-requires-clause-few
take_replicas-requires-clause-few c =
    let few = few_counted c.args.state.now c.args.line.now c.args.items.now c.requires in
    let same = c.count_in.ensures in
    omega (arith, few, same)

pub returns-in-Some : goal.returns-in-Some
returns-in-Some c = λ before k l.
    refused ReplicaLines before c.args.line.now c.args.items.now c.in-Some.fault l (λ said of gives. replicas_only (λ (s : Said). Decides ReplicaLines before c.args.line.now s (Some c.in-Some.fault)) said of (λ n. c.in-Some.ensures before c.args.line.now n k.marked))

pub returns-in-None : goal.returns-in-None
returns-in-None c = λ before k l.
    went_on ReplicaLines before c.args.line.now c.args.items.now c.args.state.now c.take_replicas.new.self k l
    (λ said of gives. record {
      decided = replicas_only (λ (s : Said). Decides ReplicaLines before c.args.line.now s None) said of (λ n. c.in-None.ensures before c.args.line.now n k.marked);
      leads = replicas_only (λ (s : Said). Gives s c.args.items.now → LeadsTo s c.args.state.now c.take_replicas.new.self) said of
          (λ n g. subst (λ (m : ℕ). LeadsTo (Replicas m) c.args.state.now c.take_replicas.new.self) (c.count_in.ensures ∙ g.is) c.take_replicas.ensures) gives;
    })
