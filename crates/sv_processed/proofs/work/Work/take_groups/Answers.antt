use Rattle.std.proofs.Common.{ap}
use Rattle.sv_model.specs.declared.work.Step.TheVariants.{Groups}
use Rattle.sv_processed.proofs.OneStep.{at_after, groups_fit, on_ok_two}
use Rattle.sv_processed.proofs.work.Work.take_groups.Goals as goal

pub take-requires : goal.take-requires
take-requires c = groups_fit c.args.self.now c.args.groups c.in_ok-list.list c.args.self.now.checks.steps
    c.requires.groups c.in_ok-list.ensures.numbered c.in_ok-list.ensures.short
    c.in_ok-list.ensures.short_olds

pub returns-clause-at : goal.returns-clause-at
returns-clause-at c = on_ok_two c.take.result (λ stands replies t event old more m at.
    at_after c.args.self.now c.take.new.self (Groups c.args.groups) (Groups c.in_ok-list.list) c.args.notes
    (ap Groups c.in_ok-list.ensures.numbered) c.requires.notes stands replies t event old more m at)
    c.take.ensures.stands c.take.ensures.reply
