use Rattle.sv_core.proofs.TakingIn.{going_ends, going_goes}
use Rattle.sv_core.proofs.parts.Parts.take_next.Goals as goal

pub returns-in-None-clause-goes : goal.returns-in-None-clause-goes
returns-in-None-clause-goes c = going_ends c.args.trace.now c.args.history.now c.args.number c.args.self.now
    c.requires c.next.new.self c.in-None.ensures.takes

pub returns-in_ok-take_item-in-Some-clause-goes : goal.returns-in_ok-take_item-in-Some-clause-goes
returns-in_ok-take_item-in-Some-clause-goes c =
    going_goes c.args.trace.now c.args.history.now c.args.number c.args.self.now c.requires c.in-Some.item
    c.next.new.self c.take_item.new.work c.in-Some.ensures.takes c.in_ok-take_item-in-Some.ensures.at
    (c.in_ok-take_item-in-Some.ensures.fits c.args.trace.now)
