use Rattle.sv_core.proofs.TakingIn.{going_begins}
use Rattle.sv_core.proofs.parts.Parts.take_in.Goals as goal

pub settle-requires : goal.settle-requires
settle-requires c =
    going_begins c.args.trace.now c.args.history.now c.args.number c.args.event c.args.self.now
    c.arrive.new.self c.empty_reply.result c.empty_reply.ensures c.requires c.in_ok-arrive.ensures.gate
    c.in_ok-arrive.ensures.recordings c.in_ok-arrive.ensures.work
