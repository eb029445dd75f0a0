use Rattle.std.proofs.Common.{subst}
use Rattle.sv_model.specs.History.{IsOfTrace}
use Rattle.sv_app.proofs.NextEvents.{is_declared}
use Rattle.sv_app.proofs.validating.event_of.Goals as goal

pub record-requires-clause-declared : goal.record-requires-clause-declared
record-requires-clause-declared c = is_declared c.args.trace.now c.in-Publish.number
    (subst (IsOfTrace c.args.trace.now) c.in-Publish.is c.requires.of_trace)
