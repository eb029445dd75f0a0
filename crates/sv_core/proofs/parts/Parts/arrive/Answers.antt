use Rattle.sv_model.specs.declared.recorded.Event.TheVariants.{Publish}
use Rattle.sv_core.proofs.TakingIn.{on_ok_always, published_event}
use Rattle.sv_core.proofs.parts.Parts.arrive.Goals as goal

pub
    returns-in_ok-publish-in-Publish-clause-recordings
    : goal.returns-in_ok-publish-in-Publish-clause-recordings
returns-in_ok-publish-in-Publish-clause-recordings c = on_ok_always c.arrive.result
    (published_event c.args.trace.now c.args.event
    (Publish c.in-Publish.recorded) c.args.self.now.recordings c.publish.new.self c.in-Publish.is
    (λ history own published. c.in_ok-publish-in-Publish.ensures c.args.trace.now history own published))
