use Rattle.sv_trace.proofs.RenderPass.{lists_are}
use Rattle.sv_trace.proofs.render_pass.pass_lists.Goals as goal

pub returns : goal.returns
returns c = lists_are _ c.in_ok-attachments.attachments c.in_ok-subpasses.subpasses c.in_ok-deps.deps
    c.lists_fit-fit.result c.least.result c.least-flaw.result c.least-2.result c.unless.result
    c.in_ok-attachments.ensures c.in_ok-subpasses.ensures c.in_ok-deps.ensures c.lists_fit-fit.ensures
    c.unless.ensures c.least.ensures c.least-flaw.ensures c.least-2.ensures
