use Rattle.std.proofs.Common.{ℕ, ◌∙◌, ap, sym}
use Rattle.sv_model.specs.declared.work.Track.TheVariants.{Queue}
use Rattle.sv_state.proofs.Instances.{other_queue, queue_test}
use Rattle.sv_state.proofs.Parts.{never}
use Rattle.sv_state.proofs.sub_runs.SubRuns.leads_on_queue.Goals as goal

pub returns-then-self-queue : goal.returns-then-self-queue
returns-then-self-queue c = queue_test c.args.self.now c.args.d.now c.meets.result
    (c.requires ∙ ap (λ (n : ℕ). Queue n) (sym c.if-self-queue.true))
    c.meets.ensures

pub returns-else-self-queue : goal.returns-else-self-queue
returns-else-self-queue c = never (other_queue c.args.self.now c.args.d.now c.args.queue c.requires
    c.if-self-queue.false)
