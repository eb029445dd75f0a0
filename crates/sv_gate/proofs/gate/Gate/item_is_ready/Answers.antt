use Rattle.std.proofs.Common.{◌≡◌, ◌∙◌, Some, None, sym, ap, subst}
use Rattle.sv_model.specs.declared.line.Batch.{Batch}
use Rattle.sv_model.specs.Semaphores.{batch_ready}
use Rattle.sv_model.specs.Holding.{item_ready}
use Rattle.sv_model.specs.History.{batch_at, no_batch}
use Rattle.sv_gate.specs.Kept.{IsBatchOf, past_of}
use Rattle.sv_gate.proofs.Lawfulness.{batch_at_fits}
use Rattle.sv_gate.proofs.Starts.{batch_is}
use Rattle.sv_gate.proofs.gate.Gate.item_is_ready.Goals as goal

pub returns-in-None : goal.returns-in-None
returns-in-None c t h m p lawful is stands agrees =
    let none : batch_at t h.events c.in-Batch.event c.in-Batch.batch ≡ no_batch =
    batch_is t h c.args.self.now c.in-Batch.event c.in-Batch.batch None is c.in-None.ensures in
    ap (batch_ready p) (sym none) ∙ ap (item_ready t p h.events) (sym c.in-Batch.is)

pub returns-in-Some : goal.returns-in-Some
returns-in-Some c t h m p lawful is stands agrees =
    let b : Batch = c.in-Some.batch.now in
    let found : batch_at t h.events c.in-Batch.event c.in-Batch.batch ≡ b =
    batch_is t h c.args.self.now c.in-Batch.event c.in-Batch.batch (Some b) is c.in-Some.ensures in
    let fits : IsBatchOf t b = subst (IsBatchOf t) found
    (batch_at_fits t h.events c.in-Batch.event c.in-Batch.batch lawful) in
    c.batch_is_ready.ensures t m stands fits
    ∙ ap (batch_ready (past_of t m)) (sym found)
    ∙ sym (agrees.ready c.in-Batch.event c.in-Batch.batch)
    ∙ ap (item_ready t p h.events) (sym c.in-Batch.is)
