use Rattle.std.proofs.Common.{◌≡◌, ℕ, ◌∙◌, ap, sym, subst, sum_by}
use Rattle.sv_model.specs.declared.line.Command.{Command}
use Rattle.sv_model.specs.Recordings.{steps_of}
use Rattle.sv_model.specs.Declarations.{pass_of}
use Rattle.sv_model.specs.LawfulCommands.{IsLawfulCommand}
use Rattle.sv_model.specs.Size.{step_size, capped}
use Rattle.sv_lines.specs.Following.{barrier_size}
use Rattle.sv_lines.proofs.Sizing.{barrier_total, end_total}
use Rattle.sv_lines.proofs.commands.command_size.Goals as goal

pub returns-in-Barrier : goal.returns-in-Barrier
returns-in-Barrier c here scope family stands fit lawful =
    subst (λ (k : Command). c.barrier_size.result
    ≡ capped (sum_by step_size (steps_of c.args.taken.now.trace here scope k))) (sym c.in-Barrier.is)
    (c.barrier_size.ensures ∙ ap capped (ap (λ (f : ℕ). barrier_size f c.in-Barrier.deps) (sym family)
    ∙ sym (barrier_total c.args.taken.now.trace here scope c.in-Barrier.deps)))

pub returns-in-EndRendering : goal.returns-in-EndRendering
returns-in-EndRendering c here scope family stands fit lawful =
    subst (λ (k : Command). c.end_rendering_size.result
    ≡ capped (sum_by step_size (steps_of c.args.taken.now.trace here scope k)))
    (sym c.in-EndRendering.is)
    (end_total c.args.taken.now.trace here c.args.family scope c.args.standing c.end_rendering_size.result
    stands
    (subst (λ (k : Command). IsLawfulCommand c.args.taken.now.trace c.args.family scope k)
    c.in-EndRendering.is lawful) c.end_rendering_size.ensures)

pub returns-in-BeginPass : goal.returns-in-BeginPass
returns-in-BeginPass c here scope family stands fit lawful =
    let l = subst (λ (k : Command). IsLawfulCommand c.args.taken.now.trace c.args.family scope k)
    c.in-BeginPass.is lawful in
    subst (λ (k : Command). c.begin_size.result ≡ capped
    (sum_by step_size (steps_of c.args.taken.now.trace here scope k))) (sym c.in-BeginPass.is)
    (c.begin_size.ensures (pass_of c.args.taken.now.trace c.in-BeginPass.pass)
    (c.pass_sizes.ensures l.declared) here c.in-BeginPass.views l.count)
