use Rattle.std.proofs.Common.{List, refl, sym, subst, ap, ◌∙◌}
use Rattle.sv_model.specs.Declarations.{Pass}
use Rattle.sv_model.specs.declared.line.Line.{Line}
use Rattle.sv_model.specs.declared.work.PassPoint.TheVariants.{Begin}
use Rattle.sv_model.specs.Positions.{numbered_steps}
use Rattle.sv_model.specs.Passes.{pass_steps}
use Rattle.sv_pass.specs.Begun.{IsBegun, pass_in}
use Rattle.sv_record.proofs.begin_steps.begin_pass.Goals as goal

pub begin-requires-clause-few : goal.begin-requires-clause-few
begin-requires-clause-few c = rw c.find-declaring.ensures c.requires.few

pub begin-requires-clause-bounded : goal.begin-requires-clause-bounded
begin-requires-clause-bounded c = rw c.find-declaring.ensures c.requires.bounded

pub begin-requires-clause-count : goal.begin-requires-clause-count
begin-requires-clause-count c = rw c.find-declaring.ensures c.requires.count

pub returns-clause-scope : goal.returns-clause-scope
returns-clause-scope c = λ t same. (
  c.args.pass,
  c.args.views.now,
  refl,
  subst (λ (p : Pass). IsBegun p c.args.views.now c.in_ok-begun.begun)
      (c.find-declaring.ensures ∙ ap (λ (k : List Line). pass_in k c.args.pass) (sym same))
      c.in_ok-begun.ensures,
)

pub returns-clause-steps : goal.returns-clause-steps
returns-clause-steps c = λ t s same. c.in_ok-steps.ensures
    (pass_in c.find-declaring.result.now c.args.pass) c.args.views.now c.in_ok-begun.ensures
    ∙ ap (λ (p : Pass). numbered_steps c.args.here.step (pass_steps p c.args.views.now Begin c.args.here))
    (c.find-declaring.ensures ∙ ap (λ (k : List Line). pass_in k c.args.pass) (sym same))
