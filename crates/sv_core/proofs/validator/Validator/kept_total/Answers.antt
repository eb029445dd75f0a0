use Rattle.std.proofs.Common.{◌≡◌, ◌≤◌, ◌+◌, ◌*◌, false, length, ap, refl, subst, ◌∙◌}
use Rattle.sv_core.specs.State.{HasItsSpace, State}
use Rattle.sv_step_laws.specs.Bounded.{HasNoScopes}
use Rattle.sv_core.proofs.Kept.{space_stands}
use Rattle.sv_core.proofs.KeptFew.{kept_few}
use Rattle.sv_core.proofs.validator.Validator.kept_total.Goals as goal

pub returns-clause-stands : goal.returns-clause-stands
returns-clause-stands c = subst HasItsSpace c.self.view_is (λ unspent. (
  c.self.inside.parts.work.checks.space,
  space_stands c.self.inside.trace c.self.inside.history c.self.inside.spent c.self.inside.parts
      c.self.invariant.ready unspent,
  refl,
  refl,
  refl,
))

pub returns-clause-number : goal.returns-clause-number
returns-clause-number c = c.kept_total.ensures.number ∙ ap (λ (v : State). v.kept) c.self.view_is

pub returns-clause-few : goal.returns-clause-few
returns-clause-few c = subst (λ (v : State). v.spent ≡ false → HasNoScopes v.trace → c.kept_total.result
    ≤ (64 + 17 * length v.trace.queues) * v.pieces) c.self.view_is (λ unspent none.
    kept_few c.self.inside.trace c.self.inside.history c.self.inside.parts.work.checks.space
    c.kept_total.result c.self.invariant.lawful
    (space_stands c.self.inside.trace c.self.inside.history c.self.inside.spent c.self.inside.parts
    c.self.invariant.ready unspent) none c.kept_total.ensures.few)
