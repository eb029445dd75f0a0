use Rattle.std.proofs.Common.{ap, arith, refl, subst, ◌∙◌}
use Rattle.sv_core.specs.State.{HasItsSpace, State}
use Rattle.sv_core.proofs.FewPieces.{few_pieces}
use Rattle.sv_core.proofs.Kept.{space_stands}
use Rattle.sv_core.proofs.validator.Validator.counts.Goals as goal

pub returns-clause-stands : goal.returns-clause-stands
returns-clause-stands c = subst HasItsSpace c.self.view_is (λ unspent. (
  c.self.inside.parts.work.checks.space,
  space_stands c.self.inside.trace c.self.inside.history c.self.inside.spent c.self.inside.parts
      c.self.invariant.ready unspent,
  refl,
  refl,
  refl,
))

pub returns-clause-numbers : goal.returns-clause-numbers
returns-clause-numbers c =
    let pieces = c.pieces.ensures ∙ ap (λ (v : State). v.pieces) c.self.view_is in
    let given = c.caught_up.ensures ∙ ap (λ (v : State). v.given) c.self.view_is in
    (λ j. record { pieces = pieces j; installed = 0; caught_up = given j })

pub returns-clause-few : goal.returns-clause-few
returns-clause-few c = λ unspent.
    let pieces = c.pieces.ensures ∙ ap (λ (v : State). v.pieces) c.self.view_is in
    let few = few_pieces c.args.self.now (returns-clause-stands c) unspent in
    omega (arith, pieces, few)
