use Rattle.std.proofs.Common.{◌+◌, ◌∷◌, ◌++◌, [], ◌∙◌, List, ap, subst, sym, take}
use Rattle.sv_model.specs.declared.work.Dep.{Dep}
use Rattle.sv_space.specs.Patterns.{HasOutlines}
use Rattle.sv_space.proofs.Patterned.{outlines_all, outlines_pushed}
use Rattle.sv_space.proofs.pattern.outlines_of.Goals as goal

pub loop-d-preserved : goal.loop-d-preserved
loop-d-preserved c =
    let deps = c.args.deps.now in
    let i = c.loop-d.d-index in
    let outlines = c.loop-d.outlines.items in
    subst (λ (os : List Dep). HasOutlines os (take (i + 1) deps))
    (sym (c.in_ok-push.ensures.items ∙ ap (λ (o : Dep). outlines ++ o ∷ []) c.outline.ensures))
    (outlines_pushed outlines deps i _ c.loop-d-test.true c.loop-d.invariant)

pub returns : goal.returns
returns c = outlines_all c.loop-d.outlines.items c.args.deps.now c.loop-d.d-index c.loop-d-test.false
    c.loop-d.invariant
