use Rattle.std.proofs.Common.{List, get_or, length, subst, sym}
use Rattle.sv_model.specs.declared.work.Dep.{Dep}
use Rattle.sv_space.specs.Patterns.{HasOutlines}
use Rattle.sv_space.specs.declared.pattern.Pattern.{Pattern}
use Rattle.sv_space.proofs.Patterned.{has_pushed}
use Rattle.sv_space.proofs.pattern.add.Goals as goal

pub returns-clause-has : goal.returns-clause-has
returns-clause-has c = λ p.
    let old = c.args.patterns.now.items in
    let deps = c.args.group.now.deps in
    let new : Pattern = record { outlines = c.in_ok-outlines.outlines } in
    subst (λ (ps : List Pattern). HasOutlines (get_or ps (length old) p).outlines.items deps)
    (sym c.in_ok-push.ensures.items)
    (has_pushed old new deps p (subst (λ (ds : List Dep). HasOutlines new.outlines.items ds)
    c.as_slice.ensures c.in_ok-outlines.ensures))
