use Rattle.std.proofs.Common.{◌≡◌, nat_eq, subst, sym, true}
use Rattle.std.proofs.lemmas.Bool.{eqb-true}
use Rattle.sv_space.specs.declared.line.Line.{Line}
use Rattle.sv_space.proofs.opening.is_there.Goals as goal

pub returns-then-at-lines-clause-there : goal.returns-then-at-lines-clause-there
returns-then-at-lines-clause-there c = λ same.
    let line = c.index-lines-at.result in (
      line,
      (c.args.at, c.if-at-lines.true, sym c.index-lines-at.is),
      eqb-true line.res c.args.res (subst (λ (l : Line). nat_eq l.res c.args.res ≡ true)
          (sym c.index-lines-at.is) same),
    )
