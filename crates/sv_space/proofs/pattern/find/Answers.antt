use Rattle.sv_space.proofs.Patterned.{outlines_of_one}
use Rattle.sv_space.proofs.pattern.find.Goals as goal

pub returns-then-fits-clause-found : goal.returns-then-fits-clause-found
returns-then-fits-clause-found c = λ p lt. outlines_of_one c.args.patterns.now c.loop-number.number
    c.index-patterns-number.result p c.as_slice.result.now c.as_slice-in-loop-number.result.now
    c.args.group.now.deps lt c.as_slice.ensures.value c.as_slice-in-loop-number.ensures
    (c.fits.ensures c.if-fits.true)
