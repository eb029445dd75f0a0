use Rattle.std.proofs.Common.{ℕ, subst}
use Rattle.sv_space.specs.Patterns.{IsQuietPattern}
use Rattle.sv_space.proofs.Patterned.{quiet_one, quiet_part}
use Rattle.sv_space.proofs.passing.pass.Goals as goal

pub returns-then-count-gt0-clause-quiet : goal.returns-then-count-gt0-clause-quiet
returns-then-count-gt0-clause-quiet c = quiet_part c.args.state.now c.args.patterns.now.items
    c.args.numbers.now.items c.args.blocks.now.items c.index-block.result.now c.args.place
    c.quiet_count-count.result c.ask.new.asked.quiet c.requires.marked c.ask.ensures.quiet
    c.index-block.ensures c.quiet_count-count.ensures.within
    (c.quiet_count-count.ensures.quiet c.if-count-gt0.true)

pub returns-clause-quiet : goal.returns-clause-quiet
returns-clause-quiet c = quiet_one c.args.state.now c.args.patterns.now.items c.args.numbers.now.items
    c.args.place c.index.result.now c.requires.listed
    (subst (λ (n : ℕ). IsQuietPattern c.args.state.now c.args.patterns.now.items n) c.index.ensures
    (c.may_add.ensures.quiet c.if-may_add.false))
