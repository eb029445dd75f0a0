use Rattle.std.proofs.Common.{◌-◌, arith, length}
use Rattle.std.proofs.lemmas.Bool.{ltb-true, ltb-false}
use Rattle.sv_state.proofs.Turns.{all_below, end_none, reach_at}
use Rattle.sv_state.proofs.runs.end_before.Goals as goal

pub returns-then-count-eq0-clause-before : goal.returns-then-count-eq0-clause-before
returns-then-count-eq0-clause-before c = λ is. end_none c.args.runs.now c.args.number (omega arith)

pub returns-clause-before : goal.returns-clause-before
returns-clause-before c = λ is. all_below c.args.runs.now c.requires.in_turn c.requires.have_numbers
    (length c.args.runs.now - 1) c.args.number _ (omega arith) (ltb-true _ _ is)

pub returns-clause-reach : goal.returns-clause-reach
returns-clause-reach c = λ is. reach_at c.args.runs.now c.args.number _ (omega arith) (ltb-false _ _ is)
