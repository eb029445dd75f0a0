use Rattle.std.proofs.Common.{◌∙◌}
use Rattle.std.proofs.lemmas.Result.{on_ok_weaker}
use Rattle.sv_state.specs.Numbers.{runs_masks}
use Rattle.sv_state.proofs.Numbers.{Adds-again}
use Rattle.sv_state.proofs.runs.add_last.Goals as goal

pub returns-clause-adds : goal.returns-clause-adds
returns-clause-adds c = on_ok_weaker c.add_behind.result (λ on place is.
    Adds-again (runs_masks place c.args.runs.now.items) (runs_masks place c.take_off-taken.new.runs.items)
    (runs_masks place c.add_behind.new.runs.items) c.take_off-taken.result c.args.more c.joined-both.result
    (c.take_off-taken.ensures.adds place is) c.take_off-taken.ensures.track c.joined-both.ensures
    (on place (c.joined-both.ensures.track ∙ (c.take_off-taken.ensures.track ∙ is))))
    c.add_behind.ensures.adds
