use Rattle.std.proofs.Common.{◌++◌}
use Rattle.std.proofs.lemmas.Result.{on_ok_weaker}
use Rattle.sv_state.specs.Numbers.{on_token, runs_masks, subs_masks}
use Rattle.sv_state.proofs.Parts.{Adds-left}
use Rattle.sv_state.proofs.settled.Settled.add_plain.Goals as goal

pub returns : goal.returns
returns c =
    let s = c.args.self.now in
    on_ok_weaker c.add.result (λ a. Adds-left s.masks.items c.add.new.masks.items
    (runs_masks on_token s.runs.items ++ subs_masks s.subs.items) c.args.more a) c.add.ensures
