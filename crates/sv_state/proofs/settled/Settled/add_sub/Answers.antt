use Rattle.std.proofs.Common.{◌++◌}
use Rattle.std.proofs.lemmas.Result.{on_ok_weaker}
use Rattle.sv_state.specs.Numbers.{on_token, runs_masks, subs_masks}
use Rattle.sv_state.proofs.Parts.{Adds-right}
use Rattle.sv_state.proofs.settled.Settled.add_sub.Goals as goal

pub returns-in-None : goal.returns-in-None
returns-in-None c =
    let s = c.args.self.now in
    let runs = runs_masks on_token s.runs.items in
    let old = subs_masks s.subs.items in
    let new = subs_masks c.add_pair.new.subs.items in
    on_ok_weaker c.add_pair.result (λ a. Adds-right s.masks.items (runs ++ old) (runs ++ new) c.args.more
    (Adds-right runs old new c.args.more a)) c.add_pair.ensures
