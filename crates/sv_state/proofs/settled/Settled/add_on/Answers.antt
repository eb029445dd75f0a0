use Rattle.std.proofs.Common.{◌++◌}
use Rattle.std.proofs.lemmas.Result.{on_ok_weaker}
use Rattle.sv_state.specs.Numbers.{on_token, runs_masks, subs_masks}
use Rattle.sv_state.proofs.Parts.{Adds-left, Adds-right}
use Rattle.sv_state.proofs.settled.Settled.add_on.Goals as goal

pub returns-then-end_by : goal.returns-then-end_by
returns-then-end_by c =
    let s = c.args.self.now in
    let subs = subs_masks s.subs.items in
    let old = runs_masks on_token s.runs.items in
    let new = runs_masks on_token c.add_at.new.runs.items in
    on_ok_weaker c.add_at.result (λ a. Adds-right s.masks.items (old ++ subs) (new ++ subs) c.args.more
    (Adds-left old new subs c.args.more (a on_token c.requires))) c.add_at.ensures.adds
