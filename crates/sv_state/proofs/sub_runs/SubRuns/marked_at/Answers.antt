use Rattle.sv_state.specs.Masks.{Shows, mark_for}
use Rattle.sv_state.specs.Numbers.{on_sub, sub_masks}
use Rattle.sv_state.proofs.Instances.{shown_track}
use Rattle.sv_state.proofs.Parts.{none_found, one_found}
use Rattle.sv_state.proofs.sub_runs.SubRuns.marked_at.Goals as goal

pub returns-in-Some : goal.returns-in-Some
returns-in-Some c =
    let p = c.args.self.now in
    let x = c.args.x.now in
    let k = mark_for c.args.write c.args.u.0 in
    one_found (λ m. Shows x k m) (sub_masks p) (on_sub p c.args.instance) c.in-Some.m c.shows.result
    c.in-Some.ensures (λ n on by. shown_track p x k c.args.instance c.requires.sub n on by) c.shows.ensures

pub returns-in-None : goal.returns-in-None
returns-in-None c =
    let p = c.args.self.now in
    let x = c.args.x.now in
    let k = mark_for c.args.write c.args.u.0 in
    none_found (λ m. Shows x k m) (sub_masks p) (on_sub p c.args.instance) c.in-None.ensures
    (λ n on by. shown_track p x k c.args.instance c.requires.sub n on by)
