use Rattle.std.proofs.Common.{◌≡◌, false, true}
use Rattle.sv_state.specs.Masks.{mark_for}
use Rattle.sv_state.proofs.Instances.{other_shown, outside}
use Rattle.sv_state.proofs.Parts.{never}
use Rattle.sv_state.proofs.sub_runs.SubRuns.marked_on.Goals as goal

pub returns-in-None : goal.returns-in-None
returns-in-None c = never (outside c.args.self.now c.args.x.now (mark_for c.args.write c.args.u.0)
    c.in-None.is)

pub returns-else-is_of : goal.returns-else-is_of
returns-else-is_of c = never (other_shown c.args.self.now c.args.x.now (mark_for c.args.write c.args.u.0)
    c.in-Some.s c.in-Some.is (λ e. (let f : false ≡ true = c.if-is_of.ensures.1 e in cc)))
