use Rattle.std.proofs.Common.{Contains, take}
use Rattle.sv_state.specs.declared.sub_runs.SubRuns.{SubRuns}
use Rattle.sv_state.specs.Masks.{ShownTo, mark_for}
use Rattle.sv_state.specs.Numbers.{sub_masks}
use Rattle.sv_state.proofs.subs.subs_marked.Given as goal

-- none of those taken so far is shown to x
abbrev pub invariant-loop-p : goal.invariant-loop-p
invariant-loop-p l = ((p : SubRuns) × Contains (take l.p-index l.subs) p
    × ShownTo l.x (mark_for l.write l.u.0) (sub_masks p)) → ⊥
