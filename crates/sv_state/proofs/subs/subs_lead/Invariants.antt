use Rattle.std.proofs.Common.{Contains, take}
use Rattle.sv_state.specs.declared.sub_runs.SubRuns.{SubRuns}
use Rattle.sv_state.specs.Masks.{LeadsInto}
use Rattle.sv_state.specs.Numbers.{sub_masks}
use Rattle.sv_state.proofs.subs.subs_lead.Given as goal

-- none of those taken so far leads into d
abbrev pub invariant-loop-p : goal.invariant-loop-p
invariant-loop-p l = ((p : SubRuns) × Contains (take l.p-index l.subs) p × LeadsInto (sub_masks p) l.d) → ⊥
