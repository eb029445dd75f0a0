use Rattle.std.proofs.Common.{refl}
use Rattle.sv_state.specs.declared.sub_runs.SubRuns.{SubRuns}
use Rattle.sv_state.specs.Masks.{LeadsInto}
use Rattle.sv_state.specs.Numbers.{sub_masks}
use Rattle.sv_state.proofs.Any.{any_end, any_step, item_in}
use Rattle.sv_state.proofs.Instances.{subs_lead_from, subs_lead_in}
use Rattle.sv_state.proofs.Parts.{never, unless}
use Rattle.sv_state.proofs.subs.subs_lead.Goals as goal

pub returns-then-leads_into : goal.returns-then-leads_into
returns-then-leads_into c =
    let subs = c.args.subs.now in
    let d = c.args.d.now in
    let p = c.p-item.result in (
      λ t. subs_lead_from subs d p (item_in (λ (q : SubRuns). LeadsInto (sub_masks q) d) subs
          c.loop-p.p-index p c.loop-p-test.true c.p-item.is) (c.if-leads_into.ensures.0 refl),
      λ l. refl,
    )

pub loop-p-preserved : goal.loop-p-preserved
loop-p-preserved c =
    let d = c.args.d.now in
    any_step (λ (q : SubRuns). LeadsInto (sub_masks q) d) c.args.subs.now c.loop-p.p-index c.p-item.result
    c.loop-p-test.true c.p-item.is c.loop-p.invariant (unless c.if-leads_into.ensures)

pub returns : goal.returns
returns c =
    let d = c.args.d.now in
    never (λ l. any_end (λ (q : SubRuns). LeadsInto (sub_masks q) d) c.args.subs.now c.loop-p.p-index
    c.loop-p-test.false c.loop-p.invariant (subs_lead_in c.args.subs.now d l))
