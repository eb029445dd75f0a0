use Rattle.sv_state.specs.Masks.{Leads}
use Rattle.sv_state.specs.Numbers.{sub_masks}
use Rattle.sv_state.proofs.Instances.{sub_track}
use Rattle.sv_state.proofs.Parts.{none_found, one_found}
use Rattle.sv_state.proofs.sub_runs.SubRuns.leads_on_sub.Goals as goal

pub returns-in-Some : goal.returns-in-Some
returns-in-Some c =
    let p = c.args.self.now in
    let d = c.args.d.now in
    one_found (λ m. Leads m d) (sub_masks p) d.from c.in-Some.m c.leads.result c.in-Some.ensures
    (λ n on by. sub_track p d c.args.instance c.requires n on by) c.leads.ensures

pub returns-in-None : goal.returns-in-None
returns-in-None c =
    let p = c.args.self.now in
    let d = c.args.d.now in
    none_found (λ m. Leads m d) (sub_masks p) d.from c.in-None.ensures
    (λ n on by. sub_track p d c.args.instance c.requires n on by)
