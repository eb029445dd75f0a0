use Rattle.sv_state.specs.Masks.{Leads}
use Rattle.sv_state.specs.Numbers.{on_token, runs_masks}
use Rattle.sv_state.proofs.Instances.{token_track, tokens_apart}
use Rattle.sv_state.proofs.Parts.{none_found, one_found}
use Rattle.sv_state.proofs.runs.token_leads.Goals as goal

pub returns-in-Some : goal.returns-in-Some
returns-in-Some c =
    let d = c.args.d.now in
    one_found (λ m. Leads m d) (runs_masks on_token c.args.runs.now) d.from c.in-Some.m c.leads.result
    (c.in-Some.ensures on_token c.requires.from (tokens_apart c.args.token))
    (λ n on by. token_track c.args.runs.now d c.args.token n c.requires.from on by) c.leads.ensures

pub returns-in-None : goal.returns-in-None
returns-in-None c =
    let d = c.args.d.now in
    none_found (λ m. Leads m d) (runs_masks on_token c.args.runs.now) d.from
    (c.in-None.ensures on_token c.requires.from (tokens_apart c.args.token))
    (λ n on by. token_track c.args.runs.now d c.args.token n c.requires.from on by)
