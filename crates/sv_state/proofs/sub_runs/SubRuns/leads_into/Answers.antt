use Rattle.std.proofs.Common.{◌≡◌, false, true}
use Rattle.sv_state.proofs.Instances.{no_token, other_sub}
use Rattle.sv_state.proofs.Parts.{never}
use Rattle.sv_state.proofs.sub_runs.SubRuns.leads_into.Goals as goal

pub returns-else-is_of : goal.returns-else-is_of
returns-else-is_of c =
    let s = c.in-Sub in
    never (other_sub c.args.self.now c.args.d.now s.queue s.instance s.subpass s.is
    (λ e. (let f : false ≡ true = c.if-is_of.ensures.1 e in cc)))

pub returns-in-Token : goal.returns-in-Token
returns-in-Token c = never (no_token c.args.self.now c.args.d.now c.in-Token.field-0 c.in-Token.is)
