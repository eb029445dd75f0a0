use Rattle.sv_lines.proofs.Found.{resource_new}
use Rattle.sv_lines.proofs.taken.TakenLines.is_new_resource.Goals as goal

pub returns : goal.returns
returns c = resource_new c.args.self.now.trace c.args.res c.extent.result c.is_none.result c.extent.ensures
    c.is_none.ensures
