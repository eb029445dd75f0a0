use Rattle.std.proofs.Common.{◌≡◌, IsTrue, false}
use Rattle.sv_state.proofs.Outlining.{held, starts_first}
use Rattle.sv_state.proofs.reached.may_start.Goals as goal

pub returns-then-is_on : goal.returns-then-is_on
returns-then-is_on c = λ not cell n from is late h.
    let t : IsTrue c.starts_scope.result = (c.starts_scope.ensures cell
    (held cell c.args.a.now c.args.d.now n is)).1
    (starts_first cell c.args.a.now c.args.d.now n is c.in-Use.u c.in-Use.is h) in
    let f : c.starts_scope.result ≡ false = not in cc
