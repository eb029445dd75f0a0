use Rattle.std.proofs.Common.{List, drop, subst}
use Rattle.std.specs.Result.{OnOk}
use Rattle.sv_model.specs.Cells.{IsOnly}
use Rattle.sv_model.specs.declared.work.Cell.{Cell}
use Rattle.sv_model.specs.declared.work.Group.{Group}
use Rattle.sv_state.specs.Contents.{contents_of}
use Rattle.sv_space.specs.Known.{HasGone, MayFollow}
use Rattle.sv_space.proofs.log.Log.catch_up.Goals as goal

pub returns : goal.returns
returns c = subst (λ (log : List Group). OnOk c.go_through.result ((cell : Cell) → IsOnly c.args.at.now cell
    → MayFollow c.args.state.now.step (drop c.args.from log)
    → HasGone cell (drop c.args.from log) (contents_of c.args.state.now)
    (contents_of c.go_through.new.state))) c.self.view_is c.go_through.ensures
