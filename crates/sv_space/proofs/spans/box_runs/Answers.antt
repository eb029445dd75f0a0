use Rattle.std.proofs.Common.{◌+◌, ◌∷◌, [], arith}
use Rattle.sv_range.proofs.MipRuns.{RunsBelow, no_runs, one_run_more}
use Rattle.sv_space.proofs.spans.box_runs.Goals as goal

pub returns-then-cells-eq1-clause-cells : goal.returns-then-cells-eq1-clause-cells
returns-then-cells-eq1-clause-cells c =
    let box = c.args.cells in
    let one = c.if-cells-eq1.true in
    let below : RunsBelow box c.args.layers (box.mip + 1) (c.first_run.result ∷ []) =
    one_run_more box c.args.layers box.mip [] c.first_run.result c.requires.has_layers c.requires.within
    (omega arith) (omega (arith, one)) c.first_run.ensures.start c.first_run.ensures.end
    (no_runs box c.args.layers) in
    λ mip layer h. (
      below.only mip layer h,
      λ has. below.found mip layer h (let before = has.mip_before in omega (arith, before, one)) has,
    )
