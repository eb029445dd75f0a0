use Rattle.std.proofs.Common.{ℕ, ap, rules}
use Rattle.sv_mask.specs.declared.stage.Stages.{Stages}
use Rattle.sv_expand.proofs.StageScopes.{first_sync-rows, first_sync-small}
use Rattle.sv_expand.proofs.stages.first_sync.Goals as goal

pub overflow_cast-result : goal.overflow_cast-result
overflow_cast-result c =
    let small = first_sync-small c.args.word _ (first_sync-rows c.args.word _ _
    c.union_of_rows-named.ensures c.with_flag-all.ensures) in
    search (rules, small)

pub returns : goal.returns
returns c =
    let stages_of : ℕ → Stages = λ n. record { 0 = n } in
    ap stages_of (first_sync-rows c.args.word _ _ c.union_of_rows-named.ensures c.with_flag-all.ensures)
