use Rattle.std.proofs.Common.{rules, arith, sym}
use Rattle.sv_mask.specs.Usages.{stage_number, access_number, is_pair, usage_of}
use Rattle.sv_mask.proofs.TableLemmas.{find-none_below, find-first_below}
use Rattle.sv_mask.proofs.usage.Usage.of.Goals as goal

pub returns-then-is_pair-clause-exact : goal.returns-then-is_pair-clause-exact
unfolding usage_of
returns-then-is_pair-clause-exact c =
    let test = is_pair (stage_number c.args.stage) (access_number c.args.access) in
    sym (find-first_below test 0 43 c.loop-number.number c.loop-number.number (omega arith) (omega arith)
    (λ k low high. c.loop-number.invariant k high) (search rules))

pub returns-clause-exact : goal.returns-clause-exact
unfolding usage_of
returns-clause-exact c =
    let test = is_pair (stage_number c.args.stage) (access_number c.args.access) in
    sym (find-none_below test 0 43 (λ k low high. c.loop-number.invariant k (omega arith)))
