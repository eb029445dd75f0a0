use Rattle.std.proofs.Common.{[], Bor, List, ℕ, arith, map}
use Rattle.sv_check.proofs.LineByLine.{begins, one_more, stopped, all_read}
use Rattle.sv_check.proofs.text.take_lines.Goals as goal

pub loop-index-init : goal.loop-index-init
loop-index-init c = begins (map (λ x. x.now) c.args.lines.now) _ c.new-checker.ensures

pub returns-in-Err-clause-tells : goal.returns-in-Err-clause-tells
returns-in-Err-clause-tells c =
    let d : Bor (List ℕ) = record { ref_ptr = (0, 0); now = [] } in
    stopped c.args.lines.now c.loop-index.index d c.loop-index.checker c.take_bytes.new.checker
    c.in-Err.fault (omega arith) c.loop-index.invariant c.in-Err.ensures

pub loop-index-preserved : goal.loop-index-preserved
loop-index-preserved c =
    let d : Bor (List ℕ) = record { ref_ptr = (0, 0); now = [] } in
    one_more c.args.lines.now c.loop-index.index d c.loop-index.checker c.take_bytes.new.checker
    (omega arith) c.loop-index.invariant c.in_default.ensures

pub returns-clause-tells : goal.returns-clause-tells
returns-clause-tells c = all_read c.args.lines.now c.loop-index.index c.loop-index.checker c.end.result
    (omega arith) c.loop-index.invariant c.end.ensures.ends
