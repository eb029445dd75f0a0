use Rattle.std.proofs.Common.{◌≡◌, ◌+◌, ◌-◌, take, drop, ap, arith}
use Rattle.sv_record.proofs.passes.line_at.Goals as goal

pub returns : goal.returns
returns c =
    let one : c.args.place + 1 - c.args.place ≡ 1 = omega arith in
    ap (λ n. take n (drop c.args.place c.args.lines.now)) one
