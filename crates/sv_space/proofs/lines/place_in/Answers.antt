use Rattle.std.proofs.Common.{arith, ap, ◌+◌, ◌-◌, ◌/◌, ◌<◌, length}
use Rattle.sv_space.specs.declared.line.Line.{Line}
use Rattle.sv_space.proofs.Sorting.{less_before, more_behind}
use Rattle.std.proofs.Math.Nat.{div-mul-le_self}
use Rattle.sv_space.proofs.lines.place_in.Goals as goal

pub loop-low-preserved-then-lines-middle : goal.loop-low-preserved-then-lines-middle
loop-low-preserved-then-lines-middle c =
    let was = c.loop-low.invariant in
    let m = c.loop-low.low + (c.loop-low.high - c.loop-low.low) / 2 in
    let half = div-mul-le_self (c.loop-low.high - c.loop-low.low) 2 in
    let t = c.loop-low-test.true in
    let h = was.1 in
    let in_list : m < length c.args.lines.now = omega (arith, half, t, h) in (
      omega (arith, half, t),
      was.1,
      λ sorted. less_before c.args.lines.now m c.args.res c.index-lines-middle.result
          c.index-lines-middle.is in_list (let e = ap (λ (l : Line). l.res) c.index-lines-middle.is in
          let less = c.if-lines-middle.true in omega (arith, e, less)) sorted,
      was.3,
    )

pub loop-low-preserved : goal.loop-low-preserved
loop-low-preserved c =
    let was = c.loop-low.invariant in
    let m = c.loop-low.low + (c.loop-low.high - c.loop-low.low) / 2 in
    let half = div-mul-le_self (c.loop-low.high - c.loop-low.low) 2 in
    let t = c.loop-low-test.true in
    let h = was.1 in
    let in_list : m < length c.args.lines.now = omega (arith, half, t, h) in (
      omega arith,
      omega (arith, in_list),
      was.2,
      λ sorted. more_behind c.args.lines.now m c.args.res c.index-lines-middle.result
          c.index-lines-middle.is in_list (let e = ap (λ (l : Line). l.res) c.index-lines-middle.is in
          let more = c.if-lines-middle.false in omega (arith, e, more)) sorted,
    )
