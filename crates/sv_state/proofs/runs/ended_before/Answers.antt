use Rattle.std.proofs.Common.{arith, ◌+◌, ◌-◌, ◌/◌, ◌<◌, length}
use Rattle.std.proofs.Math.Nat.{div-mul-le_self}
use Rattle.sv_state.proofs.Turns.{ends_below, ends_behind}
use Rattle.sv_state.proofs.runs.ended_before.Goals as goal

pub loop-low-preserved-then-runs-middle : goal.loop-low-preserved-then-runs-middle
loop-low-preserved-then-runs-middle c =
    let was = c.loop-low.invariant in
    let m = c.loop-low.low + (c.loop-low.high - c.loop-low.low) / 2 in
    let half = div-mul-le_self (c.loop-low.high - c.loop-low.low) 2 in
    let t = c.loop-low-test.true in
    let h = was.1 in
    let in_list : m < length c.args.runs.now = omega (arith, half, t, h) in (
      omega (arith, half, t),
      was.1,
      ends_below c.args.runs.now c.requires.in_turn c.requires.have_numbers m c.args.number _ in_list
          c.if-runs-middle.true,
      was.3,
    )

pub loop-low-preserved : goal.loop-low-preserved
loop-low-preserved c =
    let was = c.loop-low.invariant in
    let m = c.loop-low.low + (c.loop-low.high - c.loop-low.low) / 2 in
    let half = div-mul-le_self (c.loop-low.high - c.loop-low.low) 2 in
    let t = c.loop-low-test.true in
    let h = was.1 in
    let in_list : m < length c.args.runs.now = omega (arith, half, t, h) in (
      omega arith,
      omega (arith, in_list),
      was.2,
      ends_behind c.args.runs.now c.requires.in_turn c.requires.have_numbers m c.args.number _ in_list
          c.if-runs-middle.false,
    )
