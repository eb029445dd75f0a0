use Rattle.std.proofs.Common.{◌<◌, arith, length, refl, rules, subst, sym}
use Rattle.sv_hub.specs.Attachments.{Reserves}
use Rattle.sv_hub.proofs.Changes.{changing_all, changing_by, changing_next, changing_none, changing_stops}
use Rattle.sv_hub.proofs.entry.reserve_all.Goals as goal

pub loop-entry-init : goal.loop-entry-init
loop-entry-init g c = changing_none _ _

pub returns-in_err-reserve-clause-kept : goal.returns-in_err-reserve-clause-kept
returns-in_err-reserve-clause-kept g c =
    let below : c.loop-entry.entry-index < length c.loop-entry.entries =
    omega (arith, c.loop-entry.invariant.long) in
    changing_stops _ _ _ _ (λ a. record { number = refl; heard = refl; room = omega arith })
    (changing_next _ c.loop-entry.entry-index c.args.entries.now c.loop-entry.entries c.entry-item.result
    c.reserve.new.self below c.entry-item.is
    (subst (λ e. Reserves (g.E.Seat.attached e) (g.E.Seat.attached c.reserve.new.self))
    (sym c.entry-item.is) c.reserve.ensures.kept)
    (changing_by _ _ _ _ _ (λ a b both. both.0) c.loop-entry.invariant))

pub loop-entry-preserved : goal.loop-entry-preserved
loop-entry-preserved g c =
    let below : c.loop-entry.entry-index < length c.loop-entry.entries =
    omega (arith, c.loop-entry.invariant.long) in
    changing_next _ c.loop-entry.entry-index c.args.entries.now c.loop-entry.entries c.entry-item.result
    c.reserve.new.self below c.entry-item.is (
      subst (λ e. Reserves (g.E.Seat.attached e) (g.E.Seat.attached c.reserve.new.self))
          (sym c.entry-item.is) c.reserve.ensures.kept,
      search rules,
    )
    c.loop-entry.invariant

pub returns-clause-kept : goal.returns-clause-kept
returns-clause-kept g c =
    changing_all _ c.loop-entry.entry-index _ _ (let l = c.loop-entry.invariant.long in let f =
    c.loop-entry-test.false in omega arith)
    (changing_by _ _ _ _ _ (λ a b both. both.0) c.loop-entry.invariant)
