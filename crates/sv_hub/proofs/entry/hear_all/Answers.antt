use Rattle.std.proofs.Common.{◌<◌, arith, length, subst, sym}
use Rattle.sv_hub.specs.Attachments.{Hears}
use Rattle.sv_hub.proofs.Changes.{changing_all, changing_next, changing_none}
use Rattle.sv_hub.proofs.entry.hear_all.Goals as goal

pub loop-entry-init : goal.loop-entry-init
loop-entry-init g c = changing_none _ _

pub hear-requires : goal.hear-requires
hear-requires g c =
    subst (λ e. 0 < (g.E.Seat.attached e).spare) (sym
    (c.loop-entry.invariant.left c.loop-entry.entry-index c.entry-item.result (omega arith)))
    (c.requires c.loop-entry.entry-index c.entry-item.result c.loop-entry-test.true)

pub loop-entry-preserved : goal.loop-entry-preserved
loop-entry-preserved g c =
    let below : c.loop-entry.entry-index < length c.loop-entry.entries =
    omega (arith, c.loop-entry.invariant.long) in
    changing_next _ c.loop-entry.entry-index c.args.entries.now c.loop-entry.entries c.entry-item.result
    c.hear.new.self below c.entry-item.is
    (subst (λ e. Hears c.args.report.now (g.E.Seat.attached e) (g.E.Seat.attached c.hear.new.self))
    (sym c.entry-item.is) c.hear.ensures) c.loop-entry.invariant

pub returns : goal.returns
returns g c = changing_all _ c.loop-entry.entry-index _ _
    (let l = c.loop-entry.invariant.long in let f = c.loop-entry-test.false in omega arith)
    c.loop-entry.invariant
