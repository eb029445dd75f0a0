use Rattle.std.proofs.Common.{List, false, sym, ap, subst}
use Rattle.sv_model.specs.declared.line.Trace.{Trace}
use Rattle.sv_lines.specs.Sound.{IsSound}
use Rattle.sv_rules.specs.Trace.{no_lines}
use Rattle.sv_lines.specs.declared.known.Known.{Known}
use Rattle.sv_rules.specs.Taken.{Taken}
use Rattle.sv_lines.proofs.Fresh.{nothing_sound, trace_is}
use Rattle.sv_lines.proofs.taken.TakenLines.new.Goals as goal

pub invariant_of-result : goal.invariant_of-result
invariant_of-result c =
    subst (λ (t : Trace). IsSound 0 t 0 c.new.result.table c.new-2.result.table c.new-3.result.table
    c.new-4.result.table c.new-5.result.table c.new-6.result.table c.new-7.result
    c.new-8.result.known.items c.new-8.result.places c.new-8.result.busy)
    (sym (trace_is c.new.result.lines.items c.new-2.result.lines.items c.new-3.result.lines.items
    c.new-4.result.lines.items c.new-5.result.lines.items c.new-6.result.lines.items
    c.new-8.result.list.items c.new-9.result.lanes c.new-9.result.recorders c.new-9.result.order.items
    c.new.ensures.lines c.new-2.ensures.lines c.new-3.ensures.lines c.new-4.ensures.lines
    c.new-5.ensures.lines c.new-6.ensures.lines c.new-8.ensures.list c.new-9.ensures.lanes
    c.new-9.ensures.recorders c.new-9.ensures.order))
    (subst (λ (known : List Known). IsSound 0 no_lines 0 c.new.result.table c.new-2.result.table
    c.new-3.result.table c.new-4.result.table c.new-5.result.table c.new-6.result.table c.new-7.result
    known c.new-8.result.places c.new-8.result.busy)
    (sym c.new-8.ensures.known)
    (nothing_sound c.new.result.table c.new-2.result.table c.new-3.result.table c.new-4.result.table
    c.new-5.result.table c.new-6.result.table c.new-7.result c.new-8.result.places c.new-8.result.busy
    c.new.ensures.table c.new-2.ensures.table c.new-3.ensures.table c.new-4.ensures.table
    c.new-5.ensures.table c.new-6.ensures.table c.new-8.ensures.places c.new-8.ensures.busy))

pub returns : goal.returns
returns c = ap (λ (t : Trace). let s : Taken = record { lines = 0; begun = false; trace = t } in s)
    (trace_is c.new.result.lines.items c.new-2.result.lines.items c.new-3.result.lines.items
    c.new-4.result.lines.items c.new-5.result.lines.items c.new-6.result.lines.items
    c.new-8.result.list.items c.new-9.result.lanes c.new-9.result.recorders c.new-9.result.order.items
    c.new.ensures.lines c.new-2.ensures.lines c.new-3.ensures.lines c.new-4.ensures.lines
    c.new-5.ensures.lines c.new-6.ensures.lines c.new-8.ensures.list c.new-9.ensures.lanes
    c.new-9.ensures.recorders c.new-9.ensures.order)
