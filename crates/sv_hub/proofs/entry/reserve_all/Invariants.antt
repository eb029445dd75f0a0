use Rattle.std.proofs.Common.{◌≤◌}
use Rattle.sv_hub.specs.Attachments.{Reserves}
use Rattle.sv_hub.proofs.Changes.{Changing}
use Rattle.sv_hub.proofs.entry.reserve_all.Given as goal

-- those before this place have made room, and the others are as they were
abbrev pub invariant-loop-entry : goal.invariant-loop-entry
invariant-loop-entry g l =
    Changing (λ a b. Reserves (g.E.Seat.attached a) (g.E.Seat.attached b)
    × (l.more ≤ (g.E.Seat.attached b).spare)) l.entry-index l.fn.entries l.entries
