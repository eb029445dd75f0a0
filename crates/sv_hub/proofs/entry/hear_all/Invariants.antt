use Rattle.sv_hub.specs.Attachments.{Hears}
use Rattle.sv_hub.proofs.Changes.{Changing}
use Rattle.sv_hub.proofs.entry.hear_all.Given as goal

-- those before this place have heard the report, and the others are as they were
abbrev pub invariant-loop-entry : goal.invariant-loop-entry
invariant-loop-entry g l = Changing (λ a b. Hears l.report (g.E.Seat.attached a) (g.E.Seat.attached b))
    l.entry-index l.fn.entries l.entries
