use Rattle.std.proofs.Common.{◌≡◌, ◌<◌, true, false, sym, subst}
use Rattle.sv_rules.specs.Named.{is_new_recording}
use Rattle.sv_rules.specs.Places.{is_recording}
use Rattle.sv_rules.specs.Taken.{Taken}
use Rattle.sv_lines.proofs.Beginning.{begin_kept, begin_again}
use Rattle.sv_lines.proofs.taken.TakenLines.keep_begin.Goals as goal

pub invariant_of-self : goal.invariant_of-self
invariant_of-self c = begin_again c.self.inside c.begin.new.self.list.items c.begin.new.self.known.items
    c.begin.new.self.places c.begin.new.self.busy c.self.invariant
    c.in_err-begin.ensures.fault.0 c.in_err-begin.ensures.fault.1 c.in_err-begin.ensures.fault.2
    c.in_err-begin.ensures.fault.3

pub invariant_of-self-2 : goal.invariant_of-self-2
invariant_of-self-2 c = begin_kept c.self.inside c.begin.new.self.list.items c.begin.new.self.known.items
    c.begin.new.self.places c.begin.new.self.busy c.args.rec c.args.recorder c.args.family c.self.invariant
    (subst (λ (s : Taken). s.lines < 1000000) (sym c.self.view_is) c.requires.few) c.requires.recorder
    (subst (λ (s : Taken). is_recording s.trace c.args.recorder ≡ false) (sym c.self.view_is) c.requires.idle)
    (subst (λ (s : Taken). is_new_recording s.trace c.args.rec ≡ true) (sym c.self.view_is) c.requires.first)
    c.in_ok-begin.ensures.list c.in_ok-begin.ensures.known c.in_ok-begin.ensures.places
    c.in_ok-begin.ensures.busy
