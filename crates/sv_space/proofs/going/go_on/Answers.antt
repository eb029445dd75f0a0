use Rattle.std.proofs.Common.{◌≡◌, ◌≤◌, ◌-◌, arith, get_or, refl, sym}
use Rattle.sv_model.specs.declared.work.Group.{Group}
use Rattle.sv_space.proofs.PassedOver.{goes_over, goes_to, in_rest}
use Rattle.sv_space.proofs.Patterned.{full_kept}
use Rattle.sv_space.proofs.going.go_on.Goals as goal

pub returns-in_ok-extend_in_place-clause-known : goal.returns-in_ok-extend_in_place-clause-known
returns-in_ok-extend_in_place-clause-known c =
    let patterns = c.args.patterns.now.items in
    let full = c.next_of-next.new.full in
    full_kept c.come_to.new.self c.extend_in_place.new.self patterns full c.in_ok-extend_in_place.ensures.keeps
    (full_kept c.args.state.now c.come_to.new.self patterns full c.in_ok-come_to.ensures.keeps
    c.next_of-next.ensures.known)

pub returns-in_ok-extend_in_place-clause-gone : goal.returns-in_ok-extend_in_place-clause-gone
returns-in_ok-extend_in_place-clause-gone c = λ cell only may.
    let log = c.args.groups.now.items in
    let next = c.next_of-next.result in
    let said = c.next_of-next.ensures in
    let h : Group = c.index-group.result.now in
    let is : get_or log next h ≡ h = sym c.index-group.ensures in
    let le : c.args.state.now.step ≤ h.step =
    may.after h (in_rest log c.args.done next h said.first (omega arith) is) in
    let come = c.in_ok-come_to.ensures.comes le in
    goes_to cell log c.args.done next c.args.state.now c.come_to.new.self said.first may said.passed
    said.late h.step (c.in_ok-come_to.ensures.passes le) h c.extend_in_place.new.self (omega arith) is refl
    (c.in_ok-extend_in_place.ensures.grows cell only (let s = come.step in omega (arith, s)))

pub returns-in_ok-come_to-2-clause-known : goal.returns-in_ok-come_to-2-clause-known
returns-in_ok-come_to-2-clause-known c = full_kept c.args.state.now c.come_to-else-next-len.new.self
    c.args.patterns.now.items c.next_of-next.new.full c.in_ok-come_to-2.ensures.keeps
    c.next_of-next.ensures.known

pub returns-in_ok-come_to-2-clause-gone : goal.returns-in_ok-come_to-2-clause-gone
returns-in_ok-come_to-2-clause-gone c = λ cell only may.
    let log = c.args.groups.now.items in
    let next = c.next_of-next.result in
    let said = c.next_of-next.ensures in
    let h : Group = c.index.result.now in
    let is : get_or log (next - 1) h ≡ h = sym c.index.ensures in
    let le : c.args.state.now.step ≤ h.step =
    may.after h (in_rest log c.args.done (next - 1) h (omega arith) (omega arith) is) in
    let come = c.in_ok-come_to-2.ensures.comes le in
    goes_over cell log c.args.done next c.args.state.now c.come_to-else-next-len.new.self said.first may
    said.passed said.late h.step (c.in_ok-come_to-2.ensures.passes le) h (omega arith) (omega arith) is
    refl come.step
