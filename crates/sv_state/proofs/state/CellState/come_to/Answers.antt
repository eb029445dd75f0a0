use Rattle.std.proofs.Common.{arith, refl, subst, take, drop, length, ◌++◌}
use Rattle.sv_state.specs.States.{AreChangedFrom, HasAdvanced}
use Rattle.sv_state.proofs.Changes.{changed_whole}
use Rattle.sv_state.proofs.Fullness.{live_full}
use Rattle.sv_state.proofs.Quiet.{advanced_over, come_there, state_over}
use Rattle.sv_state.proofs.StateLaws.{state_advanced}
use Rattle.sv_state.proofs.state.CellState.come_to.Goals as goal

pub returns-in_ok-advance_from-2 : goal.returns-in_ok-advance_from-2
returns-in_ok-advance_from-2 c =
    let old = c.args.self.now in
    let first = subst (λ n. AreChangedFrom n HasAdvanced old.written.items
    (take old.written.len (c.advance_from.new.entries
    ++ drop (length c.advance_from.new.entries) old.written.items))) c.first_live-first.ensures.place
    (changed_whole HasAdvanced c.first_live-first.result old.written.items c.deref_mut.result.now
    c.advance_from.new.entries old.written.len c.deref_mut.ensures.value
    c.deref_mut.ensures.len c.in_ok-advance_from.ensures) in
    let second = changed_whole HasAdvanced 0 old.reads.items
    c.deref_mut-then-self-step.result.now c.advance_from-then-self-step.new.entries
    old.reads.len c.deref_mut-then-self-step.ensures.value
    c.deref_mut-then-self-step.ensures.len c.in_ok-advance_from-2.ensures in
    record {
      comes = λ le. state_advanced old _ c.if-self-step.true refl first second;
      passes = λ le. advanced_over old _ c.if-self-step.true refl first second;
      keeps = live_full HasAdvanced (λ e f h. h.access) (λ e f h. h.keeps) old.alike old.written.items
          old.reads.items _ _ first second;
    }

pub returns-else-self-step-clause-passes : goal.returns-else-self-step-clause-passes
returns-else-self-step-clause-passes c = λ le. state_over c.args.self.now c.args.self.now c.args.step
    (λ e on. (e, on, refl)) le (come_there c.args.self.now c.args.step (omega arith))
