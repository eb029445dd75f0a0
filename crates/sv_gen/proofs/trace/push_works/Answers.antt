use Rattle.std.proofs.Common.{refl}
use Rattle.sv_gen.specs.Draws.{state_after}
use Rattle.sv_gen.proofs.States.{work_state}
use Rattle.sv_gen.proofs.Texts.{no_works, works_step}
use Rattle.sv_gen.proofs.trace.push_works.Goals as goal

pub loop-init : goal.loop-init
unfolding state_after
loop-init c = record { text = no_works _ _ _; state = refl }

pub loop-preserved : goal.loop-preserved
loop-preserved c = record {
  text = works_step _ _ _ _ _ _ _ c.loop.invariant.state c.loop.invariant.text c.in_ok-push_work.ensures.text;
  state = work_state _ _ _ _ c.loop.invariant.state c.in_ok-push_work.ensures.state;
}
