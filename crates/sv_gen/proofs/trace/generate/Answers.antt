use Rattle.std.proofs.Common.{◌≡◌, ◌+◌, ◌*◌, ◌/◌, ◌%◌, ◌≤◌, min, arith}
use Rattle.sv_gen.specs.Draws.{state_after}
use Rattle.sv_gen.proofs.States.{recording_state}
use Rattle.sv_gen.proofs.Texts.{opened, ended, recordings_step}
use Rattle.sv_gen.proofs.trace.generate.Goals as goal

pub loop-rec-init : goal.loop-rec-init
unfolding state_after
loop-rec-init c = record {
  text = opened _ _ _ _ c.new-text.ensures.bytes c.in_ok-push_opening.ensures;
  state = λ _. c.new-draws.ensures;
}

pub loop-rec-preserved : goal.loop-rec-preserved
loop-rec-preserved c =
    let le : 100 * c.loop-rec.rec ≤ c.args.count = omega arith in
    record {
      text = recordings_step _ _ _ _ _ _ _ _ c.min-works.ensures
          (c.loop-rec.invariant.state le) c.loop-rec.invariant.text c.in_ok-push_recording.ensures.text;
      state = λ next. recording_state _ _ _ _ _ _ c.min-works.ensures next
          (c.loop-rec.invariant.state le) c.in_ok-push_recording.ensures.state;
    }

pub returns : goal.returns
returns c =
    let e : c.loop-rec.rec ≡ c.args.count / 100 + min 1 (c.args.count % 100) = omega arith in
    rw c.into_bytes.ensures.value (ended _ _ _ _ e c.loop-rec.invariant.text)
