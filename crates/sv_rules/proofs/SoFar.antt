-- A recording is lawful so far, and the size of each recording stays, where the trace grows.
use Rattle.std.proofs.Common.{◌≡◌, ℕ, ◌+◌, Option, None, Some, refl, arith, reverse, All, ◌==◌}
use Rattle.sv_model.specs.declared.line.Recording.{Recording}
use Rattle.sv_model.specs.declared.line.Trace.{Trace}
use Rattle.sv_model.specs.Declarations.{recording_of}
use Rattle.sv_rules.specs.SoFar.{IsAmong, RecordingIsLawfulSoFar}
use Rattle.sv_rules.proofs.Growth.{Grows, commands_kept}
use Rattle.sv_rules.proofs.Lists.{Holds, found_is}
use Rattle.sv_rules.proofs.Sizes.{CommandsAreLawful}

-- a recording to which nothing is added
pub recording_kept : (lines : ℕ) (t u : Trace) → Grows t u → (r : Recording)
    → (IsAmong u.text_order r.rec → IsAmong t.text_order r.rec) → RecordingIsLawfulSoFar lines t r
    → RecordingIsLawfulSoFar (lines + 1) u r
recording_kept lines t u g r before h = record {
  number = h.number;
  recorder = h.recorder;
  family = h.family;
  few = (let most = h.few in omega (arith, most));
  commands = commands_kept t u g r.family (reverse r.commands) h.commands;
  end = λ e. h.end (before e);
}

holds_of : {X : Type 0} (P : X → Type 0) (o : Option X) → ((x : X) → o ≡ Some x → P x) → Holds P o
holds_of P None h = tt
holds_of P (Some x) h = h x refl

-- the size of each recording stays where the trace grows and the recordings are the same
pub found_lawful : (lines : ℕ) (t : Trace) (k : ℕ) → All (RecordingIsLawfulSoFar lines t) t.recordings
    → Holds (CommandsAreLawful t) (recording_of t k)
found_lawful lines t k h = holds_of (CommandsAreLawful t) (recording_of t k)
    (λ r e. (found_is (RecordingIsLawfulSoFar lines t)
    (λ (x : Recording). x.rec == k) t.recordings r h e).commands)
