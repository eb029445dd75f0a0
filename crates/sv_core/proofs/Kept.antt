-- What holds of every validator, before and after an event.
use Rattle.std.proofs.Common.{◌≡◌, Bool, true, false, List, [], ◌∷◌, ◌++◌, length, refl, sym, subst, arith}
use Rattle.sv_model.specs.History.{IsHistory, IsWhole}
use Rattle.sv_model.specs.Lawful.{IsLawful}
use Rattle.sv_model.specs.Replies.{AreReplies, IsReply}
use Rattle.sv_model.specs.declared.line.Mark.{Mark}
use Rattle.sv_model.specs.declared.line.Trace.{Trace}
use Rattle.sv_model.specs.declared.work.Reply.{Reply}
use Rattle.sv_history_laws.proofs.WholeReplies.{replies_go_on}
use Rattle.sv_core.specs.Going.{AreReady, AreReadyUnlessSpent}
use Rattle.sv_core.specs.State.{Holds, IsSpaceAfter}
use Rattle.sv_core.specs.declared.parts.Parts.{Parts}
use Rattle.sv_core.proofs.Lacking.{lacks, none_yet}

pub space_stands : (t : Trace) (history : List Mark) (spent : Bool) (p : Parts)
    → AreReadyUnlessSpent spent t history p → spent ≡ false → IsSpaceAfter t history p.work.checks.space
space_stands t history true p ready e = absurd (let f : true ≡ false = e in cc)
space_stands t history false p ready e = record {
  stands = ready.stands.steps.space;
  resources = ready.fits.areas.space;
}

-- after one more event
pub holds_next : (t : Trace) (old new : List Mark) (m : Mark) (before after : List Reply) (reply : Reply)
    (p : Parts) → IsLawful t → AreReplies t old before → IsHistory t (old ++ m ∷ []) → new ≡ old ++ m ∷ []
    → after ≡ before ++ reply ∷ []
    → IsReply t new (length old) reply → AreReady t new p → Holds t new after false p
holds_next t old new m before after reply p lawful answered next e f is ready = record {
  lawful = lawful;
  is_history = subst (IsHistory t) (sym e) next;
  answered = subst (λ (h : List Mark). AreReplies t h after) (sym e)
      (subst (λ (rs : List Reply). AreReplies t (old ++ m ∷ []) rs) (sym f)
      (replies_go_on t old m before reply answered
      (subst (λ (h : List Mark). IsReply t h (length old) reply) e is)));
  ready = ready;
  lacks = tt;
}

-- after a stop
pub holds_stopped : (t : Trace) (old new : List Mark) (m : Mark) (before after : List Reply) (p : Parts)
    → IsLawful t → IsHistory t old → AreReplies t old before → IsHistory t (old ++ m ∷ []) → new ≡ old
    → after ≡ before → Holds t new after true p
holds_stopped t old new m before after p lawful is answered next e f = record {
  lawful = lawful;
  is_history = subst (IsHistory t) (sym e) is;
  answered = subst (λ (h : List Mark). AreReplies t h after) (sym e)
      (subst (λ (rs : List Reply). AreReplies t old rs) (sym f) answered);
  ready = tt;
  lacks = subst (λ (h : List Mark). ¬ IsWhole t h) (sym e) (lacks t old m next);
}
