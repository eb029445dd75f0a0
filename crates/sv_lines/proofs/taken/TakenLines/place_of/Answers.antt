use Rattle.std.proofs.Common.{◌≡◌, ℕ, true, false, Option, None, Some, sym, ◌∙◌, ap, subst}
use Rattle.std.specs.Prelude.{is_none, is_some, option_and_then, slice_get}
use Rattle.sv_model.specs.declared.line.Trace.{Trace}
use Rattle.sv_model.specs.Declarations.{recording_of}
use Rattle.sv_rules.specs.Named.{is_new_recording}
use Rattle.sv_rules.specs.Taken.{Taken}
use Rattle.sv_lines.proofs.taken.TakenLines.place_of.Goals as goal

no_place : {X : Type 0} (o : Option ℕ) (found : Option X) → o ≡ None → is_some o ≡ is_some found
    → is_none found ≡ false → ⊥
no_place o None e k new = let both : true ≡ false = new in cc
no_place o (Some y) e k new = let both : false ≡ true = sym (ap is_some e) ∙ k in cc

begun : (t : Trace) (n : ℕ) → is_new_recording t n ≡ false → is_none (recording_of t n) ≡ false
unfolding is_new_recording
begun t n e = e

pub returns-in-Some : goal.returns-in-Some
returns-in-Some c = subst (λ (s : Taken). slice_get s.trace.recordings c.in-Some.place
    ≡ recording_of s.trace c.args.rec) c.self.view_is
    (ap (option_and_then (slice_get c.self.inside.recordings.list.items))
    (sym c.in-Some.is ∙ c.place.ensures) ∙ c.self.invariant.recorded.places c.args.rec)

pub returns-in-None : goal.returns-in-None
returns-in-None c = absurd (no_place _ _ (sym c.place.ensures ∙ c.in-None.is)
    (c.self.invariant.recorded.places_known c.args.rec)
    (begun _ c.args.rec (subst (λ (s : Taken). is_new_recording s.trace c.args.rec ≡ false)
    (sym c.self.view_is) c.requires)))
