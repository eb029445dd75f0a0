-- The reply to an event is whole once all of its items were taken.
use Rattle.std.proofs.Common.{ℕ, ◌+◌, ◌-◌, ◌<◌, ◌≤◌, ◌≡◌, ◌⊎◌, inl, inr, List, [], ◌∷◌, ◌++◌, Option, Some}
use Rattle.std.proofs.Common.{length, get_or, refl, sym, ap, subst, ◌∙◌, arith, length-append}
use Rattle.std.specs.Prelude.{option_map, slice_get}
use Rattle.std.specs.List.{All}
use Rattle.std.proofs.Common.{get_or-append-add}
use Rattle.std.proofs.Math.Seq.{get_or-append_seam}
use Rattle.std.proofs.lemmas.List.{append_cancel_left, get_or_append_left, length-map}
use Rattle.std.proofs.lemmas.List.Elements.{All-get_or}
use Rattle.std.proofs.lemmas.Option.{slice_get-get_or}
use Rattle.sv_model.specs.Places.{Bound}
use Rattle.sv_model.specs.Laws.{Continues}
use Rattle.sv_model.specs.Notes.{AreGreatestNotes, Noted}
use Rattle.sv_model.specs.ReplyLaws.{NotesGoOn, notes_of_more}
use Rattle.sv_model.specs.Replies.{IsReply, IsReportedIn, among, releasing}
use Rattle.sv_model.specs.Reports.{IsReported, IsReportedFrom, Spot, story_of}
use Rattle.sv_model.specs.Work.{work, work_steps}
use Rattle.sv_model.specs.declared.line.Mark.{Mark}
use Rattle.sv_model.specs.declared.line.Trace.{Trace}
use Rattle.sv_model.specs.declared.work.Reply.{Reply}
use Rattle.sv_model.specs.declared.work.Step.{Step}
use Rattle.sv_model.proofs.NoteGrowth.{all_released, notes_grow}
use Rattle.sv_model.proofs.ReplyGrowth.{replies_stay, work_numbered}
use Rattle.sv_model.proofs.Stable.{later_events_add}
use Rattle.sv_model.proofs.Works.{work_below}
use Rattle.sv_replies.specs.Replying.{IsReplySoFar, steps_in}
use Rattle.sv_history_laws.specs.Ways.{RepliesAreWhole, RepliesGoOn, longer}

before_or_after : (k n : ℕ) → (k < n) ⊎ (n ≤ k)
before_or_after k n = grind arith

abbrev event_of : Option Bound → Option ℕ
event_of o = option_map (λ (b : Bound). b.event) o

abbrev IsReleased : List Mark → Bound → Type 0
IsReleased history b = b.event < length history

module _ (t : Trace) (h : List Mark) (m : Mark) (more : List Bound)
    (is : work t (longer h m) ≡ work t h ++ more) where
  -- the steps that the event adds are these
  same_more : (others : List Bound) → work t (longer h m) ≡ work t h ++ others → others ≡ more
  same_more others e = append_cancel_left (work t h) others more (sym e ∙ is)

  released : All (λ (b : Bound). b.event ≡ length h) more
  released = let law : Continues t h m = later_events_add t h m in
      subst (All (λ (b : Bound). b.event ≡ length h)) (same_more law.more law.is) law.released

  steps_are : work_steps t (longer h m) ≡ steps_in (work t h ++ more)
  steps_are = ap steps_in is

  -- a step of the event
  at_step : (step : ℕ) → length (work t h) ≤ step → step < length (work t h ++ more)
      → releasing t (longer h m) step ≡ Some (length h)
  at_step step from within = by_more more refl
    where
      by_more : (bs : List Bound) → more ≡ bs → releasing t (longer h m) step ≡ Some (length h)
      by_more [] none = absurd (let l = length-append (work t h) more in let z =
          ap (λ (xs : List Bound). length xs) none in omega (arith, l, z, from, within))
      by_more (b ∷ bs) some =
          let k : length (work t h) + (step - length (work t h)) ≡ step = omega (arith, from) in
          let l = length-append (work t h) more in
          let at : get_or (work t h ++ more) step b ≡ get_or more (step - length (work t h)) b =
          ap (λ (n : ℕ). get_or (work t h ++ more) n b) (sym k)
          ∙ get_or-append-add (work t h) more (step - length (work t h)) b in
          let of : (get_or more (step - length (work t h)) b).event ≡ length h =
          All-get_or (λ (x : Bound). x.event ≡ length h) more (step - length (work t h)) b
          (omega (arith, l, within, from)) released in
          ap (λ (xs : List Bound). event_of (slice_get xs step)) is
          ∙ ap event_of (slice_get-get_or (work t h ++ more) step b within)
          ∙ ap (λ (x : Bound). Some x.event) at
          ∙ ap Some of

  -- a step that the event released is one of these
  from_step : (step : ℕ) → releasing t (longer h m) step ≡ Some (length h) → length (work t h) ≤ step
  from_step step e = elim (before_or_after step (length (work t h))) [
    | inr from ↦ from
    | inl before ↦ absurd (by_first (work t h) refl before)
  ]
    where
      by_first : (bs : List Bound) → work t h ≡ bs → step < length (work t h) → ⊥
      by_first [] none lt = let z = ap (λ (xs : List Bound). length xs) none in omega (arith, z, lt)
      by_first (b ∷ bs) some lt =
          let l = length-append (work t h) more in
          let there : event_of (slice_get (work t h ++ more) step) ≡ Some (get_or (work t h) step b).event =
          ap event_of (slice_get-get_or (work t h ++ more) step b (omega (arith, l, lt)))
          ∙ ap (λ (x : Bound). Some x.event) (get_or_append_left (work t h) more b step lt) in
          let given : event_of (slice_get (work t h ++ more) step) ≡ Some (length h) =
          ap (λ (xs : List Bound). event_of (slice_get xs step)) (sym is) ∙ e in
          let both : Some (get_or (work t h) step b).event ≡ Some (length h) = sym there ∙ given in
          let same : (get_or (work t h) step b).event ≡ length h = cc in
          let below : (get_or (work t h) step b).event < length h =
          All-get_or (IsReleased h) (work t h) step b lt (all_released t h) in
          omega (arith, same, below)

  module _ (reply : Reply) (so_far : IsReplySoFar t (length h) (work t h) more reply) where
    spot_is : (s : Spot) → IsReportedFrom (length (work t h)) (steps_in (work t h ++ more)) s
        → IsReportedIn t (longer h m) (length h) s
    spot_is s r =
        let there : IsReported (story_of (work_steps t (longer h m)) s.cell) s.later s.earlier s.kind =
        subst (λ (steps : List Step). IsReported (story_of steps s.cell) s.later s.earlier s.kind)
        (sym steps_are) r.reported in
        let below = (work_below (work_steps t (longer h m)) s.cell (work_numbered t (longer h m))).accesses
        s.later there.listed in
        let long = length-map (work t (longer h m)) (λ (b : Bound). b.step) in
        let longer_is = ap (λ (xs : List Bound). length xs) is in
        let at = r.at in record {
          released = at_step s.later.step at (omega (arith, below, long, longer_is));
          reported = there;
        }

    spot_was : (s : Spot) → IsReportedIn t (longer h m) (length h) s
        → IsReportedFrom (length (work t h)) (steps_in (work t h ++ more)) s
    spot_was s r = record {
      at = from_step s.later.step r.released;
      reported = subst (λ (steps : List Step). IsReported (story_of steps s.cell) s.later s.earlier s.kind)
          steps_are r.reported;
    }

    pub whole : IsReply t (longer h m) (length h) reply
    whole =
        let law : NotesGoOn t h m = notes_grow t h m in record {
          reports = record {
            only = λ s on. spot_is s (so_far.reports.only s on);
            all = λ s r. so_far.reports.all s (spot_was s r);
            in_order = so_far.reports.in_order;
            runs = record { whole = refl; runs = so_far.runs.runs; apart = so_far.runs.apart };
          };
          notes = subst (λ (ns : List Noted). AreGreatestNotes (among reply.reports ns) reply.notes)
              (sym (law.own ∙ ap (notes_of_more t (length h) (work t h)) (same_more law.more law.is)))
              so_far.notes;
        }

pub replies_are_whole : RepliesAreWhole
replies_are_whole t history m more reply is so_far = whole t history m more is reply so_far

pub replies_go_on : RepliesGoOn
replies_go_on t history m replies reply are is =
    let long = are.long in
    let l = length-append replies (reply ∷ []) in
    let k = length-append history (m ∷ []) in record {
      long = omega (arith, long, l, k);
      each = λ event d lt. elim (before_or_after event (length history)) [
        | inl before ↦ subst (IsReply t (longer history m) event)
            (sym (get_or_append_left replies (reply ∷ []) d event (omega (arith, long, before))))
            (replies_stay t history m event (get_or replies event d) before (are.each event d before))
        | inr last ↦ (
            let e : event ≡ length history = omega (arith, lt, k, last) in
            let same : length replies ≡ event = omega (arith, e, long) in
            let at : get_or (replies ++ reply ∷ []) event d ≡ reply =
            ap (λ (n : ℕ). get_or (replies ++ reply ∷ []) n d) (sym same)
            ∙ get_or-append_seam replies reply [] d in
            subst (IsReply t (longer history m) event) (sym at)
            (subst (λ (n : ℕ). IsReply t (longer history m) n reply) (sym e) is))
      ];
    }
