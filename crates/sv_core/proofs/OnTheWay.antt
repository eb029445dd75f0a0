-- From a history to the next: before any item of the event, after one more, after the last.
use Rattle.std.proofs.Common.{ℕ, ◌≡◌, List, [], ◌++◌, None, Some, length, refl, sym, ap, subst, arith}
use Rattle.std.proofs.Common.{append-nil}
use Rattle.std.proofs.lemmas.List.{length-map}
use Rattle.std.proofs.lemmas.List.Elements.{All-nil}
use Rattle.sv_model.specs.Places.{Bound}
use Rattle.sv_model.specs.Holding.{past, Flow, Holding, arrived, flow, items_of, next}
use Rattle.sv_model.specs.Laws.{left_by_items}
use Rattle.sv_model.specs.Primitives.{Made}
use Rattle.sv_model.specs.Notes.{cells_of_notes}
use Rattle.sv_model.specs.Reports.{AreNumbered, AreReportsFrom, IsRun, spots_of}
use Rattle.sv_model.specs.Work.{made, work}
use Rattle.sv_model.specs.declared.line.Mark.{Mark}
use Rattle.sv_model.specs.declared.line.Trace.{Trace}
use Rattle.sv_model.specs.declared.work.Item.{Item}
use Rattle.sv_model.specs.declared.work.Report.{Report}
use Rattle.sv_model.proofs.Works.{work_below}
use Rattle.sv_gate.specs.Gates.{IsGateOf}
use Rattle.sv_space.specs.Steps.{AreInOrder}
use Rattle.sv_replies.specs.Replying.{IsNoteBelow, IsReplySoFar, steps_in}
use Rattle.sv_steps.specs.Checked.{StandForSteps}
use Rattle.sv_processed.specs.Works.{IsAt, IsLeft}
use Rattle.sv_history_laws.specs.Ways.{added, left_at, longer, taken_now, with_item}
use Rattle.sv_history_laws.proofs.Onward.{ways_begin, ways_end, ways_go_on}
use Rattle.sv_history_laws.proofs.WholeReplies.{replies_are_whole}
use Rattle.sv_batch.specs.Running.{ArePublished}
use Rattle.sv_core.specs.Standing.{HasEnded, IsOnTheWay, StandsForHistory}
use Rattle.sv_core.specs.declared.parts.Parts.{Parts}
use Rattle.sv_step_laws.proofs.Areas.{in_nothing}

no_spots : spots_of [] ≡ []
unfolding spots_of
no_spots = refl

no_cells : cells_of_notes [] ≡ []
unfolding cells_of_notes
no_cells = refl

-- an event that released nothing yet is answered nothing
pub nothing_so_far : (t : Trace) (event : ℕ) (old : List Bound) → AreInOrder (steps_in old)
    → IsReplySoFar t event old [] (record { reports = []; notes = [] })
nothing_so_far t event old in_order = record {
  reports = subst (AreReportsFrom (length old) (steps_in (old ++ []))) (sym no_spots) (record {
    only = λ s on. absurd (in_nothing s on);
    all = λ s r. absurd (
        let numbered : AreNumbered (steps_in (old ++ [])) = λ k d lt. (ordered k d lt).numbered in
        let below = (work_below (steps_in (old ++ [])) s.cell numbered).accesses s.later r.reported.listed in
        let long = length-map (old ++ []) (λ (b : Bound). b.step) in
        let same = ap (λ (bs : List Bound). length bs) (append-nil old) in
        let at = r.at in
        omega (arith, below, long, same, at));
    in_order = λ i j d lt len. absurd (omega (arith, len));
  });
  runs = record { runs = All-nil (λ (r : Report). IsRun r.area); apart = tt };
  notes = record { whole = no_cells; runs = All-nil _; apart = tt };
  below = All-nil (IsNoteBelow (length (old ++ [])));
}
  where
    ordered : AreInOrder (steps_in (old ++ []))
    ordered = subst (λ (bs : List Bound). AreInOrder (steps_in bs)) (sym (append-nil old)) in_order

-- before any item of the event: it arrived, and nothing is answered yet
pub way_begins : (t : Trace) (history : List Mark) (m : Mark) (before after : Parts)
    → StandsForHistory t history before → IsGateOf t (arrived (flow t history) m).holding after.gate
    → ArePublished t (longer history m) after.recordings
    → IsLeft t (left_by_items t history (flow t history).done) after.work
    → StandForSteps t (work t history) after.work.checks → after.work.checks.reply
    ≡ record { reports = []; notes = [] } → IsOnTheWay t history m after
way_begins t history m before after stands gate recordings left steps empty =
    let begins = ways_begin t history m in record {
      now = arrived (flow t history) m;
      more = [];
      way = begins.way;
      gate = gate;
      recordings = recordings;
      at = record {
        left = subst (λ (k : Made). IsLeft t k after.work) (sym begins.left) left;
        steps = subst (λ (bs : List Bound). StandForSteps t bs after.work.checks)
            (sym (append-nil (work t history))) steps;
        reply = subst (IsReplySoFar t (length history) (work t history) []) (sym empty)
            (nothing_so_far t (length history) (work t history) steps.in_order);
      };
    }

-- one more item was taken by the gate, and its steps and what it leaves by the work
pub way_goes_on : (t : Trace) (history : List Mark) (m : Mark) (before : Parts)
    (is : IsOnTheWay t history m before) (item : Item) (holding : Holding)
    → next t (past t is.now.holding.events (items_of is.now.done)) is.now.holding ≡ Some (item, holding)
    → (after : Parts) → IsGateOf t holding after.gate → after.recordings ≡ before.recordings
    → IsAt t (length history) (work t history) (is.more ++ added t history m is.now is.more item)
    (made t (longer history m) (left_at t history m is.now) (taken_now is.now item)) after.work
    → IsOnTheWay t history m after
way_goes_on t history m before is item holding e after gate same at =
    let goes = ways_go_on t history m is.now is.more item holding is.way e in record {
      now = with_item is.now item holding;
      more = is.more ++ added t history m is.now is.more item;
      way = goes.way;
      gate = gate;
      recordings = subst (ArePublished t (longer history m)) (sym same) is.recordings;
      at = subst (λ (k : Made). IsAt t (length history) (work t history)
          (is.more ++ added t history m is.now is.more item) k after.work) (sym goes.left) at;
    }

-- nothing is enabled any more
pub way_ends : (t : Trace) (history : List Mark) (m : Mark) (p : Parts) (is : IsOnTheWay t history m p)
    → next t (past t is.now.holding.events (items_of is.now.done)) is.now.holding ≡ None
    → HasEnded t history m p
way_ends t history m p is e =
    let ends = ways_end t history m is.now is.more is.way e in record {
      stands = record {
        gate = subst (λ (s : Flow). IsGateOf t s.holding p.gate) ends.flow is.gate;
        recordings = is.recordings;
        left = subst (λ (s : Flow). IsLeft t (left_by_items t (longer history m) s.done) p.work) ends.flow
            is.at.left;
        steps = subst (λ (bs : List Bound). StandForSteps t bs p.work.checks) (sym ends.work) is.at.steps;
      };
      reply = replies_are_whole t history m is.more p.work.checks.reply ends.work is.at.reply;
    }
