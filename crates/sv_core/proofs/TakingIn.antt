-- An event is taken in: it arrives, items are taken one after another, and the reply is handed out.
use Rattle.std.proofs.Common.{ℕ, ◌-◌, ◌≡◌, List, [], ◌∷◌, ◌++◌, Option, Some, None, length, refl, sym, ap}
use Rattle.std.proofs.Common.{subst, ◌∙◌}
use Rattle.std.specs.Prelude.{Result, Ok, Err, OnOk}
use Rattle.sv_model.specs.Places.{Bound}
use Rattle.sv_model.specs.Holding.{past, Flow, Holding, arrived, flow, items_of, next, start}
use Rattle.sv_model.specs.Lawful.{IsLawful}
use Rattle.sv_model.specs.Laws.{left_by_items}
use Rattle.sv_model.specs.Primitives.{Made, nothing_made}
use Rattle.sv_model.specs.Replies.{IsReply}
use Rattle.sv_model.specs.Work.{bound_steps, item_given, item_made, numbered, work}
use Rattle.sv_model.specs.declared.line.Mark.{Mark}
use Rattle.sv_model.specs.declared.line.Trace.{Trace}
use Rattle.sv_model.specs.declared.recorded.Event.{Event}
use Rattle.sv_model.specs.declared.work.Item.{Item}
use Rattle.sv_model.specs.declared.work.Reply.{Reply}
use Rattle.sv_model.specs.declared.work.Taken.{Taken}
use Rattle.sv_model.proofs.Settling.{some_is}
use Rattle.sv_fence.specs.Stands.{FencesStandFor}
use Rattle.sv_sema.specs.Stands.{SemaphoresStandFor}
use Rattle.sv_gate.specs.Gates.{IsGateOf, Takes}
use Rattle.sv_gate.specs.declared.gate.Gate.{Gate}
use Rattle.sv_steps.specs.Checked.{StandForSteps}
use Rattle.sv_steps.specs.declared.checks.Checks.{Checks}
use Rattle.sv_processed.specs.Works.{IsAt, IsLeft, WorkFits}
use Rattle.sv_processed.specs.declared.work.Work.{Work}
use Rattle.sv_processed.proofs.OneStep.{fits_after, left_after}
use Rattle.sv_history_laws.specs.Ways.{left_at, longer}
use Rattle.sv_history_laws.proofs.Onward.{flow_events, ways_have_events}
use Rattle.sv_core.specs.Going.{AreReady, HasCome, IsGoing, MayTakeIn}
use Rattle.sv_core.specs.Marks.{IsOwn, mark_of}
use Rattle.sv_core.specs.Runnable.{IsRunnable}
use Rattle.sv_batch.specs.Running.{AreOf, ArePublished, MayRun}
use Rattle.sv_core.specs.Standing.{IsOnTheWay, StandsForHistory}
use Rattle.sv_core.specs.declared.parts.Parts.{Parts}
use Rattle.sv_batch.specs.declared.recordings.Recordings.{Recordings}
use Rattle.sv_core.proofs.OnTheWay.{way_begins, way_ends, way_goes_on}
use Rattle.sv_core.proofs.TakenItems.{ItemTakes, number_is, runnable}

-- The reply may be changed.

abbrev pub with_reply : Work → Reply → Work
with_reply w r = record w { checks = record w.checks { reply = r } }

steps_with : (t : Trace) (bs : List Bound) (c : Checks) (r : Reply) → StandForSteps t bs c
    → StandForSteps t bs (record c { reply = r })
steps_with t bs c r stands = record {
  count = stands.count;
  in_order = stands.in_order;
  space = stands.space;
  layouts = stands.layouts;
  owners = stands.owners;
}

fits_with : (t : Trace) (w : Work) (r : Reply) → WorkFits t w → WorkFits t (with_reply w r)
fits_with t w r fits = fits_after t w (record w.checks { reply = r })
    (record { space = fits.areas.space; layouts = fits.areas.layouts; owners = fits.areas.owners }) fits

-- Before any event.

flow_empty : (t : Trace) → flow t [] ≡ start
unfolding flow
flow_empty t = refl

work_empty : (t : Trace) → bound_steps t [] [] ≡ []
unfolding bound_steps
work_empty t = refl

pub ready_first : (t : Trace) (p : Parts) → IsLawful t → IsGateOf t start.holding p.gate
    → ArePublished t [] p.recordings → IsLeft t nothing_made p.work → StandForSteps t [] p.work.checks
    → WorkFits t p.work → AreReady t [] p
ready_first t p lawful gate published left steps fits = record {
  lawful = lawful;
  fits = fits;
  stands = record {
    gate = subst (λ (s : Flow). IsGateOf t s.holding p.gate) (sym (flow_empty t)) gate;
    recordings = published;
    left = subst (λ (s : Flow). IsLeft t (left_by_items t [] s.done) p.work) (sym (flow_empty t)) left;
    steps = subst (λ (s : Flow). StandForSteps t (bound_steps t [] s.done) p.work.checks)
        (sym (flow_empty t)) (subst (λ (bs : List Bound). StandForSteps t bs p.work.checks)
        (sym (work_empty t)) steps);
  };
}

-- The event arrives.

abbrev pub Arrives : ℕ → Mark → Gate → Gate → Type 0
Arrives number m before after = (t : Trace) (h : Holding) → IsGateOf t h before → number ≡ length h.events
    → IsGateOf t (arrived (record { done = []; holding = h }) m).holding after

abbrev pub Publishes : Trace → Event → Recordings → Recordings → Type 0
Publishes t e before after = (history : List Mark) → IsOwn t e → ArePublished t history before
    → ArePublished t (history ++ mark_of e ∷ []) after

pub going_begins : (t : Trace) (list : List Mark) (number : ℕ) (e : Event) (p q : Parts) (r : Reply) → r
    ≡ record { reports = []; notes = [] } → MayTakeIn t list number e p
    → Arrives number (mark_of e) p.gate q.gate → Publishes t e p.recordings q.recordings → q.work
    ≡ with_reply p.work r → IsGoing t list number q
going_begins t list number e p q r empty may arrives publishes same =
    let stands = may.ready.stands in
    let before = may.before in
    let left : IsLeft t (left_by_items t before (flow t before).done) q.work =
    subst (IsLeft t (left_by_items t before (flow t before).done)) (sym same)
    (left_after t (left_by_items t before (flow t before).done) p.work
    (record p.work.checks { reply = r }) stands.left) in
    let steps : StandForSteps t (work t before) q.work.checks =
    subst (λ (w : Work). StandForSteps t (work t before) w.checks) (sym same)
    (steps_with t (work t before) p.work.checks r stands.steps) in
    let gate : IsGateOf t (arrived (flow t before) (mark_of e)).holding q.gate =
    arrives t (flow t before).holding stands.gate
    (may.at ∙ ap (λ (es : List Mark). length es) (sym (flow_events t before))) in record {
      before = before;
      latest = mark_of e;
      is = may.is;
      at = may.at;
      lawful = may.ready.lawful;
      fits = subst (WorkFits t) (sym same) (fits_with t p.work r may.ready.fits);
      way = way_begins t before (mark_of e) p q stands gate
          (publishes before may.own stands.recordings) left steps
          (ap (λ (w : Work). w.checks.reply) same ∙ empty);
    }

-- Items are taken.

-- what the gate says of the next item
abbrev pub NextTakes : Parts → Option Item → Gate → Type 0
NextTakes p result g = (t : Trace) (h : Holding) (done : List Taken) → IsLawful t → IsGateOf t h p.gate
    → SemaphoresStandFor t (left_by_items t h.events done) p.work.semaphores
    → FencesStandFor t (left_by_items t h.events done) p.work.fences
    → Takes t h (next t (past t h.events (items_of done)) h) result g

record TakenAs (t : Trace) (n : Option (Item × Holding)) (x : Item) (g : Gate) : Type 0 where
  after : Holding
  is : n ≡ Some (x, after)
  gate : IsGateOf t after g

taken_as : (t : Trace) (h : Holding) (n : Option (Item × Holding)) (x : Item) (g : Gate)
    → Takes t h n (Some x) g → TakenAs t n x g
taken_as t h None x g takes = absurd (let e : Some x ≡ None = takes.0 in cc)
taken_as t h (Some y) x g takes = record {
  after = y.1;
  is = ap (λ (i : Item). Some (i, y.1)) (sym (some_is takes.0));
  gate = takes.1;
}

record NoneTaken (t : Trace) (h : Holding) (n : Option (Item × Holding)) (g : Gate) : Type 0 where
  is : n ≡ None
  gate : IsGateOf t h g

none_taken : (t : Trace) (h : Holding) (n : Option (Item × Holding)) (g : Gate) → Takes t h n None g
    → NoneTaken t h n g
none_taken t h None g takes = record { is = refl; gate = takes.1 }
none_taken t h (Some y) g takes = absurd (let e : None ≡ Some y.0 = takes.0 in cc)

module _ (t : Trace) (list : List Mark) (number : ℕ) (p : Parts) (is : IsGoing t list number p) where
  now_takes : (result : Option Item) (g : Gate) → NextTakes p result g
      → Takes t is.way.now.holding (next t (past t is.way.now.holding.events (items_of is.way.now.done))
      is.way.now.holding) result g
  now_takes result g takes =
      let events = ways_have_events t is.before is.latest is.way.now is.way.more is.way.way in
      takes t is.way.now.holding is.way.now.done is.lawful is.way.gate
      (subst (λ (es : List Mark). SemaphoresStandFor t
      (left_by_items t es is.way.now.done) p.work.semaphores) (sym events) is.way.at.left.semaphores)
      (subst (λ (es : List Mark). FencesStandFor t (left_by_items t es is.way.now.done) p.work.fences)
      (sym events) is.way.at.left.fences)

  abbrev left : Made
  left = left_at t is.before is.latest is.way.now

  -- the item's steps, in the words of the way
  item_at : (x : Item) (after : Holding) (w : Work)
      → next t (past t is.way.now.holding.events (items_of is.way.now.done)) is.way.now.holding
      ≡ Some (x, after) → ItemTakes t list p.recordings number x p.work w
      → IsAt t (length is.before) (work t is.before)
      (is.way.more ++ numbered (length (work t is.before ++ is.way.more))
      (item_given t (longer is.before is.latest) left (length is.way.now.holding.events - 1) x))
      (item_made t (longer is.before is.latest) left (length is.way.now.holding.events - 1) x) w
  item_at x after w e takes =
      let may : IsRunnable t list p.recordings left x =
      subst (λ (es : List Mark). IsRunnable t es p.recordings left x) (sym is.is)
      (runnable t is.before is.latest is.way.now is.way.more is.lawful is.way.way p.recordings
      is.way.recordings x after e) in
      let at : IsAt t number (work t is.before) is.way.more left p.work =
      subst (λ (n : ℕ). IsAt t n (work t is.before) is.way.more left p.work) (sym is.at) is.way.at in
      let done = takes (work t is.before) is.way.more left may at in
      let with_list = subst (λ (es : List Mark). IsAt t number (work t is.before)
      (is.way.more ++ numbered (length (work t is.before ++ is.way.more)) (item_given t es left number x))
      (item_made t es left number x) w) is.is done in
      let with_number = subst (λ (n : ℕ). IsAt t n (work t is.before)
      (is.way.more ++ numbered (length (work t is.before ++ is.way.more))
      (item_given t (longer is.before is.latest) left n x))
      (item_made t (longer is.before is.latest) left n x) w) is.at with_list in
      subst (λ (n : ℕ). IsAt t (length is.before) (work t is.before)
      (is.way.more ++ numbered (length (work t is.before ++ is.way.more))
      (item_given t (longer is.before is.latest) left n x))
      (item_made t (longer is.before is.latest) left n x) w)
      (sym (number_is t is.before is.latest is.way.now is.way.more is.lawful is.way.way)) with_number

  -- one more
  pub going_goes : (x : Item) (g : Gate) (w : Work) → NextTakes p (Some x) g
      → ItemTakes t list p.recordings number x p.work w
      → (AreOf t p.recordings → WorkFits t p.work → WorkFits t w)
      → IsGoing t list number (record { gate = g; recordings = p.recordings; work = w })
  going_goes x g w takes item_takes fits =
      let taken = taken_as t is.way.now.holding _ x g (now_takes (Some x) g takes) in record {
        before = is.before;
        latest = is.latest;
        is = is.is;
        at = is.at;
        lawful = is.lawful;
        fits = fits is.way.recordings.each is.fits;
        way = way_goes_on t is.before is.latest p is.way x taken.after taken.is
            (record { gate = g; recordings = p.recordings; work = w }) taken.gate refl
            (item_at x taken.after w taken.is item_takes);
      }

  -- no more
  pub going_ends : (g : Gate) → NextTakes p None g
      → HasCome t list number (record { gate = g; recordings = p.recordings; work = p.work })
  going_ends g takes =
      let none = none_taken t is.way.now.holding _ g (now_takes None g takes) in
      let way : IsOnTheWay t is.before is.latest (record
      { gate = g; recordings = p.recordings; work = p.work }) =
      record {
        now = is.way.now;
        more = is.way.more;
        way = is.way.way;
        gate = none.gate;
        recordings = is.way.recordings;
        at = is.way.at;
      } in record {
        before = is.before;
        latest = is.latest;
        is = is.is;
        at = is.at;
        lawful = is.lawful;
        fits = is.fits;
        ended = way_ends t is.before is.latest (record
            { gate = g; recordings = p.recordings; work = p.work }) way none.is;
      }

-- The reply is handed out.

module _ (t : Trace) (list : List Mark) (number : ℕ) (p : Parts) (come : HasCome t list number p) where
  pub reply_is : IsReply t list number p.work.checks.reply
  reply_is = subst (λ (n : ℕ). IsReply t list n p.work.checks.reply) (sym come.at)
      (subst (λ (es : List Mark). IsReply t es (length come.before) p.work.checks.reply)
      (sym come.is) come.ended.reply)

  pub ready_again : (r : Reply) → AreReady t list
      (record { gate = p.gate; recordings = p.recordings; work = with_reply p.work r })
  ready_again r =
      let stands = come.ended.stands in
      let after : Parts = record { gate = p.gate; recordings = p.recordings; work = with_reply p.work r } in
      record {
        lawful = come.lawful;
        fits = fits_with t p.work r come.fits;
        stands = subst (λ (es : List Mark). StandsForHistory t es after) (sym come.is) (record {
          gate = stands.gate;
          recordings = stands.recordings;
          left = left_after t _ p.work (record p.work.checks { reply = r }) stands.left;
          steps = steps_with t _ p.work.checks r stands.steps;
        });
      }

-- What an event publishes.

pub published_event : (t : Trace) (e x : Event) (before after : Recordings) → e ≡ x
    → Publishes t x before after → Publishes t e before after
published_event t e x before after same h = subst (λ (y : Event). Publishes t y before after) (sym same) h

pub on_ok_always : {A E : Type 0} (r : Result A E) {P : Type 0} → P → OnOk r P
on_ok_always (Ok a) p = p
on_ok_always (Err e) p = tt
