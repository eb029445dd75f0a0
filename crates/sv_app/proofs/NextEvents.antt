-- The events of the text order come one after another: each is the next of its actor.
use Rattle.std.proofs.Common.{◌≡◌, ℕ, ◌+◌, ◌<◌, true, false, List, [], ◌∷◌, ◌++◌, Option, Some, Result, Ok}
use Rattle.std.proofs.Common.{Err, OnOk, Contains, IsTrue, is_some, length, get_or, map, take, drop, sym}
use Rattle.std.proofs.Common.{◌∙◌, ap, subst}
use Rattle.std.specs.List.{filter_map}
use Rattle.std.specs.Result.{is_err}
use Rattle.std.proofs.lemmas.List.{take-append-drop, take_more}
use Rattle.std.proofs.lemmas.List.Elements.{All-take, filter_map-append}
use Rattle.std.proofs.Math.Seq.{take-append_seam}
use Rattle.sv_core.specs.Marks.{IsNextEvent, mark_of}
use Rattle.sv_model.specs.Declarations.{recording_of}
use Rattle.sv_model.specs.History.{IsHistory, IsOfTrace, IsPrefix, IsWhole, call_by, published_by}
use Rattle.sv_model.specs.declared.line.Mark.{Mark}
use Rattle.sv_model.specs.declared.line.Recording.{Recording}
use Rattle.sv_model.specs.declared.line.Trace.{Trace}
use Rattle.sv_model.specs.declared.recorded.Event.{Event}
use Rattle.sv_rules.proofs.Lists.{some_found}

-- what is said of the first items is said first
said_first : {X : Type 0} (says : X → Option ℕ) (n : ℕ) (xs : List X) (script : List ℕ) → filter_map says xs
    ≡ script → IsPrefix (filter_map says (take n xs)) script
said_first says n xs script is =
    let early = filter_map says (take n xs) in
    let late = filter_map says (drop n xs) in
    let cut : early ++ late ≡ script = sym (filter_map-append says (take n xs) (drop n xs))
    ∙ ap (filter_map says) (take-append-drop n xs) ∙ is in
    sym (take-append_seam early late) ∙ ap (take (length early)) cut

-- the first events of a whole history are a history
pub first_events : (t : Trace) (n : ℕ) (marks : List Mark) → IsWhole t marks → IsHistory t (take n marks)
first_events t n marks whole = record {
  of_trace = All-take (IsOfTrace t) n marks whole.of_trace;
  lanes = λ lane. said_first (call_by lane) n marks _ (whole.lanes lane);
  recorders = λ recorder. said_first (published_by t recorder) n marks _ (whole.recorders recorder);
}

-- the events so far and the next one
so_far : (i : ℕ) (items marks history : List Mark) (d : Mark) (e : Event) → items ≡ marks → i < length items
    → history ≡ take i marks
    → mark_of e ≡ get_or items i d → take (i + 1) marks ≡ history ++ mark_of e ∷ []
so_far i items marks history d e all lt before own =
    (λ j. take (i + 1) (sym all j)) ∙ take_more items i d lt
    ∙ (λ j. sym (before ∙ ap (take i) (sym all)) j ++ sym own j ∷ [])

-- is the next behind those before it
pub next_event : (t u : Trace) (i : ℕ) (items marks history : List Mark) (d : Mark) (e : Event) → u ≡ t
    → items ≡ marks → IsWhole t marks → i < length items
    → history ≡ take i marks → mark_of e ≡ get_or items i d → IsNextEvent u history e
next_event t u i items marks history d e is all whole lt before own =
    subst (λ (x : Trace). IsHistory x (history ++ mark_of e ∷ [])) (sym is)
    (subst (IsHistory t) (so_far i items marks history d e all lt before own)
    (first_events t (i + 1) marks whole))

-- what a call that went well says
pub went_well : {A E : Type 0} (r : Result A E) (Says : Type 0) → is_err r ≡ false → OnOk r Says → Says
went_well (Ok a) Says well said = said
went_well (Err e) Says well said = absurd (let f : true ≡ false = well in cc)

-- with the next event behind it, the history has one event more
pub one_more_event : (i : ℕ) (items marks history new : List Mark) (d : Mark) (e : Event) → items ≡ marks
    → i < length items → history ≡ take i marks
    → mark_of e ≡ get_or items i d → new ≡ history ++ mark_of e ∷ [] → new ≡ take (i + 1) marks
one_more_event i items marks history new d e all lt before own more = more
    ∙ sym (so_far i items marks history d e all lt before own)

-- a recording of the trace is found by its number
pub is_declared : (t : Trace) (k : ℕ) → Contains (map (λ (r : Recording). r.rec) t.recordings) k
    → IsTrue (is_some (recording_of t k))
is_declared t k on = some_found (λ (r : Recording). r.rec) t.recordings k on.0 k on.1 on.2
