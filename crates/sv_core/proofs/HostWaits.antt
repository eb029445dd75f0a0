-- Fence signals and host calls: their groups, and what they leave.
use Rattle.std.proofs.Common.{ℕ, ◌+◌, ◌≡◌, Bool, true, List, [], ◌∷◌, ◌++◌, Some, None, length, map, refl}
use Rattle.std.proofs.Common.{sym, ap, subst, ◌∙◌, append-nil}
use Rattle.std.specs.List.{All, filter_map, flat_map}
use Rattle.std.proofs.lemmas.List.Elements.{All-append, All-cons, All-nil}
use Rattle.sv_mask.specs.Scopes.{device_stages, device_usages, with_signal}
use Rattle.sv_mask.specs.declared.stage.Stages.{Stages}
use Rattle.sv_mask.specs.declared.usage.Usages.{Usages}
use Rattle.sv_model.specs.Places.{Bound}
use Rattle.sv_model.specs.Declarations.{is_fence, queue_number, queues_of}
use Rattle.sv_model.specs.HostWaits.{call_given, call_made}
use Rattle.sv_model.specs.Fences.{fence_given, fence_notes, fence_reset, fence_signaled, fence_state}
use Rattle.sv_model.specs.Fences.{has_signal}
use Rattle.sv_model.specs.Primitives.{Made}
use Rattle.sv_model.specs.QueueGroups.{from_token, group_from, place_in, to_token}
use Rattle.sv_model.specs.Work.{numbered}
use Rattle.sv_model.specs.declared.line.Line.{Line}
use Rattle.sv_model.specs.declared.line.Trace.{Trace}
use Rattle.sv_model.specs.declared.work.Dep.{Dep}
use Rattle.sv_model.specs.declared.work.Group.{Group}
use Rattle.sv_model.specs.declared.work.Note.{Note}
use Rattle.sv_model.specs.declared.work.Place.{Place}
use Rattle.sv_model.specs.declared.work.Step.TheVariants.{Groups}
use Rattle.sv_model.specs.declared.work.Track.{Track}
use Rattle.sv_model.specs.declared.work.Track.TheVariants.{Queue}
use Rattle.sv_binding.specs.Runs.{run_for}
use Rattle.sv_binding.specs.declared.run.Run.{Run}
use Rattle.sv_event.specs.Stands.{EventsStandFor}
use Rattle.sv_fence.specs.Stands.{FencesStandFor}
use Rattle.sv_fence.specs.declared.fences.Fences.{Fences}
use Rattle.sv_step_laws.specs.Steps.{IsGroupOf}
use Rattle.sv_step_laws.proofs.Areas.{plain_group}
use Rattle.sv_replies.specs.Replying.{IsReplySoFar}
use Rattle.sv_steps.specs.Checked.{HaveAreas, StandForSteps}
use Rattle.sv_steps.specs.declared.checks.Checks.{Checks}
use Rattle.sv_processed.specs.Works.{IsAt, IsLeft, MayTake, WorkFits}
use Rattle.sv_processed.specs.declared.work.Work.{Work}
use Rattle.sv_processed.proofs.StepDone.{Taken}
use Rattle.sv_processed.proofs.EventChanges.{events_same, semaphores_same}
use Rattle.sv_core.specs.Taking.{IsAfter, NamesFence, notes_where, queue_groups_on, token_groups}

-- The groups lie inside the resources of each trace: they have no areas.

group_is : (t : Trace) (place : Place) (from : Track) (s1 : Stages) (a1 : Usages) (to : Track) (s2 : Stages)
    (a2 : Usages) → IsGroupOf t (group_from place from s1 a1 to s2 a2)
group_is t place from s1 a1 to s2 a2 = plain_group t (group_from place from s1 a1 to s2 a2)
    (All-cons (λ (d : Dep). d.range ≡ None) (record
    { from = from; s1 = s1; a1 = a1; to = to; s2 = s2; a2 = a2; range = None }) [] refl
    (All-nil (λ (d : Dep). d.range ≡ None))) refl refl refl

all_of : (t : Trace) (f : ℕ → Group) → ((q : ℕ) → IsGroupOf t (f q)) → (queues : List ℕ)
    → All (IsGroupOf t) (map f queues)
all_of t f each [] = All-nil (IsGroupOf t)
all_of t f each (q ∷ rest) = All-cons (IsGroupOf t) (f q) (map f rest) (each q) (all_of t f each rest)

pub token_groups_are : (t : Trace) (place : Place) (token : ℕ) (queues : List ℕ)
    → All (IsGroupOf t) (token_groups place token queues)
token_groups_are t place token queues = all_of t (λ
    (q : ℕ). from_token place token q device_stages device_usages)
    (λ q. group_is t place _ _ _ _ _ _) queues

pub queue_groups_are : (t : Trace) (place : Place) (queues : List ℕ) (p : ℕ)
    → All (IsGroupOf t) (queue_groups_on place queues p)
queue_groups_are t place queues p = all_of t (λ (q : ℕ). group_from place (Queue p)
    (with_signal device_stages) device_usages (Queue q) device_stages device_usages)
    (λ q. group_is t place _ _ _ _ _ _) queues

pub device_groups_are : (t : Trace) (place : Place) (queues froms : List ℕ)
    → All (IsGroupOf t) (flat_map (queue_groups_on place queues) froms)
device_groups_are t place queues [] = All-nil (IsGroupOf t)
device_groups_are t place queues (p ∷ rest) = All-append (IsGroupOf t) (queue_groups_on place queues p)
    (flat_map (queue_groups_on place queues) rest) (queue_groups_are t place queues p)
    (device_groups_are t place queues rest)

-- Other fences, tokens and semaphores change nothing of what a step asks for.

pub fits_same : (t : Trace) (before between : Work) → between.checks ≡ before.checks → between.events
    ≡ before.events → WorkFits t before → WorkFits t between
fits_same t before between checks events fits = record {
  lawful = fits.lawful;
  areas = subst (HaveAreas t) (sym checks) fits.areas;
  left = fits.left;
  events = subst (EventsStandFor fits.left) (sym events) fits.events;
  sets = fits.sets;
}

pub may_take : (before between : Work) (groups : List Group) → between.checks ≡ before.checks
    → between.events ≡ before.events → ((t : Trace) → All (IsGroupOf t) groups) → MayTake before (Groups [])
    → MayTake between (Groups groups)
may_take before between groups checks events are may =
    record {
      trace = may.trace;
      fits = fits_same may.trace before between checks events may.fits;
      step = are may.trace;
    }

-- a step of groups, after what changes none of the checks
pub goes : (t : Trace) (event : ℕ) (old more : List Bound) (m k : Made) (before between after : Work)
    (groups : List Group) (notes : List Note) (given : List Bound) → Taken between after groups notes
    → IsLeft t k between → between.checks ≡ before.checks → given
    ≡ record { step = Groups groups; event = event; notes = notes } ∷ [] → IsAt t event old more m before
    → IsAt t event old (more ++ numbered (length (old ++ more)) given) k after
goes t event old more m k before between after groups notes given taken left checks is at =
    let there : IsAt t event old more k between = record {
      left = left;
      steps = subst (StandForSteps t (old ++ more)) (sym checks) at.steps;
      reply = subst (λ (c : Checks). IsReplySoFar t event old more c.reply) (sym checks) at.reply;
    } in
    subst (λ (bs : List Bound). IsAt t event old (more ++ numbered (length (old ++ more)) bs) k after)
    (sym is) (taken t event old more k there)

-- where no step is given
pub stays : (t : Trace) (event : ℕ) (old more : List Bound) (m : Made) (w : Work) (given : List Bound)
    → given ≡ [] → IsAt t event old more m w → IsAt t event old
    (more ++ numbered (length (old ++ more)) given) m w
stays t event old more m w given is at = subst (λ (bs : List Bound). IsAt t event old
    (more ++ numbered (length (old ++ more)) bs) m w) (sym is)
    (subst (λ (bs : List Bound). IsAt t event old bs m w) (sym (append-nil more)) at)

-- Fences.

-- the work with other fences and tokens
abbrev pub with_fences : Work → Fences → ℕ → Work
with_fences w f k = record w { fences = f; tokens = k }

pub left_signaled : (t : Trace) (m : Made) (w : Work) (fence : ℕ) (f : Fences) (k : ℕ)
    → FencesStandFor t (fence_signaled m fence) f → k ≡ w.tokens + 1 → IsLeft t m w
    → IsLeft t (fence_signaled m fence) (with_fences w f k)
left_signaled t m w fence f k stands is left = record {
  semaphores = semaphores_same t m (fence_signaled m fence) w.semaphores refl refl left.semaphores;
  fences = stands;
  vulkan_events = events_same m (fence_signaled m fence) w.events refl left.vulkan_events;
  instances = left.instances;
  tokens = is ∙ ap (λ (n : ℕ). n + 1) left.tokens;
}

pub fence_done : (run : Run) (fence : ℕ) (w after : Work) (f : Fences) (k : ℕ) (was : Bool)
    (groups : List Group) (notes : List Note) → ((t : Trace) (m : Made) → FencesStandFor t m w.fences
    → m.tokens ≡ w.tokens → FencesStandFor t (fence_signaled m fence) f)
    → ((t : Trace) (m : Made) → FencesStandFor t m w.fences → is_fence t fence ≡ true → was
    ≡ has_signal (fence_state t m fence)) → k ≡ w.tokens + 1
    → groups ≡ to_token (place_in (run_for 0 run)) run.queue
    (with_signal device_stages) device_usages w.tokens ∷ [] → notes ≡ notes_where was fence run.event
    → Taken (with_fences w f k) after groups notes
    → (t : Trace) (event : ℕ) → is_fence t fence ≡ true
    → IsAfter t event (λ (m : Made). fence_given t (run_for event run) m fence)
    (λ (m : Made). fence_signaled m fence) w after
fence_done run fence w after f k was groups notes stands answers sum grouped noted taken t event is old more
    m at =
    let tokens : m.tokens ≡ w.tokens = sym at.left.tokens in
    let same_groups : groups ≡ to_token (place_in (run_for event run)) run.queue
    (with_signal device_stages) device_usages m.tokens ∷ [] = grouped
    ∙ ap (λ (n : ℕ). to_token (place_in (run_for event run)) run.queue
    (with_signal device_stages) device_usages n ∷ []) (sym tokens) in
    let same_notes : notes ≡ fence_notes (fence_state t m fence) fence run.event = noted
    ∙ ap (λ (b : Bool). notes_where b fence run.event) (answers t m at.left.fences is) in
    let same : fence_given t (run_for event run) m fence
    ≡ record { step = Groups groups; event = event; notes = notes } ∷ [] =
    (λ j. record { step = Groups (sym same_groups j); event = event; notes = sym same_notes j } ∷ []) in
    goes t event old more m (fence_signaled m fence) w (with_fences w f k) after groups notes
    (fence_given t (run_for event run) m fence) taken
    (left_signaled t m w fence f k (stands t m at.left.fences tokens) sum at.left) refl same at

-- Host calls.

-- the groups are those of the queues of the trace
pub same_groups : (f : Place → List ℕ → List Group) (t : Trace) (place r : Place) (groups : List Group)
    (slice queues : List ℕ) (lines : List Line) → groups ≡ f place slice → place ≡ r → slice ≡ queues
    → queues ≡ filter_map queue_number lines → lines ≡ t.queues → groups ≡ f r (queues_of t)
same_groups f t place r groups slice queues lines e on of is from =
    e
    ∙ ap (λ (p : Place). f p slice) on
    ∙ ap (λ (qs : List ℕ). f r qs) (of ∙ is ∙ ap (λ (ls : List Line). filter_map queue_number ls) from)

-- a step of groups alone
pub host_done : (t : Trace) (event : ℕ) (w after : Work) (groups same : List Group) (notes : List Note)
    (given : Made → List Bound) → Taken w after groups notes → groups ≡ same → notes ≡ []
    → ((m : Made) → IsLeft t m w → given m ≡ record { step = Groups same; event = event; notes = [] } ∷ [])
    → IsAfter t event given (λ (m : Made). m) w after
host_done t event w after groups same notes given taken is none gives old more m at =
    let made : record { step = Groups same; event = event; notes = [] } ∷ []
    ≡ record { step = Groups groups; event = event; notes = notes } ∷ [] =
    (λ j. record { step = Groups (sym is j); event = event; notes = sym none j } ∷ []) in
    goes t event old more m m w w after groups notes (given m) taken at.left refl (gives m at.left ∙ made) at

-- the call is known
pub in_call : (t : Trace) (event : ℕ) (run : Run) (w after : Work) (call x : Line) → call ≡ x
    → (NamesFence t x → IsAfter t event (λ (m : Made). call_given t (run_for event run) m (Some x))
    (λ (m : Made). call_made m (Some x)) w after)
    → NamesFence t call → IsAfter t event (λ (m : Made). call_given t (run_for event run) m (Some call))
    (λ (m : Made). call_made m (Some call)) w after
in_call t event run w after call x e = subst (λ (y : Line). NamesFence t y
    → IsAfter t event (λ (m : Made). call_given t (run_for event run) m (Some y))
    (λ (m : Made). call_made m (Some y)) w after) (sym e)
