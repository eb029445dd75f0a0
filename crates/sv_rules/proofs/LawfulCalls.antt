-- Declaring lines and calls that are not refused are lawful.
use Rattle.std.proofs.Common.{◌≡◌, ℕ, ◌<◌, List, Bool, true, false, not, ◌||◌, ◌&&◌, eqb, Option, None}
use Rattle.std.proofs.Common.{Some, refl, sym, ◌∙◌, ap, subst, length, IsTrue, eq-eqb, arith}
use Rattle.std.specs.Prelude.{is_none, is_some, slice_index_or, option_map}
use Rattle.std.specs.List.{list_any}
use Rattle.std.proofs.lemmas.Bool.{or_parts}
use Rattle.sv_mask.specs.Scopes.{supported}
use Rattle.sv_mask.specs.Usages.{layout_number, same_layout}
use Rattle.sv_model.specs.declared.line.Line.TheVariants as line
use Rattle.sv_model.specs.declared.line.Batch.{Batch}
use Rattle.sv_model.specs.declared.line.PassAttachment.{PassAttachment}
use Rattle.sv_model.specs.declared.line.PassUse.{PassUse}
use Rattle.sv_model.specs.declared.line.PassDep.{PassDep}
use Rattle.sv_model.specs.declared.line.SemKind.{SemKind}
use Rattle.sv_model.specs.declared.line.SemKind.TheVariants.{Binary, Timeline}
use Rattle.sv_model.specs.declared.line.SemaphoreUse.{SemaphoreUse}
use Rattle.sv_model.specs.declared.line.Recording.{Recording}
use Rattle.sv_model.specs.declared.line.Trace.{Trace}
use Rattle.sv_model.specs.Declarations.{QueueLine, queue_of, semaphore_kind, is_fence, recording_of}
use Rattle.sv_model.specs.LawfulParts.{HasItsValue, IsLawfulUse}
use Rattle.sv_model.specs.Lawful.{HasItsInitial, IsOneUse, IsLawfulSubpass, IsLawfulPassDep, IsLawfulPass}
use Rattle.sv_model.specs.Lawful.{HasFamily, IsLawfulBatch, IsFenceOrNone, IsQueueOf, BatchesAreLawful}
use Rattle.sv_model.specs.Lawful.{IsLawfulSubmit}
use Rattle.sv_trace.specs.Formed.{IsFormedSubpass, IsFormedPassDep, IsFormedPass}
use Rattle.sv_rules.specs.Named.{is_new_queue, is_new_semaphore, is_new_fence, is_new_signal}
use Rattle.sv_rules.specs.Named.{is_new_recording, is_of_new_semaphore, batch_names_new_semaphore}
use Rattle.sv_rules.specs.Named.{batch_names_new_recording}
use Rattle.sv_rules.specs.Masks.{dep_unsupported, is_without_stage}
use Rattle.sv_rules.specs.Places as place
use Rattle.sv_rules.specs.Calls.{is_another, is_of_another_lane, has_wrong_value, is_wrong_use}
use Rattle.sv_rules.specs.Calls.{batch_has_wrong_use, has_wrong_initial, is_of_wrong_kind}
use Rattle.sv_rules.specs.Limits as limits
use Rattle.sv_rules.specs.Taken.{Taken, family_and_lane, family_of_queue, lane_of_queue, kind_in}
use Rattle.sv_rules.specs.Taken.{family_of_recording, has_ended}
use Rattle.sv_rules.proofs.Passing.{Passes, are_declared, is_placed, is_limited, none_at, few, not_false}
use Rattle.sv_rules.proofs.Passing.{same_number}

none_of : {A : Type 0} (o : Option A) → is_some o ≡ false → o ≡ None
none_of None e = refl
none_of (Some x) e = absurd (let h : true ≡ false = e in cc)

some_of : {A : Type 0} (o : Option A) → is_none o ≡ false → IsTrue (is_some o)
some_of None e = absurd (let h : true ≡ false = e in cc)
some_of (Some x) e = refl

-- Semaphores and render passes.

pub initial_of : (kind : SemKind) (initial : Option ℕ) → has_wrong_initial kind initial ≡ false
    → HasItsInitial kind initial
initial_of Binary initial e = none_of initial e
initial_of Timeline initial e = tt

if_same : (a b : Bool) → (a && not b) ≡ false → a ≡ true → b ≡ true
if_same a b e h = not_false b (sym (ap (λ x. x && not b) h) ∙ e)

one_use : (u v : PassUse) → place.differ_in_layout u v ≡ false → IsOneUse u v
one_use u v e same = same_number (layout_number u.layout) (layout_number v.layout)
    (if_same (eqb u.att v.att) (same_layout u.layout v.layout) e (eq-eqb u.att v.att same))

subpass_lawful : (n : ℕ) (uses : List PassUse) → limits.are_many_uses uses ≡ false
    → place.has_two_layouts uses ≡ false → IsFormedSubpass n uses → IsLawfulSubpass n uses
subpass_lawful n uses many two formed = record {
  short = few 64 (length uses) many;
  bounds = formed;
  layouts = λ i j d lt within. one_use (slice_index_or uses i d) (slice_index_or uses j d)
      (none_at (place.differ_in_layout (slice_index_or uses i d)) uses
      (none_at (place.differs_from_some uses) uses two i d (before i j (length uses) lt within)) j d
      within);
}
  where
    before : (i j n : ℕ) → i < j → j < n → i < n
    before i j n a b = omega (arith, a, b)

dep_lawful : (n : ℕ) (d : PassDep) → dep_unsupported d ≡ false → IsFormedPassDep n d → IsLawfulPassDep n d
dep_lawful n d u formed =
    let masks = or_parts (not (supported d.src d.src_access)) (not (supported d.dst d.dst_access)) u in
    record {
      from = formed.from;
      to = formed.to;
      order = formed.order;
      src = not_false (supported d.src d.src_access) masks.0;
      dst = not_false (supported d.dst d.dst_access) masks.1;
    }

pub pass_lawful : (s : Taken) (pass : ℕ) (attachments : List PassAttachment)
    (subpasses : List (List PassUse)) (deps : List PassDep)
    → Passes s (line.RenderPass pass attachments subpasses deps)
    → IsFormedPass pass attachments subpasses deps → IsLawfulPass pass attachments subpasses deps
unfolding is_without_stage
pass_lawful s pass attachments subpasses deps p formed =
    let limited = is_limited s (line.RenderPass pass attachments subpasses deps) p.limit in
    let placed = is_placed s (line.RenderPass pass attachments subpasses deps) p.place in
    record {
      bound = formed.bound;
      attachments_few = few 16 (length attachments) limited.attachments;
      layouts = formed.layouts;
      subpasses_some = formed.some;
      subpasses_few = few 32 (length subpasses) limited.subpasses;
      uses = λ k d lt. subpass_lawful (length attachments) (slice_index_or subpasses k d)
          (none_at limits.are_many_uses subpasses limited.uses k d lt)
          (none_at place.has_two_layouts subpasses placed.uses k d lt) (formed.uses k d lt);
      deps_short = few 64 (length deps) limited.deps;
      each = λ k d lt. dep_lawful (length subpasses) (slice_index_or deps k d)
          (none_at dep_unsupported deps p.stage k d lt) (formed.each k d lt);
    }

-- Calls.

queue_own : (lane : ℕ) (o : Option QueueLine) → is_none (option_map family_and_lane o) ≡ false
    → is_another lane (option_map (λ (q : ℕ × ℕ). q.1) (option_map family_and_lane o)) ≡ false
    → IsQueueOf lane o
queue_own lane None n e = absurd (let h : true ≡ false = n in cc)
queue_own lane (Some q) n e = same_number q.lane lane (not_false (eqb q.lane lane) e)

pub fence_of : (t : Trace) (fence : ℕ) → is_new_fence t fence ≡ false → IsTrue (is_fence t fence)
unfolding is_new_fence
fence_of t fence e = not_false (is_fence t fence) e

signal_of : (t : Trace) (fence : Option ℕ) → is_new_signal t fence ≡ false → IsFenceOrNone t fence
signal_of t None e = tt
signal_of t (Some fence) e = fence_of t fence e

value_of : (o : Option SemKind) (value : Option ℕ) → is_none o ≡ false → has_wrong_value o value ≡ false
    → HasItsValue o value
value_of None value n e = absurd (let h : true ≡ false = n in cc)
value_of (Some Timeline) value n e = some_of value e
value_of (Some Binary) value n e = none_of value e

use_lawful : (t : Trace) (u : SemaphoreUse) → is_of_new_semaphore t u ≡ false → is_wrong_use t u ≡ false
    → IsLawfulUse t u
unfolding is_new_semaphore kind_in
use_lawful t u n e = value_of (semaphore_kind t u.sem) u.value n e

family_same : (family : ℕ) (ended : Bool) (o : Option Recording) → is_none o ≡ false
    → (not ended || not (place.are_same (option_map (λ (r : Recording). r.family) o) (Some family))) ≡ false
    → HasFamily family o
family_same family ended None n e = absurd (let h : true ≡ false = n in cc)
family_same family ended (Some r) n e = same_number r.family family
    (not_false (eqb r.family family) (or_parts (not ended) (not (eqb r.family family)) e).1)

family_of_one : (t : Trace) (queue : ℕ) (q : QueueLine) → queue_of t queue ≡ Some q
    → family_of_queue t queue ≡ Some q.family
unfolding family_of_queue
family_of_one t queue q e = ap (λ (o : Option QueueLine). option_map (λ (x : ℕ × ℕ). x.0)
    (option_map family_and_lane o)) e

runs : (t : Trace) (queue : ℕ) (q : QueueLine) (k : ℕ) → queue_of t queue ≡ Some q → is_new_recording t k
    ≡ false → place.may_not_run t queue k ≡ false → HasFamily q.family (recording_of t k)
unfolding is_new_recording family_of_recording
runs t queue q k e n w = family_same q.family (has_ended t k) (recording_of t k) n
    (subst (λ (f : Option ℕ). (not (has_ended t k) || not (place.are_same (family_of_recording t k) f))
    ≡ false) (family_of_one t queue q e) w)

batch_lawful : (t : Trace) (queue : ℕ) (q : QueueLine) (b : Batch) → queue_of t queue ≡ Some q
    → batch_names_new_semaphore t b ≡ false → batch_names_new_recording t b ≡ false
    → place.batch_may_not_run t queue b ≡ false → batch_has_wrong_use t b ≡ false
    → limits.is_of_many_recs b ≡ false → limits.is_of_many_waits b ≡ false → limits.is_of_many_signals b
    ≡ false → IsLawfulBatch t q.family b
batch_lawful t queue q b e sems recs run uses many_recs many_waits many_signals =
    let named = or_parts (list_any (is_of_new_semaphore t) b.waits)
    (list_any (is_of_new_semaphore t) b.signals) sems in
    let kinds = or_parts (list_any (is_wrong_use t) b.waits) (list_any (is_wrong_use t) b.signals) uses in
    record {
      waits_short = few 64 (length b.waits) many_waits;
      waits = λ k d lt. use_lawful t (slice_index_or b.waits k d)
          (none_at (is_of_new_semaphore t) b.waits named.0 k d lt)
          (none_at (is_wrong_use t) b.waits kinds.0 k d lt);
      recs_few = few 1024 (length b.recs) many_recs;
      recs = λ k d lt. runs t queue q (slice_index_or b.recs k d) e
          (none_at (is_new_recording t) b.recs recs k d lt)
          (none_at (place.may_not_run t queue) b.recs run k d lt);
      signals_short = few 64 (length b.signals) many_signals;
      signals = λ k d lt. use_lawful t (slice_index_or b.signals k d)
          (none_at (is_of_new_semaphore t) b.signals named.1 k d lt)
          (none_at (is_wrong_use t) b.signals kinds.1 k d lt);
    }

batches_lawful : (s : Taken) (lane queue : ℕ) (batches : List Batch) (fence : Option ℕ)
    → Passes s (line.Submit lane queue batches fence) → (o : Option QueueLine) → queue_of s.trace queue ≡ o
    → IsQueueOf lane o → BatchesAreLawful s.trace o batches
unfolding is_of_wrong_kind
batches_lawful s lane queue batches fence p None e own = own
batches_lawful s lane queue batches fence p (Some q) e own =
    let declared = are_declared s.trace (line.Submit lane queue batches fence) p.declared in
    let placed = is_placed s (line.Submit lane queue batches fence) p.place in
    let limited = is_limited s (line.Submit lane queue batches fence) p.limit in
    λ k d lt. batch_lawful s.trace queue q (slice_index_or batches k d) e
    (none_at (batch_names_new_semaphore s.trace) batches declared.semaphore k d lt)
    (none_at (batch_names_new_recording s.trace) batches declared.submitted k d lt)
    (none_at (place.batch_may_not_run s.trace queue) batches placed.submits k d lt)
    (none_at (batch_has_wrong_use s.trace) batches p.kind k d lt)
    (none_at limits.is_of_many_recs batches limited.recs k d lt)
    (none_at limits.is_of_many_waits batches limited.waits k d lt)
    (none_at limits.is_of_many_signals batches limited.signals k d lt)

pub submit_lawful : (s : Taken) (lane queue : ℕ) (batches : List Batch) (fence : Option ℕ)
    → Passes s (line.Submit lane queue batches fence) → IsLawfulSubmit s.trace lane queue batches fence
unfolding is_new_queue is_of_another_lane lane_of_queue
submit_lawful s lane queue batches fence p =
    let declared = are_declared s.trace (line.Submit lane queue batches fence) p.declared in
    let own = queue_own lane (queue_of s.trace queue) declared.queue p.lane in
    record {
      of_lane = own;
      short = few 64 (length batches) (is_limited s (line.Submit lane queue batches fence) p.limit).batches;
      each = batches_lawful s lane queue batches fence p (queue_of s.trace queue) refl own;
      signals = signal_of s.trace fence declared.fence;
    }

pub wait_queue_lawful : (s : Taken) (lane queue : ℕ) → Passes s (line.WaitQueue lane queue)
    → IsQueueOf lane (queue_of s.trace queue)
unfolding is_new_queue is_of_another_lane lane_of_queue
wait_queue_lawful s lane queue p = queue_own lane (queue_of s.trace queue)
    (are_declared s.trace (line.WaitQueue lane queue) p.declared).queue p.lane
