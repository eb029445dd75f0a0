-- What holds so far holds after a line that declares something.
use Rattle.std.proofs.Common.{◌≡◌, ℕ, Bool, ◌+◌, ◌≤◌, List, [], ◌∷◌, ◌++◌, false, not, Option, None, Some}
use Rattle.std.proofs.Common.{refl, sym, subst, arith, slice_index_or, append-nil}
use Rattle.std.proofs.lemmas.List.Elements.{All-push}
use Rattle.sv_model.specs.declared.line.Line.{Line}
use Rattle.sv_model.specs.declared.line.Line.TheVariants as line
use Rattle.sv_model.specs.declared.line.PassAttachment.{PassAttachment}
use Rattle.sv_model.specs.declared.line.PassUse.{PassUse}
use Rattle.sv_model.specs.declared.line.PassDep.{PassDep}
use Rattle.sv_model.specs.declared.line.SemKind.{SemKind}
use Rattle.sv_model.specs.declared.line.Sharing.{Sharing}
use Rattle.sv_model.specs.declared.line.Trace.{Trace}
use Rattle.sv_mask.specs.declared.layout.Layout.{Layout}
use Rattle.sv_model.specs.Declarations.{said, says_queue, says_resource, says_kind, says_event}
use Rattle.sv_model.specs.Declarations.{says_signaled, says_pass, recording_of}
use Rattle.sv_model.specs.Lawful.{IsLawfulQueue, IsLawfulResource, IsLawfulSemaphore, IsLawfulEventLine}
use Rattle.sv_model.specs.Lawful.{IsLawfulFence, IsLawfulPassLine, declared_number, script_of}
use Rattle.sv_model.specs.Size.{work_size}
use Rattle.sv_rules.specs.Named.{is_new_queue, is_new_resource, is_new_semaphore, is_new_event}
use Rattle.sv_rules.specs.Named.{is_new_fence, is_new_pass}
use Rattle.sv_rules.specs.Trace.{with_line}
use Rattle.sv_rules.specs.SoFar.{DeclareLawfully, IsLawfulSoFar}
use Rattle.sv_rules.proofs.Growth.{Grows, Keeps, said_kept, call_kept}
use Rattle.sv_rules.proofs.Once.{Tells, once_more, queue_tells, resource_tells, semaphore_tells}
use Rattle.sv_rules.proofs.Once.{event_tells, fence_tells, pass_tells, new_queue, new_resource}
use Rattle.sv_rules.proofs.Once.{new_semaphore, new_event, new_fence, new_pass}
use Rattle.sv_rules.proofs.Sizes.{IsAsLarge, names_all, calls_same, found_size_same}
use Rattle.sv_rules.proofs.SoFar.{recording_kept, found_lawful}

abbrev pub with_declared : Trace → List Line → List Line → List Line → List Line → List Line → List Line
    → Trace
with_declared t qs rs ss es fs ps = record t {
  queues = qs;
  resources = rs;
  semaphores = ss;
  events = es;
  fences = fs;
  passes = ps;
}

-- the lines of one kind go on, and are still lawful
pub record Declares (IsOfKind : Line → Type 0) (old new : List Line) : Type 0 where
  pub more : List Line
  pub appended : new ≡ old ++ more
  pub lawful : DeclareLawfully IsOfKind new

stays : (IsOfKind : Line → Type 0) (list : List Line) → DeclareLawfully IsOfKind list
    → Declares IsOfKind list list
stays IsOfKind list h = record { more = []; appended = sym (append-nil list); lawful = h }

adds : {X : Type 0} (IsOfKind : Line → Type 0) (says : Line → Option X) (n : ℕ) (l : Line)
    → Tells IsOfKind says n → declared_number l ≡ Some n
    → (list : List Line) → said says list ≡ None → IsOfKind l → DeclareLawfully IsOfKind list
    → Declares IsOfKind list (list ++ l ∷ [])
adds IsOfKind says n l tells declares list new lawful h = record {
  more = l ∷ [];
  appended = refl;
  lawful = record {
    each = All-push IsOfKind list l h.each lawful;
    once = once_more IsOfKind says n l tells declares list h.each new h.once;
  };
}

still_said : {X : Type 0} (IsOfKind : Line → Type 0) (says : Line → Option X) (old new : List Line)
    → Declares IsOfKind old new → Keeps (said says old) (said says new)
still_said IsOfKind says old new d = subst (λ (list : List Line). Keeps (said says old) (said says list))
    (sym d.appended) (said_kept says old d.more)

after_declaring : (lines : ℕ) (t : Trace) (qs rs ss es fs ps : List Line) → IsLawfulSoFar lines t → lines
    + 1 ≤ 1000000
    → Declares IsLawfulQueue t.queues qs → Declares IsLawfulResource t.resources rs
    → Declares IsLawfulSemaphore t.semaphores ss
    → Declares IsLawfulEventLine t.events es → Declares IsLawfulFence t.fences fs
    → Declares IsLawfulPassLine t.passes ps
    → IsLawfulSoFar (lines + 1) (with_declared t qs rs ss es fs ps)
after_declaring lines t qs rs ss es fs ps h fewer of_queues of_resources of_semaphores of_events of_fences
    of_passes = record {
      few = fewer;
      declared = record {
        queues = of_queues.lawful;
        resources = of_resources.lawful;
        semaphores = of_semaphores.lawful;
        events = of_events.lawful;
        fences = of_fences.lawful;
        passes = of_passes.lawful;
      };
      recordings = λ k r lt. recording_kept lines t (with_declared t qs rs ss es fs ps) g
          (slice_index_or t.recordings k r) (λ e. e) (h.recordings k r lt);
      recordings_once = h.recordings_once;
      lane_count = h.lane_count;
      lanes = λ lane k l lt. call_kept t (with_declared t qs rs ss es fs ps) g lane
          (slice_index_or (script_of t lane) k l) (h.lanes lane k l lt);
      recorder_count = h.recorder_count;
      once = h.once;
      of_trace = h.of_trace;
      by_lane = h.by_lane;
      by_recorder = h.by_recorder;
      ended = h.ended;
      named = h.named;
      events = (let most = h.events in omega (arith, most));
      size = subst (λ n. n ≤ 4000000) (sym same_size) h.size;
    }
  where
    g : Grows t (with_declared t qs rs ss es fs ps)
    g = record {
      queues = λ k. still_said IsLawfulQueue (says_queue k) t.queues qs of_queues;
      resources = λ k. still_said IsLawfulResource (says_resource k) t.resources rs of_resources;
      kinds = λ k. still_said IsLawfulSemaphore (says_kind k) t.semaphores ss of_semaphores;
      events = λ k. still_said IsLawfulEventLine (says_event k) t.events es of_events;
      fences = λ k. still_said IsLawfulFence (says_signaled k) t.fences fs of_fences;
      passes = λ k. still_said IsLawfulPassLine (says_pass k) t.passes ps of_passes;
      recordings = λ family k e. e;
    }

    as_large : (k : ℕ) → IsAsLarge t (with_declared t qs rs ss es fs ps) k
    as_large k = found_size_same t (with_declared t qs rs ss es fs ps) g (recording_of t k)
        (found_lawful lines t k h.recordings)

    same_size : work_size (with_declared t qs rs ss es fs ps) ≡ work_size t
    same_size = calls_same t (with_declared t qs rs ss es fs ps) t.lane_scripts
        (λ lane k l lt. names_all (IsAsLarge t (with_declared t qs rs ss es fs ps)) as_large
        (slice_index_or (script_of t lane) k l))

-- a line that declares nothing
pub after_nothing : (lines : ℕ) (t : Trace) → IsLawfulSoFar lines t → lines + 1 ≤ 1000000
    → IsLawfulSoFar (lines + 1) t
after_nothing lines t h fewer = after_declaring lines t t.queues t.resources t.semaphores t.events t.fences
    t.passes h fewer
    (stays IsLawfulQueue t.queues h.declared.queues) (stays IsLawfulResource t.resources h.declared.resources)
    (stays IsLawfulSemaphore t.semaphores h.declared.semaphores)
    (stays IsLawfulEventLine t.events h.declared.events)
    (stays IsLawfulFence t.fences h.declared.fences) (stays IsLawfulPassLine t.passes h.declared.passes)

-- Kind by kind.

pub after_queue : (lines : ℕ) (t : Trace) (n family lane : ℕ) → IsLawfulSoFar lines t → lines + 1 ≤ 1000000
    → not (is_new_queue t n) ≡ false → IsLawfulQueue (line.Queue n family lane)
    → IsLawfulSoFar (lines + 1) (with_line t (line.Queue n family lane))
after_queue lines t n family lane h fewer new lawful =
    after_declaring lines t (t.queues ++ line.Queue n family lane ∷ []) t.resources t.semaphores t.events
    t.fences t.passes h fewer
    (adds IsLawfulQueue (says_queue n) n (line.Queue n family lane) (queue_tells n) refl t.queues
    (new_queue t n new) lawful h.declared.queues)
    (stays IsLawfulResource t.resources h.declared.resources)
    (stays IsLawfulSemaphore t.semaphores h.declared.semaphores)
    (stays IsLawfulEventLine t.events h.declared.events)
    (stays IsLawfulFence t.fences h.declared.fences)
    (stays IsLawfulPassLine t.passes h.declared.passes)

pub after_buffer : (lines : ℕ) (t : Trace) (n size : ℕ) (sharing : Sharing) → IsLawfulSoFar lines t → lines
    + 1 ≤ 1000000 → not (is_new_resource t n) ≡ false → IsLawfulResource (line.Buffer n size sharing)
    → IsLawfulSoFar (lines + 1) (with_line t (line.Buffer n size sharing))
after_buffer lines t n size sharing h fewer new lawful =
    after_declaring lines t t.queues (t.resources ++ line.Buffer n size sharing ∷ []) t.semaphores t.events
    t.fences t.passes h fewer
    (stays IsLawfulQueue t.queues h.declared.queues)
    (adds IsLawfulResource (says_resource n) n (line.Buffer n size sharing)
    (resource_tells n) refl t.resources (new_resource t n new) lawful h.declared.resources)
    (stays IsLawfulSemaphore t.semaphores h.declared.semaphores)
    (stays IsLawfulEventLine t.events h.declared.events)
    (stays IsLawfulFence t.fences h.declared.fences)
    (stays IsLawfulPassLine t.passes h.declared.passes)

pub after_image : (lines : ℕ) (t : Trace) (n mips layers : ℕ) (initial : Layout) (sharing : Sharing)
    → IsLawfulSoFar lines t → lines + 1 ≤ 1000000 → not (is_new_resource t n) ≡ false
    → IsLawfulResource (line.Image n mips layers initial sharing)
    → IsLawfulSoFar (lines + 1) (with_line t (line.Image n mips layers initial sharing))
after_image lines t n mips layers initial sharing h fewer new lawful =
    after_declaring lines t t.queues (t.resources ++ line.Image n mips layers initial sharing ∷ [])
    t.semaphores t.events t.fences t.passes h fewer
    (stays IsLawfulQueue t.queues h.declared.queues)
    (adds IsLawfulResource (says_resource n) n (line.Image n mips layers initial sharing)
    (resource_tells n) refl t.resources (new_resource t n new) lawful h.declared.resources)
    (stays IsLawfulSemaphore t.semaphores h.declared.semaphores)
    (stays IsLawfulEventLine t.events h.declared.events)
    (stays IsLawfulFence t.fences h.declared.fences)
    (stays IsLawfulPassLine t.passes h.declared.passes)

pub after_semaphore : (lines : ℕ) (t : Trace) (n : ℕ) (kind : SemKind) (initial : Option ℕ)
    → IsLawfulSoFar lines t → lines + 1 ≤ 1000000 → not (is_new_semaphore t n) ≡ false
    → IsLawfulSemaphore (line.Semaphore n kind initial)
    → IsLawfulSoFar (lines + 1) (with_line t (line.Semaphore n kind initial))
after_semaphore lines t n kind initial h fewer new lawful =
    after_declaring lines t t.queues t.resources (t.semaphores ++ line.Semaphore n kind initial ∷ [])
    t.events t.fences t.passes h fewer
    (stays IsLawfulQueue t.queues h.declared.queues)
    (stays IsLawfulResource t.resources h.declared.resources)
    (adds IsLawfulSemaphore (says_kind n) n (line.Semaphore n kind initial)
    (semaphore_tells n) refl t.semaphores (new_semaphore t n new) lawful h.declared.semaphores)
    (stays IsLawfulEventLine t.events h.declared.events)
    (stays IsLawfulFence t.fences h.declared.fences)
    (stays IsLawfulPassLine t.passes h.declared.passes)

pub after_event : (lines : ℕ) (t : Trace) (n : ℕ) → IsLawfulSoFar lines t → lines + 1 ≤ 1000000
    → not (is_new_event t n) ≡ false → IsLawfulEventLine (line.Event n)
    → IsLawfulSoFar (lines + 1) (with_line t (line.Event n))
after_event lines t n h fewer new lawful = after_declaring lines t t.queues t.resources t.semaphores
    (t.events ++ line.Event n ∷ []) t.fences t.passes h fewer
    (stays IsLawfulQueue t.queues h.declared.queues)
    (stays IsLawfulResource t.resources h.declared.resources)
    (stays IsLawfulSemaphore t.semaphores h.declared.semaphores)
    (adds IsLawfulEventLine (says_event n) n (line.Event n) (event_tells n) refl t.events
    (new_event t n new) lawful h.declared.events)
    (stays IsLawfulFence t.fences h.declared.fences)
    (stays IsLawfulPassLine t.passes h.declared.passes)

pub after_fence : (lines : ℕ) (t : Trace) (n : ℕ) (signaled : Bool) → IsLawfulSoFar lines t → lines + 1
    ≤ 1000000 → not (is_new_fence t n) ≡ false → IsLawfulFence (line.Fence n signaled)
    → IsLawfulSoFar (lines + 1) (with_line t (line.Fence n signaled))
after_fence lines t n signaled h fewer new lawful =
    after_declaring lines t t.queues t.resources t.semaphores t.events
    (t.fences ++ line.Fence n signaled ∷ []) t.passes h fewer
    (stays IsLawfulQueue t.queues h.declared.queues)
    (stays IsLawfulResource t.resources h.declared.resources)
    (stays IsLawfulSemaphore t.semaphores h.declared.semaphores)
    (stays IsLawfulEventLine t.events h.declared.events)
    (adds IsLawfulFence (says_signaled n) n (line.Fence n signaled) (fence_tells n) refl t.fences
    (new_fence t n new) lawful h.declared.fences)
    (stays IsLawfulPassLine t.passes h.declared.passes)

pub after_pass : (lines : ℕ) (t : Trace) (n : ℕ) (attachments : List PassAttachment)
    (subpasses : List (List PassUse)) (deps : List PassDep) → IsLawfulSoFar lines t → lines + 1 ≤ 1000000
    → not (is_new_pass t n) ≡ false → IsLawfulPassLine (line.RenderPass n attachments subpasses deps)
    → IsLawfulSoFar (lines + 1) (with_line t (line.RenderPass n attachments subpasses deps))
after_pass lines t n attachments subpasses deps h fewer new lawful =
    after_declaring lines t t.queues t.resources t.semaphores t.events t.fences
    (t.passes ++ line.RenderPass n attachments subpasses deps ∷ []) h fewer
    (stays IsLawfulQueue t.queues h.declared.queues)
    (stays IsLawfulResource t.resources h.declared.resources)
    (stays IsLawfulSemaphore t.semaphores h.declared.semaphores)
    (stays IsLawfulEventLine t.events h.declared.events)
    (stays IsLawfulFence t.fences h.declared.fences)
    (adds IsLawfulPassLine (says_pass n) n (line.RenderPass n attachments subpasses deps)
    (pass_tells n) refl t.passes (new_pass t n new) lawful h.declared.passes)
