-- The checker is sound after one more declaring line.
use Rattle.std.proofs.Common.{◌≡◌, ℕ, ◌+◌, ◌<◌, ◌≤◌, List, [], ◌∷◌, ◌++◌, Bool, true, Option, refl, sym}
use Rattle.std.proofs.Common.{◌∙◌, ap, subst, arith}
use Rattle.std.specs.BTreeMap.{BTreeMap}
use Rattle.std.specs.Prelude.{option_map}
use Rattle.sv_mask.specs.declared.layout.Layout.{Layout}
use Rattle.sv_model.specs.declared.line.Line.{Line}
use Rattle.sv_model.specs.declared.line.Line.TheVariants as line
use Rattle.sv_model.specs.declared.line.SemKind.{SemKind}
use Rattle.sv_model.specs.declared.line.Sharing.{Sharing}
use Rattle.sv_model.specs.declared.line.Trace.{Trace}
use Rattle.sv_lines.specs.declared.taken.TakenLines.TheInside.{Inside}
use Rattle.sv_lines.specs.declared.extent.Extent.{Extent}
use Rattle.sv_lines.specs.declared.extent.Extent.TheVariants as extent
use Rattle.sv_lines.specs.Extents.{as_resource}
use Rattle.sv_rules.specs.Named.{is_new_queue, is_new_resource, is_new_semaphore, is_new_event, is_new_fence}
use Rattle.sv_rules.specs.Places.{is_recording}
use Rattle.sv_lines.specs.Sound.{IsSound, DeclarationsAgree, trace_from}
use Rattle.sv_lines.specs.Tables.{Puts, IsAsBefore}
use Rattle.sv_rules.specs.Taken.{has_ended}
use Rattle.sv_lines.proofs.Declared.{queue_more, resource_more, semaphore_more, event_more, fence_more}

-- the trace of the lists, and what is said of the tables
abbrev pub trace_in : Inside → Trace
trace_in x = trace_from x.queues.lines.items x.resources.lines.items x.semaphores.lines.items
    x.events.lines.items x.fences.lines.items x.passes.lines.items
    x.recordings.list.items x.scripts.lanes x.scripts.recorders x.scripts.order.items

abbrev pub IsSoundInside : Inside → Type 0
IsSoundInside x = IsSound x.lines (trace_in x) x.size x.queues.table x.resources.table x.semaphores.table
    x.events.table x.fences.table x.passes.table x.sizes
    x.recordings.known.items x.recordings.places x.recordings.busy

-- with other declaring lines of queues, resources, semaphores, events and fences
abbrev pub redeclared : Inside → List Line → List Line → List Line → List Line → List Line → Trace
redeclared x qs rs ss es fs = trace_from qs rs ss es fs x.passes.lines.items x.recordings.list.items
    x.scripts.lanes x.scripts.recorders x.scripts.order.items

pub sound_redeclared : (x : Inside) (lines : ℕ) (qs rs ss es fs : List Line)
    (q : BTreeMap ℕ (ℕ × ℕ)) (r : BTreeMap ℕ Extent) (s : BTreeMap ℕ SemKind) (e : BTreeMap ℕ ℕ)
    (f : BTreeMap ℕ Bool)
    → IsSoundInside x → x.lines ≤ lines → lines ≤ 1000000
    → DeclarationsAgree (redeclared x qs rs ss es fs) q r s e f x.passes.table
    → IsSound lines (redeclared x qs rs ss es fs) x.size q r s e f x.passes.table x.sizes
    x.recordings.known.items x.recordings.places x.recordings.busy
unfolding has_ended is_recording
sound_redeclared x lines qs rs ss es fs q r s e f h le few d = record {
  declared = d;
  recorded = record {
    known = h.recorded.known;
    places = h.recorded.places;
    places_known = h.recorded.places_known;
    unknown = h.recorded.unknown;
    recorder_count = h.recorded.recorder_count;
    busy = h.recorded.busy;
    own = h.recorded.own;
    small = h.recorded.small;
    lone = h.recorded.lone;
  };
  steady = record {
    scopes = h.steady.scopes;
    steps = h.steady.steps;
    calls = h.steady.calls;
    sizes = h.steady.sizes;
  };
  size = h.size;
  few = few;
  lanes = h.lanes;
  recorders = h.recorders;
  short = λ lane. let before = h.short lane in omega (arith, before, le);
}

-- the table of queues is as before
pub queue_again : (x : Inside) (items : List Line) (table : BTreeMap ℕ (ℕ × ℕ)) → IsSoundInside x → items
    ≡ x.queues.lines.items → IsAsBefore x.queues.table table
    → IsSound x.lines (redeclared x items x.resources.lines.items x.semaphores.lines.items
    x.events.lines.items x.fences.lines.items) x.size table x.resources.table x.semaphores.table
    x.events.table x.fences.table x.passes.table x.sizes x.recordings.known.items x.recordings.places
    x.recordings.busy
queue_again x items table h e as_before =
    subst (λ (all : List Line). IsSound x.lines (redeclared x all x.resources.lines.items
    x.semaphores.lines.items x.events.lines.items x.fences.lines.items) x.size table x.resources.table
    x.semaphores.table x.events.table x.fences.table x.passes.table x.sizes x.recordings.known.items
    x.recordings.places x.recordings.busy) (sym e)
    (sound_redeclared x x.lines x.queues.lines.items x.resources.lines.items x.semaphores.lines.items
    x.events.lines.items x.fences.lines.items table x.resources.table x.semaphores.table x.events.table
    x.fences.table h (omega arith) h.few (record {
      queues = λ k. as_before k ∙ h.declared.queues k;
      resources = h.declared.resources;
      semaphores = h.declared.semaphores;
      events = h.declared.events;
      fences = h.declared.fences;
      passes = h.declared.passes;
      passes_known = h.declared.passes_known;
    }))

-- the table of resources is as before
pub resource_again : (x : Inside) (items : List Line) (table : BTreeMap ℕ Extent) → IsSoundInside x → items
    ≡ x.resources.lines.items → IsAsBefore x.resources.table table
    → IsSound x.lines (redeclared x x.queues.lines.items items x.semaphores.lines.items x.events.lines.items
    x.fences.lines.items) x.size x.queues.table table x.semaphores.table x.events.table x.fences.table
    x.passes.table x.sizes x.recordings.known.items x.recordings.places x.recordings.busy
resource_again x items table h e as_before =
    subst (λ (all : List Line). IsSound x.lines (redeclared x x.queues.lines.items all
    x.semaphores.lines.items x.events.lines.items x.fences.lines.items) x.size x.queues.table table
    x.semaphores.table x.events.table x.fences.table x.passes.table x.sizes x.recordings.known.items
    x.recordings.places x.recordings.busy) (sym e)
    (sound_redeclared x x.lines x.queues.lines.items x.resources.lines.items x.semaphores.lines.items
    x.events.lines.items x.fences.lines.items x.queues.table table x.semaphores.table x.events.table
    x.fences.table h (omega arith) h.few (record {
      queues = h.declared.queues;
      resources = λ k. ap (option_map as_resource) (as_before k) ∙ h.declared.resources k;
      semaphores = h.declared.semaphores;
      events = h.declared.events;
      fences = h.declared.fences;
      passes = h.declared.passes;
      passes_known = h.declared.passes_known;
    }))

-- the table of semaphores is as before
pub semaphore_again : (x : Inside) (items : List Line) (table : BTreeMap ℕ SemKind) → IsSoundInside x
    → items ≡ x.semaphores.lines.items → IsAsBefore x.semaphores.table table
    → IsSound x.lines (redeclared x x.queues.lines.items x.resources.lines.items items x.events.lines.items
    x.fences.lines.items) x.size x.queues.table x.resources.table table x.events.table x.fences.table
    x.passes.table x.sizes x.recordings.known.items x.recordings.places x.recordings.busy
semaphore_again x items table h e as_before =
    subst (λ (all : List Line). IsSound x.lines (redeclared x x.queues.lines.items x.resources.lines.items
    all x.events.lines.items x.fences.lines.items) x.size x.queues.table x.resources.table table
    x.events.table x.fences.table x.passes.table x.sizes x.recordings.known.items x.recordings.places
    x.recordings.busy) (sym e)
    (sound_redeclared x x.lines x.queues.lines.items x.resources.lines.items x.semaphores.lines.items
    x.events.lines.items x.fences.lines.items x.queues.table x.resources.table table x.events.table
    x.fences.table h (omega arith) h.few (record {
      queues = h.declared.queues;
      resources = h.declared.resources;
      semaphores = λ k. as_before k ∙ h.declared.semaphores k;
      events = h.declared.events;
      fences = h.declared.fences;
      passes = h.declared.passes;
      passes_known = h.declared.passes_known;
    }))

-- the table of events is as before
pub event_again : (x : Inside) (items : List Line) (table : BTreeMap ℕ ℕ) → IsSoundInside x → items
    ≡ x.events.lines.items → IsAsBefore x.events.table table
    → IsSound x.lines (redeclared x x.queues.lines.items x.resources.lines.items x.semaphores.lines.items
    items x.fences.lines.items) x.size x.queues.table x.resources.table x.semaphores.table table
    x.fences.table x.passes.table x.sizes x.recordings.known.items x.recordings.places x.recordings.busy
event_again x items table h e as_before =
    subst (λ (all : List Line). IsSound x.lines (redeclared x x.queues.lines.items x.resources.lines.items
    x.semaphores.lines.items all x.fences.lines.items) x.size x.queues.table x.resources.table
    x.semaphores.table table x.fences.table x.passes.table x.sizes x.recordings.known.items
    x.recordings.places x.recordings.busy) (sym e)
    (sound_redeclared x x.lines x.queues.lines.items x.resources.lines.items x.semaphores.lines.items
    x.events.lines.items x.fences.lines.items x.queues.table x.resources.table x.semaphores.table table
    x.fences.table h (omega arith) h.few (record {
      queues = h.declared.queues;
      resources = h.declared.resources;
      semaphores = h.declared.semaphores;
      events = λ k. as_before k ∙ h.declared.events k;
      fences = h.declared.fences;
      passes = h.declared.passes;
      passes_known = h.declared.passes_known;
    }))

-- the table of fences is as before
pub fence_again : (x : Inside) (items : List Line) (table : BTreeMap ℕ Bool) → IsSoundInside x → items
    ≡ x.fences.lines.items → IsAsBefore x.fences.table table
    → IsSound x.lines (redeclared x x.queues.lines.items x.resources.lines.items x.semaphores.lines.items
    x.events.lines.items items) x.size x.queues.table x.resources.table x.semaphores.table x.events.table
    table x.passes.table x.sizes x.recordings.known.items x.recordings.places x.recordings.busy
fence_again x items table h e as_before =
    subst (λ (all : List Line). IsSound x.lines (redeclared x x.queues.lines.items x.resources.lines.items
    x.semaphores.lines.items x.events.lines.items all) x.size x.queues.table x.resources.table
    x.semaphores.table x.events.table table x.passes.table x.sizes x.recordings.known.items
    x.recordings.places x.recordings.busy) (sym e)
    (sound_redeclared x x.lines x.queues.lines.items x.resources.lines.items x.semaphores.lines.items
    x.events.lines.items x.fences.lines.items x.queues.table x.resources.table x.semaphores.table
    x.events.table table h (omega arith) h.few (record {
      queues = h.declared.queues;
      resources = h.declared.resources;
      semaphores = h.declared.semaphores;
      events = h.declared.events;
      fences = λ k. as_before k ∙ h.declared.fences k;
      passes = h.declared.passes;
      passes_known = h.declared.passes_known;
    }))

pub queue_kept : (x : Inside) (items : List Line) (table : BTreeMap ℕ (ℕ × ℕ)) (n family lane : ℕ)
    → IsSoundInside x → x.lines < 1000000 → is_new_queue (trace_in x) n ≡ true → items
    ≡ x.queues.lines.items ++ line.Queue n family lane ∷ [] → Puts x.queues.table table n (family, lane)
    → IsSound (x.lines + 1) (redeclared x items x.resources.lines.items x.semaphores.lines.items
    x.events.lines.items x.fences.lines.items) x.size table x.resources.table x.semaphores.table
    x.events.table x.fences.table x.passes.table x.sizes x.recordings.known.items x.recordings.places
    x.recordings.busy
queue_kept x items table n family lane h few first e puts =
    subst (λ (all : List Line). IsSound (x.lines + 1)
    (redeclared x all x.resources.lines.items x.semaphores.lines.items x.events.lines.items
    x.fences.lines.items) x.size table x.resources.table x.semaphores.table x.events.table x.fences.table
    x.passes.table x.sizes x.recordings.known.items x.recordings.places x.recordings.busy) (sym e)
    (sound_redeclared x (x.lines + 1) (x.queues.lines.items ++ line.Queue n family lane ∷ [])
    x.resources.lines.items x.semaphores.lines.items x.events.lines.items x.fences.lines.items table
    x.resources.table x.semaphores.table x.events.table x.fences.table h (omega arith)
    (omega (arith, few)) (record {
      queues = queue_more (trace_in x) n family lane x.queues.table table h.declared.queues first puts;
      resources = h.declared.resources;
      semaphores = h.declared.semaphores;
      events = h.declared.events;
      fences = h.declared.fences;
      passes = h.declared.passes;
      passes_known = h.declared.passes_known;
    }))

pub buffer_kept : (x : Inside) (items : List Line) (table : BTreeMap ℕ Extent) (n size : ℕ)
    (sharing : Sharing) → IsSoundInside x → x.lines < 1000000 → is_new_resource (trace_in x) n ≡ true
    → items ≡ x.resources.lines.items ++ line.Buffer n size sharing ∷ []
    → Puts x.resources.table table n (extent.Bytes size)
    → IsSound (x.lines + 1) (redeclared x x.queues.lines.items items x.semaphores.lines.items
    x.events.lines.items x.fences.lines.items) x.size x.queues.table table x.semaphores.table
    x.events.table x.fences.table x.passes.table x.sizes x.recordings.known.items x.recordings.places
    x.recordings.busy
buffer_kept x items table n size sharing h few first e puts =
    subst (λ (all : List Line). IsSound (x.lines + 1)
    (redeclared x x.queues.lines.items all x.semaphores.lines.items x.events.lines.items
    x.fences.lines.items) x.size x.queues.table table x.semaphores.table x.events.table x.fences.table
    x.passes.table x.sizes x.recordings.known.items x.recordings.places x.recordings.busy) (sym e)
    (sound_redeclared x (x.lines + 1) x.queues.lines.items
    (x.resources.lines.items ++ line.Buffer n size sharing ∷ []) x.semaphores.lines.items
    x.events.lines.items x.fences.lines.items x.queues.table table x.semaphores.table x.events.table
    x.fences.table h (omega arith) (omega (arith, few)) (record {
      queues = h.declared.queues;
      resources = resource_more (trace_in x) n (extent.Bytes size)
          (line.Buffer n size sharing) x.resources.table table (λ k. refl) h.declared.resources first puts;
      semaphores = h.declared.semaphores;
      events = h.declared.events;
      fences = h.declared.fences;
      passes = h.declared.passes;
      passes_known = h.declared.passes_known;
    }))

pub image_kept : (x : Inside) (items : List Line) (table : BTreeMap ℕ Extent) (n mips layers : ℕ)
    (initial : Layout) (sharing : Sharing) → IsSoundInside x → x.lines < 1000000
    → is_new_resource (trace_in x) n ≡ true → items ≡ x.resources.lines.items
    ++ line.Image n mips layers initial sharing ∷ []
    → Puts x.resources.table table n (extent.Image mips layers)
    → IsSound (x.lines + 1) (redeclared x x.queues.lines.items items x.semaphores.lines.items
    x.events.lines.items x.fences.lines.items) x.size x.queues.table table x.semaphores.table
    x.events.table x.fences.table x.passes.table x.sizes x.recordings.known.items x.recordings.places
    x.recordings.busy
image_kept x items table n mips layers initial sharing h few first e puts =
    subst (λ (all : List Line). IsSound (x.lines + 1)
    (redeclared x x.queues.lines.items all x.semaphores.lines.items x.events.lines.items
    x.fences.lines.items) x.size x.queues.table table x.semaphores.table x.events.table x.fences.table
    x.passes.table x.sizes x.recordings.known.items x.recordings.places x.recordings.busy) (sym e)
    (sound_redeclared x (x.lines + 1) x.queues.lines.items
    (x.resources.lines.items ++ line.Image n mips layers initial sharing ∷ []) x.semaphores.lines.items
    x.events.lines.items x.fences.lines.items x.queues.table table x.semaphores.table x.events.table
    x.fences.table h (omega arith) (omega (arith, few)) (record {
      queues = h.declared.queues;
      resources = resource_more (trace_in x) n (extent.Image mips layers)
          (line.Image n mips layers initial sharing) x.resources.table table
          (λ k. refl) h.declared.resources first puts;
      semaphores = h.declared.semaphores;
      events = h.declared.events;
      fences = h.declared.fences;
      passes = h.declared.passes;
      passes_known = h.declared.passes_known;
    }))

pub semaphore_kept : (x : Inside) (items : List Line) (table : BTreeMap ℕ SemKind) (n : ℕ) (kind : SemKind)
    (initial : Option ℕ) → IsSoundInside x → x.lines < 1000000 → is_new_semaphore (trace_in x) n ≡ true
    → items ≡ x.semaphores.lines.items ++ line.Semaphore n kind initial ∷ []
    → Puts x.semaphores.table table n kind
    → IsSound (x.lines + 1) (redeclared x x.queues.lines.items x.resources.lines.items items
    x.events.lines.items x.fences.lines.items) x.size x.queues.table x.resources.table table
    x.events.table x.fences.table x.passes.table x.sizes x.recordings.known.items x.recordings.places
    x.recordings.busy
semaphore_kept x items table n kind initial h few first e puts =
    subst (λ (all : List Line). IsSound (x.lines + 1)
    (redeclared x x.queues.lines.items x.resources.lines.items all x.events.lines.items
    x.fences.lines.items) x.size x.queues.table x.resources.table table x.events.table x.fences.table
    x.passes.table x.sizes x.recordings.known.items x.recordings.places x.recordings.busy) (sym e)
    (sound_redeclared x (x.lines + 1) x.queues.lines.items x.resources.lines.items
    (x.semaphores.lines.items ++ line.Semaphore n kind initial ∷ []) x.events.lines.items
    x.fences.lines.items x.queues.table x.resources.table table x.events.table x.fences.table h
    (omega arith) (omega (arith, few)) (record {
      queues = h.declared.queues;
      resources = h.declared.resources;
      semaphores = semaphore_more (trace_in x) n kind initial x.semaphores.table table h.declared.semaphores
          first puts;
      events = h.declared.events;
      fences = h.declared.fences;
      passes = h.declared.passes;
      passes_known = h.declared.passes_known;
    }))

pub event_kept : (x : Inside) (items : List Line) (table : BTreeMap ℕ ℕ) (n : ℕ) → IsSoundInside x → x.lines
    < 1000000 → is_new_event (trace_in x) n ≡ true → items ≡ x.events.lines.items ++ line.Event n ∷ []
    → Puts x.events.table table n n
    → IsSound (x.lines + 1) (redeclared x x.queues.lines.items x.resources.lines.items
    x.semaphores.lines.items items x.fences.lines.items) x.size x.queues.table x.resources.table
    x.semaphores.table table x.fences.table x.passes.table x.sizes x.recordings.known.items
    x.recordings.places x.recordings.busy
event_kept x items table n h few first e puts =
    subst (λ (all : List Line). IsSound (x.lines + 1)
    (redeclared x x.queues.lines.items x.resources.lines.items x.semaphores.lines.items all
    x.fences.lines.items) x.size x.queues.table x.resources.table x.semaphores.table table x.fences.table
    x.passes.table x.sizes x.recordings.known.items x.recordings.places x.recordings.busy) (sym e)
    (sound_redeclared x (x.lines + 1) x.queues.lines.items x.resources.lines.items x.semaphores.lines.items
    (x.events.lines.items ++ line.Event n ∷ []) x.fences.lines.items x.queues.table x.resources.table
    x.semaphores.table table x.fences.table h (omega arith) (omega (arith, few)) (record {
      queues = h.declared.queues;
      resources = h.declared.resources;
      semaphores = h.declared.semaphores;
      events = event_more (trace_in x) n x.events.table table h.declared.events first puts;
      fences = h.declared.fences;
      passes = h.declared.passes;
      passes_known = h.declared.passes_known;
    }))

pub fence_kept : (x : Inside) (items : List Line) (table : BTreeMap ℕ Bool) (n : ℕ) (signaled : Bool)
    → IsSoundInside x → x.lines < 1000000 → is_new_fence (trace_in x) n ≡ true → items
    ≡ x.fences.lines.items ++ line.Fence n signaled ∷ [] → Puts x.fences.table table n signaled
    → IsSound (x.lines + 1) (redeclared x x.queues.lines.items x.resources.lines.items
    x.semaphores.lines.items x.events.lines.items items) x.size x.queues.table x.resources.table
    x.semaphores.table x.events.table table x.passes.table x.sizes x.recordings.known.items
    x.recordings.places x.recordings.busy
fence_kept x items table n signaled h few first e puts =
    subst (λ (all : List Line). IsSound (x.lines + 1)
    (redeclared x x.queues.lines.items x.resources.lines.items x.semaphores.lines.items
    x.events.lines.items all) x.size x.queues.table x.resources.table x.semaphores.table x.events.table
    table x.passes.table x.sizes x.recordings.known.items x.recordings.places x.recordings.busy) (sym e)
    (sound_redeclared x (x.lines + 1) x.queues.lines.items x.resources.lines.items x.semaphores.lines.items
    x.events.lines.items (x.fences.lines.items ++ line.Fence n signaled ∷ []) x.queues.table
    x.resources.table x.semaphores.table x.events.table table h (omega arith) (omega (arith, few))
    (record {
      queues = h.declared.queues;
      resources = h.declared.resources;
      semaphores = h.declared.semaphores;
      events = h.declared.events;
      fences = fence_more (trace_in x) n signaled x.fences.table table h.declared.fences first puts;
      passes = h.declared.passes;
      passes_known = h.declared.passes_known;
    }))
