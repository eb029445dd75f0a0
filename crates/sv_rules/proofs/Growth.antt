-- What is lawful in a trace is lawful in one that has grown: one that finds whatever the first finds.
use Rattle.std.proofs.Common.{◌≡◌, ℕ, ◌+◌, ◌<◌, List, [], ◌∷◌, ◌++◌, true, false, Option, None, Some, refl}
use Rattle.std.proofs.Common.{sym, ◌∙◌, ap, subst, arith, length, IsTrue, is_some, slice_get}
use Rattle.std.proofs.Common.{slice_index_or, unwrap_or, filter_map}
use Rattle.std.specs.List.{cons_option, list_any}
use Rattle.std.proofs.lemmas.Option.{none-some}
use Rattle.sv_model.specs.declared.line.Line.{Line}
use Rattle.sv_model.specs.declared.line.Line.TheVariants as line
use Rattle.sv_model.specs.declared.line.Command.{Command}
use Rattle.sv_model.specs.declared.line.Command.TheVariants as command
use Rattle.sv_model.specs.declared.line.Batch.{Batch}
use Rattle.sv_model.specs.declared.line.Declared.{Declared}
use Rattle.sv_model.specs.declared.line.Element.{Element}
use Rattle.sv_model.specs.declared.line.Target.{Target}
use Rattle.sv_model.specs.declared.line.Part.{Part}
use Rattle.sv_model.specs.declared.line.SemaphoreUse.{SemaphoreUse}
use Rattle.sv_model.specs.declared.line.SemKind.{SemKind}
use Rattle.sv_model.specs.declared.line.Trace.{Trace}
use Rattle.sv_model.specs.Declarations.{QueueLine, Pass, empty_pass, said, says_event, says_signaled}
use Rattle.sv_model.specs.Declarations.{says_pass, queue_of, resource_of, semaphore_kind, is_event, is_fence}
use Rattle.sv_model.specs.Declarations.{is_pass, pass_of, recording_of}
use Rattle.sv_model.specs.Recordings.{Scope, Outside, InRendering, InPass, scope_after}
use Rattle.sv_model.specs.LawfulParts.{IsInside, IsLawfulAccess, TargetIsLawful, IsLawfulElement}
use Rattle.sv_model.specs.LawfulParts.{HasItsValue, IsLawfulUse}
use Rattle.sv_model.specs.LawfulCommands.{MayStandIn, IsBeforeLast, IsInLast, contains_element}
use Rattle.sv_model.specs.LawfulCommands.{IsLawfulCommand, AreLawful}
use Rattle.sv_model.specs.Lawful.{HasFamily, IsLawfulBatch, IsFenceOrNone, IsQueueOf, BatchesAreLawful}
use Rattle.sv_model.specs.Lawful.{IsLawfulCall}

-- where the first gives something, the second gives the same
abbrev pub Keeps : {X : Type 0} → Option X → Option X → Type 0
Keeps {X} old new = (x : X) → old ≡ Some x → new ≡ Some x

-- whatever a trace finds is found in the other, and a recording has its family
pub record Grows (t u : Trace) : Type 0 where
  pub queues : (n : ℕ) → Keeps (queue_of t n) (queue_of u n)
  pub resources : (n : ℕ) → Keeps (resource_of t n) (resource_of u n)
  pub kinds : (n : ℕ) → Keeps (semaphore_kind t n) (semaphore_kind u n)
  pub events : (n : ℕ) → Keeps (said (says_event n) t.events) (said (says_event n) u.events)
  pub fences : (n : ℕ) → Keeps (said (says_signaled n) t.fences) (said (says_signaled n) u.fences)
  pub passes : (n : ℕ) → Keeps (said (says_pass n) t.passes) (said (says_pass n) u.passes)
  pub recordings : (family n : ℕ) → HasFamily family (recording_of t n) → HasFamily family (recording_of u n)

-- Lists of declaring lines that go on.

kept_by : {X : Type 0} (o : Option X) (xs more : List X) → Keeps (slice_get xs 0) (slice_get more 0)
    → Keeps (slice_get (cons_option o xs) 0) (slice_get (cons_option o more) 0)
kept_by None xs more h x e = h x e
kept_by (Some y) xs more h x e = e

-- what lines say stays said with more lines
pub said_kept : {X : Type 0} (says : Line → Option X) (xs more : List Line)
    → Keeps (said says xs) (said says (xs ++ more))
said_kept says [] more x e = absurd (none-some x e)
said_kept says (y ∷ ys) more x e = kept_by (says y) (filter_map says ys) (filter_map says (ys ++ more))
    (said_kept says ys more) x e

-- What holds of something that is found holds of it when more is found.

pub kept : {X : Type 0} (P : Option X → Type 0) (old new : Option X) → (P None → ⊥) → Keeps old new → P old
    → P new
kept P None new none keeps h = absurd (none h)
kept P (Some x) new none keeps h = subst P (sym (keeps x refl)) h

not_false : false ≡ true → ⊥
not_false e = cc

some_kept : {X : Type 0} (old new : Option X) → Keeps old new → IsTrue (is_some old) → IsTrue (is_some new)
some_kept old new keeps h = kept (λ o. IsTrue (is_some o)) old new not_false keeps h

pub part_kept : (t u : Trace) → Grows t u → (res : ℕ) (part : Part) → IsInside (resource_of t res) part
    → IsInside (resource_of u res) part
part_kept t u g res part h = kept (λ o. IsInside o part) (resource_of t res) (resource_of u res)
    (λ none. none) (g.resources res) h

-- a property of a pass that the empty pass has not
pub pass_kept : (t u : Trace) → Grows t u → (P : Pass → Type 0) (n : ℕ) → (P empty_pass → ⊥)
    → P (pass_of t n) → P (pass_of u n)
pass_kept t u g P n none h = kept (λ o. P (unwrap_or o empty_pass)) (said (says_pass n) t.passes)
    (said (says_pass n) u.passes) none (g.passes n) h

-- a pass with such a property is the same
pub same_pass : (t u : Trace) → Grows t u → (P : Pass → Type 0) (n : ℕ) → (P empty_pass → ⊥)
    → P (pass_of t n) → pass_of u n ≡ pass_of t n
same_pass t u g P n none h = by_cases (said (says_pass n) t.passes) (g.passes n) h
  where
    by_cases : (old : Option Pass) → Keeps old (said (says_pass n) u.passes) → P (unwrap_or old empty_pass)
        → pass_of u n ≡ unwrap_or old empty_pass
    by_cases None keeps has = absurd (none has)
    by_cases (Some p) keeps has = ap (λ o. unwrap_or o empty_pass) (keeps p refl)

pub declared_pass_same : (t u : Trace) → Grows t u → (n : ℕ) → IsTrue (is_pass t n) → pass_of u n
    ≡ pass_of t n
declared_pass_same t u g n h = by_cases (said (says_pass n) t.passes) (g.passes n) h
  where
    by_cases : (old : Option Pass) → Keeps old (said (says_pass n) u.passes) → IsTrue (is_some old)
        → pass_of u n ≡ unwrap_or old empty_pass
    by_cases None keeps has = absurd (not_false has)
    by_cases (Some p) keeps has = ap (λ o. unwrap_or o empty_pass) (keeps p refl)

-- Commands.

access_kept : (t u : Trace) → Grows t u → (d : Declared) → IsLawfulAccess t d → IsLawfulAccess u d
access_kept t u g d h = record {
  inside = part_kept t u g d.res d.part h.inside;
  usage = h.usage;
  layout = h.layout;
}

target_kept : (t u : Trace) → Grows t u → (o : Option Target) → TargetIsLawful t o → TargetIsLawful u o
target_kept t u g None h = tt
target_kept t u g (Some x) h = record {
  inside = part_kept t u g x.res x.part h.inside;
  layouts = h.layouts;
  families = h.families;
}

element_kept : (t u : Trace) → Grows t u → (e : Element) → IsLawfulElement t e → IsLawfulElement u e
element_kept t u g e h = record { src = h.src; dst = h.dst; target = target_kept t u g e.target h.target }

pub no_more : (i : ℕ) → i < 0 → ⊥
no_more i h = omega (arith, h)

pub not_last : (i : ℕ) → i + 1 ≡ 0 → ⊥
not_last i h = omega (arith, h)

place_kept : (t u : Trace) → Grows t u → (family : ℕ) (scope : Scope) (e : Element)
    → MayStandIn t family scope e → MayStandIn u family scope e
place_kept t u g family Outside e h = h
place_kept t u g family (InRendering attachments) e h = h
place_kept t u g family (InPass pass views i) e h = (
  h.0,
  h.1,
  pass_kept t u g (λ (p : Pass). IsTrue (list_any (contains_element i e) p.deps)) pass
      not_false h.2,
)

before_last_kept : (t u : Trace) → Grows t u → (scope : Scope) → IsBeforeLast t scope → IsBeforeLast u scope
before_last_kept t u g Outside h = h
before_last_kept t u g (InRendering attachments) h = h
before_last_kept t u g (InPass pass views i) h = pass_kept t u g
    (λ (p : Pass). i + 1 < length p.subpasses) pass (no_more (i + 1)) h

in_last_kept : (t u : Trace) → Grows t u → (scope : Scope) → IsInLast t scope → IsInLast u scope
in_last_kept t u g Outside h = h
in_last_kept t u g (InRendering attachments) h = h
in_last_kept t u g (InPass pass views i) h = pass_kept t u g (λ (p : Pass). i + 1 ≡ length p.subpasses) pass
    (not_last i) h

event_kept : (t u : Trace) → Grows t u → (n : ℕ) → IsTrue (is_event t n) → IsTrue (is_event u n)
event_kept t u g n h = some_kept (said (says_event n) t.events) (said (says_event n) u.events) (g.events n) h

pub command_kept : (t u : Trace) → Grows t u → (family : ℕ) (scope : Scope) (c : Command)
    → IsLawfulCommand t family scope c → IsLawfulCommand u family scope c
command_kept t u g family scope (command.Work accesses) h =
    record {
      short = h.short;
      each = λ k d lt. access_kept t u g (slice_index_or accesses k d)
          (h.each k d lt);
      place = h.place;
    }
command_kept t u g family scope (command.Barrier deps) h = record {
  where_allowed = h.where_allowed;
  short = h.short;
  each = λ k d lt. element_kept t u g (slice_index_or deps k d) (h.each k d lt);
  place = λ k d lt. place_kept t u g family scope (slice_index_or deps k d) (h.place k d lt);
}
command_kept t u g family scope (command.SetEvent event deps) h = record {
  outside = h.outside;
  declared = event_kept t u g event h.declared;
  short = h.short;
  each = λ k d lt. element_kept t u g (slice_index_or deps k d) (h.each k d lt);
  place = h.place;
}
command_kept t u g family scope (command.WaitEvent event) h =
    record { outside = h.outside; declared = event_kept t u g event h.declared }
command_kept t u g family scope (command.ResetEvent event) h =
    record { outside = h.outside; declared = event_kept t u g event h.declared }
command_kept t u g family scope (command.BeginRendering attachments) h = record {
  outside = h.outside;
  few = h.few;
  each = λ k d lt. part_kept t u g (slice_index_or attachments k d).res _ (h.each k d lt);
}
command_kept t u g family scope command.EndRendering h = h
command_kept t u g family scope (command.BeginPass pass views) h = record {
  outside = h.outside;
  declared = some_kept (said (says_pass pass) t.passes) (said (says_pass pass) u.passes)
      (g.passes pass) h.declared;
  each = λ k d lt. part_kept t u g (slice_index_or views k d).res _ (h.each k d lt);
  count = h.count ∙ ap (λ (p : Pass). length p.attachments) (sym (declared_pass_same t u g pass h.declared));
}
command_kept t u g family scope command.NextSubpass h = before_last_kept t u g scope h
command_kept t u g family scope command.EndPass h = in_last_kept t u g scope h

pub commands_kept : (t u : Trace) → Grows t u → (family : ℕ) (cs : List Command) → AreLawful t family cs
    → AreLawful u family cs
commands_kept t u g family [] h = tt
commands_kept t u g family (c ∷ before) h = (
  command_kept t u g family (scope_after before) c h.0,
  commands_kept t u g family before h.1,
)

-- Calls.

use_kept : (t u : Trace) → Grows t u → (x : SemaphoreUse) → IsLawfulUse t x → IsLawfulUse u x
use_kept t u g x h = kept (λ (o : Option SemKind). HasItsValue o x.value) (semaphore_kind t x.sem)
    (semaphore_kind u x.sem) (λ none. none) (g.kinds x.sem) h

batch_kept : (t u : Trace) → Grows t u → (family : ℕ) (b : Batch) → IsLawfulBatch t family b
    → IsLawfulBatch u family b
batch_kept t u g family b h = record {
  waits_short = h.waits_short;
  waits = λ k d lt. use_kept t u g (slice_index_or b.waits k d) (h.waits k d lt);
  recs_few = h.recs_few;
  recs = λ k d lt. g.recordings family (slice_index_or b.recs k d) (h.recs k d lt);
  signals_short = h.signals_short;
  signals = λ k d lt. use_kept t u g (slice_index_or b.signals k d) (h.signals k d lt);
}

batches_kept : (t u : Trace) → Grows t u → (o : Option QueueLine) (batches : List Batch)
    → BatchesAreLawful t o batches → BatchesAreLawful u o batches
batches_kept t u g None batches h = h
batches_kept t u g (Some q) batches h = λ k d lt. batch_kept t u g q.family (slice_index_or batches k d)
    (h k d lt)

fence_kept : (t u : Trace) → Grows t u → (n : ℕ) → IsTrue (is_fence t n) → IsTrue (is_fence u n)
fence_kept t u g n h = some_kept (said (says_signaled n) t.fences) (said (says_signaled n) u.fences)
    (g.fences n) h

signal_kept : (t u : Trace) → Grows t u → (fence : Option ℕ) → IsFenceOrNone t fence → IsFenceOrNone u fence
signal_kept t u g None h = tt
signal_kept t u g (Some fence) h = fence_kept t u g fence h

queue_kept : (t u : Trace) → Grows t u → (lane queue : ℕ) → IsQueueOf lane (queue_of t queue)
    → IsQueueOf lane (queue_of u queue)
queue_kept t u g lane queue h = kept (IsQueueOf lane) (queue_of t queue) (queue_of u queue) (λ none. none)
    (g.queues queue) h

pub call_kept : (t u : Trace) → Grows t u → (n : ℕ) (l : Line) → IsLawfulCall t n l → IsLawfulCall u n l
call_kept t u g n (line.Submit lane queue batches fence) h = (
  h.0,
  record {
    of_lane = queue_kept t u g n queue h.1.of_lane;
    short = h.1.short;
    each = kept (λ o. BatchesAreLawful u o batches) (queue_of t queue) (queue_of u queue) (λ none. none)
        (g.queues queue) (batches_kept t u g (queue_of t queue) batches h.1.each);
    signals = signal_kept t u g fence h.1.signals;
  },
)
call_kept t u g n (line.WaitFence lane fence) h = (h.0, fence_kept t u g fence h.1)
call_kept t u g n (line.ResetFence lane fence) h = (h.0, fence_kept t u g fence h.1)
call_kept t u g n (line.WaitQueue lane queue) h = (h.0, queue_kept t u g n queue h.1)
call_kept t u g n (line.WaitDevice lane) h = h
call_kept t u g n other h = absurd h
