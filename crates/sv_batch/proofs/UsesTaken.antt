-- Waits and signals that are taken: the groups and notes that each gives, and what it leaves.
use Rattle.std.proofs.Common.{ℕ, ◌≡◌, ◌+◌, ◌∙◌, ◌++◌, Bool, true, false, List, [], ◌∷◌, Option, Some, None}
use Rattle.std.proofs.Common.{ap, leb-false, leb-true, length, map, option_to_list, refl, subst, sym}
use Rattle.std.specs.Prelude.{Result, Ok, Err, OnOk, find, if◌then◌else◌, nat_le, nat_lt}
use Rattle.std.proofs.lemmas.Bool.{le-ltb, lt-ltb}
use Rattle.std.specs.List.{All}
use Rattle.std.specs.Option.{option_map_or}
use Rattle.std.proofs.lemmas.List.Elements.{All-cons, All-nil}
use Rattle.sv_mask.specs.Scopes.{second_sync, usages_at}
use Rattle.sv_mask.specs.declared.stage.Stages.{Stages}
use Rattle.sv_mask.specs.declared.usage.Usages.{Usages}
use Rattle.sv_model.specs.Semaphores.{wait_given, binary_pair, current_value, pair_for, raises, serves}
use Rattle.sv_model.specs.Semaphores.{signaled, waited}
use Rattle.sv_model.specs.Places.{Bound}
use Rattle.sv_model.specs.Declarations.{initial_value}
use Rattle.sv_model.specs.Primitives.{Made, Signal}
use Rattle.sv_model.specs.QueueGroups.{from_token, place_in, to_token}
use Rattle.sv_model.specs.declared.line.SemaphoreUse.{SemaphoreUse}
use Rattle.sv_model.specs.declared.line.Trace.{Trace}
use Rattle.sv_model.specs.declared.work.Dep.{Dep}
use Rattle.sv_model.specs.declared.work.Group.{Group}
use Rattle.sv_model.specs.declared.work.Note.{Note}
use Rattle.sv_model.specs.declared.work.Place.{Place}
use Rattle.sv_model.specs.declared.work.Step.TheVariants.{Groups}
use Rattle.sv_binding.specs.Runs.{run_for}
use Rattle.sv_binding.specs.declared.run.Run.{Run}
use Rattle.sv_sema.specs.Stands.{SemaphoresStandFor, pairing_of, signal_pairing, signalled_of}
use Rattle.sv_sema.specs.declared.semaphores.Pairing.{Pairing}
use Rattle.sv_sema.specs.declared.semaphores.Pairing.TheVariants.{Initial, Token, NotYet}
use Rattle.sv_sema.specs.declared.semaphores.Semaphores.{Semaphores}
use Rattle.sv_sema.specs.declared.semaphores.Signalled.{Signalled}
use Rattle.sv_sema.specs.declared.semaphores.Signalled.TheVariants.{Done, NotRaised}
use Rattle.sv_step_laws.specs.Steps.{IsGroupOf}
use Rattle.sv_step_laws.proofs.Areas.{plain_group}
use Rattle.sv_replies.specs.Replying.{IsReplySoFar}
use Rattle.sv_steps.specs.Checked.{HaveAreas, StandForSteps}
use Rattle.sv_steps.specs.declared.checks.Checks.{Checks}
use Rattle.sv_event.specs.Stands.{EventsStandFor}
use Rattle.sv_processed.specs.Works.{IsAt, IsLeft, WorkFits, bound_as}
use Rattle.sv_processed.proofs.StepDone.{Taken}
use Rattle.sv_processed.specs.declared.work.Work.{Work}
use Rattle.sv_processed.proofs.EventChanges.{events_same, fences_same}
use Rattle.sv_batch.specs.Running.{pairing_groups}

-- Waits.

token_group_is : (t : Trace) (g : Group) (d : Dep) → g.deps ≡ d ∷ [] → d.range ≡ None → g.transitions ≡ []
    → g.olds ≡ [] → g.transfer ≡ None → IsGroupOf t g
token_group_is t g d deps none transitions olds transfer =
    plain_group t g (subst (λ (ds : List Dep). All (λ (x : Dep). x.range ≡ None) ds) (sym deps)
    (All-cons (λ (x : Dep). x.range ≡ None) d [] none (All-nil (λ (x : Dep). x.range ≡ None)))) transitions
    olds transfer

pub pairing_fits : (t : Trace) (r : Run) (u : SemaphoreUse) (p : Pairing)
    → All (IsGroupOf t) (pairing_groups r u p)
pairing_fits t r u (Token token) = All-cons (IsGroupOf t) _ []
    (token_group_is t _ _ refl refl refl refl refl) (All-nil (IsGroupOf t))
pairing_fits t r u Initial = All-nil (IsGroupOf t)
pairing_fits t r u NotYet = All-nil (IsGroupOf t)

abbrev with_semaphores : Work → Semaphores → Work
with_semaphores w s = record w { semaphores = s }

pub left_waited : (t : Trace) (m : Made) (w : Work) (s : Semaphores) (u : SemaphoreUse)
    → SemaphoresStandFor t (waited m u) s → IsLeft t m w → IsLeft t (waited m u) (with_semaphores w s)
left_waited t m w s u stands left = record {
  semaphores = stands;
  fences = fences_same t m (waited m u) w.fences refl left.fences;
  vulkan_events = events_same m (waited m u) w.events refl left.vulkan_events;
  instances = left.instances;
  tokens = left.tokens;
}

-- Signals.

abbrev IsDone : Signalled → Type 0
IsDone Done = Unit {0}
IsDone (NotRaised current) = ⊥

abbrev current_in : Signalled → ℕ
current_in Done = 0
current_in (NotRaised current) = current

-- what a signal did says whether it raises
done_for : (t : Trace) (m : Made) (sem : ℕ) (value : Option ℕ) → Done ≡ signalled_of t m sem value
    → option_map_or (nat_lt (current_value t m sem)) value true ≡ true
done_for t m sem None is = refl
done_for t m sem (Some value) is = by_test (nat_le value (current_value t m sem)) refl is
  where
    by_test : (b : Bool) → nat_le value (current_value t m sem) ≡ b → Done
        ≡ (if b then NotRaised (current_value t m sem) else Done) → nat_lt (current_value t m sem) value
        ≡ true
    by_test true e same = absurd (subst IsDone same tt)
    by_test false e same = lt-ltb (current_value t m sem) value (leb-false value (current_value t m sem) e)

not_for : (t : Trace) (m : Made) (sem n : ℕ) (value : Option ℕ) → NotRaised n ≡ signalled_of t m sem value
    → (option_map_or (nat_lt (current_value t m sem)) value true ≡ false) × (n ≡ current_value t m sem)
not_for t m sem n None is = absurd (subst IsDone (sym is) tt)
not_for t m sem n (Some value) is = by_test (nat_le value (current_value t m sem)) refl is
  where
    by_test : (b : Bool) → nat_le value (current_value t m sem) ≡ b → NotRaised n
        ≡ (if b then NotRaised (current_value t m sem) else Done)
        → (nat_lt (current_value t m sem) value ≡ false) × (n ≡ current_value t m sem)
    by_test true e same = (
      le-ltb (current_value t m sem) value (leb-true value (current_value t m sem) e),
      ap current_in same,
    )
    by_test false e same = absurd (subst IsDone (sym same) tt)

pub done_raises : (t : Trace) (m : Made) (u : SemaphoreUse) → Done ≡ signalled_of t m u.sem u.value
    → raises t m u ≡ true
done_raises t m u is = done_for t m u.sem u.value is

pub not_raises : (t : Trace) (m : Made) (u : SemaphoreUse) (n : ℕ) → NotRaised n
    ≡ signalled_of t m u.sem u.value → (raises t m u ≡ false) × (n ≡ current_value t m u.sem)
not_raises t m u n is = not_for t m u.sem n u.value is

-- the signals after one more
kept_by : {Y : Type 0} (said : Made → Y) (b : Bool) (m n : Made) → said n ≡ said m
    → said (if b then n else m) ≡ said m
kept_by said true m n e = e
kept_by said false m n e = refl

abbrev with_signal : Work → Semaphores → ℕ → Work
with_signal w s n = record w { semaphores = s; tokens = n }

module _ (t : Trace) (m : Made) (u : SemaphoreUse) where
  abbrev raised : Made
  raised = record m {
    signals = m.signals ++ record { sem = u.sem; value = u.value; token = m.tokens } ∷ [];
    tokens = m.tokens + 1;
  }

  left_with : (w : Work) (s : Semaphores) (n : ℕ) → SemaphoresStandFor t (signaled t m u) s → n
      ≡ (signaled t m u).tokens → IsLeft t m w → IsLeft t (signaled t m u) (with_signal w s n)
  left_with w s n stands same left = record {
    semaphores = stands;
    fences = fences_same t m (signaled t m u) w.fences
        (kept_by (λ (x : Made). x.fences) (raises t m u) m raised refl) left.fences;
    vulkan_events = events_same m (signaled t m u) w.events
        (kept_by (λ (x : Made). x.events) (raises t m u) m raised refl) left.vulkan_events;
    instances = left.instances ∙ sym (kept_by (λ (x : Made). x.instances) (raises t m u) m raised refl);
    tokens = same;
  }

  pub left_done : (w : Work) (s : Semaphores) (n : ℕ) → raises t m u ≡ true
      → SemaphoresStandFor t (signaled t m u) s
      → n ≡ w.tokens + 1 → IsLeft t m w → IsLeft t (signaled t m u) (with_signal w s n)
  left_done w s n raise stands is left = left_with w s n stands
      (is ∙ ap (λ (k : ℕ). k + 1) left.tokens ∙ ap (λ (b : Bool). (if b then raised else m).tokens)
      (sym raise)) left

  pub left_not : (w : Work) (s : Semaphores) → raises t m u ≡ false → SemaphoresStandFor t (signaled t m u) s
      → IsLeft t m w → IsLeft t (signaled t m u) (with_signal w s w.tokens)
  left_not w s raise stands left = left_with w s w.tokens stands
      (left.tokens ∙ ap (λ (b : Bool). (if b then raised else m).tokens) (sym raise)) left

pub signal_fits : (t : Trace) (place : Place) (q token : ℕ) (s : Stages) (a : Usages)
    → All (IsGroupOf t) (to_token place q s a token ∷ [])
signal_fits t place q token s a = All-cons (IsGroupOf t) _ []
    (token_group_is t _ _ refl refl refl refl refl) (All-nil (IsGroupOf t))

pub on_ok_given : {A E : Type 0} (r : Result A E) {P : Type 0} → P → OnOk r P
on_ok_given (Ok a) p = p
on_ok_given (Err e) p = tt

-- A step of groups.

-- what the work names stays within the resources, where its space, layouts, owners and events are as before
pub fits_alike : (t : Trace) (w v : Work) → v.checks ≡ w.checks → v.events ≡ w.events → WorkFits t w
    → WorkFits t v
fits_alike t w v checks events fits = record {
  lawful = fits.lawful;
  areas = subst (HaveAreas t) (sym checks) fits.areas;
  left = fits.left;
  events = subst (EventsStandFor fits.left) (sym events) fits.events;
  sets = fits.sets;
}

pub step_at : (t : Trace) (event : ℕ) (old more : List Bound) (m k : Made) (w v z : Work)
    (groups hs : List Group) (notes ns : List Note) → Taken v z groups notes → IsAt t event old more m w
    → v.checks ≡ w.checks → IsLeft t k v → groups ≡ hs → notes ≡ ns
    → IsAt t event old (more ++ bound_as (length (old ++ more)) event (Groups hs) ns ∷ []) k z
step_at t event old more m k w v z groups hs notes ns taken at checks left same same_notes =
    let there : IsAt t event old more k v = record {
      left = left;
      steps = subst (StandForSteps t (old ++ more)) (sym checks) at.steps;
      reply = subst (λ (c : Checks). IsReplySoFar t event old more c.reply) (sym checks) at.reply;
    } in
    subst (λ (xs : List Note). IsAt t event old (more
    ++ bound_as (length (old ++ more)) event (Groups hs) xs ∷ []) k z) same_notes
    (subst (λ (gs : List Group). IsAt t event old
    (more ++ bound_as (length (old ++ more)) event (Groups gs) notes ∷ []) k z) same
    (taken t event old more k there))
