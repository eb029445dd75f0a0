-- What is found in the tables.
use Rattle.std.proofs.lemmas.Option.{slice_get-map}
use Rattle.std.proofs.lemmas.Bool.Decides.{eqb_tells}
use Rattle.std.proofs.Common.{◌≡◌, ℕ, List, [], ◌∷◌, Bool, true, false, not, Option, None, Some, eqb, cond}
use Rattle.std.proofs.Common.{refl, sym, ◌∙◌, ap}
use Rattle.std.specs.Prelude.{is_none, is_some, option_map, option_and_then, map, slice_get, reverse, ◌==◌}
use Rattle.std.specs.List.{find}
use Rattle.std.specs.BTreeMap.{BTreeMap, get}
use Rattle.std.specs.Ordering.{nat_cmp}
use Rattle.sv_model.specs.declared.line.Recording.{Recording}
use Rattle.sv_model.specs.declared.line.Trace.{Trace}
use Rattle.sv_model.specs.declared.line.SemKind.{SemKind}
use Rattle.sv_model.specs.Declarations.{said, says_event, says_signaled, semaphore_kind, recording_of}
use Rattle.sv_model.specs.Declarations.{is_pass}
use Rattle.sv_model.specs.Declarations.{commands_in}
use Rattle.std.specs.Prelude.{sum_by}
use Rattle.std.proofs.Common.{inl, inr}
use Rattle.sv_model.specs.Size.{step_size, capped}
use Rattle.sv_model.specs.Recordings.{scope_after, steps_in}
use Rattle.sv_rules.specs.Standings as standing
use Rattle.sv_lines.specs.declared.extent.Extent.{Extent}
use Rattle.sv_lines.specs.declared.known.Known.{Known}
use Rattle.sv_lines.specs.Extents.{as_resource}
use Rattle.sv_lines.specs.KnownParts.{family_of, ended_of, standing_of, size_of}
use Rattle.sv_rules.specs.Taken.{queue_in, resource_in, has_ended, standing_in, family_of_recording, size_in}
use Rattle.sv_rules.specs.Named.{is_new_queue, is_new_resource, is_new_semaphore, is_new_event}
use Rattle.sv_rules.specs.Named.{is_new_fence, is_new_pass, is_new_recording}
use Rattle.sv_lines.proofs.Sized.{lowered_only}
use Rattle.sv_lines.specs.Sound.{known_of, known_in, at_place}

-- `is_none` is told by the clause of the call
pub none_tells : {A : Type 0} (o : Option A) (b : Bool) → is_some o ≡ not b → b ≡ is_none o
none_tells None true e = refl
none_tells None false e = cc
none_tells (Some x) true e = cc
none_tells (Some x) false e = refl

not_some : {A : Type 0} (o : Option A) (b : Bool) → is_some o ≡ not b → b ≡ not (is_some o)
not_some None true e = refl
not_some None false e = cc
not_some (Some x) true e = cc
not_some (Some x) false e = refl

pub none_map : {A B : Type 0} (f : A → B) (o : Option A) → is_none (option_map f o) ≡ is_none o
none_map f None = refl
none_map f (Some x) = refl

pub queue_new : (t : Trace) (n : ℕ) (o : Option (ℕ × ℕ)) (b : Bool) → o ≡ queue_in t n → is_some o ≡ not b
    → b ≡ is_new_queue t n
unfolding is_new_queue
queue_new t n o b e h = none_tells o b h ∙ ap is_none e

pub resource_new : (t : Trace) (n : ℕ) (o : Option Extent) (b : Bool) → option_map as_resource o
    ≡ resource_in t n → is_some o ≡ not b → b ≡ is_new_resource t n
unfolding is_new_resource resource_in
resource_new t n o b e h = none_tells o b h ∙ sym (none_map as_resource o) ∙ ap is_none e

pub semaphore_new : (t : Trace) (n : ℕ) (o : Option SemKind) (b : Bool) → o ≡ semaphore_kind t n → is_some o
    ≡ not b → b ≡ is_new_semaphore t n
unfolding is_new_semaphore
semaphore_new t n o b e h = none_tells o b h ∙ ap is_none e

pub event_new : (t : Trace) (n : ℕ) (o : Option ℕ) (b : Bool) → o ≡ said (says_event n) t.events → is_some o
    ≡ not b → b ≡ is_new_event t n
unfolding is_new_event
event_new t n o b e h = not_some o b h ∙ ap (λ x. not (is_some x)) e

pub fence_new : (t : Trace) (n : ℕ) (o : Option Bool) (b : Bool) → o ≡ said (says_signaled n) t.fences
    → is_some o ≡ not b → b ≡ is_new_fence t n
unfolding is_new_fence
fence_new t n o b e h = not_some o b h ∙ ap (λ x. not (is_some x)) e

pub pass_new : (t : Trace) (n : ℕ) (o : Option ℕ) (b : Bool) → is_some o ≡ is_pass t n → is_some o ≡ not b
    → b ≡ is_new_pass t n
unfolding is_new_pass
pass_new t n o b e h = not_some o b h ∙ ap not e

-- Recordings.

pub place_map : {A B : Type 0} (f : A → B) (xs : List A) (o : Option ℕ)
    → option_and_then (slice_get (map f xs)) o ≡ option_map f (option_and_then (slice_get xs) o)
place_map f xs None = refl
place_map f xs (Some i) = slice_get-map f xs i

-- what the table gives for a recording is what is known of it
pub known_found : (t : Trace) (known : List Known) (places : BTreeMap ℕ ℕ) (n : ℕ) → known
    ≡ map (known_of t) t.recordings
    → at_place t.recordings places n ≡ recording_of t n → at_place known places n ≡ known_in t n
unfolding known_in
known_found t known places n e h =
    ap (λ k. at_place k places n) e ∙ place_map (known_of t) t.recordings (get nat_cmp places n)
    ∙ ap (option_map (known_of t)) h

pub recording_new : (t : Trace) (n : ℕ) (o : Option Known) (b : Bool) → o ≡ known_in t n → is_some o ≡ not b
    → b ≡ is_new_recording t n
unfolding is_new_recording known_in
recording_new t n o b e h = none_tells o b h ∙ ap is_none e ∙ none_map (known_of t) (recording_of t n)

family_cases : (t : Trace) (o : Option Recording) → family_of (option_map (known_of t) o)
    ≡ option_map (λ (r : Recording). r.family) o
family_cases t None = refl
family_cases t (Some r) = refl

pub family_found : (t : Trace) (n : ℕ) (o : Option Known) → o ≡ known_in t n → family_of o
    ≡ family_of_recording t n
unfolding known_in family_of_recording
family_found t n o e = ap family_of e ∙ family_cases t (recording_of t n)

-- what is found under a number has that number

chosen : (b : Bool) (n : ℕ) (x r : Recording) (rest : Option Recording) → (b ≡ true → x.rec ≡ n)
    → (rest ≡ Some r → r.rec ≡ n) → cond b (Some x) rest ≡ Some r → r.rec ≡ n
chosen true n x r rest own later e = let same : x ≡ r = cc in ap (λ (y : Recording). y.rec) (sym same)
    ∙ own refl
chosen false n x r rest own later e = later e

is_number : (m n : ℕ) → eqb m n ≡ true → m ≡ n
is_number m n e = elim (eqb_tells m n) [
  | inl same ↦ same.1
  | inr other
      ↦ absurd (let h : false ≡ true = sym other.0 ∙ e in cc)
]

pub found_number : (n : ℕ) (rs : List Recording) (r : Recording) → find (λ (x : Recording). x.rec == n) rs
    ≡ Some r → r.rec ≡ n
found_number n [] r e = absurd (let h : None ≡ Some r = e in cc)
found_number n (x ∷ rs) r e = chosen (eqb x.rec n) n x r (find (λ (y : Recording). y.rec == n) rs)
    (is_number x.rec n) (found_number n rs r) e

ended_cases : (t : Trace) (n : ℕ) (o : Option Recording) → recording_of t n ≡ o
    → (recording_of t n ≡ None → has_ended t n ≡ false) → ended_of (option_map (known_of t) o)
    ≡ has_ended t n
ended_cases t n None e unknown = sym (unknown e)
ended_cases t n (Some r) e unknown = ap (has_ended t) (found_number n t.recordings r e)

pub ended_found : (t : Trace) (n : ℕ) (o : Option Known) → o ≡ known_in t n
    → (recording_of t n ≡ None → has_ended t n ≡ false) → ended_of o ≡ has_ended t n
unfolding known_in
ended_found t n o e unknown = ap ended_of e ∙ ended_cases t n (recording_of t n) refl unknown

standing_cases : (t : Trace) (o : Option Recording) → standing_of (option_map (known_of t) o)
    ≡ standing.standing_of (scope_after (reverse (commands_in o)))
standing_cases t None = refl
standing_cases t (Some r) = refl

pub standing_found : (t : Trace) (n : ℕ) (o : Option Known) → o ≡ known_in t n → standing_of o
    ≡ standing_in t n
unfolding known_in standing_in
standing_found t n o e = ap standing_of e ∙ standing_cases t (recording_of t n)

size_cases : (t : Trace) (o : Option Recording) → size_of (option_map (known_of t) o)
    ≡ capped (sum_by step_size (steps_in t o))
size_cases t None = refl
size_cases t (Some r) = ap (λ steps. capped (sum_by step_size steps)) (lowered_only t r)

pub size_found : (t : Trace) (n : ℕ) (o : Option Known) → o ≡ known_in t n → size_of o ≡ capped (size_in t n)
unfolding known_in size_in
size_found t n o e = ap size_of e ∙ size_cases t (recording_of t n)
