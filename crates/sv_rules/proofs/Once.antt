-- A line that declares something new declares it once.
use Rattle.std.proofs.Common.{◌≡◌, ℕ, List, [], ◌∷◌, ◌++◌, true, false, not, eqb, cond, Option, None, Some}
use Rattle.std.proofs.Common.{refl, sym, ◌∙◌, ap, subst, All, AllPairs, filter_map, slice_get, eq-eqb}
use Rattle.std.proofs.Common.{is_none, is_some, option_map}
use Rattle.std.specs.List.{cons_option}
use Rattle.std.proofs.lemmas.List.Elements.{All-nil, All-cons, All-head, All-tail, filter_map-append}
use Rattle.std.proofs.lemmas.List.Quantifiers.{all_pairs_push}
use Rattle.std.proofs.lemmas.Option.{none-some}
use Rattle.sv_model.specs.declared.line.Line.{Line}
use Rattle.sv_model.specs.declared.line.Line.TheVariants as line
use Rattle.sv_model.specs.declared.line.Trace.{Trace}
use Rattle.sv_model.specs.Declarations.{said, says_queue, says_resource, says_kind, says_event}
use Rattle.sv_model.specs.Declarations.{says_signaled, says_pass, queue_of, resource_of, semaphore_kind}
use Rattle.sv_model.specs.Lawful.{declared_number, Differ, AreOnce, IsLawfulQueue, IsLawfulResource}
use Rattle.sv_model.specs.Lawful.{IsLawfulSemaphore, IsLawfulEventLine, IsLawfulFence, IsLawfulPassLine}
use Rattle.sv_rules.specs.Named.{is_new_queue, is_new_resource, is_new_semaphore, is_new_event}
use Rattle.sv_rules.specs.Named.{is_new_fence, is_new_pass}
use Rattle.sv_rules.specs.Taken.{family_and_lane}
use Rattle.sv_rules.proofs.Lists.{Holds, given_all}

-- Numbers of which nothing is said.

none_said : {X : Type 0} (o : Option X) (xs : List X) → slice_get (cons_option o xs) 0 ≡ None → (o ≡ None)
    × (slice_get xs 0 ≡ None)
none_said None xs e = (refl, e)
none_said (Some x) xs e = absurd (none-some x (sym e))

-- a line that says nothing of n declares another number
abbrev pub Tells : {X : Type 0} → (Line → Type 0) → (Line → Option X) → ℕ → Type 0
Tells IsOfKind says n = (l : Line) → IsOfKind l → says l ≡ None → Holds (λ m. Differ m n) (declared_number l)

untold : {X : Type 0} (IsOfKind : Line → Type 0) (says : Line → Option X) (n : ℕ) → Tells IsOfKind says n
    → (xs : List Line) → All IsOfKind xs → said says xs ≡ None
    → All (λ l. Holds (λ m. Differ m n) (declared_number l)) xs
untold IsOfKind says n tells [] all none = All-nil (λ l. Holds (λ m. Differ m n) (declared_number l))
untold IsOfKind says n tells (x ∷ xs) all none =
    let parts = none_said (says x) (filter_map says xs) none in
    All-cons (λ l. Holds (λ m. Differ m n) (declared_number l)) x xs
    (tells x (All-head IsOfKind x xs all) parts.0)
    (untold IsOfKind says n tells xs (All-tail IsOfKind x xs all) parts.1)

pub once_more : {X : Type 0} (IsOfKind : Line → Type 0) (says : Line → Option X) (n : ℕ) (l : Line)
    → Tells IsOfKind says n → declared_number l ≡ Some n
    → (xs : List Line) → All IsOfKind xs → said says xs ≡ None → AreOnce xs → AreOnce (xs ++ l ∷ [])
once_more IsOfKind says n l tells declares xs all none once =
    subst (AllPairs Differ) (sym (filter_map-append declared_number xs (l ∷ [])
    ∙ ap (λ o. filter_map declared_number xs ++ cons_option o []) declares))
    (all_pairs_push Differ (filter_map declared_number xs) n once
    (λ k d lt. given_all declared_number (λ m. Differ m n) xs
    (untold IsOfKind says n tells xs all none) k d lt))

-- Kind by kind.

apart : {X : Type 0} (m n : ℕ) (x : X) → cond (eqb m n) (Some x) None ≡ None → Differ m n
apart m n x none same = none-some x (sym none ∙ ap (λ b. cond b (Some x) None) (eq-eqb m n same))

pub queue_tells : (n : ℕ) → Tells IsLawfulQueue (says_queue n) n
queue_tells n (line.Queue queue family lane) h none =
    apart queue n (record { family = family; lane = lane }) none
queue_tells n other h none = absurd h

pub resource_tells : (n : ℕ) → Tells IsLawfulResource (says_resource n) n
resource_tells n (line.Buffer res size sharing) h none = apart res n _ none
resource_tells n (line.Image res mips layers initial sharing) h none = apart res n _ none
resource_tells n other h none = absurd h

pub semaphore_tells : (n : ℕ) → Tells IsLawfulSemaphore (says_kind n) n
semaphore_tells n (line.Semaphore sem kind initial) h none = apart sem n kind none
semaphore_tells n other h none = absurd h

pub event_tells : (n : ℕ) → Tells IsLawfulEventLine (says_event n) n
event_tells n (line.Event event) h none = apart event n n none
event_tells n other h none = absurd h

pub fence_tells : (n : ℕ) → Tells IsLawfulFence (says_signaled n) n
fence_tells n (line.Fence fence signaled) h none = apart fence n signaled none
fence_tells n other h none = absurd h

pub pass_tells : (n : ℕ) → Tells IsLawfulPassLine (says_pass n) n
pass_tells n (line.RenderPass pass attachments subpasses deps) h none = apart pass n _ none
pass_tells n other h none = absurd h

-- What is new is not said.

not_some : {X : Type 0} (o : Option X) → not (not (is_some o)) ≡ false → o ≡ None
not_some None e = refl
not_some (Some x) e = absurd (let h : true ≡ false = e in cc)

not_given : {X : Type 0} (o : Option X) → not (is_none o) ≡ false → o ≡ None
not_given None e = refl
not_given (Some x) e = absurd (let h : true ≡ false = e in cc)

not_mapped : {X Y : Type 0} (f : X → Y) (o : Option X) → not (is_none (option_map f o)) ≡ false → o ≡ None
not_mapped f None e = refl
not_mapped f (Some x) e = absurd (let h : true ≡ false = e in cc)

pub new_queue : (t : Trace) (n : ℕ) → not (is_new_queue t n) ≡ false → queue_of t n ≡ None
unfolding is_new_queue
new_queue t n e = not_mapped family_and_lane (queue_of t n) e

pub new_resource : (t : Trace) (n : ℕ) → not (is_new_resource t n) ≡ false → resource_of t n ≡ None
unfolding is_new_resource
new_resource t n e = not_given (resource_of t n) e

pub new_semaphore : (t : Trace) (n : ℕ) → not (is_new_semaphore t n) ≡ false → semaphore_kind t n ≡ None
unfolding is_new_semaphore
new_semaphore t n e = not_given (semaphore_kind t n) e

pub new_event : (t : Trace) (n : ℕ) → not (is_new_event t n) ≡ false → said (says_event n) t.events ≡ None
unfolding is_new_event
new_event t n e = not_some (said (says_event n) t.events) e

pub new_fence : (t : Trace) (n : ℕ) → not (is_new_fence t n) ≡ false → said (says_signaled n) t.fences ≡ None
unfolding is_new_fence
new_fence t n e = not_some (said (says_signaled n) t.fences) e

pub new_pass : (t : Trace) (n : ℕ) → not (is_new_pass t n) ≡ false → said (says_pass n) t.passes ≡ None
unfolding is_new_pass
new_pass t n e = not_some (said (says_pass n) t.passes) e
