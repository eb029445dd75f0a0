-- The tables of declared things after one more declaring line.
use Rattle.std.proofs.Common.{◌≡◌, ℕ, List, [], ◌∷◌, ◌++◌, Bool, true, false, not, eqb, cond, Option, None}
use Rattle.std.proofs.Common.{Some, refl, sym, ◌∙◌, ap, inl, inr}
use Rattle.std.proofs.lemmas.Bool.Decides.{eqb_tells}
use Rattle.std.specs.Prelude.{is_none, is_some, option_map, filter_map, slice_get}
use Rattle.std.specs.Option.{option_or}
use Rattle.std.specs.BTreeMap.{BTreeMap, get}
use Rattle.std.specs.Ordering.{nat_cmp}
use Rattle.sv_model.specs.declared.line.Line.{Line}
use Rattle.sv_model.specs.declared.line.Line.TheVariants as line
use Rattle.sv_model.specs.declared.line.SemKind.{SemKind}
use Rattle.sv_model.specs.declared.line.Trace.{Trace}
use Rattle.sv_model.specs.Declarations.{QueueLine, said, says_queue, says_resource, says_kind, says_event}
use Rattle.sv_model.specs.Declarations.{says_signaled, queue_of}
use Rattle.sv_model.proofs.Said.{said_more}
use Rattle.sv_lines.specs.declared.extent.Extent.{Extent}
use Rattle.sv_lines.specs.Extents.{as_resource}
use Rattle.sv_lines.specs.Tables.{Puts}
use Rattle.sv_rules.specs.Taken.{family_and_lane, queue_in}
use Rattle.sv_rules.specs.Named.{is_new_queue, is_new_resource, is_new_semaphore, is_new_event, is_new_fence}
use Rattle.sv_rules.specs.Trace.{with_line}

is_none_is : {X : Type 0} (o : Option X) → is_none o ≡ true → o ≡ None
is_none_is None e = refl
is_none_is (Some x) e = cc

pub not_some_is : {X : Type 0} (o : Option X) → not (is_some o) ≡ true → o ≡ None
not_some_is None e = refl
not_some_is (Some x) e = cc

-- A table after one more line: f reads the entries of the table as what is said.

entry_here : {V X : Type 0} (f : V → X) (b : Bool) (v : V) (old : Option V) (before : Option X)
    → option_map f old ≡ before → (b ≡ true → before ≡ None)
    → option_map f (cond b (Some v) old) ≡ option_or before (cond b (Some (f v)) None)
entry_here f true v old None e new = refl
entry_here f true v old (Some x) e new = let none : Some x ≡ None = new refl in cc
entry_here f false v old None e new = e
entry_here f false v old (Some x) e new = e

pub number_is : (m n : ℕ) → eqb m n ≡ true → m ≡ n
number_is m n e = elim (eqb_tells m n) [
  | inl same ↦ same.1
  | inr other
      ↦ absurd (let h : false ≡ true = sym other.0 ∙ e in cc)
]

-- a number of which nothing was said is put, and elsewhere the table says what was said
pub table_more : {V X : Type 0} (f : V → X) (old new : BTreeMap ℕ V) (before : ℕ → Option X) (n : ℕ) (v : V)
    → ((k : ℕ) → option_map f (get nat_cmp old k) ≡ before k) → before n ≡ None → Puts old new n v
    → (k : ℕ) → option_map f (get nat_cmp new k) ≡ option_or (before k) (cond (eqb n k) (Some (f v)) None)
table_more f old new before n v agrees first puts k =
    ap (option_map f) (puts k) ∙ entry_here f (eqb n k) v (get nat_cmp old k) (before k) (agrees k)
    (λ e. ap before (sym (number_is n k e)) ∙ first)

map_same : {V : Type 0} (o : Option V) → option_map (λ (v : V). v) o ≡ o
map_same None = refl
map_same (Some v) = refl

-- the same where the table has what is said itself
pub table_more_same : {V : Type 0} (old new : BTreeMap ℕ V) (before : ℕ → Option V) (n : ℕ) (v : V)
    → ((k : ℕ) → get nat_cmp old k ≡ before k) → before n ≡ None → Puts old new n v
    → (k : ℕ) → get nat_cmp new k ≡ option_or (before k) (cond (eqb n k) (Some v) None)
table_more_same old new before n v agrees first puts k =
    sym (map_same (get nat_cmp new k)) ∙ table_more (λ x. x) old new before n v
    (λ j. map_same (get nat_cmp old j) ∙ agrees j) first puts k

-- Kind by kind.

queue_said : (t : Trace) (n family lane k : ℕ) (o : Option QueueLine)
    → option_map family_and_lane (option_or o (cond (eqb n k)
    (Some (record { family = family; lane = lane })) None))
    ≡ option_or (option_map family_and_lane o) (cond (eqb n k) (Some (family, lane)) None)
queue_said t n family lane k (Some q) = refl
queue_said t n family lane k None = elim (eqb n k) as
    (λ b. option_map family_and_lane (cond b (Some (record { family = family; lane = lane })) None)
    ≡ cond b (Some (family, lane)) None) [ true ↦ refl | false ↦ refl ]

pub queue_more : (t : Trace) (n family lane : ℕ) (old new : BTreeMap ℕ (ℕ × ℕ))
    → ((k : ℕ) → get nat_cmp old k ≡ queue_in t k) → is_new_queue t n ≡ true → Puts old new n (family, lane)
    → (k : ℕ) → get nat_cmp new k ≡ queue_in (with_line t (line.Queue n family lane)) k
unfolding is_new_queue
queue_more t n family lane old new agrees first puts k =
    table_more_same old new (queue_in t) n (family, lane) agrees (is_none_is (queue_in t n) first) puts k
    ∙ sym (queue_said t n family lane k (queue_of t k))
    ∙ sym (ap (option_map family_and_lane) (said_more (says_queue k) t.queues (line.Queue n family lane)))

pub resource_more : (t : Trace) (n : ℕ) (of : Extent) (l : Line) (old new : BTreeMap ℕ Extent)
    → ((k : ℕ) → says_resource k l ≡ cond (eqb n k) (Some (as_resource of)) None)
    → ((k : ℕ) → option_map as_resource (get nat_cmp old k) ≡ said (says_resource k) t.resources)
    → is_new_resource t n ≡ true → Puts old new n of
    → (k : ℕ) → option_map as_resource (get nat_cmp new k) ≡ said (says_resource k) (t.resources ++ l ∷ [])
unfolding is_new_resource
resource_more t n of l old new says agrees first puts k =
    table_more as_resource old new (λ j. said (says_resource j) t.resources) n of agrees
    (is_none_is (said (says_resource n) t.resources) first) puts k
    ∙ ap (option_or (said (says_resource k) t.resources)) (sym (says k))
    ∙ sym (said_more (says_resource k) t.resources l)

pub semaphore_more : (t : Trace) (n : ℕ) (kind : SemKind) (initial : Option ℕ) (old new : BTreeMap ℕ SemKind)
    → ((k : ℕ) → get nat_cmp old k ≡ said (says_kind k) t.semaphores) → is_new_semaphore t n ≡ true
    → Puts old new n kind
    → (k : ℕ) → get nat_cmp new k ≡ said (says_kind k) (t.semaphores ++ line.Semaphore n kind initial ∷ [])
unfolding is_new_semaphore
semaphore_more t n kind initial old new agrees first puts k =
    table_more_same old new (λ j. said (says_kind j) t.semaphores) n kind agrees
    (is_none_is (said (says_kind n) t.semaphores) first) puts k
    ∙ sym (said_more (says_kind k) t.semaphores (line.Semaphore n kind initial))

event_here : (n k : ℕ) → cond (eqb n k) (Some n) None ≡ says_event k (line.Event n)
event_here n k = elim (eqb_tells n k) [
  | inl same ↦ ap (λ b. cond b (Some n) None) same.0 ∙ ap Some same.1
      ∙ sym (ap (λ b. cond b (Some k) None) same.0)
  | inr other ↦ ap (λ b. cond b (Some n) None) other.0 ∙ sym (ap (λ b. cond b (Some k) None) other.0)
]

pub event_more : (t : Trace) (n : ℕ) (old new : BTreeMap ℕ ℕ)
    → ((k : ℕ) → get nat_cmp old k ≡ said (says_event k) t.events) → is_new_event t n ≡ true
    → Puts old new n n
    → (k : ℕ) → get nat_cmp new k ≡ said (says_event k) (t.events ++ line.Event n ∷ [])
unfolding is_new_event
event_more t n old new agrees first puts k =
    table_more_same old new (λ j. said (says_event j) t.events) n n agrees
    (not_some_is (said (says_event n) t.events) first) puts k
    ∙ ap (option_or (said (says_event k) t.events)) (event_here n k)
    ∙ sym (said_more (says_event k) t.events (line.Event n))

pub fence_more : (t : Trace) (n : ℕ) (signaled : Bool) (old new : BTreeMap ℕ Bool)
    → ((k : ℕ) → get nat_cmp old k ≡ said (says_signaled k) t.fences) → is_new_fence t n ≡ true
    → Puts old new n signaled
    → (k : ℕ) → get nat_cmp new k ≡ said (says_signaled k) (t.fences ++ line.Fence n signaled ∷ [])
unfolding is_new_fence
fence_more t n signaled old new agrees first puts k =
    table_more_same old new (λ j. said (says_signaled j) t.fences) n signaled agrees
    (not_some_is (said (says_signaled n) t.fences) first) puts k
    ∙ sym (said_more (says_signaled k) t.fences (line.Fence n signaled))
