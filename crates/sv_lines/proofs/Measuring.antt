-- The size of a command of a render pass rests on the pass alone: where it stands and its views have no
-- part in it.
use Rattle.std.proofs.Common.{◌≡◌, ℕ, suc, ◌+◌, ◌-◌, List, [], ◌∷◌, ◌++◌, Bool, true, false, ◌||◌, ◌&&◌}
use Rattle.std.proofs.Common.{cond, Option, None, Some, refl, sym, ◌∙◌, ap, arith, length, map, sum_by}
use Rattle.std.proofs.lemmas.List.{length-map}
use Rattle.std.proofs.lemmas.List.Sums.{sum_by-append, sum-map}
use Rattle.std.specs.Prelude.{is_none, is_some, nat_lt, option_and_then, option_map, filter, filter_map}
use Rattle.std.specs.Prelude.{find, sum, zip, if◌then◌else◌, ◌==◌}
use Rattle.std.specs.List.{list_any, cons_option, enumerate_from}
use Rattle.sv_mask.specs.declared.layout.Layout.{Layout}
use Rattle.sv_model.specs.declared.line.PassAttachment.{PassAttachment}
use Rattle.sv_model.specs.declared.line.PassDep.{PassDep}
use Rattle.sv_model.specs.declared.line.PassUse.{PassUse}
use Rattle.sv_model.specs.declared.line.View.{View}
use Rattle.sv_model.specs.declared.pass.Attached.{Attached}
use Rattle.sv_model.specs.declared.pass.UseIn.{UseIn}
use Rattle.sv_model.specs.declared.work.Access.{Access}
use Rattle.sv_model.specs.declared.work.Dep.{Dep}
use Rattle.sv_model.specs.declared.work.Group.{Group}
use Rattle.sv_model.specs.declared.work.Here.{Here}
use Rattle.sv_model.specs.declared.work.Old.{Old}
use Rattle.sv_model.specs.declared.work.PassPoint.{PassPoint}
use Rattle.sv_model.specs.declared.work.PassPoint.TheVariants.{Begin, Next, End}
use Rattle.sv_model.specs.declared.work.Step.{Step}
use Rattle.sv_model.specs.declared.work.Step.TheVariants.{Groups}
use Rattle.sv_model.specs.Barriers.{moves, with_transition_stage, transition, place_of}
use Rattle.sv_model.specs.Declarations.{Pass}
use Rattle.sv_model.specs.Rendering.{access_step, load_usage, store_usage, view_area}
use Rattle.sv_model.specs.Passes.{attached, begins_in, ends_in, entry_deps, entry_group, entry_olds}
use Rattle.sv_model.specs.Passes.{exit_deps, exit_group, exit_olds, group_step, implicit_entry}
use Rattle.sv_model.specs.Passes.{implicit_exit, inner_deps, inner_group, inner_old, inner_olds, is_filled}
use Rattle.sv_model.specs.Passes.{is_subpass, is_below, loads, or_implicit, pair, pass_group, pass_steps}
use Rattle.sv_model.specs.Passes.{pass_use, stores, subpass_track, subpasses, use_before, use_in}
use Rattle.sv_model.specs.Size.{group_size, step_size}

-- An attachment without its view.

abbrev shape : Attached → Attached
shape a = record { is = a.is; on = view_area 0 0 0 0; uses = a.uses }

abbrev attach : List (List PassUse) → ℕ × (PassAttachment × View) → Attached
attach uses x = record {
  is = x.1.0;
  on = view_area x.1.1.res x.1.1.mip x.1.1.layer x.1.1.layers;
  uses = filter_map (use_in x.0) (enumerate_from 0 uses);
}

same_from : (uses : List (List PassUse)) (n : ℕ) (xs : List PassAttachment) (v w : List View) → length v
    ≡ length xs → length w ≡ length xs
    → map shape (map (attach uses) (enumerate_from n (zip xs v)))
    ≡ map shape (map (attach uses) (enumerate_from n (zip xs w)))
same_from uses n [] v w a b = refl
same_from uses n (x ∷ xs) [] w a b = absurd (omega (arith, a))
same_from uses n (x ∷ xs) (y ∷ v) [] a b = absurd (omega (arith, b))
same_from uses n (x ∷ xs) (y ∷ v) (z ∷ w) a b =
    ap (λ rest. shape (attach uses (n, (x, y))) ∷ rest)
    (same_from uses (n + 1) xs v w (omega (arith, a)) (omega (arith, b)))

abbrev Alike : List Attached → List Attached → Type 0
Alike xs ys = map shape xs ≡ map shape ys

alike : (p : Pass) (v w : List View) → length v ≡ length p.attachments → length w ≡ length p.attachments
    → Alike (attached p v) (attached p w)
alike p v w a b = same_from p.subpasses 0 p.attachments v w a b

-- Lists of what is there of some attachments.

abbrev kept : (Attached → Bool) → List Attached → ℕ
kept q [] = 0
kept q (x ∷ xs) = cond (q x) (suc (kept q xs)) (kept q xs)

cons_count : {B : Type 0} (o : Option B) (ys : List B) → length (cons_option o ys)
    ≡ cond (is_some o) (suc (length ys)) (length ys)
cons_count None ys = refl
cons_count (Some y) ys = refl

count_is : {B : Type 0} (f : Attached → Option B) (q : Attached → Bool)
    → ((a : Attached) → is_some (f a) ≡ q (shape a)) → (xs : List Attached) → length (filter_map f xs)
    ≡ kept q (map shape xs)
count_is f q same [] = refl
count_is f q same (x ∷ xs) =
    cons_count (f x) (filter_map f xs)
    ∙ ap (λ b. cond b (suc (length (filter_map f xs))) (length (filter_map f xs))) (same x)
    ∙ ap (λ n. cond (q (shape x)) (suc n) n) (count_is f q same xs)

same_count : {B : Type 0} (f g : Attached → Option B) (q : Attached → Bool)
    → ((a : Attached) → is_some (f a) ≡ q (shape a)) → ((a : Attached) → is_some (g a) ≡ q (shape a))
    → (xs ys : List Attached) → Alike xs ys → length (filter_map f xs) ≡ length (filter_map g ys)
same_count f g q a b xs ys e = count_is f q a xs ∙ ap (kept q) e ∙ sym (count_is g q b ys)

-- the pair is there, and is a transition
abbrev moving_pair : Option Old → Bool
moving_pair None = false
moving_pair (Some old) = moves old

chosen_count : (b : Bool) (old : Old) (ys : List Old) → length (cond b (old ∷ ys) ys)
    ≡ cond b (suc (length ys)) (length ys)
chosen_count true old ys = refl
chosen_count false old ys = refl

moving_count : (o : Option Old) (ys : List Old) → length (filter moves (cons_option o ys))
    ≡ cond (moving_pair o) (suc (length (filter moves ys))) (length (filter moves ys))
moving_count None ys = refl
moving_count (Some old) ys = chosen_count (moves old) old (filter moves ys)

olds_is : (f : Attached → Option Old) (q : Attached → Bool)
    → ((a : Attached) → moving_pair (f a) ≡ q (shape a)) → (xs : List Attached)
    → length (filter moves (filter_map f xs)) ≡ kept q (map shape xs)
olds_is f q same [] = refl
olds_is f q same (x ∷ xs) =
    moving_count (f x) (filter_map f xs)
    ∙ ap (λ b. cond b (suc (length (filter moves (filter_map f xs))))
    (length (filter moves (filter_map f xs)))) (same x)
    ∙ ap (λ n. cond (q (shape x)) (suc n) n) (olds_is f q same xs)

same_olds : (f : Attached → Option Old) → ((a : Attached) → moving_pair (f a) ≡ moving_pair (f (shape a)))
    → (xs ys : List Attached) → Alike xs ys
    → length (filter moves (filter_map f xs)) ≡ length (filter moves (filter_map f ys))
same_olds f same xs ys e = olds_is f (λ a. moving_pair (f a)) same xs ∙ ap (kept (λ a. moving_pair (f a))) e
    ∙ sym (olds_is f (λ a. moving_pair (f a)) same ys)

any_is : (p : Attached → Bool) → ((a : Attached) → p a ≡ p (shape a)) → (xs : List Attached) → list_any p xs
    ≡ list_any p (map shape xs)
any_is p same [] = refl
any_is p same (x ∷ xs) = ap (λ b. b || list_any p xs) (same x) ∙ ap (λ b. p (shape x) || b) (any_is p same xs)

same_any : (p : Attached → Bool) → ((a : Attached) → p a ≡ p (shape a)) → (xs ys : List Attached)
    → Alike xs ys → list_any p xs ≡ list_any p ys
same_any p same xs ys e = any_is p same xs ∙ ap (list_any p) e ∙ sym (any_is p same ys)

-- Loads and stores.

some_map : {A B : Type 0} (f : A → B) (o : Option A) → is_some (option_map f o) ≡ is_some o
some_map f None = refl
some_map f (Some x) = refl

same_loads : (here there : Here) (i : ℕ) (xs ys : List Attached) → Alike xs ys → length (loads here i xs)
    ≡ length (loads there i ys)
same_loads here there i xs ys e = same_count
    (λ (a : Attached). option_map (λ (l : Layout). pass_use here i a l (load_usage a.is.class a.is.load))
    (begins_in i a))
    (λ (a : Attached). option_map (λ (l : Layout). pass_use there i a l (load_usage a.is.class a.is.load))
    (begins_in i a))
    (λ (a : Attached). is_some (begins_in i a))
    (λ a. some_map (λ (l : Layout). pass_use here i a l (load_usage a.is.class a.is.load)) (begins_in i a))
    (λ a. some_map (λ (l : Layout). pass_use there i a l (load_usage a.is.class a.is.load)) (begins_in i a))
    xs ys e

some_store : {A B C : Type 0} (f : A → B → C) (u : Option B) (o : Option A)
    → is_some (option_and_then (λ (l : A). option_map (f l) u) o)
    ≡ is_some (option_and_then (λ (l : A). u) o)
some_store f u None = refl
some_store f u (Some l) = some_map (f l) u

same_stores : (here there : Here) (i : ℕ) (xs ys : List Attached) → Alike xs ys → length (stores here i xs)
    ≡ length (stores there i ys)
same_stores here there i xs ys e = same_count
    (λ (a : Attached). option_and_then (λ (l : Layout). option_map (pass_use here i a l)
    (store_usage a.is.class a.is.store)) (ends_in i a))
    (λ (a : Attached). option_and_then (λ (l : Layout). option_map (pass_use there i a l)
    (store_usage a.is.class a.is.store)) (ends_in i a))
    (λ (a : Attached). is_some (option_and_then (λ (l : Layout). store_usage a.is.class a.is.store)
    (ends_in i a)))
    (λ a. some_store (pass_use here i a) (store_usage a.is.class a.is.store) (ends_in i a))
    (λ a. some_store (pass_use there i a) (store_usage a.is.class a.is.store) (ends_in i a))
    xs ys e

-- Transitions.

first_pair : (a : Attached) (was : Layout) (o : Option Layout) → moving_pair (option_map (pair a was) o)
    ≡ moving_pair (option_map (pair (shape a) was) o)
first_pair a was None = refl
first_pair a was (Some l) = refl

same_entry : (i : ℕ) (xs ys : List Attached) → Alike xs ys → length (entry_olds i xs)
    ≡ length (entry_olds i ys)
same_entry i xs ys e = same_olds (λ (a : Attached). option_map (pair a a.is.initial) (begins_in i a))
    (λ a. first_pair a a.is.initial (begins_in i a)) xs ys e

last_pair : (a : Attached) (becomes : Layout) (o : Option Layout)
    → moving_pair (option_map (λ (l : Layout). pair a l becomes) o)
    ≡ moving_pair (option_map (λ (l : Layout). pair (shape a) l becomes) o)
last_pair a becomes None = refl
last_pair a becomes (Some l) = refl

same_exit : (i : ℕ) (xs ys : List Attached) → Alike xs ys → length (exit_olds i xs) ≡ length (exit_olds i ys)
same_exit i xs ys e = same_olds (λ (a : Attached). option_map (λ (l : Layout). pair a l a.is.becomes)
    (ends_in i a)) (λ a. last_pair a a.is.becomes (ends_in i a)) xs ys e

inner_pair : (a : Attached) (before used : Option UseIn)
    → moving_pair (option_and_then (λ (u : UseIn). option_map
    (λ (earlier : UseIn). pair a earlier.layout u.layout) before) used)
    ≡ moving_pair (option_and_then (λ (u : UseIn). option_map
    (λ (earlier : UseIn). pair (shape a) earlier.layout u.layout) before) used)
inner_pair a before None = refl
inner_pair a None (Some u) = refl
inner_pair a (Some earlier) (Some u) = refl

same_inner : (i : ℕ) (xs ys : List Attached) → Alike xs ys → length (inner_olds i xs)
    ≡ length (inner_olds i ys)
same_inner i xs ys e = same_olds (inner_old i) (λ a. inner_pair a (use_before i a)
    (find (λ (u : UseIn). u.subpass == i) a.uses)) xs ys e

-- Dependencies.

dep_count : (b : Bool) (x y : Dep) (f g : PassDep → Dep) (ds : List PassDep)
    → length (or_implicit b x (map f ds)) ≡ length (or_implicit b y (map g ds))
dep_count true x y f g [] = refl
dep_count false x y f g [] = refl
dep_count true x y f g (d ∷ ds) = ap suc (length-map ds f ∙ sym (length-map ds g))
dep_count false x y f g (d ∷ ds) = ap suc (length-map ds f ∙ sym (length-map ds g))

-- Groups.

group_is : (here : Here) (deps : List Dep) (olds : List Old) → group_size (pass_group here deps olds)
    ≡ length deps + length olds
group_is here deps olds =
    ap (λ n. n + length (map (transition (place_of here)) olds))
    (length-map deps (with_transition_stage olds))
    ∙ ap (λ n. length deps + n) (length-map olds (transition (place_of here)))

same_group : (here there : Here) (deps more : List Dep) (olds others : List Old) → length deps ≡ length more
    → length olds ≡ length others
    → group_size (pass_group here deps olds) ≡ group_size (pass_group there more others)
same_group here there deps more olds others a b =
    group_is here deps olds ∙ ap (λ n. n + length olds) a ∙ ap (λ n. length more + n) b
    ∙ sym (group_is there more others)

abbrev enters : ℕ → Attached → Bool
enters i a = is_some (begins_in i a)

abbrev leaves : ℕ → Attached → Bool
leaves i a = is_some (ends_in i a)

entry_size : (here there : Here) (p : Pass) (xs ys : List Attached) → Alike xs ys → (i : ℕ)
    → group_size (entry_group here p xs i) ≡ group_size (entry_group there p ys i)
entry_size here there p xs ys e i = same_group here there
    (or_implicit (list_any (enters i) xs) (implicit_entry (subpass_track here i)) (entry_deps here p i))
    (or_implicit (list_any (enters i) ys) (implicit_entry (subpass_track there i)) (entry_deps there p i))
    (entry_olds i xs) (entry_olds i ys)
    (ap (λ b. length (or_implicit b (implicit_entry (subpass_track here i)) (entry_deps here p i)))
    (same_any (enters i) (λ a. refl) xs ys e)
    ∙ dep_count (list_any (enters i) ys) _ _ _ _ (filter
    (λ (d : PassDep). is_none d.from && is_subpass i d.to) p.deps))
    (same_entry i xs ys e)

exit_size : (here there : Here) (p : Pass) (xs ys : List Attached) → Alike xs ys → (i : ℕ)
    → group_size (exit_group here p xs i) ≡ group_size (exit_group there p ys i)
exit_size here there p xs ys e i = same_group here there
    (or_implicit (list_any (leaves i) xs) (implicit_exit (subpass_track here i)) (exit_deps here p i))
    (or_implicit (list_any (leaves i) ys) (implicit_exit (subpass_track there i)) (exit_deps there p i))
    (exit_olds i xs) (exit_olds i ys)
    (ap (λ b. length (or_implicit b (implicit_exit (subpass_track here i)) (exit_deps here p i)))
    (same_any (leaves i) (λ a. refl) xs ys e)
    ∙ dep_count (list_any (leaves i) ys) _ _ _ _ (filter
    (λ (d : PassDep). is_subpass i d.from && is_none d.to) p.deps))
    (same_exit i xs ys e)

map_count : {A B C : Type 0} (f : A → B) (g : A → C) (xs : List A) → length (map f xs) ≡ length (map g xs)
map_count f g xs = length-map xs f ∙ sym (length-map xs g)

inner_size : (here there : Here) (p : Pass) (xs ys : List Attached) → Alike xs ys → (i : ℕ)
    → group_size (inner_group here p xs i) ≡ group_size (inner_group there p ys i)
inner_size here there p xs ys e i = same_group here there (inner_deps here p i) (inner_deps there p i)
    (inner_olds i xs) (inner_olds i ys)
    (map_count _ _ (filter (λ (d : PassDep). is_below i d.from && is_subpass i d.to) p.deps))
    (same_inner i xs ys e)

-- Steps.

any_sizes : (gs : List Group) → list_any is_filled gs ≡ list_any (nat_lt 0) (map group_size gs)
any_sizes [] = refl
any_sizes (g ∷ gs) = ap (λ b. is_filled g || b) (any_sizes gs)

plain : (n : ℕ) → 0 + n ≡ n
plain n = omega arith

filled_size : (b : Bool) (gs : List Group) → sum_by step_size (if b then Groups gs ∷ [] else [])
    ≡ cond b (1 + sum_by group_size gs) 0
filled_size true gs = plain (1 + sum_by group_size gs)
filled_size false gs = refl

group_total : (gs : List Group) → sum_by step_size (group_step gs)
    ≡ cond (list_any (nat_lt 0) (map group_size gs)) (1 + sum (map group_size gs)) 0
group_total gs =
    filled_size (list_any is_filled gs) gs ∙ ap (λ b. cond b (1 + sum_by group_size gs) 0) (any_sizes gs)
    ∙ ap (λ n. cond (list_any (nat_lt 0) (map group_size gs)) (1 + n) 0) (sym (sum-map group_size gs))

group_same : (gs hs : List Group) → map group_size gs ≡ map group_size hs → sum_by step_size (group_step gs)
    ≡ sum_by step_size (group_step hs)
group_same gs hs e = group_total gs ∙ ap (λ (ns : List ℕ). cond (list_any (nat_lt 0) ns) (1 + sum ns) 0) e
    ∙ sym (group_total hs)

access_same : (xs ys : List Access) → length xs ≡ length ys → sum_by step_size (access_step xs)
    ≡ sum_by step_size (access_step ys)
access_same [] [] e = refl
access_same [] (y ∷ ys) e = absurd (omega (arith, e))
access_same (x ∷ xs) [] e = absurd (omega (arith, e))
access_same (x ∷ xs) (y ∷ ys) e = ap (λ n. 0 + (1 + n)) e

map_sizes : (f g : ℕ → Group) → ((i : ℕ) → group_size (f i) ≡ group_size (g i)) → (ns : List ℕ)
    → map group_size (map f ns) ≡ map group_size (map g ns)
map_sizes f g same [] = refl
map_sizes f g same (n ∷ ns) = ap (λ k. k ∷ map group_size (map f ns)) (same n)
    ∙ ap (λ ks. group_size (g n) ∷ ks) (map_sizes f g same ns)

both_same : (a b c d : List Step) → sum_by step_size a ≡ sum_by step_size c → sum_by step_size b
    ≡ sum_by step_size d → sum_by step_size (a ++ b) ≡ sum_by step_size (c ++ d)
both_same a b c d e h = sum_by-append step_size a b ∙ ap (λ n. n + sum_by step_size b) e
    ∙ ap (λ n. sum_by step_size c + n) h ∙ sym (sum_by-append step_size c d)

pub pass_same : (p : Pass) (v w : List View) (here there : Here) (point : PassPoint) → length v
    ≡ length p.attachments → length w ≡ length p.attachments
    → sum_by step_size (pass_steps p v point here) ≡ sum_by step_size (pass_steps p w point there)
pass_same p v w here there Begin a b =
    let e : Alike (attached p v) (attached p w) = alike p v w a b in
    both_same (group_step (map (entry_group here p (attached p v)) (subpasses p)))
    (access_step (loads here 0 (attached p v)))
    (group_step (map (entry_group there p (attached p w)) (subpasses p)))
    (access_step (loads there 0 (attached p w)))
    (group_same _ _ (map_sizes (entry_group here p (attached p v)) (entry_group there p (attached p w))
    (entry_size here there p (attached p v) (attached p w) e) (subpasses p)))
    (access_same _ _ (same_loads here there 0 (attached p v) (attached p w) e))
pass_same p v w here there (Next i) a b =
    let e : Alike (attached p v) (attached p w) = alike p v w a b in
    both_same (access_step (stores here (i - 1) (attached p v))
    ++ group_step (inner_group here p (attached p v) i ∷ [])) (access_step (loads here i (attached p v)))
    (access_step (stores there (i - 1) (attached p w))
    ++ group_step (inner_group there p (attached p w) i ∷ []))
    (access_step (loads there i (attached p w)))
    (both_same (access_step (stores here (i - 1) (attached p v)))
    (group_step (inner_group here p (attached p v) i ∷ []))
    (access_step (stores there (i - 1) (attached p w)))
    (group_step (inner_group there p (attached p w) i ∷ []))
    (access_same _ _ (same_stores here there (i - 1) (attached p v) (attached p w) e))
    (group_same (inner_group here p (attached p v) i ∷ []) (inner_group there p (attached p w) i ∷ [])
    (ap (λ n. n ∷ []) (inner_size here there p (attached p v) (attached p w) e i))))
    (access_same _ _ (same_loads here there i (attached p v) (attached p w) e))
pass_same p v w here there End a b =
    let e : Alike (attached p v) (attached p w) = alike p v w a b in
    both_same (access_step (stores here (length p.subpasses - 1) (attached p v)))
    (group_step (map (exit_group here p (attached p v)) (subpasses p)))
    (access_step (stores there (length p.subpasses - 1) (attached p w)))
    (group_step (map (exit_group there p (attached p w)) (subpasses p)))
    (access_same _ _ (same_stores here there (length p.subpasses - 1) (attached p v) (attached p w) e))
    (group_same _ _ (map_sizes (exit_group here p (attached p v)) (exit_group there p (attached p w))
    (exit_size here there p (attached p v) (attached p w) e) (subpasses p)))
