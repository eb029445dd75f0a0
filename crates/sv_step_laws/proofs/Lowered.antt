-- The steps of a recording of a lawful trace lie inside its resources.
use Rattle.std.proofs.Common.{ℕ, ◌+◌, ◌-◌, ◌≤◌, ◌≡◌, Bool, true, false, List, [], ◌∷◌, Option, Some, None}
use Rattle.std.proofs.Common.{length, map, filter, IsTrue, if◌then◌else◌, refl, sym, subst, ◌∙◌, arith}
use Rattle.std.specs.Prelude.{◌==◌, find, option_map, option_and_then, reverse, zip}
use Rattle.std.specs.List.{All, filter_map, cons_option, enumerate_from, list_any}
use Rattle.std.proofs.lemmas.List.Elements.{All-append, All-cons, All-contains, All-filter, All-head}
use Rattle.std.proofs.lemmas.List.Elements.{All-map, All-nil, All-tail, All-weaker}
use Rattle.sv_mask.specs.declared.layout.Layout.{Layout}
use Rattle.sv_model.specs.declared.line.Attachment.{Attachment}
use Rattle.sv_model.specs.declared.line.Command.{Command}
use Rattle.sv_model.specs.declared.line.Command.TheVariants as command
use Rattle.sv_model.specs.declared.line.Declared.{Declared}
use Rattle.sv_model.specs.declared.line.Element.{Element}
use Rattle.sv_model.specs.declared.line.Part.{Part}
use Rattle.sv_model.specs.declared.line.Part.TheVariants as part
use Rattle.sv_model.specs.declared.line.PassAttachment.{PassAttachment}
use Rattle.sv_model.specs.declared.line.Recording.{Recording}
use Rattle.sv_model.specs.declared.line.Target.{Target}
use Rattle.sv_model.specs.declared.line.Trace.{Trace}
use Rattle.sv_model.specs.declared.line.View.{View}
use Rattle.sv_model.specs.declared.pass.Attached.{Attached}
use Rattle.sv_model.specs.declared.pass.UseIn.{UseIn}
use Rattle.sv_model.specs.declared.work.Access.{Access}
use Rattle.sv_model.specs.declared.work.Area.{Area}
use Rattle.sv_model.specs.declared.work.Dep.{Dep}
use Rattle.sv_model.specs.declared.work.Group.{Group}
use Rattle.sv_model.specs.declared.work.Here.{Here}
use Rattle.sv_model.specs.declared.work.Old.{Old}
use Rattle.sv_model.specs.declared.work.PassPoint.{PassPoint}
use Rattle.sv_model.specs.declared.work.PassPoint.TheVariants.{Begin, Next, End}
use Rattle.sv_model.specs.declared.work.Place.{Place}
use Rattle.sv_model.specs.declared.work.Step.TheVariants.{Accesses, Groups, SetEvent, WaitEvent, ResetEvent}
use Rattle.sv_model.specs.declared.work.Transfer.{Transfer}
use Rattle.sv_model.specs.Barriers.{area_of, dependency, element_group, group_on, group_with, moves}
use Rattle.sv_model.specs.Barriers.{transfer_half}
use Rattle.sv_model.specs.Barriers.{moving, olds_of, place_of, transfer_for, track_of}
use Rattle.sv_model.specs.Cells.{Within, covers}
use Rattle.sv_model.specs.Recordings.{Scope, Outside, InRendering, InPass, compile, declared_access}
use Rattle.sv_model.specs.Recordings.{end_pass, end_rendering, here_after, lowered, next_subpass}
use Rattle.sv_model.specs.Recordings.{next_scope, scope_after, steps_in, steps_of}
use Rattle.sv_model.specs.Declarations.{Pass, Resource, BufferOf, ImageOf, pass_of, recording_of, resource_of}
use Rattle.sv_model.specs.Lawful.{IsLawful}
use Rattle.sv_model.specs.LawfulCommands.{AreLawful, IsLawfulCommand, IsLawfulRecording}
use Rattle.sv_model.specs.LawfulParts.{HasItsLayout, HaveImage, IsInside, IsLawfulAccess}
use Rattle.sv_model.specs.LawfulParts.{IsLawfulAttachment, IsLawfulElement, IsLawfulView, TargetIsLawful}
use Rattle.sv_model.specs.Rendering.{access_step, attachment_use, load_usage, rendering_loads}
use Rattle.sv_model.specs.Rendering.{rendering_stores, store_usage, view_area}
use Rattle.sv_model.specs.Passes.{attached, begins_in, ends_in, entry_deps, entry_group, entry_olds}
use Rattle.sv_model.specs.Passes.{exit_deps, exit_group, exit_olds, group_step, inner_deps, inner_group}
use Rattle.sv_model.specs.Passes.{inner_old, inner_olds, is_filled, loads, or_implicit, pair, pass_group}
use Rattle.sv_model.specs.Passes.{pass_steps, pass_use, steps_at, stores, subpasses, use_before, use_in}
use Rattle.sv_space.specs.Areas.{IsAreaOf, IsIn}
use Rattle.sv_step_laws.specs.Steps.{IsAccessOf, IsDepOf, IsGroupOf, IsOfImage, IsOldOf, IsRangeOf}
use Rattle.sv_step_laws.specs.Steps.{IsStepOf, IsTransferOf, MayDeclare}
use Rattle.sv_step_laws.proofs.Areas.{group_is, in_nothing, kept_none, numbered_all}

-- Parts.

bytes_in : (res start end : ℕ) (o : Option Resource) → IsInside o (part.Bytes start end)
    → IsIn o (area_of res (part.Bytes start end))
bytes_in res start end None i = absurd i
bytes_in res start end (Some (BufferOf size)) i = i
bytes_in res start end (Some (ImageOf mips layers)) i = absurd i

image_in : (res mip m layer l : ℕ) (o : Option Resource) → IsInside o (part.Image mip m layer l)
    → IsIn o (area_of res (part.Image mip m layer l))
image_in res mip m layer l None i = absurd i
image_in res mip m layer l (Some (BufferOf size)) i = absurd i
image_in res mip m layer l (Some (ImageOf mips layers)) i = i

area_is : (t : Trace) (res : ℕ) (p : Part) → IsInside (resource_of t res) p → IsAreaOf t (area_of res p)
area_is t res (part.Bytes start end) i = bytes_in res start end (resource_of t res) i
area_is t res (part.Image mip m layer l) i = image_in res mip m layer l (resource_of t res) i

may_declare : (res : ℕ) (p : Part) (layout : Option Layout) → HasItsLayout p layout
    → MayDeclare (area_of res p) layout
may_declare res (part.Bytes start end) None h = tt
may_declare res (part.Bytes start end) (Some layout) h = cc
may_declare res (part.Image mip m layer l) None h = tt
may_declare res (part.Image mip m layer l) (Some layout) h = tt

-- Works and barriers.

access_is : (t : Trace) (here : Here) (d : Declared) → IsLawfulAccess t d
    → IsAccessOf t (declared_access here d)
access_is t here d h = record {
  area = area_is t d.res d.part h.inside;
  layout = may_declare d.res d.part d.layout h.layout;
}

one : {X : Type 0} (P : X → Type 0) (x : X) → P x → All P (x ∷ [])
one P x p = All-cons P x [] p (All-nil P)

olds_are : (t : Trace) (res : ℕ) (p : Part) (o : Option (Layout × Layout)) → IsAreaOf t (area_of res p)
    → HaveImage p o → All (IsOldOf t) (olds_of (area_of res p) o)
olds_are t res p None is h = All-nil (IsOldOf t)
olds_are t res (part.Bytes start end) (Some layouts) is h = absurd h
olds_are t res (part.Image mip m layer l) (Some layouts) is h =
    one (IsOldOf t) (record {
      area = area_of res (part.Image mip m layer l);
      was = layouts.0;
      becomes = layouts.1;
    }) (record { area = is; image = tt })

-- each pair is on the area
abbrev IsOn : Area → Old → Type 0
IsOn on o = o.area ≡ on

olds_on : (on : Area) (o : Option (Layout × Layout)) → All (IsOn on) (olds_of on o)
olds_on on None = All-nil (IsOn on)
olds_on on (Some layouts) = one (IsOn on) (record { area = on; was = layouts.0; becomes = layouts.1 }) refl

moving_all : (P : Old → Type 0) (transfer : Option Transfer) (olds : List Old) → All P olds
    → All P (moving transfer olds)
moving_all P None olds all = All-filter moves P olds all
moving_all P (Some x) olds all = by_release x.release
  where
    by_release : (b : Bool) → All P (if b then [] else filter moves olds)
    by_release true = All-nil P
    by_release false = All-filter moves P olds all

moving_few : (transfer : Option Transfer) (olds : List Old) → length (moving transfer olds) ≤ length olds
moving_few None olds = kept_none moves olds
moving_few (Some x) olds = by_release x.release
  where
    by_release : (b : Bool) → length (if b then [] else filter moves olds) ≤ length olds
    by_release true = omega arith
    by_release false = kept_none moves olds

halved_range : (transfer : Option Transfer) (d : Dep) → (transfer_half transfer d).range ≡ d.range
halved_range None d = refl
halved_range (Some x) d = by_release x.release
  where
    by_release : (b : Bool) → (if b then record d { a2 = record { 0 = 0 } } else record d
        { a1 = record { 0 = 0 } }).range ≡ d.range
    by_release true = refl
    by_release false = refl

transfer_is : (t : Trace) (family : ℕ) (on : Area) (f : Option (ℕ × ℕ)) → IsAreaOf t on
    → IsTransferOf t (transfer_for family on f)
transfer_is t family on None is = tt
transfer_is t family on (Some f) is = by_equal (f.0 == f.1)
  where
    by_equal : (b : Bool) → IsTransferOf t (if b then None else Some
        (record { release = f.0 == family; from = f.0; to = f.1; area = on }))
    by_equal true = tt
    by_equal false = is

with_is : (t : Trace) (place : Place) (dep : Dep) (on : Area) (olds : List Old) (transfer : Option Transfer)
    → dep.range ≡ Some on → IsAreaOf t on → All (IsOldOf t) olds → All (IsOn on) olds
    → IsTransferOf t transfer → IsGroupOf t (group_with place dep olds transfer)
with_is t place dep on olds transfer range is are on_it of =
    group_is t place (transfer_half transfer dep ∷ []) olds (moving transfer olds) transfer
    (one (IsDepOf t) (transfer_half transfer dep) (subst (IsRangeOf t) (sym there) is))
    are (moving_all (IsOldOf t) transfer olds are) (moving_few transfer olds) of
    (λ o d c moved of_deps covered. (
    let at : o.area ≡ on = All-contains (IsOn on) (moving transfer olds) o
    (moving_all (IsOn on) transfer olds on_it) moved in
    let same : d.range ≡ Some on = All-contains (λ (e : Dep). e.range ≡ Some on)
    (transfer_half transfer dep ∷ []) d
    (one (λ (e : Dep). e.range ≡ Some on) (transfer_half transfer dep) there)
    of_deps in
    subst (λ (r : Option Area). Within r c) (sym same)
    (subst (λ (a : Area). IsTrue (covers a c)) at covered)))
  where
    there : (transfer_half transfer dep).range ≡ Some on
    there = halved_range transfer dep ∙ range

abbrev dep_of : Here → Element → Option Area → Dep
dep_of here e = dependency (track_of here) e.src e.src_access (track_of here) e.dst e.dst_access

element_is : (t : Trace) (here : Here) (e : Element) → IsLawfulElement t e
    → IsGroupOf t (element_group here e)
element_is t here e h = by_target e.target h.target
  where
    by_target : (o : Option Target) → TargetIsLawful t o → IsGroupOf t (group_on here (dep_of here e) o)
    by_target None l = group_is t (place_of here) (dep_of here e None ∷ []) [] [] None
        (one (IsDepOf t) (dep_of here e None) tt) (All-nil (IsOldOf t)) (All-nil (IsOldOf t)) (omega arith) tt
        (λ o d c on of_deps covered. absurd (in_nothing o on))
    by_target (Some x) l =
        let is = area_is t x.res x.part l.inside in
        with_is t (place_of here) (dep_of here e (Some (area_of x.res x.part))) (area_of x.res x.part)
        (olds_of (area_of x.res x.part) x.layouts)
        (transfer_for here.family (area_of x.res x.part) x.families) refl is
        (olds_are t x.res x.part x.layouts is l.layouts) (olds_on (area_of x.res x.part) x.layouts)
        (transfer_is t here.family (area_of x.res x.part) x.families is)

elements_are : (t : Trace) (here : Here) (es : List Element) → All (IsLawfulElement t) es
    → All (IsGroupOf t) (map (element_group here) es)
elements_are t here es all = All-map (IsGroupOf t) (element_group here) es
    (All-weaker (IsLawfulElement t) (λ (e : Element). IsGroupOf t (element_group here e))
    (element_is t here) es all)

-- Rendering.

step_is : (t : Trace) (xs : List Access) → All (IsAccessOf t) xs → All (IsStepOf t) (access_step xs)
step_is t [] all = All-nil (IsStepOf t)
step_is t (x ∷ xs) all = one (IsStepOf t) (Accesses (x ∷ xs)) all

use_is : (t : Trace) (here : Here) (a : Attachment) (usage : ℕ) → IsLawfulAttachment t a
    → IsAccessOf t (attachment_use here a usage)
use_is t here a usage h = record {
  area = area_is t a.res (part.Image a.mip 1 a.layer a.layers) h;
  layout = tt;
}

loads_are : (t : Trace) (here : Here) (list : List Attachment) → All (IsLawfulAttachment t) list
    → All (IsAccessOf t) (rendering_loads here list)
loads_are t here list all = All-map (IsAccessOf t) _ list
    (All-weaker (IsLawfulAttachment t) (λ (a : Attachment). IsAccessOf t
    (attachment_use here a (load_usage a.class a.load)))
    (λ a h. use_is t here a (load_usage a.class a.load) h) list all)

-- what some items give
pub all_filter_map : {X Y : Type 0} (P : X → Type 0) (Q : Y → Type 0) (f : X → Option Y)
    → ((x : X) (y : Y) → P x → f x ≡ Some y → Q y) → (xs : List X) → All P xs → All Q (filter_map f xs)
all_filter_map P Q f each [] all = All-nil Q
all_filter_map {X} {Y} P Q f each (x ∷ xs) all = by_option
    (all_filter_map P Q f each xs (All-tail P x xs all)) (f x) refl
  where
    by_option : All Q (filter_map f xs) → (o : Option Y) → f x ≡ o → All Q (cons_option o (filter_map f xs))
    by_option rest None e = rest
    by_option rest (Some y) e = All-cons Q y (filter_map f xs) (each x y (All-head P x xs all) e) rest

mapped : {X Y : Type 0} (f : X → Y) (o : Option X) (y : Y) → option_map f o ≡ Some y → (x : X) × (f x ≡ y)
mapped f None y e = cc
mapped f (Some x) y e = (x, cc)

stores_are : (t : Trace) (here : Here) (list : List Attachment) → All (IsLawfulAttachment t) list
    → All (IsAccessOf t) (rendering_stores here list)
stores_are t here list all = all_filter_map (IsLawfulAttachment t) (IsAccessOf t) _
    (λ a x h e. (let u = mapped (attachment_use here a) (store_usage a.class a.store) x e in
    subst (IsAccessOf t) u.1 (use_is t here a u.0 h))) list all

-- Passes.

pub record IsImageOf (t : Trace) (a : Attached) : Type 0 where
  pub area : IsAreaOf t a.on
  pub image : IsOfImage a.on

view_is : (t : Trace) (pass : Pass) (x : ℕ × (PassAttachment × View)) → IsLawfulView t x.1.1
    → IsAreaOf t (area_of x.1.1.res (part.Image x.1.1.mip 1 x.1.1.layer x.1.1.layers))
view_is t pass x h = area_is t x.1.1.res (part.Image x.1.1.mip 1 x.1.1.layer x.1.1.layers) h

zipped : {X Y : Type 0} (P : Y → Type 0) (n : ℕ) (xs : List X) (ys : List Y) → All P ys
    → All (λ (x : ℕ × (X × Y)). P x.1.1) (enumerate_from n (zip xs ys))
zipped {X} {Y} P n [] ys all = All-nil (λ (x : ℕ × (X × Y)). P x.1.1)
zipped {X} {Y} P n (x ∷ xs) [] all = All-nil (λ (x : ℕ × (X × Y)). P x.1.1)
zipped {X} {Y} P n (x ∷ xs) (y ∷ ys) all = All-cons (λ (x : ℕ × (X × Y)). P x.1.1) (n, (x, y))
    (enumerate_from (n + 1) (zip xs ys)) (All-head P y ys all)
    (zipped P (n + 1) xs ys (All-tail P y ys all))

attached_are : (t : Trace) (pass : Pass) (views : List View) → All (IsLawfulView t) views
    → All (IsImageOf t) (attached pass views)
attached_are t pass views all = All-map (IsImageOf t) _ (enumerate_from 0 (zip pass.attachments views))
    (All-weaker (λ (x : ℕ × (PassAttachment × View)). IsLawfulView t x.1.1)
    (λ (x : ℕ × (PassAttachment × View)). IsImageOf t
    (record {
      is = x.1.0;
      on = view_area x.1.1.res x.1.1.mip x.1.1.layer x.1.1.layers;
      uses = filter_map (use_in x.0) (enumerate_from 0 pass.subpasses);
    }))
    (λ x h. record { area = view_is t pass x h; image = tt })
    (enumerate_from 0 (zip pass.attachments views))
    (zipped (IsLawfulView t) 0 pass.attachments views all))

pass_use_is : (t : Trace) (here : Here) (i : ℕ) (a : Attached) (layout : Layout) (usage : ℕ) → IsImageOf t a
    → IsAccessOf t (pass_use here i a layout usage)
pass_use_is t here i a layout usage h = record { area = h.area; layout = h.image }

pass_loads_are : (t : Trace) (here : Here) (i : ℕ) (list : List Attached) → All (IsImageOf t) list
    → All (IsAccessOf t) (loads here i list)
pass_loads_are t here i list all = all_filter_map (IsImageOf t) (IsAccessOf t) _
    (λ a x h e. (let u = mapped (λ (l : Layout). pass_use here i a l (load_usage a.is.class a.is.load))
    (begins_in i a) x e in subst (IsAccessOf t) u.1
    (pass_use_is t here i a u.0 (load_usage a.is.class a.is.load) h))) list all

chained : {X Y : Type 0} (f : X → Option Y) (o : Option X) (y : Y) → option_and_then f o ≡ Some y → (x : X)
    × (f x ≡ Some y)
chained f None y e = cc
chained f (Some x) y e = (x, e)

pass_stores_are : (t : Trace) (here : Here) (i : ℕ) (list : List Attached) → All (IsImageOf t) list
    → All (IsAccessOf t) (stores here i list)
pass_stores_are t here i list all = all_filter_map (IsImageOf t) (IsAccessOf t) _ (λ a x h e. (
    let l = chained (λ (l : Layout). option_map (pass_use here i a l) (store_usage a.is.class a.is.store))
    (ends_in i a) x e in
    let u = mapped (pass_use here i a l.0) (store_usage a.is.class a.is.store) x l.1 in
    subst (IsAccessOf t) u.1 (pass_use_is t here i a l.0 u.0 h))) list all

pair_is : (t : Trace) (a : Attached) (was becomes : Layout) → IsImageOf t a → IsOldOf t (pair a was becomes)
pair_is t a was becomes h = record { area = h.area; image = h.image }

entry_are : (t : Trace) (i : ℕ) (list : List Attached) → All (IsImageOf t) list
    → All (IsOldOf t) (entry_olds i list)
entry_are t i list all = All-filter moves (IsOldOf t) _
    (all_filter_map (IsImageOf t) (IsOldOf t) _ (λ a x h e.
    (let u = mapped (pair a a.is.initial) (begins_in i a) x e in
    subst (IsOldOf t) u.1 (pair_is t a a.is.initial u.0 h))) list all)

exit_are : (t : Trace) (i : ℕ) (list : List Attached) → All (IsImageOf t) list
    → All (IsOldOf t) (exit_olds i list)
exit_are t i list all = All-filter moves (IsOldOf t) _
    (all_filter_map (IsImageOf t) (IsOldOf t) _ (λ a x h e.
    (let u = mapped (λ (l : Layout). pair a l a.is.becomes) (ends_in i a) x e in
    subst (IsOldOf t) u.1 (pair_is t a u.0 a.is.becomes h))) list all)

inner_are : (t : Trace) (i : ℕ) (list : List Attached) → All (IsImageOf t) list
    → All (IsOldOf t) (inner_olds i list)
inner_are t i list all = All-filter moves (IsOldOf t) _
    (all_filter_map (IsImageOf t) (IsOldOf t) (inner_old i) (λ a x h e. (
    let u = chained (λ (u : UseIn). option_map (λ (earlier : UseIn). pair a earlier.layout u.layout)
    (use_before i a)) (find (λ (u : UseIn). u.subpass == i) a.uses) x e in
    let v = mapped (λ (earlier : UseIn). pair a earlier.layout u.0.layout) (use_before i a) x u.1 in
    subst (IsOldOf t) v.1 (pair_is t a v.0.layout u.0.layout h))) list all)

-- a group of a pass: no dependency has a range
abbrev HasNoRange : Dep → Type 0
HasNoRange d = d.range ≡ None

pass_group_is : (t : Trace) (here : Here) (deps : List Dep) (olds : List Old) → All HasNoRange deps
    → All (IsOldOf t) olds → IsGroupOf t (pass_group here deps olds)
pass_group_is t here deps olds none are = group_is t (place_of here) deps olds olds None
    (All-weaker HasNoRange (IsDepOf t) (λ d e. subst (IsRangeOf t) (sym e) tt) deps none) are are
    (omega arith) tt
    (λ o d c on of_deps covered. subst (λ (r : Option Area). Within r c)
    (sym (All-contains HasNoRange deps d none of_deps)) tt)

mapped_none : {X : Type 0} (f : X → Dep) → ((x : X) → HasNoRange (f x)) → (xs : List X)
    → All HasNoRange (map f xs)
mapped_none f each [] = All-nil HasNoRange
mapped_none f each (x ∷ xs) = All-cons HasNoRange (f x) (map f xs) (each x) (mapped_none f each xs)

implicit_none : (uses : Bool) (d : Dep) (deps : List Dep) → HasNoRange d → All HasNoRange deps
    → All HasNoRange (or_implicit uses d deps)
implicit_none true d [] h all = one HasNoRange d h
implicit_none false d [] h all = All-nil HasNoRange
implicit_none uses d (e ∷ deps) h all = all

entry_is : (t : Trace) (here : Here) (pass : Pass) (list : List Attached) (i : ℕ) → All (IsImageOf t) list
    → IsGroupOf t (entry_group here pass list i)
entry_is t here pass list i all = pass_group_is t here _ (entry_olds i list)
    (implicit_none _ _ (entry_deps here pass i) refl (mapped_none _ (λ d. refl) _)) (entry_are t i list all)

exit_is : (t : Trace) (here : Here) (pass : Pass) (list : List Attached) (i : ℕ) → All (IsImageOf t) list
    → IsGroupOf t (exit_group here pass list i)
exit_is t here pass list i all = pass_group_is t here _ (exit_olds i list)
    (implicit_none _ _ (exit_deps here pass i) refl (mapped_none _ (λ d. refl) _)) (exit_are t i list all)

inner_is : (t : Trace) (here : Here) (pass : Pass) (list : List Attached) (i : ℕ) → All (IsImageOf t) list
    → IsGroupOf t (inner_group here pass list i)
inner_is t here pass list i all = pass_group_is t here (inner_deps here pass i) (inner_olds i list)
    (mapped_none _ (λ d. refl) _) (inner_are t i list all)

groups_step_is : (t : Trace) (gs : List Group) → All (IsGroupOf t) gs → All (IsStepOf t) (group_step gs)
groups_step_is t gs all = by_test (list_any is_filled gs)
  where
    by_test : (b : Bool) → All (IsStepOf t) (if b then Groups gs ∷ [] else [])
    by_test true = one (IsStepOf t) (Groups gs) all
    by_test false = All-nil (IsStepOf t)

map_all : {X Y : Type 0} (P : Y → Type 0) (f : X → Y) → ((x : X) → P (f x)) → (xs : List X) → All P (map f xs)
map_all P f each [] = All-nil P
map_all P f each (x ∷ xs) = All-cons P (f x) (map f xs) (each x) (map_all P f each xs)

steps_at_are : (t : Trace) (here : Here) (pass : Pass) (list : List Attached) (point : PassPoint)
    → All (IsImageOf t) list → All (IsStepOf t) (steps_at here pass list point)
steps_at_are t here pass list Begin all =
    All-append (IsStepOf t) _ _ (groups_step_is t (map (entry_group here pass list) (subpasses pass))
    (map_all (IsGroupOf t) (entry_group here pass list) (λ i. entry_is t here pass list i all)
    (subpasses pass))) (step_is t (loads here 0 list) (pass_loads_are t here 0 list all))
steps_at_are t here pass list (Next i) all =
    All-append (IsStepOf t) _ _
    (All-append (IsStepOf t) _ _ (step_is t (stores here (i - 1) list)
    (pass_stores_are t here (i - 1) list all)) (groups_step_is t (inner_group here pass list i ∷ [])
    (one (IsGroupOf t) (inner_group here pass list i) (inner_is t here pass list i all))))
    (step_is t (loads here i list) (pass_loads_are t here i list all))
steps_at_are t here pass list End all =
    All-append (IsStepOf t) _ _ (step_is t (stores here (length pass.subpasses - 1) list)
    (pass_stores_are t here (length pass.subpasses - 1) list all))
    (groups_step_is t (map (exit_group here pass list) (subpasses pass))
    (map_all (IsGroupOf t) (exit_group here pass list) (λ i. exit_is t here pass list i all)
    (subpasses pass)))

pass_steps_are : (t : Trace) (pass : Pass) (views : List View) (point : PassPoint) (here : Here)
    → All (IsLawfulView t) views → All (IsStepOf t) (pass_steps pass views point here)
pass_steps_are t pass views point here all = steps_at_are t here pass (attached pass views) point
    (attached_are t pass views all)

-- Commands.

-- the attachments of the open scope lie inside their resources
abbrev IsScopeOf : Trace → Scope → Type 0
IsScopeOf t Outside = Unit {0}
IsScopeOf t (InRendering attachments) = All (IsLawfulAttachment t) attachments
IsScopeOf t (InPass pass views i) = All (IsLawfulView t) views

next_scope_is : (t : Trace) (s : Scope) → IsScopeOf t s → IsScopeOf t (next_scope s)
next_scope_is t Outside is = is
next_scope_is t (InRendering attachments) is = is
next_scope_is t (InPass pass views i) is = is

scope_is : (t : Trace) (family : ℕ) (before : List Command) → AreLawful t family before
    → IsScopeOf t (scope_after before)
scope_is t family [] are = tt
scope_is t family (command.Work accesses ∷ before) are = scope_is t family before are.1
scope_is t family (command.Barrier deps ∷ before) are = scope_is t family before are.1
scope_is t family (command.SetEvent event deps ∷ before) are = scope_is t family before are.1
scope_is t family (command.WaitEvent event ∷ before) are = scope_is t family before are.1
scope_is t family (command.ResetEvent event ∷ before) are = scope_is t family before are.1
scope_is t family (command.BeginRendering attachments ∷ before) are = are.0.each
scope_is t family (command.EndRendering ∷ before) are = tt
scope_is t family (command.BeginPass pass views ∷ before) are = are.0.each
scope_is t family (command.NextSubpass ∷ before) are =
    next_scope_is t (scope_after before) (scope_is t family before are.1)
scope_is t family (command.EndPass ∷ before) are = tt

end_rendering_is : (t : Trace) (here : Here) (s : Scope) → IsScopeOf t s
    → All (IsStepOf t) (end_rendering here s)
end_rendering_is t here Outside is = All-nil (IsStepOf t)
end_rendering_is t here (InRendering attachments) is =
    step_is t (rendering_stores here attachments) (stores_are t here attachments is)
end_rendering_is t here (InPass pass views i) is = All-nil (IsStepOf t)

next_subpass_is : (t : Trace) (here : Here) (s : Scope) → IsScopeOf t s
    → All (IsStepOf t) (next_subpass t here s)
next_subpass_is t here Outside is = All-nil (IsStepOf t)
next_subpass_is t here (InRendering attachments) is = All-nil (IsStepOf t)
next_subpass_is t here (InPass pass views i) is =
    pass_steps_are t (pass_of t pass) views (Next (i + 1)) here is

end_pass_is : (t : Trace) (here : Here) (s : Scope) → IsScopeOf t s → All (IsStepOf t) (end_pass t here s)
end_pass_is t here Outside is = All-nil (IsStepOf t)
end_pass_is t here (InRendering attachments) is = All-nil (IsStepOf t)
end_pass_is t here (InPass pass views i) is = pass_steps_are t (pass_of t pass) views End here is

command_is : (t : Trace) (here : Here) (family : ℕ) (s : Scope) (c : Command) → IsScopeOf t s
    → IsLawfulCommand t family s c → All (IsStepOf t) (steps_of t here s c)
command_is t here family s (command.Work accesses) is h =
    one (IsStepOf t) (Accesses (map (declared_access here) accesses))
    (All-map (IsAccessOf t) (declared_access here) accesses
    (All-weaker (IsLawfulAccess t) (λ (d : Declared). IsAccessOf t (declared_access here d))
    (access_is t here) accesses h.each))
command_is t here family s (command.Barrier deps) is h =
    one (IsStepOf t) (Groups (map (element_group here) deps)) (elements_are t here deps h.each)
command_is t here family s (command.SetEvent event deps) is h =
    one (IsStepOf t) (SetEvent event (place_of here) (map (element_group here) deps))
    (elements_are t here deps h.each)
command_is t here family s (command.WaitEvent event) is h =
    one (IsStepOf t) (WaitEvent event (place_of here)) tt
command_is t here family s (command.ResetEvent event) is h =
    one (IsStepOf t) (ResetEvent event (place_of here)) tt
command_is t here family s (command.BeginRendering attachments) is h =
    step_is t (rendering_loads here attachments) (loads_are t here attachments h.each)
command_is t here family s command.EndRendering is h = end_rendering_is t here s is
command_is t here family s (command.BeginPass pass views) is h =
    pass_steps_are t (pass_of t pass) views Begin here h.each
command_is t here family s command.NextSubpass is h = next_subpass_is t here s is
command_is t here family s command.EndPass is h = end_pass_is t here s is

lowered_is : (t : Trace) (r : Recording) (cs : List Command) → AreLawful t r.family cs
    → All (IsStepOf t) (lowered t r cs)
unfolding lowered
lowered_is t r [] are = All-nil (IsStepOf t)
lowered_is t r (c ∷ before) are = All-append (IsStepOf t) (lowered t r before) _ (lowered_is t r before are.1)
    (numbered_all t _ _ (command_is t (here_after r c before (length (lowered t r before))) r.family
    (scope_after before) c (scope_is t r.family before are.1) are.0))

pub find_is : {X : Type 0} (P : X → Type 0) (p : X → Bool) (xs : List X) (x : X) → All P xs → find p xs
    ≡ Some x → P x
find_is P p [] x all e = cc
find_is P p (y ∷ xs) x all e = by_test (find_is P p xs x (All-tail P y xs all)) (p y) e
  where
    by_test : (find p xs ≡ Some x → P x) → (b : Bool) → (if b then Some y else find p xs) ≡ Some x → P x
    by_test rest true f = subst P (let same : y ≡ x = cc in same) (All-head P y xs all)
    by_test rest false f = rest f

pub inside : (t : Trace) (k : ℕ) → IsLawful t → All (IsStepOf t) (compile t k)
inside t k lawful = by_option (recording_of t k) refl
  where
    by_option : (o : Option Recording) → recording_of t k ≡ o → All (IsStepOf t) (steps_in t o)
    by_option None e = All-nil (IsStepOf t)
    by_option (Some r) e = lowered_is t r (reverse r.commands)
        (find_is (IsLawfulRecording t) (λ (x : Recording). x.rec == k) t.recordings r lawful.recordings
        e).commands
