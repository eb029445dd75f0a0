-- The parts of lines that the reader does not refuse have their forms.
use Rattle.std.proofs.Common.{◌≡◌, ℕ, zero, suc, ◌<◌, ◌≤◌, List, [], ◌∷◌, Bool, true, false, ◌&&◌, ◌||◌}
use Rattle.std.proofs.Common.{cond, Option, None, Some, refl, arith, length, All, is_some, nat_lt, nat_le}
use Rattle.std.proofs.Common.{slice_index_or, codes, option_and_then}
use Rattle.std.specs.List.{list_all}
use Rattle.std.proofs.lemmas.Bool.{and_parts}
use Rattle.std.proofs.lemmas.Bool.Decides.{nat_tests}
use Rattle.serde_json.specs.Data.{Data}
use Rattle.sv_json.specs.declared.found.Flaw.TheVariants.{Fine}
use Rattle.sv_json.specs.Form.{found, any_number, list, member, has, made, both_or_neither}
use Rattle.sv_mask.specs.Names.{layout_named}
use Rattle.sv_mask.specs.Usages.{layout_number}
use Rattle.sv_mask.specs.declared.layout.Layout.{Layout}
use Rattle.sv_mask.specs.declared.layout.Layout.TheVariants.{Undefined, Preinitialized, General}
use Rattle.sv_mask.specs.declared.layout.Layout.TheVariants.{ColorAttachmentOptimal}
use Rattle.sv_mask.specs.declared.layout.Layout.TheVariants.{DepthStencilAttachmentOptimal}
use Rattle.sv_mask.specs.declared.layout.Layout.TheVariants.{DepthStencilReadOnlyOptimal}
use Rattle.sv_mask.specs.declared.layout.Layout.TheVariants.{ShaderReadOnlyOptimal, TransferSrcOptimal}
use Rattle.sv_mask.specs.declared.layout.Layout.TheVariants.{TransferDstOptimal, ReadOnlyOptimal}
use Rattle.sv_mask.specs.declared.layout.Layout.TheVariants.{AttachmentOptimal, PresentSrc}
use Rattle.sv_model.specs.declared.line.Part.{Part}
use Rattle.sv_model.specs.declared.line.Part.TheVariants as part
use Rattle.sv_model.specs.declared.line.PassAttachment.{PassAttachment}
use Rattle.sv_model.specs.declared.line.PassDep.{PassDep}
use Rattle.sv_model.specs.declared.line.PassUse.{PassUse}
use Rattle.sv_model.specs.declared.line.Target.{Target}
use Rattle.sv_model.specs.LawfulParts.{IsNumber, IsNewLayout, HasItsLayout, HaveImage, AreNumbers}
use Rattle.sv_model.specs.Lawful.{HasFinalLayout, IsEnd, GoesOn}
use Rattle.sv_parts.specs.Names as name
use Rattle.sv_parts.specs.Parts as form
use Rattle.sv_trace.specs.Lines as lines
use Rattle.sv_trace.specs.Formed.{IsFormedAccess, IsFormedTarget, IsFormedElement, IsFormedSubpass}
use Rattle.sv_trace.specs.Formed.{IsFormedPassDep}
use Rattle.sv_trace.proofs.Forms.{Holds, Says, both_fine, says_any, says_between, says_word, says_list}
use Rattle.sv_trace.proofs.Forms.{says_member, says_both, says_if, shape_is_flaw, range_is_flaw}
use Rattle.sv_trace.proofs.Forms.{unless_holds}

-- Numbers.

pub says_slot : Says (λ n. n < 16) form.slot
says_slot d fine = let bounds = says_between 0 15 d fine in let most = bounds.1 in omega (arith, most)

pub says_number : Says IsNumber form.number
says_number d fine = let bounds = says_between 0 65535 d fine in let most = bounds.1 in omega (arith, most)

-- Layouts.

abbrev pub IsFirstLayout : Layout → Type 0
IsFirstLayout l = layout_number l < 2

early : (l : Layout) → Holds IsFirstLayout (cond (name.is_first l) (Some l) None)
early Undefined = omega arith
early Preinitialized = omega arith
early other = tt

late : (l : Layout) → Holds IsNewLayout (cond (name.is_first l) None (Some l))
late Undefined = tt
late Preinitialized = tt
late General = omega arith
late ColorAttachmentOptimal = omega arith
late DepthStencilAttachmentOptimal = omega arith
late DepthStencilReadOnlyOptimal = omega arith
late ShaderReadOnlyOptimal = omega arith
late TransferSrcOptimal = omega arith
late TransferDstOptimal = omega arith
late ReadOnlyOptimal = omega arith
late AttachmentOptimal = omega arith
late PresentSrc = omega arith

then_holds : {A : Type 0} (P : A → Type 0) (f : A → Option A) → ((a : A) → Holds P (f a)) → (o : Option A)
    → Holds P (option_and_then f o)
then_holds P f h None = tt
then_holds P f h (Some a) = h a

pub says_first_layout : Says IsFirstLayout name.first_layout
unfolding name.first_layout_named
says_first_layout d fine = says_word IsFirstLayout name.first_layout_named Undefined
    (λ s. then_holds IsFirstLayout (λ l. cond (name.is_first l) (Some l) None) early (layout_named s)) d fine

pub says_later_layout : Says IsNewLayout name.later_layout
unfolding name.later_layout_named
says_later_layout d fine = says_word IsNewLayout name.later_layout_named Undefined
    (λ s. then_holds IsNewLayout (λ l. cond (name.is_first l) None (Some l)) late (layout_named s)) d fine

-- Accesses.

image_layout : Says (λ (x : Part × Option Layout). HasItsLayout x.0 x.1) form.image_place
unfolding form.image_place form.image_part
image_layout d fine = refl

bytes_layout : Says (λ (x : Part × Option Layout). HasItsLayout x.0 x.1) form.bytes_place
unfolding form.bytes_place form.bytes_part
bytes_layout d fine = refl

says_place : Says (λ (x : Part × Option Layout). HasItsLayout x.0 x.1) form.place
unfolding form.place
says_place d fine = says_if (λ (x : Part × Option Layout). HasItsLayout x.0 x.1)
    (form.is_image d) d form.image_place form.bytes_place image_layout bytes_layout fine

pub says_access : Says IsFormedAccess form.access
unfolding form.access
says_access d fine = says_place d (both_fine _ _ fine).1

-- Elements.

new_layouts : (mip mips layer layers : ℕ) (o : Option (Layout × Layout))
    → Holds (λ (x : Layout × Layout). Unit {0} × IsNewLayout x.1) o
    → HaveImage (part.Image mip mips layer layers) o
new_layouts mip mips layer layers None h = tt
new_layouts mip mips layer layers (Some x) h = h.1

image_range : Says (λ (x : Part × Option (Layout × Layout)). HaveImage x.0 x.1) form.image_range
unfolding form.image_range form.image_part
image_range d fine = new_layouts (member (codes "mip") any_number d).value
    (member (codes "mips") any_number d).value (member (codes "layer") any_number d).value
    (member (codes "layers") any_number d).value
    (both_or_neither (codes "old") name.layout (codes "new") name.later_layout d).value
    (says_both (λ (l : Layout). Unit {0}) IsNewLayout (codes "old") name.layout
    (codes "new") name.later_layout (says_any name.layout) says_later_layout d (both_fine _ _ fine).1)

bytes_range : Says (λ (x : Part × Option (Layout × Layout)). HaveImage x.0 x.1) form.bytes_range
unfolding form.bytes_range form.bytes_part
bytes_range d fine = tt

says_range : Says (λ (x : Part × Option (Layout × Layout)). HaveImage x.0 x.1) form.range
unfolding form.range
says_range d fine = says_if (λ (x : Part × Option (Layout × Layout)). HaveImage x.0 x.1)
    (form.is_image d) d form.image_range form.bytes_range image_range bytes_range fine

numbers : (o : Option (ℕ × ℕ)) → Holds (λ (x : ℕ × ℕ). IsNumber x.0 × IsNumber x.1) o → AreNumbers o
numbers None h = tt
numbers (Some x) h = h

says_limited : Says (λ (x : Target). IsFormedTarget (Some x)) form.limited
unfolding form.limited
says_limited d fine =
    let families = both_fine _ _ fine in
    let range = both_fine _ _ families.0 in (
      says_range d range.1,
      numbers (both_or_neither (codes "src_family") form.number (codes "dst_family") form.number d).value
          (says_both IsNumber IsNumber (codes "src_family") form.number
          (codes "dst_family") form.number says_number says_number d families.1),
    )

no_target : Says IsFormedTarget (λ d. found Fine None)
no_target d fine = tt

some_target : Says IsFormedTarget (made Some form.limited)
some_target d fine = says_limited d fine

says_target : Says IsFormedTarget form.target
unfolding form.target
says_target d fine = says_if IsFormedTarget (has (codes "res") d) d (made Some form.limited)
    (λ e. found Fine None) some_target no_target fine

pub says_element : Says IsFormedElement form.element
unfolding form.element
says_element d fine = says_target d (both_fine _ _ fine).1

-- Render passes.

pub says_final : Says HasFinalLayout form.pass_attachment
unfolding form.pass_attachment
says_final d fine = says_member IsNewLayout (codes "final") name.later_layout says_later_layout d
    (both_fine _ _ fine).1

-- one end at least is a subpass
abbrev pub HasEnd : PassDep → Type 0
HasEnd x = (is_some x.from || is_some x.to) ≡ true

has_end : (d : Data) → (form.ends d).flaw ≡ Fine →
    (is_some (form.ends d).value.0 || is_some (form.ends d).value.1) ≡ true
unfolding form.ends
has_end d fine = unless_holds _ _ shape_is_flaw (both_fine _ _ fine).1

pub says_dep : Says HasEnd form.pass_dep
unfolding form.pass_dep
says_dep d fine =
    let dst_access = both_fine _ _ fine in
    let dst = both_fine _ _ dst_access.0 in
    let src_access = both_fine _ _ dst.0 in
    let src = both_fine _ _ src_access.0 in
    has_end d src.0

-- The lists of a pass.

pub each_true : {A : Type 0} (test : A → Bool) (xs : List A) → list_all test xs ≡ true
    → All (λ x. test x ≡ true) xs
each_true test [] e k d lt = absurd (omega (arith, lt))
each_true test (x ∷ xs) e zero d lt = (and_parts (test x) (list_all test xs) e).0
each_true test (x ∷ xs) e (suc k) d lt = each_true test xs (and_parts (test x) (list_all test xs) e).1 k d
    (omega (arith, lt))

is_below : (m n : ℕ) → nat_lt m n ≡ true → m < n
is_below m n e = grind (arith, nat_tests)

is_most : (m n : ℕ) → nat_le m n ≡ true → m ≤ n
is_most m n e = grind (arith, nat_tests)

is_end : (n : ℕ) (o : Option ℕ) → lines.end_fits n o ≡ true → IsEnd n o
is_end n None e = tt
is_end n (Some i) e = is_below i n e

goes_on : (from to : Option ℕ) → (is_some from || is_some to) ≡ true → lines.in_order from to ≡ true
    → GoesOn from to
goes_on None None some e = absurd (let h : false ≡ true = some in cc)
goes_on None (Some to) some e = tt
goes_on (Some from) None some e = tt
goes_on (Some from) (Some to) some e = is_most from to e

dep_formed : (n : ℕ) (x : PassDep) → HasEnd x → lines.dep_fits n x ≡ true → IsFormedPassDep n x
dep_formed n x some e =
    let order = and_parts (lines.end_fits n x.from && lines.end_fits n x.to) (lines.in_order x.from x.to) e in
    let ends = and_parts (lines.end_fits n x.from) (lines.end_fits n x.to) order.0 in
    record {
      from = is_end n x.from ends.0;
      to = is_end n x.to ends.1;
      order = goes_on x.from x.to some order.1;
    }

some_subpass : (xs : List (List PassUse)) → lines.has_some xs ≡ true → 1 ≤ length xs
some_subpass [] e = absurd (let h : false ≡ true = e in cc)
some_subpass (x ∷ xs) e = omega arith

pub record ListsAreFormed (it : lines.PassLists) : Type 0 where
  pub layouts : All HasFinalLayout it.0
  pub some : 1 ≤ length it.1
  pub uses : All (IsFormedSubpass (length it.0)) it.1
  pub each : All (IsFormedPassDep (length it.1)) it.2

lists_formed : (attachments : List PassAttachment) (subpasses : List (List PassUse)) (deps : List PassDep)
    → All HasFinalLayout attachments → lines.has_some subpasses ≡ true → All HasEnd deps
    → lines.lists_fit attachments subpasses deps ≡ true → ListsAreFormed (attachments, subpasses, deps)
unfolding lines.lists_fit
lists_formed attachments subpasses deps final some ends fit =
    let parts = and_parts (list_all (list_all (lines.use_fits (length attachments))) subpasses)
    (list_all (lines.dep_fits (length subpasses)) deps) fit in
    record {
      layouts = final;
      some = some_subpass subpasses some;
      uses = λ k d lt i u within. is_below (slice_index_or (slice_index_or subpasses k d) i u).att
          (length attachments)
          (each_true (lines.use_fits (length attachments)) (slice_index_or subpasses k d)
          (each_true (list_all (lines.use_fits (length attachments))) subpasses parts.0 k d lt) i u within);
      each = λ k d lt. dep_formed (length subpasses) (slice_index_or deps k d) (ends k d lt)
          (each_true (lines.dep_fits (length subpasses)) deps parts.1 k d lt);
    }

says_subpasses : Says (λ (xs : List (List PassUse)). lines.has_some xs ≡ true) lines.subpasses
unfolding lines.subpasses
says_subpasses d fine = unless_holds _ _ shape_is_flaw (both_fine _ _ fine).1

pub says_lists : Says ListsAreFormed lines.pass_lists
unfolding lines.pass_lists
says_lists d fine =
    let whole = both_fine _ _ fine in
    let deps = both_fine _ _ whole.0 in
    let subpasses = both_fine _ _ deps.0 in
    lists_formed (member (codes "attachments") (list form.pass_attachment) d).value
    (lines.subpasses d).value (member (codes "deps") (list form.pass_dep) d).value
    (says_member (All HasFinalLayout) (codes "attachments") (list form.pass_attachment)
    (says_list HasFinalLayout form.pass_attachment says_final) d subpasses.0)
    (says_subpasses d subpasses.1)
    (says_member (All HasEnd) (codes "deps") (list form.pass_dep)
    (says_list HasEnd form.pass_dep says_dep) d deps.1)
    (unless_holds _ _ range_is_flaw whole.1)
