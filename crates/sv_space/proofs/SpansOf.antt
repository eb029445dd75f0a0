-- The spans of a box of mips and layers on the line of its image.
use Rattle.std.proofs.Common.{ℕ, Bool, true, false, suc, ◌≡◌, ◌<◌, ◌≤◌, ◌+◌, ◌-◌, ◌*◌, ◌/◌, ◌%◌, ◌↔◌, ◌&&◌}
use Rattle.std.proofs.Common.{◌==◌, nat_le, nat_lt, IsTrue, List, get_or, arith, refl, sym, subst, Result}
use Rattle.std.proofs.Common.{Ok, Err, IfOk}
use Rattle.std.specs.List.{All}
use Rattle.std.proofs.lemmas.Bool.{le-leb, leb-true, eq-eqb}
use Rattle.std.proofs.lemmas.Nat.{div-add-mod'}
use Rattle.std.proofs.Math.Nat.{mod-lt, mul-le-mul_right, suc-mul}
use Rattle.std.proofs.lemmas.List.{get_or_default}
use Rattle.sv_model.specs.Cells.{covers, is_inside}
use Rattle.sv_model.specs.declared.work.Area.{Area}
use Rattle.sv_model.specs.declared.work.Area.TheVariants.{Image}
use Rattle.sv_model.specs.declared.work.Cell.TheVariants.{Texel}
use Rattle.sv_range.specs.Spans.{IsOrdered}
use Rattle.sv_range.specs.Lines.{InBox, InSome, IsInOneMip, line_number}
use Rattle.sv_range.specs.declared.span.Span.{Span}
use Rattle.sv_range.specs.declared.span.Cells.{Cells}
use Rattle.sv_space.specs.Lines.{IsInMip, LiesOn, cell_on}
use Rattle.sv_space.specs.declared.shape.Shape.{Shape}
use Rattle.sv_space.specs.declared.shape.Shape.TheVariants as shape

pub both : (a b : Bool) → (a && b) ≡ true → (a ≡ true) × (b ≡ true)
both true b h = (refl, h)
both false b h = absurd (let k : false ≡ true = h in cc)

pub together : (a b : Bool) → a ≡ true → b ≡ true → (a && b) ≡ true
together a b h k = rw h k

-- in one mip, in the words of the line
pub all_in_mip : (mips layers : ℕ) (spans : List Span) → All (IsInOneMip layers) spans
    → All (IsInMip (shape.Mips mips layers)) spans
all_in_mip mips layers spans all k d lt =
    let m = all k d lt in
    (m.0, (let a = m.1 in omega (arith, a)), (let b = m.2 in omega (arith, b)))

-- a box covers what lies in it
pub covers_box : (res r : ℕ) (box : Cells) (mip layer : ℕ) → res ≡ r → InBox box mip layer
    ↔ IsTrue (covers (Image r box) (Texel res mip layer))
covers_box res r box mip layer same = (
  λ h. together (r == res) (is_inside box mip layer) (eq-eqb r res (sym same))
      (together (nat_le box.mip mip && nat_lt mip (box.mip + box.mips))
      (nat_le box.layer layer && nat_lt layer (box.layer + box.layers))
      (together (nat_le box.mip mip) (nat_lt mip (box.mip + box.mips)) (le-leb box.mip mip h.mip_from)
      (le-leb (suc mip) (box.mip + box.mips) h.mip_before))
      (together (nat_le box.layer layer) (nat_lt layer (box.layer + box.layers))
      (le-leb box.layer layer h.layer_from) (le-leb (suc layer)
      (box.layer + box.layers) h.layer_before))),
  λ t. (
      let inner = (both (r == res) (is_inside box mip layer) t).1 in
      let parts = both (nat_le box.mip mip && nat_lt mip (box.mip + box.mips))
      (nat_le box.layer layer && nat_lt layer (box.layer + box.layers)) inner in
      let m = both (nat_le box.mip mip) (nat_lt mip (box.mip + box.mips)) parts.0 in
      let l = both (nat_le box.layer layer) (nat_lt layer (box.layer + box.layers)) parts.1 in
      record {
        mip_from = leb-true box.mip mip m.0;
        mip_before = leb-true (suc mip) (box.mip + box.mips) m.1;
        layer_from = leb-true box.layer layer l.0;
        layer_before = leb-true (suc layer) (box.layer + box.layers) l.1;
      }),
)

-- the cells of the spans are those of the box
pub cells_of_box : (res r layers : ℕ) (mips : ℕ) (box : Cells) (spans : List Span) → res ≡ r → 0 < layers
    → ((mip layer : ℕ) → layer < layers → InSome spans (line_number layers mip layer) ↔ InBox box mip layer)
    → (number : ℕ) → InSome spans number ↔ IsTrue
    (covers (Image r box) (cell_on res (shape.Mips mips layers) number))
cells_of_box res r layers mips box spans same some cells number =
    let e : number / layers * layers + number % layers ≡ number = div-add-mod' number layers in
    let c = cells (number / layers) (number % layers) (mod-lt number some) in
    let b = covers_box res r box (number / layers) (number % layers) same in
    let d : InSome spans number ↔ InBox box (number / layers) (number % layers) =
    subst (λ (n : ℕ). InSome spans n ↔ InBox box (number / layers) (number % layers)) e c in
    (λ h. b.0 (d.0 h), λ t. d.1 (b.1 t))

-- they lie on the line
pub all_inside : (layers mips size : ℕ) (box : Cells) (spans : List Span) → mips * layers ≤ size → box.mip
    + box.mips ≤ mips → All (IsInOneMip layers) spans → All IsOrdered spans
    → ((mip layer : ℕ) → layer < layers → InSome spans (line_number layers mip layer) ↔ InBox box mip layer)
    → All (λ (span : Span). (span.start < span.end) × (span.end ≤ size)) spans
all_inside layers mips size box spans room fits one ordered cells k d lt =
    let span : Span = get_or spans k d in
    let m = one k d lt in
    let o = ordered k d lt in
    let low : m.0 * layers ≤ span.start = (let a = m.1 in omega (arith, a)) in
    let high : span.end ≤ m.0 * layers + layers = (let b = m.2 in omega (arith, b)) in
    let n : m.0 * layers + (span.end - 1 - m.0 * layers) ≡ span.end - 1 = omega (arith, low, o) in
    let here : InSome spans (m.0 * layers + (span.end - 1 - m.0 * layers)) = (
      k,
      span,
      lt,
      get_or_default spans k span d lt,
      record { from = omega (arith, n, o); before = omega (arith, n, o) },
    ) in
    let box_has = (cells m.0 (span.end - 1 - m.0 * layers) (omega (arith, low, high, o))).0 here in
    let below : suc m.0 ≤ mips = (let b = box_has.mip_before in omega (arith, b, fits)) in
    let wide : suc m.0 * layers ≤ mips * layers = mul-le-mul_right layers below in
    let s : suc m.0 * layers ≡ m.0 * layers + layers = suc-mul m.0 layers in
    (o, omega (arith, high, wide, s, room))

-- what lies on a line of mips
pub lies_on_mips : (res mips layers size : ℕ) (s : Shape) (area : Area) (r : ℕ) (box : Cells) → s
    ≡ shape.Mips mips layers → area ≡ Image r box → LiesOn res s size area
    → LiesOn res (shape.Mips mips layers) size (Image r box)
lies_on_mips res mips layers size s area r box is_s is_area lies =
    subst (λ (a : Area). LiesOn res (shape.Mips mips layers) size a) is_area
    (subst (λ (t : Shape). LiesOn res t size area) is_s lies)

pub if_ok_three : {X E : Type 0} (r : Result X E) (P Q R S : X → Type 0) → IfOk r P → IfOk r Q → IfOk r R
    → ((x : X) → P x → Q x → R x → S x) → IfOk r S
if_ok_three (Ok x) P Q R S p q t all = all x p q t
if_ok_three (Err e) P Q R S p q t all = tt
