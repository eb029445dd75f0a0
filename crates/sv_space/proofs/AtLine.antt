-- The line of an area, by the number of its resource.
use Rattle.std.proofs.Common.{ℕ, ◌≡◌, ◌<◌, ◌≤◌, ◌+◌, ◌*◌, ◌⊎◌, inl, inr, List, length, get_or, arith, sym}
use Rattle.std.proofs.Common.{◌∙◌, subst}
use Rattle.std.proofs.Math.Nat.{mul-le-mul_right}
use Rattle.sv_model.specs.Cells.{area_resource}
use Rattle.sv_model.specs.declared.work.Area.{Area}
use Rattle.sv_model.specs.declared.work.Area.TheVariants.{Bytes, Image}
use Rattle.sv_rangemap.proofs.Pieces.{some_part}
use Rattle.sv_space.specs.AllLines.{LiesAt, LiesIn}
use Rattle.sv_space.specs.Lines.{LiesOn}
use Rattle.sv_space.specs.Sorted.{AreSorted, IsPlaceOf}
use Rattle.sv_space.specs.declared.line.Line.{Line}
use Rattle.sv_space.specs.declared.shape.Shape.{Shape}
use Rattle.sv_space.specs.declared.shape.Shape.TheVariants as shape

less_or_same : (a b : ℕ) → (a < b) ⊎ ((a ≡ b) ⊎ (b < a))
less_or_same a b = grind arith

pub lies_res : (res : ℕ) (s : Shape) (size : ℕ) (area : Area) → LiesOn res s size area → res
    ≡ area_resource area
lies_res res shape.Bytes size (Bytes r span) lies = lies.0
lies_res res shape.Bytes size (Image r box) lies = absurd lies
lies_res res (shape.Mips mips layers) size (Bytes r span) lies = absurd lies
lies_res res (shape.Mips mips layers) size (Image r box) lies = lies.0

-- the place that is found is the line's
pub place_is : (lines : List Line) → AreSorted lines → (res place k : ℕ) → IsPlaceOf res lines place → k
    < length lines → ((d : Line) → (get_or lines k d).res ≡ res) → place ≡ k
place_is lines sorted res place k is lt at = elim (less_or_same place k) [
  | inl before ↦ absurd (
      let d : Line = some_part lines (omega (arith, lt)) in
      let s = sorted place k d before lt in
      let b = is.behind place d (omega arith) (omega (arith, before, lt)) in
      let e = at d in
      omega (arith, s, b, e))
  | inr w ↦ elim w [
    | inl same ↦ same
    | inr after ↦ absurd (
        let d : Line = some_part lines (omega (arith, lt)) in
        let b = is.before k d after in
        let e = at d in
        omega (arith, b, e))
  ]
]

pub found_line : (lines : List Line) → AreSorted lines → (area : Area) (res place : ℕ) → res
    ≡ area_resource area → LiesIn lines area → IsPlaceOf res lines place → (place < length lines)
    × ((d : Line) → LiesAt (get_or lines place d) area)
found_line lines sorted area res place res_is (k, lt, at) is =
    let same : place ≡ k = place_is lines sorted res place k is lt
    (λ d. lies_res (get_or lines k d).res (get_or lines k d).shape (get_or lines k d).pieces.size area
    (at d) ∙ sym res_is) in
    (omega (arith, same, lt), λ d. subst (λ (n : ℕ). LiesAt (get_or lines n d) area) (sym same) (at d))

-- the number of the first cell
pub product_fits : (a b : ℕ) → a ≤ 4294967295 → b ≤ 4294967295 → a * b ≤ 18446744065119617025
product_fits a b le_a le_b = let m : a * b ≤ 4294967295 * b = mul-le-mul_right b le_a in
    omega (arith, m, le_b)

pub first_below : (mips layers size mip m layer l : ℕ) → mips * layers ≤ size → 0 < m → mip + m ≤ mips → 0
    < l → layer + l ≤ layers → mip * layers + layer < size
first_below mips layers size mip m layer l room some_m in_mips some_l in_layers =
    let low : mip + 1 ≤ mips = omega (arith, some_m, in_mips) in
    let wide : (mip + 1) * layers ≤ mips * layers = mul-le-mul_right layers low in
    let e : (mip + 1) * layers ≡ mip * layers + layers = grind arith in
    omega (arith, wide, e, room, some_l, in_layers)

pub first_fits : (mips layers mip m layer l : ℕ) → mips ≤ 4294967295 → layers ≤ 4294967295 → 0 < m → mip + m
    ≤ mips → 0 < l → layer + l ≤ layers → mip * layers + layer < 18446744073709551616
first_fits mips layers mip m layer l few_mips few_layers some_m in_mips some_l in_layers =
    let below = first_below mips layers (mips * layers) mip m layer l
    (omega arith) some_m in_mips some_l in_layers in
    let p = product_fits mips layers few_mips few_layers in
    omega (arith, below, p)

-- two places of lines of one resource are one
pub line_is : (lines : List Line) → AreSorted lines → (k j : ℕ) → k < length lines → j < length lines
    → ((d : Line) → (get_or lines k d).res ≡ (get_or lines j d).res) → k ≡ j
line_is lines sorted k j k_lt j_lt same = elim (less_or_same k j) [
  | inl before ↦ absurd (let d : Line = some_part lines (omega (arith, k_lt)) in let s =
      sorted k j d before j_lt in let e = same d in omega (arith, s, e))
  | inr w ↦ elim w [
    | inl one ↦ one
    | inr after ↦ absurd (let d : Line = some_part lines (omega (arith, k_lt)) in let s =
        sorted j k d after k_lt in let e = same d in omega (arith, s, e))
  ]
]
