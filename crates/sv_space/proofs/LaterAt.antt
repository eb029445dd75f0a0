-- The later accesses of what a step reports, and the cells of an area on their line.
use Rattle.std.proofs.Common.{ℕ, Bool, true, false, suc, ◌≡◌, ◌<◌, ◌≤◌, ◌+◌, ◌*◌, ◌/◌, ◌%◌, ◌==◌, ◌&&◌}
use Rattle.std.proofs.Common.{nat_le, nat_lt, ◌⊎◌, inl, inr, IsTrue, List, [], ◌∷◌, ◌++◌, Contains, length}
use Rattle.std.proofs.Common.{get_or, arith, refl, sym, ◌∙◌, ap, subst}
use Rattle.std.proofs.lemmas.Bool.{eqb-true, leb-true}
use Rattle.std.proofs.lemmas.List.{get_or_default}
use Rattle.std.proofs.lemmas.List.Elements.{Contains-append_cases}
use Rattle.std.proofs.lemmas.Nat.{div-add-mod'}
use Rattle.std.proofs.Math.Nat.{mod-lt, mul-le-mul_right}
use Rattle.sv_model.specs.Cells.{CellBefore, covers, is_inside}
use Rattle.sv_model.specs.Order.{Story, grown}
use Rattle.sv_model.specs.Reports.{Spot, accesses_of, story_of, AreNumbered, IsReportedFrom}
use Rattle.sv_model.proofs.Lists.{in_filter}
use Rattle.sv_model.proofs.Works.{accesses_on, deps_of, story_grows, step_at, work_below}
use Rattle.sv_model.specs.declared.work.Access.{Access}
use Rattle.sv_model.specs.declared.work.Area.{Area}
use Rattle.sv_model.specs.declared.work.Area.TheVariants.{Bytes, Image}
use Rattle.sv_model.specs.declared.work.Cell.{Cell}
use Rattle.sv_model.specs.declared.work.Cell.TheVariants.{Byte, Texel}
use Rattle.sv_model.specs.declared.work.Step.{Step}
use Rattle.sv_space.specs.Lines.{IsShaped, LiesOn, cell_on}
use Rattle.sv_space.specs.Steps.{IsNext, AreInOrder}
use Rattle.sv_space.specs.declared.shape.Shape.{Shape}
use Rattle.sv_space.specs.declared.shape.Shape.TheVariants as shape
use Rattle.sv_space.proofs.Areas.{in_mip_at}
use Rattle.sv_space.proofs.AtLine.{first_below}

less_or_same : (a b : ℕ) → (a < b) ⊎ ((a ≡ b) ⊎ (b < a))
less_or_same a b = grind arith

pub both : (a b : Bool) → (a && b) ≡ true → (a ≡ true) × (b ≡ true)
both true b h = (refl, h)
both false b h = absurd (let k : false ≡ true = h in cc)

module _ (work : List Step) (steps : AreInOrder work) (step : Step) (next : IsNext (length work) step) where
  numbered : AreNumbered work
  numbered k d lt = (steps k d lt).numbered

  later_in : (s : Spot) → IsReportedFrom (length work) (work ++ step ∷ []) s
      → Contains (accesses_on step s.cell) s.later
  later_in s r =
      let listed : Contains (grown (story_of work s.cell) (accesses_on step s.cell) (deps_of step)).accesses
      s.later = subst (λ (t : Story). Contains t.accesses s.later)
      (story_grows work step s.cell) r.reported.listed in
      elim (Contains-append_cases (story_of work s.cell).accesses (accesses_on step s.cell) s.later listed) [
        | inl old ↦ absurd (let h = (work_below work s.cell numbered).accesses s.later old in let k = r.at
            in omega arith)
        | inr new ↦ new
      ]

  -- it is one of the step, and touches the cell
  pub later_of : (s : Spot) → IsReportedFrom (length work) (work ++ step ∷ []) s
      → Contains (accesses_of step) s.later × IsTrue (covers s.later.area s.cell)
      × (s.later.step ≡ length work)
  later_of s r =
      let on = later_in s r in
      let f = in_filter (λ (a : Access). covers a.area s.cell) (accesses_of step) s.later on in
      (f.0, f.1, (step_at (length work) step s.cell next.numbered).accesses s.later on)

  pos_is : (x : Access) (on : Contains (accesses_of step) x) → x.pos ≡ on.0
  pos_is x on = sym (ap (λ (a : Access). a.pos) on.2) ∙ next.positions on.0 x on.1

  pub pos_below : (x : Access) → Contains (accesses_of step) x → x.pos < length (accesses_of step)
  pos_below x on = let e = pos_is x on in let h = on.1 in omega (arith, e, h)

  -- the access of a position
  pub by_pos : (x y : Access) → Contains (accesses_of step) x → Contains (accesses_of step) y → x.pos
      ≡ y.pos → x ≡ y
  by_pos x y on_x on_y same =
      let e : on_x.0 ≡ on_y.0 = sym (pos_is x on_x) ∙ same ∙ pos_is y on_y in
      sym on_x.2 ∙ get_or_default (accesses_of step) on_x.0 x y on_x.1
      ∙ ap (λ (n : ℕ). get_or (accesses_of step) n y) e ∙ on_y.2

-- a later number on the line is a later cell
pub cell_less : (res : ℕ) (s : Shape) (size : ℕ) → IsShaped s size → (n m : ℕ) → n < m
    → CellBefore (cell_on res s n) (cell_on res s m)
cell_less res shape.Bytes size shaped n m lt = (refl, lt)
cell_less res (shape.Mips mips layers) size shaped n m lt =
    let d_n : n / layers * layers + n % layers ≡ n = div-add-mod' n layers in
    let d_m : m / layers * layers + m % layers ≡ m = div-add-mod' m layers in
    let r_m : m % layers < layers = mod-lt m shaped.0 in (
      refl,
      elim (less_or_same (n / layers) (m / layers)) [
        | inl less ↦ inl less
        | inr w ↦ elim w [
          | inl same ↦ inr (
            same,
            (let e : n / layers * layers ≡ m / layers * layers =
                ap (λ (k : ℕ). k * layers) same in omega (arith, e, d_n, d_m, lt)),
          )
          | inr more ↦ absurd (
              let wide : (m / layers + 1) * layers ≤ n / layers * layers =
              mul-le-mul_right layers (omega (arith, more)) in
              let e : (m / layers + 1) * layers ≡ m / layers * layers + layers = grind arith in
              omega (arith, wide, e, d_n, d_m, r_m, lt))
        ]
      ],
    )

-- a cell of an area of the line has a number
pub cell_lies : (res : ℕ) (s : Shape) (size : ℕ) (area : Area) (cell : Cell) → IsShaped s size
    → LiesOn res s size area → IsTrue (covers area cell) → (n : ℕ) × (n < size) × (cell ≡ cell_on res s n)
cell_lies res shape.Bytes size (Bytes r span) (Byte q at) shaped lies covered =
    let w = both (r == q) (nat_le span.start at && nat_lt at span.end) covered in
    let high : suc at ≤ span.end = leb-true (suc at) span.end
    (both (nat_le span.start at) (nat_lt at span.end) w.1).1 in
    let end = lies.2 in
    (at, omega (arith, high, end), ap (λ (k : ℕ). Byte k at) (sym (lies.0 ∙ eqb-true r q w.0)))
cell_lies res (shape.Mips mips layers) size (Image r box) (Texel q mip layer) shaped lies covered =
    let w = both (r == q) (is_inside box mip layer) covered in
    let v = both (nat_le box.mip mip && nat_lt mip (box.mip + box.mips))
    (nat_le box.layer layer && nat_lt layer (box.layer + box.layers)) w.1 in
    let mip_to : suc mip ≤ box.mip + box.mips = leb-true (suc mip) (box.mip + box.mips)
    (both (nat_le box.mip mip) (nat_lt mip (box.mip + box.mips)) v.0).1 in
    let layer_to : suc layer ≤ box.layer + box.layers =
    leb-true (suc layer) (box.layer + box.layers)
    (both (nat_le box.layer layer) (nat_lt layer (box.layer + box.layers)) v.1).1 in
    let in_mips : box.mip + box.mips ≤ mips = lies.2 in
    let in_layers : box.layer + box.layers ≤ layers = lies.4 in
    let room : mips * layers ≤ size = shaped.1.1.1.1 in
    let below = first_below mips layers size mip 1 layer 1 room (omega arith)
    (omega (arith, mip_to, in_mips)) (omega arith) (omega (arith, layer_to, in_layers)) in
    let at = in_mip_at mip layers (mip * layers + layer) (omega arith) (omega (arith, layer_to, in_layers)) in
    let mip_is : (mip * layers + layer) / layers ≡ mip = at.0 in
    let layer_is : (mip * layers + layer) % layers ≡ layer = (let e = at.1 in omega (arith, e)) in (
      mip * layers + layer,
      below,
      ap (λ (k : ℕ). Texel k mip layer) (sym (lies.0 ∙ eqb-true r q w.0))
          ∙ ap (λ (p : ℕ × ℕ). Texel res p.0 p.1) (let e : (mip, layer)
          ≡ ((mip * layers + layer) / layers, (mip * layers + layer) % layers) = cc in e),
    )
cell_lies res shape.Bytes size (Bytes r span) (Texel q mip layer) shaped lies covered =
    absurd (let h : false ≡ true = covered in cc)
cell_lies res shape.Bytes size (Image r box) cell shaped lies covered = absurd lies
cell_lies res (shape.Mips mips layers) size (Bytes r span) cell shaped lies covered = absurd lies
cell_lies res (shape.Mips mips layers) size (Image r box) (Byte q at) shaped lies covered =
    absurd (let h : false ≡ true = covered in cc)
