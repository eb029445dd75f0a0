-- The area of a span of a line: its cells, one after another.
use Rattle.std.proofs.Common.{ℕ, zero, suc, ◌≡◌, ◌<◌, ◌≤◌, ◌+◌, ◌-◌, ◌*◌, ◌/◌, ◌%◌, List, ◌∷◌, map, arith}
use Rattle.std.proofs.Common.{refl, sym, ◌∙◌, ap, subst}
use Rattle.std.specs.List.{range_with_len}
use Rattle.std.proofs.lemmas.List.{append-nil}
use Rattle.std.proofs.lemmas.Nat.{div-add-mod', div-mul-add}
use Rattle.sv_model.specs.Cells.{cells_of}
use Rattle.sv_model.specs.declared.work.Cell.TheVariants.{Texel}
use Rattle.sv_range.specs.declared.span.Span.{Span}
use Rattle.sv_space.specs.Lines.{IsInMip, cell_on, area_on}
use Rattle.sv_space.specs.declared.shape.Shape.{Shape}
use Rattle.sv_space.specs.declared.shape.Shape.TheVariants as shape

-- the number of a cell tells its mip and its layer
pub in_mip_at : (mip layers n : ℕ) → mip * layers ≤ n → n < mip * layers + layers → (n / layers ≡ mip)
    × (n % layers ≡ n - mip * layers)
in_mip_at mip layers n low high =
    let s : mip * layers + (n - mip * layers) ≡ n = omega (arith, low) in
    let d : n / layers ≡ mip = subst (λ (k : ℕ). k / layers ≡ mip) s
    (div-mul-add mip layers (n - mip * layers) (omega (arith, low, high))) in
    let e : n / layers * layers + n % layers ≡ n = div-add-mod' n layers in
    let f : mip * layers + n % layers ≡ n = subst (λ (k : ℕ). k * layers + n % layers ≡ n) d e in
    (d, omega (arith, f))

-- two maps over ranges of one length that give the same
shifted : {A : Type 0} (f g : ℕ → A) (k a b : ℕ) → ((i : ℕ) → i < k → f (a + i) ≡ g (b + i))
    → map f (range_with_len a k) ≡ map g (range_with_len b k)
shifted f g zero a b same = refl
shifted {A} f g (suc k) a b same =
    let first : f a ≡ g b = (let e : a + 0 ≡ a = omega arith in let h : b + 0 ≡ b = omega arith in
    subst (λ (n : ℕ). f n ≡ g b) e (subst (λ (n : ℕ). f (a + 0) ≡ g n) h (same 0 (omega arith)))) in
    let rest : map f (range_with_len (a + 1) k) ≡ map g (range_with_len (b + 1) k) =
    shifted f g k (a + 1) (b + 1) (λ i lt.
    let e : a + suc i ≡ a + 1 + i = omega arith in
    let h : b + suc i ≡ b + 1 + i = omega arith in
    subst (λ (n : ℕ). f n ≡ g (b + 1 + i)) e (subst (λ (n : ℕ). f (a + suc i) ≡ g n) h
    (same (suc i) (omega arith)))) in
    ap (λ (p : A × List A). p.0 ∷ p.1) (let q : (f a, map f (range_with_len (a + 1) k))
    ≡ (g b, map g (range_with_len (b + 1) k)) = cc in q)

-- the cells of the area are those of the span, in order
pub area_cells : (res : ℕ) (s : Shape) (span : Span) → span.start < span.end → IsInMip s span
    → cells_of (area_on res s span) ≡ map (cell_on res s)
    (range_with_len span.start (span.end - span.start))
unfolding cells_of
area_cells res shape.Bytes span order in_mip = refl
area_cells res (shape.Mips mips layers) span order (mip, low, high) =
    append-nil (map (λ l. Texel res (span.start / layers) l)
    (range_with_len (span.start % layers) (span.end - span.start)))
    ∙ shifted (λ l. Texel res (span.start / layers) l) (λ n. Texel res (n / layers) (n % layers))
    (span.end - span.start) (span.start % layers) span.start
    (λ i lt.
    let at_start = in_mip_at mip layers span.start low (omega (arith, order, high)) in
    let at_i = in_mip_at mip layers (span.start + i) (omega (arith, low)) (omega (arith, lt, high)) in
    let layer : span.start % layers + i ≡ (span.start + i) % layers =
    (let a = at_start.1 in let b = at_i.1 in omega (arith, a, b, low)) in
    let same_mip : span.start / layers ≡ (span.start + i) / layers = at_start.0 ∙ sym at_i.0 in
    ap (λ (p : ℕ × ℕ). Texel res p.0 p.1) (let q : (span.start / layers, span.start % layers + i)
    ≡ ((span.start + i) / layers, (span.start + i) % layers) = cc in q))
