-- Areas that are joined, and lists with one more at the end.
use Rattle.std.proofs.Common.{◌≡◌, ℕ, zero, suc, ◌+◌, ◌-◌, ◌<◌, List, [], ◌∷◌, ◌++◌, map, refl, sym, ◌∙◌}
use Rattle.std.proofs.Common.{ap, subst, arith}
use Rattle.std.specs.List.{All, flat_map, range_with_len}
use Rattle.std.proofs.lemmas.List.{map-append, append-nil}
use Rattle.std.proofs.lemmas.List.Elements.{All-cons, All-nil, All-head, All-tail}
use Rattle.sv_model.specs.Cells.{cells_of}
use Rattle.sv_model.specs.Reports.{Follows, IsRun}
use Rattle.sv_model.specs.declared.work.Area.{Area}
use Rattle.sv_model.specs.declared.work.Area.TheVariants.{Bytes, Image}
use Rattle.sv_model.specs.declared.work.Cell.TheVariants.{Byte, Texel}
use Rattle.sv_model.proofs.Lists.{range_split, span_split}
use Rattle.sv_runs.specs.Joined.{joined_area}

-- the cells of an image's box of one mip
row : (res mip n layer layers : ℕ) → n ≡ 1 → flat_map
    (λ m. map (λ l. Texel res m l) (range_with_len layer layers)) (range_with_len mip n)
    ≡ map (λ l. Texel res mip l) (range_with_len layer layers)
row res mip n layer layers e = rw e (append-nil (map (λ l. Texel res mip l) (range_with_len layer layers)))

-- the cells of two areas of which the second begins where the first one ends
pub cells_joined : (a b : Area) → IsRun a → IsRun b → Follows a b → cells_of (joined_area a b) ≡ cells_of a
    ++ cells_of b
unfolding cells_of
cells_joined (Bytes res span) (Bytes r next) h k f =
    let l = subst (λ (n : ℕ). n < next.end) (sym f.1) k in
    let e = span_split span.start span.end next.end (omega (arith, h)) (omega (arith, l)) in
    ap (map (λ at. Byte res at)) e
    ∙ map-append (λ at. Byte res at) (range_with_len span.start (span.end - span.start))
    (range_with_len span.end (next.end - span.end))
    ∙ ap (λ (p : ℕ × ℕ). map (λ at. Byte res at) (range_with_len span.start (span.end - span.start))
    ++ map (λ at. Byte p.0 at) (range_with_len p.1 (next.end - p.1)))
    (let q : (res, span.end) ≡ (r, next.start) = cc in q)
cells_joined (Image res box) (Image r next) h k f =
    row res box.mip box.mips box.layer (box.layers + next.layers) h.0
    ∙ ap (map (λ l. Texel res box.mip l)) (range_split box.layer box.layers next.layers)
    ∙ map-append (λ l. Texel res box.mip l) (range_with_len box.layer box.layers)
    (range_with_len (box.layer + box.layers) next.layers)
    ∙ ap (λ (p : ℕ × ℕ × ℕ). map (λ l. Texel res box.mip l) (range_with_len box.layer box.layers)
    ++ map (λ l. Texel p.0 p.1 l) (range_with_len p.2 next.layers))
    (let q : (res, box.mip, box.layer + box.layers) ≡ (r, next.mip, next.layer) = cc in q)
    ∙ sym (
    ap (λ xs. xs ++ cells_of (Image r next)) (row res box.mip box.mips box.layer box.layers h.0)
    ∙ ap (λ ys. map (λ l. Texel res box.mip l) (range_with_len box.layer box.layers) ++ ys)
    (row r next.mip next.mips next.layer next.layers k.0))
cells_joined (Bytes res span) (Image r next) h k f = absurd f
cells_joined (Image res box) (Bytes r next) h k f = absurd f

pub run_joined : (a b : Area) → IsRun a → IsRun b → Follows a b → IsRun (joined_area a b)
run_joined (Bytes q t) (Bytes r u) h k f = let e = f.1 in omega arith
run_joined (Image q t) (Image r u) h k f = (h.0, omega (arith, h.1))
run_joined (Bytes q t) (Image r u) h k f = absurd f
run_joined (Image q t) (Bytes r u) h k f = absurd f

pub follows_back : (x a b : Area) → Follows x (joined_area a b) → Follows x a
follows_back (Bytes p s) (Bytes q t) (Bytes r u) f = f
follows_back (Bytes p s) (Bytes q t) (Image r u) f = f
follows_back (Bytes p s) (Image q t) (Bytes r u) f = f
follows_back (Bytes p s) (Image q t) (Image r u) f = f
follows_back (Image p s) (Bytes q t) (Bytes r u) f = f
follows_back (Image p s) (Bytes q t) (Image r u) f = f
follows_back (Image p s) (Image q t) (Bytes r u) f = f
follows_back (Image p s) (Image q t) (Image r u) f = f

-- what holds of a list with one more holds of each part
pub all_front : {A : Type 0} (P : A → Type 0) (xs : List A) (a : A) → All P (xs ++ a ∷ []) → All P xs
all_front P [] a h = All-nil P
all_front P (x ∷ xs) a h = All-cons P x xs (All-head P x (xs ++ a ∷ []) h)
    (all_front P xs a (All-tail P x (xs ++ a ∷ []) h))

pub all_last : {A : Type 0} (P : A → Type 0) (xs : List A) (a : A) → All P (xs ++ a ∷ []) → P a
all_last P [] a h = All-head P a [] h
all_last P (x ∷ xs) a h = all_last P xs a (All-tail P x (xs ++ a ∷ []) h)
