-- One piece after another.
use Rattle.std.proofs.Common.{◌≡◌, ℕ, zero, suc, ◌+◌, ◌-◌, ◌≤◌, List, [], ◌∷◌, ◌++◌, length, take, drop}
use Rattle.std.proofs.Common.{Option, subst, refl, sym, ◌∙◌, ap, arith, zero-add}
use Rattle.std.proofs.lemmas.List.{take_rest, take-append-drop, take_at, length-take-le}
use Rattle.std.specs.Io.KnownBytes.{Appends}
use Rattle.std.proofs.KnownBytes.{Appends-trans}

take_none : (n : ℕ) → take {A = ℕ} n [] ≡ []
take_none zero = refl
take_none (suc n) = refl

pub take_pieces : (d n : ℕ) (bs : List ℕ) → take (d + n) bs ≡ take d bs ++ take n (drop d bs)
take_pieces zero n bs = ap (λ k. take k bs) (zero-add n)
take_pieces (suc d) n [] = take_none (suc d + n) ∙ sym (take_none n)
take_pieces (suc d) n (b ∷ bs) =
    let e : suc d + n ≡ suc (d + n) = omega arith in
    ap (λ k. take k (b ∷ bs)) e ∙ ap (λ xs. b ∷ xs) (take_pieces d n bs)

pub written_more : (a b c : Option (List ℕ)) (bs : List ℕ) (d n : ℕ) → Appends a b (take d bs)
    → Appends b c (take n (take (length bs - d) (drop d bs))) → Appends a c (take (d + n) bs)
written_more a b c bs d n one two =
    subst (λ (xs : List ℕ). Appends a c xs) (sym (take_pieces d n bs))
    (Appends-trans a b c _ _ one (subst (λ (xs : List ℕ). Appends b c (take n xs)) (take_rest bs d) two))

-- what a read gives of what is left
pub gives : (left new buf : List ℕ) (n : ℕ) → n ≤ length left → new ≡ take n left → left
    ≡ take n (new ++ drop n buf) ++ drop n left
gives left new buf n h e =
    let l : length (take n left) ≡ n = length-take-le n left h in
    rw e (rw (take_at (take n left) (drop n buf) n l) (sym (take-append-drop n left)))
