-- The last piece.
use Rattle.std.proofs.Common.{◌≡◌, ℕ, zero, suc, ◌-◌, ◌==◌, true, List, [], ◌∷◌, length, get_or, take, map}
use Rattle.std.proofs.Common.{Bor, refl, ◌∙◌, ap}
use Rattle.std.proofs.lemmas.List.{length-map, take-map}
use Rattle.sv_trace.specs.Text.{ends_empty}

get_or_texts : (ps : List (Bor (List ℕ))) (i : ℕ) (d : Bor (List ℕ)) → get_or (map (λ x. x.now) ps) i d.now
    ≡ (get_or ps i d).now
get_or_texts [] i d = refl
get_or_texts (p ∷ ps) zero d = refl
get_or_texts (p ∷ ps) (suc i) d = get_or_texts ps i d

pub length_texts : (ps : List (Bor (List ℕ))) → length (map (λ (x : Bor (List ℕ)). x.now) ps) ≡ length ps
length_texts ps = length-map ps (λ x. x.now)

pub take_texts : (n : ℕ) (ps : List (Bor (List ℕ))) → take n (map (λ (x : Bor (List ℕ)). x.now) ps)
    ≡ map (λ (x : Bor (List ℕ)). x.now) (take n ps)
take_texts n ps = take-map (λ x. x.now) n ps

pub last_is : (ps : List (Bor (List ℕ))) → ends_empty (map (λ (x : Bor (List ℕ)). x.now) ps)
    ≡ (length (get_or ps (length ps - 1) (record { ref_ptr = (0, 0); now = [] })).now == 0)
unfolding ends_empty
last_is ps =
    ap (λ n. length (get_or (map (λ (x : Bor (List ℕ)). x.now) ps) (n - 1) []) == 0) (length_texts ps)
    ∙ ap (λ xs. length xs == 0) (get_or_texts ps (length ps - 1) (record { ref_ptr = (0, 0); now = [] }))

pub last_none : (ps : List (Bor (List ℕ))) → length ps ≡ 0
    → ends_empty (map (λ (x : Bor (List ℕ)). x.now) ps) ≡ true
unfolding ends_empty
last_none [] e = refl
last_none (p ∷ ps) e = cc
