-- Lists with one item more.
use Rattle.std.proofs.Common.{ℕ, ◌≡◌, ◌+◌, ◌<◌, ◌∙◌, ◌++◌, List, [], ◌∷◌, add-one, ap, append-nil, arith}
use Rattle.std.proofs.Common.{get_or, length, map, sym, take}
use Rattle.std.specs.List.{enumerate_from, flat_map}
use Rattle.std.proofs.Math.ListN.{length-take}
use Rattle.std.proofs.Math.Seq.{take-suc}
use Rattle.std.proofs.lemmas.Grind.{flat_map-append}
use Rattle.std.proofs.lemmas.List.{map-append}
use Rattle.sv_model.proofs.NoteGrowth.{enumerated}

next_enumerated : {X : Type 0} (xs : List X) (i : ℕ) (d : X) → i < length xs
    → enumerate_from 0 (take (i + 1) xs) ≡ enumerate_from 0 (take i xs) ++ (i, get_or xs i d) ∷ []
next_enumerated {X} xs i d lt =
    let one : take (i + 1) xs ≡ take i xs ++ get_or xs i d ∷ [] = rw add-one (take-suc xs i d lt) in
    let long : 0 + length (take i xs) ≡ i = (let l = length-take i xs in omega (arith, l, lt)) in
    ap (enumerate_from 0) one ∙ enumerated 0 (take i xs) (get_or xs i d ∷ [])
    ∙ ap (λ (n : ℕ). enumerate_from 0 (take i xs) ++ enumerate_from n (get_or xs i d ∷ [])) long

pub next_mapped : {X Y : Type 0} (f : ℕ × X → Y) (xs : List X) (i : ℕ) (d : X) → i < length xs
    → map f (enumerate_from 0 (take i xs)) ++ f (i, get_or xs i d) ∷ []
    ≡ map f (enumerate_from 0 (take (i + 1) xs))
next_mapped f xs i d lt = sym (ap (map f) (next_enumerated xs i d lt)
    ∙ map-append f (enumerate_from 0 (take i xs)) ((i, get_or xs i d) ∷ []))

pub next_group : {X Y : Type 0} (f : ℕ × X → List Y) (xs : List X) (i : ℕ) (d : X) → i < length xs
    → flat_map f (enumerate_from 0 (take i xs)) ++ f (i, get_or xs i d)
    ≡ flat_map f (enumerate_from 0 (take (i + 1) xs))
next_group f xs i d lt = sym (ap (flat_map f) (next_enumerated xs i d lt)
    ∙ flat_map-append f (enumerate_from 0 (take i xs)) ((i, get_or xs i d) ∷ [])
    ∙ ap (λ ys. flat_map f (enumerate_from 0 (take i xs)) ++ ys) (append-nil (f (i, get_or xs i d))))

pub next_access : {X Y : Type 0} (f : X → Y) (xs : List X) (i : ℕ) (d : X) → i < length xs
    → map f (take i xs) ++ f (get_or xs i d) ∷ [] ≡ map f (take (i + 1) xs)
next_access f xs i d lt = sym (let one : take (i + 1) xs ≡ take i xs ++ get_or xs i d ∷ [] =
    rw add-one (take-suc xs i d lt) in ap (map f) one ∙ map-append f (take i xs) (get_or xs i d ∷ []))
