-- The numbers of the attached listeners.
use Rattle.std.proofs.Common.{ap, ℕ, ◌≡◌, ◌<◌, ◌+◌, suc, List, [], ◌∷◌, arith, sym, ◌∙◌, get_or, length}
use Rattle.std.proofs.Common.{map, refl, slice_get, Some, subst, take, drop, ◌++◌}
use Rattle.std.proofs.lemmas.List.{drop-map, get_or-map, length-map, map-append, take-map}
use Rattle.std.proofs.lemmas.Option.{slice_get-get_or}
use Rattle.std.proofs.lemmas.List.Elements.{All-append, All-drop, All-push, All-take, All-weaker}
use Rattle.std.proofs.lemmas.List.Quantifiers.{all_pairs_push, all_pairs_remove}
use Rattle.std.specs.List.{remove}
use Rattle.sv_hub.specs.Attachments.{AreNumbered, Attached}

-- one more listener takes the next number
pub numbered_more : (next : ℕ) (numbers : List ℕ) → AreNumbered next numbers
    → AreNumbered (next + 1) (numbers ++ next ∷ [])
numbered_more next numbers h = record {
  below = All-push (λ n. n < next + 1) numbers next
      (All-weaker (λ n. n < next) (λ n. n < next + 1) (λ n lt. omega arith) numbers h.below) (omega arith);
  rise = all_pairs_push (λ a b. a < b) numbers next h.rise (λ k d within. h.below k d within);
}

-- the numbers without one of them
pub numbered_without : (next : ℕ) (numbers : List ℕ) (i : ℕ) → i < length numbers → AreNumbered next numbers
    → AreNumbered next (remove numbers i)
numbered_without next numbers i at h = record {
  below = All-append (λ n. n < next) (take i numbers) (drop (suc i) numbers)
      (All-take (λ n. n < next) i numbers h.below) (All-drop (λ n. n < next) (suc i) numbers h.below);
  rise = all_pairs_remove (λ a b. a < b) numbers i at h.rise;
}

-- what is seen of a list without one of its items
pub without_seen : {X Y : Type 0} (f : X → Y) (xs : List X) (i : ℕ) → map f (remove xs i)
    ≡ remove (map f xs) i
without_seen f xs i = map-append f (take i xs) (drop (suc i) xs)
    ∙ (ap (λ ys. ys ++ map f (drop (suc i) xs)) (sym (take-map f i xs))
    ∙ ap (λ ys. take i (map f xs) ++ ys) (sym (drop-map f (suc i) xs)))

-- what is seen of the item in a place
pub seen_there : {X Y : Type 0} (f : X → Y) (xs : List X) (i : ℕ) (x : X) → i < length xs → x
    ≡ get_or xs i x → slice_get (map f xs) i ≡ Some (f x)
seen_there f xs i x at is =
    let within : i < length (map f xs) = subst (λ n. i < n) (sym (length-map xs f)) at in
    slice_get-get_or (map f xs) i (f x) within ∙ ap Some (get_or-map f xs i x (f x) at ∙ ap f (sym is))

-- a listener by the number that it has
pub by_number : (a : Attached) (number : ℕ) → a.number ≡ number → a
    ≡ record { number = number; heard = a.heard; spare = a.spare }
by_number a number is = ap (λ n. record { number = n; heard = a.heard; spare = a.spare }) is

-- the numbers of what is seen
pub numbers_seen : {X : Type 0} (see : X → Attached) (xs : List X)
    → map (λ (a : Attached). a.number) (map see xs) ≡ map (λ x. (see x).number) xs
numbers_seen see [] = refl
numbers_seen see (x ∷ xs) = ap (λ ns. (see x).number ∷ ns) (numbers_seen see xs)

pub numbered_seen : {X : Type 0} (see : X → Attached) (next : ℕ) (xs : List X)
    → AreNumbered next (map (λ x. (see x).number) xs)
    → AreNumbered next (map (λ (a : Attached). a.number) (map see xs))
numbered_seen see next xs h = subst (AreNumbered next) (sym (numbers_seen see xs)) h
