-- The first row of a table that has a text.
use Rattle.std.proofs.Common.{ℕ, zero, suc, ◌≡◌, ◌<◌, ◌≤◌, ◌+◌, Bool, true, false, cond, List, [], ◌∷◌}
use Rattle.std.proofs.Common.{◌++◌, length, get_or, take, map, Some, None, arith, refl, sym, ap, ◌∙◌}
use Rattle.std.specs.List.{find}
use Rattle.std.specs.Option.{option_map, option_or}
use Rattle.std.specs.Str.{bytes_eq}
use Rattle.std.proofs.lemmas.List.{take_more, take_all, get_or-map, length-map}
use Rattle.std.proofs.lemmas.List.Folds.{find-append}
use Rattle.sv_mask.specs.Names.{named, text_at}

-- after one more row that fails none has passed
find-more : {X : Type 0} (test : X → Bool) (xs : List X) (i : ℕ) (d : X) → i < length xs
    → find test (take i xs) ≡ None → test (get_or xs i d) ≡ false → find test (take (i + 1) xs) ≡ None
find-more test xs i d inside none fails = rw (take_more xs i d inside)
    (rw (find-append test (take i xs) (get_or xs i d ∷ [])) (rw none (rw fails refl)))

-- the first row that passes is found
find-at : {X : Type 0} (test : X → Bool) (xs : List X) (i : ℕ) (d : X) → i < length xs
    → find test (take i xs) ≡ None → test (get_or xs i d) ≡ true → find test xs ≡ Some (get_or xs i d)
find-at test [] i d inside none passes = absurd (omega arith)
find-at test (x ∷ xs) zero d inside none passes = rw passes refl
find-at test (x ∷ xs) (suc i) d inside none passes =
    elim (test x) as (λ b. cond b (Some x) (find test (take i xs)) ≡ None → cond b (Some x) (find test xs)
    ≡ Some (get_or xs i d))
    [ true ↦ λ e. cc | false ↦ λ e. find-at test xs i d (omega arith) e passes ]
    none

-- none of the first i rows has the text
abbrev pub IsPassed : {A : Type 0} → List (List ℕ × A) → List ℕ → ℕ → Type 0
IsPassed {A = A} rows text i = let has_text : List ℕ × A → Bool = λ row. bytes_eq text row.0 in
    find has_text (take i rows) ≡ None

item_at : {R B : Type 0} (plain : R → B) (rows : List R) (i : ℕ) (item : R) → i < length rows → item
    ≡ get_or rows i item → get_or (map plain rows) i (plain item) ≡ plain item
item_at plain rows i item inside is = get_or-map plain rows i item (plain item) inside ∙ ap plain (sym is)

-- the row at i does not have the text
pub passed-more : {R A : Type 0} (plain : R → List ℕ × A) (rows : List R) (text : List ℕ) (i : ℕ) (item : R)
    → i < length rows → item ≡ get_or rows i item → bytes_eq text (plain item).0 ≡ false
    → IsPassed (map plain rows) text i → IsPassed (map plain rows) text (i + 1)
passed-more plain rows text i item inside is fails none =
    find-more _ (map plain rows) i (plain item) (rw (length-map rows plain) inside) none
    (rw (item_at plain rows i item inside is) fails)

-- the row at i is the first that has the text
pub passed-at : {R A : Type 0} (plain : R → List ℕ × A) (rows : List R) (text : List ℕ) (i : ℕ) (item : R)
    → i < length rows → item ≡ get_or rows i item → bytes_eq text (plain item).0 ≡ true
    → IsPassed (map plain rows) text i → named (map plain rows) text ≡ Some (plain item).1
passed-at plain rows text i item inside is passes none =
    let found = find-at _ (map plain rows) i (plain item) (rw (length-map rows plain) inside) none
    (rw (item_at plain rows i item inside is) passes) in
    rw found (ap (λ row. Some row.1) (item_at plain rows i item inside is))

-- no row has the text
pub passed-all : {R A : Type 0} (plain : R → List ℕ × A) (rows : List R) (text : List ℕ) (i : ℕ)
    → length rows ≤ i → IsPassed (map plain rows) text i → named (map plain rows) text ≡ None
passed-all plain rows text i all none =
    let every = take_all i (map plain rows) (rw (length-map rows plain) all) in
    let found : find (λ row. bytes_eq text row.0) (map plain rows) ≡ None = rw every at none in
    rw found refl

-- a table in two parts
pub named-append : {A : Type 0} (xs ys : List (List ℕ × A)) (text : List ℕ) → named (xs ++ ys) text
    ≡ option_or (named xs text) (named ys text)
named-append [] ys text = refl
named-append (x ∷ xs) ys text =
    elim (bytes_eq text x.0) as (λ b. option_map (λ row. row.1)
    (cond b (Some x) (find (λ row. bytes_eq text row.0) (xs ++ ys)))
    ≡ option_or (option_map (λ row. row.1) (cond b (Some x) (find (λ row. bytes_eq text row.0) xs)))
    (named ys text))
    [ true ↦ refl | false ↦ named-append xs ys text ]

-- a table of values that are made of those of another
pub named-map : {A B : Type 0} (f : A → B) (xs : List (List ℕ × A)) (text : List ℕ)
    → named (map (λ row. (row.0, f row.1)) xs) text ≡ option_map f (named xs text)
named-map f [] text = refl
named-map {A = A} {B = B} f (x ∷ xs) text =
    let at : Bool → Type 0 = λ b. option_map (λ (row : List ℕ × B). row.1)
    (cond b (Some (x.0, f x.1)) (find (λ row. bytes_eq text row.0) (map (λ row. (row.0, f row.1)) xs)))
    ≡ option_map f (option_map (λ (row : List ℕ × A). row.1)
    (cond b (Some x) (find (λ row. bytes_eq text row.0) xs))) in
    elim (bytes_eq text x.0) as at [ true ↦ refl | false ↦ named-map f xs text ]

-- the text in the row at a place
pub text_at-plain : {R A : Type 0} (plain : R → List ℕ × A) (rows : List R) (i : ℕ) (d : R) → i
    < length rows → (plain (get_or rows i d)).0 ≡ text_at (map plain rows) i
text_at-plain {R = R} {A = A} plain rows i d inside =
    let text : List ℕ × A → List ℕ = λ row. row.0 in
    let there = get_or-map text (map plain rows) i (plain d) [] (rw (length-map rows plain) inside) in
    sym (there ∙ ap text (get_or-map plain rows i d (plain d) inside))
