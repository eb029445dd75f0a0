-- The text order with one more event.
use Rattle.std.proofs.Common.{◌≡◌, ℕ, zero, suc, ◌+◌, ◌<◌, ◌≤◌, List, [], ◌∷◌, ◌++◌, Bool, true, false}
use Rattle.std.proofs.Common.{◌||◌, Option, None, Some, refl, sym, ◌∙◌, ap, subst, arith, length, take}
use Rattle.std.proofs.Common.{filter_map, slice_get, IsTrue, inl, inr, append-nil, map-id}
use Rattle.std.specs.List.{cons_option, range_with_len}
use Rattle.std.proofs.lemmas.Bool.{cases_lt, cases_eq}
use Rattle.std.proofs.lemmas.List.{take-append-le}
use Rattle.std.proofs.lemmas.List.Elements.{filter_map-append}
use Rattle.std.proofs.lemmas.List.Folds.{list_any-append}
use Rattle.std.proofs.lemmas.List.FromFn.{map-range_with_len_more}
use Rattle.sv_model.specs.declared.line.Mark.{Mark}
use Rattle.sv_model.specs.declared.line.Trace.{Trace}
use Rattle.sv_model.specs.Holding.{publishes, is_published, are_published}
use Rattle.sv_model.specs.History.{call_of_mark, batches_in}
use Rattle.sv_rules.specs.SoFar.{IsAfterItsRecordings}

-- Lists with one more.

pub get_left : {X : Type 0} (xs : List X) (x : X) (n : ℕ) → n < length xs → slice_get (xs ++ x ∷ []) n
    ≡ slice_get xs n
get_left [] x n lt = absurd (omega (arith, lt))
get_left (y ∷ xs) x zero lt = refl
get_left (y ∷ xs) x (suc n) lt = get_left xs x n (omega (arith, lt))

pub get_last : {X : Type 0} (xs : List X) (x : X) → slice_get (xs ++ x ∷ []) (length xs) ≡ Some x
get_last [] x = refl
get_last (y ∷ xs) x = get_last xs x

get_none : {X : Type 0} (xs : List X) (x : X) (n : ℕ) → length xs < n → slice_get (xs ++ x ∷ []) n ≡ None
get_none [] x zero lt = absurd (omega (arith, lt))
get_none [] x (suc n) lt = refl
get_none (y ∷ xs) x zero lt = absurd (omega (arith, lt))
get_none (y ∷ xs) x (suc n) lt = get_none xs x n (omega (arith, lt))

pub range_more : (n : ℕ) → range_with_len 0 (n + 1) ≡ range_with_len 0 n ++ n ∷ []
range_more n =
    sym (map-id (range_with_len 0 (n + 1)))
    ∙ map-range_with_len_more (λ k. k) 0 n n (omega arith)
    ∙ ap (λ ks. ks ++ n ∷ []) (map-id (range_with_len 0 n))

-- What is published.

pub published_more : (marks : List Mark) (m : Mark) (k : ℕ) → is_published (marks ++ m ∷ []) k
    ≡ (is_published marks k || (publishes k m || false))
published_more marks m k = list_any-append (publishes k) marks (m ∷ [])

or_true : (a b : Bool) → a ≡ true → (a || b) ≡ true
or_true true b e = refl
or_true false b e = absurd (let h : false ≡ true = e in cc)

pub still_published : (marks : List Mark) (m : Mark) (k : ℕ) → is_published marks k ≡ true
    → is_published (marks ++ m ∷ []) k ≡ true
still_published marks m k e = published_more marks m k
    ∙ or_true (is_published marks k) (publishes k m || false) e

-- Each event comes after what it submits, with one more event.

no_batches : (t : Trace) (marks : List Mark) (o : Option Mark) → o ≡ None
    → IsTrue (are_published marks (batches_in (call_of_mark t o)))
no_batches t marks o e = subst (λ (x : Option Mark). IsTrue
    (are_published marks (batches_in (call_of_mark t x)))) (sym e) refl

pub after_more : (t : Trace) (marks : List Mark) (m : Mark)
    → ((n : ℕ) → n < length marks → IsAfterItsRecordings t marks n)
    → IsTrue (are_published marks (batches_in (call_of_mark t (Some m))))
    → (n : ℕ) → IsAfterItsRecordings t (marks ++ m ∷ []) n
after_more t marks m before last n = elim (cases_lt n (length marks)) [
  | inl less ↦ subst (λ (o : Option Mark). IsTrue
      (are_published (take n (marks ++ m ∷ [])) (batches_in (call_of_mark t o))))
      (sym (get_left marks m n less))
      (subst (λ (ms : List Mark). IsTrue (are_published ms
      (batches_in (call_of_mark t (slice_get marks n)))))
      (sym (take-append-le n marks (m ∷ []) (let le : n ≤ length marks = omega (arith, less) in le)))
      (before n less))
  | inr more ↦ elim (cases_eq n (length marks)) [
    | inl same ↦ subst (λ k. IsAfterItsRecordings t (marks ++ m ∷ []) k) (sym same)
        (subst (λ (o : Option Mark). IsTrue (are_published (take (length marks) (marks ++ m ∷ []))
        (batches_in (call_of_mark t o)))) (sym (get_last marks m))
        (subst (λ (ms : List Mark). IsTrue (are_published ms (batches_in (call_of_mark t (Some m)))))
        (sym (take_whole marks m)) last))
    | inr apart ↦ no_batches t (take n (marks ++ m ∷ [])) (slice_get (marks ++ m ∷ []) n)
        (get_none marks m n (past n (length marks) more apart))
  ]
]
  where
    past : (a b : ℕ) → b ≤ a → (a ≡ b → ⊥) → b < a
    past a b le apart = grind (arith, le, apart)

    take_whole : (xs : List Mark) (x : Mark) → take (length xs) (xs ++ x ∷ []) ≡ xs
    take_whole [] x = refl
    take_whole (y ∷ xs) x = ap (λ ys. y ∷ ys) (take_whole xs x)
