-- The first line that declares a pass, and its place.
use Rattle.std.proofs.Common.{ℕ, zero, suc, ◌+◌, ◌≡◌, ◌<◌, ◌≤◌, ◌==◌, Bool, true, false, List, [], ◌∷◌}
use Rattle.std.proofs.Common.{◌++◌, ◌⊎◌, inl, inr, Option, Some, None, length, take, drop, get_or, refl}
use Rattle.std.proofs.Common.{sym, ◌∙◌, ap, arith, subst}
use Rattle.std.specs.Prelude.{filter_map, slice_get, option_map, unwrap_or, if◌then◌else◌}
use Rattle.std.specs.List.{cons_option}
use Rattle.std.specs.Option.{option_or}
use Rattle.std.proofs.lemmas.List.{length-take-le, take_all, take_more}
use Rattle.sv_model.specs.declared.line.Line.{Line}
use Rattle.sv_model.specs.declared.line.Line.TheVariants as line
use Rattle.sv_model.specs.Declarations.{Pass, empty_pass, said, says_pass}
use Rattle.sv_pass.specs.Begun.{pass_in}
use Rattle.sv_record.specs.Places.{declared_in, first_place, gives}

-- ---- one more line

later : (o : Option ℕ) (b : Option ℕ) → option_map suc (option_or o b)
    ≡ option_or (option_map suc o) (option_map suc b)
later None b = refl
later (Some x) b = refl

assoc : (a b c : Option ℕ) → option_or a (option_or b c) ≡ option_or (option_or a b) c
assoc None b c = refl
assoc (Some x) b c = refl

next_place : (n : ℕ) (o : Option ℕ) (k : ℕ) → option_map suc (gives n o k) ≡ gives n o (suc k)
next_place n None k = refl
next_place n (Some p) k = by_test (p == n) where
  by_test : (b : Bool) → option_map suc (if b then Some k else None) ≡ (if b then Some (suc k) else None)
  by_test true = refl
  by_test false = refl

or_none : (o : Option ℕ) → option_or o None ≡ o
or_none None = refl
or_none (Some x) = refl

pub place_more : (n : ℕ) (lines : List Line) (x : Line) → first_place n (lines ++ x ∷ [])
    ≡ option_or (first_place n lines) (gives n (declared_in x) (length lines))
unfolding first_place
place_more n [] x = or_none (gives n (declared_in x) 0)
place_more n (l ∷ lines) x =
    ap (λ (o : Option ℕ). option_or (gives n (declared_in l) 0) (option_map suc o)) (place_more n lines x)
    ∙ ap (option_or (gives n (declared_in l) 0)) (later (first_place n lines)
    (gives n (declared_in x) (length lines))
    ∙ ap (option_or (option_map suc (first_place n lines))) (next_place n (declared_in x) (length lines)))
    ∙ assoc (gives n (declared_in l) 0) (option_map suc (first_place n lines))
    (gives n (declared_in x) (suc (length lines)))

pub no_place : (n : ℕ) → first_place n [] ≡ None
unfolding first_place
no_place n = refl

-- ---- what stands there

-- a line declares the pass, and says what it is, or does neither
line_says : (n : ℕ) (l : Line) → ((says_pass n l ≡ None) × (gives n (declared_in l) 0 ≡ None))
    ⊎ ((p : Pass) × (says_pass n l ≡ Some p) × (gives n (declared_in l) 0 ≡ Some 0))
line_says n (line.RenderPass pass attachments subpasses deps) =
    by_test (pass == n) (record { attachments = attachments; subpasses = subpasses; deps = deps }) where
      found_by : Bool → Pass → Option Pass
      found_by b p = if b then Some p else None

      placed_by : Bool → Option ℕ
      placed_by b = if b then Some 0 else None

      by_test : (b : Bool) (p : Pass) → ((found_by b p ≡ None) × (placed_by b ≡ None))
          ⊎ ((q : Pass) × (found_by b p ≡ Some q) × (placed_by b ≡ Some 0))
      by_test true p = inr (p, refl, refl)
      by_test false p = inl (refl, refl)
line_says n other = inl (refl, refl)

mapped : (o : Option ℕ) (i : ℕ) → option_map suc o ≡ Some i → (j : ℕ) × (o ≡ Some j) × (i ≡ suc j)
mapped None i e = absurd (let h : None ≡ Some i = e in cc)
mapped (Some j) i e = (j, refl, (let h : suc j ≡ i = cc in sym h))

abbrev SaysThere : ℕ → List Line → ℕ → Type 0
SaysThere n lines i = (i < length lines) × (said (says_pass n) (take 1 (drop i lines))
    ≡ said (says_pass n) lines)

pub said_there : (n : ℕ) (lines : List Line) (i : ℕ) → first_place n lines ≡ Some i → SaysThere n lines i
unfolding first_place
said_there n [] i e = absurd (let h : None ≡ Some i = e in cc)
said_there n (l ∷ lines) i e = elim (line_says n l) [
  | inl q ↦
      let m = mapped (first_place n lines) i (ap (λ (o : Option ℕ). option_or o
      (option_map suc (first_place n lines))) (sym q.1) ∙ e) in
      let rest = said_there n lines m.0 m.1 in
      subst (SaysThere n (l ∷ lines)) (sym m.2) (
        omega (arith, rest.0),
        rest.1
            ∙ ap (λ (o : Option Pass). slice_get (cons_option o (filter_map (says_pass n) lines)) 0)
            (sym q.0),
      )
  | inr q ↦
      let zero_is : 0 ≡ i = (let h : Some 0 ≡ Some i =
      ap (λ (o : Option ℕ). option_or o (option_map suc (first_place n lines))) (sym q.2) ∙ e in cc) in
      subst (SaysThere n (l ∷ lines)) zero_is (
        omega arith,
        ap (λ (o : Option Pass). slice_get (cons_option o []) 0) q.1
            ∙ ap (λ (o : Option Pass). slice_get (cons_option o (filter_map (says_pass n) lines)) 0)
            (sym q.1),
      )
]

pub said_nowhere : (n : ℕ) (lines : List Line) → first_place n lines ≡ None → said (says_pass n) lines ≡ None
unfolding first_place
said_nowhere n [] e = refl
said_nowhere n (l ∷ lines) e = elim (line_says n l) [
  | inl q ↦ ap (λ (o : Option Pass). slice_get (cons_option o (filter_map (says_pass n) lines)) 0) q.0
      ∙ said_nowhere n lines (unmapped (first_place n lines)
      (ap (λ (o : Option ℕ). option_or o (option_map suc (first_place n lines))) (sym q.1) ∙ e))
  | inr q ↦ absurd (let h : Some 0 ≡ None = ap (λ (o : Option ℕ). option_or o
      (option_map suc (first_place n lines))) (sym q.2) ∙ e in cc)
] where
  unmapped : (o : Option ℕ) → option_map suc o ≡ None → o ≡ None
  unmapped None e = refl
  unmapped (Some j) e = absurd (let h : Some (suc j) ≡ None = e in cc)

-- the table finds the line
pub found_at : (n i : ℕ) (lines found : List Line) → first_place n lines ≡ Some i → found
    ≡ take 1 (drop i lines) → pass_in found n ≡ pass_in lines n
found_at n i lines found e is = ap (λ (ls : List Line). pass_in ls n) is
    ∙ ap (λ (o : Option Pass). unwrap_or o empty_pass) (said_there n lines i e).1

pub found_nowhere : (n : ℕ) (lines found : List Line) → first_place n lines ≡ None → found ≡ []
    → pass_in found n ≡ pass_in lines n
found_nowhere n lines found e is = ap (λ (ls : List Line). pass_in ls n) is
    ∙ ap (λ (o : Option Pass). unwrap_or o empty_pass) (sym (said_nowhere n lines e))

-- the table with one more line
pub places_more : (n i : ℕ) (lines : List Line) (x : Line) (old new : Option ℕ) → i < length lines → old
    ≡ first_place n (take i lines) → x ≡ get_or lines i x
    → new ≡ option_or old (gives n (declared_in x) i) → new ≡ first_place n (take (i + 1) lines)
places_more n i lines x old new lt is at made =
    made ∙ (λ j. option_or (is j) (gives n (declared_in x)
    (sym (length-take-le i lines (omega (arith, lt))) j)))
    ∙ sym (place_more n (take i lines) x)
    ∙ ap (λ (y : Line). first_place n (take i lines ++ y ∷ [])) at
    ∙ ap (first_place n) (sym (take_more lines i x lt))

pub places_all : (n i : ℕ) (lines : List Line) (o : Option ℕ) → length lines ≤ i → o
    ≡ first_place n (take i lines) → o ≡ first_place n lines
places_all n i lines o le is = is ∙ ap (first_place n) (take_all i lines le)
