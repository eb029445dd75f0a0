-- The place of a number among some recordings, and among one more.
use Rattle.std.proofs.Common.{ℕ, ◌+◌, ◌≡◌, ◌<◌, ◌≤◌, ◌==◌, Bool, true, false, List, [], ◌∷◌, ◌++◌, Option}
use Rattle.std.proofs.Common.{Some, None, length, take, get_or, refl, sym, ◌∙◌, ap, subst, arith}
use Rattle.std.specs.Prelude.{slice_get, if◌then◌else◌}
use Rattle.std.specs.Option.{option_or}
use Rattle.std.proofs.lemmas.List.{length-append, length-take-le, take_all, take_more}
use Rattle.std.proofs.lemmas.List.Folds.{find-append}
use Rattle.std.proofs.lemmas.Option.{slice_get-get_or}
use Rattle.std.proofs.Math.ListN.{get_or-append}
use Rattle.std.proofs.Math.Seq.{get_or-append_seam}
use Rattle.sv_model.specs.Declarations.{first_recording}
use Rattle.sv_model.specs.declared.line.Recording.{Recording}
use Rattle.sv_index.specs.Places.{IsPlaceOf}

more_cells : (rs : List Recording) (x : Recording) → length (rs ++ x ∷ []) ≡ length rs + 1
more_cells rs x = length-append rs (x ∷ [])

same_place : (rs : List Recording) (x : Recording) (place : ℕ) → place < length rs
    → slice_get (rs ++ x ∷ []) place ≡ slice_get rs place
same_place rs x place lt =
    slice_get-get_or (rs ++ x ∷ []) place x (let n : length (rs ++ x ∷ []) ≡ length rs + 1 = more_cells rs x
    in omega (arith, lt, n))
    ∙ ap Some (get_or-append rs (x ∷ []) x place lt)
    ∙ sym (slice_get-get_or rs place x lt)

last_place : (rs : List Recording) (x : Recording) → slice_get (rs ++ x ∷ []) (length rs) ≡ Some x
last_place rs x =
    slice_get-get_or (rs ++ x ∷ []) (length rs) x
    (let n : length (rs ++ x ∷ []) ≡ length rs + 1 = more_cells rs x in omega (arith, n))
    ∙ ap Some (get_or-append_seam rs x [] x)

found_more : (rs : List Recording) (x : Recording) (n : ℕ) → first_recording (rs ++ x ∷ []) n
    ≡ option_or (first_recording rs n) (if x.rec == n then Some x else None)
found_more rs x n = find-append (λ (r : Recording). r.rec == n) rs (x ∷ [])

-- one more recording
place_more : (rs : List Recording) (x : Recording) (n : ℕ) (old : Option ℕ) → IsPlaceOf rs n old
    → IsPlaceOf (rs ++ x ∷ []) n (option_or old (if x.rec == n then Some (length rs) else None))
place_more rs x n (Some place) is =
    let lt : place < length (rs ++ x ∷ []) = (let m : length (rs ++ x ∷ []) ≡ length rs + 1 =
    more_cells rs x in omega (arith, is.0, m)) in
    let at : first_recording rs n ≡ Some (get_or rs place x) = is.1 ∙ slice_get-get_or rs place x is.0 in (
      lt,
      found_more rs x n ∙ ap (λ (o : Option Recording). option_or o (if x.rec == n then Some x else None)) at
          ∙ sym at ∙ is.1 ∙ sym (same_place rs x place is.0),
    )
place_more rs x n None is = by_test (x.rec == n) (found_more rs x n
    ∙ ap (λ (o : Option Recording). option_or o (if x.rec == n then Some x else None)) is) where
      by_test : (b : Bool) → first_recording (rs ++ x ∷ []) n ≡ (if b then Some x else None)
          → IsPlaceOf (rs ++ x ∷ []) n (if b then Some (length rs) else None)
      by_test true found = (
        (let m : length (rs ++ x ∷ []) ≡ length rs + 1 = more_cells rs x in
            omega (arith, m)),
        found ∙ sym (last_place rs x),
      )
      by_test false found = found

-- the table after the recording at place i
pub places_more : (rs : List Recording) (i n : ℕ) (x : Recording) (old new : Option ℕ) → i < length rs → x
    ≡ get_or rs i x
    → IsPlaceOf (take i rs) n old → new ≡ option_or old (if x.rec == n then Some i else None)
    → IsPlaceOf (take (i + 1) rs) n new
places_more rs i n x old new lt at is made =
    let cut : take (i + 1) rs ≡ take i rs ++ x ∷ [] = take_more rs i x lt
    ∙ ap (λ (y : Recording). take i rs ++ y ∷ []) (sym at) in
    let long : length (take i rs) ≡ i = length-take-le i rs (omega (arith, lt)) in
    let step = place_more (take i rs) x n old is in
    subst (λ (ls : List Recording). IsPlaceOf ls n new) (sym cut)
    (subst (IsPlaceOf (take i rs ++ x ∷ []) n) (sym
    (made ∙ ap (λ (k : ℕ). option_or old (if x.rec == n then Some k else None)) (sym long))) step)

pub places_all : (rs : List Recording) (i n : ℕ) (o : Option ℕ) → length rs ≤ i → IsPlaceOf (take i rs) n o
    → IsPlaceOf rs n o
places_all rs i n o le is = subst (λ (ls : List Recording). IsPlaceOf ls n o) (take_all i rs le) is

-- no recordings, and no numbers
pub place_none : (rs : List Recording) (n : ℕ) (o : Option ℕ) → rs ≡ [] → o ≡ None → IsPlaceOf rs n o
place_none rs n o none is = subst (IsPlaceOf rs n) (sym is)
    (subst (λ (ls : List Recording). IsPlaceOf ls n None) (sym none) refl)

-- what stands at the place is the recording
pub told : (rs : List Recording) (n place : ℕ) (o : Option ℕ) → IsPlaceOf rs n o → o ≡ Some place
    → first_recording rs n ≡ slice_get rs place
told rs n place o is e = (subst (IsPlaceOf rs n) e is).1

pub told_none : (rs : List Recording) (n : ℕ) (o : Option ℕ) → IsPlaceOf rs n o → o ≡ None
    → first_recording rs n
    ≡ None
told_none rs n o is e = subst (IsPlaceOf rs n) e is
