-- The actors of a trace: each script that is not empty has one, and each has one number among them.
use Rattle.std.proofs.Common.{◌≡◌, ℕ, zero, suc, ◌+◌, ◌<◌, ◌≤◌, List, [], ◌∷◌, ◌++◌, Some, refl, sym, ◌∙◌}
use Rattle.std.proofs.Common.{ap, subst, arith, length, length-append, inl, inr}
use Rattle.std.specs.Prelude.{◌⊎◌, slice_get, slice_index_or}
use Rattle.std.proofs.lemmas.Option.{same_Some, none-some}
use Rattle.sv_model.specs.declared.line.Trace.{Trace}
use Rattle.sv_model.specs.Lawful.{IsLawful}
use Rattle.sv_device.specs.declared.who.Who.{Who}
use Rattle.sv_device.specs.declared.who.Who.TheVariants.{Lane, Recorder}
use Rattle.sv_device.specs.Actors.{actors_of, number_of, with_events}

-- One list of scripts.

-- an actor is that of a script
pub seat_of : {X : Type 0} (make : ℕ → Who) (n : ℕ) (scripts : List (List X)) (i : ℕ) (w : Who)
    → slice_get (with_events make n scripts) i ≡ Some w → (k : ℕ) × (k < length scripts)
    × (w ≡ make (n + k))
seat_of make n [] i w e = absurd (none-some w e)
seat_of make n ([] ∷ scripts) i w e =
    let r = seat_of make (n + 1) scripts i w e in
    let lt = r.1 in
    let same : n + 1 + r.0 ≡ n + suc r.0 = omega arith in
    (suc r.0, omega (arith, lt), r.2 ∙ ap make same)
seat_of make n ((x ∷ xs) ∷ scripts) zero w e =
    let same : n ≡ n + 0 = omega arith in
    (zero, omega arith, sym (same_Some (make n) w e) ∙ ap make same)
seat_of make n ((x ∷ xs) ∷ scripts) (suc i) w e =
    let r = seat_of make (n + 1) scripts i w e in
    let lt = r.1 in
    let same : n + 1 + r.0 ≡ n + suc r.0 = omega arith in
    (suc r.0, omega (arith, lt), r.2 ∙ ap make same)

-- two numbers of one actor are one
pub one_seat : {X : Type 0} (make : ℕ → Who) → ((a b : ℕ) → make a ≡ make b → a ≡ b)
    → (n : ℕ) (scripts : List (List X)) (i j : ℕ) (w : Who) → slice_get (with_events make n scripts) i
    ≡ Some w → slice_get (with_events make n scripts) j ≡ Some w → i ≡ j
one_seat make inj n [] i j w e f = absurd (none-some w e)
one_seat make inj n ([] ∷ scripts) i j w e f = one_seat make inj (n + 1) scripts i j w e f
one_seat make inj n ((x ∷ xs) ∷ scripts) zero zero w e f = refl
one_seat make inj n ((x ∷ xs) ∷ scripts) zero (suc j) w e f =
    let later = seat_of make (n + 1) scripts j w f in
    let same : n ≡ n + 1 + later.0 = inj n (n + 1 + later.0) (same_Some (make n) w e ∙ later.2) in
    absurd (omega (arith, same))
one_seat make inj n ((x ∷ xs) ∷ scripts) (suc i) zero w e f =
    let later = seat_of make (n + 1) scripts i w e in
    let same : n ≡ n + 1 + later.0 = inj n (n + 1 + later.0) (same_Some (make n) w f ∙ later.2) in
    absurd (omega (arith, same))
one_seat make inj n ((x ∷ xs) ∷ scripts) (suc i) (suc j) w e f =
    ap suc (one_seat make inj (n + 1) scripts i j w e f)

-- a script that is not empty has an actor
pub has_seat : {X : Type 0} (make : ℕ → Who) (n : ℕ) (scripts : List (List X)) (k : ℕ) → 0
    < length (slice_index_or scripts k []) → (i : ℕ)
    × (slice_get (with_events make n scripts) i ≡ Some (make (n + k)))
has_seat make n [] k some = absurd (omega (arith, some))
has_seat make n ([] ∷ scripts) zero some = absurd (omega (arith, some))
has_seat make n ((x ∷ xs) ∷ scripts) zero some =
    let same : n ≡ n + 0 = omega arith in
    (zero, ap (λ a. Some (make a)) same)
has_seat make n ([] ∷ scripts) (suc k) some =
    let r = has_seat make (n + 1) scripts k some in
    let same : n + 1 + k ≡ n + suc k = omega arith in
    (r.0, r.1 ∙ ap (λ a. Some (make a)) same)
has_seat make n ((x ∷ xs) ∷ scripts) (suc k) some =
    let r = has_seat make (n + 1) scripts k some in
    let same : n + 1 + k ≡ n + suc k = omega arith in
    (suc r.0, r.1 ∙ ap (λ a. Some (make a)) same)

-- no more actors than scripts
pub few_seats : {X : Type 0} (make : ℕ → Who) (n : ℕ) (scripts : List (List X))
    → length (with_events make n scripts) ≤ length scripts
few_seats make n [] = omega arith
few_seats make n ([] ∷ scripts) = let le = few_seats make (n + 1) scripts in omega (arith, le)
few_seats make n ((x ∷ xs) ∷ scripts) = let le = few_seats make (n + 1) scripts in omega (arith, le)

-- Two lists, one behind the other.

pub get_left : {X : Type 0} (xs ys : List X) (i : ℕ) (x : X) → slice_get xs i ≡ Some x
    → slice_get (xs ++ ys) i ≡ Some x
get_left [] ys i x e = absurd (none-some x e)
get_left (y ∷ xs) ys zero x e = e
get_left (y ∷ xs) ys (suc i) x e = get_left xs ys i x e

pub get_right : {X : Type 0} (xs ys : List X) (j : ℕ) → slice_get (xs ++ ys) (length xs + j) ≡ slice_get ys j
get_right [] ys j = let e : 0 + j ≡ j = omega arith in ap (slice_get ys) e
get_right (x ∷ xs) ys j = let e : length (x ∷ xs) + j ≡ suc (length xs + j) = omega arith in
    ap (slice_get ((x ∷ xs) ++ ys)) e ∙ get_right xs ys j

pub get_side : {X : Type 0} (xs ys : List X) (i : ℕ) (x : X) → slice_get (xs ++ ys) i ≡ Some x
    → (slice_get xs i ≡ Some x) ⊎ ((j : ℕ) × (i ≡ length xs + j) × (slice_get ys j ≡ Some x))
get_side [] ys i x e = let same : i ≡ 0 + i = omega arith in inr (i, same, e)
get_side (y ∷ xs) ys zero x e = inl e
get_side (y ∷ xs) ys (suc i) x e = one_further (get_side xs ys i x e)
  where
    one_further : (slice_get xs i ≡ Some x) ⊎ ((j : ℕ) × (i ≡ length xs + j) × (slice_get ys j ≡ Some x))
        → (slice_get xs i ≡ Some x) ⊎ ((j : ℕ) × (suc i ≡ suc (length xs) + j) × (slice_get ys j ≡ Some x))
    one_further (inl l) = inl l
    one_further (inr r) = let e = r.1 in inr (r.0, omega (arith, e), r.2)

-- The actors of a trace.

pub same_lane : (a b : ℕ) → Lane a ≡ Lane b → a ≡ b
same_lane a b e = ap number_of e

pub same_recorder : (a b : ℕ) → Recorder a ≡ Recorder b → a ≡ b
same_recorder a b e = let f : 16 + a ≡ 16 + b = ap number_of e in omega (arith, f)

pub apart : (a b : ℕ) → Lane a ≡ Recorder b → ⊥
apart a b e = cc

-- the numbers of an actor fit
pub actor_fits : (t : Trace) (i : ℕ) (w : Who) → IsLawful t → slice_get (actors_of t) i ≡ Some w
    → number_of w < 32
actor_fits t i w lawful e = by_side (get_side (with_events Lane 0 t.lane_scripts)
    (with_events Recorder 0 t.recorder_scripts) i w e)
  where
    by_side : (slice_get (with_events Lane 0 t.lane_scripts) i ≡ Some w)
        ⊎ ((j : ℕ) × (i ≡ length (with_events Lane 0 t.lane_scripts) + j)
        × (slice_get (with_events Recorder 0 t.recorder_scripts) j ≡ Some w)) → number_of w < 32
    by_side (inl l) = let s = seat_of Lane 0 t.lane_scripts i w l in let lt = s.1 in let c =
        lawful.lane_count in subst (λ (v : Who). number_of v < 32) (sym s.2) (omega (arith, lt, c))
    by_side (inr r) = let s = seat_of Recorder 0 t.recorder_scripts r.0 w r.2 in let lt = s.1 in let c =
        lawful.recorder_count in subst (λ (v : Who). number_of v < 32) (sym s.2) (omega (arith, lt, c))

-- there are at most 32
pub few_actors : (t : Trace) → IsLawful t → length (actors_of t) ≤ 32
few_actors t lawful =
    let a = few_seats Lane 0 t.lane_scripts in
    let b = few_seats Recorder 0 t.recorder_scripts in
    let c = lawful.lane_count in
    let d = lawful.recorder_count in
    let e = length-append (with_events Lane 0 t.lane_scripts) (with_events Recorder 0 t.recorder_scripts) in
    omega (arith, a, b, c, d, e)

-- an actor has one number among them
pub one_index : (t : Trace) (i j : ℕ) (w : Who) → slice_get (actors_of t) i ≡ Some w
    → slice_get (actors_of t) j ≡ Some w → i ≡ j
one_index t i j w e f = by_sides (get_side ls rs i w e) (get_side ls rs j w f)
  where
    ls : List Who
    ls = with_events Lane 0 t.lane_scripts

    rs : List Who
    rs = with_events Recorder 0 t.recorder_scripts

    mixed : (a b : ℕ) → slice_get ls a ≡ Some w → slice_get rs b ≡ Some w → i ≡ j
    mixed a b l r = let x = seat_of Lane 0 t.lane_scripts a w l in let y =
        seat_of Recorder 0 t.recorder_scripts b w r in absurd (apart (0 + x.0) (0 + y.0) (sym x.2 ∙ y.2))

    by_sides : (slice_get ls i ≡ Some w) ⊎ ((k : ℕ) × (i ≡ length ls + k) × (slice_get rs k ≡ Some w))
        → (slice_get ls j ≡ Some w) ⊎ ((k : ℕ) × (j ≡ length ls + k) × (slice_get rs k ≡ Some w)) → i ≡ j
    by_sides (inl l) (inl m) = one_seat Lane same_lane 0 t.lane_scripts i j w l m
    by_sides (inl l) (inr m) = mixed i m.0 l m.2
    by_sides (inr l) (inl m) = mixed j l.0 m l.2
    by_sides (inr l) (inr m) = l.1 ∙ ap (λ k. length ls + k)
        (one_seat Recorder same_recorder 0 t.recorder_scripts l.0 m.0 w l.2 m.2) ∙ sym m.1

-- each lane with calls, and each recorder with recordings, is one of them
pub lane_index : (t : Trace) (lane : ℕ) → 0 < length (slice_index_or t.lane_scripts lane []) → (i : ℕ)
    × (slice_get (actors_of t) i ≡ Some (Lane lane))
lane_index t lane some =
    let r = has_seat Lane 0 t.lane_scripts lane some in
    let same : 0 + lane ≡ lane = omega arith in (
      r.0,
      get_left (with_events Lane 0 t.lane_scripts) (with_events Recorder 0 t.recorder_scripts) r.0
          (Lane lane) (r.1 ∙ ap (λ k. Some (Lane k)) same),
    )

pub recorder_index : (t : Trace) (recorder : ℕ) → 0 < length (slice_index_or t.recorder_scripts recorder [])
    → (i : ℕ) × (slice_get (actors_of t) i ≡ Some (Recorder recorder))
recorder_index t recorder some =
    let r = has_seat Recorder 0 t.recorder_scripts recorder some in
    let same : 0 + recorder ≡ recorder = omega arith in (
      length (with_events Lane 0 t.lane_scripts) + r.0,
      get_right (with_events Lane 0 t.lane_scripts) (with_events Recorder 0 t.recorder_scripts) r.0
          ∙ (r.1 ∙ ap (λ k. Some (Recorder k)) same),
    )
