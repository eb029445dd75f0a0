-- A history before the next event of an actor is not whole.
use Rattle.std.proofs.Common.{ℕ, zero, suc, ◌<◌, ◌≡◌, ◌==◌, Bool, true, false, if◌then◌else◌, List, [], ◌∷◌}
use Rattle.std.proofs.Common.{◌++◌, Option, Some, None, length, get_or, map, refl, sym, ap, ◌∙◌, arith}
use Rattle.std.proofs.Common.{length-append}
use Rattle.std.specs.Prelude.{find, option_and_then}
use Rattle.std.specs.List.{All, filter_map}
use Rattle.std.proofs.lemmas.Bool.{eq-eqb}
use Rattle.std.proofs.lemmas.List.{length-take}
use Rattle.std.proofs.lemmas.List.Elements.{All-head, All-nil, All-tail, filter_map-append}
use Rattle.sv_model.specs.Declarations.{recording_of}
use Rattle.sv_model.specs.History.{IsHistory, IsOfTrace, IsPrefix, IsWhole, call_by, calls_of, lane_script}
use Rattle.sv_model.specs.History.{publications_of, published_by, recorder_script}
use Rattle.sv_model.specs.declared.line.Mark.{Mark}
use Rattle.sv_model.specs.declared.line.Mark.TheVariants as mark
use Rattle.sv_model.specs.declared.line.Recording.{Recording}
use Rattle.sv_model.specs.declared.line.Trace.{Trace}

-- a whole script has no prefix with one more
no_more : (xs ys script : List ℕ) (x : ℕ) → xs ≡ script → ys ≡ xs ++ x ∷ [] → IsPrefix ys script → ⊥
no_more xs ys script x whole more prefix =
    let same = ap (λ (zs : List ℕ). length zs) whole in
    let long = ap (λ (zs : List ℕ). length zs) more in
    let one = length-append xs (x ∷ []) in
    let cut = ap (λ (zs : List ℕ). length zs) prefix in
    let most = length-take (length ys) script in
    omega (arith, same, long, one, cut, most)

by_lane : (b : Bool) (index : ℕ) → b ≡ true → (if b then Some index else None) ≡ Some index
by_lane b index e = ap (λ (x : Bool). if x then Some index else None) e

one_given : {X : Type 0} (f : X → Option ℕ) (x : X) (n : ℕ) → f x ≡ Some n → filter_map f (x ∷ []) ≡ n ∷ []
one_given f x n e = by_option (f x) e
  where
    by_option : (o : Option ℕ) → o ≡ Some n → filter_map (λ (y : Option ℕ). y) (o ∷ []) ≡ n ∷ []
    by_option None e = cc
    by_option (Some m) e = ap (λ (o : Option ℕ). filter_map (λ (y : Option ℕ). y) (o ∷ [])) e

after_one : {X : Type 0} (f : X → Option ℕ) (xs : List X) (x : X) (n : ℕ) → f x ≡ Some n
    → filter_map f (xs ++ x ∷ []) ≡ filter_map f xs ++ n ∷ []
after_one f xs x n e = filter_map-append f xs (x ∷ [])
    ∙ ap (λ (ys : List ℕ). filter_map f xs ++ ys) (one_given f x n e)

record IsFound (k : ℕ) (rs : List Recording) : Type 0 where
  r : Recording
  is : find (λ (x : Recording). x.rec == k) rs ≡ Some r

found_at : (rs : List Recording) (k i d : ℕ) → i < length (map (λ (x : Recording). x.rec) rs)
    → get_or (map (λ (x : Recording). x.rec) rs) i d ≡ k → IsFound k rs
found_at [] k i d lt e = absurd (omega (arith, lt))
found_at (x ∷ rest) k i d lt e = by_test (x.rec == k) refl i lt e (λ j. found_at rest k j d)
  where
    by_test : (b : Bool) → (x.rec == k) ≡ b → (j : ℕ) → j
        < length (map (λ (y : Recording). y.rec) (x ∷ rest))
        → get_or (map (λ (y : Recording). y.rec) (x ∷ rest)) j d ≡ k
        → ((n : ℕ) → n < length (map (λ (y : Recording). y.rec) rest)
        → get_or (map (λ (y : Recording). y.rec) rest) n d ≡ k → IsFound k rest) → IsFound k (x ∷ rest)
    by_test true b j lt e later = record {
      r = x;
      is = ap (λ (c : Bool). if c then Some x else find (λ (y : Recording). y.rec == k) rest) b;
    }
    by_test false b zero lt e later = absurd (let t : (x.rec == k) ≡ true = eq-eqb x.rec k e in
        let f : false ≡ true = sym b ∙ t in cc)
    by_test false b (suc j) lt e later =
        let found = later j (omega (arith, lt)) e in
        record {
          r = found.r;
          is = ap (λ (c : Bool). if c then Some x else find
              (λ (y : Recording). y.rec == k) rest) b ∙ found.is;
        }

last_of : (t : Trace) (history : List Mark) (m : Mark) → IsHistory t (history ++ m ∷ []) → IsOfTrace t m
last_of t history m is = by_list history is.of_trace
  where
    by_list : (xs : List Mark) → All (IsOfTrace t) (xs ++ m ∷ []) → IsOfTrace t m
    by_list [] all = All-head (IsOfTrace t) m [] all
    by_list (x ∷ rest) all = by_list rest (All-tail (IsOfTrace t) x (rest ++ m ∷ []) all)

published : (t : Trace) (k : ℕ) (r : Recording) → recording_of t k ≡ Some r
    → published_by t r.recorder (mark.Publish k) ≡ Some k
published t k r e = ap (λ (o : Option Recording). option_and_then
    (λ (x : Recording). if x.recorder == r.recorder then Some k else None) o) e
    ∙ by_lane (r.recorder == r.recorder) k (eq-eqb r.recorder r.recorder refl)

pub lacks : (t : Trace) (history : List Mark) (m : Mark) → IsHistory t (history ++ m ∷ [])
    → IsWhole t history → ⊥
lacks t history (mark.Call lane index) is whole =
    no_more (calls_of history lane) (calls_of (history ++ mark.Call lane index ∷ []) lane)
    (lane_script t lane) index (whole.lanes lane)
    (after_one (call_by lane) history (mark.Call lane index) index
    (by_lane (lane == lane) index (eq-eqb lane lane refl))) (is.lanes lane)
lacks t history (mark.Publish k) is whole =
    let on = last_of t history (mark.Publish k) is in
    let found = found_at t.recordings k on.0 k on.1 on.2 in
    no_more (publications_of t history found.r.recorder)
    (publications_of t (history ++ mark.Publish k ∷ []) found.r.recorder)
    (recorder_script t found.r.recorder) k (whole.recorders found.r.recorder)
    (after_one (published_by t found.r.recorder) history (mark.Publish k) k
    (published t k found.r found.is)) (is.recorders found.r.recorder)

-- no event is a history
pub none_yet : (t : Trace) → IsHistory t []
none_yet t = record { of_trace = All-nil (IsOfTrace t); lanes = λ lane. refl; recorders = λ recorder. refl }
