-- The held calls of the lanes, lane by lane.
use Rattle.std.proofs.Common.{ℕ, zero, suc, ◌+◌, ◌≡◌, ◌∙◌, List, [], ◌∷◌, ◌++◌, drop, get_or, map, refl}
use Rattle.std.proofs.Common.{sym, ap, append_assoc, add-one}
use Rattle.sv_model.specs.declared.work.Held.{Held}
use Rattle.sv_model.specs.declared.work.Held.TheVariants as held
use Rattle.sv_model.specs.Holding.{Came, held_calls}
use Rattle.sv_gate.specs.declared.waiting.Waiting.{Waiting}
use Rattle.sv_gate.specs.Gates.{came_in}
use Rattle.sv_gate.proofs.Starts.{came_at}

first_held : (n k : ℕ) (lanes : List (List Came)) → held_calls n (drop k lanes)
    ≡ map (λ (x : Came). held.Call n x.index) (get_or lanes k []) ++ held_calls (n + 1) (drop (suc k) lanes)
first_held n zero [] = refl
first_held n (suc k) [] = refl
first_held n zero (calls ∷ lanes) = refl
first_held n (suc k) (calls ∷ lanes) = first_held n k lanes

named : (n : ℕ) (calls : List Waiting) → map (λ (x : Came). held.Call n x.index) (came_in calls)
    ≡ map (λ (x : Waiting). held.Call n x.index) calls
named n [] = refl
named n (x ∷ calls) = ap (λ (rest : List Held). held.Call n x.index ∷ rest) (named n calls)

-- one more lane
pub one_lane : (n : ℕ) (lanes : List (List Waiting)) (before after all : List Held) → after ≡ before
    ++ map (λ (x : Waiting). held.Call n x.index) (get_or lanes n []) → before
    ++ held_calls n (drop n (map came_in lanes)) ≡ all
    → after ++ held_calls (n + 1) (drop (n + 1) (map came_in lanes)) ≡ all
one_lane n lanes before after all e so_far =
    let own : List Held = map (λ (x : Waiting). held.Call n x.index) (get_or lanes n []) in
    let rest : List Held = held_calls (n + 1) (drop (n + 1) (map came_in lanes)) in
    ap (λ (list : List Held). list ++ rest) e
    ∙ append_assoc before own rest
    ∙ ap (λ (k : ℕ). before ++ (own ++ held_calls (n + 1) (drop k (map came_in lanes)))) (add-one n)
    ∙ ap (λ (list : List Held). before ++ (list ++ held_calls (n + 1) (drop (suc n) (map came_in lanes))))
    (sym (ap (map (λ (x : Came). held.Call n x.index)) (came_at lanes n) ∙ named n (get_or lanes n [])))
    ∙ ap (λ (list : List Held). before ++ list) (sym (first_held n n (map came_in lanes)))
    ∙ so_far
