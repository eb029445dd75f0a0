-- The end of a replay: the actors that were compared have their whole scripts in the history.
use Rattle.std.proofs.Common.{◌≡◌, ℕ, zero, suc, ◌+◌, ◌<◌, ◌≤◌, List, [], ◌∷◌, Some, drop, refl, sym, ◌∙◌}
use Rattle.std.proofs.Common.{ap, subst, arith, length, slice_get, inl, inr}
use Rattle.std.specs.Prelude.{◌⊎◌}
use Rattle.std.specs.List.{remove}
use Rattle.std.proofs.lemmas.Bool.{cases_lt}
use Rattle.std.proofs.lemmas.Option.{same_Some, slice_get_within}
use Rattle.sv_model.specs.declared.line.Trace.{Trace}
use Rattle.sv_model.specs.declared.line.Mark.{Mark}
use Rattle.sv_model.specs.History.{IsHistory, IsWhole}
use Rattle.sv_core.specs.State.{State}
use Rattle.sv_device.specs.declared.who.Who.{Who}
use Rattle.sv_device.specs.Actors.{ActorIs, actors_of, events_of, script_of}
use Rattle.sv_device.proofs.Counting.{whole_all}

pub rest_after : {X : Type 0} (xs : List X) (n : ℕ) → n < length xs → remove (drop n xs) 0 ≡ drop (suc n) xs
rest_after [] n h = absurd (omega (arith, h))
rest_after (x ∷ xs) zero h = refl
rest_after (x ∷ xs) (suc n) h = rest_after xs n (omega (arith, h))

-- the first actors have as many events in the history as their scripts have
abbrev pub AreDone : Trace → List Mark → ℕ → Type 0
AreDone t history n = (i : ℕ) (who : Who) → i < n → slice_get (actors_of t) i ≡ Some who
    → length (events_of t who history) ≡ length (script_of t who)

done_by_case : (t : Trace) (history : List Mark) (n : ℕ) (a : ActorIs) → AreDone t history n → a.index ≡ n
    → slice_get (actors_of t) a.index ≡ Some a.who → length (events_of t a.who history)
    ≡ length (script_of t a.who) → (i : ℕ) (who : Who) → i < n + 1 → slice_get (actors_of t) i ≡ Some who
    → (i < n) ⊎ (n ≤ i) → length (events_of t who history) ≡ length (script_of t who)
done_by_case t history n a before index is same i who lt at (inl below) = before i who below at
done_by_case t history n a before index is same i who lt at (inr above) =
    let here : i ≡ n = omega (arith, lt, above) in
    let who_is : a.who ≡ who = same_Some a.who who
    (sym is ∙ ap (λ k. slice_get (actors_of t) k) (index ∙ sym here) ∙ at) in
    subst (λ w. length (events_of t w history) ≡ length (script_of t w)) who_is same

-- one more actor, which was compared at the end of its script
pub done_more : (t : Trace) (history : List Mark) (n left : ℕ) (a : ActorIs) → AreDone t history n → a.index
    ≡ n → slice_get (actors_of t) a.index ≡ Some a.who → length (events_of t a.who history) ≡ a.place
    → a.place + left ≡ length (script_of t a.who) → left ≤ 0 → AreDone t history (n + 1)
done_more t history n left a before index is count long none i who lt at =
    done_by_case t history n a before index is (let le : left ≤ 0 = none in omega (arith, count, long, le))
    i who lt at (cases_lt i n)

-- all actors were compared
pub done_whole : (t : Trace) (v : State) (history : List Mark) (n : ℕ) → IsHistory v.trace v.history
    → v.trace ≡ t → v.history ≡ history → length (actors_of t) ≤ n → AreDone t history n
    → IsWhole t v.history
done_whole t v history n is trace same few done =
    whole_all t v.history (subst (λ (u : Trace). IsHistory u v.history) trace is)
    (λ i who at.
    let lt = slice_get_within (actors_of t) i who at in
    subst (λ (h : List Mark). length (events_of t who h) ≡ length (script_of t who)) (sym same)
    (done i who (omega (arith, lt, few)) at))
