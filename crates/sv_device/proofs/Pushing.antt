-- The actors of the first scripts, one script after another.
use Rattle.std.proofs.Common.{◌≡◌, ℕ, suc, ◌+◌, ◌<◌, List, [], ◌∷◌, ◌++◌, refl, sym, ◌∙◌, ap, arith}
use Rattle.std.proofs.Common.{append-nil, length, take, get_or, if◌then◌else◌, ◌==◌}
use Rattle.std.proofs.lemmas.Bool.{ne_eqb}
use Rattle.std.proofs.lemmas.List.{append_assoc, take_more, length-take-le}
use Rattle.sv_device.specs.declared.who.Who.{Who}
use Rattle.sv_device.specs.Actors.{with_events}

push_some : {X : Type 0} (make : ℕ → Who) (n : ℕ) (scripts : List (List X)) (s : List X) → 0 < length s
    → with_events make n (scripts ++ s ∷ []) ≡ with_events make n scripts ++ make (n + length scripts) ∷ []
push_some make n [] [] some = absurd (omega (arith, some))
push_some make n [] (y ∷ ys) some = let e : n ≡ n + 0 = omega arith in ap (λ k. make k ∷ []) e
push_some make n ([] ∷ scripts) s some =
    let e : n + 1 + length scripts ≡ n + suc (length scripts) = omega arith in
    push_some make (n + 1) scripts s some ∙ ap (λ k. with_events make (n + 1) scripts ++ make k ∷ []) e
push_some make n ((x ∷ xs) ∷ scripts) s some =
    let e : n + 1 + length scripts ≡ n + suc (length scripts) = omega arith in
    ap (λ l. make n ∷ l) (push_some make (n + 1) scripts s some
    ∙ ap (λ k. with_events make (n + 1) scripts ++ make k ∷ []) e)

push_none : {X : Type 0} (make : ℕ → Who) (n : ℕ) (scripts : List (List X)) (s : List X) → length s ≡ 0
    → with_events make n (scripts ++ s ∷ []) ≡ with_events make n scripts
push_none make n [] [] none = refl
push_none make n [] (y ∷ ys) none = absurd (omega (arith, none))
push_none make n ([] ∷ scripts) s none = push_none make (n + 1) scripts s none
push_none make n ((x ∷ xs) ∷ scripts) s none = ap (λ l. make n ∷ l) (push_none make (n + 1) scripts s none)

-- the next script
next_seat : {X : Type 0} (make : ℕ → Who) (scripts : List (List X)) (s : List X)
    → with_events make 0 (scripts ++ s ∷ []) ≡ with_events make 0 scripts
    ++ (if length s == 0 then [] else make (0 + length scripts) ∷ [])
next_seat make scripts [] = push_none make 0 scripts [] refl ∙ sym (append-nil (with_events make 0 scripts))
next_seat make scripts (x ∷ xs) =
    let ne : length (x ∷ xs) ≡ 0 → ⊥ = λ e. absurd (omega (arith, e)) in
    push_some make 0 scripts (x ∷ xs) (omega arith)
    ∙ ap (λ b. with_events make 0 scripts ++ (if b then [] else make (0 + length scripts) ∷ []))
    (sym (ne_eqb (length (x ∷ xs)) 0 ne))

pub pushed : {X : Type 0} (make : ℕ → Who) (scripts : List (List X)) (i n k : ℕ) (s : List X)
    (old was new : List Who) → i < length scripts → s ≡ get_or scripts i s → n ≡ length s → k ≡ i → was
    ≡ old ++ with_events make 0 (take i scripts) → new ≡ was ++ (if n == 0 then [] else make k ∷ []) → new
    ≡ old ++ with_events make 0 (take (i + 1) scripts)
pushed make scripts i n k s old was new lt is long number before after =
    let here : 0 + length (take i scripts) ≡ i = let e = length-take-le i scripts (omega (arith, lt)) in
    omega (arith, e) in
    let one = ap (with_events make 0) (take_more scripts i s lt
    ∙ ap (λ x. take i scripts ++ x ∷ []) (sym is)) ∙ next_seat make (take i scripts) s in
    after
    ∙ ap (λ l. l ++ (if n == 0 then [] else make k ∷ [])) before
    ∙ append_assoc old (with_events make 0 (take i scripts)) (if n == 0 then [] else make k ∷ [])
    ∙ ap (λ m. old ++ (with_events make 0 (take i scripts) ++ (if m == 0 then [] else make k ∷ []))) long
    ∙ ap (λ m. old ++ (with_events make 0 (take i scripts) ++ (if length s == 0 then [] else make m ∷ [])))
    (number ∙ sym here)
    ∙ ap (λ l. old ++ l) (sym one)
