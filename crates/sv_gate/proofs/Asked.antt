-- What the kept semaphores answer is what is asked of the past.
use Rattle.std.proofs.Common.{ℕ, zero, suc, ◌+◌, ◌-◌, ◌≡◌, ◌<◌, ◌∙◌, ◌==◌, ◌&&◌, ◌||◌, List, [], ◌∷◌, ◌++◌}
use Rattle.std.proofs.Common.{Bool, true, false, Option, Some, None, length, get_or, take, cond, refl, sym}
use Rattle.std.proofs.Common.{ap, arith, leb, length-append, append-nil}
use Rattle.std.specs.Prelude.{MatchOption, filter, find, count_by, slice_get, is_none, is_some}
use Rattle.std.specs.List.{list_all}
use Rattle.std.specs.BTreeMap.{get}
use Rattle.std.specs.Ordering.{nat_cmp}
use Rattle.std.proofs.lemmas.Option.{slice_get_past, slice_get-get_or}
use Rattle.std.proofs.lemmas.List.{take_more}
use Rattle.sv_model.specs.declared.line.Trace.{Trace}
use Rattle.sv_model.specs.declared.line.SemKind.TheVariants.{Binary}
use Rattle.sv_model.specs.Declarations.{semaphore_kind, initial_value}
use Rattle.sv_model.specs.Primitives.{Made, Signal}
use Rattle.sv_model.specs.Semaphores.{binary_pair, serves, current_value}
use Rattle.sv_sema.specs.declared.semaphores.Pairing.{Pairing}
use Rattle.sv_sema.specs.declared.semaphores.Pairing.TheVariants.{Initial}
use Rattle.sv_sema.specs.declared.semaphores.Semaphores.{Semaphores}
use Rattle.sv_sema.specs.Stands.{SemaphoresStandFor, IsBinary, pairing_of, signal_pairing}
use Rattle.sv_gate.specs.Kept.{found, standing_of}
use Rattle.sv_gate.proofs.Timelines.{kept_are}

found_signal : (o : Option Signal) → found (signal_pairing o) ≡ is_some o
found_signal None = refl
found_signal (Some x) = refl

found_either : (b : Bool) (o : Option Signal) → found (cond b Initial (signal_pairing o)) ≡ (b || is_some o)
found_either true o = refl
found_either false o = found_signal o

-- a wait of a timeline is paired exactly where the current value serves it
pub served_by : (t : Trace) (m : Made) (sem v : ℕ) (p : Pairing) → p ≡ pairing_of t m sem (Some v) → found p
    ≡ leb v (current_value t m sem)
served_by t m sem v p e = ap found e ∙ found_either (leb v (initial_value t sem))
    (find (serves sem v) m.signals) ∙ sym (kept_are t m sem v)

-- the signals that stand are none or one
stands_one : (m : Made) (n : ℕ) (standing : Option ℕ) → IsBinary m n standing → standing_of m n
    ≡ cond (is_none (binary_pair m n)) 0 1
stands_one m n None h =
    let signals : List Signal = filter (λ (x : Signal). x.sem == n) m.signals in
    let waits : ℕ = count_by (λ (w : ℕ). w == n) m.waits in
    let long : length signals ≡ length h.served = ap length (h.signals ∙ append-nil h.served) in
    let same : length h.served ≡ waits = h.waits in
    let none : slice_get signals waits ≡ None = slice_get_past signals waits (omega arith) in
    let zero_left : length signals - waits ≡ 0 = omega arith in
    zero_left ∙ sym (ap (λ (o : Option Signal). cond (is_none o) 0 1) none)
stands_one m n (Some token) h =
    let signals : List Signal = filter (λ (x : Signal). x.sem == n) m.signals in
    let waits : ℕ = count_by (λ (w : ℕ). w == n) m.waits in
    let one : Signal = record { sem = n; value = None; token = token } in
    let long : length signals ≡ length (h.served ++ one ∷ []) = ap length h.signals in
    let sum : length (h.served ++ one ∷ []) ≡ length h.served + length (one ∷ []) =
    length-append h.served (one ∷ []) in
    let same : length h.served ≡ waits = h.waits in
    let found_one : slice_get signals waits ≡ Some (get_or signals waits one) =
    slice_get-get_or signals waits one (omega arith) in
    let one_left : length signals - waits ≡ 1 = omega arith in
    one_left ∙ sym (ap (λ (o : Option Signal). cond (is_none o) 0 1) found_one)

kept_standing : (m : Made) (n : ℕ) (o : Option (Option ℕ)) → MatchOption o ⊥ (IsBinary m n)
    → standing_of m n ≡ cond (is_none (binary_pair m n)) 0 1
kept_standing m n None h = absurd h
kept_standing m n (Some standing) h = stands_one m n standing h

pub standing_is : (t : Trace) (m : Made) (s : Semaphores) (n : ℕ) → SemaphoresStandFor t m s
    → semaphore_kind t n
    ≡ Some Binary → standing_of m n ≡ cond (is_none (binary_pair m n)) 0 1
standing_is t m s n stands binary = kept_standing m n (get nat_cmp s.binaries n) (stands.binaries n binary)

-- so far all pass

all_one : (a b : Bool) → a ≡ true → b ≡ true → (a && b) ≡ true
all_one true b p q = q
all_one false b p q = cc

all_both : {X : Type 0} (p : X → Bool) (xs ys : List X) → list_all p (xs ++ ys)
    ≡ (list_all p xs && list_all p ys)
all_both p [] ys = refl
all_both p (x ∷ xs) ys = ap (λ (b : Bool). p x && b) (all_both p xs ys)
    ∙ sym (and_joined (p x) (list_all p xs) (list_all p ys))
  where
    and_joined : (a b c : Bool) → ((a && b) && c) ≡ (a && (b && c))
    and_joined true b c = refl
    and_joined false b c = refl

pub all_more : {X : Type 0} (p : X → Bool) (xs : List X) (i : ℕ) (d : X) → i < length xs
    → list_all p (take i xs) ≡ true → p (get_or xs i d) ≡ true → list_all p (take (i + 1) xs) ≡ true
all_more p xs i d l before here =
    ap (list_all p) (take_more xs i d l) ∙ all_both p (take i xs) (get_or xs i d ∷ [])
    ∙ all_one (list_all p (take i xs)) (list_all p (get_or xs i d ∷ [])) before
    (all_one (p (get_or xs i d)) true here refl)

pub one_fails : {X : Type 0} (p : X → Bool) (xs : List X) (i : ℕ) (d : X) → i < length xs
    → p (get_or xs i d) ≡ false → list_all p xs ≡ false
one_fails p [] i d l e = absurd (omega arith)
one_fails p (x ∷ xs) zero d l e = ap (λ (b : Bool). b && list_all p xs) e
one_fails p (x ∷ xs) (suc i) d l e = ap (λ (b : Bool). p x && b) (one_fails p xs i d (omega arith) e)
    ∙ and_false (p x)
  where
    and_false : (a : Bool) → (a && false) ≡ false
    and_false true = refl
    and_false false = refl
