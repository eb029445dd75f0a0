-- Synchronization scopes from rows of the logical order.
use Rattle.std.proofs.Common.{ℕ, ◌≡◌, ◌<◌, ◌≤◌, ◌^◌, Bool, true, false, not, nat_eq, ◌&&◌, ◌||◌, nat_lt}
use Rattle.std.proofs.Common.{◌⊎◌, inl, inr, List, map, get_or, arith, refl, sym, ap, ◌∙◌}
use Rattle.std.specs.Int.RustNames.{bit_and}
use Rattle.std.specs.List.{list_any, list_all, range_with_len}
use Rattle.std.proofs.lemmas.Bool.{cases_Bool, ltb-false, le-ltb, lt-ltb, eq-eqb, eqb-true}
use Rattle.std.proofs.lemmas.List.Folds.{list_any_at}
use Rattle.std.proofs.lemmas.List.FromFn.{get_or-range_with_len, length-range_with_len}
use Rattle.std.proofs.lemmas.Nat.{and_le_r}
use Rattle.sv_mask.specs.Sets.{Has, has}
use Rattle.sv_mask.specs.Scopes.{number_where, precedes, first_sync, second_sync}
use Rattle.sv_mask.specs.declared.stage.StageWord.{StageWord}
use Rattle.sv_expand.specs.Rows.{in_rows}
use Rattle.sv_expand.specs.declared.rows.TheConstants.{EARLIER, LATER, DEVICE_STAGES, PLAIN_STAGES}
use Rattle.sv_expand.proofs.BitLemmas.{has-number_where, has-and, same_from_has, number_where-lt}
use Rattle.sv_expand.proofs.RowLemmas.{in_rows-where, all-holds, all-same, and-false, and-true}

earlier_rows : EARLIER ≡ map (λ k. number_where 17 (λ j. precedes j k)) (range_with_len 0 17)
unfolding number_where
earlier_rows = refl

later_rows : LATER ≡ map (λ j. number_where 17 (precedes j)) (range_with_len 0 17)
unfolding number_where
later_rows = refl

device_stages : DEVICE_STAGES ≡ number_where 16 (λ _. true)
unfolding number_where
device_stages = refl

-- whether k is among the first 16, and among the first 17
device_first : (k : ℕ) (x flag : Bool) → (nat_lt k 17 ≡ true) ⊎ (nat_lt k 17 ≡ false)
    → ((nat_lt k 17 && x) || (flag && nat_lt k 16)) ≡ (nat_lt k 17 && (x || (flag && nat_lt k 16)))
device_first k x flag (inl inside) = rw inside refl
device_first k x flag (inr outside) =
    let high : 17 ≤ k = ltb-false k 17 outside in
    let also : nat_lt k 16 ≡ false = le-ltb k 16 (omega arith) in
    rw outside (rw also (and-false flag))

device_has : (k : ℕ) → has DEVICE_STAGES k ≡ nat_lt k 16
device_has k = ap (λ s. has s k) device_stages ∙ has-number_where 16 (λ _. true) k ∙ and-true (nat_lt k 16)

-- the union of the named stages' rows, and all stages but host where a flag is given
scope_from : (set named all : ℕ) (flag : Bool) (rows : List ℕ) (test : ℕ → ℕ → Bool) → rows
    ≡ map (λ j. number_where 17 (test j)) (range_with_len 0 17)
    → ((k : ℕ) → has named k ≡ list_any (λ j. has set j && has (get_or rows j 0) k) (range_with_len 0 17))
    → ((k : ℕ) → has all k ≡ (has named k || (flag && has DEVICE_STAGES k))) → all
    ≡ number_where 17 (λ k. list_any (λ j. has set j && test j k) (range_with_len 0 17)
    || (flag && nat_lt k 16))
scope_from set named all flag rows test are by_rows by_flag =
    let some : ℕ → Bool = λ k. list_any (λ j. has set j && test j k) (range_with_len 0 17) in
    same_from_has all (number_where 17 (λ k. some k || (flag && nat_lt k 16))) (λ k.
    by_flag k
    ∙ ap (λ b. b || (flag && has DEVICE_STAGES k)) (by_rows k ∙ in_rows-where set 17 17 rows test k are)
    ∙ ap (λ b. (nat_lt k 17 && some k) || (flag && b)) (device_has k)
    ∙ device_first k (some k) flag (cases_Bool (nat_lt k 17))
    ∙ sym (has-number_where 17 (λ i. some i || (flag && nat_lt i 16)) k))

-- the two scopes
pub first_sync-rows : (word : StageWord) (named all : ℕ)
    → ((k : ℕ) → has named k ≡ in_rows word.plain.0 EARLIER k)
    → ((k : ℕ) → has all k ≡ (has named k || (word.bottom && has DEVICE_STAGES k))) → all
    ≡ (first_sync word).0
unfolding first_sync
first_sync-rows word named all by_rows by_flag = scope_from word.plain.0 named all word.bottom EARLIER
    (λ j k. precedes k j) earlier_rows by_rows by_flag

pub second_sync-rows : (word : StageWord) (named all : ℕ)
    → ((k : ℕ) → has named k ≡ in_rows word.plain.0 LATER k)
    → ((k : ℕ) → has all k ≡ (has named k || (word.top && has DEVICE_STAGES k))) → all
    ≡ (second_sync word).0
unfolding second_sync
second_sync-rows word named all by_rows by_flag =
    scope_from word.plain.0 named all word.top LATER precedes later_rows by_rows by_flag

first_sync-lt : (word : StageWord) → (first_sync word).0 < 2 ^ 17
unfolding first_sync
first_sync-lt word = number_where-lt 17 _

second_sync-lt : (word : StageWord) → (second_sync word).0 < 2 ^ 17
unfolding second_sync
second_sync-lt word = number_where-lt 17 _

-- they fit 32 bits
pub first_sync-small : (word : StageWord) (all : ℕ) → all ≡ (first_sync word).0 → all < 2 ^ 32
first_sync-small word all is = let small = first_sync-lt word in omega arith

pub second_sync-small : (word : StageWord) (all : ℕ) → all ≡ (second_sync word).0 → all < 2 ^ 32
second_sync-small word all is = let small = second_sync-lt word in omega arith

-- a stage comes logically before itself, so that a named stage is in both scopes
precedes_same : (k : ℕ) → precedes k k ≡ true
precedes_same k = let e : nat_eq k k ≡ true = eq-eqb k k refl in rw e refl

some_named : (set s : ℕ) (test : ℕ → Bool) → s < 17 → has set s ≡ true → test s ≡ true
    → list_any (λ j. has set j && test j) (range_with_len 0 17) ≡ true
some_named set s test inside there passes =
    let place : get_or (range_with_len 0 17) s 0 ≡ s = get_or-range_with_len 0 17 s 0 inside ∙ omega arith in
    list_any_at (λ j. has set j && test j) (range_with_len 0 17) s 0
    (rw (length-range_with_len 0 17) inside) (rw place (rw there passes))

scope_has : (some : ℕ → Bool) (flag : Bool) (s : ℕ) → s < 17 → some s ≡ true
    → Has (number_where 17 (λ k. some k || (flag && nat_lt k 16))) s
scope_has some flag s inside there =
    let first : nat_lt s 17 ≡ true = lt-ltb s 17 inside in
    let e : has (number_where 17 (λ k. some k || (flag && nat_lt k 16))) s ≡ true =
    has-number_where 17 (λ k. some k || (flag && nat_lt k 16)) s ∙ rw first (rw there refl) in
    eqb-true _ _ e

pub first_sync-named : (word : StageWord) (s : ℕ) → s < 17 → has word.plain.0 s ≡ true
    → Has (first_sync word).0 s
unfolding first_sync
first_sync-named word s inside there =
    scope_has (λ k. list_any (λ j. has word.plain.0 j && precedes k j) (range_with_len 0 17)) word.bottom s
    inside (some_named word.plain.0 s (precedes s) inside there (precedes_same s))

pub second_sync-named : (word : StageWord) (s : ℕ) → s < 17 → has word.plain.0 s ≡ true
    → Has (second_sync word).0 s
unfolding second_sync
second_sync-named word s inside there =
    scope_has (λ k. list_any (λ j. has word.plain.0 j && precedes j k) (range_with_len 0 17)) word.top s
    inside (some_named word.plain.0 s (λ j. precedes j s) inside there (precedes_same s))

plain_stages : PLAIN_STAGES ≡ number_where 17 (λ _. true)
unfolding number_where
plain_stages = refl

plain_has : (k : ℕ) → k < 17 → has PLAIN_STAGES k ≡ true
plain_has k inside = let first : nat_lt k 17 ≡ true = lt-ltb k 17 inside in ap (λ s. has s k) plain_stages
    ∙ has-number_where 17 (λ _. true) k ∙ rw first refl

pub plain-lt : (set : ℕ) → bit_and set PLAIN_STAGES < 2 ^ 17
plain-lt set = let le = and_le_r set PLAIN_STAGES in omega arith

-- the named stages of a mask, without the bits that name nothing
pub plain-all : (set other : ℕ) → list_all (λ k. not (has (bit_and other PLAIN_STAGES) k) || has set k)
    (range_with_len 0 17) ≡ list_all (λ k. not (has other k) || has set k) (range_with_len 0 17)
plain-all set other =
    all-same (λ k. not (has (bit_and other PLAIN_STAGES) k) || has set k)
    (λ k. not (has other k) || has set k) 0 17
    (λ k inside. ap (λ b. not b || has set k) (has-and other PLAIN_STAGES k
    ∙ ap (λ b. has other k && b) (plain_has k (omega arith)) ∙ and-true (has other k)))

device_in : (k : ℕ) → k < 16 → has DEVICE_STAGES k ≡ true
device_in k inside = device_has k ∙ lt-ltb k 16 inside

pub device-all : (set : ℕ) → nat_eq (bit_and set DEVICE_STAGES) DEVICE_STAGES
    ≡ list_all (has set) (range_with_len 0 16)
device-all set =
    all-holds set DEVICE_STAGES 16 (omega arith)
    ∙ all-same (λ k. not (has DEVICE_STAGES k) || has set k) (has set) 0 16
    (λ k inside. ap (λ b. not b || has set k) (device_in k (omega arith)))
