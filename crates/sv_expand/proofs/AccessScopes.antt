-- Access scopes from rows of usages, and which accesses the named stages have.
use Rattle.std.proofs.Common.{ℕ, zero, suc, ◌≡◌, ◌<◌, ◌^◌, Bool, true, false, not, ◌&&◌, ◌||◌, nat_lt}
use Rattle.std.proofs.Common.{nat_eq, List, [], ◌∷◌, map, get_or, arith, refl, sym, ap, ◌∙◌, IsTrue}
use Rattle.std.specs.Int.RustNames.{bit_and}
use Rattle.std.specs.List.{list_any, list_all, range_with_len}
use Rattle.std.proofs.lemmas.Bool.{ltb-true, lt-ltb, eq-eqb, and_parts}
use Rattle.sv_mask.specs.Sets.{Has, has}
use Rattle.sv_mask.specs.Scopes.{number_where, first_sync, second_sync, access, usages_at, supported}
use Rattle.sv_mask.specs.Scopes.{names_usage, has_usage_at, IsAtStages}
use Rattle.sv_mask.specs.Usages.{stage_of, access_of, is_write, stages, accesses}
use Rattle.sv_mask.specs.declared.stage.StageWord.{StageWord}
use Rattle.sv_mask.specs.declared.access.AccessWord.{AccessWord}
use Rattle.sv_expand.specs.declared.rows.TheConstants.{USAGES_AT, USAGES_WITH, ACCESSES_AT, PLAIN_ACCESSES}
use Rattle.sv_expand.specs.declared.rows.TheConstants.{READS, WRITES}
use Rattle.sv_expand.specs.Rows.{in_rows}
use Rattle.sv_expand.proofs.BitLemmas.{has-number_where, has-and, number_where-lt, same_from_has}
use Rattle.sv_expand.proofs.StageScopes.{first_sync-named, second_sync-named}
use Rattle.sv_expand.proofs.RowLemmas.{in_rows-where, any-single, any-swap, decided, and-false, and-true}

usages_at_rows : USAGES_AT ≡ map (λ stage. number_where 43 (λ u. nat_eq (stage_of u) stage))
    (range_with_len 0 17)
unfolding number_where
usages_at_rows = refl

usages_with_rows : USAGES_WITH ≡ map (λ access. number_where 43 (λ u. nat_eq (access_of u) access))
    (range_with_len 0 16)
unfolding number_where
usages_with_rows = refl

-- a stage has an access
abbrev has_access : ℕ → ℕ → Bool
has_access stage a = list_any (λ u. nat_eq (stage_of u) stage && nat_eq (access_of u) a) (range_with_len 0 43)

accesses_at_rows : ACCESSES_AT ≡ map (λ stage. number_where 16 (has_access stage)) (range_with_len 0 17)
unfolding number_where
accesses_at_rows = refl

reads : READS ≡ number_where 43 (λ u. not (is_write u))
unfolding number_where
reads = refl

writes : WRITES ≡ number_where 43 is_write
unfolding number_where
writes = refl

plain_accesses : PLAIN_ACCESSES ≡ number_where 16 (λ _. true)
unfolding number_where
plain_accesses = refl

-- a table whose entries are below a bound
below_bound : (n : ℕ) (xs : List ℕ) (i : ℕ) → 0 < n → IsTrue (list_all (λ x. nat_lt x n) xs) → get_or xs i 0
    < n
below_bound n [] i some h = some
below_bound n (x ∷ xs) zero some h = ltb-true x n (and_parts _ _ h).0
below_bound n (x ∷ xs) (suc i) some h = below_bound n xs i some (and_parts _ _ h).1

stage_of-lt : (u : ℕ) → stage_of u < 17
stage_of-lt u = below_bound 17 stages u (omega arith) refl

access_of-lt : (u : ℕ) → access_of u < 16
access_of-lt u = below_bound 16 accesses u (omega arith) refl

-- the parts of an access scope, for a number that is a usage and for one that is not
parts : (usage s a r w read write : Bool) → ((usage && s) &&
    (((usage && a) || (r && (usage && read))) || (w && (usage && write))))
    ≡ (usage && (s && ((a || (r && read)) || (w && write))))
parts true s a r w read write = refl
parts false s a r w read write = refl

pub access-rows : (word : StageWord) (named : AccessWord) (at plain with_reads with_writes : ℕ)
    → ((k : ℕ) → has at k ≡ in_rows word.plain.0 USAGES_AT k)
    → ((k : ℕ) → has plain k ≡ in_rows named.plain.0 USAGES_WITH k)
    → ((k : ℕ) → has with_reads k ≡ (has plain k || (named.memory_read && has READS k)))
    → ((k : ℕ) → has with_writes k ≡ (has with_reads k || (named.memory_write && has WRITES k)))
    → bit_and at with_writes ≡ (access word named).0
unfolding access
access-rows word named at plain with_reads with_writes by_stage by_access by_reads by_writes =
    same_from_has (bit_and at with_writes) (number_where 43
    (λ u. has word.plain.0 (stage_of u) && names_usage named u)) (λ k.
    let usage : Bool = nat_lt k 43 in
    let at_k : has at k ≡ (usage && has word.plain.0 (stage_of k)) =
    by_stage k ∙ in_rows-where word.plain.0 43 17 USAGES_AT (λ j u. nat_eq (stage_of u) j) k usages_at_rows
    ∙ ap (λ b. usage && b) (any-single (has word.plain.0) (stage_of k) 17 (stage_of-lt k)) in
    let plain_k : has plain k ≡ (usage && has named.plain.0 (access_of k)) =
    by_access k ∙ in_rows-where named.plain.0 43 16 USAGES_WITH
    (λ j u. nat_eq (access_of u) j) k usages_with_rows
    ∙ ap (λ b. usage && b) (any-single (has named.plain.0) (access_of k) 16 (access_of-lt k)) in
    let read_k : has READS k ≡ (usage && not (is_write k)) = ap (λ s. has s k) reads
    ∙ has-number_where 43 (λ u. not (is_write u)) k in
    let write_k : has WRITES k ≡ (usage && is_write k) = ap (λ s. has s k) writes
    ∙ has-number_where 43 is_write k in
    let all_k : has with_writes k ≡ (((usage && has named.plain.0 (access_of k))
    || (named.memory_read && (usage && not (is_write k))))
    || (named.memory_write && (usage && is_write k))) =
    by_writes k ∙ ap (λ b. b || (named.memory_write && has WRITES k)) (by_reads k)
    ∙ ap (λ b. (b || (named.memory_read && has READS k)) || (named.memory_write && has WRITES k)) plain_k
    ∙ ap (λ b. ((usage && has named.plain.0 (access_of k)) || (named.memory_read && b))
    || (named.memory_write && has WRITES k)) read_k
    ∙ ap (λ b. ((usage && has named.plain.0 (access_of k))
    || (named.memory_read && (usage && not (is_write k)))) || (named.memory_write && b)) write_k in
    has-and at with_writes k
    ∙ ap (λ b. b && has with_writes k) at_k
    ∙ ap (λ b. (usage && has word.plain.0 (stage_of k)) && b) all_k
    ∙ parts usage (has word.plain.0 (stage_of k))
    (has named.plain.0 (access_of k)) named.memory_read named.memory_write (not (is_write k)) (is_write k)
    ∙ sym (has-number_where 43 (λ u. has word.plain.0 (stage_of u) && names_usage named u) k))

-- the members of the union of the accesses that the named stages have
at_stages : (word : StageWord) (at k : ℕ) → has at k ≡ in_rows word.plain.0 ACCESSES_AT k → has at k
    ≡ (nat_lt k 16 && has_usage_at word k)
at_stages word at k by_stage =
    by_stage ∙ in_rows-where word.plain.0 16 17 ACCESSES_AT has_access k accesses_at_rows
    ∙ ap (λ b. nat_lt k 16 && b) (any-swap (has word.plain.0) stage_of
    (λ u. nat_eq (access_of u) k) 17 stage_of-lt (range_with_len 0 43))

plain_has : (set k : ℕ) → has (bit_and set PLAIN_ACCESSES) k ≡ (has set k && nat_lt k 16)
plain_has set k = has-and set PLAIN_ACCESSES k ∙ ap (λ b. has set k && b)
    (ap (λ s. has s k) plain_accesses ∙ has-number_where 16 (λ _. true) k ∙ and-true (nat_lt k 16))

-- an access that is named is one that the stages have
kept : (plain usage named : Bool) → (plain ≡ true → (not named || usage) ≡ true)
    → ((plain && usage) && (named && plain)) ≡ (named && plain)
kept false usage named has_it = sym (and-false named)
kept true usage false has_it = and-false usage
kept true usage true has_it = let e : usage ≡ true = has_it refl in rw e refl

lost : (usage named : Bool) → ((true && usage) && (named && true)) ≡ (named && true) → (not named || usage)
    ≡ true
lost usage false same = refl
lost true true same = refl
lost false true same = same

pub supported-rows : (word : StageWord) (named : AccessWord) (at : ℕ)
    → ((k : ℕ) → has at k ≡ in_rows word.plain.0 ACCESSES_AT k)
    → nat_eq (bit_and at (bit_and named.plain.0 PLAIN_ACCESSES)) (bit_and named.plain.0 PLAIN_ACCESSES)
    ≡ supported word named
unfolding supported
supported-rows word named at by_stage =
    let low : ℕ = bit_and named.plain.0 PLAIN_ACCESSES in
    let both : (k : ℕ) → has (bit_and at low) k ≡
    ((nat_lt k 16 && has_usage_at word k) && (has named.plain.0 k && nat_lt k 16)) =
    λ k. has-and at low k ∙ ap (λ b. b && has low k) (at_stages word at k (by_stage k))
    ∙ ap (λ b. (nat_lt k 16 && has_usage_at word k) && b) (plain_has named.plain.0 k) in
    decided (λ a. not (has named.plain.0 a) || has_usage_at word a) 16 (bit_and at low) low
    (λ each k. both k ∙ kept (nat_lt k 16) (has_usage_at word k) (has named.plain.0 k)
    (λ inside. each k (ltb-true k 16 inside)) ∙ sym (plain_has named.plain.0 k))
    (λ same k inside.
    let first : nat_lt k 16 ≡ true = lt-ltb k 16 inside in
    let e : ((nat_lt k 16 && has_usage_at word k) && (has named.plain.0 k && nat_lt k 16))
    ≡ (has named.plain.0 k && nat_lt k 16) = sym (both k) ∙ ap (λ s. has s k) same
    ∙ plain_has named.plain.0 k in
    lost (has_usage_at word k) (has named.plain.0 k) (rw first at e))

-- the usages of a mask's stages
pub usages_at-rows : (word : StageWord) (at : ℕ) → ((k : ℕ) → has at k ≡ in_rows word.plain.0 USAGES_AT k)
    → at ≡ (usages_at word).0
unfolding usages_at
usages_at-rows word at by_stage =
    same_from_has at (number_where 43 (λ u. has word.plain.0 (stage_of u))) (λ k.
    by_stage k ∙ in_rows-where word.plain.0 43 17 USAGES_AT (λ j u. nat_eq (stage_of u) j) k usages_at_rows
    ∙ ap (λ b. nat_lt k 43 && b) (any-single (has word.plain.0) (stage_of k) 17 (stage_of-lt k))
    ∙ sym (has-number_where 43 (λ u. has word.plain.0 (stage_of u)) k))

has_from : (n k : ℕ) → Has n k → has n k ≡ true
has_from n k there = eq-eqb _ _ there

access_names : (word : StageWord) (named : AccessWord) (u : ℕ) → Has (access word named).0 u
    → has word.plain.0 (stage_of u) ≡ true
unfolding access
access_names word named u there =
    let e = sym (has-number_where 43 (λ v. has word.plain.0 (stage_of v) && names_usage named v) u)
    ∙ has_from _ u there in
    (and_parts _ _ (and_parts _ _ e).1).0

usages_at_names : (word : StageWord) (u : ℕ) → Has (usages_at word).0 u → has word.plain.0 (stage_of u) ≡ true
unfolding usages_at
usages_at_names word u there =
    let e = sym (has-number_where 43 (λ v. has word.plain.0 (stage_of v)) u) ∙ has_from _ u there in
    (and_parts _ _ e).1

-- each usage of an access scope has its stage in the stage scope
pub access-first : (word : StageWord) (named : AccessWord) → IsAtStages (access word named) (first_sync word)
access-first word named u there = first_sync-named word (stage_of u) (stage_of-lt u)
    (access_names word named u there)

pub access-second : (word : StageWord) (named : AccessWord)
    → IsAtStages (access word named) (second_sync word)
access-second word named u there = second_sync-named word (stage_of u) (stage_of-lt u)
    (access_names word named u there)

pub usages_at-first : (word : StageWord) → IsAtStages (usages_at word) (first_sync word)
usages_at-first word u there = first_sync-named word (stage_of u) (stage_of-lt u)
    (usages_at_names word u there)

pub usages_at-second : (word : StageWord) → IsAtStages (usages_at word) (second_sync word)
usages_at-second word u there = second_sync-named word (stage_of u) (stage_of-lt u)
    (usages_at_names word u there)

pub access-lt : (word : StageWord) (named : AccessWord) → (access word named).0 < 2 ^ 43
unfolding access
access-lt word named = number_where-lt 43 _
