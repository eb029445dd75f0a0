-- What `clap` reads of words that are no flags.
use Rattle.std.proofs.Common.{◌≡◌, ◌≤◌, ◌<◌, ◌+◌, ◌-◌, ℕ, zero, suc, Bool, true, false, List, [], ◌∷◌, Some}
use Rattle.std.proofs.Common.{None, refl, codes, subst, arith}
use Rattle.std.specs.Prelude.{◌&&◌, nat_le}
use Rattle.std.proofs.lemmas.Bool.{leb-true}
use Rattle.clap.specs.Words.{is_simple}
use Rattle.clap.proofs.OnLiterals.{clap_on_literals}
use Rattle.sv_words.specs.Reading.{Reads, command}
use Rattle.sv_words.specs.Words.{is_digit}

pub simple : is_simple command ≡ true
unfolding clap_on_literals
simple = refl

pub both_hold : (a b : Bool) → (a && b) ≡ true → (a ≡ true) × (b ≡ true)
both_hold true b e = (refl, e)
both_hold false b e = absurd (let f : false ≡ true = e in cc)

of_offset : (P : ℕ → Type 0) → P 48 → P 49 → P 50 → P 51 → P 52 → P 53 → P 54 → P 55 → P 56 → P 57 → (k : ℕ)
    → k < 10 → P (48 + k)
of_offset P p0 p1 p2 p3 p4 p5 p6 p7 p8 p9 zero lt = p0
of_offset P p0 p1 p2 p3 p4 p5 p6 p7 p8 p9 (suc zero) lt = p1
of_offset P p0 p1 p2 p3 p4 p5 p6 p7 p8 p9 (suc (suc zero)) lt = p2
of_offset P p0 p1 p2 p3 p4 p5 p6 p7 p8 p9 (suc (suc (suc zero))) lt = p3
of_offset P p0 p1 p2 p3 p4 p5 p6 p7 p8 p9 (suc (suc (suc (suc zero)))) lt = p4
of_offset P p0 p1 p2 p3 p4 p5 p6 p7 p8 p9 (suc (suc (suc (suc (suc zero))))) lt = p5
of_offset P p0 p1 p2 p3 p4 p5 p6 p7 p8 p9 (suc (suc (suc (suc (suc (suc zero)))))) lt = p6
of_offset P p0 p1 p2 p3 p4 p5 p6 p7 p8 p9 (suc (suc (suc (suc (suc (suc (suc zero))))))) lt = p7
of_offset P p0 p1 p2 p3 p4 p5 p6 p7 p8 p9 (suc (suc (suc (suc (suc (suc (suc (suc zero)))))))) lt = p8
of_offset P p0 p1 p2 p3 p4 p5 p6 p7 p8 p9 (suc (suc (suc (suc (suc (suc (suc (suc (suc zero))))))))) lt = p9
of_offset P p0 p1 p2 p3 p4 p5 p6 p7 p8 p9 (suc (suc (suc (suc (suc (suc (suc (suc (suc (suc k)))))))))) lt =
    absurd (omega (arith, lt))

-- what holds of each digit holds of what is a digit
of_digit : (P : ℕ → Type 0) → P 48 → P 49 → P 50 → P 51 → P 52 → P 53 → P 54 → P 55 → P 56 → P 57 → (c : ℕ)
    → is_digit c ≡ true → P c
of_digit P p0 p1 p2 p3 p4 p5 p6 p7 p8 p9 c is =
    let low : 48 ≤ c = leb-true 48 c (both_hold (nat_le 48 c) (nat_le c 57) is).0 in
    let high : c ≤ 57 = leb-true c 57 (both_hold (nat_le 48 c) (nat_le c 57) is).1 in
    let offset : 48 + (c - 48) ≡ c = omega (arith, low) in
    let few : c - 48 < 10 = omega (arith, low, high) in
    subst P offset (of_offset P p0 p1 p2 p3 p4 p5 p6 p7 p8 p9 (c - 48) few)

pub check_alone : Reads (codes "check" ∷ []) (Some (codes "check")) None None
unfolding clap_on_literals
check_alone = (refl, refl, refl)

pub replay_alone : Reads (codes "replay" ∷ []) (Some (codes "replay")) None None
unfolding clap_on_literals
replay_alone = (refl, refl, refl)

abbrev Reads_gen : List ℕ → List ℕ → ℕ → ℕ → Type 0
Reads_gen seed count d e = Reads (codes "gen" ∷ (d ∷ seed) ∷ (e ∷ count) ∷ []) (Some (codes "gen"))
    (Some (d ∷ seed)) (Some (e ∷ count))

gen_48 : (seed count : List ℕ) (e : ℕ) → is_digit e ≡ true → Reads_gen seed count 48 e
unfolding clap_on_literals
gen_48 seed count e is = of_digit (Reads_gen seed count 48) (refl, refl, refl) (refl, refl, refl)
    (refl, refl, refl) (refl, refl, refl) (refl, refl, refl) (refl, refl, refl) (refl, refl, refl)
    (refl, refl, refl) (refl, refl, refl) (refl, refl, refl) e is

gen_49 : (seed count : List ℕ) (e : ℕ) → is_digit e ≡ true → Reads_gen seed count 49 e
unfolding clap_on_literals
gen_49 seed count e is = of_digit (Reads_gen seed count 49) (refl, refl, refl) (refl, refl, refl)
    (refl, refl, refl) (refl, refl, refl) (refl, refl, refl) (refl, refl, refl) (refl, refl, refl)
    (refl, refl, refl) (refl, refl, refl) (refl, refl, refl) e is

gen_50 : (seed count : List ℕ) (e : ℕ) → is_digit e ≡ true → Reads_gen seed count 50 e
unfolding clap_on_literals
gen_50 seed count e is = of_digit (Reads_gen seed count 50) (refl, refl, refl) (refl, refl, refl)
    (refl, refl, refl) (refl, refl, refl) (refl, refl, refl) (refl, refl, refl) (refl, refl, refl)
    (refl, refl, refl) (refl, refl, refl) (refl, refl, refl) e is

gen_51 : (seed count : List ℕ) (e : ℕ) → is_digit e ≡ true → Reads_gen seed count 51 e
unfolding clap_on_literals
gen_51 seed count e is = of_digit (Reads_gen seed count 51) (refl, refl, refl) (refl, refl, refl)
    (refl, refl, refl) (refl, refl, refl) (refl, refl, refl) (refl, refl, refl) (refl, refl, refl)
    (refl, refl, refl) (refl, refl, refl) (refl, refl, refl) e is

gen_52 : (seed count : List ℕ) (e : ℕ) → is_digit e ≡ true → Reads_gen seed count 52 e
unfolding clap_on_literals
gen_52 seed count e is = of_digit (Reads_gen seed count 52) (refl, refl, refl) (refl, refl, refl)
    (refl, refl, refl) (refl, refl, refl) (refl, refl, refl) (refl, refl, refl) (refl, refl, refl)
    (refl, refl, refl) (refl, refl, refl) (refl, refl, refl) e is

gen_53 : (seed count : List ℕ) (e : ℕ) → is_digit e ≡ true → Reads_gen seed count 53 e
unfolding clap_on_literals
gen_53 seed count e is = of_digit (Reads_gen seed count 53) (refl, refl, refl) (refl, refl, refl)
    (refl, refl, refl) (refl, refl, refl) (refl, refl, refl) (refl, refl, refl) (refl, refl, refl)
    (refl, refl, refl) (refl, refl, refl) (refl, refl, refl) e is

gen_54 : (seed count : List ℕ) (e : ℕ) → is_digit e ≡ true → Reads_gen seed count 54 e
unfolding clap_on_literals
gen_54 seed count e is = of_digit (Reads_gen seed count 54) (refl, refl, refl) (refl, refl, refl)
    (refl, refl, refl) (refl, refl, refl) (refl, refl, refl) (refl, refl, refl) (refl, refl, refl)
    (refl, refl, refl) (refl, refl, refl) (refl, refl, refl) e is

gen_55 : (seed count : List ℕ) (e : ℕ) → is_digit e ≡ true → Reads_gen seed count 55 e
unfolding clap_on_literals
gen_55 seed count e is = of_digit (Reads_gen seed count 55) (refl, refl, refl) (refl, refl, refl)
    (refl, refl, refl) (refl, refl, refl) (refl, refl, refl) (refl, refl, refl) (refl, refl, refl)
    (refl, refl, refl) (refl, refl, refl) (refl, refl, refl) e is

gen_56 : (seed count : List ℕ) (e : ℕ) → is_digit e ≡ true → Reads_gen seed count 56 e
unfolding clap_on_literals
gen_56 seed count e is = of_digit (Reads_gen seed count 56) (refl, refl, refl) (refl, refl, refl)
    (refl, refl, refl) (refl, refl, refl) (refl, refl, refl) (refl, refl, refl) (refl, refl, refl)
    (refl, refl, refl) (refl, refl, refl) (refl, refl, refl) e is

gen_57 : (seed count : List ℕ) (e : ℕ) → is_digit e ≡ true → Reads_gen seed count 57 e
unfolding clap_on_literals
gen_57 seed count e is = of_digit (Reads_gen seed count 57) (refl, refl, refl) (refl, refl, refl)
    (refl, refl, refl) (refl, refl, refl) (refl, refl, refl) (refl, refl, refl) (refl, refl, refl)
    (refl, refl, refl) (refl, refl, refl) (refl, refl, refl) e is

pub gen_read : (seed count : List ℕ) (d e : ℕ) → is_digit d ≡ true → is_digit e ≡ true
    → Reads_gen seed count d e
gen_read seed count d e is k = of_digit (λ x. Reads_gen seed count x e) (gen_48 seed count e k)
    (gen_49 seed count e k) (gen_50 seed count e k) (gen_51 seed count e k) (gen_52 seed count e k)
    (gen_53 seed count e k) (gen_54 seed count e k) (gen_55 seed count e k) (gen_56 seed count e k)
    (gen_57 seed count e k) d is

abbrev Reads_bench : List ℕ → List ℕ → ℕ → ℕ → Type 0
Reads_bench seed count d e = Reads (codes "bench" ∷ (d ∷ seed) ∷ (e ∷ count) ∷ []) (Some (codes "bench"))
    (Some (d ∷ seed)) (Some (e ∷ count))

bench_48 : (seed count : List ℕ) (e : ℕ) → is_digit e ≡ true → Reads_bench seed count 48 e
unfolding clap_on_literals
bench_48 seed count e is = of_digit (Reads_bench seed count 48) (refl, refl, refl) (refl, refl, refl)
    (refl, refl, refl) (refl, refl, refl) (refl, refl, refl) (refl, refl, refl) (refl, refl, refl)
    (refl, refl, refl) (refl, refl, refl) (refl, refl, refl) e is

bench_49 : (seed count : List ℕ) (e : ℕ) → is_digit e ≡ true → Reads_bench seed count 49 e
unfolding clap_on_literals
bench_49 seed count e is = of_digit (Reads_bench seed count 49) (refl, refl, refl) (refl, refl, refl)
    (refl, refl, refl) (refl, refl, refl) (refl, refl, refl) (refl, refl, refl) (refl, refl, refl)
    (refl, refl, refl) (refl, refl, refl) (refl, refl, refl) e is

bench_50 : (seed count : List ℕ) (e : ℕ) → is_digit e ≡ true → Reads_bench seed count 50 e
unfolding clap_on_literals
bench_50 seed count e is = of_digit (Reads_bench seed count 50) (refl, refl, refl) (refl, refl, refl)
    (refl, refl, refl) (refl, refl, refl) (refl, refl, refl) (refl, refl, refl) (refl, refl, refl)
    (refl, refl, refl) (refl, refl, refl) (refl, refl, refl) e is

bench_51 : (seed count : List ℕ) (e : ℕ) → is_digit e ≡ true → Reads_bench seed count 51 e
unfolding clap_on_literals
bench_51 seed count e is = of_digit (Reads_bench seed count 51) (refl, refl, refl) (refl, refl, refl)
    (refl, refl, refl) (refl, refl, refl) (refl, refl, refl) (refl, refl, refl) (refl, refl, refl)
    (refl, refl, refl) (refl, refl, refl) (refl, refl, refl) e is

bench_52 : (seed count : List ℕ) (e : ℕ) → is_digit e ≡ true → Reads_bench seed count 52 e
unfolding clap_on_literals
bench_52 seed count e is = of_digit (Reads_bench seed count 52) (refl, refl, refl) (refl, refl, refl)
    (refl, refl, refl) (refl, refl, refl) (refl, refl, refl) (refl, refl, refl) (refl, refl, refl)
    (refl, refl, refl) (refl, refl, refl) (refl, refl, refl) e is

bench_53 : (seed count : List ℕ) (e : ℕ) → is_digit e ≡ true → Reads_bench seed count 53 e
unfolding clap_on_literals
bench_53 seed count e is = of_digit (Reads_bench seed count 53) (refl, refl, refl) (refl, refl, refl)
    (refl, refl, refl) (refl, refl, refl) (refl, refl, refl) (refl, refl, refl) (refl, refl, refl)
    (refl, refl, refl) (refl, refl, refl) (refl, refl, refl) e is

bench_54 : (seed count : List ℕ) (e : ℕ) → is_digit e ≡ true → Reads_bench seed count 54 e
unfolding clap_on_literals
bench_54 seed count e is = of_digit (Reads_bench seed count 54) (refl, refl, refl) (refl, refl, refl)
    (refl, refl, refl) (refl, refl, refl) (refl, refl, refl) (refl, refl, refl) (refl, refl, refl)
    (refl, refl, refl) (refl, refl, refl) (refl, refl, refl) e is

bench_55 : (seed count : List ℕ) (e : ℕ) → is_digit e ≡ true → Reads_bench seed count 55 e
unfolding clap_on_literals
bench_55 seed count e is = of_digit (Reads_bench seed count 55) (refl, refl, refl) (refl, refl, refl)
    (refl, refl, refl) (refl, refl, refl) (refl, refl, refl) (refl, refl, refl) (refl, refl, refl)
    (refl, refl, refl) (refl, refl, refl) (refl, refl, refl) e is

bench_56 : (seed count : List ℕ) (e : ℕ) → is_digit e ≡ true → Reads_bench seed count 56 e
unfolding clap_on_literals
bench_56 seed count e is = of_digit (Reads_bench seed count 56) (refl, refl, refl) (refl, refl, refl)
    (refl, refl, refl) (refl, refl, refl) (refl, refl, refl) (refl, refl, refl) (refl, refl, refl)
    (refl, refl, refl) (refl, refl, refl) (refl, refl, refl) e is

bench_57 : (seed count : List ℕ) (e : ℕ) → is_digit e ≡ true → Reads_bench seed count 57 e
unfolding clap_on_literals
bench_57 seed count e is = of_digit (Reads_bench seed count 57) (refl, refl, refl) (refl, refl, refl)
    (refl, refl, refl) (refl, refl, refl) (refl, refl, refl) (refl, refl, refl) (refl, refl, refl)
    (refl, refl, refl) (refl, refl, refl) (refl, refl, refl) e is

pub bench_read : (seed count : List ℕ) (d e : ℕ) → is_digit d ≡ true → is_digit e ≡ true
    → Reads_bench seed count d e
bench_read seed count d e is k = of_digit (λ x. Reads_bench seed count x e) (bench_48 seed count e k)
    (bench_49 seed count e k) (bench_50 seed count e k) (bench_51 seed count e k) (bench_52 seed count e k)
    (bench_53 seed count e k) (bench_54 seed count e k) (bench_55 seed count e k) (bench_56 seed count e k)
    (bench_57 seed count e k) d is
