-- Lines that declare resources, from the last to the first.
use Rattle.std.proofs.Common.{ℕ, suc, ◌≡◌, ◌<◌, ◌≤◌, ◌+◌, ◌-◌, ◌==◌, ◌∙◌, Bool, true, false, if◌then◌else◌}
use Rattle.std.proofs.Common.{List, [], ◌∷◌, Option, Some, None, ap, arith, eq-eqb, eqb-true, get_or}
use Rattle.std.proofs.Common.{length, drop, drop-cons, refl, sym, subst}
use Rattle.std.proofs.lemmas.Bool.{true≢false}
use Rattle.sv_model.specs.Declarations.{Resource, said, says_resource}
use Rattle.sv_model.specs.declared.line.Line.{Line}

-- what the first of some lines says
pub first_says : {X : Type 0} (says : Line → Option X) (x : Line) (rest : List Line) (v : X) → says x
    ≡ Some v → said says (x ∷ rest) ≡ Some v
first_says says x rest v is = rw is refl

pub rest_says : {X : Type 0} (says : Line → Option X) (x : Line) (rest : List Line) → says x ≡ None
    → said says (x ∷ rest) ≡ said says rest
rest_says says x rest is = rw is refl

pub other_number : (a b : ℕ) → (b ≡ a → ⊥) → (a == b) ≡ false
other_number a b differ = by_test (a == b) refl where
  by_test : (test : Bool) → (a == b) ≡ test → test ≡ false
  by_test true h = absurd (differ (sym (eqb-true a b h)))
  by_test false h = refl

-- what a line says that declares one resource
pub says_one : (x : Line) (res : ℕ) (is : Resource) (rest : List Line)
    → ((r : ℕ) → says_resource r x ≡ (if res == r then Some is else None)) → (r : ℕ) → r ≡ res
    → said (says_resource r) (x ∷ rest) ≡ Some is
says_one x res is rest says r same = first_says (says_resource r) x rest is
    (says r ∙ ap (λ (b : Bool). if b then Some is else None) (eq-eqb res r (sym same)))

pub says_rest : (x : Line) (res : ℕ) (is : Resource) (rest : List Line)
    → ((r : ℕ) → says_resource r x ≡ (if res == r then Some is else None)) → (r : ℕ) → (r ≡ res → ⊥)
    → said (says_resource r) (x ∷ rest) ≡ said (says_resource r) rest
says_rest x res is rest says r apart = rest_says (says_resource r) x rest
    (says r ∙ ap (λ (b : Bool). if b then Some is else None) (other_number res r apart))

pub same_or_apart : {X : Type 0} (r res : ℕ) → (r ≡ res → X) → ((r ≡ res → ⊥) → X) → X
same_or_apart {X} r res if_same if_apart = by_test (r == res) refl
  where
    by_test : (b : Bool) → (r == res) ≡ b → X
    by_test true h = if_same (eqb-true r res h)
    by_test false h = if_apart (λ s. true≢false (sym (eq-eqb r res s) ∙ h))

-- no line, one line more, and all lines
dropped_all : (xs : List Line) → drop (length xs) xs ≡ []
dropped_all [] = refl
dropped_all (y ∷ xs) = dropped_all xs

-- the lines behind one, with it
next_line : (lines : List Line) (number : ℕ) (d : Line) → number < length lines → d
    ≡ get_or lines (length lines - 1 - number) d → drop (length lines - (number + 1)) lines ≡ d
    ∷ drop (length lines - number) lines
next_line lines number d lt item =
    let k : length lines - (number + 1) ≡ length lines - 1 - number = omega arith in
    let after : length lines - number ≡ suc (length lines - 1 - number) = omega (arith, lt) in
    let within : length lines - 1 - number < length lines = omega (arith, lt) in
    ap (λ (n : ℕ). drop n lines) k ∙ drop-cons lines (length lines - 1 - number) d within
    ∙ (λ j. sym item j ∷ drop (sym after j) lines)

pub lines_none : (P : List Line → Type 0) (lines : List Line) → P [] → P (drop (length lines - 0) lines)
lines_none P lines none =
    let all : length lines - 0 ≡ length lines = omega arith in
    let empty : drop (length lines - 0) lines ≡ [] = ap (λ (n : ℕ). drop n lines) all ∙ dropped_all lines in
    subst P (sym empty) none

pub lines_more : (P Q : List Line → Type 0) (lines : List Line) (number : ℕ) (d : Line) → number
    < length lines → d ≡ get_or lines (length lines - 1 - number) d
    → ((rest : List Line) → P rest → Q (d ∷ rest)) → P (drop (length lines - number) lines)
    → Q (drop (length lines - (number + 1)) lines)
lines_more P Q lines number d lt item adds is = subst Q (sym (next_line lines number d lt item))
    (adds (drop (length lines - number) lines) is)

pub lines_all : (P : List Line → Type 0) (lines : List Line) (number : ℕ) → length lines ≤ number
    → P (drop (length lines - number) lines) → P lines
lines_all P lines number le is = let none : length lines - number ≡ 0 = omega (arith, le) in
    subst (λ (n : ℕ). P (drop n lines)) none is
