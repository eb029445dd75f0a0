-- The numbers of patterns stay those of the groups of a log.
use Rattle.std.proofs.Common.{ℕ, ◌≡◌, ◌<◌, ◌≤◌, ◌+◌, ◌-◌, ◌*◌, ◌/◌, ◌%◌, ◌^◌, List, [], ◌∷◌, ◌++◌, inl, inr}
use Rattle.std.proofs.Common.{arith, refl, sym, ◌∙◌, ap, subst, Contains, length, get_or, take}
use Rattle.std.proofs.Common.{length-append}
use Rattle.std.specs.Int.{bit_at, trailing_zeros, w64}
use Rattle.std.specs.Int.RustNames.{bit_or}
use Rattle.std.proofs.lemmas.Bool.{cases_lt}
use Rattle.std.proofs.lemmas.Bool.Decides.{eqb_tells}
use Rattle.std.proofs.lemmas.List.{take_all, take_more, get_or_append_left, get_or-append_right}
use Rattle.std.proofs.lemmas.List.{get_or_default, get_or-set_other}
use Rattle.std.proofs.lemmas.List.Elements.{Contains-append_left, Contains-get_or, Contains-push}
use Rattle.std.proofs.lemmas.List.Elements.{Contains-push_cases}
use Rattle.std.proofs.lemmas.Nat.{div-add-mod', div-mul-add, shr-shr}
use Rattle.std.proofs.lemmas.Nat.Bits.{bit_at-pow_other, bit_at-pow_same, bit_at-trailing_zeros, bit_at-zero}
use Rattle.std.proofs.lemmas.Grind.{get_or-set_at}
use Rattle.std.proofs.Math.ListN.{set}
use Rattle.std.proofs.Math.Nat.{div-lt_iff_lt-mul}
use Rattle.sv_mask.specs.Sets.{Has}
use Rattle.sv_model.specs.declared.work.Dep.{Dep}
use Rattle.sv_model.specs.declared.work.Group.{Group}
use Rattle.sv_state.specs.Outlines.{AddsNothing, AreFull, AreQuiet, FullAreQuiet, outline}
use Rattle.sv_state.specs.States.{live_of}
use Rattle.sv_state.specs.declared.state.CellState.{CellState}
use Rattle.sv_state.proofs.Unions.{Has-or, Has-or_left, Has-or_right}
use Rattle.sv_space.specs.Patterns.{AreAsked, AreFullPatterns, IsFullPattern}
use Rattle.sv_space.specs.Patterns.{AreMarked, AreMore, AreQuietFrom, AreQuietPatterns, HasOutlines}
use Rattle.sv_space.specs.Patterns.{HasAll, HavePatterns, IsPatternOf, IsQuietPart, IsQuietPattern}
use Rattle.sv_space.specs.Patterns.{KeepMarks, Tells, most}
use Rattle.sv_space.specs.declared.marks.Block.{Block}
use Rattle.sv_space.specs.declared.passing.Asked.{Asked}
use Rattle.sv_space.specs.declared.pattern.Pattern.{Pattern}

-- one dependency more whose outline is listed
pub outlines_next : (outlines deps : List Dep) (i : ℕ) (d : Dep) → i < length deps
    → Contains outlines (outline (get_or deps i d)) → HasOutlines outlines (take i deps)
    → HasOutlines outlines (take (i + 1) deps)
outlines_next outlines deps i d lt here has f on =
    elim (Contains-push_cases (take i deps) (get_or deps i d) f
    (subst (λ (ds : List Dep). Contains ds f) (take_more deps i d lt) on)) [
      | inl old ↦ has f old
      | inr is ↦ subst (λ (e : Dep). Contains outlines (outline e)) is here
    ]

-- the outline of one dependency more comes to the list
pub outlines_pushed : (outlines deps : List Dep) (i : ℕ) (d : Dep) → i < length deps
    → HasOutlines outlines (take i deps) → HasOutlines (outlines ++ outline (get_or deps i d) ∷ [])
    (take (i + 1) deps)
outlines_pushed outlines deps i d lt has =
    outlines_next (outlines ++ outline (get_or deps i d) ∷ []) deps i d lt
    (Contains-push outlines (outline (get_or deps i d)))
    (λ f on. Contains-append_left outlines (outline (get_or deps i d) ∷ []) (outline f) (has f on))

pub outlines_all : (outlines deps : List Dep) (i : ℕ) → length deps ≤ i → HasOutlines outlines (take i deps)
    → HasOutlines outlines deps
outlines_all outlines deps i all has = subst (λ (ds : List Dep). HasOutlines outlines ds)
    (take_all i deps all) has

-- the last one of a list
at_end : {X : Type 0} (xs : List X) (x : X) (j : ℕ) (d : X) → j ≡ length xs → get_or (xs ++ x ∷ []) j d ≡ x
at_end xs x j d is = get_or-append_right xs (x ∷ []) (length xs) j d refl (omega (arith, is))
    ∙ ap (λ i. get_or (x ∷ []) i d) (let z : j - length xs ≡ 0 = omega (arith, is) in z)

-- the pattern of that number has them
pub outlines_of_one : (patterns : List Pattern) (number : ℕ) (q p : Pattern) (outlines deps all : List Dep)
    → number < length patterns → outlines ≡ (get_or patterns number q).outlines.items → deps ≡ all
    → HasOutlines outlines deps → HasOutlines (get_or patterns number p).outlines.items all
outlines_of_one patterns number q p outlines deps all lt is same has =
    let here : outlines ≡ (get_or patterns number p).outlines.items = is
    ∙ ap (λ (r : Pattern). r.outlines.items) (get_or_default patterns number q p lt) in
    subst (λ (os : List Dep). HasOutlines os all) here
    (subst (λ (ds : List Dep). HasOutlines outlines ds) same has)

pub has_pushed : (patterns : List Pattern) (new : Pattern) (deps : List Dep) (p : Pattern)
    → HasOutlines new.outlines.items deps → HasOutlines
    (get_or (patterns ++ new ∷ []) (length patterns) p).outlines.items deps
has_pushed patterns new deps p has = subst (λ (q : Pattern). HasOutlines q.outlines.items deps)
    (sym (at_end patterns new (length patterns) p refl)) has

pub of_one : (patterns : List Pattern) (number : ℕ) (deps : List Dep) → number < length patterns
    → ((p : Pattern) → HasOutlines (get_or patterns number p).outlines.items deps)
    → IsPatternOf patterns number deps
of_one patterns number deps lt has = record { listed = λ small. lt; has = λ p small. has p }

-- the block of a place
in_block : (j n : ℕ) → j < 64 * n → j / 64 < n
in_block j n lt = (div-lt_iff_lt-mul (let z : 0 < 64 = omega arith in z)).1 (omega (arith, lt))

-- one that was found, and one that is new
pub of_found : (seen patterns : List Pattern) (number : ℕ) (deps : List Dep) → seen ≡ patterns
    → number < length patterns
    → ((p : Pattern) → number < length seen → HasOutlines (get_or seen number p).outlines.items deps)
    → IsPatternOf patterns number deps
of_found seen patterns number deps same lt has =
    let within : number < length seen = (let l = ap length same in omega (arith, l, lt)) in
    subst (λ (ps : List Pattern). IsPatternOf ps number deps) same
    (of_one seen number deps within (λ p. has p within))

pub of_new : (old new : List Pattern) (number : ℕ) (deps : List Dep) → number ≡ length old
    → length old < length new
    → ((p : Pattern) → HasOutlines (get_or new (length old) p).outlines.items deps)
    → IsPatternOf new number deps
of_new old new number deps is longer has = of_one new number deps (omega (arith, is, longer))
    (λ p. subst (λ k. HasOutlines (get_or new k p).outlines.items deps) (sym is) (has p))

-- a block with a member more in one of its sets
pub all_with_pattern : (block new : Block) (member : ℕ) → new.patterns ≡ bit_or block.patterns (2 ^ member)
    → new.lone ≡ block.lone → HasAll block new
all_with_pattern block new member is same = record {
  patterns = λ n h. subst (λ (m : ℕ). Has m n) (sym is) (Has-or_left block.patterns (2 ^ member) n h);
  lone = λ n h. subst (λ (m : ℕ). Has m n) (sym same) h;
}

pub all_with_place : (block new : Block) (member : ℕ) → new.patterns ≡ block.patterns
    → new.lone ≡ bit_or block.lone (2 ^ member) → HasAll block new
all_with_place block new member same is = record {
  patterns = λ n h. subst (λ (m : ℕ). Has m n) (sym same) h;
  lone = λ n h. subst (λ (m : ℕ). Has m n) (sym is) (Has-or_left block.lone (2 ^ member) n h);
}

has_with : (old new member : ℕ) → new ≡ bit_or old (2 ^ member) → Has new member
has_with old new member is = subst (λ (m : ℕ). Has m member) (sym is)
    (Has-or_right old (2 ^ member) member (bit_at-pow_same member))

pub told_pattern : (block new : Block) (spot number : ℕ) → number < most
    → new.patterns ≡ bit_or block.patterns (2 ^ number) → Tells new spot number
told_pattern block new spot number small is = record {
  pattern = λ less. has_with block.patterns new.patterns number is;
  lone = λ over. absurd (omega (arith, small, over));
}

pub told_place : (block new : Block) (spot number : ℕ) → most ≤ number
    → new.lone ≡ bit_or block.lone (2 ^ spot) → Tells new spot number
told_place block new spot number over is = record {
  pattern = λ less. absurd (omega (arith, less, over));
  lone = λ more. has_with block.lone new.lone spot is;
}

-- the members of a set that come before the lowest of those from one on
pub clear_below : (known from rest count k : ℕ) → from < 64 → rest ≡ known / 2 ^ from → rest < 2 ^ 64
    → count ≤ trailing_zeros w64 rest → from ≤ k → k < from + count → ¬ Has known k
clear_below known from rest count k small is below few le lt has =
    let at : bit_at rest (k - from) ≡ bit_at known k = ap (λ n. bit_at n (k - from)) is
    ∙ (ap (λ n. n % 2) (shr-shr known from (k - from))
    ∙ ap (λ i. bit_at known i) (let e : from + (k - from) ≡ k = omega (arith, le) in e)) in
    elim (cases_lt 0 rest) [
      | inl some ↦ (
          let z = (bit_at-trailing_zeros w64 rest some below).2 (k - from) (omega (arith, few, le, lt)) in
          absurd (omega (arith, z, at, has)))
      | inr none ↦ (
          let nothing : rest ≡ 0 = omega (arith, none) in
          let z : bit_at rest (k - from) ≡ 0 = ap (λ n. bit_at n (k - from)) nothing
          ∙ bit_at-zero (k - from) in
          absurd (omega (arith, z, at, has)))
    ]

-- more patterns
pub patterns_more : (groups : List Group) (old new : List Pattern) (numbers : List ℕ)
    (blocks : List Block) → AreMore old new → HavePatterns groups old numbers blocks
    → HavePatterns groups new numbers blocks
patterns_more groups old new numbers blocks more have = record {
  short = have.short;
  each = λ j d g lt. (
      let w = have.each j d g lt in
      let n : ℕ = get_or numbers j d in record {
        listed = λ small. (let l = w.listed small in let m = more.long in omega (arith, l, m));
        has = λ p small. subst (λ (q : Pattern). HasOutlines q.outlines.items (get_or groups j g).deps)
            (sym (more.same n p (w.listed small))) (w.has p small);
      });
  marked = have.marked;
}

-- one group more, without a number
pub patterns_group : (groups : List Group) (h : Group) (patterns : List Pattern) (numbers : List ℕ)
    (blocks : List Block) → HavePatterns groups patterns numbers blocks
    → HavePatterns (groups ++ h ∷ []) patterns numbers blocks
patterns_group groups h patterns numbers blocks have = record {
  short = (let s = have.short in let l = length-append groups (h ∷ []) in omega (arith, s, l));
  each = λ j d g lt. subst (λ (f : Group). IsPatternOf patterns (get_or numbers j d) f.deps)
      (sym (get_or_append_left groups (h ∷ []) g j (let s = have.short in omega (arith, s, lt))))
      (have.each j d g lt);
  marked = have.marked;
}

-- more patterns, and one group more
pub patterns_grown : (groups more : List Group) (h : Group) (old new : List Pattern) (numbers : List ℕ)
    (blocks : List Block)
    → more ≡ groups ++ h ∷ [] → AreMore old new → HavePatterns groups old numbers blocks
    → HavePatterns more new numbers blocks
patterns_grown groups more h old new numbers blocks is known have =
    subst (λ (gs : List Group). HavePatterns gs new numbers blocks) (sym is)
    (patterns_group groups h new numbers blocks (patterns_more groups old new numbers blocks known have))

-- a block with more
tells_more : (old new : Block) (spot number : ℕ) → HasAll old new → Tells old spot number
    → Tells new spot number
tells_more old new spot number all told = record {
  pattern = λ less. all.patterns number (told.pattern less);
  lone = λ over. all.lone spot (told.lone over);
}

-- blocks with more marks
pub marked_more : (numbers : List ℕ) (old new : List Block) → KeepMarks old new → length old ≤ length new
    → AreMarked numbers old → AreMarked numbers new
marked_more numbers old new kept long are = record {
  room = (let r = are.room in omega (arith, r, long));
  told = λ j d e lt. tells_more (get_or old (j / 64) e) (get_or new (j / 64) e) (j % 64) (get_or numbers j d)
      (kept (j / 64) e (in_block j (length old) (let r = are.room in omega (arith, r, lt))))
      (are.told j d e lt);
}

pub patterns_marked : (groups : List Group) (patterns : List Pattern) (numbers : List ℕ)
    (old new : List Block)
    → KeepMarks old new → length old ≤ length new → HavePatterns groups patterns numbers old
    → HavePatterns groups patterns numbers new
patterns_marked groups patterns numbers old new kept long have =
    record {
      short = have.short;
      each = have.each;
      marked = marked_more numbers old new kept long have.marked;
    }

-- one number more, of the last group
pub patterns_number : (groups : List Group) (h : Group) (patterns : List Pattern) (numbers : List ℕ)
    (blocks : List Block) (n : ℕ) → length numbers ≡ length groups → IsPatternOf patterns n h.deps
    → length numbers
    < 64 * length blocks
    → ((e : Block) → Tells (get_or blocks (length numbers / 64) e) (length numbers % 64) n)
    → HavePatterns (groups ++ h ∷ []) patterns numbers blocks
    → HavePatterns (groups ++ h ∷ []) patterns (numbers ++ n ∷ []) blocks
patterns_number groups h patterns numbers blocks n even is room marked have = record {
  short = (let l = length-append groups (h ∷ []) in let m = length-append numbers (n ∷ []) in
      omega (arith, even, l, m));
  each = λ j d g lt. elim (cases_lt j (length numbers)) [
    | inl less ↦ subst (λ (k : ℕ). IsPatternOf patterns k (get_or (groups ++ h ∷ []) j g).deps)
        (sym (get_or_append_left numbers (n ∷ []) d j less)) (have.each j d g less)
    | inr over ↦ (
        let m = length-append numbers (n ∷ []) in
        let last : j ≡ length numbers = omega (arith, over, lt, m) in
        subst (λ (k : ℕ). IsPatternOf patterns k (get_or (groups ++ h ∷ []) j g).deps)
        (sym (at_end numbers n j d last))
        (subst (λ (f : Group). IsPatternOf patterns n f.deps) (sym (at_end groups h j g (last ∙ even))) is))
  ];
  marked = record {
    room = (let m = length-append numbers (n ∷ []) in omega (arith, m, room));
    told = λ j d e lt. elim (cases_lt j (length numbers)) [
      | inl less ↦ subst (λ (k : ℕ). Tells (get_or blocks (j / 64) e) (j % 64) k)
          (sym (get_or_append_left numbers (n ∷ []) d j less)) (have.marked.told j d e less)
      | inr over ↦ (
          let m = length-append numbers (n ∷ []) in
          let last : j ≡ length numbers = omega (arith, over, lt, m) in
          subst (λ (k : ℕ). Tells (get_or blocks (j / 64) e) (j % 64) k) (sym (at_end numbers n j d last))
          (subst (λ (i : ℕ). Tells (get_or blocks (i / 64) e) (i % 64) n) (sym last) (marked e)))
    ];
  };
}

-- the same of lists that are said to be these
pub patterns_numbered : (groups all : List Group) (h : Group) (patterns : List Pattern)
    (numbers more : List ℕ) (blocks : List Block) (n : ℕ) → all ≡ groups ++ h ∷ [] → more ≡ numbers ++ n ∷ []
    → length numbers + 1 ≡ length all → IsPatternOf patterns n h.deps → length numbers < 64 * length blocks
    → ((e : Block) → Tells (get_or blocks (length numbers / 64) e) (length numbers % 64) n)
    → HavePatterns all patterns numbers blocks
    → HavePatterns all patterns more blocks
patterns_numbered groups all h patterns numbers more blocks n is_all is_more even is room marked have =
    let long : length all ≡ length groups + 1 = ap length is_all ∙ length-append groups (h ∷ []) in
    subst (λ (gs : List Group). HavePatterns gs patterns more blocks) (sym is_all)
    (subst (λ (ns : List ℕ). HavePatterns (groups ++ h ∷ []) patterns ns blocks) (sym is_more)
    (patterns_number groups h patterns numbers blocks n (omega (arith, even, long)) is room marked
    (subst (λ (gs : List Group). HavePatterns gs patterns numbers blocks) is_all have)))

-- a group of a pattern of which nothing is added
pub quiet_group : (state : CellState) (groups : List Group) (patterns : List Pattern)
    (numbers : List ℕ) (blocks : List Block) (j d : ℕ) (g : Group)
    → HavePatterns groups patterns numbers blocks → j
    < length numbers → IsQuietPattern state patterns (get_or numbers j d)
    → AddsNothing state (get_or groups j g)
quiet_group state groups patterns numbers blocks j d g have lt quiet e f on_e on_f =
    quiet.quiet e (outline f) on_e (subst (λ (p : Pattern). HasOutlines p.outlines.items
    (get_or groups j g).deps) quiet.here ((have.each j d g lt).has quiet.pattern quiet.small) f on_f)

-- the groups that are passed over
pub quiet_groups : (state : CellState) (groups : List Group) (patterns : List Pattern)
    (numbers : List ℕ) (blocks : List Block) (from end : ℕ) → HavePatterns groups patterns numbers blocks
    → (from < end → end ≤ length numbers) → AreQuietFrom from end state patterns numbers
    → (j : ℕ) (g : Group) → from ≤ j → j < end → AddsNothing state (get_or groups j g)
quiet_groups state groups patterns numbers blocks from end have listed are j g le lt =
    let within : j < length numbers = (let l = listed (omega (arith, le, lt)) in omega (arith, l, lt)) in
    quiet_group state groups patterns numbers blocks j 0 g have within (are j 0 le lt within)

-- one number more in the set
set_with : (Is : ℕ → Type 0) (known n : ℕ) → Is n → ((m : ℕ) → Has known m → Is m) → (m : ℕ)
    → Has (bit_or known (2 ^ n)) m → Is m
set_with Is known n one are m has = elim (Has-or known (2 ^ n) m has) [
  | inl old ↦ are m old
  | inr new ↦ elim (eqb_tells m n) [
    | inl w ↦ subst (λ k. Is k) (sym w.1) one
    | inr w ↦ absurd (let z = bit_at-pow_other n m w.1 in omega (arith, new, z))
  ]
]

pub quiet_with : (state : CellState) (patterns : List Pattern) (known new n : ℕ)
    → new ≡ bit_or known (2 ^ n) → IsQuietPattern state patterns n → AreQuietPatterns state patterns known
    → AreQuietPatterns state patterns new
quiet_with state patterns known new n is quiet are m has = set_with (λ k. IsQuietPattern state patterns k)
    known n quiet are m (subst (λ (set : ℕ). Has set m) is has)

pub full_with : (state : CellState) (patterns : List Pattern) (known new n : ℕ)
    → new ≡ bit_or known (2 ^ n) → IsFullPattern state patterns n → AreFullPatterns state patterns known
    → AreFullPatterns state patterns new
full_with state patterns known new n is full are m has = set_with (λ k. IsFullPattern state patterns k)
    known n full are m (subst (λ (set : ℕ). Has set m) is has)

-- no pattern is in a set of none
pub full_none : (state : CellState) (patterns : List Pattern) → AreFullPatterns state patterns 0
full_none state patterns n has = absurd (let z = bit_at-zero n in omega (arith, has, z))

-- what is full adds nothing
pub full_quiet : (state : CellState) (patterns : List Pattern) (n : ℕ) → FullAreQuiet
    → IsFullPattern state patterns n → IsQuietPattern state patterns n
full_quiet state patterns n law full = record {
  pattern = full.pattern;
  small = full.small;
  here = full.here;
  quiet = law (live_of state) full.pattern.outlines.items full.full;
}

-- nothing was asked for but what is known to be full
pub asked_full : (state : CellState) (patterns : List Pattern) (asked : Asked) (known : ℕ) → FullAreQuiet
    → asked.quiet ≡ known → asked.full ≡ known → AreFullPatterns state patterns known
    → AreAsked state patterns asked
asked_full state patterns asked known law quiet_is full_is are = record {
  quiet = λ n has. full_quiet state patterns n law (are n (subst (λ set. Has set n) quiet_is has));
  full = λ n has. are n (subst (λ set. Has set n) full_is has);
}

-- a state that lost nothing
pub full_kept : (old new : CellState) (patterns : List Pattern) (known : ℕ)
    → ((outlines : List Dep) → AreFull (live_of old) outlines → AreFull (live_of new) outlines)
    → AreFullPatterns old patterns known → AreFullPatterns new patterns known
full_kept old new patterns known keeps are n has =
    let was = are n has in record {
      pattern = was.pattern;
      small = was.small;
      here = was.here;
      full = keeps was.pattern.outlines.items was.full;
    }

-- a part of a block
in_part : (place j b : ℕ) → b ≡ place / 64 → place ≤ j → place % 64 + (j - place) < 64 → (j / 64 ≡ b)
    × (j % 64 ≡ place % 64 + (j - place))
in_part place j b is le lt =
    let whole = div-add-mod' place 64 in
    let r = place % 64 + (j - place) in
    let at : j ≡ b * 64 + r = omega (arith, whole, is, le) in
    let same : j / 64 ≡ b = ap (λ i. i / 64) at ∙ div-mul-add b 64 r (omega (arith, lt)) in
    let rest = div-add-mod' j 64 in
    (same, omega (arith, rest, same, at))

-- the numbers of a part of a block whose patterns are quiet
pub quiet_part : (state : CellState) (patterns : List Pattern) (numbers : List ℕ) (blocks : List Block)
    (block : Block) (place count known : ℕ) → AreMarked numbers blocks
    → AreQuietPatterns state patterns known → block ≡ get_or blocks (place / 64) block
    → place % 64 + count ≤ 64 → IsQuietPart (place % 64) count block known
    → AreQuietFrom place (place + count) state patterns numbers
quiet_part state patterns numbers blocks block place count known marked are is room part j d le lt within =
    let n : ℕ = get_or numbers j d in
    let here = in_part place j (place / 64) refl le (omega (arith, room, le, lt)) in
    let told : Tells block (place % 64 + (j - place)) n =
    subst (λ (b : Block). Tells b (place % 64 + (j - place)) n) (sym is)
    (subst (λ i. Tells (get_or blocks i block) (place % 64 + (j - place)) n) here.0
    (subst (λ i. Tells (get_or blocks (j / 64) block) i n) here.1 (marked.told j d block within))) in
    elim (cases_lt n most) [
      | inl less ↦ are n (part.includes n (told.pattern less))
      | inr over ↦ absurd (part.clear (place % 64 + (j - place)) (omega arith) (omega (arith, le, lt))
          (told.lone over))
    ]

pub quiet_one : (state : CellState) (patterns : List Pattern) (numbers : List ℕ) (place d : ℕ) → place
    < length numbers → IsQuietPattern state patterns (get_or numbers place d)
    → AreQuietFrom place (place + 1) state patterns numbers
quiet_one state patterns numbers place d within quiet j e le lt lt_j =
    let is : place ≡ j = omega (arith, le, lt) in
    subst (λ i. IsQuietPattern state patterns (get_or numbers i e)) is
    (subst (λ n. IsQuietPattern state patterns n) (get_or_default numbers place d e within) quiet)

-- a pattern that is asked for
pub quiet_asked : (state : CellState) (patterns : List Pattern) (n : ℕ) (p : Pattern) (outlines : List Dep)
    → n < most → p ≡ get_or patterns n p → outlines ≡ p.outlines.items
    → AreQuiet (live_of state) outlines → IsQuietPattern state patterns n
quiet_asked state patterns n p outlines small at is quiet = record {
  pattern = p;
  small = small;
  here = sym at;
  quiet = subst (λ (ds : List Dep). AreQuiet (live_of state) ds) is quiet;
}

-- a pattern of which the state is found to hold all
pub full_asked : (state : CellState) (patterns : List Pattern) (n : ℕ) (p : Pattern) (outlines : List Dep)
    → n < most → p ≡ get_or patterns n p → outlines ≡ p.outlines.items
    → AreFull (live_of state) outlines → IsFullPattern state patterns n
full_asked state patterns n p outlines small at is full = record {
  pattern = p;
  small = small;
  here = sym at;
  full = subst (λ (ds : List Dep). AreFull (live_of state) ds) is full;
}

-- some places, and then others
pub quiet_then : (state : CellState) (patterns : List Pattern) (numbers : List ℕ) (from mid end : ℕ)
    → AreQuietFrom from mid state patterns numbers → AreQuietFrom mid end state patterns numbers
    → AreQuietFrom from end state patterns numbers
quiet_then state patterns numbers from mid end one two j d le lt within = elim (cases_lt j mid) [
  | inl less ↦ one j d le less within
  | inr more ↦ two j d more lt within
]
