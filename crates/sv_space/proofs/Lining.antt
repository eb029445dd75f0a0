-- Pieces of a line, and their cells.
use Rattle.std.proofs.Common.{ℕ, ◌≡◌, ◌≢◌, ◌<◌, ◌≤◌, ◌⊎◌, inl, inr, ◌+◌, ◌/◌, ◌%◌, List, Contains, length}
use Rattle.std.proofs.Common.{get_or, drop, arith, refl, sym, ◌∙◌, ap, subst}
use Rattle.std.proofs.lemmas.List.{get_or_default}
use Rattle.std.proofs.lemmas.Nat.{div-add-mod'}
use Rattle.std.proofs.Math.Nat.{mod-lt}
use Rattle.std.proofs.lemmas.List.Elements.{Contains-get_or}
use Rattle.sv_model.specs.Cells.{IsOnly}
use Rattle.sv_model.specs.Reports.{AreNumbered}
use Rattle.sv_model.specs.declared.work.Area.{Area}
use Rattle.sv_model.specs.declared.work.Step.{Step}
use Rattle.sv_model.specs.declared.work.Group.{Group}
use Rattle.sv_range.specs.declared.span.Span.{Span}
use Rattle.sv_rangemap.specs.declared.part.Part.{Part}
use Rattle.sv_rangemap.specs.Lines.{Cover, ArePartsOf, HaveSameSpans}
use Rattle.sv_rangemap.proofs.Pieces.{below_size, some_part}
use Rattle.sv_space.specs.Known.{groups_in, AreKnown, HasGone, MayFollow}
use Rattle.sv_space.specs.Lines.{IsShaped, IsInMip, IsOf, cell_on, area_on}
use Rattle.sv_space.specs.Pieces.{IsPieceOf, IsLineOf, IsSameLine}
use Rattle.sv_space.specs.declared.known.Known.{Known}
use Rattle.sv_space.specs.declared.line.Line.{Line}
use Rattle.sv_space.specs.declared.shape.Shape.{Shape}
use Rattle.sv_space.specs.declared.shape.Shape.TheVariants as shape
use Rattle.sv_space.proofs.Keeping.{known_part, known_caught, may_follow}

same_or_other : (a b : ℕ) → (a ≡ b) ⊎ (a ≡ b → ⊥)
same_or_other a b = grind arith

-- one cell is in one mip
pub one_in_mip : (s : Shape) (size n : ℕ) → IsShaped s size → IsInMip s (record { start = n; end = n + 1 })
one_in_mip shape.Bytes size n shaped = tt
one_in_mip (shape.Mips mips layers) size n shaped =
    let e = div-add-mod' n layers in
    let m : n % layers < layers = mod-lt n shaped.0 in
    (n / layers, omega (arith, e), omega (arith, e, m))

-- the area of one cell is that cell alone
pub only_cell : (res : ℕ) (s : Shape) (n : ℕ) → IsOnly (area_on res s (record { start = n; end = n + 1 }))
    (cell_on res s n)
only_cell res shape.Bytes n = (refl, refl, refl)
only_cell res (shape.Mips mips layers) n = (refl, refl, refl, refl, omega arith)

-- what was read of a piece
pub read_start : (size : ℕ) (parts : List (Part Known)) → Cover size parts
    → (k : ℕ) (span : Span) (known : Known) → k < length parts
    → ((d : Part Known) → get_or parts k d ≡ record { span = span; value = known })
    → (span.start < span.end) × (span.end ≤ size)
read_start size parts cover k span known lt is =
    let d : Part Known = record { span = span; value = known } in
    let c = cover.cells k d lt in
    let b = below_size size parts cover k d lt in (
      subst (λ (p : Part Known). p.span.start < p.span.end) (is d) c,
      subst (λ (p : Part Known). p.span.end ≤ size) (is d) b,
    )

-- pieces that are parts of others stand for their cells too
pub line_split : (work : List Step) (res : ℕ) (s : Shape) (old new : List (Part Known)) → ArePartsOf new old
    → IsLineOf work res s old → IsLineOf work res s new
line_split work res s old new parts of k d lt =
    let p : Part Known = get_or new k d in
    let q = parts p (Contains-get_or new k d lt) in
    let on = q.1 in
    let was : IsPieceOf work res s q.0 = subst (λ (r : Part Known). IsPieceOf work res s r) on.2
    (of on.0 q.0 on.1) in
    subst (λ (v : Known). AreKnown work (IsOf res s p.span) v.upto v.state) (sym q.2.value)
    (known_part work (IsOf res s q.0.span) (IsOf res s p.span) q.0.value.upto q.0.value.state
    (λ c h. record {
      number = h.number;
      inside = record {
        from = (let a = q.2.from in let b = h.inside.from in omega (arith, a, b));
        before =
            (let a = q.2.before in let b = h.inside.before in omega (arith, a, b));
      };
      is = h.is;
    }) was)

-- one piece was given the groups that it lacked
pub piece_caught : (work : List Step) (res : ℕ) (s : Shape) (log : List Group) → AreNumbered work → log
    ≡ groups_in work → (k : ℕ) (old new : List (Part Known)) (d : Part Known) (span : Span)
    (had now : Known) → span.start < span.end → get_or old k d ≡ record { span = span; value = had }
    → get_or new k d ≡ record { span = (get_or old k d).span; value = now } → now.upto ≡ length log
    → (MayFollow had.state.step (drop had.upto log)
    → HasGone (cell_on res s span.start) (drop had.upto log) had.state now.state)
    → IsPieceOf work res s (get_or old k d) → IsPieceOf work res s (get_or new k d)
piece_caught work res s log are log_is k old new d span had now some is_old is_new upto gone of =
    let was : AreKnown work (IsOf res s span) had.upto had.state =
    subst (λ (p : Part Known). IsPieceOf work res s p) is_old of in
    let may : MayFollow had.state.step (drop had.upto log) =
    subst (λ (gs : List Group). MayFollow had.state.step (drop had.upto gs)) (sym log_is)
    (may_follow work are (IsOf res s span) had.upto had.state was) in
    let went : HasGone (cell_on res s span.start) (drop had.upto (groups_in work)) had.state now.state =
    subst (λ (gs : List Group). HasGone (cell_on res s span.start) (drop had.upto gs) had.state now.state)
    log_is (gone may) in
    let caught = known_caught work are (IsOf res s span) had.upto had.state now.state
    (cell_on res s span.start) (record {
      number = span.start;
      inside = record { from = omega arith; before = some };
      is = refl;
    }) went was in
    let all : AreKnown work (IsOf res s span) now.upto now.state =
    subst (λ (n : ℕ). AreKnown work (IsOf res s span) n now.state)
    (sym (upto ∙ ap length log_is)) caught in
    subst (λ (p : Part Known). IsPieceOf work res s p)
    (sym (is_new ∙ ap (λ (p : Part Known). record { span = p.span; value = now }) is_old)) all

pub only_at : (res : ℕ) (s : Shape) (n : ℕ) (first : Span) (at : Area) → first
    ≡ record { start = n; end = n + 1 } → at ≡ area_on res s first → IsOnly at (cell_on res s n)
only_at res s n first at is_first is_at = subst (λ (a : Area). IsOnly a (cell_on res s n))
    (sym (is_at ∙ ap (area_on res s) is_first)) (only_cell res s n)

-- one piece more was given the groups that it lacked
pub line_caught : (work : List Step) (res : ℕ) (s : Shape) (index : ℕ) (old new : List (Part Known))
    → length new ≡ length old → ((k : ℕ) (d : Part Known) → k ≢ index → get_or new k d ≡ get_or old k d)
    → ((d : Part Known) → IsPieceOf work res s (get_or old index d)
    → IsPieceOf work res s (get_or new index d)) → IsLineOf work res s old → IsLineOf work res s new
line_caught work res s index old new long others caught of k d lt = elim (same_or_other k index) [
  | inl e ↦ subst (λ (n : ℕ). IsPieceOf work res s (get_or new n d)) (sym e)
      (caught d (of index d (omega (arith, e, long, lt))))
  | inr ne ↦ subst (λ (p : Part Known). IsPieceOf work res s p) (sym (others k d ne))
      (of k d (omega (arith, long, lt)))
]

-- each piece is as it was, or was given all groups
pub changed_more : (groups index : ℕ) (first old new : List (Part Known))
    → ((k : ℕ) (d : Part Known) → k ≢ index → get_or new k d ≡ get_or old k d)
    → ((d : Part Known) → (get_or new index d).value.upto ≡ groups)
    → ((k : ℕ) (d : Part Known) → (get_or old k d ≡ get_or first k d)
    ⊎ ((get_or old k d).value.upto ≡ groups)) → (k : ℕ) (d : Part Known)
    → (get_or new k d ≡ get_or first k d) ⊎ ((get_or new k d).value.upto ≡ groups)
changed_more groups index first old new others now was k d = elim (same_or_other k index) [
  | inl e ↦ inr (subst (λ (n : ℕ). (get_or new n d).value.upto ≡ groups) (sym e) (now d))
  | inr ne ↦ elim (was k d) [
    | inl same ↦ inl (others k d ne ∙ same)
    | inr all ↦ inr (ap (λ (p : Part Known). p.value.upto) (others k d ne) ∙ all)
  ]
]

-- the pieces at the first so many places were given all groups
pub caught_more : (groups : ℕ) (places : List ℕ) (i index : ℕ) → i < length places → get_or places i index
    ≡ index → (old new : List (Part Known)) → ((k : ℕ) (d : Part Known) → k ≢ index → get_or new k d
    ≡ get_or old k d) → ((d : Part Known) → (get_or new index d).value.upto ≡ groups)
    → ((j e : ℕ) (d : Part Known) → j < i → (get_or old (get_or places j e) d).value.upto ≡ groups)
    → (j e : ℕ) (d : Part Known) → j < i + 1 → (get_or new (get_or places j e) d).value.upto ≡ groups
caught_more groups places i index lt is old new others now was j e d j_lt =
    elim (same_or_other (get_or places j e) index) [
      | inl here ↦ subst (λ (n : ℕ). (get_or new n d).value.upto ≡ groups) (sym here) (now d)
      | inr ne ↦ ap (λ (p : Part Known). p.value.upto) (others (get_or places j e) d ne)
          ∙ was j e d (elim (same_or_other j i) [
            | inl same ↦ absurd (ne (ap (λ (n : ℕ). get_or places n e) same ∙ get_or_default places i e index
                lt ∙ is))
            | inr other ↦ less j i j_lt other
          ])
    ]
  where
    less : (a b : ℕ) → a < b + 1 → (a ≡ b → ⊥) → a < b
    less a b a_lt ne = elim (same_or_other a b) [ inl e ↦ absurd (ne e) | inr w ↦ grind arith ]

pub then_spans : (old mid new : List (Part Known)) → HaveSameSpans old mid → HaveSameSpans mid new
    → HaveSameSpans old new
then_spans old mid new one two = record {
  long = two.long ∙ one.long;
  spans = λ k d. two.spans k d
      ∙ one.spans k d;
}

pub then_line : (old mid new : Line) → IsSameLine old mid → IsSameLine mid new → IsSameLine old new
then_line old mid new one two = record {
  res = two.res ∙ one.res;
  shape = two.shape ∙ one.shape;
  size = two.size ∙ one.size;
}

-- the same on a line that is said to be the same
pub piece_at_same : (work : List Step) (res r : ℕ) (s t : Shape) → r ≡ res → t ≡ s → (p q : Part Known)
    → (IsPieceOf work r t p → IsPieceOf work r t q) → IsPieceOf work res s p → IsPieceOf work res s q
piece_at_same work res r s t is_res is_shape p q go =
    subst (λ (u : Shape). IsPieceOf work res u p → IsPieceOf work res u q) is_shape
    (subst (λ (n : ℕ). IsPieceOf work n t p → IsPieceOf work n t q) is_res go)

-- the pieces at none of the places are as they were
pub others_more : (places : List ℕ) (i index : ℕ) → i < length places → get_or places i index ≡ index
    → (first old new : List (Part Known)) → ((k : ℕ) (d : Part Known) → k ≢ index → get_or new k d
    ≡ get_or old k d)
    → ((k : ℕ) (d : Part Known) → (Contains places k → ⊥) → get_or old k d ≡ get_or first k d)
    → (k : ℕ) (d : Part Known) → (Contains places k → ⊥) → get_or new k d ≡ get_or first k d
others_more places i index lt is first old new others was k d free =
    let on : Contains places index = (i, lt, is) in
    others k d (λ same. free (subst (λ (n : ℕ). Contains places n) (sym same) on)) ∙ was k d free

-- the next piece of those that had all groups is given none
pub none_more : (groups : ℕ) (places : List ℕ) (i index : ℕ) → i < length places → get_or places i index
    ≡ index → (first old : List (Part Known)) → index < length old → (more : ℕ)
    → ((d : Part Known) → more + (get_or old index d).value.upto ≡ groups)
    → ((k : ℕ) (d : Part Known) → (get_or old k d ≡ get_or first k d)
    ⊎ ((get_or old k d).value.upto ≡ groups)) →
    ((k : ℕ) (d : Part Known) → Contains places k → (get_or first k d).value.upto ≡ groups) → more ≡ 0
none_more groups places i index lt is first old listed more adds changed all =
    let d : Part Known = some_part old (omega (arith, listed)) in
    let on : Contains places index = (i, lt, is) in
    let full : (get_or old index d).value.upto ≡ groups = elim (changed index d) [
      | inl same ↦ ap (λ (p : Part Known). p.value.upto) same ∙ all index d on
      | inr now ↦ now
    ] in
    let a = adds d in
    omega (arith, a, full)
