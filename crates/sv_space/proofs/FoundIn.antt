-- What is found of an access, piece by piece of its area.
use Rattle.std.proofs.Common.{ℕ, ◌≡◌, ◌<◌, ◌≤◌, ◌+◌, ◌⊎◌, inl, inr, IsTrue, List, [], ◌∷◌, ◌++◌, Contains}
use Rattle.std.proofs.Common.{length, get_or, arith, sym, ◌∙◌, ap, subst}
use Rattle.std.proofs.lemmas.List.{get_or_default}
use Rattle.sv_model.specs.Cells.{CellBefore, covers}
use Rattle.sv_model.specs.Reports.{Spot, SpotBefore, accesses_of, on_cell, IsReportedFrom, AreReportsFrom}
use Rattle.sv_model.proofs.Lists.{from_filter}
use Rattle.sv_model.specs.declared.work.Access.{Access}
use Rattle.sv_model.specs.declared.work.Cell.{Cell}
use Rattle.sv_model.specs.declared.work.Step.{Step}
use Rattle.sv_rangemap.specs.Lines.{Cover}
use Rattle.sv_rangemap.specs.declared.part.Part.{Part}
use Rattle.sv_rangemap.proofs.Pieces.{cell_piece, ends_before, some_part}
use Rattle.sv_space.specs.Cut.{ArePlacesOf, Covers, IsCutFor}
use Rattle.sv_space.specs.Found.{AreFound, ArePieceSpots, IsOfFirst}
use Rattle.sv_space.specs.Lines.{IsInMip, IsOf, IsShaped, LiesOn, cell_on}
use Rattle.sv_space.specs.Steps.{AreInOrder, IsNext}
use Rattle.sv_space.specs.declared.known.Known.{Known}
use Rattle.sv_space.specs.declared.shape.Shape.{Shape}
use Rattle.sv_space.proofs.LaterAt.{by_pos, cell_less, cell_lies, later_of, pos_below}
use Rattle.sv_space.proofs.Reported.{found_all, found_more, found_none}

less_or_same : (a b : ℕ) → a < b + 1 → (a < b) ⊎ (a ≡ b)
less_or_same a b lt = grind arith

-- other words for the same spots
pub found_same : (first : ℕ) (work : List Step) (Was Is : Spot → Type 0) (spots : List Spot)
    → ((s : Spot) → Was s → Is s) → ((s : Spot) → IsReportedFrom first work s → Is s → Was s)
    → AreFound first work Was spots → AreFound first work Is spots
found_same first work Was Is spots to back f = record {
  only = f.only;
  past = λ s on. to s (f.past s on);
  all = λ s r is. f.all s r (back s r is);
  in_order = f.in_order;
}

-- the cell is of one of the pieces at the first so many places
pub record InPlaces (res : ℕ) (s : Shape) (parts : List (Part Known)) (places : List ℕ) (i : ℕ)
    (cell : Cell) : Type 0 where
  pub j : ℕ
  pub place : ℕ
  pub part : Part Known
  pub before : j < i
  pub listed : j < length places
  pub is : get_or places j place ≡ place
  pub at : get_or parts place part ≡ part
  pub has : IsOf res s part.span cell

-- the spot is of an access before this position, or of the access there and of such a cell
abbrev pub IsPastIn : ℕ → Shape → List (Part Known) → List ℕ → ℕ → ℕ → Spot → Type 0
IsPastIn res s parts places pos i t = (t.later.pos < pos)
    ⊎ ((t.later.pos ≡ pos) × InPlaces res s parts places i t.cell)

-- at first
pub found_first : (first : ℕ) (work : List Step) (res : ℕ) (s : Shape) (parts : List (Part Known))
    (places : List ℕ) (pos : ℕ) (spots : List Spot) → AreFound first work (IsOfFirst pos) spots
    → AreFound first work (IsPastIn res s parts places pos 0) spots
found_first first work res s parts places pos spots f =
    found_same first work (IsOfFirst pos) (IsPastIn res s parts places pos 0) spots (λ t lt. inl lt)
    (λ t r is. elim is [ inl lt ↦ lt | inr w ↦ absurd (let b = w.1.before in omega (arith, b)) ]) f

module _ (res : ℕ) (s : Shape) (size : ℕ) (shaped : IsShaped s size) (parts : List (Part Known))
    (cover : Cover size parts) (x : Access) (lies : LiesOn res s size x.area)
    (cut : IsCutFor x.area res s parts) (places : List ℕ)
    (placed : ArePlacesOf x.area res s parts places) where
  some : Part Known
  some = some_part parts cover.some

  -- the piece at a place lies in one mip
  pub place_in_mip : (k : ℕ) → Contains places k → (d : Part Known) → IsInMip s (get_or parts k d).span
  place_in_mip k on d = let h = placed.has k d on in cut.in_mip k h.0 d (placed.listed k on) h.1 h.2

  -- the access touches its cells
  pub place_touched : (k : ℕ) → Contains places k → (d : Part Known) → (xs : List Access) → Contains xs x
      → (c : Cell) → IsOf res s (get_or parts k d).span c → Contains (on_cell c xs) x
  place_touched k on d xs on_x c of =
      let h = placed.has k d on in
      let covered : Covers x.area res s of.number =
      cut.whole k h.0 of.number d (placed.listed k on) h.1 of.inside h.2 in
      from_filter (λ (a : Access). covers a.area c) xs x on_x
      (subst (λ (e : Cell). IsTrue (covers x.area e)) (sym of.is) covered)

  module _ (work : List Step) (steps : AreInOrder work) (step : Step) (next : IsNext (length work) step)
      (on_x : Contains (accesses_of step) x) where
    abbrev more : List Step
    more = work ++ step ∷ []

    -- spots of one access and of pieces at two places
    in_order : (i j a b : ℕ) (p q : Part Known) (t u : Spot) → j < i → i < length places → get_or places j b
        ≡ b → get_or places i a ≡ a → get_or parts b q ≡ q → get_or parts a p ≡ p → IsOf res s q.span t.cell
        → IsOf res s p.span u.cell → CellBefore t.cell u.cell
    in_order i j a b p q t u lt len at_j at_i is_q is_p of_t of_u =
        let rise = placed.rising j i a lt len in
        let first : get_or places j a ≡ b = get_or_default places j a b (omega (arith, lt, len)) ∙ at_j in
        let less : b < a = omega (arith, rise, first, at_i) in
        let a_lt : a < length parts = placed.listed a (i, len, at_i) in
        let e = ends_before size parts cover b a p less a_lt in
        let q_is : (get_or parts b p).span.end ≡ q.span.end =
        ap (λ (r : Part Known). r.span.end) (get_or_default parts b p q (omega (arith, less, a_lt))
        ∙ is_q) in
        let p_is : (get_or parts a p).span.start ≡ p.span.start =
        ap (λ (r : Part Known). r.span.start) is_p in
        let t_to = of_t.inside.before in
        let u_from = of_u.inside.from in
        subst (λ (c : Cell). CellBefore c u.cell) (sym of_t.is)
        (subst (λ (c : Cell). CellBefore (cell_on res s of_t.number) c) (sym of_u.is)
        (cell_less res s size shaped of_t.number of_u.number (omega (arith, e, q_is, p_is, t_to, u_from))))

    -- the spots of one piece more
    pub found_next : (i k : ℕ) (d : Part Known) → i < length places → get_or places i k ≡ k
        → (found new : List Spot) → ArePieceSpots work step res s (get_or parts k d).span x new
        → AreFound (length work) more (IsPastIn res s parts places x.pos i) found
        → AreFound (length work) more (IsPastIn res s parts places x.pos (i + 1)) (found ++ new)
    found_next i k d lt is found new spots f = found_more (length work) more
        (IsPastIn res s parts places x.pos i) (IsPastIn res s parts places x.pos (i + 1)) found new f wider
        spots.reported now cases spots.in_order behind
      where
        p : Part Known
        p = get_or parts k d

        k_lt : k < length parts
        k_lt = placed.listed k (i, lt, is)

        p_at : get_or parts k p ≡ p
        p_at = get_or_default parts k p d k_lt

        wider : (t : Spot) → IsPastIn res s parts places x.pos i t
            → IsPastIn res s parts places x.pos (i + 1) t
        wider t (inl less) = inl less
        wider t (inr (e, w)) = inr (
          e,
          record {
            j = w.j;
            place = w.place;
            part = w.part;
            before =
                (let b = w.before in omega (arith, b));
            listed = w.listed;
            is = w.is;
            at = w.at;
            has = w.has;
          },
        )

        here : (cell : Cell) → IsOf res s p.span cell → InPlaces res s parts places (i + 1) cell
        here cell of = record {
          j = i;
          place = k;
          part = p;
          before = omega arith;
          listed = lt;
          is = is;
          at = p_at;
          has = of;
        }

        now : (t : Spot) → Contains new t → IsPastIn res s parts places x.pos (i + 1) t
        now t on = inr (ap (λ (a : Access). a.pos) (spots.later t on), here t.cell (spots.cell t on))

        same_access : (t : Spot) → IsReportedFrom (length work) more t → t.later.pos ≡ x.pos → t.later ≡ x
        same_access t r e = by_pos work steps step next t.later x (later_of work steps step next t r).0 on_x e

        cases : (t : Spot) → IsReportedFrom (length work) more t
            → IsPastIn res s parts places x.pos (i + 1) t → IsPastIn res s parts places x.pos i t
            ⊎ Contains new t
        cases t r (inl less) = inl (inl less)
        cases t r (inr (e, w)) = elim (less_or_same w.j i w.before) [
          | inl less ↦ inl (inr (
            e,
            record {
              j = w.j;
              place = w.place;
              part = w.part;
              before = less;
              listed = w.listed;
              is = w.is;
              at = w.at;
              has = w.has;
            },
          ))
          | inr same ↦ inr (
              let w_is = w.is in
              let place_k : w.place ≡ k = sym w_is ∙ ap (λ (n : ℕ). get_or places n w.place) same
              ∙ get_or_default places i w.place k lt ∙ is in
              let part_p : w.part ≡ p = sym w.at ∙ ap (λ (n : ℕ). get_or parts n w.part) place_k
              ∙ get_or_default parts k w.part d k_lt in
              spots.all t r (same_access t r e) (subst
              (λ (q : Part Known). IsOf res s q.span t.cell) part_p w.has))
        ]

        behind : (t u : Spot) → Contains found t → Contains new u → SpotBefore t u
        behind t u on_t on_u = elim (f.past t on_t) [
          | inl less ↦ inl (inr (steps_same, (let e = u_pos in omega (arith, e, less))))
          | inr w ↦ inr (
            steps_same,
            (let e = u_pos in w.0 ∙ sym e),
            in_order i w.1.j k w.1.place p w.1.part t u w.1.before lt w.1.is is w.1.at p_at w.1.has
                (spots.cell u on_u),
          )
        ]
          where
            u_pos : u.later.pos ≡ x.pos
            u_pos = ap (λ (a : Access). a.pos) (spots.later u on_u)

            steps_same : t.later.step ≡ u.later.step
            steps_same = (later_of work steps step next t (f.only t on_t)).2
                ∙ sym (later_of work steps step next u (spots.reported u on_u)).2

    -- at last all spots of the access are found
    pub found_last : (i : ℕ) (spots : List Spot) → length places ≤ i
        → AreFound (length work) more (IsPastIn res s parts places x.pos i) spots
        → AreFound (length work) more (IsOfFirst (x.pos + 1)) spots
    found_last i spots over f = found_same (length work) more (IsPastIn res s parts places x.pos i)
        (IsOfFirst (x.pos + 1)) spots to back f
      where
        to : (t : Spot) → IsPastIn res s parts places x.pos i t → t.later.pos < x.pos + 1
        to t (inl less) = omega (arith, less)
        to t (inr (e, w)) = omega (arith, e)

        back : (t : Spot) → IsReportedFrom (length work) more t → t.later.pos < x.pos + 1
            → IsPastIn res s parts places x.pos i t
        back t r lt = elim (less_or_same t.later.pos x.pos lt) [
          | inl less ↦ inl less
          | inr same ↦ inr (
            same,
            (
                let of = later_of work steps step next t r in
                let is_x : t.later ≡ x = by_pos work steps step next t.later x of.0 on_x same in
                let n = cell_lies res s size x.area t.cell shaped lies
                (subst (λ (a : Access). IsTrue (covers a.area t.cell)) is_x of.1) in
                let piece = cell_piece size parts cover n.0 some n.1 in
                let covered : Covers x.area res s n.0 =
                subst (λ (c : Cell). IsTrue (covers x.area c)) n.2
                (subst (λ (a : Access). IsTrue (covers a.area t.cell)) is_x of.1) in
                let on = placed.all piece.0 n.0 some piece.1 piece.2 covered in
                let p : Part Known = get_or parts piece.0 some in
                record {
                  j = on.0;
                  place = piece.0;
                  part = p;
                  before = (let h = on.1 in omega (arith, h, over));
                  listed = on.1;
                  is = on.2;
                  at = get_or_default parts piece.0 p some piece.1;
                  has = record { number = n.0; inside = piece.2; is = n.2 };
                }),
          )
        ]

-- before the first access
pub found_start : (work : List Step) (step : Step)
    → AreFound (length work) (work ++ step ∷ []) (IsOfFirst 0) []
found_start work step = found_none (length work) (work ++ step ∷ []) (IsOfFirst 0)
    (λ t r lt. omega (arith, lt))

-- behind the last one
pub found_end : (work : List Step) (steps : AreInOrder work) (step : Step)
    (next : IsNext (length work) step) (n : ℕ) (spots : List Spot) → length (accesses_of step) ≤ n
    → AreFound (length work) (work ++ step ∷ []) (IsOfFirst n) spots
    → AreReportsFrom (length work) (work ++ step ∷ []) spots
found_end work steps step next n spots over f = found_all (length work) (work ++ step ∷ [])
    (IsOfFirst n) spots (λ t r. let b = pos_below work steps step next t.later
    (later_of work steps step next t r).0 in omega (arith, b, over)) f
