-- What the check of an access on a piece says of the spots of its cells.
use Rattle.std.proofs.Common.{ℕ, zero, suc, ◌≡◌, ◌<◌, ◌≤◌, ◌+◌, ◌-◌, IsTrue, List, [], ◌∷◌, ◌++◌, ◌⊎◌, inl}
use Rattle.std.proofs.Common.{inr, map, arith, refl, sym, ◌∙◌, ap, subst, Contains, length, get_or}
use Rattle.std.specs.List.{AllPairs, range_with_len}
use Rattle.sv_model.specs.Cells.{covers, CellBefore, EndsSmall}
use Rattle.sv_model.specs.Dependencies.{Placed, writes}
use Rattle.sv_model.specs.Order.{Story, IsClear, IsPartner, IsBelow, NoRaces, conflict_kind, extended}
use Rattle.sv_model.specs.Reports.{Spot, SpotBefore, IsRun, spots, story_of, groups_of, accesses_of}
use Rattle.sv_model.specs.Reports.{IsReported, IsReportedFrom, AreNumbered}
use Rattle.sv_model.proofs.Lists.{in_filter, in_first, in_cons, in_cons_cases}
use Rattle.sv_model.proofs.Works.{accesses_on, step_at, work_below}
use Rattle.sv_model.specs.declared.work.Access.{Access}
use Rattle.sv_model.specs.declared.work.Area.{Area}
use Rattle.sv_model.specs.declared.work.Cell.{Cell}
use Rattle.sv_model.specs.declared.work.Kind.{Kind}
use Rattle.sv_model.specs.declared.work.Step.{Step}
use Rattle.sv_range.specs.declared.span.Span.{Span}
use Rattle.sv_rangemap.specs.declared.part.Part.{Part}
use Rattle.sv_space.specs.Meant.{StandsFor}
use Rattle.sv_state.specs.Contents.{Contents}
use Rattle.sv_space.specs.Found.{ArePieceSpots}
use Rattle.sv_space.specs.Known.{groups_in, AreKnown}
use Rattle.sv_space.specs.Lines.{IsInMip, IsOf, IsShaped, cell_on, area_on}
use Rattle.sv_space.specs.Own.{own_of}
use Rattle.sv_space.specs.Pieces.{IsPieceOf}
use Rattle.sv_space.specs.Steps.{IsNext, AreInOrder}
use Rattle.sv_space.specs.declared.known.Known.{Known}
use Rattle.sv_space.specs.declared.shape.Shape.{Shape}
use Rattle.sv_space.specs.declared.shape.Shape.TheVariants as shape
use Rattle.sv_space.proofs.Areas.{area_cells, in_mip_at}
use Rattle.sv_space.proofs.Keeping.{whole_story}
use Rattle.sv_space.proofs.Reported.{clear_unreported, partner_reported, partner_alone}

abbrev spot_of : Access → Access → Kind → Cell → Spot
spot_of x a kind cell = record { cell = cell; later = x; earlier = a; kind = kind }

-- members of a map over a range
in_range : {A : Type 0} (f : ℕ → A) (from count : ℕ) (y : A)
    → Contains (map f (range_with_len from count)) y → (n : ℕ) × (from ≤ n) × (n < from + count) × (f n ≡ y)
in_range f from zero y on = absurd (let h = on.1 in omega arith)
in_range f from (suc count) y on = elim (in_cons_cases (f from)
    (map f (range_with_len (from + 1) count)) y on) [
      | inl same ↦ (from, omega arith, omega arith, same)
      | inr later ↦ (let r = in_range f (from + 1) count y later in
          (r.0, (let a = r.1 in omega (arith, a)), (let a = r.2 in omega (arith, a)), r.3))
    ]

from_range : {A : Type 0} (f : ℕ → A) (from count n : ℕ) → from ≤ n → n < from + count
    → Contains (map f (range_with_len from count)) (f n)
from_range f from zero n low high = absurd (omega (arith, low, high))
from_range {A} f from (suc count) n low high = elim (first_or from n low) [
  | inl same ↦ subst (λ (m : ℕ). Contains (map f (range_with_len from (suc count))) (f m)) same
      (in_first (f from) (map f (range_with_len (from + 1) count)))
  | inr more ↦ in_cons (f from) (map f (range_with_len (from + 1) count)) (f n)
      (from_range f (from + 1) count n (omega arith) (omega (arith, high)))
]
  where
    first_or : (a b : ℕ) → a ≤ b → (a ≡ b) ⊎ (a < b)
    first_or a b le = grind arith

length_range : {A : Type 0} (f : ℕ → A) (count from : ℕ) → length (map f (range_with_len from count)) ≡ count
length_range f zero from = refl
length_range f (suc count) from = ap suc (length_range f count (from + 1))

at_range : {A : Type 0} (f : ℕ → A) (count from i : ℕ) (d : A) → i < count
    → get_or (map f (range_with_len from count)) i d ≡ f (from + i)
at_range f zero from i d lt = absurd (omega (arith, lt))
at_range f (suc count) from zero d lt = let e : from ≡ from + 0 = omega arith in ap f e
at_range f (suc count) from (suc i) d lt = let e : from + 1 + i ≡ from + suc i = omega arith in
    at_range f count (from + 1) i d (omega (arith, lt)) ∙ ap f e

-- a later number on the line is a later cell, inside one mip
cell_before : (res : ℕ) (s : Shape) (span : Span) → IsInMip s span → (i j : ℕ) → i < j → span.start ≤ i → j
    < span.end → CellBefore (cell_on res s i) (cell_on res s j)
cell_before res shape.Bytes span in_mip i j lt low high = (refl, lt)
cell_before res (shape.Mips mips layers) span (mip, from, to) i j lt low high =
    let a = in_mip_at mip layers i (omega (arith, from, low)) (omega (arith, lt, high, to)) in
    let b = in_mip_at mip layers j (omega (arith, from, low, lt)) (omega (arith, high, to)) in
    (refl, inr (a.0 ∙ sym b.0, (let p = a.1 in let q = b.1 in omega (arith, p, q, lt, from, low))))

module _ (work : List Step) (steps : AreInOrder work) (step : Step) (next : IsNext (length work) step)
    (res : ℕ) (s : Shape) (span : Span) (state : Contents) (x : Access) (own : List Placed)
    (same_own : own ≡ own_of (groups_of step) x)
    (known : AreKnown work (IsOf res s span) (length (groups_in work)) state)
    (on : (c : Cell) → IsOf res s span c → Contains (accesses_on step c) x) where
  numbered : AreNumbered work
  numbered k d lt = (steps k d lt).numbered

  stands : (c : Cell) → (h : IsOf res s span c) → StandsFor (story_of work c) (known.each c h).epoch state
  stands c h = subst (λ (t : Story). StandsFor t (known.each c h).epoch state) (whole_story work c)
      (known.each c h).stands

  below : (c : Cell) → (h : IsOf res s span c) → IsBelow x.step (story_of work c)
  below c h = subst (λ (n : ℕ). IsBelow n (story_of work c))
      (sym ((step_at (length work) step c next.numbered).accesses x (on c h))) (work_below work c numbered)

  touched : (c : Cell) → (h : IsOf res s span c) → IsTrue (covers x.area c)
  touched c h = (in_filter (λ (a : Access). covers a.area c) (accesses_of step) x (on c h)).1

  -- the access does not race there
  pub no_spots : ((story : Story) (epoch : ℕ) → StandsFor story epoch state → NoRaces story epoch
      → IsBelow x.step story → IsTrue (covers x.area story.cell) → IsClear (extended story own) epoch x)
      → ArePieceSpots work step res s span x []
  no_spots check = record {
    reported = λ t in_t. absurd (let h = in_t.1 in omega arith);
    later = λ t in_t. absurd (let h = in_t.1 in omega arith);
    cell = λ t in_t. absurd (let h = in_t.1 in omega arith);
    all = λ t r is h. absurd (
        let k = known.each t.cell h in
        let clear = subst (λ (ds : List Placed). IsClear (extended (story_of work t.cell) ds) k.epoch x)
        same_own (check (story_of work t.cell) k.epoch (stands t.cell h) k.current.clean (below t.cell h)
        (touched t.cell h)) in
        clear_unreported work steps step next t.cell k.epoch k.current x
        (on t.cell h) clear t.earlier t.kind (subst
        (λ (y : Access). IsReported (story_of (work ++ step ∷ []) t.cell) y t.earlier t.kind) is
        r.reported));
    in_order = λ i j d lt len. absurd (omega arith);
  }

  -- it does, on each of the cells, and a is its partner
  pub some_spots : (a : Access) (kind : Kind) → span.start < span.end → IsInMip s span
      → ((story : Story) (epoch : ℕ) → StandsFor story epoch state → NoRaces story epoch
      → IsBelow x.step story → IsTrue (covers x.area story.cell)
      → IsPartner (extended story own) epoch x a × (kind ≡ conflict_kind (writes a.what) (writes x.what)))
      → ArePieceSpots work step res s span x (spots
      (record { area = area_on res s span; later = x; earlier = a; kind = kind }))
  some_spots a kind order in_mip check = subst (λ (ts : List Spot). ArePieceSpots work step res s span x ts)
      (sym list_is) (record {
        reported = λ t in_t. (
            let r = in_range spot span.start (span.end - span.start) t in_t in
            subst (λ (u : Spot). IsReportedFrom (length work) (work ++ step ∷ []) u) r.3 (record {
              at = (let e = here r.0 (r.1) (let h = r.2 in omega (arith, h, order)) in omega (arith, e));
              reported = partner_reported work steps step next (cell_on res s r.0)
                  (known.each (cell_on res s r.0) (of r.0 r.1 (let h = r.2 in omega (arith, h, order)))).epoch
                  (known.each (cell_on res s r.0)
                  (of r.0 r.1 (let h = r.2 in omega (arith, h, order)))).current
                  x
                  (on (cell_on res s r.0) (of r.0 r.1 (let h = r.2 in omega (arith, h, order)))) a kind
                  (partner (cell_on res s r.0) (of r.0 r.1 (let h = r.2 in omega (arith, h, order))))
                  (kind_at (cell_on res s r.0) (of r.0 r.1 (let h = r.2 in omega (arith, h, order))));
            }));
        later = λ t in_t. (let r = in_range spot span.start (span.end - span.start) t in_t in
            sym (ap (λ (u : Spot). u.later) r.3));
        cell = λ t in_t. (
            let r = in_range spot span.start (span.end - span.start) t in_t in
            subst (λ (u : Spot). IsOf res s span u.cell) r.3
            (of r.0 r.1 (let h = r.2 in omega (arith, h, order))));
        all = λ t r is h. (
            let k = known.each t.cell h in
            let other = partner_alone work steps step next t.cell k.epoch k.current x
            (on t.cell h) a t.earlier kind t.kind (partner t.cell h) (kind_at t.cell h)
            (subst (λ (y : Access). IsReported (story_of (work ++ step ∷ []) t.cell) y t.earlier t.kind) is
            r.reported) in
            let same : spot h.number ≡ t = ap (λ (p : Cell × (Access × (Access × Kind))). record
            { cell = p.0; later = p.1.0; earlier = p.1.1.0; kind = p.1.1.1 })
            (pairs t h is other.0 other.1) in
            subst (λ (u : Spot). Contains (map spot (range_with_len span.start (span.end - span.start))) u)
            same
            (from_range spot span.start (span.end - span.start) h.number h.inside.from
            (let b = h.inside.before in omega (arith, b, order))));
        in_order = ordered (span.end - span.start) span.start (omega arith) (omega (arith, order));
      })
    where
      spot : ℕ → Spot
      spot n = spot_of x a kind (cell_on res s n)

      of : (n : ℕ) → span.start ≤ n → n < span.end → IsOf res s span (cell_on res s n)
      of n low high = record { number = n; inside = record { from = low; before = high }; is = refl }

      here : (n : ℕ) → span.start ≤ n → n < span.end → x.step ≡ length work
      here n low high = (step_at (length work) step (cell_on res s n) next.numbered).accesses x
          (on (cell_on res s n) (of n low high))

      partner : (c : Cell) → (h : IsOf res s span c)
          → IsPartner (extended (story_of work c) (own_of (groups_of step) x)) (known.each c h).epoch x a
      partner c h = subst (λ (ds : List Placed). IsPartner (extended (story_of work c) ds)
          (known.each c h).epoch x a) same_own (check (story_of work c) (known.each c h).epoch (stands c h)
          (known.each c h).current.clean (below c h) (touched c h)).0

      kind_at : (c : Cell) → IsOf res s span c → kind ≡ conflict_kind (writes a.what) (writes x.what)
      kind_at c h = (check (story_of work c) (known.each c h).epoch (stands c h)
          (known.each c h).current.clean (below c h) (touched c h)).1

      pairs : (t : Spot) → (h : IsOf res s span t.cell) → t.later ≡ x → t.earlier ≡ a → t.kind ≡ kind
          → ◌≡◌ {A = Cell × (Access × (Access × Kind))} (cell_on res s h.number, (x, (a, kind)))
          (t.cell, (t.later, (t.earlier, t.kind)))
      pairs t h later earlier is = let c = h.is in cc

      list_is : spots (record { area = area_on res s span; later = x; earlier = a; kind = kind })
          ≡ map spot (range_with_len span.start (span.end - span.start))
      list_is = ap (map (spot_of x a kind)) (area_cells res s span order in_mip)
          ∙ twice (range_with_len span.start (span.end - span.start))
        where
          twice : (ns : List ℕ) → map (spot_of x a kind) (map (cell_on res s) ns) ≡ map spot ns
          twice [] = refl
          twice (n ∷ ns) = ap (λ (ts : List Spot). spot n ∷ ts) (twice ns)

      ordered : (count from : ℕ) → span.start ≤ from → from + count ≤ span.end
          → AllPairs SpotBefore (map spot (range_with_len from count))
      ordered count from low high i j d lt len =
          let l = length_range spot count from in
          let at_i = at_range spot count from i d (omega (arith, lt, len, l)) in
          let at_j = at_range spot count from j d (omega (arith, len, l)) in
          subst (λ (u : Spot). SpotBefore u (get_or (map spot (range_with_len from count)) j d)) (sym at_i)
          (subst (λ (v : Spot). SpotBefore (spot (from + i)) v) (sym at_j)
          (inr (
            refl,
            refl,
            cell_before res s span in_mip (from + i) (from + j) (omega (arith, lt))
                (omega (arith, low)) (omega (arith, high, len, l)),
          )))

-- the area of a span is a run, and its last layer has a number of 32 bits
pub area_run : (res : ℕ) (s : Shape) (span : Span) (area : Area) → area ≡ area_on res s span → span.start
    < span.end → IsRun area
area_run res s span area is order = subst IsRun (sym is) (by_shape s)
  where
    by_shape : (t : Shape) → IsRun (area_on res t span)
    by_shape shape.Bytes = order
    by_shape (shape.Mips mips layers) = (refl, omega (arith, order))

pub area_within : (res : ℕ) (s : Shape) (size : ℕ) (span : Span) (area : Area) → area ≡ area_on res s span
    → IsShaped s size → span.start < span.end → IsInMip s span → EndsSmall area
area_within res s size span area is shaped order in_mip = subst EndsSmall (sym is) (by_shape s shaped in_mip)
  where
    by_shape : (t : Shape) → IsShaped t size → IsInMip t span → EndsSmall (area_on res t span)
    by_shape shape.Bytes shaped in_mip = tt
    by_shape (shape.Mips mips layers) shaped (mip, from, to) =
        let a = (in_mip_at mip layers span.start from (omega (arith, order, to))).1 in
        let l = shaped.1.0 in
        omega (arith, a, l, order, from, to)

-- a piece that was given all groups
pub whole_known : (work : List Step) (res : ℕ) (s : Shape) (p : Part Known) (span : Span) (known : Known)
    → p ≡ record { span = span; value = known } → p.value.upto ≡ length (groups_in work)
    → IsPieceOf work res s p → AreKnown work (IsOf res s span) (length (groups_in work)) known.state
whole_known work res s p span known is upto of =
    let here : AreKnown work (IsOf res s span) known.upto known.state =
    subst (λ (q : Part Known). IsPieceOf work res s q) is of in
    subst (λ (n : ℕ). AreKnown work (IsOf res s span) n known.state)
    (sym (ap (λ (q : Part Known). q.value.upto) is) ∙ upto) here
