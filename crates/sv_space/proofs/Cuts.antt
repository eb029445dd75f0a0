-- Pieces that were cut for an area, and what stays so of them.
use Rattle.std.proofs.Common.{ℕ, ◌≡◌, ◌<◌, ◌≤◌, ◌+◌, ◌⊎◌, inl, inr, ◌↔◌, IsTrue, List, Contains, length}
use Rattle.std.proofs.Common.{get_or, arith, refl, sym, ◌∙◌, ap, subst}
use Rattle.std.specs.List.{All}
use Rattle.std.proofs.lemmas.List.{get_or_default}
use Rattle.std.proofs.lemmas.List.Elements.{Contains-get_or}
use Rattle.sv_model.specs.Cells.{covers}
use Rattle.sv_model.specs.declared.work.Area.{Area}
use Rattle.sv_range.specs.Lines.{InSome}
use Rattle.sv_range.specs.Spans.{InSpan}
use Rattle.sv_range.specs.declared.span.Span.{Span}
use Rattle.sv_rangemap.specs.Lines.{ArePartsOf, BeginsAt, Cover, HaveSameSpans, IsBoundary, KeepBegins}
use Rattle.sv_rangemap.specs.declared.part.Part.{Part}
use Rattle.sv_rangemap.proofs.Pieces.{begins_there, below_size}
use Rattle.sv_space.specs.Cut.{AreApart, ArePlacesOf, Covers, IsCutFor, IsCaughtFor, IsPartLater}
use Rattle.sv_space.specs.Cut.{ArePartsLater}
use Rattle.sv_space.specs.Lines.{IsInMip, cell_on}
use Rattle.sv_space.specs.Pieces.{AreWithin}
use Rattle.sv_space.specs.declared.known.Known.{Known}
use Rattle.sv_space.specs.declared.shape.Shape.{Shape}
use Rattle.sv_space.specs.declared.shape.Shape.TheVariants as shape

below_or : (c n : ℕ) → (c < n) ⊎ (n ≤ c)
below_or c n = grind arith

-- pieces begin at both ends of the span
pub record IsCutAt (size : ℕ) (parts : List (Part Known)) (span : Span) : Type 0 where
  pub begins : BeginsAt parts span.start
  pub ends : IsBoundary size parts span.end

pub cut_kept : (size : ℕ) (old new : List (Part Known)) (span : Span) → KeepBegins old new
    → IsCutAt size old span → IsCutAt size new span
cut_kept size old new span keep is = record {
  begins = keep span.start is.begins;
  ends = elim is.ends [ inl begins ↦ inl (keep span.end begins) | inr all ↦ inr all ];
}

less_or_same : (a b : ℕ) → a < b + 1 → (a < b) ⊎ (a ≡ b)
less_or_same a b lt = grind arith

-- one span more
pub cuts_more : (size wide : ℕ) → wide ≡ size → (old new : List (Part Known)) → KeepBegins old new
    → (spans : List Span) (i : ℕ) (span : Span) → i < length spans → get_or spans i span ≡ span
    → BeginsAt new span.start → IsBoundary wide new span.end
    → ((j : ℕ) (e : Span) → j < i → IsCutAt size old (get_or spans j e)) → (j : ℕ) (e : Span) → j < i + 1
    → IsCutAt wide new (get_or spans j e)
cuts_more size wide same old new keep spans i span lt is begins ends cut j e j_lt =
    elim (less_or_same j i j_lt) [
      | inl before ↦ subst (λ (n : ℕ). IsCutAt n new (get_or spans j e)) (sym same)
          (cut_kept size old new (get_or spans j e) keep (cut j e before))
      | inr here ↦ subst (λ (t : Span). IsCutAt wide new t)
          (sym (ap (λ (n : ℕ). get_or spans n e) here ∙ get_or_default spans i e span lt ∙ is))
          (record { begins = begins; ends = ends })
    ]

-- a piece with a cell of such a span lies inside it
piece_inside : (size : ℕ) (parts : List (Part Known)) → Cover size parts → (span : Span)
    → IsCutAt size parts span → (k n : ℕ) (d : Part Known) → k < length parts
    → InSpan (get_or parts k d).span n → InSpan span n
    → (span.start ≤ (get_or parts k d).span.start) × ((get_or parts k d).span.end ≤ span.end)
piece_inside size parts cover span is k n d lt has inside = (
  elim (below_or (get_or parts k d).span.start span.start) [
    | inl less ↦ absurd (
        let from = inside.from in
        let before = has.before in
        let e = begins_there size parts cover k span.start d is.begins lt
        (record { from = omega (arith, less); before = omega (arith, from, before) }) in
        omega (arith, e, less))
    | inr le ↦ le
  ],
  elim (below_or span.end (get_or parts k d).span.end) [
    | inl less ↦ absurd (elim is.ends [
      | inl begins ↦ (
          let from = has.from in
          let before = inside.before in
          let e = begins_there size parts cover k span.end d begins lt
          (record { from = omega (arith, from, before); before = less }) in
          omega (arith, e, from, before))
      | inr all ↦ (let b = below_size size parts cover k d lt in omega (arith, b, all, less))
    ])
    | inr le ↦ le
  ],
)

in_mip_part : (s : Shape) (span part : Span) → span.start ≤ part.start → part.end ≤ span.end
    → IsInMip s span → IsInMip s part
in_mip_part shape.Bytes span part from to is = tt
in_mip_part (shape.Mips mips layers) span part from to (mip, low, high) =
    (mip, omega (arith, low, from), omega (arith, high, to))

in_some : (spans : List Span) (j n : ℕ) (e : Span) → j < length spans → InSpan (get_or spans j e) n
    → InSome spans n
in_some spans j n e lt inside = (
  j,
  get_or spans j e,
  lt,
  get_or_default spans j (get_or spans j e) e lt,
  inside,
)

module _ (area : Area) (res : ℕ) (s : Shape) (size : ℕ) (parts : List (Part Known))
    (cover : Cover size parts) (spans : List Span) (in_mip : All (IsInMip s) spans)
    (cells : (number : ℕ) → number < size → InSome spans number
    ↔ IsTrue (covers area (cell_on res s number)))
    (are : (j : ℕ) (e : Span) → j < length spans → IsCutAt size parts (get_or spans j e)) where
  in_line : (k n : ℕ) (d : Part Known) → k < length parts → InSpan (get_or parts k d).span n → n < size
  in_line k n d lt has = let b = below_size size parts cover k d lt in let h = has.before in
      omega (arith, b, h)

  of_span : (k n : ℕ) (d : Part Known) → k < length parts → InSpan (get_or parts k d).span n
      → Covers area res s n → (j : ℕ) × (e : Span) × (j < length spans) × InSpan (get_or spans j e) n
  of_span k n d lt has covered =
      let some = (cells n (in_line k n d lt has)).1 covered in
      (some.0, some.1, some.2, subst (λ (e : Span). InSpan e n) (sym some.3) some.4)

  pub cut_for : IsCutFor area res s parts
  cut_for = record {
    whole = λ k n m d lt has also covered. (
        let w = of_span k n d lt has covered in
        let inside = piece_inside size parts cover (get_or spans w.0 w.1)
        (are w.0 w.1 w.2) k n d lt has w.3 in
        let a = inside.0 in
        let b = inside.1 in
        let from = also.from in
        let before = also.before in
        (cells m (in_line k m d lt also)).0 (in_some spans w.0 m w.1 w.2
        (record { from = omega (arith, a, from); before = omega (arith, b, before) })));
    in_mip = λ k n d lt has covered. (
        let w = of_span k n d lt has covered in
        let inside = piece_inside size parts cover (get_or spans w.0 w.1)
        (are w.0 w.1 w.2) k n d lt has w.3 in
        in_mip_part s (get_or spans w.0 w.1) (get_or parts k d).span inside.0 inside.1 (in_mip w.0 w.1 w.2));
  }

-- parts of parts
pub later_of_parts : (groups : ℕ) (new old : List (Part Known)) → ArePartsOf new old
    → ArePartsLater groups new old
later_of_parts groups new old parts p on = let q = parts p on in
    (q.0, q.1, record { from = q.2.from; before = q.2.before; value = inl q.2.value })

pub later_then : (groups : ℕ) (new mid old : List (Part Known)) → ArePartsLater groups new mid
    → ArePartsLater groups mid old → ArePartsLater groups new old
later_then groups new mid old second first p on =
    let q = second p on in
    let r = first q.0 q.1 in
    let a = q.2 in
    let b = r.2 in (
      r.0,
      r.1,
      record {
        from = (let x = a.from in let y = b.from in omega (arith, x, y));
        before = (let x = a.before in let y = b.before in omega (arith, x, y));
        value = elim a.value [
          | inl same ↦ elim b.value [
            | inl was ↦ inl (same ∙ was)
            | inr all
                ↦ inr (ap (λ (v : Known). v.upto) same ∙ all)
          ]
          | inr all ↦ inr all
        ];
      },
    )

pub later_same : (groups : ℕ) (parts : List (Part Known)) → ArePartsLater groups parts parts
later_same groups parts p on = (p, on, record { from = omega arith; before = omega arith; value = inl refl })

module _ (groups : ℕ) (new old : List (Part Known)) (later : ArePartsLater groups new old) where
  -- the old piece of a new one
  old_at : (k : ℕ) (d : Part Known) → k < length new → (q : Part Known) × Contains old q
      × IsPartLater groups (get_or new k d) q
  old_at k d lt = later (get_or new k d) (Contains-get_or new k d lt)

  in_old : (j n : ℕ) (p q : Part Known) → get_or old j q ≡ q → IsPartLater groups p q → InSpan p.span n
      → InSpan (get_or old j q).span n
  in_old j n p q at part has =
      let a = part.from in
      let b = part.before in
      let from = has.from in
      let before = has.before in
      let here : InSpan q.span n = record {
        from = omega (arith, a, from);
        before = omega (arith, b, before);
      } in
      subst (λ (r : Part Known). InSpan r.span n) (sym at) here

  pub cut_later : (area : Area) (res : ℕ) (s : Shape) → IsCutFor area res s old → IsCutFor area res s new
  cut_later area res s cut = record {
    whole = λ k n m d lt has also covered. (
        let q = old_at k d lt in
        let on = q.1 in
        cut.whole on.0 n m q.0 on.1 (in_old on.0 n (get_or new k d) q.0 on.2 q.2 has)
        (in_old on.0 m (get_or new k d) q.0 on.2 q.2 also) covered);
    in_mip = λ k n d lt has covered. (
        let q = old_at k d lt in
        let on = q.1 in
        let was = cut.in_mip on.0 n q.0 on.1 (in_old on.0 n (get_or new k d) q.0 on.2 q.2 has) covered in
        in_mip_part s q.0.span (get_or new k d).span q.2.from q.2.before
        (subst (λ (r : Part Known). IsInMip s r.span) on.2 was));
  }

  pub caught_later : (area : Area) (res : ℕ) (s : Shape) → IsCaughtFor area groups res s old
      → IsCaughtFor area groups res s new
  caught_later area res s caught k n d lt has covered =
      let q = old_at k d lt in
      let on = q.1 in
      elim q.2.value [
        | inl same ↦ ap (λ (v : Known). v.upto) same ∙ ap (λ (r : Part Known). r.value.upto) (sym on.2)
            ∙ caught on.0 n q.0 on.1 (in_old on.0 n (get_or new k d) q.0 on.2 q.2 has) covered
        | inr all ↦ all
      ]

  pub within_later : AreWithin groups old → AreWithin groups new
  within_later within k d lt =
      let q = old_at k d lt in
      let on = q.1 in
      elim q.2.value [
        | inl same ↦ (let a = ap (λ (v : Known). v.upto) same in let b =
            ap (λ (r : Part Known). r.value.upto) on.2 in let w = within on.0 q.0 on.1 in
            omega (arith, a, b, w))
        | inr all ↦ omega (arith, all)
      ]

-- where each piece has its old span, and its old value or all groups
pub later_spans : (groups : ℕ) (old new : List (Part Known)) → HaveSameSpans old new
    → ((k : ℕ) (d : Part Known) → k < length old → (get_or new k d ≡ get_or old k d)
    ⊎ ((get_or new k d).value.upto ≡ groups)) → ArePartsLater groups new old
later_spans groups old new same changed p (k, lt, at) =
    let long = same.long in
    let in_old : k < length old = omega (arith, lt, long) in
    let span : p.span ≡ (get_or old k p).span = ap (λ (q : Part Known). q.span) (sym at) ∙ same.spans k p in (
      get_or old k p,
      Contains-get_or old k p in_old,
      record {
        from = (let e = ap (λ (t : Span). t.start) span in omega (arith, e));
        before = (let e = ap (λ (t : Span). t.end) span in omega (arith, e));
        value = elim (changed k p in_old) [
          | inl was ↦ inl (ap (λ (q : Part Known). q.value) (sym at ∙ was))
          | inr all ↦ inr (ap (λ (q : Part Known). q.value.upto) (sym at) ∙ all)
        ];
      },
    )

-- the pieces at the places of an area are those that have its cells
pub caught_for : (area : Area) (groups res : ℕ) (s : Shape) (old new : List (Part Known))
    → HaveSameSpans old new → (places : List ℕ) →
    ((k n : ℕ) (d : Part Known) → k < length old → InSpan (get_or old k d).span n → Covers area res s n
    → Contains places k)
    → ((k : ℕ) (d : Part Known) → Contains places k → (get_or new k d).value.upto ≡ groups)
    → IsCaughtFor area groups res s new
caught_for area groups res s old new same places all caught k n d lt has covered =
    let long = same.long in
    caught k d (all k n d (omega (arith, lt, long))
    (subst (λ (t : Span). InSpan t n) (same.spans k d) has) covered)

-- pieces with the same spans are cut as they were
pub cut_spans : (area : Area) (res : ℕ) (s : Shape) (old new : List (Part Known)) → HaveSameSpans old new
    → IsCutFor area res s old → IsCutFor area res s new
cut_spans area res s old new same cut = record {
  whole = λ k n m d lt has also covered. (
      let l = same.long in
      cut.whole k n m d (omega (arith, l, lt)) (subst (λ (t : Span). InSpan t n) (same.spans k d) has)
      (subst (λ (t : Span). InSpan t m) (same.spans k d) also) covered);
  in_mip = λ k n d lt has covered. (
      let l = same.long in
      subst (λ (t : Span). IsInMip s t) (sym (same.spans k d))
      (cut.in_mip k n d (omega (arith, l, lt)) (subst (λ (t : Span). InSpan t n) (same.spans k d) has)
      covered));
}

-- where only the pieces at the places of an area changed, those with cells of an area apart from it were
-- given as many groups as before
pub apart_caught : (area at : Area) (n res : ℕ) (s : Shape) (old new : List (Part Known))
    → HaveSameSpans old new → IsCutFor area res s old → (places : List ℕ)
    → ArePlacesOf area res s old places
    → ((k : ℕ) (d : Part Known) → (Contains places k → ⊥) → get_or new k d ≡ get_or old k d)
    → AreApart area at → IsCaughtFor at n res s old → IsCaughtFor at n res s new
apart_caught area at n res s old new same cut places placed others apart was k m d lt has covered =
    let long = same.long in
    let k_lt : k < length old = omega (arith, lt, long) in
    let here : InSpan (get_or old k d).span m = subst (λ (t : Span). InSpan t m) (same.spans k d) has in
    let free : Contains places k → ⊥ = λ on. (let w = placed.has k d on in
    apart (cell_on res s m) (cut.whole k w.0 m d k_lt w.1 here w.2) covered) in
    ap (λ (p : Part Known). p.value.upto) (others k d free) ∙ was k m d k_lt here covered
