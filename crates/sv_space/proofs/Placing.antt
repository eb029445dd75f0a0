-- The places of the pieces of spans, one span after another.
use Rattle.std.proofs.Common.{ℕ, ◌≡◌, ◌<◌, ◌≤◌, ◌+◌, ◌-◌, ◌⊎◌, inl, inr, ◌↔◌, IsTrue, List, [], ◌∷◌, ◌++◌}
use Rattle.std.proofs.Common.{Contains, length, get_or, arith, sym, ◌∙◌, ap, subst}
use Rattle.std.specs.List.{AllPairs, range_with_len}
use Rattle.std.proofs.lemmas.List.{get_or_default}
use Rattle.std.proofs.lemmas.List.Elements.{Contains-append_left, Contains-append_right}
use Rattle.std.proofs.lemmas.List.Elements.{Contains-append_cases}
use Rattle.std.proofs.lemmas.List.FromFn.{get_or-range_with_len, length-range_with_len}
use Rattle.sv_model.specs.Cells.{covers}
use Rattle.sv_model.specs.declared.work.Area.{Area}
use Rattle.sv_model.proofs.Lists.{range_split}
use Rattle.sv_range.specs.Lines.{InSome}
use Rattle.sv_range.specs.Spans.{EndsBefore, InSpan}
use Rattle.sv_range.specs.declared.span.Span.{Span}
use Rattle.sv_rangemap.specs.Lines.{Cover, IsAt}
use Rattle.sv_rangemap.specs.declared.part.Part.{Part}
use Rattle.sv_rangemap.proofs.Pieces.{below_size, ends_before, places_order}
use Rattle.sv_space.specs.Cut.{ArePlacesOf}
use Rattle.sv_space.specs.Lines.{cell_on}
use Rattle.sv_space.specs.Places.{AreListed}
use Rattle.sv_space.specs.declared.known.Known.{Known}
use Rattle.sv_space.specs.declared.shape.Shape.{Shape}
use Rattle.sv_space.proofs.Keeping.{pairs_append}

below_or : (c n : ℕ) → (c < n) ⊎ (n ≤ c)
below_or c n = grind arith

less_or_same : (a b : ℕ) → a ≤ b → (a < b) ⊎ (a ≡ b)
less_or_same a b le = grind arith

-- one number more
pub push_number : (a b n : ℕ) → a ≤ n → n + 1 ≡ b → range_with_len a (b - a) ≡ range_with_len a (n - a) ++ n
    ∷ []
push_number a b n le is =
    let e : b - a ≡ (n - a) + 1 = omega (arith, le, is) in
    let f : a + (n - a) ≡ n = omega (arith, le) in
    ap (range_with_len a) e ∙ range_split a (n - a) 1 ∙ ap (λ k. range_with_len a (n - a) ++ k ∷ []) f

pub no_numbers : (a n : ℕ) → n ≤ a → range_with_len a (n - a) ≡ []
no_numbers a n le = let e : n - a ≡ 0 = omega (arith, le) in ap (range_with_len a) e

-- the numbers of a range
in_numbers : (a n x : ℕ) → Contains (range_with_len a n) x → (a ≤ x) × (x < a + n)
in_numbers a n x on =
    let l = length-range_with_len a n in
    let lt : on.0 < n = (let h = on.1 in omega (arith, l, h)) in
    let e : a + on.0 ≡ x = sym (get_or-range_with_len a n on.0 x lt) ∙ on.2 in
    (omega (arith, e), omega (arith, e, lt))

from_numbers : (a n x : ℕ) → a ≤ x → x < a + n → Contains (range_with_len a n) x
from_numbers a n x low high =
    let lt : x - a < n = omega (arith, low, high) in
    let e : a + (x - a) ≡ x = omega (arith, low) in (
      x - a,
      (let l = length-range_with_len a n in omega (arith, l, lt)),
      get_or-range_with_len a n (x - a) x lt ∙ e,
    )

numbers_rise : (a n : ℕ) → AllPairs (λ (x y : ℕ). x < y) (range_with_len a n)
numbers_rise a n i j d lt within =
    let l = length-range_with_len a n in
    let e = get_or-range_with_len a n i d (omega (arith, l, lt, within)) in
    let f = get_or-range_with_len a n j d (omega (arith, l, within)) in
    omega (arith, e, f, lt)

-- a piece between those of two cells has a cell from the one to the other
meets : (size : ℕ) (parts : List (Part Known)) → Cover size parts → (a b first last k : ℕ) (d : Part Known)
    → a ≤ b → IsAt parts a first → IsAt parts b last → first ≤ k → k ≤ last → (n : ℕ)
    × InSpan (get_or parts k d).span n × (a ≤ n) × (n ≤ b)
meets size parts cover a b first last k d le at_first at_last from to = elim (less_or_same first k from) [
  | inl more ↦ (
      let listed = at_last.listed in
      let k_lt : k < length parts = omega (arith, to, listed) in
      let e = ends_before size parts cover first k d more k_lt in
      let h = (at_first.has d).before in
      let some = cover.cells k d k_lt in (
        (get_or parts k d).span.start,
        record { from = omega arith; before = some },
        omega (arith, e, h),
        high k_lt some,
      ))
  | inr same ↦ (
      let has = at_first.has d in
      (a, subst (λ (i : ℕ). InSpan (get_or parts i d).span a) same has, omega arith, le))
]
  where
    high : k < length parts → (get_or parts k d).span.start < (get_or parts k d).span.end
        → (get_or parts k d).span.start ≤ b
    high k_lt some = elim (less_or_same k last to) [
      | inl less ↦ (let e = ends_before size parts cover k last d less at_last.listed in let h =
          (at_last.has d).from in omega (arith, e, h, some))
      | inr same ↦ (let h = subst (λ (i : ℕ). InSpan (get_or parts i d).span b) (sym same) (at_last.has d)
          in let f = h.from in omega (arith, f))
    ]

-- at first nothing is listed
pub listed_none : (parts : List (Part Known)) (spans : List Span) → AllPairs EndsBefore spans
    → ((j : ℕ) (e : Span) → j < length spans → (get_or spans j e).start < (get_or spans j e).end)
    → AreListed parts spans 0 0 []
listed_none parts spans ascending ordered = record {
  short = omega arith;
  rising = λ i j d lt len. absurd (omega arith);
  below = λ k on. absurd (let h = on.1 in omega arith);
  has = λ k d on. absurd (let h = on.1 in omega arith);
  low = 0;
  low_le = λ j e le lt. omega arith;
  reach = λ k n d lt. absurd (omega arith);
  all = λ k n j d e lt before. absurd (omega arith);
  ascending = ascending;
  ordered = ordered;
}

-- one span more
module _ (size : ℕ) (parts : List (Part Known)) (cover : Cover size parts) (span : Span)
    (order : span.start < span.end) (first last : ℕ) (at_first : IsAt parts span.start first)
    (at_last : IsAt parts (span.end - 1) last)
    (spans : List Span) (i : ℕ) (lt : i < length spans) (is : get_or spans i span ≡ span)
    (next from after : ℕ) (first_from : first ≤ from) (next_from : next ≤ from)
    (from_is : (from ≡ first) ⊎ (from ≡ next))
    (next_after : next ≤ after) (last_after : last + 1 ≤ after)
    (after_is : (after ≡ next) ⊎ (after ≡ last + 1)) (old : List ℕ)
    (listed : AreListed parts spans i next old) where
  abbrev added : List ℕ
  added = range_with_len from (last + 1 - from)

  -- what was added
  in_added : (k : ℕ) → Contains added k → (from ≤ k) × (k ≤ last)
  in_added k on = let h = in_numbers from (last + 1 - from) k on in
      (h.0, (let a = h.0 in let b = h.1 in omega (arith, a, b)))

  add : (k : ℕ) → from ≤ k → k ≤ last → Contains (old ++ added) k
  add k low high = Contains-append_right old added k
      (from_numbers from (last + 1 - from) k low (omega (arith, low, high)))

  -- the piece of a cell of the span is between those of its ends
  between_first : (k n : ℕ) (d : Part Known) → k < length parts → InSpan (get_or parts k d).span n
      → span.start ≤ n → first ≤ k
  between_first k n d k_lt has le = places_order size parts cover first k span.start n at_first
      (record { listed = k_lt; has = λ e. at_any k n d e k_lt has }) le
    where
      at_any : (k n : ℕ) (d e : Part Known) → k < length parts → InSpan (get_or parts k d).span n
          → InSpan (get_or parts k e).span n
      at_any k n d e k_lt has = subst (λ (p : Part Known). InSpan p.span n)
          (get_or_default parts k d e k_lt) has

  between_last : (k n : ℕ) (d : Part Known) → k < length parts → InSpan (get_or parts k d).span n → n
      ≤ span.end - 1 → k ≤ last
  between_last k n d k_lt has le = places_order size parts cover k last n (span.end - 1)
      (record { listed = k_lt; has = λ e. at_any k n d e k_lt has }) at_last le
    where
      at_any : (k n : ℕ) (d e : Part Known) → k < length parts → InSpan (get_or parts k d).span n
          → InSpan (get_or parts k e).span n
      at_any k n d e k_lt has = subst (λ (p : Part Known). InSpan p.span n)
          (get_or_default parts k d e k_lt) has

  low_now : listed.low ≤ span.start
  low_now = let h = listed.low_le i span (omega arith) lt in let e = ap (λ (t : Span). t.start) is in
      omega (arith, h, e)

  short_now : after ≤ length parts
  short_now = let s = listed.short in let l = at_last.listed in
      elim after_is [ inl e ↦ omega (arith, e, s) | inr e ↦ omega (arith, e, l) ]

  reach_now : (k n : ℕ) (d : Part Known) → k < after → InSpan (get_or parts k d).span n → span.start ≤ n
      → Contains (old ++ added) k
  reach_now k n d k_lt has le = elim (below_or k next) [
    | inl before ↦ Contains-append_left old added k
        (listed.reach k n d before has (let h = low_now in omega (arith, h, le)))
    | inr behind ↦ (
        let in_parts : k < length parts = (let s = short_now in omega (arith, s, k_lt)) in
        let f = between_first k n d in_parts has le in
        let t : k ≤ last = elim after_is [
          | inl e ↦ absurd (omega (arith, e, k_lt, behind))
          | inr e
              ↦ omega (arith, e, k_lt)
        ] in
        let from_le : from ≤ k = elim from_is [
          | inl e ↦ omega (arith, e, f)
          | inr e
              ↦ omega (arith, e, behind)
        ] in
        add k from_le t)
  ]

  all_now : (k n j : ℕ) (d : Part Known) (e : Span) → k < length parts → j < i + 1
      → InSpan (get_or parts k d).span n → InSpan (get_or spans j e) n → Contains (old ++ added) k
  all_now k n j d e k_lt j_lt has inside = elim (less_or_same j i (omega (arith, j_lt))) [
    | inl before ↦ Contains-append_left old added k (listed.all k n j d e k_lt before has inside)
    | inr same ↦ (
        let here : InSpan span n = subst (λ (t : Span). InSpan t n)
        (ap (λ (m : ℕ). get_or spans m e) same ∙ get_or_default spans i e span lt ∙ is) inside in
        let a = here.from in
        let b = here.before in
        let t = between_last k n d k_lt has (omega (arith, b)) in
        reach_now k n d (omega (arith, t, last_after)) has a)
  ]

  pub listed_more : AreListed parts spans (i + 1) after (old ++ added)
  listed_more = record {
    short = short_now;
    rising = pairs_append (λ (x y : ℕ). x < y) old added listed.rising (numbers_rise from (last + 1 - from))
        (λ x y on_x on_y. let b = listed.below x on_x in let a = (in_added y on_y).0 in
        omega (arith, a, b, next_from));
    below = λ k on. elim (Contains-append_cases old added k on) [
      | inl was ↦ (let b = listed.below k was in omega (arith, b, next_after))
      | inr now ↦ (let t = (in_added k now).1 in omega (arith, t, last_after))
    ];
    has = λ k d on. elim (Contains-append_cases old added k on) [
      | inl was ↦ listed.has k d was
      | inr now ↦ (
          let r = in_added k now in
          let low = r.0 in
          let m = meets size parts cover span.start (span.end - 1) first last k d
          (omega (arith, order)) at_first at_last (omega (arith, low, first_from)) r.1 in
          let a = m.2 in
          let b = m.3 in
          (m.0, m.1, (i, span, lt, is, record { from = a; before = omega (arith, b, order) })))
    ];
    low = span.start;
    low_le = λ j e le j_lt. (
        let before = listed.ascending i j e (omega (arith, le)) j_lt in
        let at : get_or spans i e ≡ span = get_or_default spans i e span lt ∙ is in
        let f = ap (λ (t : Span). t.end) at in
        omega (arith, before, f, order));
    reach = reach_now;
    all = all_now;
    ascending = listed.ascending;
    ordered = listed.ordered;
  }

-- at last all are
pub placed_all : (area : Area) (res : ℕ) (s : Shape) (size : ℕ) (parts : List (Part Known))
    → Cover size parts → (spans : List Span) → ((number : ℕ) → number < size → InSome spans number
    ↔ IsTrue (covers area (cell_on res s number)))
    → (i next : ℕ) (places : List ℕ) → length spans ≤ i → AreListed parts spans i next places
    → ArePlacesOf area res s parts places
placed_all area res s size parts cover spans cells i next places over listed = record {
  listed = λ k on. (let b = listed.below k on in let h = listed.short in omega (arith, b, h));
  rising = listed.rising;
  has = λ k d on. (
      let b = listed.below k on in
      let h = listed.short in
      let m = listed.has k d on in
      (m.0, m.1, (cells m.0 (in_line k m.0 d (omega (arith, b, h)) m.1)).0 m.2));
  all = λ k n d lt has covered. (
      let some = (cells n (in_line k n d lt has)).1 covered in
      let some_lt = some.2 in
      listed.all k n some.0 d some.1 lt (omega (arith, some_lt, over)) has
      (subst (λ (e : Span). InSpan e n) (sym some.3) some.4));
}
  where
    in_line : (k n : ℕ) (d : Part Known) → k < length parts → InSpan (get_or parts k d).span n → n < size
    in_line k n d lt has = let b = below_size size parts cover k d lt in let h = has.before in
        omega (arith, b, h)
