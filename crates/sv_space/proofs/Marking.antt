-- Pieces of which an access of a step was recorded, one after another.
use Rattle.std.proofs.Common.{ℕ, ◌≡◌, ◌≢◌, ◌<◌, ◌≤◌, ◌+◌, ◌⊎◌, inl, inr, List, Contains, length, get_or}
use Rattle.std.proofs.Common.{take, arith, refl, sym, ◌∙◌, ap, subst}
use Rattle.std.specs.List.{AllPairs}
use Rattle.std.proofs.lemmas.List.{get_or_default}
use Rattle.sv_model.specs.declared.work.Access.{Access}
use Rattle.sv_model.specs.declared.work.Area.{Area}
use Rattle.sv_model.specs.declared.work.Group.{Group}
use Rattle.sv_range.specs.Spans.{InSpan}
use Rattle.sv_rangemap.specs.Lines.{Cover}
use Rattle.sv_rangemap.specs.declared.part.Part.{Part}
use Rattle.sv_space.specs.Cut.{ArePlacesOf, Covers, IsCutFor}
use Rattle.sv_space.specs.Marked.{IsFree, IsMarked}
use Rattle.sv_space.specs.declared.known.Known.{Known}
use Rattle.sv_space.specs.declared.shape.Shape.{Shape}

less_or_same : (a b : ℕ) → a < b + 1 → (a < b) ⊎ (a ≡ b)
less_or_same a b lt = grind arith

pub same_mark : (accesses : List Access) (groups : List Group) (number res r : ℕ) (s t : Shape)
    (old new : Part Known) → r ≡ res → t ≡ s → IsMarked accesses groups number r t old new
    → IsMarked accesses groups number res s old new
same_mark accesses groups number res r s t old new is_res is_shape m =
    subst (λ (u : Shape). IsMarked accesses groups number res u old new) is_shape
    (subst (λ (n : ℕ). IsMarked accesses groups number n t old new) is_res m)

-- the pieces at the first so many places are marked, and the others are as they were
pub record AreMarked (accesses : List Access) (groups : List Group) (number res : ℕ) (s : Shape)
    (places : List ℕ) (i : ℕ) (old new : List (Part Known)) : Type 0 where
  pub others : (k : ℕ) (d : Part Known) → ((j e : ℕ) → j < i → get_or places j e ≡ k → ⊥) → get_or new k d
      ≡ get_or old k d
  pub marked : (j e : ℕ) (d : Part Known) → j < i
      → IsMarked accesses groups number res s (get_or old (get_or places j e) d)
      (get_or new (get_or places j e) d)

pub marked_none : (accesses : List Access) (groups : List Group) (number res : ℕ) (s : Shape)
    (places : List ℕ) (old : List (Part Known)) → AreMarked accesses groups number res s places 0 old old
marked_none accesses groups number res s places old =
    record { others = λ k d none. refl; marked = λ j e d lt. absurd (omega arith) }

pub marked_next : (accesses : List Access) (groups : List Group) (number res : ℕ) (s : Shape)
    (places : List ℕ) → AllPairs (λ (a b : ℕ). a < b) places → (i place : ℕ) → i < length places
    → get_or places i place ≡ place → (old mid new : List (Part Known))
    → ((k : ℕ) (d : Part Known) → k ≢ place → get_or new k d ≡ get_or mid k d)
    → ((d : Part Known) → IsMarked accesses groups number res s (get_or mid place d) (get_or new place d))
    → AreMarked accesses groups number res s places i old mid
    → AreMarked accesses groups number res s places (i + 1) old new
marked_next accesses groups number res s places rising i place lt is old mid new others at m = record {
  others = λ k d none. others k d (λ same. none i place (omega arith) (is ∙ sym same))
      ∙ m.others k d (λ j e j_lt is_k. none j e (omega (arith, j_lt)) is_k);
  marked = λ j e d j_lt. elim (less_or_same j i j_lt) [
    | inl before ↦ subst (λ (p : Part Known). IsMarked accesses groups number res s
        (get_or old (get_or places j e) d) p) (sym (others (get_or places j e) d (apart j e before)))
        (m.marked j e d before)
    | inr same ↦ (
        let here : get_or places j e ≡ place = ap (λ (n : ℕ). get_or places n e) same
        ∙ get_or_default places i e place lt ∙ is in
        let was : get_or mid place d ≡ get_or old place d =
        m.others place d (λ n f n_lt is_k. apart n f n_lt is_k) in
        subst (λ (k : ℕ). IsMarked accesses groups number res s (get_or old k d) (get_or new k d)) (sym here)
        (subst (λ (p : Part Known). IsMarked accesses groups number res s p (get_or new place d)) was (at d)))
  ];
}
  where
    apart : (j e : ℕ) → j < i → get_or places j e ≡ place → ⊥
    apart j e before same =
        let rise = rising j i e before lt in
        let here : get_or places i e ≡ place = get_or_default places i e place lt ∙ is in
        omega (arith, rise, here, same)

-- the places of an area are those of the pieces that begin with a cell of it
module _ (area : Area) (res : ℕ) (s : Shape) (size : ℕ) (parts : List (Part Known))
    (cover : Cover size parts) (cut : IsCutFor area res s parts) (places : List ℕ)
    (placed : ArePlacesOf area res s parts places) where
  begins : (k : ℕ) (d : Part Known) → k < length parts
      → InSpan (get_or parts k d).span (get_or parts k d).span.start
  begins k d lt = record { from = omega arith; before = cover.cells k d lt }

  pub place_covers : (k : ℕ) (d : Part Known) → Contains places k
      → Covers area res s (get_or parts k d).span.start
  place_covers k d on =
      let h = placed.has k d on in
      let lt = placed.listed k on in
      cut.whole k h.0 (get_or parts k d).span.start d lt h.1 (begins k d lt) h.2

  pub covers_place : (k : ℕ) (d : Part Known) → k < length parts
      → Covers area res s (get_or parts k d).span.start → Contains places k
  covers_place k d lt covered = placed.all k (get_or parts k d).span.start d lt (begins k d lt) covered

  pub marked_others : (accesses : List Access) (groups : List Group) (number i : ℕ)
      (new : List (Part Known)) → i ≤ length places
      → AreMarked accesses groups number res s places i parts new → (k : ℕ) (d : Part Known)
      → ¬ Covers area res s (get_or parts k d).span.start → get_or new k d ≡ get_or parts k d
  marked_others accesses groups number i new le m k d not_covered = m.others k d (λ j e j_lt is_k.
      let lt : j < length places = omega (arith, j_lt, le) in
      not_covered (place_covers k d (j, lt, get_or_default places j k e lt ∙ is_k)))

  pub marked_those : (accesses : List Access) (groups : List Group) (number i : ℕ) (new : List (Part Known))
      → length places ≤ i → AreMarked accesses groups number res s places i parts new
      → (k : ℕ) (d : Part Known) → k < length parts → Covers area res s (get_or parts k d).span.start
      → IsMarked accesses groups number res s (get_or parts k d) (get_or new k d)
  marked_those accesses groups number i new over m k d lt covered =
      let on = covers_place k d lt covered in
      let on_lt = on.1 in
      subst (λ (n : ℕ). IsMarked accesses groups number res s (get_or parts n d) (get_or new n d)) on.2
      (m.marked on.0 k d (omega (arith, on_lt, over)))
