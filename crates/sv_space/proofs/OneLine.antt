-- Lines of which one changed, and what stays so of lines of the same resources.
use Rattle.std.proofs.Common.{ℕ, ◌≡◌, ◌<◌, ◌⊎◌, inl, inr, List, length, get_or, arith, refl, sym, ◌∙◌, ap}
use Rattle.std.proofs.Common.{subst}
use Rattle.std.proofs.Math.ListN.{set, length-set}
use Rattle.std.proofs.lemmas.List.{get_or_default, get_or-set_other, get_or-set_same}
use Rattle.sv_model.specs.Cells.{area_resource}
use Rattle.sv_model.specs.declared.work.Area.{Area}
use Rattle.sv_model.specs.declared.work.Step.{Step}
use Rattle.sv_rangemap.specs.Lines.{ArePartsOf}
use Rattle.sv_rangemap.specs.declared.part.Part.{Part}
use Rattle.sv_rangemap.proofs.Pieces.{parts_of_parts}
use Rattle.sv_space.specs.AllLines.{AreAllCaught, AreAllCut, AreAllLater, AreAllPartsOf, AreAllWithin}
use Rattle.sv_space.specs.AllLines.{AreLinesOf, AreSameLines, LiesAt, LiesIn}
use Rattle.sv_space.specs.Cut.{IsCaughtFor, IsCutFor}
use Rattle.sv_space.specs.Pieces.{AreWithin, IsLineOf, IsSameLine}
use Rattle.sv_space.specs.Sorted.{AreSorted}
use Rattle.sv_space.specs.declared.known.Known.{Known}
use Rattle.sv_space.specs.declared.line.Line.{Line}
use Rattle.sv_space.specs.declared.shape.Shape.{Shape}
use Rattle.sv_space.specs.Lines.{LiesOn}
use Rattle.sv_space.proofs.AtLine.{lies_res}
use Rattle.sv_space.proofs.Cuts.{caught_later, cut_later, later_of_parts, within_later}
use Rattle.sv_space.proofs.Lining.{line_split, then_line}
use Rattle.sv_space.proofs.Stepped.{covers_res}

same_or_other : (a b : ℕ) → (a ≡ b) ⊎ (a ≡ b → ⊥)
same_or_other a b = grind arith

less_or_same : (a b : ℕ) → (a < b) ⊎ ((a ≡ b) ⊎ (b < a))
less_or_same a b = grind arith

pub line_same : (l : Line) → IsSameLine l l
line_same l = record { res = refl; shape = refl; size = refl }

pub parts_same : (parts : List (Part Known)) → ArePartsOf parts parts
parts_same parts p on = (p, on, record { from = omega arith; before = omega arith; value = refl })

-- a fact on a line's resource and shape, of a line that is the same
pub at_line : (P : ℕ → Shape → Type 0) (old new : Line) → IsSameLine old new → P old.res old.shape
    → P new.res new.shape
at_line P old new same h = subst (λ (t : Shape). P new.res t) (sym same.shape)
    (subst (λ (n : ℕ). P n old.shape) (sym same.res) h)

pub back_line : (P : ℕ → Shape → Type 0) (old new : Line) → IsSameLine old new → P new.res new.shape
    → P old.res old.shape
back_line P old new same h = subst (λ (t : Shape). P old.res t) same.shape
    (subst (λ (n : ℕ). P n new.shape) same.res h)

module _ (old : List Line) (at : ℕ) (line new : Line) (lt : at < length old)
    (is : line ≡ get_or old at line) where
  abbrev lines : List Line
  lines = set old at new

  new_at : (d : Line) → get_or lines at d ≡ new
  new_at d = get_or-set_same old at new d lt

  old_at : (d : Line) → get_or old at d ≡ line
  old_at d = get_or_default old at d line lt ∙ sym is

  -- what holds of each line and itself, and of the one that changed
  pub one_line : (P : Line → Line → Type 0) → ((l : Line) → P l l) → P line new → (k : ℕ) (d : Line)
      → P (get_or old k d) (get_or lines k d)
  one_line P each one k d = elim (same_or_other k at) [
    | inl same ↦ subst (λ (n : ℕ). P (get_or old n d) (get_or lines n d)) (sym same)
        (subst (λ (l : Line). P l (get_or lines at d)) (sym (old_at d))
        (subst (λ (m : Line). P line m) (sym (new_at d)) one))
    | inr other ↦ subst (λ (m : Line). P (get_or old k d) m) (sym (get_or-set_other old at k new d other))
        (each (get_or old k d))
  ]

  -- what holds of the new line, and of each other one
  pub one_new : (P : Line → Type 0) → P new → ((k : ℕ) (d : Line) → k < length old → (k ≡ at → ⊥)
      → P (get_or old k d)) → (k : ℕ) (d : Line) → k < length lines → P (get_or lines k d)
  one_new P one others k d k_lt = elim (same_or_other k at) [
    | inl same ↦ subst (λ (n : ℕ). P (get_or lines n d)) (sym same) (subst P (sym (new_at d)) one)
    | inr other ↦ subst P (sym (get_or-set_other old at k new d other))
        (others k d (let l = length-set old at new in omega (arith, l, k_lt)) other)
  ]

  -- what holds of the one that changed, and of each other one and itself
  pub one_each : (P : Line → Line → Type 0) → P line new
      → ((k : ℕ) (d : Line) → k < length old → (k ≡ at → ⊥) → P (get_or old k d) (get_or old k d))
      → (k : ℕ) (d : Line) → k < length old → P (get_or old k d) (get_or lines k d)
  one_each P one others k d k_lt = elim (same_or_other k at) [
    | inl same ↦ subst (λ (n : ℕ). P (get_or old n d) (get_or lines n d)) (sym same)
        (subst (λ (l : Line). P l (get_or lines at d)) (sym (old_at d))
        (subst (λ (m : Line). P line m) (sym (new_at d)) one))
    | inr other ↦ subst (λ (m : Line). P (get_or old k d) m) (sym (get_or-set_other old at k new d other))
        (others k d k_lt other)
  ]

  pub same_lines : IsSameLine line new → AreSameLines old lines
  same_lines same = record { long = length-set old at new; same = one_line IsSameLine line_same same }

  -- no cell of an area of the line is of another one
  module _ (sorted : AreSorted old) (area : Area) (lies : LiesAt line area) where
    pub apart : (k : ℕ) (d : Line) → k < length old → (k ≡ at → ⊥) → area_resource area
        ≡ (get_or old k d).res → ⊥
    apart k d k_lt other same =
        let here : (get_or old at d).res ≡ area_resource area = ap (λ (l : Line). l.res) (old_at d)
        ∙ lies_res line.res line.shape line.pieces.size area lies in
        elim (less_or_same k at) [
          | inl before ↦ (let s = sorted k at d before lt in omega (arith, s, here, same))
          | inr w ↦ elim w [
            | inl e ↦ other e
            | inr after ↦ (let s = sorted at k d after k_lt in omega (arith, s, here, same))
          ]
        ]

    pub one_cut : IsSameLine line new → IsCutFor area line.res line.shape new.pieces.parts.items
        → AreAllCut area lines
    one_cut same cut = one_new (λ (l : Line). IsCutFor area l.res l.shape l.pieces.parts.items)
        (at_line (λ r s. IsCutFor area r s new.pieces.parts.items) line new same cut)
        (λ k d k_lt other. record {
          whole = λ j n m e e_lt has also covered. absurd
              (apart k d k_lt other (covers_res area (get_or old k d).res (get_or old k d).shape n covered));
          in_mip = λ j n e e_lt has covered. absurd
              (apart k d k_lt other (covers_res area (get_or old k d).res (get_or old k d).shape n covered));
        })

    pub one_caught : (groups : ℕ) → IsSameLine line new
        → IsCaughtFor area groups line.res line.shape new.pieces.parts.items → AreAllCaught area groups lines
    one_caught groups same caught = one_new (λ (l : Line). IsCaughtFor area groups l.res l.shape
        l.pieces.parts.items) (at_line (λ r s. IsCaughtFor area groups r s new.pieces.parts.items) line new
        same caught)
        (λ k d k_lt other j n e e_lt has covered. absurd
        (apart k d k_lt other (covers_res area (get_or old k d).res (get_or old k d).shape n covered)))

  pub one_others : IsSameLine line new → (area : Area) (groups : ℕ)
      → (IsCaughtFor area groups line.res line.shape line.pieces.parts.items
      → IsCaughtFor area groups line.res line.shape new.pieces.parts.items) → AreAllCaught area groups old
      → AreAllCaught area groups lines
  one_others same area groups go was = one_new (λ
      (l : Line). IsCaughtFor area groups l.res l.shape l.pieces.parts.items)
      (at_line (λ r s. IsCaughtFor area groups r s new.pieces.parts.items) line new same
      (go (subst (λ (l : Line). IsCaughtFor area groups l.res l.shape l.pieces.parts.items) (old_at line)
      (was at line lt))))
      (λ k d k_lt other. was k d k_lt)

  pub one_stands : (work : List Step) → IsSameLine line new
      → (IsLineOf work line.res line.shape line.pieces.parts.items
      → IsLineOf work line.res line.shape new.pieces.parts.items) → AreLinesOf work old
      → AreLinesOf work lines
  one_stands work same go stand = one_new (λ (l : Line). IsLineOf work l.res l.shape l.pieces.parts.items)
      (at_line (λ r s. IsLineOf work r s new.pieces.parts.items) line new same
      (go (subst (λ (l : Line). IsLineOf work l.res l.shape l.pieces.parts.items) (old_at line)
      (stand at line lt))))
      (λ k d k_lt other. stand k d k_lt)

  pub one_within : (groups : ℕ) → AreWithin groups new.pieces.parts.items → AreAllWithin groups old
      → AreAllWithin groups lines
  one_within groups now within = one_new (λ (l : Line). AreWithin groups l.pieces.parts.items) now
      (λ k d k_lt other. within k d k_lt)

  pub line_within : (groups : ℕ) → AreAllWithin groups old → AreWithin groups line.pieces.parts.items
  line_within groups within = subst (λ (l : Line). AreWithin groups l.pieces.parts.items) (old_at line)
      (within at line lt)

-- lines of the same resources
pub lines_same : (lines : List Line) → AreSameLines lines lines
lines_same lines = record { long = refl; same = λ k d. line_same (get_or lines k d) }

pub same_then : (old mid new : List Line) → AreSameLines old mid → AreSameLines mid new → AreSameLines old new
same_then old mid new one two = record {
  long = two.long ∙ one.long;
  same = λ k d. then_line (get_or old k d) (get_or mid k d) (get_or new k d) (one.same k d) (two.same k d);
}

module _ (old new : List Line) (same : AreSameLines old new) where
  pub sorted_same : AreSorted old → AreSorted new
  sorted_same sorted i j d lt len =
      let l = same.long in
      let s = sorted i j d lt (omega (arith, l, len)) in
      let a = (same.same i d).res in
      let b = (same.same j d).res in
      omega (arith, s, a, b)

  pub lies_same : (area : Area) → LiesIn old area → LiesIn new area
  lies_same area (k, lt, at) = (
    k,
    (let l = same.long in omega (arith, l, lt)),
    λ d.
        let e = same.same k d in
        subst (λ (n : ℕ). LiesOn (get_or new k d).res (get_or new k d).shape n area) (sym e.size)
        (at_line (λ r s. LiesOn r s (get_or old k d).pieces.size area) (get_or old k d) (get_or new k d) e
        (at d)),
  )

  in_old : (k : ℕ) → k < length new → k < length old
  in_old k lt = let l = same.long in omega (arith, l, lt)

  pub all_cut_later : (groups : ℕ) → AreAllLater groups new old → (area : Area) → AreAllCut area old
      → AreAllCut area new
  all_cut_later groups later area cut k d lt =
      at_line (λ r s. IsCutFor area r s (get_or new k d).pieces.parts.items) (get_or old k d)
      (get_or new k d) (same.same k d)
      (cut_later groups (get_or new k d).pieces.parts.items (get_or old k d).pieces.parts.items
      (later k d (in_old k lt)) area (get_or old k d).res (get_or old k d).shape (cut k d (in_old k lt)))

  pub all_caught_later : (groups : ℕ) → AreAllLater groups new old → (area : Area)
      → AreAllCaught area groups old → AreAllCaught area groups new
  all_caught_later groups later area caught k d lt =
      at_line (λ r s. IsCaughtFor area groups r s (get_or new k d).pieces.parts.items) (get_or old k d)
      (get_or new k d) (same.same k d)
      (caught_later groups (get_or new k d).pieces.parts.items (get_or old k d).pieces.parts.items
      (later k d (in_old k lt)) area (get_or old k d).res (get_or old k d).shape
      (caught k d (in_old k lt)))

  pub all_within_later : (groups : ℕ) → AreAllLater groups new old → AreAllWithin groups old
      → AreAllWithin groups new
  all_within_later groups later within k d lt = within_later groups (get_or new k d).pieces.parts.items
      (get_or old k d).pieces.parts.items (later k d (in_old k lt)) (within k d (in_old k lt))

  pub all_split : (work : List Step) → AreAllPartsOf new old → AreLinesOf work old → AreLinesOf work new
  all_split work parts stand k d lt =
      at_line (λ r s. IsLineOf work r s (get_or new k d).pieces.parts.items) (get_or old k d)
      (get_or new k d) (same.same k d)
      (line_split work (get_or old k d).res (get_or old k d).shape (get_or old k d).pieces.parts.items
      (get_or new k d).pieces.parts.items (parts k d (in_old k lt)) (stand k d (in_old k lt)))

pub all_later_of_parts : (groups : ℕ) (new old : List Line) → AreAllPartsOf new old
    → AreAllLater groups new old
all_later_of_parts groups new old parts k d lt = later_of_parts groups (get_or new k d).pieces.parts.items
    (get_or old k d).pieces.parts.items (parts k d lt)

pub all_parts_same : (lines : List Line) → AreAllPartsOf lines lines
all_parts_same lines k d lt = parts_same (get_or lines k d).pieces.parts.items

pub all_parts_then : (old mid new : List Line) → AreSameLines old mid → AreAllPartsOf mid old
    → AreAllPartsOf new mid → AreAllPartsOf new old
all_parts_then old mid new same first second k d lt =
    parts_of_parts (get_or old k d).pieces.parts.items (get_or mid k d).pieces.parts.items
    (get_or new k d).pieces.parts.items (first k d lt)
    (second k d (let l = same.long in omega (arith, l, lt)))
