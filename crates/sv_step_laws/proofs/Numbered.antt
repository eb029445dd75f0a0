-- Numbered steps carry their number, and positions that count from 0.
use Rattle.std.proofs.Common.{ℕ, zero, suc, ◌+◌, ◌-◌, ◌<◌, ◌≤◌, ◌≡◌, ◌⊎◌, inl, inr, List, [], ◌∷◌, ◌++◌}
use Rattle.std.proofs.Common.{length, get_or, sym, ap, subst, ◌∙◌, arith, length-append}
use Rattle.std.specs.List.{flat_map}
use Rattle.std.proofs.lemmas.List.{get_or_append_left, get_or-append-add}
use Rattle.sv_model.specs.Positions.{accesses_from, groups_from, numbered_step}
use Rattle.sv_model.specs.declared.work.Access.{Access}
use Rattle.sv_model.specs.declared.work.Group.{Group}
use Rattle.sv_model.specs.declared.work.Step.{Step}
use Rattle.sv_model.specs.declared.work.Step.TheVariants.{Accesses, Groups, SetEvent, WaitEvent, ResetEvent}
use Rattle.sv_model.proofs.ReplyGrowth.{step_numbered}
use Rattle.sv_space.specs.Steps.{IsNext}
use Rattle.sv_step_laws.proofs.Areas.{accesses_long}

-- positions count on
abbrev ArePlaced : ℕ → List Access → Type 0
ArePlaced pos xs = (k : ℕ) (d : Access) → k < length xs → (get_or xs k d).pos ≡ pos + k

accesses_placed : (n pos : ℕ) (xs : List Access) → ArePlaced pos (accesses_from n pos xs)
accesses_placed n pos [] k d lt = absurd (omega arith)
accesses_placed n pos (x ∷ xs) zero d lt = let e : pos ≡ pos + zero = omega arith in e
accesses_placed n pos (x ∷ xs) (suc k) d lt = let e = accesses_placed n (pos + 1) xs k d (omega arith) in
    omega (arith, e)

here_or_later : (k n : ℕ) → (k < n) ⊎ (n ≤ k)
here_or_later k n = grind arith

placed_append : (pos : ℕ) (xs ys : List Access) → ArePlaced pos xs → ArePlaced (pos + length xs) ys
    → ArePlaced pos (xs ++ ys)
placed_append pos xs ys one two k d lt = elim (here_or_later k (length xs)) [
  | inl before ↦ ap (λ (a : Access). a.pos) (get_or_append_left xs ys d k before) ∙ one k d before
  | inr from ↦ (
      let long = length-append xs ys in
      let split : length xs + (k - length xs) ≡ k = omega (arith, from) in
      let at : get_or (xs ++ ys) k d ≡ get_or ys (k - length xs) d =
      ap (λ (i : ℕ). get_or (xs ++ ys) i d) (sym split) ∙ get_or-append-add xs ys (k - length xs) d in
      let there = two (k - length xs) d (omega (arith, long, from, lt)) in
      let sum : (pos + length xs) + (k - length xs) ≡ pos + k = omega (arith, from) in
      ap (λ (a : Access). a.pos) at ∙ there ∙ sum)
]

groups_placed : (n pos : ℕ) (gs : List Group) → ArePlaced pos
    (flat_map (λ (g : Group). g.transitions) (groups_from n pos gs))
groups_placed n pos [] = λ k d lt. absurd (omega arith)
groups_placed n pos (g ∷ gs) =
    let rest = groups_placed n (pos + length g.transitions) gs in
    let long = accesses_long n pos g.transitions in
    placed_append pos (accesses_from n pos g.transitions)
    (flat_map (λ (h : Group). h.transitions) (groups_from n (pos + length g.transitions) gs))
    (accesses_placed n pos g.transitions)
    (subst (λ (i : ℕ). ArePlaced (pos + i) (flat_map (λ (h : Group). h.transitions)
    (groups_from n (pos + length g.transitions) gs))) (sym long) rest)

from_zero : (xs : List Access) → ArePlaced 0 xs → (k : ℕ) (d : Access) → k < length xs → (get_or xs k d).pos
    ≡ k
from_zero xs are k d lt = let e = are k d lt in omega (arith, e)

-- a numbered step has that number, and its accesses their positions
pub is_next : (n : ℕ) (s : Step) → IsNext n (numbered_step n s)
is_next n (Accesses list) = record {
  numbered = step_numbered n (Accesses list);
  positions = from_zero (accesses_from n 0 list) (accesses_placed n 0 list);
}
is_next n (Groups list) = record {
  numbered = step_numbered n (Groups list);
  positions =
      from_zero (flat_map (λ (g : Group). g.transitions) (groups_from n 0 list)) (groups_placed n 0 list);
}
is_next n (SetEvent event place list) = record {
  numbered = step_numbered n (SetEvent event place list);
  positions = λ k d lt. absurd (omega arith);
}
is_next n (WaitEvent event place) = record {
  numbered = step_numbered n (WaitEvent event place);
  positions = λ k d lt. absurd (omega arith);
}
is_next n (ResetEvent event place) = record {
  numbered = step_numbered n (ResetEvent event place);
  positions = λ k d lt. absurd (omega arith);
}
