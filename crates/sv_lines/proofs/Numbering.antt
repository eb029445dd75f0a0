-- Numbers of steps and positions have no part in sizes.
use Rattle.std.proofs.Common.{◌≡◌, ℕ, suc, ◌+◌, List, [], ◌∷◌, refl, sym, ◌∙◌, ap, length, sum_by}
use Rattle.std.proofs.lemmas.List.Sums.{sum_by-cons}
use Rattle.sv_model.specs.declared.work.Access.{Access}
use Rattle.sv_model.specs.declared.work.Group.{Group}
use Rattle.sv_model.specs.declared.work.Step.{Step}
use Rattle.sv_model.specs.declared.work.Step.TheVariants.{Accesses, Groups, SetEvent, WaitEvent, ResetEvent}
use Rattle.sv_model.specs.Positions.{accesses_from, groups_from, numbered_group, numbered_step}
use Rattle.sv_model.specs.Positions.{numbered_steps}
use Rattle.sv_model.specs.Size.{group_size, step_size}

accesses_count : (n pos : ℕ) (xs : List Access) → length (accesses_from n pos xs) ≡ length xs
accesses_count n pos [] = refl
accesses_count n pos (x ∷ xs) = ap suc (accesses_count n (pos + 1) xs)

groups_count : (n pos : ℕ) (gs : List Group) → length (groups_from n pos gs) ≡ length gs
groups_count n pos [] = refl
groups_count n pos (g ∷ gs) = ap suc (groups_count n (pos + length g.transitions) gs)

groups_total : (n pos : ℕ) (gs : List Group) → sum_by group_size (groups_from n pos gs) ≡ sum_by group_size gs
groups_total n pos [] = refl
groups_total n pos (g ∷ gs) =
    sum_by-cons group_size (numbered_group n pos g) (groups_from n (pos + length g.transitions) gs)
    ∙ ap (λ k. length g.deps + k + sum_by group_size (groups_from n (pos + length g.transitions) gs))
    (accesses_count n pos g.transitions)
    ∙ ap (λ k. group_size g + k) (groups_total n (pos + length g.transitions) gs)
    ∙ sym (sum_by-cons group_size g gs)

one_size : (n : ℕ) (s : Step) → step_size (numbered_step n s) ≡ step_size s
one_size n (Accesses list) = ap (λ k. 1 + k) (accesses_count n 0 list)
one_size n (Groups list) = ap (λ k. 1 + k) (groups_total n 0 list)
one_size n (SetEvent event place list) = ap (λ k. 1 + k) (groups_count n 0 list)
one_size n (WaitEvent event place) = refl
one_size n (ResetEvent event place) = refl

pub numbered_size : (n : ℕ) (steps : List Step) → sum_by step_size (numbered_steps n steps)
    ≡ sum_by step_size steps
numbered_size n [] = refl
numbered_size n (s ∷ rest) =
    sum_by-cons step_size (numbered_step n s) (numbered_steps (n + 1) rest)
    ∙ ap (λ k. k + sum_by step_size (numbered_steps (n + 1) rest)) (one_size n s)
    ∙ ap (λ k. step_size s + k) (numbered_size (n + 1) rest)
    ∙ sym (sum_by-cons step_size s rest)
