-- A space that is touched by one more step.
use Rattle.std.proofs.Common.{ℕ, ◌≡◌, ◌≤◌, ◌-◌, List, [], ◌∷◌, ◌++◌, Contains, length, arith, sym, ◌∙◌, ap}
use Rattle.std.proofs.Common.{subst, Some, None}
use Rattle.sv_model.specs.Reports.{accesses_of, groups_of, AreNumbered}
use Rattle.sv_model.proofs.Lists.{in_flat_map}
use Rattle.sv_model.specs.declared.work.Access.{Access}
use Rattle.sv_model.specs.declared.work.Group.{Group}
use Rattle.sv_model.specs.declared.work.Step.{Step}
use Rattle.sv_model.specs.declared.work.Step.TheVariants.{Accesses, Groups, SetEvent, WaitEvent, ResetEvent}
use Rattle.sv_space.specs.AllLines.{AreAllCaught, AreAllCut, AreAllPartsOf, AreAllWithin, AreLinesOf}
use Rattle.sv_space.specs.AllLines.{AreSameLines}
use Rattle.sv_space.specs.Known.{groups_in}
use Rattle.sv_space.specs.Marked.{IsStepOf}
use Rattle.sv_space.specs.Own.{HaveOwnGroups, HoldTransitions, IsOwnGroup, own_group}
use Rattle.sv_space.specs.Space.{MayTouch}
use Rattle.sv_space.specs.Steps.{AreInOrder, IsNext}
use Rattle.sv_space.specs.declared.line.Line.{Line}
use Rattle.sv_space.proofs.Keeping.{groups_more}
use Rattle.sv_space.proofs.OneLine.{all_caught_later, all_cut_later, all_later_of_parts, all_split}
use Rattle.sv_space.proofs.OwnGroups.{own_is}

some_same : (a b : Group) → Some a ≡ Some b → a ≡ b
some_same a b e = cc

-- each transition stands in its own group
pub own_groups : (number : ℕ) (step : Step) → IsNext number step → HoldTransitions (groups_of step)
    → HaveOwnGroups (groups_of step) (accesses_of step)
own_groups number (Accesses xs) next held x g on found = absurd (let e : None ≡ Some g = found in cc)
own_groups number (Groups groups) next held x g on found =
    let r = in_flat_map (λ (h : Group). h.transitions) groups x on in
    let z : x.pos - 0 ≡ x.pos = omega arith in
    let own : own_group groups x.pos ≡ Some r.0 =
    subst (λ (n : ℕ). own_group groups n ≡ Some r.0) z
    (own_is groups 0 (λ k d lt. let p = next.positions k d lt in omega (arith, p)) r.0 r.1 x r.2) in
    let same : r.0 ≡ g = some_same r.0 g (sym own ∙ found) in
    subst (λ (h : Group). IsOwnGroup x h) same (record {
      own = record { step = next.numbered.accesses x on ∙ sym (next.numbered.groups r.0 r.1); listed = r.2 };
      held = held r.0 x r.1 r.2;
    })
own_groups number (SetEvent event place groups) next held x g on found = absurd (let h = on.1 in omega arith)
own_groups number (WaitEvent event place) next held x g on found = absurd (let h = on.1 in omega arith)
own_groups number (ResetEvent event place) next held x g on found = absurd (let h = on.1 in omega arith)

-- the same by what was read of the step
pub own_read : (lines : List Line) (step : Step) → MayTouch lines step
    → (accesses : List Access) (groups : List Group) → accesses ≡ accesses_of step → groups ≡ groups_of step
    → HaveOwnGroups groups accesses
own_read lines step may accesses groups is_accesses is_groups =
    subst (λ (gs : List Group). HaveOwnGroups gs accesses) (sym is_groups)
    (subst (λ (xs : List Access). HaveOwnGroups (groups_of step) xs) (sym is_accesses)
    (own_groups may.number step may.next may.held))

pub within_more : (n m : ℕ) (lines : List Line) → n ≤ m → AreAllWithin n lines → AreAllWithin m lines
within_more n m lines le within k d lt j e j_lt = let h = within k d lt j e j_lt in omega (arith, h, le)

-- what is known of the lines that were prepared and then cut
module _ (work : List Step) (step : Step) (accesses : List Access) (groups : List Group)
    (is : IsStepOf work step accesses groups) (log : List Group) (log_is : log ≡ groups_in work)
    (mid now : List Line) (same : AreSameLines mid now) (parts : AreAllPartsOf now mid) where
  numbered : AreNumbered work
  numbered k d lt = (is.steps k d lt).numbered

  pub still_caught : ((x : Access) → Contains accesses x → AreAllCaught x.area (length log) mid)
      → (x : Access) → Contains accesses x → AreAllCaught x.area (length (groups_in work)) now
  still_caught caught x on = all_caught_later mid now same (length (groups_in work))
      (all_later_of_parts (length (groups_in work)) now mid parts) x.area
      (subst (λ (gs : List Group). AreAllCaught x.area (length gs) mid) log_is (caught x on))

  pub still_stands : (AreNumbered work → log ≡ groups_in work → AreLinesOf work mid) → AreLinesOf work now
  still_stands stand = all_split mid now same work parts (stand numbered log_is)

pub still_cut : (accesses : List Access) (mid now : List Line) → AreSameLines mid now
    → AreAllPartsOf now mid → ((x : Access) → Contains accesses x → AreAllCut x.area mid) → (x : Access)
    → Contains accesses x → AreAllCut x.area now
still_cut accesses mid now same parts cut x on = all_cut_later mid now same 0
    (all_later_of_parts 0 now mid parts) x.area (cut x on)

-- the log of the longer work
pub longer_log : (work : List Step) (step : Step) → AreInOrder work → IsNext (length work) step
    → (groups old new : List Group) → groups ≡ groups_of step → old ≡ groups_in work → new ≡ old ++ groups
    → new ≡ groups_in (work ++ step ∷ [])
longer_log work step steps next groups old new is_groups is_old is_new =
    is_new ∙ ap (λ (gs : List Group). gs ++ groups) is_old
    ∙ ap (λ (gs : List Group). groups_in work ++ gs) is_groups
    ∙ sym (groups_more work step (λ k d lt. (steps k d lt).numbered) next.numbered)
