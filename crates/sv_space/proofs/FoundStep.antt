-- What is found of the accesses of a step, one access after another.
use Rattle.std.proofs.Common.{ℕ, ◌≡◌, ◌<◌, ◌+◌, ◌∷◌, ◌++◌, [], List, Contains, Option, Bor, length, get_or}
use Rattle.std.proofs.Common.{sym, ◌∙◌, ap, subst}
use Rattle.std.specs.Option.{option_copied}
use Rattle.std.proofs.lemmas.List.{get_or_default}
use Rattle.sv_model.specs.Dependencies.{own_deps}
use Rattle.sv_model.specs.Reports.{Spot, accesses_of, groups_of}
use Rattle.sv_model.specs.declared.work.Access.{Access}
use Rattle.sv_model.specs.declared.work.Group.{Group}
use Rattle.sv_model.specs.declared.work.Step.{Step}
use Rattle.sv_space.specs.AllLines.{AreAllCaught, AreLinesOf}
use Rattle.sv_space.specs.Cut.{IsCaughtFor}
use Rattle.sv_space.specs.Found.{AreFound, IsOfFirst}
use Rattle.sv_space.specs.Known.{groups_in}
use Rattle.sv_space.specs.Marked.{IsStepOf}
use Rattle.sv_space.specs.Own.{own_group, own_of}
use Rattle.sv_space.specs.Pieces.{IsLineOf}
use Rattle.sv_space.specs.Steps.{AreInOrder, IsNext}
use Rattle.sv_space.specs.declared.line.Line.{Line}

-- what is found of an access on its line goes on from what is found of the accesses before it
abbrev pub FindsMore : Access → Option (Bor Group) → Line → List Spot → List Spot → Type 0
FindsMore x own line old new = (work : List Step) (step : Step) → AreInOrder work
    → IsNext (length work) step → Contains (accesses_of step) x
    → own_deps (option_copied own) ≡ own_of (groups_of step) x
    → IsCaughtFor x.area (length (groups_in work)) line.res line.shape line.pieces.parts.items
    → IsLineOf work line.res line.shape line.pieces.parts.items
    → AreFound (length work) (work ++ step ∷ []) (IsOfFirst x.pos) old
    → AreFound (length work) (work ++ step ∷ []) (IsOfFirst (x.pos + 1)) new

abbrev pub AreFoundUpTo : List Access → List Group → List Line → ℕ → List Spot → Type 0
AreFoundUpTo accesses groups lines i spots = (work : List Step) (step : Step)
    → IsStepOf work step accesses groups → ((x : Access) → Contains accesses x
    → AreAllCaught x.area (length (groups_in work)) lines) → AreLinesOf work lines
    → AreFound (length work) (work ++ step ∷ []) (IsOfFirst i) spots

pub found_step : (accesses : List Access) (groups : List Group) (i : ℕ) → i < length accesses
    → (lines : List Line) (at : ℕ) (line : Line) → line ≡ get_or lines at line → at < length lines
    → (own : Option (Bor Group)) (e : Access) → option_copied own
    ≡ own_group groups (get_or accesses i e).pos
    → (old new : List Spot) → FindsMore (get_or accesses i e) own line old new
    → AreFoundUpTo accesses groups lines i old → AreFoundUpTo accesses groups lines (i + 1) new
found_step accesses groups i lt lines at line is at_lt own e own_is old new finds was work step is_step
    caught stand =
    let x : Access = get_or accesses i e in
    let x_at : get_or accesses i x ≡ x = get_or_default accesses i x e lt in
    let in_list : Contains accesses x = (i, lt, x_at) in
    let on : Contains (accesses_of step) x = subst
    (λ (xs : List Access). Contains xs x) is_step.accesses_is in_list in
    let in_step : i < length (accesses_of step) =
    subst (λ (xs : List Access). i < length xs) is_step.accesses_is lt in
    let pos : x.pos ≡ i = ap (λ (xs : List Access). (get_or xs i e).pos) is_step.accesses_is
    ∙ is_step.next.positions i e in_step in
    let own_all : own_deps (option_copied own) ≡ own_of (groups_of step) x = ap own_deps own_is
    ∙ ap (λ (gs : List Group). own_of gs x) is_step.groups_is in
    let here : IsCaughtFor x.area (length (groups_in work)) line.res line.shape line.pieces.parts.items =
    subst (λ (l : Line). IsCaughtFor x.area (length (groups_in work)) l.res l.shape l.pieces.parts.items)
    (sym is) (caught x in_list at line at_lt) in
    let stands : IsLineOf work line.res line.shape line.pieces.parts.items =
    subst (λ (l : Line). IsLineOf work l.res l.shape l.pieces.parts.items) (sym is)
    (stand at line at_lt) in
    let found = finds work step is_step.steps is_step.next on own_all here stands
    (subst (λ (n : ℕ). AreFound (length work) (work ++ step ∷ []) (IsOfFirst n) old) (sym pos)
    (was work step is_step caught stand)) in
    subst (λ (n : ℕ). AreFound (length work) (work ++ step ∷ []) (IsOfFirst (n + 1)) new) pos found
