-- The groups of the transitions of a step.
use Rattle.std.specs.Prelude.{ℕ, ◌≡◌, ◌-◌, List, [], ◌∷◌, length, nat_lt, if◌then◌else◌, Option, Some, None}
use Rattle.std.specs.Prelude.{Contains}
use Rattle.sv_model.specs.Dependencies.{Placed, own_deps, IsOwn}
use Rattle.sv_model.specs.declared.work.Access.{Access}
use Rattle.sv_model.specs.declared.work.Group.{Group}
use Rattle.sv_state.specs.States.{RangesHold}

-- the group in which the transition at this position of the step stands
abbrev pub own_group : List Group → ℕ → Option Group
own_group [] pos = None
own_group (g ∷ groups) pos = if nat_lt pos (length g.transitions) then Some g else own_group groups
    (pos - length g.transitions)

-- what an access sees of its own step: the dependencies of its group
abbrev pub own_of : List Group → Access → List Placed
own_of groups x = own_deps (own_group groups x.pos)

-- each range of a group with transitions holds their areas
abbrev pub HoldTransitions : List Group → Type 0
HoldTransitions groups = (g : Group) (x : Access) → Contains groups g → Contains g.transitions x
    → RangesHold g x.area

-- the group of an access is its own, and each range of it holds the access
pub record IsOwnGroup (x : Access) (g : Group) : Type 0 where
  pub own : IsOwn x g
  pub held : RangesHold g x.area

-- so it is with each of these accesses that has a group among these
abbrev pub HaveOwnGroups : List Group → List Access → Type 0
HaveOwnGroups groups xs = (x : Access) (g : Group) → Contains xs x → own_group groups x.pos ≡ Some g
    → IsOwnGroup x g
