-- Dependency chains that lead from an access to a later one over one cell.
use Rattle.std.specs.Prelude.{ℕ, ◌≡◌, ◌<◌, ◌≤◌, ◌⊎◌, ◌↔◌, Bool, true, List, [], map, Contains, MatchBool}
use Rattle.std.specs.Prelude.{Option, Some, None}
use Rattle.std.specs.List.{flat_map}
use Rattle.sv_mask.specs.Sets.{Has, Meets}
use Rattle.sv_mask.specs.Usages.{stage_of, is_write}
use Rattle.sv_model.specs.declared.work.Cell.{Cell}
use Rattle.sv_model.specs.declared.work.Access.{Access}
use Rattle.sv_model.specs.declared.work.Dep.{Dep}
use Rattle.sv_model.specs.declared.work.Group.{Group}
use Rattle.sv_model.specs.declared.work.What.{What}
use Rattle.sv_model.specs.declared.work.What.TheVariants.{Use, Transition}
use Rattle.sv_model.specs.declared.work.Track.{Track}
use Rattle.sv_model.specs.declared.work.Track.TheVariants.{Queue, Sub, Token}
use Rattle.sv_model.specs.Cells.{Within}

-- whether an access writes: a layout transition does
abbrev pub writes : What → Bool
writes (Use u) = is_write u.0
writes Transition = true

-- an access is on its queue and, inside a render scope, on its subpass
abbrev pub Sits : Option (ℕ × ℕ) → ℕ → Track → Type 0
Sits sub queue (Queue q) = queue ≡ q
Sits None queue (Sub q n i) = ⊥
Sits (Some s) queue (Sub q n i) = (queue ≡ q) × (s.0 ≡ n) × (s.1 ≡ i)
Sits sub queue (Token t) = ⊥

abbrev pub IsOn : Access → Track → Type 0
IsOn a t = Sits a.sub a.queue t

-- two tracks are equal, or one is the queue of the other's render scope instance
abbrev pub Compatible : Track → Track → Type 0
Compatible (Queue q) (Queue r) = q ≡ r
Compatible (Queue q) (Sub r n i) = q ≡ r
Compatible (Sub q n i) (Queue r) = q ≡ r
Compatible (Sub q n i) (Sub r m j) = (q ≡ r) × (n ≡ m) × (i ≡ j)
Compatible (Token t) (Token u) = t ≡ u
Compatible (Queue q) (Token u) = ⊥
Compatible (Sub q n i) (Token u) = ⊥
Compatible (Token t) (Queue r) = ⊥
Compatible (Token t) (Sub r m j) = ⊥

-- a transition is of a group that has its step and lists it
pub record IsOwn (a : Access) (g : Group) : Type 0 where
  pub step : a.step ≡ g.step
  pub listed : Contains g.transitions a

-- a dependency of a work stands in a group, which has a step
pub record Placed : Type 0 where
  pub group : Group
  pub dep : Dep

abbrev pub placed : Group → List Placed
placed g = map (λ d. record { group = g; dep = d }) g.deps

abbrev pub dependencies : List Group → List Placed
dependencies groups = flat_map placed groups

-- the first scopes hold a usage: that of a write in the access scope and on the cell, that of a read by its
-- stage
abbrev pub InFirst : Cell → Dep → ℕ → Type 0
InFirst cell d u = MatchBool (is_write u) (Has d.a1.0 u × Within d.range cell) (Has d.s1.0 (stage_of u))

-- the dependencies of a transition's own group
abbrev pub own_deps : Option Group → List Placed
own_deps None = []
own_deps (Some g) = placed g

-- the second scopes hold a usage behind an access: behind a write in the access scope and on the cell,
-- behind a read by its stage
abbrev pub InSecond : Cell → Dep → Access → ℕ → Type 0
InSecond cell d a u = MatchBool (writes a.what) (Has d.a2.0 u × Within d.range cell) (Has d.s2.0 (stage_of u))

-- a chain from a usage of the access may begin with d
pub record StartsByUse (cell : Cell) (a : Access) (u : ℕ) (d : Placed) : Type 0 where
  pub later : a.step < d.group.step
  pub track : IsOn a d.dep.from
  pub scope : InFirst cell d.dep u

abbrev pub StartsAs : Cell → Access → Placed → What → Type 0
StartsAs cell a d (Use u) = StartsByUse cell a u.0 d
StartsAs cell a d Transition = IsOwn a d.group

-- a chain from the access may begin with d: a transition begins the chains of its own group
abbrev pub Starts : Cell → Access → Placed → Type 0
Starts cell a d = StartsAs cell a d a.what

-- e may follow d in a chain
pub record Link (d e : Placed) : Type 0 where
  pub later : d.group.step < e.group.step
  pub tracks : Compatible d.dep.to e.dep.from
  pub stages : Meets d.dep.s2.0 e.dep.s1.0

-- a chain from a may end with d at a usage of x
pub record EndsByUse (cell : Cell) (d : Placed) (a x : Access) (u : ℕ) : Type 0 where
  pub later : d.group.step < x.step
  pub track : IsOn x d.dep.to
  pub scope : InSecond cell d.dep a u

abbrev pub EndsAs : Cell → Placed → Access → Access → What → Type 0
EndsAs cell d a x (Use u) = EndsByUse cell d a x u.0
EndsAs cell d a x Transition = IsOwn x d.group

-- a chain from a may end with d at x: at a transition it ends in its own group
abbrev pub Ends : Cell → Placed → Access → Access → Type 0
Ends cell d a x = EndsAs cell d a x x.what

-- Dependencies of the list, each linked with the next, lead from one that starts to this one.
pub data Path (deps : List Placed) (Start : Placed → Type 0) : Placed → Type 0 where
  first : {d : Placed} → Contains deps d → Start d → Path deps Start d
  next : {d e : Placed} → Path deps Start d → Contains deps e → Link d e → Path deps Start e

-- d begins a path, or goes on from one
abbrev pub Enters : List Placed → (Placed → Type 0) → Placed → Type 0
Enters deps Start d = Start d ⊎ ((e : Placed) × Path deps Start e × Link e d)

-- a chain of dependencies leads from a to x
pub record Chain (deps : List Placed) (cell : Cell) (a x : Access) : Type 0 where
  pub last : Placed
  pub path : Path deps (Starts cell a) last
  pub ends : Ends cell last a x

-- no dependency of the list is of a step after this
abbrev pub UpTo : List Placed → ℕ → Type 0
UpTo deps step = (d : Placed) → Contains deps d → d.group.step ≤ step

-- the range of a dependency does not tell the two cells apart
abbrev pub Alike : Dep → Cell → Cell → Type 0
Alike d c e = Within d.range c ↔ Within d.range e

-- no range of the group does
abbrev pub AllAlike : Group → Cell → Cell → Type 0
AllAlike g c e = (d : Dep) → Contains g.deps d → Alike d c e
