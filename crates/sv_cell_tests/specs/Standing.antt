-- What the cells of a trace are after some steps of a test.
use Rattle.std.specs.Prelude.{List}
use Rattle.sv_model.specs.Lawful.{IsLawful}
use Rattle.sv_model.specs.Layouts.{Moved}
use Rattle.sv_model.specs.Owners.{Action}
use Rattle.sv_model.specs.declared.line.Trace.{Trace}
use Rattle.sv_space.specs.Space as space
use Rattle.sv_space.specs.declared.space.Space.{Space}
use Rattle.sv_layout.specs.Layouts as layouts
use Rattle.sv_layout.specs.declared.layouts.Layouts.{Layouts}
use Rattle.sv_owner.specs.Owners as owners
use Rattle.sv_owner.specs.declared.owners.Owners.{Owners}

-- the space, the layouts and the owners are those of a lawful trace after some transitions and actions
pub record AreCellsOf (t : Trace) (s : Space) (l : Layouts) (o : Owners) : Type 0 where
  pub lawful : IsLawful t
  pub areas : space.HasResources t s
  pub images : layouts.HasImages t l
  pub resources : owners.HasResources t o
  pub moved : List Moved
  pub layouts_are : layouts.IsLayoutsOf t moved l
  pub actions : List Action
  pub owners_are : owners.IsOwnersOf t actions o
