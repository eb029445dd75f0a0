-- Steps whose areas lie inside the resources of a trace.
use Rattle.std.specs.Prelude.{◌≤◌, ◌<◌, ◌^◌, Option, Some, None, Contains, length}
use Rattle.std.specs.List.{All}
use Rattle.sv_mask.specs.declared.layout.Layout.{Layout}
use Rattle.sv_model.specs.declared.line.Trace.{Trace}
use Rattle.sv_model.specs.Size.{HasShortOlds, HasSmallPlaces}
use Rattle.sv_model.specs.declared.work.Access.{Access}
use Rattle.sv_model.specs.declared.work.Area.{Area}
use Rattle.sv_model.specs.declared.work.Area.TheVariants.{Bytes, Image}
use Rattle.sv_model.specs.declared.work.Dep.{Dep}
use Rattle.sv_model.specs.declared.work.Group.{Group}
use Rattle.sv_model.specs.declared.work.Old.{Old}
use Rattle.sv_model.specs.declared.work.Step.{Step}
use Rattle.sv_model.specs.declared.work.Step.TheVariants.{Accesses, Groups, SetEvent, WaitEvent, ResetEvent}
use Rattle.sv_model.specs.declared.work.Transfer.{Transfer}
use Rattle.sv_state.specs.States.{RangesHold}
use Rattle.sv_space.specs.Areas.{IsAreaOf}

-- the area is of an image
abbrev pub IsOfImage : Area → Type 0
IsOfImage (Bytes res span) = ⊥
IsOfImage (Image res box) = Unit {0}

-- only an access of an image declares a layout
abbrev pub MayDeclare : Area → Option Layout → Type 0
MayDeclare area None = Unit {0}
MayDeclare area (Some layout) = IsOfImage area

pub record IsAccessOf (t : Trace) (a : Access) : Type 0 where
  pub area : IsAreaOf t a.area
  pub layout : MayDeclare a.area a.layout

pub record IsOldOf (t : Trace) (o : Old) : Type 0 where
  pub area : IsAreaOf t o.area
  pub image : IsOfImage o.area

abbrev pub IsRangeOf : Trace → Option Area → Type 0
IsRangeOf t None = Unit {0}
IsRangeOf t (Some area) = IsAreaOf t area

abbrev pub IsDepOf : Trace → Dep → Type 0
IsDepOf t d = IsRangeOf t d.range

abbrev pub IsTransferOf : Trace → Option Transfer → Type 0
IsTransferOf t None = Unit {0}
IsTransferOf t (Some x) = IsAreaOf t x.area

-- each range of the group holds the areas of its transitions, each of which has a pair of layouts
pub record IsGroupOf (t : Trace) (g : Group) : Type 0 where
  pub ranges : All (IsDepOf t) g.deps
  pub transitions : All (IsAccessOf t) g.transitions
  pub held : (x : Access) → Contains g.transitions x → RangesHold g x.area
  pub olds : All (IsOldOf t) g.olds
  pub paired : length g.transitions ≤ length g.olds
  pub transfer : IsTransferOf t g.transfer

-- what the step names lies inside the resources of the trace
abbrev pub IsStepOf : Trace → Step → Type 0
IsStepOf t (Accesses accesses) = All (IsAccessOf t) accesses
IsStepOf t (Groups groups) = All (IsGroupOf t) groups
IsStepOf t (SetEvent event place groups) = All (IsGroupOf t) groups
IsStepOf t (WaitEvent event place) = Unit {0}
IsStepOf t (ResetEvent event place) = Unit {0}

-- a bound step: of accesses, or of groups, whose places have numbers of 32 bits
abbrev pub IsShortStep : Step → Type 0
IsShortStep (Accesses accesses) = Unit {0}
IsShortStep (Groups groups) = HasSmallPlaces groups × All HasShortOlds groups
IsShortStep (SetEvent event place groups) = ⊥
IsShortStep (WaitEvent event place) = ⊥
IsShortStep (ResetEvent event place) = ⊥
