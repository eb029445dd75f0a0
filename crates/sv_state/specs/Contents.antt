-- What a state holds, wherever in memory it lies.
use Rattle.std.specs.Prelude.{ℕ, Bool, List, map}
use Rattle.sv_model.specs.declared.work.Access.{Access}
use Rattle.sv_state.specs.Numbers.{masks_of}
use Rattle.sv_state.specs.declared.mask.Mask.{Mask}
use Rattle.sv_state.specs.declared.entry.Entry.{Entry}
use Rattle.sv_state.specs.declared.state.CellState.{CellState}

-- an access, and what is reached from it
pub record Item : Type 0 where
  pub access : Access
  pub settled : List Mask
  pub fresh : List Mask

pub record Contents : Type 0 where
  pub written : List Item
  pub alike : Bool
  pub reads : List Item
  pub step : ℕ

abbrev pub item_of : Entry → Item
item_of e = record { access = e.access; settled = masks_of e.reached.settled; fresh = e.reached.fresh.items }

abbrev pub contents_of : CellState → Contents
contents_of state = record {
  written = map item_of state.written.items;
  alike = state.alike;
  reads = map item_of state.reads.items;
  step = state.step;
}
