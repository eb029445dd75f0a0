use Rattle.std.proofs.Common.{List, ap, ◌∙◌, slice_get}
use Rattle.sv_device.specs.declared.who.Who.{Who}
use Rattle.sv_device.proofs.device.Device.open.Goals as goal

pub returns-clause-actors : goal.returns-clause-actors
returns-clause-actors g c i who d at = c.in_ok-actors.ensures.actors i who d
    (ap (λ (l : List Who). slice_get l i) (c.as_slice.ensures ∙ c.in_ok-all.ensures.actors) ∙ at)
