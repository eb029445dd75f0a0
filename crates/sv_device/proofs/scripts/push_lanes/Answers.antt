use Rattle.std.proofs.Common.{ap, ◌+◌}
use Rattle.sv_device.specs.declared.who.Who.TheVariants.{Lane}
use Rattle.sv_device.proofs.Pushing.{pushed}
use Rattle.sv_device.proofs.scripts.push_lanes.Goals as goal

pub loop-script-preserved : goal.loop-script-preserved
loop-script-preserved c =
    let before = c.loop-script.invariant in record {
      number = ap (λ k. k + 1) before.number;
      actors = pushed (λ k. Lane k) c.args.scripts.now c.loop-script.script-index c.len.result
          c.loop-script.lane c.script-item.result c.args.actors.now c.loop-script.actors
          c.push_actor.new.actors c.loop-script-test.true c.script-item.is c.len.ensures before.number
          before.actors c.in_ok-push_actor.ensures;
    }
