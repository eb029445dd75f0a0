use Rattle.std.proofs.Common.{rules, tests, ◌∙◌}
use Rattle.std.proofs.lemmas.Iterator.{YieldsList-from_slice}
use Rattle.std.proofs.lemmas.Iterator.Consumers.{YieldsList-from_filter, count_from_yields_List}
use Rattle.std.proofs.lemmas.List.Sums.{length-filter}
use Rattle.sv_model.specs.Recordings.{begins}
use Rattle.sv_batch.proofs.instances.begun.Goals as goal

pub returns : goal.returns
returns c =
    count_from_yields_List _ _ c.count.ensures.ran
    (YieldsList-from_filter _ begins (YieldsList-from_slice c.args.commands.now cc)
    c.filter.ensures.closure (λ x b q k. search (rules, tests)))
    ∙ length-filter begins c.args.commands.now
