use Rattle.sv_record.proofs.Starting.{starts}
use Rattle.sv_record.proofs.context.RecordContext.new.Goals as goal

pub invariant_of-result : goal.invariant_of-result
invariant_of-result c = starts c.args.trace.now c.of.result.value c.args.number c.family_of-family.result
    c.new.result.items c.of.ensures c.requires.lawful c.requires.declared c.family_of-family.ensures
    c.new.ensures.items
