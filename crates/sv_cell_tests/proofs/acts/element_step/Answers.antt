use Rattle.sv_cell_tests.proofs.NextElements.{element_next}
use Rattle.sv_cell_tests.proofs.acts.element_step.Goals as goal

pub returns : goal.returns
returns c = element_next c.args.trace.now c.args.area c.args.number c.in_ok-group.group c.dep_of-dep.result
    c.transition_of-transition.result c.old_of-old.result c.transfer.result (record {
      inside = c.is_element_inside.ensures.inside c.if-not-is_element_inside.false;
      step = c.in_ok-group.ensures.step;
      deps = c.in_ok-group.ensures.deps;
      transitions = c.in_ok-group.ensures.transitions;
      olds = c.in_ok-group.ensures.olds;
      transfer_is = c.in_ok-group.ensures.transfer;
      range = c.dep_of-dep.ensures;
      changes = c.transition_of-transition.ensures.is;
      pairs = c.transition_of-transition.ensures.paired;
      of_area = c.old_of-old.ensures.is;
      of_image = c.is_element_inside.ensures.image c.if-not-is_element_inside.false;
      on_area = c.transfer.ensures;
    }) c.in_ok-groups.groups c.in_ok-groups.ensures
