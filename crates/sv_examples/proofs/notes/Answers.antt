use Rattle.sv_examples.proofs.ComputedNotes as computed
use Rattle.sv_examples.proofs.notes.Goals as goal

pub returns : goal.returns
returns c = record {
  wrong_layout = computed.wrong_layout;
  right_layouts = computed.right_layouts;
  one_after_another = computed.one_after_another;
  each_mip = computed.each_mip;
  not_acquired = computed.not_acquired;
  nothing_before = computed.nothing_before;
  behind_report = computed.behind_report;
  unset = computed.unset;
  set_elsewhere = computed.set_elsewhere;
  not_raised = computed.not_raised;
  signalled_twice = computed.signalled_twice;
}
