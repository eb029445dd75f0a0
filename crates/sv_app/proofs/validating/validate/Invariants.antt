use Rattle.std.proofs.Common.{◌≡◌, false, take}
use Rattle.sv_app.proofs.validating.validate.Given as goal

abbrev pub invariant-loop-mark : goal.invariant-loop-mark
invariant-loop-mark l = record {
  trace : l.validator.trace ≡ l.trace;
  history : l.validator.history ≡ take l.mark-index l.trace.text_order;
  unspent : l.validator.spent ≡ false;
}
