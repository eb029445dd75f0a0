use Rattle.std.proofs.Common.{◌≡◌, None, sym, rules}
use Rattle.sv_mask.specs.Names.{named}
use Rattle.sv_trace.specs.Ops.{declarations, recording_ops}
use Rattle.sv_trace.proofs.Ops.{in_declarations, in_recording_ops, in_scope_ops}
use Rattle.sv_trace.proofs.op.op_of.Goals as goal

pub returns-in-Some : goal.returns-in-Some
returns-in-Some c = sym (in_declarations _ _ (sym c.in-Some.ensures))

pub returns-in-Some-recording_op : goal.returns-in-Some-recording_op
returns-in-Some-recording_op c =
    let none : named declarations c.args.text.now ≡ None = search rules in
    sym (in_recording_ops _ _ none (sym c.in-Some-recording_op.ensures))

pub returns-in-Some-scope_op : goal.returns-in-Some-scope_op
returns-in-Some-scope_op c =
    let none : named declarations c.args.text.now ≡ None = search rules in
    let no_recording : named recording_ops c.args.text.now ≡ None = search rules in
    sym (in_scope_ops _ _ none no_recording (sym c.in-Some-scope_op.ensures))
