use Rattle.sv_device.proofs.Items.{item_declared, item_mark}
use Rattle.sv_device.proofs.recording.event_at.Goals as goal

pub record-requires-clause-declared : goal.record-requires-clause-declared
record-requires-clause-declared c = item_declared c.args.trace.now c.args.who c.in-Recorder.recorder
    c.args.place c.get.result.now c.get-script.result.now c.requires.lawful c.in-Recorder.is c.requires.left
    c.get-script.ensures c.get.ensures

pub returns-in_ok-recorded-in-Recorder-clause-mark : goal.returns-in_ok-recorded-in-Recorder-clause-mark
returns-in_ok-recorded-in-Recorder-clause-mark c =
    item_mark c.args.trace.now c.args.who c.in-Recorder.recorder c.args.place c.get.result.now
    c.in_ok-recorded-in-Recorder.recorded.number c.get-script.result.now c.in-Recorder.is
    c.get-script.ensures c.get.ensures c.in_ok-recorded-in-Recorder.ensures.number
