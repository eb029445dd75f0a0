use Rattle.std.proofs.Common.{◌≡◌, ◌++◌, map}
use Rattle.sv_model.specs.Replies.{note_behind}
use Rattle.sv_replies.proofs.reply.append_notes.Given as goal

abbrev pub invariant-loop-note : goal.invariant-loop-note
invariant-loop-note l = l.notes ≡ l.fn.notes ++ map (note_behind l.number) l.yielded
