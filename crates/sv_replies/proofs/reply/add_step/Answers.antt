use Rattle.std.proofs.Common.{List, ◌++◌, ◌∙◌, ap, map}
use Rattle.std.proofs.lemmas.Result.{on_ok_weaker}
use Rattle.sv_model.specs.Replies.{note_behind}
use Rattle.sv_model.specs.declared.work.Note.{Note}
use Rattle.sv_replies.proofs.GoesOn.{goes_on}
use Rattle.sv_replies.proofs.reply.add_step.Goals as goal

pub returns : goal.returns
returns c = on_ok_weaker c.append_notes-3.result (λ last t event old more b numbered is n runs l w notes
    none e so_far.
    goes_on t event old more b numbered is c.args.reply.now
    (record { reports = c.append_reports.new.reports; notes = c.append_notes-3.new.notes }) c.args.reports
    c.args.layouts c.args.owners c.args.notes n runs l w notes none e so_far
    c.len-behind.result c.in_ok-append_reports.ensures c.len-behind.ensures
    (last
    ∙ ap (λ (xs : List Note). xs ++ map (note_behind c.len-behind.result) c.args.notes)
    (c.in_ok-append_notes-2.ensures
    ∙ ap (λ (xs : List Note). xs ++ map (note_behind c.len-behind.result) c.args.owners)
    c.in_ok-append_notes.ensures))) c.append_notes-3.ensures
