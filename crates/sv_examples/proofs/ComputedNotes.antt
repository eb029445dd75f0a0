-- The rows of notes hold by computation.
use Rattle.std.proofs.Common.{[], ◌∷◌, refl, arith}
use Rattle.std.specs.List.{All}
use Rattle.std.proofs.lemmas.List.Elements.{All-cons, All-nil}
use Rattle.sv_mask.specs.Scopes.{number_where, first_sync, second_sync, access, usages_at}
use Rattle.sv_mask.specs.Usages.{usage_of}
use Rattle.sv_model.specs.Cells.{cells_of}
use Rattle.sv_model.specs.Recordings.{lowered}
use Rattle.sv_model.specs.Holding.{step, settled, flow}
use Rattle.sv_model.specs.Notes.{IsNoteRun, cells_of_notes, notes_in}
use Rattle.sv_model.specs.Work.{bound_steps}
use Rattle.sv_model.specs.declared.work.Note.{Note}
use Rattle.sv_examples.specs.Notes.{WrongLayout, RightLayouts, OneAfterAnother, EachMip, NotAcquired}
use Rattle.sv_examples.specs.Notes.{NothingBefore, BehindReport, Unset, SetElsewhere, NotRaised}
use Rattle.sv_examples.specs.Notes.{SignalledTwice}

none : All IsNoteRun []
none = All-nil IsNoteRun

one : (n : Note) → IsNoteRun n → All IsNoteRun (n ∷ [])
one n is = All-cons IsNoteRun n [] is none

two : (n m : Note) → IsNoteRun n → IsNoteRun m → All IsNoteRun (n ∷ m ∷ [])
two n m is also = All-cons IsNoteRun n (m ∷ []) is (one m also)

pub wrong_layout : WrongLayout
unfolding number_where first_sync second_sync access usages_at usage_of lowered step settled flow
    bound_steps cells_of notes_in cells_of_notes
wrong_layout = record { whole = refl; runs = one _ (refl, omega arith); apart = tt }

pub right_layouts : RightLayouts
unfolding number_where first_sync second_sync access usages_at usage_of lowered step settled flow
    bound_steps cells_of notes_in cells_of_notes
right_layouts = record { whole = refl; runs = none; apart = tt }

pub one_after_another : OneAfterAnother
unfolding number_where first_sync second_sync access usages_at usage_of lowered step settled flow
    bound_steps cells_of notes_in cells_of_notes
one_after_another = record { whole = refl; runs = one _ (refl, omega arith); apart = tt }

pub each_mip : EachMip
unfolding number_where first_sync second_sync access usages_at usage_of lowered step settled flow
    bound_steps cells_of notes_in cells_of_notes
each_mip = record {
  whole = refl;
  runs = two _ _ (refl, omega arith) (refl, omega arith);
  apart =
      (λ j. let e = j.follows.1 in omega (arith, e), tt);
}

pub not_acquired : NotAcquired
unfolding number_where first_sync second_sync access usages_at usage_of lowered step settled flow
    bound_steps cells_of notes_in cells_of_notes
not_acquired = record { whole = refl; runs = one _ (omega arith); apart = tt }

pub nothing_before : NothingBefore
unfolding number_where first_sync second_sync access usages_at usage_of lowered step settled flow
    bound_steps cells_of notes_in cells_of_notes
nothing_before = record { whole = refl; runs = none; apart = tt }

pub behind_report : BehindReport
unfolding number_where first_sync second_sync access usages_at usage_of lowered step settled flow
    bound_steps cells_of notes_in cells_of_notes
behind_report = record { whole = refl; runs = one _ (omega arith); apart = tt }

pub unset : Unset
unfolding number_where first_sync second_sync access usages_at usage_of lowered step settled flow
    bound_steps cells_of notes_in cells_of_notes
unset = record { whole = refl; runs = one _ tt; apart = tt }

pub set_elsewhere : SetElsewhere
unfolding number_where first_sync second_sync access usages_at usage_of lowered step settled flow
    bound_steps cells_of notes_in cells_of_notes
set_elsewhere = record { whole = refl; runs = one _ tt; apart = tt }

pub not_raised : NotRaised
unfolding number_where first_sync second_sync access usages_at usage_of lowered step settled flow
    bound_steps cells_of notes_in cells_of_notes
not_raised = record { whole = refl; runs = one _ tt; apart = tt }

pub signalled_twice : SignalledTwice
unfolding number_where first_sync second_sync access usages_at usage_of lowered step settled flow
    bound_steps cells_of notes_in cells_of_notes
signalled_twice = record { whole = refl; runs = one _ tt; apart = tt }
