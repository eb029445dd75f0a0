-- The items of scripts.
use Rattle.std.proofs.Common.{◌≡◌, ℕ, ◌<◌, List, [], Some, sym, ◌∙◌, ap, subst, length, slice_get}
use Rattle.std.proofs.Common.{slice_index_or, is_some}
use Rattle.std.specs.Prelude.{slice_index, IsTrue}
use Rattle.std.proofs.lemmas.List.FromFn.{length-range_with_len}
use Rattle.std.proofs.lemmas.Option.{get_or_from_slice_get}
use Rattle.sv_model.specs.declared.line.Trace.{Trace}
use Rattle.sv_model.specs.declared.line.Line.{Line}
use Rattle.sv_model.specs.declared.line.Mark.TheVariants.{Publish}
use Rattle.sv_model.specs.Declarations.{recording_of}
use Rattle.sv_model.specs.History.{recorder_script}
use Rattle.sv_model.specs.Lawful.{IsLawful}
use Rattle.sv_device.specs.declared.who.Who.{Who}
use Rattle.sv_device.specs.declared.who.Who.TheVariants.{Lane, Recorder}
use Rattle.sv_device.specs.Actors.{mark_at, script_of}
use Rattle.sv_device.proofs.Steps.{is_declared}

-- the length of a lane's script
pub lane_long : (t : Trace) (who : Who) (lane n : ℕ) (scripts : List (List Line)) (script : List Line) → who
    ≡ Lane lane → scripts ≡ t.lane_scripts → script ≡ slice_index_or scripts lane [] → n ≡ length script → n
    ≡ length (script_of t who)
lane_long t who lane n scripts script is same at long =
    long
    ∙ ap length (at ∙ ap (λ (l : List (List Line)). slice_index_or l lane []) same)
    ∙ sym (length-range_with_len 0 (length (slice_index_or t.lane_scripts lane [])))
    ∙ ap (λ w. length (script_of t w)) (sym is)

-- a number of a recorder's script
item_is : (t : Trace) (recorder place k : ℕ) (script : List ℕ) → slice_get t.recorder_scripts recorder
    ≡ Some script → slice_get script place ≡ Some k → slice_index (recorder_script t recorder) place ≡ k
item_is t recorder place k script at item =
    ap (λ s. slice_index s place) (get_or_from_slice_get t.recorder_scripts recorder script [] at)
    ∙ get_or_from_slice_get script place k 0 item

pub item_declared : (t : Trace) (who : Who) (recorder place k : ℕ) (script : List ℕ) → IsLawful t → who
    ≡ Recorder recorder → place < length (script_of t who) → slice_get t.recorder_scripts recorder
    ≡ Some script → slice_get script place ≡ Some k → IsTrue (is_some (recording_of t k))
item_declared t who recorder place k script lawful is left at item =
    subst (λ j. IsTrue (is_some (recording_of t j))) (item_is t recorder place k script at item)
    (is_declared t recorder place lawful (subst (λ w. place < length (script_of t w)) is left))

pub item_mark : (t : Trace) (who : Who) (recorder place k number : ℕ) (script : List ℕ) → who
    ≡ Recorder recorder → slice_get t.recorder_scripts recorder ≡ Some script → slice_get script place
    ≡ Some k → number ≡ k → Publish number ≡ mark_at t who place
item_mark t who recorder place k number script is at item same =
    ap Publish (same ∙ sym (item_is t recorder place k script at item)) ∙ ap (λ w. mark_at t w place) (sym is)
