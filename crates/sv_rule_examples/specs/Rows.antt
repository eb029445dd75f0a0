-- What is said of lines after the lines before them.
use Rattle.std.specs.Prelude.{◌≡◌, ℕ, List, [], ◌∷◌, ◌++◌, Option, None, Some, true, false, replicate}
use Rattle.std.specs.Prelude.{reverse}
use Rattle.sv_mask.specs.declared.stage.Stage.TheVariants as stage
use Rattle.sv_mask.specs.declared.access.Access16.TheVariants as access
use Rattle.sv_mask.specs.declared.layout.Layout.TheVariants as layout
use Rattle.sv_model.specs.declared.line.Line.{Line}
use Rattle.sv_model.specs.declared.line.Line.TheVariants as line
use Rattle.sv_model.specs.declared.line.Sharing.TheVariants.{Exclusive}
use Rattle.sv_model.specs.declared.line.SemKind.TheVariants.{Binary}
use Rattle.sv_model.specs.declared.refusal.Cause.{Cause}
use Rattle.sv_model.specs.declared.refusal.Cause.TheVariants as cause
use Rattle.sv_model.specs.declared.refusal.LimitName.TheVariants as limit
use Rattle.sv_model.specs.Size.{work_size}
use Rattle.sv_rules.specs.Taken.{taken_of}
use Rattle.sv_rules.specs.Ends.{is_unfinished}
use Rattle.sv_rule_examples.specs.Lines.{cause_after, declarations, bytes, texels, copies, copying}
use Rattle.sv_rule_examples.specs.Lines.{copy_element, shader_element, on_buffer, on_image, pass_line}
use Rattle.sv_rule_examples.specs.Lines.{begin, recording, rendering, subpass, recorded, batch_of}
use Rattle.sv_rule_examples.specs.Lines.{signal_of, submit_of}

abbrev pub Refused : List Line → Line → Cause → Type 0
Refused before line why = cause_after before line ≡ Some why

abbrev pub Taken : List Line → Line → Type 0
Taken before line = cause_after before line ≡ None

pub record Rows : Type 0 where
  -- the whole of a small trace is taken
  pub queue : Taken [] (line.Queue 0 0 0)
  pub begins : Taken (declarations ++ pass_line ∷ []) begin
  pub copy : Taken recording copying
  pub ends : Taken (recording ++ copying ∷ []) (line.End 0)
  pub submits : Taken recorded (submit_of (batch_of (0 ∷ [])))
  -- nothing declares the recording, the resource, the event, the queue, the semaphore
  pub no_recording : Refused declarations copying cause.Undeclared
  pub no_resource : Refused (begin ∷ []) copying cause.Undeclared
  pub no_event : Refused recording (line.WaitEvent 0 7) cause.Undeclared
  pub no_queue : Refused [] (line.WaitQueue 0 0) cause.Undeclared
  pub no_semaphore : Refused recorded (submit_of (signal_of 9 None)) cause.Undeclared
  pub no_submitted : Refused recorded (submit_of (batch_of (0 ∷ 5 ∷ []))) cause.Undeclared
  -- a buffer and an image share one numbering
  pub twice : Refused declarations (line.Buffer 1 64 Exclusive) cause.DeclaredTwice
  pub begins_again : Refused recorded begin cause.DeclaredTwice
  pub other_number : Taken declarations (line.Buffer 2 64 Exclusive)
  -- the buffer has 64 bytes, the image one mip and two layers
  pub past_end : Refused recording (copies 60 65) cause.OutOfResource
  pub to_the_end : Taken recording (copies 60 64)
  pub other_form : Refused recording (line.Work 0
      (record (texels stage.Copy access.TransferRead 0 1) { res = 0 } ∷ [])) cause.OutOfResource
  pub past_layers : Refused recording (line.Work 0 (texels stage.Copy access.TransferRead 1 2 ∷ []))
      cause.OutOfResource
  pub last_layer : Taken recording (line.Work 0 (texels stage.Copy access.TransferRead 1 1 ∷ []))
  pub empty_bytes : Refused recording (copies 16 16) cause.Empty
  pub no_layers : Refused recording (line.Work 0 (texels stage.Copy access.TransferRead 0 0 ∷ [])) cause.Empty
  pub no_usage : Refused recording (line.Work 0 (bytes stage.Clear access.TransferRead 0 16 ∷ []))
      cause.AccessWithoutStage
  pub unsupported : Refused recording (line.Barrier 0
      (record (copy_element None) { src = (shader_element None).src } ∷ [])) cause.AccessWithoutStage
  -- places
  pub late_version : Refused (line.Blank ∷ line.Event 0 ∷ []) (line.Version 1) cause.WrongPlace
  pub first_version : Taken (line.Blank ∷ []) (line.Version 1)
  pub second_open : Refused recording (line.Begin 1 0 0) cause.WrongPlace
  pub other_recorder : Taken recording (line.Begin 1 1 0)
  pub after_end : Refused recorded copying cause.WrongPlace
  pub end_inside : Refused rendering (line.End 0) cause.WrongPlace
  pub open_submitted : Refused recording (submit_of (batch_of (0 ∷ []))) cause.WrongPlace
  pub other_family : Refused recorded (line.Submit 1 1 (batch_of (0 ∷ []) ∷ []) None) cause.WrongPlace
  pub foreign_families : Refused recording (line.Barrier 0
      (copy_element (Some (on_buffer (Some (1, 2)))) ∷ [])) cause.WrongPlace
  pub own_family : Taken recording (line.Barrier 0 (copy_element (Some (on_buffer (Some (0, 2)))) ∷ []))
  pub equal_families : Taken recording (line.SetEvent 0 0
      (copy_element (Some (on_buffer (Some (2, 2)))) ∷ []))
  pub families_in_set : Refused recording (line.SetEvent 0 0
      (copy_element (Some (on_buffer (Some (0, 2)))) ∷ [])) cause.WrongPlace
  pub nested : Refused rendering (line.BeginPass 0 0 []) cause.WrongPlace
  pub ends_other : Refused subpass (line.EndRendering 0) cause.WrongPlace
  pub ends_early : Refused subpass (line.EndPass 0) cause.WrongPlace
  pub goes_on : Taken subpass (line.NextSubpass 0)
  pub goes_past : Refused (subpass ++ line.NextSubpass 0 ∷ []) (line.NextSubpass 0) cause.WrongPlace
  pub ends_pass : Taken (subpass ++ line.NextSubpass 0 ∷ []) (line.EndPass 0)
  pub barrier_in_rendering : Refused rendering (line.Barrier 0 []) cause.WrongPlace
  pub event_inside : Refused subpass (line.ResetEvent 0 0) cause.WrongPlace
  pub buffer_in_subpass : Refused subpass (line.Barrier 0 (shader_element (Some (on_buffer None)) ∷ []))
      cause.WrongPlace
  pub layouts_in_subpass : Refused subpass (line.Barrier 0
      (shader_element (Some (on_image (Some (layout.General, layout.PresentSrc)))) ∷ [])) cause.WrongPlace
  pub copy_inside : Refused rendering copying cause.WrongPlace
  pub other_views : Refused recording (line.BeginPass 0 0
      (record { res = 1; mip = 0; layer = 0; layers = 1 } ∷ [])) cause.WrongPlace
  -- the subpass depends on itself at the fragment shader alone, and the second subpass does not
  pub contained : Taken subpass (line.Barrier 0 (shader_element None ∷ []))
  pub uncontained : Refused subpass (line.Barrier 0 (copy_element None ∷ [])) cause.NoSelfDependency
  pub no_own : Refused (subpass ++ line.NextSubpass 0 ∷ [])
      (line.Barrier 0 (shader_element None ∷ [])) cause.NoSelfDependency
  pub other_lane : Refused declarations (line.WaitQueue 1 0) cause.QueueOfAnotherLane
  pub no_value : Refused recorded (submit_of (signal_of 1 None)) cause.SemaphoreKind
  pub binary_value : Refused recorded (submit_of (signal_of 0 (Some 1))) cause.SemaphoreKind
  pub binary_initial : Refused [] (line.Semaphore 0 Binary (Some 0)) cause.SemaphoreKind
  -- limits, of which the first counts
  pub most_accesses : Taken recording (line.Work 0 (replicate 64 (bytes stage.Copy access.TransferRead 0 16)))
  pub many_accesses : Refused recording (line.Work 0
      (replicate 65 (bytes stage.Copy access.TransferRead 0 16))) (cause.Limit limit.Accesses 64)
  pub many_batches : Refused recorded (line.Submit 0 0
      (replicate 65 (record (batch_of []) {
        waits = replicate 65 (record { sem = 0; value = None; stages = (shader_element None).src });
      })) None)
      (cause.Limit limit.Batches 64)
  -- the submit adds one for its batch, and for the recording one for its step and one for its access
  pub size : work_size (taken_of (reverse (recorded ++ submit_of (batch_of (0 ∷ [])) ∷ []))).trace ≡ 3
  pub still_open : is_unfinished (taken_of (reverse recording)).trace ≡ true
  pub all_ended : is_unfinished (taken_of (reverse recorded)).trace ≡ false
