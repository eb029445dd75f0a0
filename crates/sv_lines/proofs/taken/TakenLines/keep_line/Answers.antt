use Rattle.std.proofs.Common.{◌≡◌, None, subst}
use Rattle.sv_model.specs.declared.line.Line.{Line}
use Rattle.sv_rules.specs.Causes.{rule_cause}
use Rattle.sv_lines.proofs.Arms.{few_lines, queue_first, buffer_first, image_first, semaphore_first}
use Rattle.sv_lines.proofs.Arms.{event_first, fence_first, pass_first, pass_attachments, pass_subpasses}
use Rattle.sv_lines.proofs.Arms.{recording_first, recorder_idle, goes_on, before_end, submits_ended}
use Rattle.sv_lines.proofs.taken.TakenLines.keep_line.Goals as goal

pub keep_blank-requires : goal.keep_blank-requires
keep_blank-requires c = few_lines c.args.self.now c.args.line c.requires.passes

pub keep_version-requires : goal.keep_version-requires
keep_version-requires c = few_lines c.args.self.now c.args.line c.requires.passes

pub keep_begin-requires-clause-few : goal.keep_begin-requires-clause-few
keep_begin-requires-clause-few c = few_lines c.args.self.now c.args.line c.requires.passes

pub keep_begin-requires-clause-first : goal.keep_begin-requires-clause-first
keep_begin-requires-clause-first c = recording_first _ _ _ _
    (subst (λ (l : Line). rule_cause c.args.self.now l ≡ None) c.in-Begin.is c.requires.passes)

pub keep_begin-requires-clause-idle : goal.keep_begin-requires-clause-idle
keep_begin-requires-clause-idle c = recorder_idle _ _ _ _
    (subst (λ (l : Line). rule_cause c.args.self.now l ≡ None) c.in-Begin.is c.requires.passes)

pub keep_end-requires-clause-few : goal.keep_end-requires-clause-few
keep_end-requires-clause-few c = few_lines c.args.self.now c.args.line c.requires.passes

pub keep_end-requires-clause-begun : goal.keep_end-requires-clause-begun
keep_end-requires-clause-begun c = goes_on _ _ (subst
    (λ (l : Line). rule_cause c.args.self.now l ≡ None) c.in-End.is c.requires.passes)

pub keep_end-requires-clause-not_ended : goal.keep_end-requires-clause-not_ended
keep_end-requires-clause-not_ended c = before_end _ _
    (subst (λ (l : Line). rule_cause c.args.self.now l ≡ None) c.in-End.is c.requires.passes)

pub keep_command-requires-clause-few : goal.keep_command-requires-clause-few
keep_command-requires-clause-few c = few_lines c.args.self.now c.args.line c.requires.passes

pub keep_command-requires-clause-begun : goal.keep_command-requires-clause-begun
keep_command-requires-clause-begun c = goes_on _ _
    (subst (λ (l : Line). rule_cause c.args.self.now l ≡ None) c.in-Work.is c.requires.passes)

pub keep_command-requires-clause-not_ended : goal.keep_command-requires-clause-not_ended
keep_command-requires-clause-not_ended c = before_end _ _
    (subst (λ (l : Line). rule_cause c.args.self.now l ≡ None) c.in-Work.is c.requires.passes)

pub keep_command-requires-in-Barrier-clause-few : goal.keep_command-requires-in-Barrier-clause-few
keep_command-requires-in-Barrier-clause-few c = few_lines c.args.self.now c.args.line c.requires.passes

pub keep_command-requires-in-Barrier-clause-begun : goal.keep_command-requires-in-Barrier-clause-begun
keep_command-requires-in-Barrier-clause-begun c =
    goes_on _ _ (subst (λ (l : Line). rule_cause c.args.self.now l ≡ None) c.in-Barrier.is
    c.requires.passes)

pub keep_command-requires-in-Barrier-clause-not_ended : goal.keep_command-requires-in-Barrier-clause-not_ended
keep_command-requires-in-Barrier-clause-not_ended c =
    before_end _ _ (subst (λ (l : Line). rule_cause c.args.self.now l ≡ None) c.in-Barrier.is
    c.requires.passes)

pub keep_command-requires-in-SetEvent-clause-few : goal.keep_command-requires-in-SetEvent-clause-few
keep_command-requires-in-SetEvent-clause-few c = few_lines c.args.self.now c.args.line c.requires.passes

pub keep_command-requires-in-SetEvent-clause-begun : goal.keep_command-requires-in-SetEvent-clause-begun
keep_command-requires-in-SetEvent-clause-begun c =
    goes_on _ _ (subst (λ (l : Line). rule_cause c.args.self.now l ≡ None) c.in-SetEvent.is
    c.requires.passes)

pub
    keep_command-requires-in-SetEvent-clause-not_ended
    : goal.keep_command-requires-in-SetEvent-clause-not_ended
keep_command-requires-in-SetEvent-clause-not_ended c =
    before_end _ _ (subst (λ (l : Line). rule_cause c.args.self.now l ≡ None) c.in-SetEvent.is
    c.requires.passes)

pub keep_command-requires-in-WaitEvent-clause-few : goal.keep_command-requires-in-WaitEvent-clause-few
keep_command-requires-in-WaitEvent-clause-few c = few_lines c.args.self.now c.args.line c.requires.passes

pub keep_command-requires-in-WaitEvent-clause-begun : goal.keep_command-requires-in-WaitEvent-clause-begun
keep_command-requires-in-WaitEvent-clause-begun c =
    goes_on _ _ (subst (λ (l : Line). rule_cause c.args.self.now l ≡ None) c.in-WaitEvent.is
    c.requires.passes)

pub
    keep_command-requires-in-WaitEvent-clause-not_ended
    : goal.keep_command-requires-in-WaitEvent-clause-not_ended
keep_command-requires-in-WaitEvent-clause-not_ended c =
    before_end _ _ (subst (λ (l : Line). rule_cause c.args.self.now l ≡ None) c.in-WaitEvent.is
    c.requires.passes)

pub keep_command-requires-in-ResetEvent-clause-few : goal.keep_command-requires-in-ResetEvent-clause-few
keep_command-requires-in-ResetEvent-clause-few c = few_lines c.args.self.now c.args.line c.requires.passes

pub keep_command-requires-in-ResetEvent-clause-begun : goal.keep_command-requires-in-ResetEvent-clause-begun
keep_command-requires-in-ResetEvent-clause-begun c =
    goes_on _ _ (subst (λ (l : Line). rule_cause c.args.self.now l ≡ None) c.in-ResetEvent.is
    c.requires.passes)

pub
    keep_command-requires-in-ResetEvent-clause-not_ended
    : goal.keep_command-requires-in-ResetEvent-clause-not_ended
keep_command-requires-in-ResetEvent-clause-not_ended c =
    before_end _ _ (subst (λ (l : Line). rule_cause c.args.self.now l ≡ None) c.in-ResetEvent.is
    c.requires.passes)

pub
    keep_command-requires-in-BeginRendering-clause-few
    : goal.keep_command-requires-in-BeginRendering-clause-few
keep_command-requires-in-BeginRendering-clause-few c = few_lines c.args.self.now c.args.line c.requires.passes

pub
    keep_command-requires-in-BeginRendering-clause-begun
    : goal.keep_command-requires-in-BeginRendering-clause-begun
keep_command-requires-in-BeginRendering-clause-begun c =
    goes_on _ _ (subst (λ (l : Line). rule_cause c.args.self.now l ≡ None) c.in-BeginRendering.is
    c.requires.passes)

pub
    keep_command-requires-in-BeginRendering-clause-not_ended
    : goal.keep_command-requires-in-BeginRendering-clause-not_ended
keep_command-requires-in-BeginRendering-clause-not_ended c =
    before_end _ _ (subst (λ (l : Line). rule_cause c.args.self.now l ≡ None) c.in-BeginRendering.is
    c.requires.passes)

pub keep_command-requires-in-EndRendering-clause-few : goal.keep_command-requires-in-EndRendering-clause-few
keep_command-requires-in-EndRendering-clause-few c = few_lines c.args.self.now c.args.line c.requires.passes

pub
    keep_command-requires-in-EndRendering-clause-begun
    : goal.keep_command-requires-in-EndRendering-clause-begun
keep_command-requires-in-EndRendering-clause-begun c =
    goes_on _ _ (subst (λ (l : Line). rule_cause c.args.self.now l ≡ None) c.in-EndRendering.is
    c.requires.passes)

pub
    keep_command-requires-in-EndRendering-clause-not_ended
    : goal.keep_command-requires-in-EndRendering-clause-not_ended
keep_command-requires-in-EndRendering-clause-not_ended c =
    before_end _ _ (subst (λ (l : Line). rule_cause c.args.self.now l ≡ None) c.in-EndRendering.is
    c.requires.passes)

pub keep_command-requires-in-BeginPass-clause-few : goal.keep_command-requires-in-BeginPass-clause-few
keep_command-requires-in-BeginPass-clause-few c = few_lines c.args.self.now c.args.line c.requires.passes

pub keep_command-requires-in-BeginPass-clause-begun : goal.keep_command-requires-in-BeginPass-clause-begun
keep_command-requires-in-BeginPass-clause-begun c =
    goes_on _ _ (subst (λ (l : Line). rule_cause c.args.self.now l ≡ None) c.in-BeginPass.is
    c.requires.passes)

pub
    keep_command-requires-in-BeginPass-clause-not_ended
    : goal.keep_command-requires-in-BeginPass-clause-not_ended
keep_command-requires-in-BeginPass-clause-not_ended c =
    before_end _ _ (subst (λ (l : Line). rule_cause c.args.self.now l ≡ None) c.in-BeginPass.is
    c.requires.passes)

pub keep_command-requires-in-NextSubpass-clause-few : goal.keep_command-requires-in-NextSubpass-clause-few
keep_command-requires-in-NextSubpass-clause-few c = few_lines c.args.self.now c.args.line c.requires.passes

pub keep_command-requires-in-NextSubpass-clause-begun : goal.keep_command-requires-in-NextSubpass-clause-begun
keep_command-requires-in-NextSubpass-clause-begun c =
    goes_on _ _ (subst (λ (l : Line). rule_cause c.args.self.now l ≡ None) c.in-NextSubpass.is
    c.requires.passes)

pub
    keep_command-requires-in-NextSubpass-clause-not_ended
    : goal.keep_command-requires-in-NextSubpass-clause-not_ended
keep_command-requires-in-NextSubpass-clause-not_ended c =
    before_end _ _ (subst (λ (l : Line). rule_cause c.args.self.now l ≡ None) c.in-NextSubpass.is
    c.requires.passes)

pub keep_command-requires-in-EndPass-clause-few : goal.keep_command-requires-in-EndPass-clause-few
keep_command-requires-in-EndPass-clause-few c = few_lines c.args.self.now c.args.line c.requires.passes

pub keep_command-requires-in-EndPass-clause-begun : goal.keep_command-requires-in-EndPass-clause-begun
keep_command-requires-in-EndPass-clause-begun c =
    goes_on _ _ (subst (λ (l : Line). rule_cause c.args.self.now l ≡ None) c.in-EndPass.is
    c.requires.passes)

pub keep_command-requires-in-EndPass-clause-not_ended : goal.keep_command-requires-in-EndPass-clause-not_ended
keep_command-requires-in-EndPass-clause-not_ended c =
    before_end _ _ (subst (λ (l : Line). rule_cause c.args.self.now l ≡ None) c.in-EndPass.is
    c.requires.passes)

pub keep_call-requires-clause-few : goal.keep_call-requires-clause-few
keep_call-requires-clause-few c = few_lines c.args.self.now c.args.line c.requires.passes

pub keep_call-requires-clause-ended : goal.keep_call-requires-clause-ended
keep_call-requires-clause-ended c = submits_ended _ _
    (subst (λ (l : Line). rule_cause c.args.self.now l ≡ None) c.in-Submit.is c.requires.passes)

pub keep_call-requires-in-WaitFence-clause-few : goal.keep_call-requires-in-WaitFence-clause-few
keep_call-requires-in-WaitFence-clause-few c = few_lines c.args.self.now c.args.line c.requires.passes

pub keep_call-requires-in-ResetFence-clause-few : goal.keep_call-requires-in-ResetFence-clause-few
keep_call-requires-in-ResetFence-clause-few c = few_lines c.args.self.now c.args.line c.requires.passes

pub keep_call-requires-in-WaitQueue-clause-few : goal.keep_call-requires-in-WaitQueue-clause-few
keep_call-requires-in-WaitQueue-clause-few c = few_lines c.args.self.now c.args.line c.requires.passes

pub keep_call-requires-in-WaitDevice-clause-few : goal.keep_call-requires-in-WaitDevice-clause-few
keep_call-requires-in-WaitDevice-clause-few c = few_lines c.args.self.now c.args.line c.requires.passes

pub keep_queue-requires-clause-few : goal.keep_queue-requires-clause-few
keep_queue-requires-clause-few c = few_lines c.args.self.now c.args.line c.requires.passes

pub keep_queue-requires-clause-first : goal.keep_queue-requires-clause-first
keep_queue-requires-clause-first c = queue_first c.args.self.now _ _ _
    (subst (λ (l : Line). rule_cause c.args.self.now l ≡ None) c.in-Queue.is c.requires.passes)

pub keep_buffer-requires-clause-few : goal.keep_buffer-requires-clause-few
keep_buffer-requires-clause-few c = few_lines c.args.self.now c.args.line c.requires.passes

pub keep_buffer-requires-clause-first : goal.keep_buffer-requires-clause-first
keep_buffer-requires-clause-first c = buffer_first c.args.self.now _ _ _
    (subst (λ (l : Line). rule_cause c.args.self.now l ≡ None) c.in-Buffer.is c.requires.passes)

pub keep_image-requires-clause-few : goal.keep_image-requires-clause-few
keep_image-requires-clause-few c = few_lines c.args.self.now c.args.line c.requires.passes

pub keep_image-requires-clause-first : goal.keep_image-requires-clause-first
keep_image-requires-clause-first c = image_first c.args.self.now _ _ _ _ _
    (subst (λ (l : Line). rule_cause c.args.self.now l ≡ None) c.in-Image.is c.requires.passes)

pub keep_semaphore-requires-clause-few : goal.keep_semaphore-requires-clause-few
keep_semaphore-requires-clause-few c = few_lines c.args.self.now c.args.line c.requires.passes

pub keep_semaphore-requires-clause-first : goal.keep_semaphore-requires-clause-first
keep_semaphore-requires-clause-first c = semaphore_first c.args.self.now _ _ _
    (subst (λ (l : Line). rule_cause c.args.self.now l ≡ None) c.in-Semaphore.is c.requires.passes)

pub keep_event-requires-clause-few : goal.keep_event-requires-clause-few
keep_event-requires-clause-few c = few_lines c.args.self.now c.args.line c.requires.passes

pub keep_event-requires-clause-first : goal.keep_event-requires-clause-first
keep_event-requires-clause-first c = event_first c.args.self.now _
    (subst (λ (l : Line). rule_cause c.args.self.now l ≡ None) c.in-Event.is c.requires.passes)

pub keep_fence-requires-clause-few : goal.keep_fence-requires-clause-few
keep_fence-requires-clause-few c = few_lines c.args.self.now c.args.line c.requires.passes

pub keep_fence-requires-clause-first : goal.keep_fence-requires-clause-first
keep_fence-requires-clause-first c = fence_first c.args.self.now _ _
    (subst (λ (l : Line). rule_cause c.args.self.now l ≡ None) c.in-Fence.is c.requires.passes)

pub keep_pass-requires-clause-few : goal.keep_pass-requires-clause-few
keep_pass-requires-clause-few c = few_lines c.args.self.now c.args.line c.requires.passes

pub keep_pass-requires-clause-first : goal.keep_pass-requires-clause-first
keep_pass-requires-clause-first c = pass_first c.args.self.now _ _ _ _
    (subst (λ (l : Line). rule_cause c.args.self.now l ≡ None) c.in-RenderPass.is c.requires.passes)

pub keep_pass-requires-clause-attachments : goal.keep_pass-requires-clause-attachments
keep_pass-requires-clause-attachments c = pass_attachments c.args.self.now _ _ _ _
    (subst (λ (l : Line). rule_cause c.args.self.now l ≡ None) c.in-RenderPass.is c.requires.passes)

pub keep_pass-requires-clause-subpasses : goal.keep_pass-requires-clause-subpasses
keep_pass-requires-clause-subpasses c = pass_subpasses c.args.self.now _ _ _ _
    (subst (λ (l : Line). rule_cause c.args.self.now l ≡ None) c.in-RenderPass.is c.requires.passes)
