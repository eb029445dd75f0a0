-- Where a line may not stand ("Command Buffer Recording", "Render Pass Commands", "Command Buffer
-- Lifecycle").
use Rattle.std.specs.Prelude.{ℕ, ◌+◌, Bool, true, false, not, ◌||◌, ◌&&◌, ◌==◌, nat_lt, List, Option, Some}
use Rattle.std.specs.Prelude.{None, length}
use Rattle.std.specs.List.{list_any}
use Rattle.sv_mask.specs.Usages.{same_layout}
use Rattle.sv_mask.specs.declared.layout.Layout.{Layout}
use Rattle.sv_model.specs.declared.line.Line.{Line}
use Rattle.sv_model.specs.declared.line.Line.TheVariants as line
use Rattle.sv_model.specs.declared.line.Batch.{Batch}
use Rattle.sv_model.specs.declared.line.Declared.{Declared}
use Rattle.sv_model.specs.declared.line.Element.{Element}
use Rattle.sv_model.specs.declared.line.Target.{Target}
use Rattle.sv_model.specs.declared.line.Part.{Part}
use Rattle.sv_model.specs.declared.line.Part.TheVariants as part
use Rattle.sv_model.specs.declared.line.PassUse.{PassUse}
use Rattle.sv_model.specs.declared.line.Recording.{Recording}
use Rattle.sv_model.specs.declared.line.Trace.{Trace}
use Rattle.sv_model.specs.LawfulCommands.{is_attachment_usage, is_outside_usage, is_host_usage}
use Rattle.sv_model.specs.LawfulCommands.{declared_usage}
use Rattle.sv_rules.specs.Taken.{Taken, has_ended, pass_in, standing_in, recording_at, family_of_queue}
use Rattle.sv_rules.specs.Taken.{family_of_recording}
use Rattle.sv_rules.specs.PartRules.{if_target}
use Rattle.sv_rules.specs.declared.standing.Standing.{Standing}
use Rattle.sv_rules.specs.declared.standing.Standing.TheVariants.{InPass}
use Rattle.sv_rules.specs.Standings.{is_inside, is_in_rendering, is_in_pass}

-- Subpasses.

abbrev pub subpass_count : Trace → ℕ → ℕ
subpass_count t pass = length (pass_in t pass).subpasses

-- in a subpass that is not the last of its pass
abbrev pub is_before_last : Trace → Standing → Bool
is_before_last t (InPass pass i) = nat_lt (i + 1) (subpass_count t pass)
is_before_last t other = false

abbrev pub is_in_last : Trace → Standing → Bool
is_in_last t (InPass pass i) = i + 1 == subpass_count t pass
is_in_last t other = false

-- Queue families of elements.

-- two different families
abbrev pub are_two : Option (ℕ × ℕ) → Bool
are_two None = false
are_two (Some f) = not (f.0 == f.1)

-- neither is this one
abbrev pub are_foreign : Option ℕ → Option (ℕ × ℕ) → Bool
are_foreign (Some family) (Some f) = not (f.0 == family) && not (f.1 == family)
are_foreign family families = false

abbrev pub families_at : Option Target → Option (ℕ × ℕ)
families_at None = None
families_at (Some x) = x.families

abbrev pub families_of : Element → Option (ℕ × ℕ)
families_of e = families_at e.target

abbrev pub transfers : Element → Bool
transfers e = are_two (families_of e)

-- it has two different families, and neither is the recording's or it stands in a render scope
abbrev pub transfers_wrongly : Option ℕ → Bool → Element → Bool
transfers_wrongly family inside e = transfers e && (are_foreign family (families_of e) || inside)

-- Elements inside a subpass.

abbrev pub are_two_layouts : Option (Layout × Layout) → Bool
are_two_layouts None = false
are_two_layouts (Some l) = not (same_layout l.0 l.1)

abbrev pub is_of_buffer : Part → Bool
is_of_buffer (part.Bytes start end) = true
is_of_buffer (part.Image mip mips layer layers) = false

abbrev pub leaves_at : Target → Bool
leaves_at x = is_of_buffer x.part || are_two_layouts x.layouts

-- it is on a buffer, or has two different layouts
abbrev pub leaves_subpass : Element → Bool
leaves_subpass e = if_target leaves_at e.target

-- The sentences, one after another.

-- `version` is not the first line that is not blank
abbrev pub is_late_version : Taken → Line → Bool
is_late_version s (line.Version number) = s.begun
is_late_version s other = false

abbrev pub is_open_by : Trace → ℕ → Recording → Bool
is_open_by t recorder r = r.recorder == recorder && not (has_ended t r.rec)

-- the recorder has an open recording
unfoldable pub is_recording : Trace → ℕ → Bool
is_recording t recorder = list_any (is_open_by t recorder) t.recordings

-- `begin` names a recorder with an open recording
abbrev pub begins_second : Trace → Line → Bool
begins_second t (line.Begin rec recorder family) = is_recording t recorder
begins_second t other = false

abbrev pub has_ended_if_any : Trace → Option ℕ → Bool
has_ended_if_any t None = false
has_ended_if_any t (Some rec) = has_ended t rec

-- a command or `end` names a recording that has ended
abbrev pub comes_after_end : Trace → Line → Bool
comes_after_end t line = has_ended_if_any t (recording_at line)

-- `end` stands in a render scope
abbrev pub ends_in_scope : Trace → Line → Bool
ends_in_scope t (line.End rec) = is_inside (standing_in t rec)
ends_in_scope t other = false

abbrev pub are_same : Option ℕ → Option ℕ → Bool
are_same (Some a) (Some b) = a == b
are_same a b = false

-- the recording is open, or its family is not the queue's
abbrev pub may_not_run : Trace → ℕ → ℕ → Bool
may_not_run t queue rec = not (has_ended t rec) || not
    (are_same (family_of_recording t rec) (family_of_queue t queue))

abbrev pub batch_may_not_run : Trace → ℕ → Batch → Bool
batch_may_not_run t queue b = list_any (may_not_run t queue) b.recs

-- a submit names an open recording, or one whose family is not the queue's
abbrev pub submits_wrongly : Trace → Line → Bool
submits_wrongly t (line.Submit lane queue batches fence) = list_any (batch_may_not_run t queue) batches
submits_wrongly t other = false

-- an element has two different families, and neither is the recording's or it stands in a `set_event` or in
-- a render scope
abbrev pub has_wrong_transfer : Trace → Line → Bool
has_wrong_transfer t (line.Barrier rec deps) = list_any
    (transfers_wrongly (family_of_recording t rec) (is_inside (standing_in t rec))) deps
has_wrong_transfer t (line.SetEvent rec event deps) = list_any transfers deps
has_wrong_transfer t other = false

-- a render scope begins in another, or goes on or ends outside its own; `next_subpass` in the last subpass,
-- `end_pass` before it
abbrev pub breaks_scope : Trace → Line → Bool
breaks_scope t (line.BeginRendering rec attachments) = is_inside (standing_in t rec)
breaks_scope t (line.BeginPass rec pass views) = is_inside (standing_in t rec)
breaks_scope t (line.EndRendering rec) = not (is_in_rendering (standing_in t rec))
breaks_scope t (line.NextSubpass rec) = not (is_before_last t (standing_in t rec))
breaks_scope t (line.EndPass rec) = not (is_in_last t (standing_in t rec))
breaks_scope t other = false

-- a barrier stands in dynamic rendering, or a command of an event in a render scope
abbrev pub is_forbidden_inside : Trace → Line → Bool
is_forbidden_inside t (line.Barrier rec deps) = is_in_rendering (standing_in t rec)
is_forbidden_inside t (line.SetEvent rec event deps) = is_inside (standing_in t rec)
is_forbidden_inside t (line.WaitEvent rec event) = is_inside (standing_in t rec)
is_forbidden_inside t (line.ResetEvent rec event) = is_inside (standing_in t rec)
is_forbidden_inside t other = false

-- a barrier in a subpass has an element on a buffer, or one with two different layouts
abbrev pub breaks_subpass : Trace → Line → Bool
breaks_subpass t (line.Barrier rec deps) = is_in_pass (standing_in t rec) && list_any leaves_subpass deps
breaks_subpass t other = false

-- a usage that a `work` may not have inside a render scope, or outside of all
abbrev pub is_misused : Bool → ℕ → Bool
is_misused true usage = is_outside_usage usage || is_host_usage usage
is_misused false usage = is_attachment_usage usage || is_host_usage usage

abbrev pub is_misused_access : Bool → Declared → Bool
is_misused_access inside a = is_misused inside (declared_usage a)

-- a `work` has a colour, depth or input attachment usage outside a render scope, a compute, copy, resolve,
-- blit or clear usage inside one, or a usage of the host
abbrev pub has_wrong_usage : Trace → Line → Bool
has_wrong_usage t (line.Work rec accesses) = list_any
    (is_misused_access (is_inside (standing_in t rec))) accesses
has_wrong_usage t other = false

-- `begin_pass` has another number of views than its pass has attachments
abbrev pub has_wrong_views : Trace → Line → Bool
has_wrong_views t (line.BeginPass rec pass views) = not (length views == length (pass_in t pass).attachments)
has_wrong_views t other = false

abbrev pub differ_in_layout : PassUse → PassUse → Bool
differ_in_layout u v = u.att == v.att && not (same_layout u.layout v.layout)

abbrev pub differs_from_some : List PassUse → PassUse → Bool
differs_from_some uses u = list_any (differ_in_layout u) uses

abbrev pub has_two_layouts : List PassUse → Bool
has_two_layouts uses = list_any (differs_from_some uses) uses

-- a subpass uses one attachment with two layouts
abbrev pub has_unclear_use : Line → Bool
has_unclear_use (line.RenderPass pass attachments subpasses deps) = list_any has_two_layouts subpasses
has_unclear_use other = false

-- One of these sentences holds.
unfoldable pub is_misplaced : Taken → Line → Bool
is_misplaced s line =
    is_late_version s line
    || begins_second s.trace line || comes_after_end s.trace line || ends_in_scope s.trace line
    || submits_wrongly s.trace line
    || has_wrong_transfer s.trace line
    || breaks_scope s.trace line
    || is_forbidden_inside s.trace line
    || breaks_subpass s.trace line
    || has_wrong_usage s.trace line
    || has_wrong_views s.trace line || has_unclear_use line
