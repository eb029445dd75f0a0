-- The limits of a trace, in the order of the list of limits.
use Rattle.std.specs.Prelude.{ℕ, ◌+◌, Bool, false, nat_lt, List, [], ◌∷◌, Option, length}
use Rattle.std.specs.List.{list_any}
use Rattle.sv_model.specs.declared.line.Line.{Line}
use Rattle.sv_model.specs.declared.line.Line.TheVariants as line
use Rattle.sv_model.specs.declared.line.Batch.{Batch}
use Rattle.sv_model.specs.declared.line.PassUse.{PassUse}
use Rattle.sv_model.specs.declared.refusal.Cause.{Cause}
use Rattle.sv_model.specs.declared.refusal.Cause.TheVariants.{Limit}
use Rattle.sv_model.specs.declared.refusal.LimitName.TheVariants as limit
use Rattle.sv_model.specs.Size.{work_size, call_size}
use Rattle.sv_rules.specs.Taken.{Taken}
use Rattle.sv_rules.specs.First.{first_cause}

abbrev pub has_many : {A : Type 0} → ℕ → List A → Bool
has_many most list = nat_lt most (length list)

-- more than 64 accesses of one `work`
abbrev pub has_many_accesses : Line → Bool
has_many_accesses (line.Work rec accesses) = has_many 64 accesses
has_many_accesses other = false

-- more than 64 elements or dependencies of one line
abbrev pub has_many_deps : Line → Bool
has_many_deps (line.Barrier rec deps) = has_many 64 deps
has_many_deps (line.SetEvent rec event deps) = has_many 64 deps
has_many_deps (line.RenderPass pass attachments subpasses deps) = has_many 64 deps
has_many_deps other = false

abbrev pub has_many_subpasses : Line → Bool
has_many_subpasses (line.RenderPass pass attachments subpasses deps) = has_many 32 subpasses
has_many_subpasses other = false

abbrev pub are_many_uses : List PassUse → Bool
are_many_uses uses = has_many 64 uses

-- more than 64 uses of one subpass
abbrev pub has_many_uses : Line → Bool
has_many_uses (line.RenderPass pass attachments subpasses deps) = list_any are_many_uses subpasses
has_many_uses other = false

abbrev pub has_many_attachments : Line → Bool
has_many_attachments (line.RenderPass pass attachments subpasses deps) = has_many 16 attachments
has_many_attachments (line.BeginRendering rec attachments) = has_many 16 attachments
has_many_attachments other = false

abbrev pub has_many_batches : Line → Bool
has_many_batches (line.Submit lane queue batches fence) = has_many 64 batches
has_many_batches other = false

-- a batch of the submit passes a test
abbrev pub some_batch : (Batch → Bool) → Line → Bool
some_batch test (line.Submit lane queue batches fence) = list_any test batches
some_batch test other = false

abbrev pub is_of_many_recs : Batch → Bool
is_of_many_recs b = has_many 1024 b.recs

abbrev pub has_many_recs : Line → Bool
has_many_recs line = some_batch is_of_many_recs line

abbrev pub is_of_many_waits : Batch → Bool
is_of_many_waits b = has_many 64 b.waits

abbrev pub has_many_waits : Line → Bool
has_many_waits line = some_batch is_of_many_waits line

abbrev pub is_of_many_signals : Batch → Bool
is_of_many_signals b = has_many 64 b.signals

abbrev pub has_many_signals : Line → Bool
has_many_signals line = some_batch is_of_many_signals line

-- the size of the work of the lines before
unfoldable pub size_so_far : Taken → ℕ
size_so_far s = work_size s.trace

-- what a line adds to it
unfoldable pub added_size : Taken → Line → ℕ
added_size s line = call_size s.trace line

abbrev pub size_with : Taken → Line → ℕ
size_with s line = size_so_far s + added_size s line

-- The first limit of the list that the line passes.
unfoldable pub passed_limit : Taken → Line → Option Cause
passed_limit s line = first_cause
    ((nat_lt 1000000 (s.lines + 1), Limit limit.Lines 1000000)
    ∷ (has_many_accesses line, Limit limit.Accesses 64)
    ∷ (has_many_deps line, Limit limit.Deps 64)
    ∷ (has_many_subpasses line, Limit limit.Subpasses 32)
    ∷ (has_many_uses line, Limit limit.Uses 64)
    ∷ (has_many_attachments line, Limit limit.Attachments 16)
    ∷ (has_many_batches line, Limit limit.Batches 64)
    ∷ (has_many_recs line, Limit limit.Recs 1024)
    ∷ (has_many_waits line, Limit limit.Waits 64)
    ∷ (has_many_signals line, Limit limit.Signals 64)
    ∷ (nat_lt 4000000 (size_with s line), Limit limit.Size 4000000)
    ∷ [])
