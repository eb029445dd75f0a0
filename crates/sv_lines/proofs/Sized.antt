-- The size of a trace rests on its passes, its recordings and its calls alone.
use Rattle.std.proofs.Common.{◌≡◌, ℕ, ◌+◌, List, [], ◌∷◌, ◌++◌, length, Option, None, Some, refl, ◌∙◌, ap}
use Rattle.std.proofs.Common.{sum_by, reverse}
use Rattle.std.proofs.lemmas.List.Recursion.{is_sum_by}
use Rattle.std.proofs.lemmas.List.Sums.{sum_by-cons}
use Rattle.sv_model.specs.declared.line.Trace.{Trace}
use Rattle.sv_model.specs.declared.line.Batch.{Batch}
use Rattle.sv_model.specs.declared.line.Line.{Line}
use Rattle.sv_model.specs.declared.line.Line.TheVariants as line
use Rattle.sv_model.specs.declared.line.Recording.{Recording}
use Rattle.sv_model.specs.declared.line.Command.{Command}
use Rattle.sv_model.specs.declared.line.Command.TheVariants as command
use Rattle.sv_model.specs.declared.work.Here.{Here}
use Rattle.sv_model.specs.declared.work.PassPoint.TheVariants.{Begin, Next, End}
use Rattle.sv_model.specs.Passes.{pass_steps}
use Rattle.sv_model.specs.Positions.{numbered_steps}
use Rattle.sv_model.specs.Declarations.{Pass, pass_of, recording_of, said, says_pass, empty_pass}
use Rattle.std.specs.Prelude.{unwrap_or}
use Rattle.sv_model.specs.Recordings.{Scope, Outside, InRendering, InPass, scope_after, here_after}
use Rattle.sv_model.specs.Recordings.{steps_of, followed, lowered, steps_in, next_subpass, end_pass}
use Rattle.sv_model.specs.Size.{step_size, recording_size, batch_size, fence_size, call_size, work_size}
use Rattle.sv_lines.specs.Sound.{passes_only, sized_part}

-- two traces with the same passes
abbrev pub SamePasses : Trace → Trace → Type 0
SamePasses t u = (n : ℕ) → pass_of u n ≡ pass_of t n

pub same_passes : (t u : Trace) → u.passes ≡ t.passes → SamePasses t u
same_passes t u e n = ap (λ lines. unwrap_or (said (says_pass n) lines) empty_pass) e

next_same : (t u : Trace) → SamePasses t u → (here : Here) (scope : Scope) → next_subpass u here scope
    ≡ next_subpass t here scope
next_same t u e here Outside = refl
next_same t u e here (InRendering attachments) = refl
next_same t u e here (InPass pass views i) = ap (λ (p : Pass). pass_steps p views (Next (i + 1)) here)
    (e pass)

end_same : (t u : Trace) → SamePasses t u → (here : Here) (scope : Scope) → end_pass u here scope
    ≡ end_pass t here scope
end_same t u e here Outside = refl
end_same t u e here (InRendering attachments) = refl
end_same t u e here (InPass pass views i) = ap (λ (p : Pass). pass_steps p views End here) (e pass)

steps_same : (t u : Trace) → SamePasses t u → (here : Here) (scope : Scope) (c : Command)
    → steps_of u here scope c ≡ steps_of t here scope c
steps_same t u e here scope (command.Work accesses) = refl
steps_same t u e here scope (command.Barrier deps) = refl
steps_same t u e here scope (command.SetEvent event deps) = refl
steps_same t u e here scope (command.WaitEvent event) = refl
steps_same t u e here scope (command.ResetEvent event) = refl
steps_same t u e here scope (command.BeginRendering attachments) = refl
steps_same t u e here scope command.EndRendering = refl
steps_same t u e here scope (command.BeginPass pass views) =
    ap (λ (p : Pass). pass_steps p views Begin here) (e pass)
steps_same t u e here scope command.NextSubpass = next_same t u e here scope
steps_same t u e here scope command.EndPass = end_same t u e here scope

pub lowered_same : (t u : Trace) → SamePasses t u → (r : Recording) (cs : List Command) → lowered u r cs
    ≡ lowered t r cs
unfolding lowered
lowered_same t u e r [] = refl
lowered_same t u e r (c ∷ before) =
    ap (λ steps. followed u r c before steps) (lowered_same t u e r before)
    ∙ ap (λ more. lowered t r before ++ numbered_steps (length (lowered t r before)) more)
    (steps_same t u e (here_after r c before (length (lowered t r before))) (scope_after before) c)

-- the size of a recording by what is found of it
pub recording_same : (t u : Trace) → SamePasses t u → (o : Option Recording)
    → sum_by step_size (steps_in u o) ≡ sum_by step_size (steps_in t o)
recording_same t u e None = refl
recording_same t u e (Some r) = ap (sum_by step_size) (lowered_same t u e r (reverse r.commands))

-- sums of functions that agree
pub sums_same : {A : Type 0} (f g : A → ℕ) → ((x : A) → f x ≡ g x) → (xs : List A) → sum_by f xs ≡ sum_by g xs
sums_same f g e xs = is_sum_by (sum_by f) g refl (λ x ys. sum_by-cons f x ys
    ∙ ap (λ n. n + sum_by f ys) (e x)) xs

batch_same : (t u : Trace) → ((k : ℕ) → recording_size u k ≡ recording_size t k) → (b : Batch)
    → batch_size u b ≡ batch_size t b
batch_same t u e b = ap (λ n. 1 + length b.waits + n + length b.signals)
    (sums_same (recording_size u) (recording_size t) e b.recs)

pub call_same : (t u : Trace) → ((k : ℕ) → recording_size u k ≡ recording_size t k) → (l : Line)
    → call_size u l ≡ call_size t l
call_same t u e (line.Submit lane queue batches fence) =
    ap (λ n. n + fence_size fence) (sums_same (batch_size u) (batch_size t) (batch_same t u e) batches)
call_same t u e (line.WaitFence lane fence) = refl
call_same t u e (line.WaitQueue lane queue) = refl
call_same t u e (line.WaitDevice lane) = refl
call_same t u e (line.ResetFence lane fence) = refl
call_same t u e _ = refl

pub work_same : (t u : Trace) → ((k : ℕ) → recording_size u k ≡ recording_size t k)
    → (scripts : List (List Line))
    → sum_by (λ (script : List Line). sum_by (call_size u) script) scripts
    ≡ sum_by (λ (script : List Line). sum_by (call_size t) script) scripts
work_same t u e scripts = sums_same (λ (script : List Line). sum_by (call_size u) script)
    (λ (script : List Line). sum_by (call_size t) script)
    (λ script. sums_same (call_size u) (call_size t) (call_same t u e) script) scripts

pub size_of_part : (t : Trace) → work_size (sized_part t) ≡ work_size t
size_of_part t = work_same t (sized_part t) (λ k. recording_same t (sized_part t)
    (same_passes t (sized_part t) refl) (recording_of t k)) t.lane_scripts

pub lowered_only : (t : Trace) (r : Recording) → lowered (passes_only t) r (reverse r.commands)
    ≡ lowered t r (reverse r.commands)
lowered_only t r = lowered_same t (passes_only t) (same_passes t (passes_only t) refl) r (reverse r.commands)
