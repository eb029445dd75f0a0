-- The size of a lawful trace stays where the trace grows, but for recordings that get commands.
use Rattle.std.proofs.Common.{◌≡◌, ℕ, ◌+◌, ◌<◌, List, [], ◌∷◌, ◌++◌, Option, None, Some, refl, ◌∙◌, ap}
use Rattle.std.proofs.Common.{subst, length, sum_by, reverse, slice_index_or, All}
use Rattle.std.proofs.lemmas.List.{get_or_default}
use Rattle.sv_model.specs.declared.line.Line.{Line}
use Rattle.sv_model.specs.declared.line.Line.TheVariants as line
use Rattle.sv_model.specs.declared.line.Batch.{Batch}
use Rattle.sv_model.specs.declared.line.Command.{Command}
use Rattle.sv_model.specs.declared.line.Command.TheVariants as command
use Rattle.sv_model.specs.declared.line.Recording.{Recording}
use Rattle.sv_model.specs.declared.line.Trace.{Trace}
use Rattle.sv_model.specs.declared.work.Here.{Here}
use Rattle.sv_model.specs.declared.work.PassPoint.TheVariants.{Begin, Next, End}
use Rattle.sv_model.specs.Declarations.{Pass}
use Rattle.sv_model.specs.Positions.{numbered_steps}
use Rattle.sv_model.specs.Passes.{pass_steps}
use Rattle.sv_model.specs.Recordings.{Scope, Outside, InRendering, InPass, scope_after, here_after}
use Rattle.sv_model.specs.Recordings.{steps_of, followed, lowered, steps_in, next_subpass, end_pass}
use Rattle.sv_model.specs.LawfulCommands.{IsBeforeLast, IsInLast, IsLawfulCommand, AreLawful}
use Rattle.sv_model.specs.Size.{step_size, recording_size, batch_size, fence_size, call_size}
use Rattle.sv_rules.specs.SoFar.{NamesAll}
use Rattle.sv_rules.proofs.Growth.{Grows, same_pass, declared_pass_same, no_more, not_last}
use Rattle.sv_rules.proofs.Lists.{Holds, sums_same}

next_same : (t u : Trace) → Grows t u → (here : Here) (scope : Scope) → IsBeforeLast t scope
    → next_subpass u here scope ≡ next_subpass t here scope
next_same t u g here Outside h = refl
next_same t u g here (InRendering attachments) h = refl
next_same t u g here (InPass pass views i) h =
    ap (λ (p : Pass). pass_steps p views (Next (i + 1)) here)
    (same_pass t u g (λ (p : Pass). i + 1 < length p.subpasses) pass (no_more (i + 1)) h)

end_same : (t u : Trace) → Grows t u → (here : Here) (scope : Scope) → IsInLast t scope
    → end_pass u here scope ≡ end_pass t here scope
end_same t u g here Outside h = refl
end_same t u g here (InRendering attachments) h = refl
end_same t u g here (InPass pass views i) h =
    ap (λ (p : Pass). pass_steps p views End here)
    (same_pass t u g (λ (p : Pass). i + 1 ≡ length p.subpasses) pass (not_last i) h)

steps_same : (t u : Trace) → Grows t u → (family : ℕ) (here : Here) (scope : Scope) (c : Command)
    → IsLawfulCommand t family scope c → steps_of u here scope c ≡ steps_of t here scope c
steps_same t u g family here scope (command.Work accesses) h = refl
steps_same t u g family here scope (command.Barrier deps) h = refl
steps_same t u g family here scope (command.SetEvent event deps) h = refl
steps_same t u g family here scope (command.WaitEvent event) h = refl
steps_same t u g family here scope (command.ResetEvent event) h = refl
steps_same t u g family here scope (command.BeginRendering attachments) h = refl
steps_same t u g family here scope command.EndRendering h = refl
steps_same t u g family here scope (command.BeginPass pass views) h =
    ap (λ (p : Pass). pass_steps p views Begin here) (declared_pass_same t u g pass h.declared)
steps_same t u g family here scope command.NextSubpass h = next_same t u g here scope h
steps_same t u g family here scope command.EndPass h = end_same t u g here scope h

-- the lowering of lawful commands
pub lowered_same : (t u : Trace) → Grows t u → (r : Recording) (family : ℕ) (cs : List Command)
    → AreLawful t family cs → lowered u r cs ≡ lowered t r cs
unfolding lowered
lowered_same t u g r family [] h = refl
lowered_same t u g r family (c ∷ before) h =
    ap (λ steps. followed u r c before steps) (lowered_same t u g r family before h.1)
    ∙ ap (λ more. lowered t r before ++ numbered_steps (length (lowered t r before)) more)
    (steps_same t u g family (here_after r c before (length (lowered t r before))) (scope_after before) c h.0)

abbrev pub CommandsAreLawful : Trace → Recording → Type 0
CommandsAreLawful t r = AreLawful t r.family (reverse r.commands)

pub found_size_same : (t u : Trace) → Grows t u → (o : Option Recording) → Holds (CommandsAreLawful t) o
    → sum_by step_size (steps_in u o) ≡ sum_by step_size (steps_in t o)
found_size_same t u g None h = refl
found_size_same t u g (Some r) h = ap (sum_by step_size)
    (lowered_same t u g r r.family (reverse r.commands) h)

-- Calls, by the recordings that they name.

pub names_all : (P : ℕ → Type 0) → ((k : ℕ) → P k) → (l : Line) → NamesAll P l
names_all P h (line.Submit lane queue batches fence) =
    λ i b lt k d within. h (slice_index_or (slice_index_or batches i b).recs k d)
names_all P h other = tt

pub names_weaker : (P Q : ℕ → Type 0) → ((k : ℕ) → P k → Q k) → (l : Line) → NamesAll P l → NamesAll Q l
names_weaker P Q f (line.Submit lane queue batches fence) h =
    λ i b lt k d within. f (slice_index_or (slice_index_or batches i b).recs k d) (h i b lt k d within)
names_weaker P Q f other h = tt

abbrev pub IsAsLarge : Trace → Trace → ℕ → Type 0
IsAsLarge t u k = recording_size u k ≡ recording_size t k

batch_same : (t u : Trace) (b : Batch) → All (IsAsLarge t u) b.recs → batch_size u b ≡ batch_size t b
batch_same t u b h = ap (λ n. 1 + length b.waits + n + length b.signals)
    (sums_same (recording_size u) (recording_size t) b.recs h)

call_same : (t u : Trace) (l : Line) → NamesAll (IsAsLarge t u) l → call_size u l ≡ call_size t l
call_same t u (line.Submit lane queue batches fence) h =
    ap (λ n. n + fence_size fence) (sums_same (batch_size u) (batch_size t) batches
    (λ i b lt. batch_same t u (slice_index_or batches i b) (h i b lt)))
call_same t u (line.WaitFence lane fence) h = refl
call_same t u (line.WaitQueue lane queue) h = refl
call_same t u (line.WaitDevice lane) h = refl
call_same t u (line.ResetFence lane fence) h = refl
call_same t u _ h = refl

-- the size of the calls of these scripts
abbrev pub calls_size : Trace → List (List Line) → ℕ
calls_size t scripts = sum_by (λ (script : List Line). sum_by (call_size t) script) scripts

pub each_of_scripts : {X : Type 0} (P : X → Type 0) (scripts : List (List X))
    → ((k : ℕ) → All P (slice_index_or scripts k [])) → All (All P) scripts
each_of_scripts P scripts h k d lt = subst (All P) (get_or_default scripts k [] d lt) (h k)

pub calls_same : (t u : Trace) (scripts : List (List Line))
    → ((lane : ℕ) → All (NamesAll (IsAsLarge t u)) (slice_index_or scripts lane [])) → calls_size u scripts
    ≡ calls_size t scripts
calls_same t u scripts h =
    sums_same (λ (script : List Line). sum_by (call_size u) script)
    (λ (script : List Line). sum_by (call_size t) script) scripts
    (λ k d lt. sums_same (call_size u) (call_size t) (slice_index_or scripts k d)
    (λ i l within. call_same t u (slice_index_or (slice_index_or scripts k d) i l)
    (each_of_scripts (NamesAll (IsAsLarge t u)) scripts h k d lt i l within)))
