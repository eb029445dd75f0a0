-- The lowering, the standing and the size of a recording with one more command.
use Rattle.std.proofs.Common.{◌≡◌, ℕ, ◌+◌, ◌-◌, ◌<◌, ◌≤◌, ◌^◌, List, [], ◌∷◌, ◌++◌, true, Option, None}
use Rattle.std.proofs.Common.{Some, refl, sym, ◌∙◌, ap, arith, length, min, sum_by}
use Rattle.std.proofs.lemmas.List.{reverse-append}
use Rattle.std.proofs.lemmas.List.Sums.{sum_by-append}
use Rattle.std.specs.Prelude.{reverse}
use Rattle.sv_model.specs.declared.line.Command.{Command}
use Rattle.sv_model.specs.declared.line.Command.TheVariants as command
use Rattle.sv_model.specs.declared.line.Recording.{Recording}
use Rattle.sv_model.specs.declared.line.Trace.{Trace}
use Rattle.sv_model.specs.declared.work.Here.{Here}
use Rattle.sv_model.specs.declared.work.PassPoint.TheVariants.{Begin, Next, End}
use Rattle.sv_model.specs.Recordings.{Scope, Outside, InRendering, InPass, scope_after, next_scope}
use Rattle.sv_model.specs.Recordings.{here_after, steps_of, lower, followed, lowered, next_subpass}
use Rattle.sv_model.specs.Recordings.{end_pass}
use Rattle.sv_model.specs.Declarations.{Pass, is_pass, pass_of}
use Rattle.sv_model.specs.LawfulCommands.{IsLawfulCommand}
use Rattle.sv_model.specs.Positions.{numbered_steps}
use Rattle.sv_model.specs.Passes.{pass_steps}
use Rattle.sv_model.specs.Size.{step_size}
use Rattle.sv_lines.specs.declared.measure.PassSizes.{PassSizes}
use Rattle.sv_rules.specs.declared.standing.Standing.TheVariants as standing
use Rattle.sv_lines.specs.Following.{next_standing, standing_after}
use Rattle.sv_lines.specs.KnownParts.{with_one_more}
use Rattle.sv_lines.specs.Measures.{HasMeasure}
use Rattle.sv_lines.specs.Sound.{IsFitScope, KeepsPasses, passes_only}
use Rattle.sv_rules.specs.Standings.{standing_of}
use Rattle.sv_lines.proofs.Numbering.{numbered_size}

-- The steps of a command rest on declared passes.

next_kept : (t u : Trace) → KeepsPasses t u → (here : Here) (scope : Scope) → IsFitScope t scope
    → next_subpass u here scope ≡ next_subpass t here scope
next_kept t u keeps here Outside fit = refl
next_kept t u keeps here (InRendering attachments) fit = refl
next_kept t u keeps here (InPass pass views i) fit =
    ap (λ (p : Pass). pass_steps p views (Next (i + 1)) here) (keeps pass fit.0)

end_kept : (t u : Trace) → KeepsPasses t u → (here : Here) (scope : Scope) → IsFitScope t scope
    → end_pass u here scope ≡ end_pass t here scope
end_kept t u keeps here Outside fit = refl
end_kept t u keeps here (InRendering attachments) fit = refl
end_kept t u keeps here (InPass pass views i) fit =
    ap (λ (p : Pass). pass_steps p views End here) (keeps pass fit.0)

steps_kept : (t u : Trace) → KeepsPasses t u → (family : ℕ) (here : Here) (scope : Scope) (c : Command)
    → IsFitScope t scope → IsLawfulCommand t family scope c → steps_of u here scope c
    ≡ steps_of t here scope c
steps_kept t u keeps family here scope (command.Work accesses) fit lawful = refl
steps_kept t u keeps family here scope (command.Barrier deps) fit lawful = refl
steps_kept t u keeps family here scope (command.SetEvent event deps) fit lawful = refl
steps_kept t u keeps family here scope (command.WaitEvent event) fit lawful = refl
steps_kept t u keeps family here scope (command.ResetEvent event) fit lawful = refl
steps_kept t u keeps family here scope (command.BeginRendering attachments) fit lawful = refl
steps_kept t u keeps family here scope command.EndRendering fit lawful = refl
steps_kept t u keeps family here scope (command.BeginPass pass views) fit lawful =
    ap (λ (p : Pass). pass_steps p views Begin here) (keeps pass lawful.declared)
steps_kept t u keeps family here scope command.NextSubpass fit lawful = next_kept t u keeps here scope fit
steps_kept t u keeps family here scope command.EndPass fit lawful = end_kept t u keeps here scope fit

-- The scope after it.

next_fits : (t : Trace) (scope : Scope) → IsFitScope t scope → IsFitScope t (next_scope scope)
next_fits t Outside fit = tt
next_fits t (InRendering attachments) fit = tt
next_fits t (InPass pass views i) fit = fit

pub scope_fits : (t : Trace) (family : ℕ) (c : Command) (before : List Command)
    → IsFitScope t (scope_after before) → IsLawfulCommand t family (scope_after before) c
    → IsFitScope t (scope_after (c ∷ before))
scope_fits t family (command.Work accesses) before fit lawful = fit
scope_fits t family (command.Barrier deps) before fit lawful = fit
scope_fits t family (command.SetEvent event deps) before fit lawful = fit
scope_fits t family (command.WaitEvent event) before fit lawful = fit
scope_fits t family (command.ResetEvent event) before fit lawful = fit
scope_fits t family (command.BeginRendering attachments) before fit lawful = tt
scope_fits t family command.EndRendering before fit lawful = tt
scope_fits t family (command.BeginPass pass views) before fit lawful = (lawful.declared, lawful.count)
scope_fits t family command.NextSubpass before fit lawful = next_fits t (scope_after before) fit
scope_fits t family command.EndPass before fit lawful = tt

-- Where the next command stands.

few_subpasses : (p : Pass) (o : Option PassSizes) → HasMeasure p o → length p.subpasses ≤ 32
few_subpasses p None h = absurd h
few_subpasses p (Some m) h = h.few

next_stands : (t : Trace) (sizes : ℕ → Option PassSizes)
    → ((n : ℕ) → is_pass t n ≡ true → HasMeasure (pass_of t n) (sizes n)) → (family : ℕ) (scope : Scope)
    → IsFitScope t scope → IsLawfulCommand t family scope command.NextSubpass
    → next_standing (standing_of scope) ≡ standing_of (next_scope scope)
next_stands t sizes measured family Outside fit lawful = refl
next_stands t sizes measured family (InRendering attachments) fit lawful = refl
next_stands t sizes measured family (InPass pass views i) fit lawful =
    let few = few_subpasses (pass_of t pass) (sizes pass) (measured pass fit.0) in
    ap (standing.InPass pass) (fits i (length (pass_of t pass).subpasses) lawful few)
  where
    fits : (i n : ℕ) → i + 1 < n → n ≤ 32 → min (i + 1) (2 ^ 32 - 1) ≡ i + 1
    fits i n below few = omega arith

pub stands_after : (t : Trace) (sizes : ℕ → Option PassSizes)
    → ((n : ℕ) → is_pass t n ≡ true → HasMeasure (pass_of t n) (sizes n))
    → (family : ℕ) (c : Command) (before : List Command)
    → IsFitScope t (scope_after before) → IsLawfulCommand t family (scope_after before) c
    → standing_after (standing_of (scope_after before)) c ≡ standing_of (scope_after (c ∷ before))
stands_after t sizes measured family (command.Work accesses) before fit lawful = refl
stands_after t sizes measured family (command.Barrier deps) before fit lawful = refl
stands_after t sizes measured family (command.SetEvent event deps) before fit lawful = refl
stands_after t sizes measured family (command.WaitEvent event) before fit lawful = refl
stands_after t sizes measured family (command.ResetEvent event) before fit lawful = refl
stands_after t sizes measured family (command.BeginRendering attachments) before fit lawful = refl
stands_after t sizes measured family command.EndRendering before fit lawful = refl
stands_after t sizes measured family (command.BeginPass pass views) before fit lawful = refl
stands_after t sizes measured family command.NextSubpass before fit lawful =
    next_stands t sizes measured family (scope_after before) fit lawful
stands_after t sizes measured family command.EndPass before fit lawful = refl

-- The steps.

pub reverse_more : (xs : List Command) (c : Command) → reverse (xs ++ c ∷ []) ≡ c ∷ reverse xs
reverse_more xs c = reverse-append xs (c ∷ [])

lowered_longer : (u : Trace) (r : Recording) (c : Command) (cs : List Command)
    → lowered u (with_one_more c r) cs ≡ lowered u r cs
unfolding lowered
lowered_longer u r c [] = refl
lowered_longer u r c (y ∷ before) = ap (λ steps. followed u r y before steps) (lowered_longer u r c before)

lowered_step : (u : Trace) (r : Recording) (c : Command) (before : List Command)
    → lowered u (with_one_more c r) (c ∷ before) ≡ followed u r c before (lowered u r before)
unfolding lowered
lowered_step u r c before = ap (λ steps. followed u r c before steps) (lowered_longer u r c before)

pub lowered_more : (u : Trace) (r : Recording) (c : Command)
    → lowered u (with_one_more c r) (reverse (r.commands ++ c ∷ []))
    ≡ followed u r c (reverse r.commands) (lowered u r (reverse r.commands))
lowered_more u r c = ap (lowered u (with_one_more c r)) (reverse_more r.commands c)
    ∙ lowered_step u r c (reverse r.commands)

-- by the same steps before, in traces that have the same declared passes
pub more_kept : (t u : Trace) → KeepsPasses t u → (r : Recording) (c : Command)
    → IsFitScope t (scope_after (reverse r.commands))
    → IsLawfulCommand t r.family (scope_after (reverse r.commands)) c
    → lowered u r (reverse r.commands) ≡ lowered (passes_only t) r (reverse r.commands)
    → lowered u (with_one_more c r) (reverse (r.commands ++ c ∷ []))
    ≡ lowered (passes_only t) (with_one_more c r) (reverse (r.commands ++ c ∷ []))
more_kept t u keeps r c fit lawful same =
    lowered_more u r c
    ∙ ap (λ steps. followed u r c (reverse r.commands) steps) same
    ∙ ap (λ more. lowered (passes_only t) r (reverse r.commands)
    ++ numbered_steps (length (lowered (passes_only t) r (reverse r.commands))) more)
    (steps_kept t u keeps r.family (here_after r c (reverse r.commands)
    (length (lowered (passes_only t) r (reverse r.commands))))
    (scope_after (reverse r.commands)) c fit lawful
    ∙ sym (steps_kept t (passes_only t) (λ n e. refl) r.family
    (here_after r c (reverse r.commands) (length (lowered (passes_only t) r (reverse r.commands))))
    (scope_after (reverse r.commands)) c fit lawful))
    ∙ sym (lowered_more (passes_only t) r c)

-- where the new command stands
abbrev pub here_next : Trace → Recording → Command → Here
here_next t r c = here_after r c (reverse r.commands)
    (length (lowered (passes_only t) r (reverse r.commands)))

pub size_more : (t : Trace) (r : Recording) (c : Command) → IsFitScope t (scope_after (reverse r.commands))
    → IsLawfulCommand t r.family (scope_after (reverse r.commands)) c
    → sum_by step_size (lowered (passes_only t) (with_one_more c r) (reverse (r.commands ++ c ∷ [])))
    ≡ sum_by step_size (lowered (passes_only t) r (reverse r.commands))
    + sum_by step_size (steps_of t (here_next t r c) (scope_after (reverse r.commands)) c)
size_more t r c fit lawful =
    ap (sum_by step_size) (lowered_more (passes_only t) r c)
    ∙ sum_by-append step_size (lowered (passes_only t) r (reverse r.commands))
    (lower (passes_only t) (here_next t r c) (scope_after (reverse r.commands)) c)
    ∙ ap (λ n. sum_by step_size (lowered (passes_only t) r (reverse r.commands)) + n)
    (numbered_size (length (lowered (passes_only t) r (reverse r.commands)))
    (steps_of (passes_only t) (here_next t r c) (scope_after (reverse r.commands)) c)
    ∙ ap (sum_by step_size) (steps_kept t (passes_only t) (λ n e. refl) r.family (here_next t r c)
    (scope_after (reverse r.commands)) c fit lawful))
