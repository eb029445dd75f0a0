-- What holds so far holds after each line that is not refused.
use Rattle.std.proofs.Common.{◌≡◌, ℕ, ◌+◌, ◌≤◌, List, [], ◌∷◌, Bool, true, false, not, Option, None, Some}
use Rattle.std.proofs.Common.{refl, sym, ◌∙◌, ap, subst, reverse, slice_index_or, All, IsTrue, is_none}
use Rattle.std.proofs.Common.{nat_lt, ◌==◌, Result, Ok, Err}
use Rattle.std.specs.Prelude.{⊤}
use Rattle.std.specs.List.{list_all}
use Rattle.std.proofs.lemmas.Bool.{or_parts, and_from}
use Rattle.std.proofs.lemmas.List.Elements.{All-head, All-tail}
use Rattle.sv_model.specs.declared.line.Batch.{Batch}
use Rattle.sv_model.specs.declared.line.Command.{Command}
use Rattle.sv_model.specs.declared.line.Command.TheVariants as command
use Rattle.sv_model.specs.declared.line.Line.{Line}
use Rattle.sv_model.specs.declared.line.Line.TheVariants as line
use Rattle.sv_model.specs.declared.line.Mark.{Mark}
use Rattle.sv_model.specs.declared.line.Recording.{Recording}
use Rattle.sv_model.specs.declared.line.Trace.{Trace}
use Rattle.sv_model.specs.Recordings.{scope_after}
use Rattle.sv_model.specs.Declarations.{recording_of, commands_in}
use Rattle.sv_model.specs.Holding.{is_published, are_published}
use Rattle.sv_model.specs.LawfulCommands.{IsOutside}
use Rattle.sv_model.specs.Size.{work_size, call_size}
use Rattle.sv_model.specs.declared.refusal.Fault.{Fault}
use Rattle.sv_model.specs.declared.refusal.Fault.TheVariants.{Refused, Memory}
use Rattle.sv_rules.specs.Causes.{rule_cause, Takes}
use Rattle.sv_trace.specs.Formed.{IsFormed}
use Rattle.sv_rules.specs.Laws.{IsLawfulNext}
use Rattle.sv_rules.specs.Limits as limits
use Rattle.sv_rules.specs.Named.{is_new_recording, is_declared_twice}
use Rattle.sv_rules.specs.Places as place
use Rattle.sv_rules.specs.Taken.{Taken, has_ended, standing_in, scope_in}
use Rattle.sv_rules.specs.Trace.{with_line, published, recorded}
use Rattle.sv_rules.specs.SoFar.{IsAmong, IsLawfulSoFar}
use Rattle.sv_rules.proofs.AfterBeginning.{after_beginning}
use Rattle.sv_rules.proofs.AfterCalling.{after_calling}
use Rattle.sv_rules.proofs.AfterCommand.{after_command}
use Rattle.sv_rules.proofs.AfterDeclaring.{after_nothing, after_queue, after_buffer, after_image}
use Rattle.sv_rules.proofs.AfterDeclaring.{after_semaphore, after_event, after_fence, after_pass}
use Rattle.sv_rules.proofs.AfterEnding.{after_ending}
use Rattle.sv_rules.proofs.EachLine.{lawful}
use Rattle.sv_rules.proofs.LawfulLines.{outside_of}
use Rattle.sv_rules.proofs.Lists.{found_passes}
use Rattle.sv_rules.proofs.Passing.{Passes, passes, are_declared, is_placed, first_none, few, none_at}
use Rattle.sv_rules.proofs.Passing.{not_false, same_number}

-- The number of lines and the size.

pub record Fits (s : Taken) (l : Line) : Type 0 where
  pub lines : s.lines + 1 ≤ 1000000
  pub size : work_size s.trace + call_size s.trace l ≤ 4000000

fits : (s : Taken) (l : Line) → limits.passed_limit s l ≡ None → Fits s l
unfolding limits.passed_limit limits.size_so_far limits.added_size
fits s l e =
    let n = first_none (nat_lt 1000000 (s.lines + 1)) _ _ e in
    let a = first_none (limits.has_many_accesses l) _ _ n.1 in
    let b = first_none (limits.has_many_deps l) _ _ a.1 in
    let c = first_none (limits.has_many_subpasses l) _ _ b.1 in
    let d = first_none (limits.has_many_uses l) _ _ c.1 in
    let f = first_none (limits.has_many_attachments l) _ _ d.1 in
    let g = first_none (limits.has_many_batches l) _ _ f.1 in
    let h = first_none (limits.has_many_recs l) _ _ g.1 in
    let i = first_none (limits.has_many_waits l) _ _ h.1 in
    let j = first_none (limits.has_many_signals l) _ _ i.1 in
    let k = first_none (nat_lt 4000000 (limits.size_with s l)) _ _ j.1 in
    record { lines = few 1000000 (s.lines + 1) n.0; size = few 4000000 (limits.size_with s l) k.0 }

-- Recordings.

open_yet : (t : Trace) (rec : ℕ) → has_ended t rec ≡ false → is_published t.text_order rec ≡ false
unfolding has_ended
open_yet t rec e = e

ended_before : (t : Trace) (rec : ℕ) → has_ended t rec ≡ true → IsAmong t.text_order rec
unfolding has_ended
ended_before t rec e = e

unfound : {X : Type 0} (o : Option X) → not (is_none o) ≡ false → o ≡ None
unfound None e = refl
unfound (Some x) e = absurd (let h : true ≡ false = e in cc)

new_recording : (t : Trace) (rec : ℕ) → not (is_new_recording t rec) ≡ false → recording_of t rec ≡ None
unfolding is_new_recording
new_recording t rec e = unfound (recording_of t rec) e

after_its_command : (s : Taken) (rec : ℕ) (c : Command) → IsLawfulSoFar s.lines s.trace → s.lines + 1
    ≤ 1000000 → has_ended s.trace rec ≡ false → IsLawfulNext s.trace rec c
    → IsLawfulSoFar (s.lines + 1) (recorded s.trace rec c)
after_its_command s rec c h fewer e next = after_command s.lines s.trace rec c h fewer
    (open_yet s.trace rec e) next

after_its_end : (lines : ℕ) (t : Trace) (rec : ℕ) → IsLawfulSoFar lines t → lines + 1 ≤ 1000000
    → is_published t.text_order rec ≡ false → IsOutside (scope_in t rec) → (o : Option Recording)
    → recording_of t rec ≡ o → is_none o ≡ false
    → IsLawfulSoFar (lines + 1) (published t o)
after_its_end lines t rec h fewer e outside None found some = absurd (let k : true ≡ false = some in cc)
after_its_end lines t rec h fewer e outside (Some r) found some =
    let same = same_number r.rec rec (found_passes (λ (x : Recording). x.rec == rec) t.recordings r found) in
    after_ending lines t r h fewer (ap (recording_of t) same ∙ found)
    (ap (is_published t.text_order) same ∙ e)
    (subst (λ (o : Option Recording). IsOutside (scope_after (reverse (commands_in o)))) found outside)

after_end_line : (s : Taken) (rec : ℕ) → IsLawfulSoFar s.lines s.trace → s.lines + 1 ≤ 1000000
    → Passes s (line.End rec) → IsLawfulSoFar (s.lines + 1) (with_line s.trace (line.End rec))
unfolding is_new_recording standing_in
after_end_line s rec h fewer p =
    let placed = is_placed s (line.End rec) p.place in
    after_its_end s.lines s.trace rec h fewer (open_yet s.trace rec placed.ended)
    (outside_of (scope_in s.trace rec) placed.end) (recording_of s.trace rec) refl
    (are_declared s.trace (line.End rec) p.declared).recording

-- Submits.

all_true : {X : Type 0} (test : X → Bool) (xs : List X) → All (λ x. test x ≡ true) xs → list_all test xs
    ≡ true
all_true test [] h = refl
all_true test (x ∷ xs) h = and_from (test x) (list_all test xs) (All-head (λ y. test y ≡ true) x xs h)
    (all_true test xs (All-tail (λ y. test y ≡ true) x xs h))

submitted : (s : Taken) (lane queue : ℕ) (batches : List Batch) (fence : Option ℕ)
    → Passes s (line.Submit lane queue batches fence)
    → All (λ (b : Batch). All (IsAmong s.trace.text_order) b.recs) batches
submitted s lane queue batches fence p i b lt k d within =
    ended_before s.trace (slice_index_or (slice_index_or batches i b).recs k d)
    (not_false (has_ended s.trace (slice_index_or (slice_index_or batches i b).recs k d))
    (or_parts _ _ (none_at (place.may_not_run s.trace queue) (slice_index_or batches i b).recs
    (none_at (place.batch_may_not_run s.trace queue) batches
    (is_placed s (line.Submit lane queue batches fence) p.place).submits i b lt) k d within)).0)

all_published : (marks : List Mark) (batches : List Batch)
    → All (λ (b : Batch). All (IsAmong marks) b.recs) batches → IsTrue (are_published marks batches)
all_published marks batches h = all_true (λ (b : Batch). list_all (is_published marks) b.recs) batches
    (λ i b lt. all_true (is_published marks) (slice_index_or batches i b).recs (h i b lt))

-- Line by line.

step : (s : Taken) (l : Line) → IsLawfulSoFar s.lines s.trace → Passes s l → IsFormed l → Fits s l
    → IsLawfulSoFar (s.lines + 1) (with_line s.trace l)
unfolding is_declared_twice
step s line.Blank h p formed f = after_nothing s.lines s.trace h f.lines
step s (line.Version number) h p formed f = after_nothing s.lines s.trace h f.lines
step s (line.Queue queue family lane) h p formed f =
    after_queue s.lines s.trace queue family lane h f.lines p.once
    (lawful s (line.Queue queue family lane) p formed)
step s (line.Buffer res size sharing) h p formed f =
    after_buffer s.lines s.trace res size sharing h f.lines p.once
    (lawful s (line.Buffer res size sharing) p formed)
step s (line.Image res mips layers initial sharing) h p formed f =
    after_image s.lines s.trace res mips layers initial sharing h f.lines p.once
    (lawful s (line.Image res mips layers initial sharing) p formed)
step s (line.Semaphore sem kind initial) h p formed f =
    after_semaphore s.lines s.trace sem kind initial h f.lines p.once
    (lawful s (line.Semaphore sem kind initial) p formed)
step s (line.Event event) h p formed f = after_event s.lines s.trace event h f.lines p.once
    (lawful s (line.Event event) p formed)
step s (line.Fence fence signaled) h p formed f =
    after_fence s.lines s.trace fence signaled h f.lines p.once
    (lawful s (line.Fence fence signaled) p formed)
step s (line.RenderPass pass attachments subpasses deps) h p formed f =
    after_pass s.lines s.trace pass attachments subpasses deps h f.lines p.once
    (lawful s (line.RenderPass pass attachments subpasses deps) p formed)
step s (line.Begin rec recorder family) h p formed f =
    after_beginning s.lines s.trace rec recorder family h f.lines
    (new_recording s.trace rec p.once) formed.0 formed.1 formed.2
step s (line.End rec) h p formed f = after_end_line s rec h f.lines p
step s (line.Work rec accesses) h p formed f = after_its_command s rec (command.Work accesses) h f.lines
    (is_placed s (line.Work rec accesses) p.place).ended (lawful s (line.Work rec accesses) p formed)
step s (line.Barrier rec deps) h p formed f = after_its_command s rec (command.Barrier deps) h f.lines
    (is_placed s (line.Barrier rec deps) p.place).ended (lawful s (line.Barrier rec deps) p formed)
step s (line.SetEvent rec event deps) h p formed f =
    after_its_command s rec (command.SetEvent event deps) h f.lines
    (is_placed s (line.SetEvent rec event deps) p.place).ended
    (lawful s (line.SetEvent rec event deps) p formed)
step s (line.WaitEvent rec event) h p formed f = after_its_command s rec (command.WaitEvent event) h f.lines
    (is_placed s (line.WaitEvent rec event) p.place).ended (lawful s (line.WaitEvent rec event) p formed)
step s (line.ResetEvent rec event) h p formed f =
    after_its_command s rec (command.ResetEvent event) h f.lines
    (is_placed s (line.ResetEvent rec event) p.place).ended (lawful s (line.ResetEvent rec event) p formed)
step s (line.BeginRendering rec attachments) h p formed f =
    after_its_command s rec (command.BeginRendering attachments) h f.lines
    (is_placed s (line.BeginRendering rec attachments) p.place).ended
    (lawful s (line.BeginRendering rec attachments) p formed)
step s (line.EndRendering rec) h p formed f = after_its_command s rec command.EndRendering h f.lines
    (is_placed s (line.EndRendering rec) p.place).ended (lawful s (line.EndRendering rec) p formed)
step s (line.BeginPass rec pass views) h p formed f =
    after_its_command s rec (command.BeginPass pass views) h f.lines
    (is_placed s (line.BeginPass rec pass views) p.place).ended
    (lawful s (line.BeginPass rec pass views) p formed)
step s (line.NextSubpass rec) h p formed f = after_its_command s rec command.NextSubpass h f.lines
    (is_placed s (line.NextSubpass rec) p.place).ended (lawful s (line.NextSubpass rec) p formed)
step s (line.EndPass rec) h p formed f = after_its_command s rec command.EndPass h f.lines
    (is_placed s (line.EndPass rec) p.place).ended (lawful s (line.EndPass rec) p formed)
step s (line.Submit lane queue batches fence) h p formed f =
    after_calling s.lines s.trace lane (line.Submit lane queue batches fence) h f.lines formed
    (lawful s (line.Submit lane queue batches fence) p formed)
    (submitted s lane queue batches fence p) (all_published s.trace.text_order batches
    (submitted s lane queue batches fence p)) f.size
step s (line.WaitFence lane fence) h p formed f =
    after_calling s.lines s.trace lane (line.WaitFence lane fence) h f.lines formed
    (lawful s (line.WaitFence lane fence) p formed) tt refl f.size
step s (line.ResetFence lane fence) h p formed f =
    after_calling s.lines s.trace lane (line.ResetFence lane fence) h f.lines formed
    (lawful s (line.ResetFence lane fence) p formed) tt refl f.size
step s (line.WaitQueue lane queue) h p formed f =
    after_calling s.lines s.trace lane (line.WaitQueue lane queue) h f.lines formed
    (lawful s (line.WaitQueue lane queue) p formed) tt refl f.size
step s (line.WaitDevice lane) h p formed f = after_calling s.lines s.trace lane
    (line.WaitDevice lane) h f.lines formed (lawful s (line.WaitDevice lane) p formed) tt refl f.size

pub after_line : (s : Taken) (l : Line) → IsLawfulSoFar s.lines s.trace → rule_cause s l ≡ None → IsFormed l
    → IsLawfulSoFar (s.lines + 1) (with_line s.trace l)
after_line s l h e formed =
    let p = passes s l e in
    step s l h p formed (fits s l p.limit)

-- what a checker answers to a line leaves the law
pub taken_keeps : (old new : Taken) (l : Line) (number : ℕ) (result : Result ⊤ Fault)
    → IsLawfulSoFar old.lines old.trace → IsFormed l → Takes old l number new result
    → IsLawfulSoFar new.lines new.trace
taken_keeps old new l number (Ok u) h formed takes =
    subst (λ (s : Taken). IsLawfulSoFar s.lines s.trace) (sym takes.1) (after_line old l h takes.0 formed)
taken_keeps old new l number (Err (Refused refusal)) h formed takes =
    subst (λ (s : Taken). IsLawfulSoFar s.lines s.trace) (sym takes.2) h
taken_keeps old new l number (Err Memory) h formed takes =
    subst (λ (s : Taken). IsLawfulSoFar s.lines s.trace) (sym takes) h
