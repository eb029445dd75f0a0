-- What the rules leave of each line that is not refused, as far as it is kept.
use Rattle.std.proofs.Common.{◌≡◌, ℕ, ◌+◌, ◌<◌, ◌≤◌, List, Bool, true, false, ◌||◌, Option, None, refl, sym}
use Rattle.std.proofs.Common.{◌∙◌, ap, arith, length}
use Rattle.std.proofs.lemmas.Bool.{or_parts}
use Rattle.std.specs.Prelude.{nat_lt}
use Rattle.sv_mask.specs.declared.layout.Layout.{Layout}
use Rattle.sv_model.specs.declared.line.Line.{Line}
use Rattle.sv_model.specs.declared.line.Line.TheVariants as line
use Rattle.sv_model.specs.declared.line.PassAttachment.{PassAttachment}
use Rattle.sv_model.specs.declared.line.PassDep.{PassDep}
use Rattle.sv_model.specs.declared.line.PassUse.{PassUse}
use Rattle.sv_model.specs.declared.line.SemKind.{SemKind}
use Rattle.sv_model.specs.declared.line.Sharing.{Sharing}
use Rattle.sv_model.specs.declared.line.Trace.{Trace}
use Rattle.sv_rules.specs.Causes.{rule_cause}
use Rattle.sv_rules.specs.Limits as limits
use Rattle.sv_rules.specs.Named.{is_declared_twice, is_new_queue, is_new_resource, is_new_semaphore}
use Rattle.sv_rules.specs.Named.{is_new_event, is_new_fence, is_new_pass, is_new_recording}
use Rattle.sv_rules.specs.Named.{goes_on_in_new_recording}
use Rattle.sv_rules.specs.Places as place
use Rattle.sv_rules.specs.Taken.{Taken}
use Rattle.sv_rules.proofs.Passing.{passes, are_declared, is_placed, is_limited, few, first_none, not_false}

line_room : (s : Taken) (l : Line) → limits.passed_limit s l ≡ None → s.lines < 1000000
unfolding limits.passed_limit
line_room s l e = let room = few 1000000 (s.lines + 1) (first_none (nat_lt 1000000 (s.lines + 1)) _ _ e).0
    in omega (arith, room)

pub few_lines : (s : Taken) (l : Line) → rule_cause s l ≡ None → s.lines < 1000000
few_lines s l e = line_room s l (passes s l e).limit

-- Declared once.

pub queue_first : (s : Taken) (n family lane : ℕ) → rule_cause s (line.Queue n family lane) ≡ None
    → is_new_queue s.trace n ≡ true
unfolding is_declared_twice
queue_first s n family lane e = not_false (is_new_queue s.trace n)
    (passes s (line.Queue n family lane) e).once

pub buffer_first : (s : Taken) (n size : ℕ) (sharing : Sharing) → rule_cause s (line.Buffer n size sharing)
    ≡ None → is_new_resource s.trace n ≡ true
unfolding is_declared_twice
buffer_first s n size sharing e = not_false (is_new_resource s.trace n)
    (passes s (line.Buffer n size sharing) e).once

pub image_first : (s : Taken) (n mips layers : ℕ) (initial : Layout) (sharing : Sharing)
    → rule_cause s (line.Image n mips layers initial sharing) ≡ None → is_new_resource s.trace n ≡ true
unfolding is_declared_twice
image_first s n mips layers initial sharing e = not_false (is_new_resource s.trace n)
    (passes s (line.Image n mips layers initial sharing) e).once

pub semaphore_first : (s : Taken) (n : ℕ) (kind : SemKind) (initial : Option ℕ)
    → rule_cause s (line.Semaphore n kind initial) ≡ None → is_new_semaphore s.trace n ≡ true
unfolding is_declared_twice
semaphore_first s n kind initial e = not_false (is_new_semaphore s.trace n)
    (passes s (line.Semaphore n kind initial) e).once

pub event_first : (s : Taken) (n : ℕ) → rule_cause s (line.Event n) ≡ None → is_new_event s.trace n ≡ true
unfolding is_declared_twice
event_first s n e = not_false (is_new_event s.trace n) (passes s (line.Event n) e).once

pub fence_first : (s : Taken) (n : ℕ) (signaled : Bool) → rule_cause s (line.Fence n signaled) ≡ None
    → is_new_fence s.trace n ≡ true
unfolding is_declared_twice
fence_first s n signaled e = not_false (is_new_fence s.trace n) (passes s (line.Fence n signaled) e).once

pub pass_first : (s : Taken) (n : ℕ) (a : List PassAttachment) (u : List (List PassUse)) (d : List PassDep)
    → rule_cause s (line.RenderPass n a u d) ≡ None → is_new_pass s.trace n ≡ true
unfolding is_declared_twice
pass_first s n a u d e = not_false (is_new_pass s.trace n) (passes s (line.RenderPass n a u d) e).once

pub pass_attachments : (s : Taken) (n : ℕ) (a : List PassAttachment) (u : List (List PassUse))
    (d : List PassDep) → rule_cause s (line.RenderPass n a u d) ≡ None → length a ≤ 16
pass_attachments s n a u d e = few 16 (length a) (is_limited s (line.RenderPass n a u d)
    (passes s (line.RenderPass n a u d) e).limit).attachments

pub pass_subpasses : (s : Taken) (n : ℕ) (a : List PassAttachment) (u : List (List PassUse))
    (d : List PassDep) → rule_cause s (line.RenderPass n a u d) ≡ None → length u ≤ 32
pass_subpasses s n a u d e = few 32 (length u) (is_limited s (line.RenderPass n a u d)
    (passes s (line.RenderPass n a u d) e).limit).subpasses

-- Recordings.

pub recording_first : (s : Taken) (rec recorder family : ℕ) → rule_cause s (line.Begin rec recorder family)
    ≡ None → is_new_recording s.trace rec ≡ true
unfolding is_declared_twice
recording_first s rec recorder family e = not_false (is_new_recording s.trace rec)
    (passes s (line.Begin rec recorder family) e).once

no_second : (s : Taken) (l : Line) → place.is_misplaced s l ≡ false → place.begins_second s.trace l ≡ false
unfolding place.is_misplaced
no_second s l e =
    let a = or_parts _ _ e in
    let b = or_parts _ _ a.0 in
    let c = or_parts _ _ b.0 in
    let d = or_parts _ _ c.0 in
    let f = or_parts _ _ d.0 in
    let g = or_parts _ _ f.0 in
    let h = or_parts _ _ g.0 in
    let i = or_parts _ _ h.0 in
    let j = or_parts _ _ i.0 in
    let k = or_parts _ _ j.0 in
    (or_parts _ _ k.0).1

pub recorder_idle : (s : Taken) (rec recorder family : ℕ) → rule_cause s (line.Begin rec recorder family)
    ≡ None → place.is_recording s.trace recorder ≡ false
recorder_idle s rec recorder family e = no_second s (line.Begin rec recorder family)
    (passes s (line.Begin rec recorder family) e).place

-- a command, or an end, of a recording that is open
pub goes_on : (s : Taken) (l : Line) → rule_cause s l ≡ None → goes_on_in_new_recording s.trace l ≡ false
goes_on s l e = (are_declared s.trace l (passes s l e).declared).recording

pub before_end : (s : Taken) (l : Line) → rule_cause s l ≡ None → place.comes_after_end s.trace l ≡ false
before_end s l e = (is_placed s l (passes s l e).place).ended

pub submits_ended : (s : Taken) (l : Line) → rule_cause s l ≡ None → place.submits_wrongly s.trace l ≡ false
submits_ended s l e = (is_placed s l (passes s l e).place).submits

-- What is taken.

or_true : (b : Bool) → (b || true) ≡ true
or_true true = refl
or_true false = refl

pub written : (s : Taken) (t : Trace) (n : Taken) → n
    ≡ record { lines = s.lines + 1; begun = true; trace = t } → n
    ≡ record { lines = s.lines + 1; begun = s.begun || true; trace = t }
written s t n e = e ∙ ap (λ (b : Bool). let taken : Taken =
    record { lines = s.lines + 1; begun = b; trace = t } in taken) (sym (or_true s.begun))
