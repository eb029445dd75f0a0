-- A line that is not refused is lawful in the trace of the lines before it.
use Rattle.std.proofs.Common.{◌≡◌, ℕ, ◌+◌, ◌<◌, ◌≤◌, List, Bool, true, false, not, ◌||◌, eqb, Option, None}
use Rattle.std.proofs.Common.{Some, refl, ap, arith, length, IsTrue}
use Rattle.std.specs.Prelude.{is_none, is_some, nat_lt, nat_le, slice_index_or}
use Rattle.std.specs.List.{All}
use Rattle.std.proofs.lemmas.Bool.{or_parts}
use Rattle.std.proofs.lemmas.Bool.Decides.{nat_tests}
use Rattle.sv_mask.specs.Usages.{usage_of, stage_number, access_number}
use Rattle.sv_model.specs.declared.line.Line.{Line}
use Rattle.sv_model.specs.declared.line.Line.TheVariants as line
use Rattle.sv_model.specs.declared.line.Command.TheVariants as command
use Rattle.sv_model.specs.declared.line.Declared.{Declared}
use Rattle.sv_model.specs.declared.line.Attachment.{Attachment}
use Rattle.sv_model.specs.declared.line.View.{View}
use Rattle.sv_model.specs.declared.line.Part.{Part}
use Rattle.sv_model.specs.declared.line.Part.TheVariants as part
use Rattle.sv_model.specs.declared.line.Trace.{Trace}
use Rattle.sv_model.specs.Declarations.{Resource, BufferOf, ImageOf, resource_of, is_event, is_pass, pass_of}
use Rattle.sv_model.specs.Recordings.{Scope, Outside, InRendering, InPass}
use Rattle.sv_model.specs.LawfulParts.{IsInside}
use Rattle.sv_model.specs.LawfulCommands.{may_use, declared_usage, IsOutside, IsInRendering, IsBeforeLast}
use Rattle.sv_model.specs.LawfulCommands.{IsInLast, is_attachment_usage, is_outside_usage, is_host_usage}
use Rattle.sv_trace.specs.Formed.{IsFormedAccess}
use Rattle.sv_rules.specs.Laws.{IsLawfulNext}
use Rattle.sv_rules.specs.Named.{is_new_resource, is_new_event, is_new_pass, is_on_new}
use Rattle.sv_rules.specs.PartRules.{is_outside, is_without_cells, goes_outside, has_no_cells, access_part}
use Rattle.sv_rules.specs.PartRules.{attachment_part, view_part, is_out_of_resource, is_empty}
use Rattle.sv_rules.specs.Masks.{is_no_usage, is_without_stage}
use Rattle.sv_rules.specs.Places as place
use Rattle.sv_rules.specs.Standings.{standing_of, is_inside, is_in_rendering}
use Rattle.sv_rules.specs.Taken.{Taken, resource_in, pass_in, standing_in, scope_in}
use Rattle.sv_rules.proofs.Passing.{Passes, are_declared, is_placed, is_limited, none_at, few, not_false}
use Rattle.sv_rules.proofs.Passing.{same_number}

-- Parts.

not_below : (a b : ℕ) → nat_lt a b ≡ false → b ≤ a
not_below a b e = grind (arith, nat_tests)

is_below : (a b : ℕ) → nat_le b a ≡ false → a < b
is_below a b e = grind (arith, nat_tests)

is_some_number : (n : ℕ) → eqb n 0 ≡ false → 0 < n
is_some_number n e = grind (arith, nat_tests)

inside : (o : Option Resource) (p : Part) → is_none o ≡ false → is_outside o p ≡ false → is_without_cells p
    ≡ false → IsInside o p
inside None p n o e = absurd (let h : true ≡ false = n in cc)
inside (Some (BufferOf size)) (part.Bytes start end) n o e = (is_below start end e, not_below size end o)
inside (Some (ImageOf mips layers)) (part.Image mip m layer l) n o e =
    let past = or_parts (nat_lt mips (mip + m)) (nat_lt layers (layer + l)) o in
    let empty = or_parts (eqb m 0) (eqb l 0) e in (
      is_some_number m empty.0,
      not_below mips (mip + m) past.0,
      is_some_number l empty.1,
      not_below layers (layer + l) past.1,
    )
inside (Some (BufferOf size)) (part.Image mip m layer l) n o e = absurd (let h : true ≡ false = o in cc)
inside (Some (ImageOf mips layers)) (part.Bytes start end) n o e = absurd (let h : true ≡ false = o in cc)

pub part_inside : (t : Trace) (res : ℕ) (p : Part) → is_on_new t res p ≡ false → goes_outside t res p
    ≡ false → has_no_cells res p ≡ false → IsInside (resource_of t res) p
unfolding is_new_resource resource_in
part_inside t res p n o e = inside (resource_of t res) p n o e

some_of : {A : Type 0} (o : Option A) → is_none o ≡ false → IsTrue (is_some o)
some_of None e = absurd (let h : true ≡ false = e in cc)
some_of (Some x) e = refl

-- Scopes.

pub outside_of : (s : Scope) → is_inside (standing_of s) ≡ false → IsOutside s
outside_of Outside e = tt
outside_of (InRendering attachments) e = absurd (let h : true ≡ false = e in cc)
outside_of (InPass p views i) e = absurd (let h : true ≡ false = e in cc)

rendering_of : (s : Scope) → not (is_in_rendering (standing_of s)) ≡ false → IsInRendering s
rendering_of Outside e = absurd (let h : true ≡ false = e in cc)
rendering_of (InRendering attachments) e = tt
rendering_of (InPass p views i) e = absurd (let h : true ≡ false = e in cc)

not_of : (b : Bool) → b ≡ false → not b ≡ true
not_of b e = ap not e

usage_stands : (s : Scope) (u : ℕ) → place.is_misused (is_inside (standing_of s)) u ≡ false
    → IsTrue (may_use s u)
usage_stands Outside u e = not_of (is_attachment_usage u || is_host_usage u) e
usage_stands (InRendering attachments) u e = not_of (is_outside_usage u || is_host_usage u) e
usage_stands (InPass p views i) u e = not_of (is_outside_usage u || is_host_usage u) e

before_last : (t : Trace) (s : Scope) → not (place.is_before_last t (standing_of s)) ≡ false
    → IsBeforeLast t s
unfolding pass_in
before_last t Outside e = absurd (let h : true ≡ false = e in cc)
before_last t (InRendering attachments) e = absurd (let h : true ≡ false = e in cc)
before_last t (InPass p views i) e = less (i + 1) (length (pass_of t p).subpasses)
    (not_false (nat_lt (i + 1) (length (pass_of t p).subpasses)) e)
  where
    less : (a b : ℕ) → nat_lt a b ≡ true → a < b
    less a b h = grind (arith, nat_tests)

in_last : (t : Trace) (s : Scope) → not (place.is_in_last t (standing_of s)) ≡ false → IsInLast t s
unfolding pass_in
in_last t Outside e = absurd (let h : true ≡ false = e in cc)
in_last t (InRendering attachments) e = absurd (let h : true ≡ false = e in cc)
in_last t (InPass p views i) e = same_number (i + 1) (length (pass_of t p).subpasses)
    (not_false (eqb (i + 1) (length (pass_of t p).subpasses)) e)

-- Commands.

pub work_lawful : (s : Taken) (rec : ℕ) (accesses : List Declared) → Passes s (line.Work rec accesses)
    → All IsFormedAccess accesses → IsLawfulNext s.trace rec (command.Work accesses)
unfolding is_out_of_resource is_empty is_without_stage standing_in
work_lawful s rec accesses p formed r found =
    let declared = are_declared s.trace (line.Work rec accesses) p.declared in
    let placed = is_placed s (line.Work rec accesses) p.place in
    let limited = is_limited s (line.Work rec accesses) p.limit in
    record {
      short = few 64 (length accesses) limited.accesses;
      each = λ k d lt. record {
        inside = part_inside s.trace (slice_index_or accesses k d).res (slice_index_or accesses k d).part
            (none_at (access_part (is_on_new s.trace)) accesses declared.resource k d lt)
            (none_at (access_part (goes_outside s.trace)) accesses p.inside k d lt)
            (none_at (access_part has_no_cells) accesses p.some k d lt);
        usage = some_of (usage_of (stage_number (slice_index_or accesses k d).stage)
            (access_number (slice_index_or accesses k d).access))
            (none_at is_no_usage accesses p.stage k d lt);
        layout = formed k d lt;
      };
      place = λ k d lt. usage_stands (scope_in s.trace rec) (declared_usage (slice_index_or accesses k d))
          (none_at (place.is_misused_access (is_inside (standing_of (scope_in s.trace rec)))) accesses
          placed.usage k d lt);
    }

pub event_of : (t : Trace) (event : ℕ) → is_new_event t event ≡ false → IsTrue (is_event t event)
unfolding is_new_event
event_of t event e = not_false (is_event t event) e

pub wait_lawful : (s : Taken) (rec event : ℕ) → Passes s (line.WaitEvent rec event)
    → IsLawfulNext s.trace rec (command.WaitEvent event)
unfolding standing_in
wait_lawful s rec event p r found =
    let placed = is_placed s (line.WaitEvent rec event) p.place in
    record {
      outside = outside_of (scope_in s.trace rec) placed.forbidden;
      declared = event_of s.trace event (are_declared s.trace (line.WaitEvent rec event) p.declared).event;
    }

pub reset_lawful : (s : Taken) (rec event : ℕ) → Passes s (line.ResetEvent rec event)
    → IsLawfulNext s.trace rec (command.ResetEvent event)
unfolding standing_in
reset_lawful s rec event p r found =
    let placed = is_placed s (line.ResetEvent rec event) p.place in
    record {
      outside = outside_of (scope_in s.trace rec) placed.forbidden;
      declared = event_of s.trace event (are_declared s.trace (line.ResetEvent rec event) p.declared).event;
    }

pub rendering_lawful : (s : Taken) (rec : ℕ) (attachments : List Attachment)
    → Passes s (line.BeginRendering rec attachments)
    → IsLawfulNext s.trace rec (command.BeginRendering attachments)
unfolding is_out_of_resource is_empty standing_in
rendering_lawful s rec attachments p r found =
    let l : Line = line.BeginRendering rec attachments in
    record {
      outside = outside_of (scope_in s.trace rec)
          (is_placed s (line.BeginRendering rec attachments) p.place).scope;
      few = few 16 (length attachments) (is_limited s
          (line.BeginRendering rec attachments) p.limit).attachments;
      each = λ k d lt. part_inside s.trace (slice_index_or attachments k d).res
          (part.Image (slice_index_or attachments k d).mip 1 (slice_index_or attachments k d).layer
          (slice_index_or attachments k d).layers)
          (none_at (attachment_part (is_on_new s.trace)) attachments
          (are_declared s.trace (line.BeginRendering rec attachments) p.declared).resource k d lt)
          (none_at (attachment_part (goes_outside s.trace)) attachments p.inside k d lt)
          (none_at (attachment_part has_no_cells) attachments p.some k d lt);
    }

pub end_rendering_lawful : (s : Taken) (rec : ℕ) → Passes s (line.EndRendering rec)
    → IsLawfulNext s.trace rec command.EndRendering
unfolding standing_in
end_rendering_lawful s rec p r found = rendering_of (scope_in s.trace rec)
    (is_placed s (line.EndRendering rec) p.place).scope

pass_of_number : (t : Trace) (pass : ℕ) → is_new_pass t pass ≡ false → IsTrue (is_pass t pass)
unfolding is_new_pass
pass_of_number t pass e = not_false (is_pass t pass) e

pub begin_pass_lawful : (s : Taken) (rec pass : ℕ) (views : List View)
    → Passes s (line.BeginPass rec pass views) → IsLawfulNext s.trace rec (command.BeginPass pass views)
unfolding is_out_of_resource is_empty standing_in pass_in
begin_pass_lawful s rec pass views p r found =
    let declared = are_declared s.trace (line.BeginPass rec pass views) p.declared in
    let placed = is_placed s (line.BeginPass rec pass views) p.place in
    record {
      outside = outside_of (scope_in s.trace rec) placed.scope;
      declared = pass_of_number s.trace pass declared.pass;
      each = λ k d lt. part_inside s.trace (slice_index_or views k d).res
          (part.Image (slice_index_or views k d).mip 1 (slice_index_or views k d).layer
          (slice_index_or views k d).layers)
          (none_at (view_part (is_on_new s.trace)) views declared.resource k d lt)
          (none_at (view_part (goes_outside s.trace)) views p.inside k d lt)
          (none_at (view_part has_no_cells) views p.some k d lt);
      count = same_number (length views) (length (pass_of s.trace pass).attachments)
          (not_false (eqb (length views) (length (pass_of s.trace pass).attachments)) placed.views);
    }

pub next_lawful : (s : Taken) (rec : ℕ) → Passes s (line.NextSubpass rec)
    → IsLawfulNext s.trace rec command.NextSubpass
unfolding standing_in
next_lawful s rec p r found = before_last s.trace (scope_in s.trace rec)
    (is_placed s (line.NextSubpass rec) p.place).scope

pub end_pass_lawful : (s : Taken) (rec : ℕ) → Passes s (line.EndPass rec)
    → IsLawfulNext s.trace rec command.EndPass
unfolding standing_in
end_pass_lawful s rec p r found = in_last s.trace (scope_in s.trace rec)
    (is_placed s (line.EndPass rec) p.place).scope
