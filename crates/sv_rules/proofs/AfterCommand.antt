-- What holds so far holds after one more command of a recording.
use Rattle.std.proofs.Common.{◌≡◌, ℕ, ◌+◌, ◌≤◌, List, [], ◌∷◌, ◌++◌, Bool, true, false, eqb, cond, Option}
use Rattle.std.proofs.Common.{None, Some, refl, sym, ◌∙◌, ap, subst, arith, map, reverse, sum_by}
use Rattle.std.proofs.Common.{slice_index_or, option_map, option_and_then, AllPairs, Contains, ◌==◌}
use Rattle.std.proofs.Common.{if◌then◌else◌}
use Rattle.std.proofs.lemmas.List.{reverse-append, length_push}
use Rattle.std.proofs.lemmas.List.Elements.{All-map}
use Rattle.sv_model.specs.declared.line.Command.{Command}
use Rattle.sv_model.specs.declared.line.Mark.{Mark}
use Rattle.sv_model.specs.declared.line.Mark.TheVariants.{Publish, Call}
use Rattle.sv_model.specs.declared.line.Recording.{Recording}
use Rattle.sv_model.specs.declared.line.Trace.{Trace}
use Rattle.sv_model.specs.Recordings.{scope_after, steps_in}
use Rattle.sv_model.specs.Declarations.{recording_of, commands_in}
use Rattle.sv_model.specs.Holding.{is_published}
use Rattle.sv_model.specs.History.{IsOfTrace, published_by}
use Rattle.sv_model.specs.LawfulCommands.{AreLawful, IsLawfulCommand}
use Rattle.sv_model.specs.Lawful.{Differ, HasFamily, script_of}
use Rattle.sv_model.specs.Size.{step_size, work_size}
use Rattle.sv_rules.specs.Laws.{IsLawfulNext}
use Rattle.sv_rules.specs.Trace.{recorded, with_command}
use Rattle.sv_rules.specs.SoFar.{IsAmong, IsLawfulSoFar, RecordingIsLawfulSoFar}
use Rattle.sv_rules.proofs.Growth.{Grows, commands_kept, command_kept, call_kept}
use Rattle.sv_rules.proofs.Lists.{given_same, found_mapped, found_passes, found_here}
use Rattle.sv_rules.proofs.Passing.{same_number}
use Rattle.sv_rules.proofs.Sizes.{IsAsLarge, names_weaker, calls_same, found_size_same}
use Rattle.sv_rules.proofs.SoFar.{recording_kept, found_lawful}

-- the recording with the command, where the test says so
abbrev pub changed : Bool → Command → Recording → Recording
changed b c r = cond b (record r { commands = r.commands ++ c ∷ [] }) r

same_rec : (b : Bool) (c : Command) (r : Recording) → (changed b c r).rec ≡ r.rec
same_rec true c r = refl
same_rec false c r = refl

same_recorder : (b : Bool) (c : Command) (r : Recording) → (changed b c r).recorder ≡ r.recorder
same_recorder true c r = refl
same_recorder false c r = refl

same_family : (b : Bool) (c : Command) (r : Recording) → (changed b c r).family ≡ r.family
same_family true c r = refl
same_family false c r = refl

numbers_same : {X : Type 0} (number : X → ℕ) (f : X → X) → ((x : X) → number (f x) ≡ number x)
    → (xs : List X) → map number (map f xs) ≡ map number xs
numbers_same number f same [] = refl
numbers_same number f same (x ∷ xs) = ap (λ n. n ∷ map number (map f xs)) (same x)
    ∙ ap (λ ns. number x ∷ ns) (numbers_same number f same xs)

abbrev pub numbers_of : List Recording → List ℕ
numbers_of rs = map (λ (r : Recording). r.rec) rs

numbers : (rec : ℕ) (c : Command) (rs : List Recording) → numbers_of (map (with_command rec c) rs)
    ≡ numbers_of rs
numbers rec c rs = numbers_same (λ (r : Recording). r.rec) (with_command rec c)
    (λ r. same_rec (eqb r.rec rec) c r) rs

-- what is found after the command
found_after : (t : Trace) (rec k : ℕ) (c : Command) → recording_of (recorded t rec c) k
    ≡ option_map (with_command rec c) (recording_of t k)
found_after t rec k c = found_mapped (λ (r : Recording). r.rec == k) (with_command rec c)
    (λ r. ap (λ n. n == k) (same_rec (eqb r.rec rec) c r)) t.recordings

family_kept : (rec family : ℕ) (c : Command) (o : Option Recording) → HasFamily family o
    → HasFamily family (option_map (with_command rec c) o)
family_kept rec family c None h = h
family_kept rec family c (Some r) h = same_family (eqb r.rec rec) c r ∙ h

grown : (t : Trace) (rec : ℕ) (c : Command) → Grows t (recorded t rec c)
grown t rec c = record {
  queues = λ k x e. e;
  resources = λ k x e. e;
  kinds = λ k x e. e;
  events = λ k x e. e;
  fences = λ k x e. e;
  passes = λ k x e. e;
  recordings = λ family k h. subst (HasFamily family) (sym (found_after t rec k c))
      (family_kept rec family c (recording_of t k) h);
}

of_trace_still : (t : Trace) (rec : ℕ) (c : Command) (m : Mark) → IsOfTrace t m
    → IsOfTrace (recorded t rec c) m
of_trace_still t rec c (Publish k) h = subst (λ ns. Contains ns k) (sym (numbers rec c t.recordings)) h
of_trace_still t rec c (Call lane index) h = tt

by_recorder_same : (rec recorder k : ℕ) (c : Command) (o : Option Recording)
    → option_and_then (λ (r : Recording). if r.recorder == recorder then Some k else None)
    (option_map (with_command rec c) o) ≡ option_and_then
    (λ (r : Recording). if r.recorder == recorder then Some k else None) o
by_recorder_same rec recorder k c None = refl
by_recorder_same rec recorder k c (Some r) = ap (λ n. if n == recorder then Some k else None)
    (same_recorder (eqb r.rec rec) c r)

published_same : (t : Trace) (rec recorder : ℕ) (c : Command) (m : Mark)
    → published_by (recorded t rec c) recorder m ≡ published_by t recorder m
published_same t rec recorder c (Publish k) =
    ap (option_and_then (λ (r : Recording). if r.recorder == recorder then Some k else None))
    (found_after t rec k c)
    ∙ by_recorder_same rec recorder k c (recording_of t k)
published_same t rec recorder c (Call lane index) = refl

-- The recording that gets the command.

next_here : (t : Trace) (rec : ℕ) (c : Command) → IsLawfulNext t rec c → (r : Recording)
    → recording_of t rec ≡ Some r → IsLawfulCommand t r.family (scope_after (reverse r.commands)) c
next_here t rec c next r found = subst (λ o. IsLawfulCommand t r.family
    (scope_after (reverse (commands_in o))) c) found (next r found)

longer : (lines : ℕ) (t : Trace) (rec : ℕ) (c : Command) → (is_published t.text_order rec ≡ false)
    → IsLawfulNext t rec c → (r : Recording) → r.rec ≡ rec → recording_of t rec ≡ Some r
    → RecordingIsLawfulSoFar lines t r → RecordingIsLawfulSoFar (lines + 1) (recorded t rec c)
    (record r { commands = r.commands ++ c ∷ [] })
longer lines t rec c open_yet next r same found h = record {
  number = h.number;
  recorder = h.recorder;
  family = h.family;
  few = (let most = h.few in let more = length_push r.commands c in omega (arith, most, more));
  commands = subst (AreLawful (recorded t rec c) r.family) (sym (reverse-append r.commands (c ∷ []))) (
    command_kept t (recorded t rec c) (grown t rec c) r.family (scope_after (reverse r.commands)) c
        (next_here t rec c next r found),
    commands_kept t (recorded t rec c) (grown t rec c) r.family (reverse r.commands) h.commands,
  );
  end = λ e. absurd (let no_end : is_published t.text_order r.rec ≡ false =
      ap (is_published t.text_order) same ∙ open_yet in let both : true ≡ false = sym e ∙ no_end in cc);
}

after_change : (lines : ℕ) (t : Trace) (rec : ℕ) (c : Command) → (is_published t.text_order rec ≡ false)
    → IsLawfulNext t rec c → (r : Recording) → recording_of t r.rec ≡ Some r → (b : Bool) → eqb r.rec rec
    ≡ b
    → RecordingIsLawfulSoFar lines t r → RecordingIsLawfulSoFar (lines + 1) (recorded t rec c) (changed b c r)
after_change lines t rec c open_yet next r found true e h =
    let same = same_number r.rec rec e in
    longer lines t rec c open_yet next r same (ap (recording_of t) (sym same) ∙ found) h
after_change lines t rec c open_yet next r found false e h =
    recording_kept lines t (recorded t rec c) (grown t rec c) r (λ among. among) h

-- Sizes of the others.

unchanged : (rec k : ℕ) (c : Command) (o : Option Recording) → ((r : Recording) → o ≡ Some r → r.rec ≡ k)
    → eqb k rec ≡ false → option_map (with_command rec c) o ≡ o
unchanged rec k c None own apart = refl
unchanged rec k c (Some r) own apart = ap (λ b. Some (changed b c r))
    (ap (λ n. eqb n rec) (own r refl) ∙ apart)

other : (t : Trace) (rec k : ℕ) → is_published t.text_order rec ≡ false → is_published t.text_order k ≡ true
    → (b : Bool) → eqb k rec ≡ b → eqb k rec ≡ false
other t rec k open_yet ended true e = absurd (let h : true ≡ false = sym ended
    ∙ ap (is_published t.text_order) (same_number k rec e) ∙ open_yet in cc)
other t rec k open_yet ended false e = e

pub after_command : (lines : ℕ) (t : Trace) (rec : ℕ) (c : Command) → IsLawfulSoFar lines t → lines + 1
    ≤ 1000000 → is_published t.text_order rec ≡ false → IsLawfulNext t rec c
    → IsLawfulSoFar (lines + 1) (recorded t rec c)
after_command lines t rec c h fewer open_yet next = record {
  few = fewer;
  declared = h.declared;
  recordings = All-map (RecordingIsLawfulSoFar (lines + 1) (recorded t rec c))
      (with_command rec c) t.recordings
      (λ k r lt. after_change lines t rec c open_yet next (slice_index_or t.recordings k r)
      (found_here (λ (x : Recording). x.rec) t.recordings k r h.recordings_once lt)
      (eqb (slice_index_or t.recordings k r).rec rec) refl (h.recordings k r lt));
  recordings_once = subst (AllPairs Differ) (sym (numbers rec c t.recordings)) h.recordings_once;
  lane_count = h.lane_count;
  lanes = λ lane k l lt. call_kept t (recorded t rec c) (grown t rec c) lane
      (slice_index_or (script_of t lane) k l) (h.lanes lane k l lt);
  recorder_count = h.recorder_count;
  once = h.once;
  of_trace = λ k m lt. of_trace_still t rec c (slice_index_or t.text_order k m) (h.of_trace k m lt);
  by_lane = h.by_lane;
  by_recorder = λ n. given_same (published_by (recorded t rec c) n) (published_by t n) t.text_order
      (λ k m lt. published_same t rec n c (slice_index_or t.text_order k m)) ∙ h.by_recorder n;
  ended = h.ended;
  named = h.named;
  events = (let most = h.events in omega (arith, most));
  size = subst (λ n. n ≤ 4000000) (sym same_size) h.size;
}
  where
    own : (k : ℕ) (r : Recording) → recording_of t k ≡ Some r → r.rec ≡ k
    own k r e = same_number r.rec k (found_passes (λ (x : Recording). x.rec == k) t.recordings r e)

    as_large : (k : ℕ) → IsAmong t.text_order k → IsAsLarge t (recorded t rec c) k
    as_large k ended =
        ap (λ o. sum_by step_size (steps_in (recorded t rec c) o))
        (found_after t rec k c ∙ unchanged rec k c (recording_of t k) (own k)
        (other t rec k open_yet ended (eqb k rec) refl))
        ∙ found_size_same t (recorded t rec c) (grown t rec c) (recording_of t k)
        (found_lawful lines t k h.recordings)

    same_size : work_size (recorded t rec c) ≡ work_size t
    same_size = calls_same t (recorded t rec c) t.lane_scripts
        (λ lane k l lt. names_weaker (IsAmong t.text_order) (IsAsLarge t (recorded t rec c)) as_large
        (slice_index_or (script_of t lane) k l) (h.named lane k l lt))
