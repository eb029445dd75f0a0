-- The recording of a line that goes on in it.
use Rattle.std.proofs.Common.{◌≡◌, ℕ, ◌+◌, ◌<◌, List, [], ◌∷◌, ◌++◌, Bool, true, false, ◌||◌, Some, refl}
use Rattle.std.proofs.Common.{sym, ◌∙◌, ap, subst, arith, length, set}
use Rattle.std.proofs.lemmas.List.{length-map}
use Rattle.std.proofs.lemmas.Option.{get_or_from_slice_get, slice_get_within}
use Rattle.std.specs.BTreeMap.{BTreeMap}
use Rattle.std.specs.Prelude.{is_some, option_and_then, reverse, slice_get, slice_index_or}
use Rattle.sv_model.specs.declared.line.Command.{Command}
use Rattle.sv_model.specs.declared.line.Line.{Line}
use Rattle.sv_model.specs.declared.line.Line.TheVariants as line
use Rattle.sv_model.specs.declared.line.Mark.{Mark}
use Rattle.sv_model.specs.declared.line.Mark.TheVariants.{Publish}
use Rattle.sv_model.specs.declared.line.Recording.{Recording}
use Rattle.sv_model.specs.declared.line.Trace.{Trace}
use Rattle.sv_model.specs.Recordings.{scope_after}
use Rattle.sv_model.specs.Declarations.{commands_in, recording_of}
use Rattle.sv_model.specs.LawfulCommands.{IsLawfulCommand}
use Rattle.sv_model.specs.Size.{capped}
use Rattle.sv_lines.specs.declared.taken.TakenLines.TheInside.{Inside}
use Rattle.sv_lines.specs.declared.known.Known.{Known}
use Rattle.sv_rules.specs.declared.standing.Standing.{Standing}
use Rattle.sv_rules.specs.declared.standing.Standing.TheVariants as standing
use Rattle.sv_lines.specs.Following.{IsSizeOf, standing_after}
use Rattle.sv_lines.specs.KnownParts.{ended, stands_so, with_one_more}
use Rattle.sv_rules.specs.Laws.{IsLawfulNext}
use Rattle.sv_rules.specs.Named.{is_new_recording}
use Rattle.sv_lines.specs.Sound.{IsSound, known_of, trace_from}
use Rattle.sv_lines.specs.Tables.{IsAsBefore}
use Rattle.sv_rules.specs.Taken.{Taken, has_ended, taken_with}
use Rattle.sv_rules.specs.Trace.{published, recorded, with_event}
use Rattle.sv_lines.proofs.Ending.{end_sound, known_found}
use Rattle.sv_lines.proofs.Everywhere.{some_of_new}
use Rattle.sv_lines.proofs.Found.{found_number}
use Rattle.sv_lines.proofs.Going.{Adds, Stands, command_sound, list_after, recorded_in, recordings_after}
use Rattle.sv_lines.proofs.Kept.{IsSoundInside, trace_in}

-- what contracts see
abbrev pub seen : Inside → Taken
seen x = record { lines = x.lines; begun = x.begun; trace = trace_in x }

-- the recording of that number is open, and stands at that place
pub record Goes (x : Inside) (p rec : ℕ) : Type 0 where
  pub sound : IsSoundInside x
  pub fewer : x.lines < 1000000
  pub at : slice_get x.recordings.list.items p ≡ recording_of (trace_in x) rec
  pub begun : is_new_recording (trace_in x) rec ≡ false
  pub not_ended : has_ended (trace_in x) rec ≡ false

not_new : (t : Trace) (rec : ℕ) → is_new_recording t rec ≡ false → (r : Recording)
    × (recording_of t rec ≡ Some r)
unfolding is_new_recording
not_new t rec e = some_of_new (recording_of t rec) e

pub open_one : (x : Inside) (p rec : ℕ) → Goes x p rec → (r : Recording)
    × (recording_of (trace_in x) rec ≡ Some r)
open_one x p rec g = not_new (trace_in x) rec g.begun

pub number_of : (x : Inside) (p rec : ℕ) (g : Goes x p rec) → (open_one x p rec g).0.rec ≡ rec
number_of x p rec g = found_number rec x.recordings.list.items (open_one x p rec g).0 (open_one x p rec g).1

pub stands_there : (x : Inside) (p rec : ℕ) (g : Goes x p rec) → Stands x p (open_one x p rec g).0
stands_there x p rec g = record {
  sound = g.sound;
  at = g.at ∙ (open_one x p rec g).1;
  not_ended = ap (has_ended (trace_in x)) (number_of x p rec g) ∙ g.not_ended;
}

pub place_within : (x : Inside) (p rec : ℕ) → Goes x p rec → p < length x.recordings.list.items
place_within x p rec g = slice_get_within x.recordings.list.items p (open_one x p rec g).0
    (stands_there x p rec g).at

pub known_within : (x : Inside) (p rec : ℕ) → Goes x p rec → p < length x.recordings.known.items
known_within x p rec g =
    let inside = place_within x p rec g in
    let count = ap length g.sound.recorded.known in
    let same = length-map x.recordings.list.items (known_of (trace_in x)) in
    omega (arith, inside, count, same)

pub known_is : (x : Inside) (p rec : ℕ) (g : Goes x p rec) (k : Known)
    → slice_index_or x.recordings.known.items p k ≡ known_of (trace_in x) (open_one x p rec g).0
known_is x p rec g k = known_found x p (open_one x p rec g).0 k g.sound (stands_there x p rec g).at

pub recorder_small : (x : Inside) (p rec : ℕ) (g : Goes x p rec) (k : Known)
    → (slice_index_or x.recordings.known.items p k).recorder < 16
recorder_small x p rec g k =
    subst (λ (y : Known). y.recorder < 16) (sym (known_is x p rec g k))
    (subst (λ (y : Recording). y.recorder < 16) (get_or_from_slice_get x.recordings.list.items p
    (open_one x p rec g).0 (open_one x p rec g).0 (stands_there x p rec g).at)
    (g.sound.recorded.small p (open_one x p rec g).0 (place_within x p rec g)))

-- all that changes with a line of a recording
abbrev pub GoneOn : Inside → ℕ → List Recording → List (List Line) → List (List ℕ) → List Mark → List Known
    → BTreeMap ℕ ℕ → List Bool → Type 0
GoneOn x lines recordings lanes recorders order known places busy =
    IsSound lines (trace_from x.queues.lines.items x.resources.lines.items x.semaphores.lines.items
    x.events.lines.items x.fences.lines.items x.passes.lines.items recordings lanes recorders order)
    x.size x.queues.table x.resources.table x.semaphores.table x.events.table x.fences.table x.passes.table
    x.sizes known places busy

-- the same with another table of places that says the same
pub placed_again : (x : Inside) (lines : ℕ) (recordings : List Recording) (lanes : List (List Line))
    (recorders : List (List ℕ)) (order : List Mark) (known : List Known) (old places : BTreeMap ℕ ℕ)
    (busy : List Bool) → IsAsBefore old places
    → GoneOn x lines recordings lanes recorders order known old busy
    → GoneOn x lines recordings lanes recorders order known places busy
placed_again x lines recordings lanes recorders order known old places busy p h = record {
  declared = h.declared;
  recorded = record {
    known = h.recorded.known;
    places = λ n. ap (λ o. option_and_then (slice_get recordings) o) (p n) ∙ h.recorded.places n;
    places_known = λ n. ap is_some (p n) ∙ h.recorded.places_known n;
    unknown = h.recorded.unknown;
    recorder_count = h.recorded.recorder_count;
    busy = h.recorded.busy;
    own = λ k d within. p (slice_index_or recordings k d).rec ∙ h.recorded.own k d within;
    small = h.recorded.small;
    lone = h.recorded.lone;
  };
  steady = h.steady;
  size = h.size;
  few = h.few;
  lanes = h.lanes;
  recorders = h.recorders;
  short = h.short;
}

same_gone : (x : Inside) (lines : ℕ) (rs rs2 : List Recording) (ls ls2 : List (List Line))
    (ws ws2 : List (List ℕ)) (ms ms2 : List Mark) (ks ks2 : List Known) (places : BTreeMap ℕ ℕ)
    (bs bs2 : List Bool) → rs ≡ rs2 → ls ≡ ls2 → ws ≡ ws2 → ms ≡ ms2 → ks ≡ ks2 → bs ≡ bs2
    → GoneOn x lines rs2 ls2 ws2 ms2 ks2 places bs2 → GoneOn x lines rs ls ws ms ks places bs
same_gone x lines rs rs2 ls ls2 ws ws2 ms ms2 ks ks2 places bs bs2 a l b c d e h =
    subst (λ (y : List Recording). GoneOn x lines y ls ws ms ks places bs) (sym a)
    (subst (λ (y : List (List Line)). GoneOn x lines rs2 y ws ms ks places bs) (sym l)
    (subst (λ (y : List (List ℕ)). GoneOn x lines rs2 ls2 y ms ks places bs) (sym b)
    (subst (λ (y : List Mark). GoneOn x lines rs2 ls2 ws2 y ks places bs) (sym c)
    (subst (λ (y : List Known). GoneOn x lines rs2 ls2 ws2 ms2 y places bs) (sym d)
    (subst (λ (y : List Bool). GoneOn x lines rs2 ls2 ws2 ms2 ks2 places y) (sym e) h)))))

-- nothing changed
pub gone_again : (x : Inside) (recordings : List Recording) (lanes : List (List Line))
    (recorders : List (List ℕ)) (order : List Mark) (known : List Known) (places : BTreeMap ℕ ℕ)
    (busy : List Bool) → IsSoundInside x
    → recordings ≡ x.recordings.list.items → lanes ≡ x.scripts.lanes → recorders ≡ x.scripts.recorders
    → order ≡ x.scripts.order.items → known ≡ x.recordings.known.items
    → IsAsBefore x.recordings.places places → busy ≡ x.recordings.busy
    → GoneOn x x.lines recordings lanes recorders order known places busy
gone_again x recordings lanes recorders order known places busy h a l b c d p e =
    placed_again x x.lines recordings lanes recorders order known x.recordings.places places busy p
    (same_gone x x.lines recordings x.recordings.list.items lanes x.scripts.lanes recorders
    x.scripts.recorders order x.scripts.order.items known x.recordings.known.items x.recordings.places
    busy x.recordings.busy a l b c d e h)

-- The end of a recording.

pub record Ends (x : Inside) (p rec by : ℕ) (list_now : List Recording) (lanes_now : List (List Line))
    (scripts_now : List (List ℕ)) (order_now : List Mark) (known_now : List Known)
    (places_now : BTreeMap ℕ ℕ) (busy_now : List Bool) : Type 0 where
  pub goes : Goes x p rec
  pub recorder : (d : Known) → by ≡ (slice_index_or x.recordings.known.items p d).recorder
  pub list : list_now ≡ x.recordings.list.items
  pub lanes : lanes_now ≡ x.scripts.lanes
  pub scripts : scripts_now ≡ with_event x.scripts.recorders by rec
  pub order : order_now ≡ x.scripts.order.items ++ Publish rec ∷ []
  pub known : (d : Known) → known_now ≡ set x.recordings.known.items p
      (ended (slice_index_or x.recordings.known.items p d))
  pub places : IsAsBefore x.recordings.places places_now
  pub busy : busy_now ≡ set x.recordings.busy by false

abbrev none_known : Known
none_known = record { recorder = 0; family = 0; ended = false; standing = standing.Outside; size = 0 }

by_its_recorder : (x : Inside) (p rec by : ℕ) (g : Goes x p rec)
    → ((d : Known) → by ≡ (slice_index_or x.recordings.known.items p d).recorder) → by
    ≡ (open_one x p rec g).0.recorder
by_its_recorder x p rec by g e = e none_known ∙ ap (λ (y : Known). y.recorder) (known_is x p rec g none_known)

scripts_are : (x : Inside) (p rec by : ℕ) (g : Goes x p rec)
    → ((d : Known) → by ≡ (slice_index_or x.recordings.known.items p d).recorder)
    → with_event x.scripts.recorders by rec ≡ with_event x.scripts.recorders (open_one x p rec g).0.recorder
    (open_one x p rec g).0.rec
scripts_are x p rec by g e =
    ap (λ n. with_event x.scripts.recorders n rec) (by_its_recorder x p rec by g e)
    ∙ ap (λ n. with_event x.scripts.recorders (open_one x p rec g).0.recorder n) (sym (number_of x p rec g))

order_is : (x : Inside) (p rec : ℕ) (g : Goes x p rec) → x.scripts.order.items ++ Publish rec ∷ []
    ≡ x.scripts.order.items ++ Publish (open_one x p rec g).0.rec ∷ []
order_is x p rec g = ap (λ n. x.scripts.order.items ++ Publish n ∷ []) (sym (number_of x p rec g))

pub end_kept : (x : Inside) (p rec by : ℕ) (rs : List Recording) (ls : List (List Line))
    (ws : List (List ℕ)) (ms : List Mark) (ks : List Known) (places : BTreeMap ℕ ℕ) (bs : List Bool)
    → Ends x p rec by rs ls ws ms ks places bs
    → GoneOn x (x.lines + 1) rs ls ws ms ks places bs
end_kept x p rec by rs ls ws ms ks places bs e =
    placed_again x (x.lines + 1) rs ls ws ms ks x.recordings.places places bs e.places
    (same_gone x (x.lines + 1) rs x.recordings.list.items ls x.scripts.lanes ws
    (with_event x.scripts.recorders (open_one x p rec e.goes).0.recorder (open_one x p rec e.goes).0.rec)
    ms (x.scripts.order.items ++ Publish (open_one x p rec e.goes).0.rec ∷ []) ks
    (set x.recordings.known.items p (ended (slice_index_or x.recordings.known.items p none_known)))
    x.recordings.places bs (set x.recordings.busy (open_one x p rec e.goes).0.recorder false)
    e.list e.lanes (e.scripts ∙ scripts_are x p rec by e.goes e.recorder)
    (e.order ∙ order_is x p rec e.goes) (e.known none_known)
    (e.busy ∙ ap (λ n. set x.recordings.busy n false) (by_its_recorder x p rec by e.goes e.recorder))
    (end_sound x p (open_one x p rec e.goes).0 none_known e.goes.sound e.goes.fewer
    (stands_there x p rec e.goes).at (stands_there x p rec e.goes).not_ended))

-- the trace of the lists after it
pub ended_trace : (x : Inside) (p rec by : ℕ) (rs : List Recording) (ls : List (List Line))
    (ws : List (List ℕ)) (ms : List Mark) (ks : List Known) (places : BTreeMap ℕ ℕ) (bs : List Bool)
    → Ends x p rec by rs ls ws ms ks places bs
    → trace_from x.queues.lines.items x.resources.lines.items x.semaphores.lines.items x.events.lines.items
    x.fences.lines.items x.passes.lines.items rs ls ws ms
    ≡ published (trace_in x) (recording_of (trace_in x) rec)
ended_trace x p rec by rs ls ws ms ks places bs e =
    ap (λ (ys : List Recording). trace_from x.queues.lines.items x.resources.lines.items
    x.semaphores.lines.items x.events.lines.items x.fences.lines.items x.passes.lines.items ys ls ws ms)
    e.list
    ∙ ap (λ (ys : List (List Line)). trace_from x.queues.lines.items x.resources.lines.items
    x.semaphores.lines.items x.events.lines.items x.fences.lines.items x.passes.lines.items
    x.recordings.list.items ys ws ms) e.lanes
    ∙ ap (λ (ys : List (List ℕ)). trace_from x.queues.lines.items x.resources.lines.items
    x.semaphores.lines.items x.events.lines.items x.fences.lines.items x.passes.lines.items
    x.recordings.list.items x.scripts.lanes ys ms)
    (e.scripts ∙ scripts_are x p rec by e.goes e.recorder)
    ∙ ap (λ (ys : List Mark). trace_from x.queues.lines.items x.resources.lines.items
    x.semaphores.lines.items x.events.lines.items x.fences.lines.items x.passes.lines.items
    x.recordings.list.items x.scripts.lanes
    (with_event x.scripts.recorders (open_one x p rec e.goes).0.recorder (open_one x p rec e.goes).0.rec)
    ys) (e.order ∙ order_is x p rec e.goes)
    ∙ sym (ap (published (trace_in x)) (open_one x p rec e.goes).1)

-- One more command.

pub record Commands (x : Inside) (p rec : ℕ) (c : Command) (place : Standing) (total : ℕ)
    (list_now : List Recording) (known_now : List Known) (places_now : BTreeMap ℕ ℕ)
    (busy_now : List Bool) : Type 0 where
  pub goes : Goes x p rec
  pub adds : Adds x (open_one x p rec goes).0 c place total
  pub list : (d : Recording) → list_now ≡ set x.recordings.list.items p
      (with_one_more c (slice_index_or x.recordings.list.items p d))
  pub known : (d : Known) → known_now ≡ set x.recordings.known.items p
      (stands_so place total (slice_index_or x.recordings.known.items p d))
  pub places : IsAsBefore x.recordings.places places_now
  pub busy : busy_now ≡ x.recordings.busy

list_is : (x : Inside) (p rec : ℕ) (c : Command) (g : Goes x p rec) (rs : List Recording)
    → ((d : Recording) → rs ≡ set x.recordings.list.items p
    (with_one_more c (slice_index_or x.recordings.list.items p d)))
    → rs ≡ recordings_after x rec c
list_is x p rec c g rs e =
    e (open_one x p rec g).0 ∙ list_after x p (open_one x p rec g).0 c (stands_there x p rec g)
    (open_one x p rec g).0 ∙ ap (λ n. recordings_after x n c) (number_of x p rec g)

pub command_kept : (x : Inside) (p rec : ℕ) (c : Command) (place : Standing) (total : ℕ)
    (rs : List Recording) (ks : List Known) (places : BTreeMap ℕ ℕ) (bs : List Bool)
    → Commands x p rec c place total rs ks places bs
    → GoneOn x (x.lines + 1) rs x.scripts.lanes x.scripts.recorders x.scripts.order.items ks places bs
command_kept x p rec c place total rs ks places bs e =
    placed_again x (x.lines + 1) rs x.scripts.lanes x.scripts.recorders x.scripts.order.items ks
    x.recordings.places places bs e.places
    (same_gone x (x.lines + 1) rs (recordings_after x (open_one x p rec e.goes).0.rec c) x.scripts.lanes
    x.scripts.lanes x.scripts.recorders x.scripts.recorders x.scripts.order.items x.scripts.order.items
    ks (set x.recordings.known.items p (stands_so place total
    (slice_index_or x.recordings.known.items p none_known))) x.recordings.places bs x.recordings.busy
    (list_is x p rec c e.goes rs e.list ∙ ap (λ n. recordings_after x n c) (sym (number_of x p rec e.goes)))
    refl refl refl (e.known none_known) e.busy
    (command_sound x p (open_one x p rec e.goes).0 c place total none_known
    (stands_there x p rec e.goes) e.goes.fewer e.adds))

-- the trace of the lists after it
pub recorded_trace : (x : Inside) (p rec : ℕ) (c : Command) (place : Standing) (total : ℕ)
    (rs : List Recording) (ks : List Known) (places : BTreeMap ℕ ℕ) (bs : List Bool)
    → Commands x p rec c place total rs ks places bs
    → recorded_in x rs ≡ recorded (trace_in x) rec c
recorded_trace x p rec c place total rs ks places bs e =
    ap (recorded_in x) (list_is x p rec c e.goes rs e.list)

-- what the command adds, by what was kept of the recording
pub adds_here : (x : Inside) (p rec : ℕ) (g : Goes x p rec) (c : Command) (k : Known) (place : Standing)
    (added total : ℕ) → ((d : Known) → k ≡ slice_index_or x.recordings.known.items p d)
    → IsLawfulNext (trace_in x) rec c → place ≡ standing_after k.standing c
    → IsSizeOf (trace_in x) k.family k.standing c added
    → ((m n : ℕ) → k.size ≡ capped m → added ≡ capped n → total ≡ capped (m + n))
    → Adds x (open_one x p rec g).0 c place total
adds_here x p rec g c k place added total is lawful stands size both =
    let same : k ≡ known_of (trace_in x) (open_one x p rec g).0 = is none_known
    ∙ known_is x p rec g none_known in
    record {
      lawful = subst (λ (cs : List Command). IsLawfulCommand (trace_in x) (open_one x p rec g).0.family
          (scope_after (reverse cs)) c) (ap commands_in (open_one x p rec g).1)
          (lawful (open_one x p rec g).0 (open_one x p rec g).1);
      stands = stands ∙ ap (λ (y : Known). standing_after y.standing c) same;
      added = added;
      size = subst (λ (y : Known). IsSizeOf (trace_in x) y.family y.standing c added) same size;
      both = subst (λ (y : Known). (m n : ℕ) → y.size ≡ capped m → added ≡ capped n → total
          ≡ capped (m + n)) same both;
    }

-- of an argument that was seen whole
pub goes_of : (x : Inside) (s : Taken) (p rec : ℕ) → IsSoundInside x → seen x ≡ s → s.lines < 1000000
    → slice_get s.trace.recordings p ≡ recording_of s.trace rec → is_new_recording s.trace rec ≡ false
    → has_ended s.trace rec ≡ false → Goes x p rec
goes_of x s p rec h view fewer at begun not_ended = record {
  sound = h;
  fewer = subst (λ (t : Taken). t.lines < 1000000) (sym view) fewer;
  at = subst (λ (t : Taken). slice_get t.trace.recordings p ≡ recording_of t.trace rec) (sym view) at;
  begun = subst (λ (t : Taken). is_new_recording t.trace rec ≡ false) (sym view) begun;
  not_ended = subst (λ (t : Taken). has_ended t.trace rec ≡ false) (sym view) not_ended;
}

-- what contracts see with these lists
abbrev pub seen_with : Inside → List Recording → List (List Line) → List (List ℕ) → List Mark → Taken
seen_with x rs ls ws ms = record {
  lines = x.lines + 1;
  begun = true;
  trace = trace_from x.queues.lines.items x.resources.lines.items x.semaphores.lines.items
      x.events.lines.items x.fences.lines.items x.passes.lines.items rs ls ws ms;
}

or_true : (b : Bool) → (b || true) ≡ true
or_true true = refl
or_true false = refl

pub end_taken : (x : Inside) (s : Taken) (p rec by : ℕ) (rs : List Recording) (ls : List (List Line))
    (ws : List (List ℕ)) (ms : List Mark) (ks : List Known) (places : BTreeMap ℕ ℕ) (bs : List Bool)
    → seen x ≡ s → Ends x p rec by rs ls ws ms ks places bs
    → seen_with x rs ls ws ms ≡ taken_with s (line.End rec)
end_taken x s p rec by rs ls ws ms ks places bs view e =
    subst (λ (t : Taken). seen_with x rs ls ws ms ≡ taken_with t (line.End rec)) view
    (ap (λ (t : Trace). let taken : Taken = record { lines = x.lines + 1; begun = true; trace = t } in
    taken) (ended_trace x p rec by rs ls ws ms ks places bs e)
    ∙ ap (λ (b : Bool). let taken : Taken = record
    { lines = x.lines + 1; begun = b; trace = published (trace_in x) (recording_of (trace_in x) rec) } in
    taken) (sym (or_true x.begun)))

pub command_taken : (x : Inside) (s : Taken) (p rec : ℕ) (c : Command) (place : Standing) (total : ℕ)
    (rs : List Recording) (ks : List Known) (places : BTreeMap ℕ ℕ) (bs : List Bool) → seen x ≡ s
    → Commands x p rec c place total rs ks places bs
    → seen_with x rs x.scripts.lanes x.scripts.recorders x.scripts.order.items
    ≡ record { lines = s.lines + 1; begun = true; trace = recorded s.trace rec c }
command_taken x s p rec c place total rs ks places bs view e =
    subst (λ (t : Taken). seen_with x rs x.scripts.lanes x.scripts.recorders x.scripts.order.items
    ≡ record { lines = t.lines + 1; begun = true; trace = recorded t.trace rec c }) view
    (ap (λ (t : Trace). let taken : Taken = record { lines = x.lines + 1; begun = true; trace = t } in
    taken) (recorded_trace x p rec c place total rs ks places bs e))
