-- The notes of one more step: each stands behind the reports so far, and joins none before it.
use Rattle.std.proofs.Common.{ℕ, ◌+◌, ◌-◌, ◌<◌, ◌≤◌, ◌≡◌, ◌==◌, Bool, true, false}
use Rattle.std.proofs.Common.{List, [], ◌∷◌, ◌++◌, Option, Some, None, length, map, refl, sym}
use Rattle.std.proofs.Common.{ap, subst, ◌∙◌, arith, append-nil, length-append, Contains}
use Rattle.std.specs.Prelude.{zip, if◌then◌else◌}
use Rattle.std.specs.List.{All, enumerate_from, flat_map, fold}
use Rattle.std.proofs.lemmas.Bool.{eq-eqb}
use Rattle.std.proofs.lemmas.Grind.{flat_map-append}
use Rattle.std.proofs.lemmas.List.{map-append}
use Rattle.std.proofs.lemmas.List.Elements.{All-append, All-cons, All-contains, All-head, All-map, All-nil}
use Rattle.std.proofs.lemmas.List.Elements.{All-tail, All-weaker}
use Rattle.std.proofs.lemmas.List.Sums.{fold-append}
use Rattle.sv_model.specs.Places.{Bound}
use Rattle.sv_model.specs.Declarations.{has_owner}
use Rattle.sv_model.specs.Cells.{alone, area_resource, cells_of}
use Rattle.sv_model.specs.Lists.{gather}
use Rattle.sv_model.specs.Layouts.{Claim, Moved, access_claim, claim_notes, claims_of, group_claims}
use Rattle.sv_model.specs.Layouts.{layout_notes, moved_by, old_claim}
use Rattle.sv_model.specs.Layouts as layouts
use Rattle.sv_model.specs.Notes.{AreGreatestNotes, AreNotesApart, Before, IsNoteRun, Noted, NotesJoin}
use Rattle.sv_model.specs.Notes.{before_next, cells_of_notes, note_cells, noted, noted_by, notes_of}
use Rattle.sv_model.specs.Notes.{nothing_before, with_step}
use Rattle.sv_model.specs.Owners.{Action, acted, access_action, action_notes, actions_of, actions_with}
use Rattle.sv_model.specs.Owners.{group_actions, owner_notes}
use Rattle.sv_model.specs.Owners as owners
use Rattle.sv_model.specs.Replies.{note_behind}
use Rattle.sv_model.specs.ReplyLaws.{before_end, notes_of_more}
use Rattle.sv_model.specs.Reports.{IsNumbered}
use Rattle.sv_model.specs.declared.line.Trace.{Trace}
use Rattle.sv_model.specs.declared.work.Access.{Access}
use Rattle.sv_model.specs.declared.work.Cell.{Cell}
use Rattle.sv_model.specs.declared.work.Group.{Group}
use Rattle.sv_model.specs.declared.work.Note.{Note}
use Rattle.sv_model.specs.declared.work.LayoutNote.{LayoutNote}
use Rattle.sv_model.specs.declared.work.OwnerNote.{OwnerNote}
use Rattle.sv_model.specs.declared.work.Old.{Old}
use Rattle.sv_model.specs.declared.work.Owner.{Owner}
use Rattle.sv_model.specs.declared.work.Transfer.{Transfer}
use Rattle.sv_mask.specs.declared.layout.Layout.{Layout}
use Rattle.sv_mask.specs.Usages.{same_layout}
use Rattle.sv_step_laws.proofs.Areas.{all_of}
use Rattle.sv_replies.specs.Replying.{IsNoteBelow, IsOnNone}
use Rattle.sv_model.specs.declared.work.Note.TheVariants as note
use Rattle.sv_model.specs.declared.work.Step.{Step}
use Rattle.sv_model.specs.declared.work.Step.TheVariants.{Accesses, Groups, SetEvent, WaitEvent, ResetEvent}
use Rattle.sv_model.proofs.Growing.{gather-append}
use Rattle.sv_model.proofs.Lists.{from_flat_map, in_cons, in_first, all_enumerated}
use Rattle.sv_model.proofs.NoteGrowth.{enumerated}
use Rattle.sv_replies.proofs.ReportsGoOn.{in_map, some_cell, IsBelow}

fold_enumerated : (t : Trace) (before : Before) (n : ℕ) (steps : List Bound)
    → fold (before_next t) before (enumerate_from n steps) ≡ fold (with_step t) before steps
fold_enumerated t before n [] = refl
fold_enumerated t before n (b ∷ steps) = fold_enumerated t (with_step t before b) (n + 1) steps

noted_when : (t : Trace) (event k : ℕ) (before : Before) (b : Bound) → b.event ≡ event
    → noted_by t event before (k, b) ≡ noted k (notes_of t before b)
noted_when t event k before b e = ap (λ (test : Bool). if test then noted k (notes_of t before b) else [])
    (eq-eqb b.event event e)

pub more_notes : (t : Trace) (event : ℕ) (old more : List Bound) (b : Bound) → b.event ≡ event
    → notes_of_more t event old (more ++ b ∷ []) ≡ notes_of_more t event old more
    ++ noted (length (old ++ more)) (notes_of t (before_end t (old ++ more)) b)
more_notes t event old more b e =
    let n : ℕ = length old in
    let k : ℕ = length old + length more in
    let long : k ≡ length (old ++ more) = sym (length-append old more) in
    let before : fold (before_next t) (before_end t old) (enumerate_from n more)
    ≡ before_end t (old ++ more) = fold_enumerated t (before_end t old) n more
    ∙ sym (fold-append (with_step t) nothing_before old more) in
    ap (gather (before_next t) (noted_by t event) (before_end t old)) (enumerated n more (b ∷ []))
    ∙ gather-append (before_next t) (noted_by t event) (before_end t old) (enumerate_from n more)
    ((k, b) ∷ [])
    ∙ ap (λ (ns : List Noted). notes_of_more t event old more ++ ns) (
    append-nil (noted_by t event (fold (before_next t) (before_end t old) (enumerate_from n more)) (k, b))
    ∙ noted_when t event k (fold (before_next t) (before_end t old) (enumerate_from n more)) b e
    ∙ (λ j. noted (long j) (notes_of t (before j) b)))

all_noted : (k bound : ℕ) → k < bound → (notes : List Note) → All (IsBelow bound) (noted k notes)
all_noted k bound lt notes = All-map (IsBelow bound) (λ (n : Note). record { step = k; note = n }) notes
    (λ i d l. lt)

noted_if : (k bound : ℕ) (b : Bool) → k < bound → (notes : List Note)
    → All (IsBelow bound) (if b then noted k notes else [])
noted_if k bound true lt notes = all_noted k bound lt notes
noted_if k bound false lt notes = All-nil (IsBelow bound)

pub notes_below : (t : Trace) (event bound : ℕ) (before : Before) (n : ℕ) (more : List Bound)
    → n + length more ≤ bound
    → All (IsBelow bound) (gather (before_next t) (noted_by t event) before (enumerate_from n more))
notes_below t event bound before n [] le = All-nil (IsBelow bound)
notes_below t event bound before n (b ∷ more) le =
    All-append (IsBelow bound) (noted_by t event before (n, b))
    (gather (before_next t) (noted_by t event) (before_next t before (n, b))
    (enumerate_from (n + 1) more))
    (noted_if n bound (b.event == event) (omega (arith, le)) (notes_of t before b))
    (notes_below t event bound (before_next t before (n, b)) (n + 1) more (omega (arith, le)))

-- Notes cell by cell.

layout_behind : (k : ℕ) (n : LayoutNote) (cs : List Cell)
    → map (λ (c : Cell). note.Layout (record n { area = alone c; reports_before = k })) cs
    ≡ map (note_behind k) (map (λ (c : Cell). note.Layout (record n { area = alone c })) cs)
layout_behind k n [] = refl
layout_behind k n (c ∷ cs) = ap (λ (ns : List Note). note.Layout
    (record n { area = alone c; reports_before = k }) ∷ ns) (layout_behind k n cs)

owner_behind : (k : ℕ) (n : OwnerNote) (cs : List Cell)
    → map (λ (c : Cell). note.Owner (record n { area = alone c; reports_before = k })) cs
    ≡ map (note_behind k) (map (λ (c : Cell). note.Owner (record n { area = alone c })) cs)
owner_behind k n [] = refl
owner_behind k n (c ∷ cs) = ap (λ (ns : List Note). note.Owner
    (record n { area = alone c; reports_before = k }) ∷ ns) (owner_behind k n cs)

note_cells_behind : (k : ℕ) (n : Note) → note_cells (note_behind k n) ≡ map (note_behind k) (note_cells n)
note_cells_behind k (note.Layout n) = layout_behind k n (cells_of n.area)
note_cells_behind k (note.Owner n) = owner_behind k n (cells_of n.area)
note_cells_behind k (note.Event n) = refl
note_cells_behind k (note.Timeline n) = refl
note_cells_behind k (note.Fence n) = refl

cells_behind : (k : ℕ) (ns : List Note) → cells_of_notes (map (note_behind k) ns)
    ≡ map (note_behind k) (cells_of_notes ns)
unfolding cells_of_notes
cells_behind k [] = refl
cells_behind k (n ∷ ns) = (λ j. note_cells_behind k n j ++ cells_behind k ns j)
    ∙ sym (map-append (note_behind k) (note_cells n) (flat_map note_cells ns))

cells_append : (a b : List Note) → cells_of_notes (a ++ b) ≡ cells_of_notes a ++ cells_of_notes b
unfolding cells_of_notes
cells_append a b = flat_map-append note_cells a b

-- Notes that cannot be joined.

-- on layouts, of this step, and behind no reports yet
abbrev pub IsLayoutAt : ℕ → Note → Type 0
IsLayoutAt step (note.Layout n) = (n.step ≡ step) × (n.reports_before ≡ 0)
IsLayoutAt step other = ⊥

abbrev pub IsOwnerAt : ℕ → Note → Type 0
IsOwnerAt step (note.Owner n) = (n.step ≡ step) × (n.reports_before ≡ 0)
IsOwnerAt step other = ⊥

abbrev pub IsFresh : Note → Type 0
IsFresh (note.Layout n) = n.reports_before ≡ 0
IsFresh (note.Owner n) = n.reports_before ≡ 0
IsFresh other = Unit {0}

notes_apart : (a b : List Note) → AreNotesApart a → AreNotesApart b
    → ((n m : Note) → Contains a n → Contains b m → ¬ NotesJoin n m) → AreNotesApart (a ++ b)
notes_apart [] b x y across = y
notes_apart (n ∷ []) [] x y across = tt
notes_apart (n ∷ []) (m ∷ b) x y across = (across n m (in_first n []) (in_first m b), y)
notes_apart (n ∷ m ∷ a) b x y across = (
  x.0,
  notes_apart (m ∷ a) b x.1 y
      (λ p q on_p on_q. across p q (in_cons n (m ∷ a) p on_p) on_q),
)

behind_runs : (k : ℕ) (n : Note) → IsNoteRun n → IsNoteRun (note_behind k n)
behind_runs k (note.Layout n) is = is
behind_runs k (note.Owner n) is = is
behind_runs k (note.Event n) is = is
behind_runs k (note.Timeline n) is = is
behind_runs k (note.Fence n) is = is

behind_joins : (k : ℕ) (n m : Note) → IsFresh n → IsFresh m → NotesJoin (note_behind k n) (note_behind k m)
    → NotesJoin n m
behind_joins k (note.Layout n) (note.Layout m) f g j = record {
  same = (λ i. record n { area = m.area; reports_before = f i })
      ∙ ap (λ (x : LayoutNote). record x { reports_before = 0 }) j.same
      ∙ (λ i. record m { reports_before = sym g i });
  follows = j.follows;
}
behind_joins k (note.Owner n) (note.Owner m) f g j = record {
  same = (λ i. record n { area = m.area; reports_before = f i })
      ∙ ap (λ (x : OwnerNote). record x { reports_before = 0 }) j.same
      ∙ (λ i. record m { reports_before = sym g i });
  follows = j.follows;
}
behind_joins k (note.Layout n) (note.Owner m) f g j = absurd j
behind_joins k (note.Layout n) (note.Event m) f g j = absurd j
behind_joins k (note.Layout n) (note.Timeline m) f g j = absurd j
behind_joins k (note.Layout n) (note.Fence m) f g j = absurd j
behind_joins k (note.Owner n) (note.Layout m) f g j = absurd j
behind_joins k (note.Owner n) (note.Event m) f g j = absurd j
behind_joins k (note.Owner n) (note.Timeline m) f g j = absurd j
behind_joins k (note.Owner n) (note.Fence m) f g j = absurd j
behind_joins k (note.Event n) m f g j = absurd j
behind_joins k (note.Timeline n) m f g j = absurd j
behind_joins k (note.Fence n) m f g j = absurd j

behind_apart : (k : ℕ) (ns : List Note) → All IsFresh ns → AreNotesApart ns
    → AreNotesApart (map (note_behind k) ns)
behind_apart k [] all x = tt
behind_apart k (n ∷ []) all x = tt
behind_apart k (n ∷ m ∷ ns) all x =
    let rest = All-tail IsFresh n (m ∷ ns) all in (
      (λ j. x.0 (behind_joins k n m (All-head IsFresh n (m ∷ ns) all) (All-head IsFresh m ns rest) j)),
      behind_apart k (m ∷ ns) rest x.1,
    )

-- notes in greatest runs, behind so many reports
pub behind_greatest : (k : ℕ) (cells ns : List Note) → All IsFresh ns → AreGreatestNotes cells ns
    → AreGreatestNotes (map (note_behind k) cells) (map (note_behind k) ns)
behind_greatest k cells ns fresh is = record {
  whole = cells_behind k ns ∙ ap (map (note_behind k)) is.whole;
  runs = All-map IsNoteRun (note_behind k) ns (All-weaker IsNoteRun
      (λ (n : Note). IsNoteRun (note_behind k n)) (behind_runs k) ns is.runs);
  apart = behind_apart k ns fresh is.apart;
}

pub greatest_append : (c d a b : List Note) → AreGreatestNotes c a → AreGreatestNotes d b
    → ((n m : Note) → Contains a n → Contains b m → ¬ NotesJoin n m) → AreGreatestNotes (c ++ d) (a ++ b)
greatest_append c d a b x y across = record {
  whole = cells_append a b ∙ (λ j. x.whole j ++ y.whole j);
  runs = All-append IsNoteRun a b x.runs y.runs;
  apart = notes_apart a b x.apart y.apart across;
}

-- What holds of each cell of a note holds of the note.

pub from_cells : (P : Note → Type 0) → ((n : Note) → IsNoteRun n
    → ((m : Note) → Contains (note_cells n) m → P m) → P n) → (cells ns : List Note)
    → AreGreatestNotes cells ns → All P cells → All P ns
unfolding cells_of_notes
from_cells P each cells ns is all = all_of P ns (λ n on. each n (All-contains IsNoteRun ns n is.runs on)
    (λ m within. All-contains P (cells_of_notes ns) m (subst (All P) (sym is.whole) all)
    (from_flat_map note_cells ns n m on within)))

pub layout_each : (step : ℕ) (n : Note) → IsNoteRun n
    → ((m : Note) → Contains (note_cells n) m → IsLayoutAt step m) → IsLayoutAt step n
layout_each step (note.Layout n) run each = let c = some_cell n.area run in
    each (note.Layout (record n { area = alone c.0 }))
    (in_map (λ (d : Cell). note.Layout (record n { area = alone d })) (cells_of n.area) c.0 c.1)
layout_each step (note.Owner n) run each = let c = some_cell n.area run in
    absurd (each (note.Owner (record n { area = alone c.0 }))
    (in_map (λ (d : Cell). note.Owner (record n { area = alone d })) (cells_of n.area) c.0 c.1))
layout_each step (note.Event n) run each = absurd (each (note.Event n) (in_first (note.Event n) []))
layout_each step (note.Timeline n) run each = absurd (each (note.Timeline n) (in_first (note.Timeline n) []))
layout_each step (note.Fence n) run each = absurd (each (note.Fence n) (in_first (note.Fence n) []))

pub owner_each : (step : ℕ) (n : Note) → IsNoteRun n →
    ((m : Note) → Contains (note_cells n) m → IsOwnerAt step m) → IsOwnerAt step n
owner_each step (note.Owner n) run each = let c = some_cell n.area run in
    each (note.Owner (record n { area = alone c.0 }))
    (in_map (λ (d : Cell). note.Owner (record n { area = alone d })) (cells_of n.area) c.0 c.1)
owner_each step (note.Layout n) run each = let c = some_cell n.area run in
    absurd (each (note.Layout (record n { area = alone c.0 }))
    (in_map (λ (d : Cell). note.Layout (record n { area = alone d })) (cells_of n.area) c.0 c.1))
owner_each step (note.Event n) run each = absurd (each (note.Event n) (in_first (note.Event n) []))
owner_each step (note.Timeline n) run each = absurd (each (note.Timeline n) (in_first (note.Timeline n) []))
owner_each step (note.Fence n) run each = absurd (each (note.Fence n) (in_first (note.Fence n) []))

-- The notes of a step are of it.

gather_all : {S X Y : Type 0} (P : Y → Type 0) (Q : X → Type 0) (next : S → X → S) (gives : S → X → List Y)
    → ((s : S) (x : X) → Q x → All P (gives s x)) → (s : S) (xs : List X) → All Q xs
    → All P (gather next gives s xs)
gather_all P Q next gives each s [] all = All-nil P
gather_all P Q next gives each s (x ∷ xs) all = All-append P (gives s x) (gather next gives (next s x) xs)
    (each s x (All-head Q x xs all)) (gather_all P Q next gives each (next s x) xs (All-tail Q x xs all))

flat_map_all : {X Y : Type 0} (P : Y → Type 0) (Q : X → Type 0) (f : X → List Y)
    → ((x : X) → Q x → All P (f x)) → (xs : List X) → All Q xs → All P (flat_map f xs)
flat_map_all P Q f each [] all = All-nil P
flat_map_all P Q f each (x ∷ xs) all = All-append P (f x) (flat_map f xs) (each x (All-head Q x xs all))
    (flat_map_all P Q f each xs (All-tail Q x xs all))

abbrev Any : {X : Type 0} → X → Type 0
Any x = Unit {0}

all_any : {X : Type 0} (xs : List X) → All (λ (x : X). Any x) xs
all_any xs k d lt = tt

abbrev IsGroupAt : ℕ → Group → Type 0
IsGroupAt step g = (g.step ≡ step) × All (λ (a : Access). a.step ≡ step) g.transitions

groups_at : (step : ℕ) (gs : List Group) → IsNumbered step (Groups gs) → All (IsGroupAt step) gs
groups_at step gs is = all_of (IsGroupAt step) gs
    (λ g on. (
      is.groups g on,
      all_of (λ (a : Access). a.step ≡ step) g.transitions
          (λ a at. is.accesses a (from_flat_map (λ (h : Group). h.transitions) gs g a on at)),
    ))

abbrev IsClaimAt : ℕ → Claim → Type 0
IsClaimAt step x = x.step ≡ step

claims_at : (step : ℕ) (s : Step) → IsNumbered step s → All (IsClaimAt step) (claims_of s)
claims_at step (Accesses list) is = All-map (IsClaimAt step) access_claim list
    (all_of (λ (a : Access). a.step ≡ step) list is.accesses)
claims_at step (Groups list) is = flat_map_all (IsClaimAt step)
    (λ (x : ℕ × Group). IsGroupAt step x.1) group_claims
    (λ x at. All-map (IsClaimAt step) (old_claim x.0 x.1) (enumerate_from 0 x.1.olds) (λ k d lt. at.0))
    (enumerate_from 0 list) (all_enumerated (IsGroupAt step) 0 list (groups_at step list is))
claims_at step (SetEvent event place list) is = All-nil (IsClaimAt step)
claims_at step (WaitEvent event place) is = All-nil (IsClaimAt step)
claims_at step (ResetEvent event place) is = All-nil (IsClaimAt step)

layout_note_at : (step : ℕ) (x : Claim) (declared found : Layout) (c : Cell) → IsClaimAt step x
    → All (IsLayoutAt step) (layouts.note_at x declared found c)
layout_note_at step x declared found c at = by_test (same_layout declared found)
  where
    by_test : (b : Bool) → All (IsLayoutAt step) (if b then [] else layouts.layout_note x declared found c
        ∷ [])
    by_test true = All-nil (IsLayoutAt step)
    by_test false = All-cons (IsLayoutAt step) (layouts.layout_note x declared found c) [] (at, refl)
        (All-nil (IsLayoutAt step))

claim_notes_at : (t : Trace) (step : ℕ) (moved : List Moved) (x : Claim) → IsClaimAt step x
    → (o : Option Layout) → All (IsLayoutAt step) (layouts.notes_on t moved x o)
claim_notes_at t step moved x at None = All-nil (IsLayoutAt step)
claim_notes_at t step moved x at (Some declared) =
    flat_map_all (IsLayoutAt step) (λ (c : Cell). Any c)
    (λ (c : Cell). layouts.note_at x declared (layouts.layout_after t moved c) c)
    (λ c any. layout_note_at step x declared (layouts.layout_after t moved c) c at) (cells_of x.area)
    (all_any (cells_of x.area))

pub layout_notes_at : (t : Trace) (moved : List Moved) (step : ℕ) (s : Step) → IsNumbered step s
    → All (IsLayoutAt step) (layout_notes t moved s)
layout_notes_at t moved step s is = gather_all (IsLayoutAt step) (IsClaimAt step) moved_by (claim_notes t)
    (λ before x at. claim_notes_at t step before x at x.declared) moved (claims_of s) (claims_at step s is)

abbrev IsActionAt : ℕ → Action → Type 0
IsActionAt step x = x.step ≡ step

zipped_at : (step n : ℕ) (xs : List Access) (ys : List Old) → All (λ (a : Access). a.step ≡ step) xs
    → All (λ (x : ℕ × (Access × Old)). x.1.0.step ≡ step) (enumerate_from n (zip xs ys))
zipped_at step n [] ys all = All-nil (λ (x : ℕ × (Access × Old)). x.1.0.step ≡ step)
zipped_at step n (x ∷ xs) [] all = All-nil (λ (x : ℕ × (Access × Old)). x.1.0.step ≡ step)
zipped_at step n (x ∷ xs) (y ∷ ys) all = All-cons (λ (x : ℕ × (Access × Old)). x.1.0.step ≡ step)
    (n, (x, y)) (enumerate_from (n + 1) (zip xs ys)) (All-head (λ (a : Access). a.step ≡ step) x xs all)
    (zipped_at step (n + 1) xs ys (All-tail (λ (a : Access). a.step ≡ step) x xs all))

actions_with_at : (t : Trace) (step pos : ℕ) (g : Group) → IsGroupAt step g → (o : Option Transfer)
    → All (IsActionAt step) (actions_with t pos g o)
actions_with_at t step pos g at (Some x) = All-cons (IsActionAt step) (owners.transfer_action pos g x)
    [] at.0 (All-nil (IsActionAt step))
actions_with_at t step pos g at None = All-map (IsActionAt step) (owners.transition_action t pos)
    (enumerate_from 0 (zip g.transitions g.olds)) (zipped_at step 0 g.transitions g.olds at.1)

actions_at : (t : Trace) (step : ℕ) (s : Step) → IsNumbered step s → All (IsActionAt step) (actions_of t s)
actions_at t step (Accesses list) is = All-map (IsActionAt step) (access_action t) list
    (all_of (λ (a : Access). a.step ≡ step) list is.accesses)
actions_at t step (Groups list) is = flat_map_all (IsActionAt step) (λ (x : ℕ × Group). IsGroupAt step x.1)
    (group_actions t)
    (λ x at. actions_with_at t step x.0 x.1 at x.1.transfer)
    (enumerate_from 0 list) (all_enumerated (IsGroupAt step) 0 list (groups_at step list is))
actions_at t step (SetEvent event place list) is = All-nil (IsActionAt step)
actions_at t step (WaitEvent event place) is = All-nil (IsActionAt step)
actions_at t step (ResetEvent event place) is = All-nil (IsActionAt step)

owner_note_at : (step : ℕ) (x : Action) (found : Owner) (c : Cell) → IsActionAt step x
    → All (IsOwnerAt step) (owners.note_at x found c)
owner_note_at step x found c at = by_test (owners.fits x.deed found)
  where
    by_test : (b : Bool) → All (IsOwnerAt step) (if b then [] else owners.owner_note x found c ∷ [])
    by_test true = All-nil (IsOwnerAt step)
    by_test false = All-cons (IsOwnerAt step) (owners.owner_note x found c) [] (at, refl)
        (All-nil (IsOwnerAt step))

action_notes_at : (step : ℕ) (actions : List Action) (x : Action) → IsActionAt step x → (b : Bool)
    → All (IsOwnerAt step) (owners.notes_on actions x b)
action_notes_at step actions x at false = All-nil (IsOwnerAt step)
action_notes_at step actions x at true = flat_map_all (IsOwnerAt step) (λ (c : Cell). Any c)
    (λ (c : Cell). owners.note_at x (owners.owner_after actions c) c)
    (λ c any. owner_note_at step x (owners.owner_after actions c) c at) (cells_of x.area)
    (all_any (cells_of x.area))

pub owner_notes_at : (t : Trace) (actions : List Action) (step : ℕ) (s : Step) → IsNumbered step s
    → All (IsOwnerAt step) (owner_notes t actions s)
owner_notes_at t actions step s is = gather_all (IsOwnerAt step) (IsActionAt step) acted (action_notes t)
    (λ before x at. action_notes_at step before x at (has_owner t (area_resource x.area))) actions
    (actions_of t s) (actions_at t step s is)

-- The reply goes on.

none_cells : (ns : List Note) → All IsOnNone ns → cells_of_notes ns ≡ ns
unfolding cells_of_notes
none_cells [] all = refl
none_cells (note.Layout n ∷ ns) all = absurd (All-head IsOnNone (note.Layout n) ns all)
none_cells (note.Owner n ∷ ns) all = absurd (All-head IsOnNone (note.Owner n) ns all)
none_cells (note.Event n ∷ ns) all = ap (λ (ms : List Note). note.Event n ∷ ms)
    (none_cells ns (All-tail IsOnNone (note.Event n) ns all))
none_cells (note.Timeline n ∷ ns) all = ap (λ (ms : List Note). note.Timeline n ∷ ms)
    (none_cells ns (All-tail IsOnNone (note.Timeline n) ns all))
none_cells (note.Fence n ∷ ns) all = ap (λ (ms : List Note). note.Fence n ∷ ms)
    (none_cells ns (All-tail IsOnNone (note.Fence n) ns all))

none_run : (n : Note) → IsOnNone n → IsNoteRun n
none_run (note.Layout n) is = absurd is
none_run (note.Owner n) is = absurd is
none_run (note.Event n) is = tt
none_run (note.Timeline n) is = tt
none_run (note.Fence n) is = tt

pub none_joins : (n m : Note) → IsOnNone m → ¬ NotesJoin n m
none_joins n (note.Layout m) is j = absurd is
none_joins n (note.Owner m) is j = absurd is
none_joins (note.Layout n) (note.Event m) is j = absurd j
none_joins (note.Owner n) (note.Event m) is j = absurd j
none_joins (note.Event n) (note.Event m) is j = absurd j
none_joins (note.Timeline n) (note.Event m) is j = absurd j
none_joins (note.Fence n) (note.Event m) is j = absurd j
none_joins (note.Layout n) (note.Timeline m) is j = absurd j
none_joins (note.Owner n) (note.Timeline m) is j = absurd j
none_joins (note.Event n) (note.Timeline m) is j = absurd j
none_joins (note.Timeline n) (note.Timeline m) is j = absurd j
none_joins (note.Fence n) (note.Timeline m) is j = absurd j
none_joins (note.Layout n) (note.Fence m) is j = absurd j
none_joins (note.Owner n) (note.Fence m) is j = absurd j
none_joins (note.Event n) (note.Fence m) is j = absurd j
none_joins (note.Timeline n) (note.Fence m) is j = absurd j
none_joins (note.Fence n) (note.Fence m) is j = absurd j

none_apart : (ns : List Note) → All IsOnNone ns → AreNotesApart ns
none_apart [] all = tt
none_apart (n ∷ []) all = tt
none_apart (n ∷ m ∷ ns) all = let rest = All-tail IsOnNone n (m ∷ ns) all in
    (none_joins n m (All-head IsOnNone m ns rest), none_apart (m ∷ ns) rest)

pub none_greatest : (ns : List Note) → All IsOnNone ns → AreGreatestNotes ns ns
none_greatest ns all = record {
  whole = none_cells ns all;
  runs = All-weaker IsOnNone IsNoteRun none_run ns all;
  apart = none_apart ns all;
}

pub none_behind : (k : ℕ) (n : Note) → IsOnNone n → IsOnNone (note_behind k n)
none_behind k (note.Layout n) is = is
none_behind k (note.Owner n) is = is
none_behind k (note.Event n) is = is
none_behind k (note.Timeline n) is = is
none_behind k (note.Fence n) is = is

-- notes of a step, behind so many reports
abbrev pub AtLayout : ℕ → Note → Type 0
AtLayout step (note.Layout n) = n.step ≡ step
AtLayout step other = ⊥

abbrev pub AtOwner : ℕ → Note → Type 0
AtOwner step (note.Owner n) = n.step ≡ step
AtOwner step other = ⊥

pub layout_behind_at : (k step : ℕ) (n : Note) → IsLayoutAt step n → AtLayout step (note_behind k n)
layout_behind_at k step (note.Layout n) is = is.0
layout_behind_at k step (note.Owner n) is = absurd is
layout_behind_at k step (note.Event n) is = absurd is
layout_behind_at k step (note.Timeline n) is = absurd is
layout_behind_at k step (note.Fence n) is = absurd is

pub owner_behind_at : (k step : ℕ) (n : Note) → IsOwnerAt step n → AtOwner step (note_behind k n)
owner_behind_at k step (note.Owner n) is = is.0
owner_behind_at k step (note.Layout n) is = absurd is
owner_behind_at k step (note.Event n) is = absurd is
owner_behind_at k step (note.Timeline n) is = absurd is
owner_behind_at k step (note.Fence n) is = absurd is

pub layout_fresh : (step : ℕ) (n : Note) → IsLayoutAt step n → IsFresh n
layout_fresh step (note.Layout n) is = is.1
layout_fresh step (note.Owner n) is = absurd is
layout_fresh step (note.Event n) is = absurd is
layout_fresh step (note.Timeline n) is = absurd is
layout_fresh step (note.Fence n) is = absurd is

pub owner_fresh : (step : ℕ) (n : Note) → IsOwnerAt step n → IsFresh n
owner_fresh step (note.Owner n) is = is.1
owner_fresh step (note.Layout n) is = absurd is
owner_fresh step (note.Event n) is = absurd is
owner_fresh step (note.Timeline n) is = absurd is
owner_fresh step (note.Fence n) is = absurd is

pub layout_below : (step : ℕ) (n : Note) → AtLayout step n → IsNoteBelow (step + 1) n
layout_below step (note.Layout n) is = omega (arith, is)
layout_below step (note.Owner n) is = absurd is
layout_below step (note.Event n) is = absurd is
layout_below step (note.Timeline n) is = absurd is
layout_below step (note.Fence n) is = absurd is

pub owner_below : (step : ℕ) (n : Note) → AtOwner step n → IsNoteBelow (step + 1) n
owner_below step (note.Owner n) is = omega (arith, is)
owner_below step (note.Layout n) is = absurd is
owner_below step (note.Event n) is = absurd is
owner_below step (note.Timeline n) is = absurd is
owner_below step (note.Fence n) is = absurd is

pub none_below : (bound : ℕ) (n : Note) → IsOnNone n → IsNoteBelow bound n
none_below bound (note.Layout n) is = absurd is
none_below bound (note.Owner n) is = absurd is
none_below bound (note.Event n) is = tt
none_below bound (note.Timeline n) is = tt
none_below bound (note.Fence n) is = tt

pub more_below : (bound : ℕ) (n : Note) → IsNoteBelow bound n → IsNoteBelow (bound + 1) n
more_below bound (note.Layout n) is = omega (arith, is)
more_below bound (note.Owner n) is = omega (arith, is)
more_below bound (note.Event n) is = tt
more_below bound (note.Timeline n) is = tt
more_below bound (note.Fence n) is = tt

-- a note of an earlier step, or one on other things, goes not on
pub before_layout : (step : ℕ) (n m : Note) → IsNoteBelow step n → AtLayout step m → ¬ NotesJoin n m
before_layout step (note.Layout n) (note.Layout m) lt is j = let e : n.step ≡ m.step =
    ap (λ (x : LayoutNote). x.step) j.same in omega (arith, lt, is, e)
before_layout step (note.Owner n) (note.Layout m) lt is j = absurd j
before_layout step (note.Event n) (note.Layout m) lt is j = absurd j
before_layout step (note.Timeline n) (note.Layout m) lt is j = absurd j
before_layout step (note.Fence n) (note.Layout m) lt is j = absurd j
before_layout step n (note.Owner m) lt is j = absurd is
before_layout step n (note.Event m) lt is j = absurd is
before_layout step n (note.Timeline m) lt is j = absurd is
before_layout step n (note.Fence m) lt is j = absurd is

pub before_owner : (step : ℕ) (n m : Note) → IsNoteBelow step n → AtOwner step m → ¬ NotesJoin n m
before_owner step (note.Owner n) (note.Owner m) lt is j = let e : n.step ≡ m.step =
    ap (λ (x : OwnerNote). x.step) j.same in omega (arith, lt, is, e)
before_owner step (note.Layout n) (note.Owner m) lt is j = absurd j
before_owner step (note.Event n) (note.Owner m) lt is j = absurd j
before_owner step (note.Timeline n) (note.Owner m) lt is j = absurd j
before_owner step (note.Fence n) (note.Owner m) lt is j = absurd j
before_owner step n (note.Layout m) lt is j = absurd is
before_owner step n (note.Event m) lt is j = absurd is
before_owner step n (note.Timeline m) lt is j = absurd is
before_owner step n (note.Fence m) lt is j = absurd is

pub layout_owner : (step : ℕ) (n m : Note) → AtLayout step n → AtOwner step m → ¬ NotesJoin n m
layout_owner step (note.Layout n) (note.Owner m) at is j = absurd j
layout_owner step (note.Layout n) (note.Layout m) at is j = absurd is
layout_owner step (note.Layout n) (note.Event m) at is j = absurd is
layout_owner step (note.Layout n) (note.Timeline m) at is j = absurd is
layout_owner step (note.Layout n) (note.Fence m) at is j = absurd is
layout_owner step (note.Owner n) m at is j = absurd at
layout_owner step (note.Event n) m at is j = absurd at
layout_owner step (note.Timeline n) m at is j = absurd at
layout_owner step (note.Fence n) m at is j = absurd at
