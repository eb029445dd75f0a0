-- A reply that stands for the reply to an event, in greatest runs, is that reply.
use Rattle.std.proofs.Common.{◌≡◌, ℕ, zero, suc, ◌+◌, ◌-◌, ◌<◌, ◌≤◌, inl, inr, Contains, List, [], ◌∷◌}
use Rattle.std.proofs.Common.{◌++◌, length, get_or, map, take, refl, sym, ◌∙◌, ap, subst, arith, append-nil}
use Rattle.std.specs.List.{All, AllPairs, flat_map, range_with_len}
use Rattle.std.proofs.lemmas.List.{get_or-map, get_or-take, length-map, length-take-le, map-append, map_more}
use Rattle.std.proofs.lemmas.List.Concat.{get_or-flat_map}
use Rattle.std.proofs.lemmas.List.Folds.{length-flat_map-take}
use Rattle.std.proofs.lemmas.List.FromFn.{length-map-range_with_len}
use Rattle.sv_model.specs.Cells.{alone, cells_of}
use Rattle.sv_model.specs.Notes.{AreGreatestNotes, Noted, cells_of_notes, note_cells, notes_in}
use Rattle.sv_model.specs.Replies.{IsReply, among, note_behind, reports_up_to}
use Rattle.sv_model.specs.Reports.{IsRun, Spot, SpotBefore, spots, spots_of}
use Rattle.sv_model.specs.declared.line.Mark.{Mark}
use Rattle.sv_model.specs.declared.line.Trace.{Trace}
use Rattle.sv_model.specs.declared.work.Access.{Access}
use Rattle.sv_model.specs.declared.work.Area.{Area}
use Rattle.sv_model.specs.declared.work.Area.TheVariants.{Bytes, Image}
use Rattle.sv_model.specs.declared.work.Cell.{Cell}
use Rattle.sv_model.specs.declared.work.Cell.TheVariants.{Byte, Texel}
use Rattle.sv_model.specs.declared.work.Note.{Note}
use Rattle.sv_model.specs.declared.work.Note.TheVariants as note
use Rattle.sv_model.specs.declared.work.Reply.{Reply}
use Rattle.sv_model.specs.declared.work.Report.{Report}
use Rattle.sv_runs.proofs.JoinedNotes.{cells_more}
use Rattle.sv_runs.specs.Joined.{AreNoteRuns}
use Rattle.sv_runs.specs.Runs.{AreRuns}
use Rattle.sv_runs.specs.Grouped.{HasRun, IsGrouped, IsNotLater, Moves, StandsFor, moved}

-- ---- the reports come by step

more_than_none : (mip n : ℕ) (f : ℕ → List Cell) → n ≡ 1 → 0 < length (f mip) → 0
    < length (flat_map f (range_with_len mip n))
more_than_none mip n f e lt =
    subst (λ k. 0 < length (flat_map f (range_with_len mip k))) (sym e)
    (let sum : length (flat_map f (mip ∷ [])) ≡ length (f mip ++ []) = refl in
    let same : length (f mip ++ []) ≡ length (f mip) = ap length (append-nil (f mip)) in
    subst (λ n. 0 < n) (sym (sum ∙ same)) lt)

some_cells : (a : Area) → IsRun a → 0 < length (cells_of a)
unfolding cells_of
some_cells (Bytes res span) run =
    let long = length-map-range_with_len (λ at. Byte res at) span.start (span.end - span.start) in
    omega (arith, run, long)
some_cells (Image res box) run =
    let row : ℕ → List Cell = λ mip. map (λ layer. Texel res mip layer)
    (range_with_len box.layer box.layers) in
    let long = length-map-range_with_len (λ layer. Texel res box.mip layer) box.layer box.layers in
    more_than_none box.mip box.mips row run.0 (let h = run.1 in omega (arith, h, long))

some_spots : (r : Report) → HasRun r → 0 < length (spots r)
some_spots r run =
    let cells = some_cells r.area run.0 in
    let spot : Cell → Spot = λ cell. record {
      cell = cell;
      later = r.later;
      earlier = r.earlier;
      kind = r.kind;
    } in
    let long = length-map (cells_of r.area) spot in
    omega (arith, cells, long)

-- the first spot of a report is of its later access
first_spot : (r : Report) (d : Spot) → HasRun r → (get_or (spots r) 0 d).later ≡ r.later
first_spot r d run =
    let c : Cell = Byte 0 0 in
    let spot : Cell → Spot = λ cell. record {
      cell = cell;
      later = r.later;
      earlier = r.earlier;
      kind = r.kind;
    } in
    ap (λ (s : Spot). s.later) (get_or-map spot (cells_of r.area) 0 c d (some_cells r.area run.0))

not_later : (s t : Spot) → SpotBefore s t → s.later.step ≤ t.later.step
not_later s t (inl (inl lt)) = omega (arith, lt)
not_later s t (inl (inr at)) = (let e = at.0 in omega (arith, e))
not_later s t (inr at) = (let e = at.0 in omega (arith, e))

-- where the spots of a report begin
abbrev start_of : List Report → ℕ → ℕ
start_of rs i = length (flat_map spots (take i rs))

begins_before : (rs : List Report) (i j : ℕ) (d : Report) → i < j → j < length rs → HasRun (get_or rs i d)
    → start_of rs i < start_of rs j
begins_before rs i j d lt within run =
    let inside : i < length (take j rs) = subst (λ n. i < n)
    (sym (length-take-le j rs (omega (arith, within)))) lt in
    let more = length-flat_map-take spots (take j rs) i d inside in
    let first : take i (take j rs) ≡ take i rs = take_of_take i j rs (omega (arith, lt)) in
    let at : get_or (take j rs) i d ≡ get_or rs i d = get_or-take j rs i d lt in
    let some : 0 < length (spots (get_or rs i d)) = some_spots (get_or rs i d) run in
    let sum : start_of rs i + length (spots (get_or rs i d)) ≤ start_of rs j =
    subst (λ (r : Report). start_of rs i + length (spots r) ≤ start_of rs j) at
    (subst (λ (xs : List Report). length (flat_map spots xs) + length (spots (get_or (take j rs) i d))
    ≤ start_of rs j) first more) in
    omega (arith, some, sum)
  where
    take_of_take : (i j : ℕ) (xs : List Report) → i ≤ j → take i (take j xs) ≡ take i xs
    take_of_take zero j xs le = refl
    take_of_take (suc i) zero xs le = absurd (omega (arith, le))
    take_of_take (suc i) (suc j) [] le = refl
    take_of_take (suc i) (suc j) (x ∷ xs) le = ap (λ ys. x ∷ ys) (take_of_take i j xs (omega (arith, le)))

pub by_step : (rs : List Report) → All HasRun rs → AllPairs SpotBefore (spots_of rs) → AllPairs IsNotLater rs
unfolding spots_of
by_step rs runs ord i j d lt within =
    let early : i < length rs = omega (arith, lt, within) in
    let run_i = runs i d early in
    let run_j = runs j d within in
    let s : Spot = record {
      cell = Byte 0 0;
      later = (get_or rs i d).later;
      earlier = (get_or rs i d).earlier;
      kind = (get_or rs i d).kind;
    } in
    let at_i = get_or-flat_map spots rs i 0 d s early (some_spots (get_or rs i d) run_i) in
    let at_j = get_or-flat_map spots rs j 0 d s within (some_spots (get_or rs j d) run_j) in
    let before = begins_before rs i j d lt within run_i in
    let some = some_spots (get_or rs j d) run_j in
    let sum = length-flat_map-take spots rs j d within in
    let whole : start_of rs j + 0 < length (flat_map spots rs) = omega (arith, some, sum) in
    let le = not_later (get_or (flat_map spots rs) (start_of rs i + 0) s)
    (get_or (flat_map spots rs) (start_of rs j + 0) s)
    (ord (start_of rs i + 0) (start_of rs j + 0) s (omega (arith, before)) whole) in
    let later_i : (get_or (flat_map spots rs) (start_of rs i + 0) s).later ≡ (get_or rs i d).later =
    ap (λ (x : Spot). x.later) at_i ∙ first_spot (get_or rs i d) s run_i in
    let later_j : (get_or (flat_map spots rs) (start_of rs j + 0) s).later ≡ (get_or rs j d).later =
    ap (λ (x : Spot). x.later) at_j ∙ first_spot (get_or rs j d) s run_j in
    subst (λ (a : Access). a.step ≤ (get_or rs j d).later.step) later_i
    (subst (λ (a : Access). (get_or (flat_map spots rs) (start_of rs i + 0) s).later.step ≤ a.step)
    later_j le)

-- ---- the notes

moved_cells : (to : ℕ → ℕ) (n : Note) → note_cells (moved to n) ≡ map (moved to) (note_cells n)
moved_cells to (note.Layout n) = each (cells_of n.area) where
  each : (cs : List Cell) → map (λ (c : Cell). note.Layout
      (record n { reports_before = to n.reports_before; area = alone c })) cs
      ≡ map (moved to) (map (λ (c : Cell). note.Layout (record n { area = alone c })) cs)
  each [] = refl
  each (c ∷ cs) = ap (λ (ns : List Note). note.Layout
      (record n { reports_before = to n.reports_before; area = alone c }) ∷ ns) (each cs)
moved_cells to (note.Owner n) = each (cells_of n.area) where
  each : (cs : List Cell) → map (λ (c : Cell). note.Owner
      (record n { reports_before = to n.reports_before; area = alone c })) cs
      ≡ map (moved to) (map (λ (c : Cell). note.Owner (record n { area = alone c })) cs)
  each [] = refl
  each (c ∷ cs) = ap (λ (ns : List Note). note.Owner
      (record n { reports_before = to n.reports_before; area = alone c }) ∷ ns) (each cs)
moved_cells to (note.Event n) = refl
moved_cells to (note.Timeline n) = refl
moved_cells to (note.Fence n) = refl

all_moved : (to : ℕ → ℕ) (ns : List Note) → cells_of_notes (map (moved to) ns)
    ≡ map (moved to) (cells_of_notes ns)
unfolding cells_of_notes
all_moved to [] = refl
all_moved to (n ∷ ns) = (λ j. moved_cells to n j ++ all_moved to ns j)
    ∙ sym (map-append (moved to) (note_cells n) (flat_map note_cells ns))

moved_behind : (to : ℕ → ℕ) (k : ℕ) (n : Note) → moved to (note_behind k n) ≡ note_behind (to k) n
moved_behind to k (note.Layout n) = refl
moved_behind to k (note.Owner n) = refl
moved_behind to k (note.Event n) = refl
moved_behind to k (note.Timeline n) = refl
moved_behind to k (note.Fence n) = refl

moved_among : (to : ℕ → ℕ) (rs gs : List Report) (ns : List Noted)
    → ((step : ℕ) → to (reports_up_to rs step) ≡ reports_up_to gs step) → map (moved to) (among rs ns)
    ≡ among gs ns
moved_among to rs gs [] moves = refl
moved_among to rs gs (n ∷ ns) moves = (λ j. (moved_behind to (reports_up_to rs n.step) n.note
    ∙ ap (λ k. note_behind k n.note) (moves n.step)) j ∷ moved_among to rs gs ns moves j)

-- one more note is moved
pub one_moved : (to : ℕ → ℕ) (notes : List Note) (i : ℕ) (d n : Note) (old new : List Note) → i
    < length notes → n ≡ moved to (get_or notes i d)
    → cells_of_notes old ≡ cells_of_notes (map (moved to) (take i notes)) → cells_of_notes new
    ≡ cells_of_notes old ++ note_cells n
    → cells_of_notes new ≡ cells_of_notes (map (moved to) (take (i + 1) notes))
one_moved to notes i d n old new lt at is whole =
    whole ∙ (λ j. is j ++ note_cells (at j))
    ∙ sym (cells_more (map (moved to) (take i notes)) (moved to (get_or notes i d)))
    ∙ ap cells_of_notes (sym (map_more (moved to) notes i d lt))

-- ---- the reply

pub grouped_is_reply : (t : Trace) (history : List Mark) (event : ℕ) (reply grouped : Reply)
    → All HasRun reply.reports → IsGrouped reply grouped → StandsFor t history event reply
    → IsReply t history event grouped
grouped_is_reply t history event reply grouped runs is stands = record {
  reports = record {
    only = λ s on. stands.only s (subst (λ (ss : List Spot). Contains ss s) whole on);
    all = λ s in_event. subst (λ (ss : List Spot). Contains ss s) (sym whole) (stands.all s in_event);
    in_order = subst (AllPairs SpotBefore) (sym whole) stands.in_order;
    runs = record { whole = refl; runs = is.reports.runs; apart = is.reports.apart };
  };
  notes = subst (λ (cells : List Note). AreGreatestNotes cells grouped.notes) noted is.notes;
} where
  whole : spots_of grouped.reports ≡ spots_of reply.reports
  whole = is.reports.whole

  noted : cells_of_notes (map (moved is.to) reply.notes) ≡ among grouped.reports (notes_in t history event)
  noted = all_moved is.to reply.notes ∙ ap (map (moved is.to)) stands.notes
      ∙ moved_among is.to reply.reports grouped.reports (notes_in t history event)
      (is.moves (by_step reply.reports runs stands.in_order))

pub grouped_is : (reply : Reply) (given : List Report) (noted : List Note) (reports : List Report)
    (numbers ms : List ℕ) (notes : List Note) → given ≡ reply.reports → noted ≡ reply.notes
    → spots_of reports ≡ spots_of given → AreRuns reports
    → Moves given reports (λ (k : ℕ). get_or numbers k 0) → ms ≡ numbers
    → cells_of_notes notes ≡ cells_of_notes (map (moved (λ (k : ℕ). get_or ms k 0)) noted)
    → AreNoteRuns notes → IsGrouped reply (record { reports = reports; notes = notes })
grouped_is reply given noted reports numbers ms notes g n whole runs moves same cells note_runs = record {
  reports = record { whole = whole ∙ ap spots_of g; runs = runs.runs; apart = runs.apart };
  to = λ (k : ℕ). get_or numbers k 0;
  moves = subst (λ (rs : List Report). Moves rs reports (λ (k : ℕ). get_or numbers k 0)) g moves;
  notes = record {
    whole = cells ∙ (λ j. cells_of_notes
        (map (moved (λ (k : ℕ). get_or (same j) k 0)) (n j)));
    runs = note_runs.runs;
    apart = note_runs.apart;
  };
}
