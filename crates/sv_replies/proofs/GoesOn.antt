-- The reply to an event goes on with the reports and the notes of one more step.
use Rattle.std.proofs.Common.{ℕ, ◌+◌, ◌-◌, ◌≤◌, ◌≡◌, inl, inr}
use Rattle.std.proofs.Common.{List, [], ◌∷◌, ◌++◌, length, map, sym}
use Rattle.std.proofs.Common.{ap, subst, ◌∙◌, arith, append_assoc, length-append, Contains}
use Rattle.std.specs.List.{All}
use Rattle.std.proofs.lemmas.List.{length-map, map-append}
use Rattle.std.proofs.lemmas.List.Elements.{All-append, All-contains, All-map}
use Rattle.std.proofs.lemmas.List.Elements.{All-weaker}
use Rattle.std.proofs.lemmas.List.Elements.{Contains-append_cases}
use Rattle.sv_model.specs.Places.{Bound}
use Rattle.sv_model.specs.Layouts.{layout_notes}
use Rattle.sv_model.specs.Notes.{AreGreatestNotes, Noted}
use Rattle.sv_model.specs.Notes.{noted, notes_of}
use Rattle.sv_model.specs.Owners.{owner_notes}
use Rattle.sv_model.specs.Replies.{among, note_behind, reports_up_to}
use Rattle.sv_model.specs.ReplyLaws.{before_end, notes_of_more}
use Rattle.sv_model.specs.Reports.{AreNumbered, AreReportsFrom, IsNumbered}
use Rattle.sv_model.specs.Reports.{spots_of}
use Rattle.sv_model.specs.declared.line.Trace.{Trace}
use Rattle.sv_model.specs.declared.work.Note.{Note}
use Rattle.sv_replies.specs.Replying.{IsNoteBelow, IsOnNone, IsReplySoFar, steps_in}
use Rattle.sv_model.specs.declared.work.Reply.{Reply}
use Rattle.sv_model.specs.declared.work.Report.{Report}
use Rattle.sv_model.specs.declared.work.Step.{Step}
use Rattle.sv_runs.specs.Runs.{AreRuns}
use Rattle.sv_replies.proofs.ReportsGoOn.{spots_append, reports_below, reports_from, runs_go_on, among_more}
use Rattle.sv_replies.proofs.ReportsGoOn.{among_last, reports_go_on}
use Rattle.sv_replies.proofs.NotesGoOn.{more_notes, notes_below, IsLayoutAt, IsOwnerAt, IsFresh}
use Rattle.sv_replies.proofs.NotesGoOn.{behind_greatest, greatest_append, from_cells, layout_each}
use Rattle.sv_replies.proofs.NotesGoOn.{owner_each, layout_notes_at, owner_notes_at, none_joins}
use Rattle.sv_replies.proofs.NotesGoOn.{none_greatest, none_behind, AtLayout, AtOwner, layout_behind_at}
use Rattle.sv_replies.proofs.NotesGoOn.{owner_behind_at, layout_fresh, owner_fresh, layout_below}
use Rattle.sv_replies.proofs.NotesGoOn.{owner_below, none_below, more_below, before_layout, before_owner}
use Rattle.sv_replies.proofs.NotesGoOn.{layout_owner}
use Rattle.sv_model.proofs.Works.{numbered_push}

module _ (t : Trace) (event : ℕ) (old more : List Bound) (b : Bound)
    (numbered : AreNumbered (steps_in (old ++ more))) (is : IsNumbered (length (old ++ more)) b.step) where
  abbrev work : List Step
  work = steps_in (old ++ more)

  abbrev count : ℕ
  count = length (old ++ more)

  long : length work ≡ count
  long = length-map (old ++ more) (λ (x : Bound). x.step)

  here : IsNumbered (length work) b.step
  here = subst (λ (n : ℕ). IsNumbered n b.step) (sym long) is

  grown : steps_in (old ++ (more ++ b ∷ [])) ≡ work ++ b.step ∷ []
  grown = ap steps_in (sym (append_assoc old more (b ∷ [])))
      ∙ map-append (λ (x : Bound). x.step) (old ++ more) (b ∷ [])

  longer : length (old ++ (more ++ b ∷ [])) ≡ count + 1
  longer = ap (λ (bs : List Bound). length bs) (sym (append_assoc old more (b ∷ [])))
      ∙ length-append (old ++ more) (b ∷ [])

  first_within : length old ≤ length work
  first_within = let e = length-append old more in let l = long in omega (arith, e, l)

  module _ (before reports : List Report) (o : AreReportsFrom (length old) work (spots_of before))
      (runs_o : AreRuns before) (n : AreReportsFrom count (work ++ b.step ∷ []) (spots_of reports))
      (runs_n : AreRuns reports) where
    from_here : AreReportsFrom (length work) (work ++ b.step ∷ []) (spots_of reports)
    from_here = subst (λ (k : ℕ). AreReportsFrom k (work ++ b.step ∷ []) (spots_of reports)) (sym long) n

    pub reports_after : AreReportsFrom (length old) (steps_in (old ++ (more ++ b ∷ [])))
        (spots_of (before ++ reports))
    reports_after =
        subst (λ (ws : List Step). AreReportsFrom (length old) ws (spots_of (before ++ reports))) (sym grown)
        (subst (AreReportsFrom (length old) (work ++ b.step ∷ [])) (sym (spots_append before reports))
        (reports_go_on work b.step numbered here (length old) first_within (spots_of before)
        (spots_of reports) o from_here))

    pub runs_after : AreRuns (before ++ reports)
    runs_after = runs_go_on (length old) work b.step before reports numbered o runs_o from_here runs_n

    new_from : (r : Report) → Contains reports r → count ≤ r.later.step
    new_from r on = reports_from count (work ++ b.step ∷ []) reports n runs_n r on

    all_within : (r : Report) → Contains (before ++ reports) r → r.later.step ≤ count
    all_within r on = elim (Contains-append_cases before reports r on) [
      | inl was ↦ (let h = reports_below (length old) work before numbered o runs_o r was in let l = long in
          omega (arith, h, l))
      | inr now ↦ (
          let h = reports_below count (work ++ b.step ∷ []) reports
          (numbered_push work b.step numbered here) n runs_n r now in
          let l = long in
          let m = length-append work (b.step ∷ []) in
          omega (arith, h, l, m))
    ]

    earlier : among (before ++ reports) (notes_of_more t event old more)
        ≡ among before (notes_of_more t event old more)
    earlier = among_more before reports count new_from (notes_of_more t event old more)
        (notes_below t event count (before_end t old) (length old) more
        (let e = length-append old more in omega (arith, e)))

    pub among_after : b.event ≡ event → among (before ++ reports)
        (notes_of_more t event old (more ++ b ∷ [])) ≡ among before (notes_of_more t event old more)
        ++ map (note_behind (length (before ++ reports))) (notes_of t (before_end t (old ++ more)) b)
    among_after e =
        ap (among (before ++ reports)) (more_notes t event old more b e)
        ∙ map-append (λ (n : Noted). note_behind (reports_up_to (before ++ reports) n.step) n.note)
        (notes_of_more t event old more) (noted count (notes_of t (before_end t (old ++ more)) b))
        ∙ (λ j. earlier j ++ among_last (before ++ reports) count all_within
        (notes_of t (before_end t (old ++ more)) b) j)

  module _ (k : ℕ) (cells ls os ns before : List Note) (c : AreGreatestNotes cells before)
      (below : All (IsNoteBelow count) before) (l : AreGreatestNotes
      (layout_notes t (before_end t (old ++ more)).moved b.step) ls)
      (w : AreGreatestNotes (owner_notes t (before_end t (old ++ more)).actions b.step) os)
      (none : All IsOnNone ns) where
    abbrev behind : List Note → List Note
    behind = map (note_behind k)

    abbrev layouts_here : List Note
    layouts_here = layout_notes t (before_end t (old ++ more)).moved b.step

    abbrev owners_here : List Note
    owners_here = owner_notes t (before_end t (old ++ more)).actions b.step

    ls_are : All (IsLayoutAt count) ls
    ls_are = from_cells (IsLayoutAt count) (layout_each count) layouts_here ls l
        (layout_notes_at t (before_end t (old ++ more)).moved count b.step is)

    os_are : All (IsOwnerAt count) os
    os_are = from_cells (IsOwnerAt count) (owner_each count) owners_here os w
        (owner_notes_at t (before_end t (old ++ more)).actions count b.step is)

    ls_at : All (AtLayout count) (behind ls)
    ls_at = All-map (AtLayout count) (note_behind k) ls
        (All-weaker (IsLayoutAt count) (λ (n : Note). AtLayout count (note_behind k n))
        (layout_behind_at k count) ls ls_are)

    os_at : All (AtOwner count) (behind os)
    os_at = All-map (AtOwner count) (note_behind k) os
        (All-weaker (IsOwnerAt count) (λ (n : Note). AtOwner count (note_behind k n))
        (owner_behind_at k count) os os_are)

    ns_none : All IsOnNone (behind ns)
    ns_none = All-map IsOnNone (note_behind k) ns
        (All-weaker IsOnNone (λ (n : Note). IsOnNone (note_behind k n)) (none_behind k) ns none)

    with_layouts : AreGreatestNotes (cells ++ behind layouts_here) (before ++ behind ls)
    with_layouts = greatest_append cells (behind layouts_here) before (behind ls) c
        (behind_greatest k layouts_here ls (All-weaker (IsLayoutAt count) IsFresh
        (layout_fresh count) ls ls_are) l)
        (λ n m on_n on_m. before_layout count n m (All-contains (IsNoteBelow count) before n below on_n)
        (All-contains (AtLayout count) (behind ls) m ls_at on_m))

    with_owners : AreGreatestNotes ((cells ++ behind layouts_here) ++ behind owners_here)
        ((before ++ behind ls) ++ behind os)
    with_owners = greatest_append (cells ++ behind layouts_here) (behind owners_here) (before ++ behind ls)
        (behind os) with_layouts (behind_greatest k owners_here os
        (All-weaker (IsOwnerAt count) IsFresh (owner_fresh count) os os_are) w)
        (λ n m on_n on_m. elim (Contains-append_cases before (behind ls) n on_n) [
          | inl was ↦ before_owner count n m (All-contains (IsNoteBelow count) before n below was)
              (All-contains (AtOwner count) (behind os) m os_at on_m)
          | inr now ↦ layout_owner count n m (All-contains (AtLayout count) (behind ls) n ls_at now)
              (All-contains (AtOwner count) (behind os) m os_at on_m)
        ])

    with_all : AreGreatestNotes (((cells ++ behind layouts_here) ++ behind owners_here) ++ behind ns)
        (((before ++ behind ls) ++ behind os) ++ behind ns)
    with_all = greatest_append ((cells ++ behind layouts_here) ++ behind owners_here) (behind ns)
        ((before ++ behind ls) ++ behind os) (behind ns) with_owners (none_greatest (behind ns) ns_none)
        (λ n m on_n on_m. none_joins n m (All-contains IsOnNone (behind ns) m ns_none on_m))

    same_cells : ((cells ++ behind layouts_here) ++ behind owners_here) ++ behind ns ≡ cells
        ++ behind (layouts_here ++ owners_here ++ ns)
    same_cells =
        ap (λ (xs : List Note). xs ++ behind ns) (append_assoc cells (behind layouts_here)
        (behind owners_here) ∙ ap (λ (xs : List Note). cells ++ xs)
        (sym (map-append (note_behind k) layouts_here owners_here)))
        ∙ append_assoc cells (behind (layouts_here ++ owners_here)) (behind ns)
        ∙ ap (λ (xs : List Note). cells ++ xs) (sym
        (map-append (note_behind k) (layouts_here ++ owners_here) ns))

    pub notes_after : AreGreatestNotes (cells ++ behind (layouts_here ++ owners_here ++ ns))
        (((before ++ behind ls) ++ behind os) ++ behind ns)
    notes_after = subst (λ (xs : List Note). AreGreatestNotes xs
        (((before ++ behind ls) ++ behind os) ++ behind ns)) same_cells with_all

    pub below_after : All (IsNoteBelow (count + 1)) (((before ++ behind ls) ++ behind os) ++ behind ns)
    below_after =
        All-append (IsNoteBelow (count + 1)) ((before ++ behind ls) ++ behind os) (behind ns)
        (All-append (IsNoteBelow (count + 1)) (before ++ behind ls) (behind os)
        (All-append (IsNoteBelow (count + 1)) before (behind ls)
        (All-weaker (IsNoteBelow count) (IsNoteBelow (count + 1)) (more_below count) before below)
        (All-weaker (AtLayout count) (IsNoteBelow (count + 1)) (layout_below count) (behind ls) ls_at))
        (All-weaker (AtOwner count) (IsNoteBelow (count + 1)) (owner_below count) (behind os) os_at))
        (All-weaker IsOnNone (IsNoteBelow (count + 1)) (none_below (count + 1)) (behind ns) ns_none)

  pub goes_on : (before after : Reply) (reports : List Report) (ls os ns : List Note)
      → AreReportsFrom count (work ++ b.step ∷ []) (spots_of reports) → AreRuns reports
      → AreGreatestNotes (layout_notes t (before_end t (old ++ more)).moved b.step) ls
      → AreGreatestNotes (owner_notes t (before_end t (old ++ more)).actions b.step) os → b.notes ≡ ns
      → All IsOnNone ns → b.event ≡ event → IsReplySoFar t event old more before
      → (k : ℕ) → after.reports ≡ before.reports ++ reports → k ≡ length after.reports → after.notes
      ≡ ((before.notes ++ map (note_behind k) ls) ++ map (note_behind k) os) ++ map (note_behind k) ns
      → IsReplySoFar t event old (more ++ b ∷ []) after
  goes_on before after reports ls os ns n runs l w notes none e so_far k new_reports number new_notes =
      record {
        reports = subst (λ (rs : List Report).
            AreReportsFrom (length old) (steps_in (old ++ (more ++ b ∷ []))) (spots_of rs))
            (sym new_reports)
            (reports_after before.reports reports so_far.reports so_far.runs n runs);
        runs = subst AreRuns (sym new_reports) (runs_after before.reports reports so_far.reports so_far.runs n
            runs);
        notes = subst (λ (cells : List Note). AreGreatestNotes cells after.notes) (sym cells)
            (subst (AreGreatestNotes (among before.reports (notes_of_more t event old more)
            ++ map (note_behind k) (layout_notes t (before_end t (old ++ more)).moved b.step
            ++ owner_notes t (before_end t (old ++ more)).actions b.step ++ ns))) (sym new_notes)
            (notes_after k (among before.reports (notes_of_more t event old more)) ls os ns before.notes
            so_far.notes so_far.below l w none));
        below = subst (λ (m : ℕ). All (IsNoteBelow m) after.notes) (sym longer)
            (subst (All (IsNoteBelow (count + 1))) (sym new_notes)
            (below_after k (among before.reports (notes_of_more t event old more)) ls os ns before.notes
            so_far.notes so_far.below l w none));
      }
    where
      same_number : length (before.reports ++ reports) ≡ k
      same_number = ap (λ (rs : List Report). length rs) (sym new_reports) ∙ sym number

      cells : among after.reports (notes_of_more t event old (more ++ b ∷ []))
          ≡ among before.reports (notes_of_more t event old more)
          ++ map (note_behind k) (layout_notes t (before_end t (old ++ more)).moved b.step
          ++ owner_notes t (before_end t (old ++ more)).actions b.step ++ ns)
      cells =
          ap (λ (rs : List Report). among rs (notes_of_more t event old (more ++ b ∷ []))) new_reports
          ∙ among_after before.reports reports so_far.reports so_far.runs n runs e
          ∙ (λ j. among before.reports (notes_of_more t event old more)
          ++ map (note_behind (same_number j)) (layout_notes t (before_end t (old ++ more)).moved b.step
          ++ owner_notes t (before_end t (old ++ more)).actions b.step ++ notes j))
