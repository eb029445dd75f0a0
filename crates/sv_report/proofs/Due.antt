-- The lines that are still to come, as the notes and the reports of a reply are printed.
use Rattle.std.proofs.Common.{◌≡◌, ℕ, ◌+◌, ◌<◌, ◌≤◌, Bool, true, cond, List, [], ◌∷◌, ◌++◌, length, get_or}
use Rattle.std.proofs.Common.{drop, take, nat_le, ◌-◌, Result, Ok, Err, OnOk, arith, sym, ap, ◌∙◌}
use Rattle.std.proofs.Common.{append_assoc}
use Rattle.std.specs.List.{flat_map, prefix_len}
use Rattle.std.proofs.Math.Numerals.{suc-eq-add-one}
use Rattle.std.proofs.Math.Seq.{drop-cons}
use Rattle.std.proofs.lemmas.List.{drop_all, length-take, drop-drop, take_rest}
use Rattle.std.proofs.lemmas.List.Sums.{take_while-cons}
use Rattle.std.proofs.lemmas.Bool.Decides.{nat_tests}
use Rattle.sv_model.specs.Replies.{reports_before}
use Rattle.sv_model.specs.declared.work.Note.{Note}
use Rattle.sv_model.specs.declared.work.Report.{Report}
use Rattle.sv_report.specs.Lines.{report_line}
use Rattle.sv_report.specs.Notes.{note_line}
use Rattle.sv_report.specs.Replies.{due, entries}

pub item_first : {X : Type 0} (xs : List X) (i : ℕ) (d : X) → i < length xs → drop i xs ≡ get_or xs i d
    ∷ drop (i + 1) xs
item_first xs i d h = drop-cons xs i d h ∙ ap (λ k. get_or xs i d ∷ drop k xs) (suc-eq-add-one i)

due_cons : (number i : ℕ) (d : Note) (notes : List Note) → i < length notes → due number (drop i notes)
    ≡ cond (nat_le (reports_before (get_or notes i d)) number)
    (get_or notes i d ∷ due number (drop (i + 1) notes)) []
due_cons number i d notes h = ap (due number) (item_first notes i d h)
    ∙ take_while-cons (λ n. nat_le (reports_before n) number) (get_or notes i d) (drop (i + 1) notes)

-- a note that is due is the first of those
due_more : (number i : ℕ) (d : Note) (notes : List Note) → i < length notes
    → nat_le (reports_before (get_or notes i d)) number ≡ true → due number (drop i notes)
    ≡ get_or notes i d ∷ due number (drop (i + 1) notes)
due_more number i d notes h passes = due_cons number i d notes h
    ∙ ap (λ (b : Bool). cond b (get_or notes i d ∷ due number (drop (i + 1) notes)) []) passes

due_short : (number : ℕ) (notes : List Note) → length (due number notes) ≤ length notes
due_short number notes = omega (
  arith,
  length-take
      (prefix_len (λ n. nat_le (reports_before n) number) notes) notes,
)

-- the notes that are due lie within the list
pub due_inside : (number done n : ℕ) (notes : List Note) → done ≤ length notes → n
    ≡ length (due number (take (length notes - done) (drop done notes))) → done + n ≤ length notes
due_inside number done n notes h counted = omega (
  arith,
  due_short number (take (length notes - done) (drop done notes)),
  length-take (length notes - done) (drop done notes),
  counted,
)

-- one more line moves from what is to come to what is printed
pub line_moves : (printed line rest whole after : List ℕ) → printed ++ (line ++ rest) ≡ whole → after
    ≡ printed ++ line → after ++ rest ≡ whole
line_moves printed line rest whole after h e = ap (λ t. t ++ rest) e ∙ append_assoc printed line rest ∙ h

-- a note that is due is printed
pub due_moves : (number i : ℕ) (d : Note) (notes : List Note) (before total : ℕ)
    (printed after whole : List ℕ) → i < length notes → before ≡ reports_before (get_or notes i d) → before
    ≤ number → i + length (due number (drop i notes)) ≡ total → printed
    ++ flat_map note_line (due number (drop i notes)) ≡ whole → after ≡ printed
    ++ note_line (get_or notes i d) → (i + 1 + length (due number (drop (i + 1) notes)) ≡ total)
    × (after ++ flat_map note_line (due number (drop (i + 1) notes)) ≡ whole)
due_moves number i d notes before total printed after whole h is small counted e to_after =
    let passes : nat_le (reports_before (get_or notes i d)) number ≡ true = grind (arith, nat_tests) in
    let more = due_more number i d notes h passes in (
      omega (arith, ap length more, counted),
      line_moves printed (note_line (get_or notes i d)) _ whole after
          (ap (λ ns. printed ++ flat_map note_line ns) (sym more) ∙ e) to_after,
    )

-- the lines of a report and of the notes before it are printed
pub entry_moves : (i done n : ℕ) (d : Report) (reports : List Report) (notes : List Note)
    (printed middle after whole : List ℕ) → i < length reports → n
    ≡ length (due i (take (length notes - done) (drop done notes))) → printed
    ++ entries i (drop i reports) (drop done notes) ≡ whole → middle ≡ printed
    ++ flat_map note_line (due i (take (length notes - done) (drop done notes))) → after ≡ middle
    ++ report_line (get_or reports i d) → after ++ entries (i + 1) (drop (i + 1) reports)
    (drop (done + n) notes) ≡ whole
unfolding entries
entry_moves i done n d reports notes printed middle after whole h counted e to_middle to_after =
    let left = drop done notes in
    let slice_is : take (length notes - done) left ≡ left = take_rest notes done in
    let before = flat_map note_line (due i left) in
    let line = report_line (get_or reports i d) in
    let coming = entries (i + 1) (drop (i + 1) reports) (drop (length (due i left)) left) in
    let left_is : drop (done + n) notes ≡ drop (length (due i left)) left = sym (drop-drop n done notes)
    ∙ ap (λ k. drop k left) (counted ∙ ap (λ ns. length (due i ns)) slice_is) in
    let first : entries i (drop i reports) left ≡ (before ++ line) ++ coming =
    ap (λ rs. entries i rs left) (item_first reports i d h) in
    let middle_is : middle ≡ printed ++ before = to_middle
    ∙ ap (λ ns. printed ++ flat_map note_line (due i ns)) slice_is in
    let moved : after ++ coming ≡ whole = line_moves printed (before ++ line) coming whole after
    (ap (λ t. printed ++ t) (sym first) ∙ e) (to_after ∙ ap (λ t. t ++ line) middle_is
    ∙ append_assoc printed before line) in
    ap (λ ns. after ++ entries (i + 1) (drop (i + 1) reports) ns) left_is ∙ moved

-- behind the last report the other notes come
pub entries_end : {E : Type 0} (r : Result (Unit {0}) E) (i done : ℕ) (reports : List Report)
    (notes : List Note) (printed after whole : List ℕ) → length reports ≤ i → printed
    ++ entries i (drop i reports) (drop done notes) ≡ whole
    → OnOk r (after ≡ printed ++ flat_map note_line (take (length notes - done) (drop done notes)))
    → OnOk r (after ≡ whole)
unfolding entries
entries_end (Ok x) i done reports notes printed after whole h e to_after =
    let none : entries i (drop i reports) (drop done notes) ≡ flat_map note_line (drop done notes) =
    ap (λ rs. entries i rs (drop done notes)) (drop_all i reports h) in
    to_after ∙ ap (λ ns. printed ++ flat_map note_line ns) (take_rest notes done)
    ∙ ap (λ t. printed ++ t) (sym none) ∙ e
entries_end (Err x) i done reports notes printed after whole h e to_after = tt
