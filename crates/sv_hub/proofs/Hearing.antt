-- What the listeners of a hub hear, call after call.
use Rattle.std.proofs.Common.{ap, ℕ, ◌≡◌, ◌≢◌, ◌<◌, ◌≤◌, ◌+◌, ◌-◌, List, [], ◌∷◌, ◌++◌, AllPairs, Contains}
use Rattle.std.proofs.Common.{Some, arith, get_or, inl, inr, length, map, refl, slice_get, subst, sym, ◌∙◌}
use Rattle.std.specs.List.{remove}
use Rattle.std.proofs.lemmas.Bool.Decides.{eqb_tells, leb_tells}
use Rattle.std.proofs.lemmas.List.{append_assoc, append-nil, get_or-map, get_or_default, length-map}
use Rattle.std.proofs.lemmas.Option.{get_or_from_slice_get, slice_get_within}
use Rattle.std.proofs.lemmas.List.Edits.{get_or-remove_above, get_or-remove_below, length-remove}
use Rattle.std.proofs.lemmas.List.Elements.{Contains-append_left, Contains-push}
use Rattle.sv_model.specs.declared.work.Report.{Report}
use Rattle.sv_hub.specs.Attachments.{Attached, Attachments, HasHeard, HasHeardIn, IsJoined, IsTaken}
use Rattle.sv_hub.specs.Lives.{HearsWhileItStays, Holds, LeavesWithWhatItHeard, ReportsAddUp, RoomLasts}
use Rattle.sv_hub.specs.Lives.{Stays, begins, hears, joins, leaves}

pub reports_add_up : ReportsAddUp
reports_add_up reports more before now after p q = record {
  next = q.next ∙ p.next;
  each = record {
    long = q.each.long ∙ p.each.long;
    each = λ k d within.
        (let a = p.each.each k d within in
        let b = q.each.each k d (subst (λ n. k < n) (sym p.each.long) within) in
        record {
          number = b.number ∙ a.number;
          heard = b.heard
              ∙ (ap (λ h. h ++ more) a.heard ∙ append_assoc _ reports more);
        });
  };
}

pub room_lasts : RoomLasts
room_lasts more old new room uses k d within =
    let here : k < length old.attached = subst (λ n. k < n) uses.long within in
    let r = room k d here in let u = uses.each k d here in omega arith

still_heard : (number : ℕ) (heard more : List Report) (old new : Attachments) → Holds number heard old
    → HasHeard more old new → Holds number (heard ++ more) new
still_heard number heard more old new h p =
    let k = h.attached.0 in
    let change : HasHeardIn more (get_or old.attached k h.listener) (get_or new.attached k h.listener) =
    p.each.each k h.listener h.attached.1 in
    let there : k < length new.attached = subst (λ n. k < n) (sym p.each.long) h.attached.1 in
    record {
      listener = get_or new.attached k h.listener;
      attached = (k, there, get_or_default new.attached k _ h.listener there);
      has_number = change.number ∙ (ap (λ a. a.number) h.attached.2 ∙ h.has_number);
      has_heard = change.heard ∙ ap (λ g. g ++ more) (ap (λ a. a.heard) h.attached.2 ∙ h.has_heard);
    }

still_there : (number : ℕ) (heard : List Report) (other : Attached) (old new : Attachments)
    → Holds number heard old → IsJoined other old new → Holds number heard new
still_there number heard other old new h j = subst (Holds number heard) (sym j.others) (record {
  listener = h.listener;
  attached = Contains-append_left old.attached (other ∷ []) h.listener h.attached;
  has_number = h.has_number;
  has_heard = h.has_heard;
})

-- an item that stood beside another place stands there still when that one is taken out
still_stands : (xs : List Attached) (i : ℕ) (x gone : Attached) → slice_get xs i ≡ Some gone
    → gone.number ≢ x.number → Contains xs x → Contains (remove xs i) x
still_stands xs i x gone there other c =
    let k = c.0 in
    let at : i < length xs = slice_get_within xs i gone there in
    let long : length (remove xs i) + 1 ≡ length xs = length-remove xs i at in
    let away : k ≢ i = λ same. other (ap (λ a. a.number)
    (sym (get_or_from_slice_get xs i gone x there) ∙ (ap (λ j. get_or xs j x) (sym same) ∙ c.2))) in
    elim (leb_tells i k) [
      | inl w ↦ (
          let le = w.1 in
          let lt : i < k = omega arith in
          let before : i ≤ k - 1 = omega arith in
          let back : k - 1 + 1 ≡ k = omega arith in (
            k - 1,
            let inside = c.1 in omega arith,
            get_or-remove_above xs i x (k - 1) before at
                ∙ (ap (λ j. get_or xs j x) back ∙ c.2),
          ))
      | inr w ↦ (k, let lt = w.1 in omega arith, get_or-remove_below xs i x k w.1 at ∙ c.2)
    ]

still_holds : (number : ℕ) (heard : List Report) (other : Attached) (old new : Attachments)
    → Holds number heard old → IsTaken other old new → other.number ≢ number → Holds number heard new
still_holds number heard other old new h t away = subst (Holds number heard) (sym t.others) (record {
  listener = h.listener;
  attached = still_stands old.attached t.place h.listener other t.there
      (λ same. away (same ∙ h.has_number)) h.attached;
  has_number = h.has_number;
  has_heard = h.has_heard;
})

holds_on : (number : ℕ) (heard reports : List Report) (before after : Attachments)
    → Holds number heard before → Stays number reports before after → Holds number (heard ++ reports) after
holds_on number heard reports before after h begins =
    subst (λ l. Holds number l before) (sym (append-nil heard)) h
holds_on number heard reports before after h (hears {reports = first} {more = more} {now = now} stays p) =
    subst (λ l. Holds number l after) (append_assoc heard first more)
    (still_heard number (heard ++ first) more now after
    (holds_on number heard first before now h stays) p)
holds_on number heard reports before after h (joins {now = now} {other = other} stays j) =
    still_there number (heard ++ reports) other now after (holds_on number heard reports before now h stays) j
holds_on number heard reports before after h (leaves {now = now} {other = other} stays t away) =
    still_holds number (heard ++ reports) other now after
    (holds_on number heard reports before now h stays) t away

pub hears_while_it_stays : HearsWhileItStays
hears_while_it_stays listener reports empty joined after j stays =
    holds_on listener.number listener.heard reports joined after
    (subst (Holds listener.number listener.heard) (sym j.others)
    (record {
      listener = listener;
      attached = Contains-push empty.attached listener;
      has_number = refl;
      has_heard = refl;
    })) stays

-- numbers that rise are in no two places the same
in_two_places : (numbers : List ℕ) (i k n : ℕ) → i < length numbers → k < length numbers → i ≢ k
    → get_or numbers i 0 ≡ n → get_or numbers k 0 ≡ n → AllPairs (λ a b. a < b) numbers → ⊥
in_two_places numbers i k n at there away one two rise = elim (leb_tells i k) [
  | inl w ↦ (let le = w.1 in let lt : i < k = omega arith in let more = rise i k 0 lt there in omega arith)
  | inr w ↦ (let more = rise k i 0 w.1 at in omega arith)
]

pub leaves_with_what_it_heard : LeavesWithWhatItHeard
leaves_with_what_it_heard listener heard old new numbered h t =
    let xs = old.attached in
    let k = h.attached.0 in
    let at : t.place < length xs = slice_get_within xs t.place listener t.there in
    let here : get_or xs t.place h.listener ≡ listener =
    get_or_from_slice_get xs t.place listener h.listener t.there in
    let one : (get_or (map (λ (a : Attached). a.number) xs) t.place 0) ≡ listener.number =
    get_or-map (λ a. a.number) xs t.place h.listener 0 at ∙ ap (λ a. a.number) here in
    let two : (get_or (map (λ (a : Attached). a.number) xs) k 0) ≡ listener.number =
    get_or-map (λ a. a.number) xs k h.listener 0 h.attached.1
    ∙ (ap (λ a. a.number) h.attached.2 ∙ h.has_number) in
    elim (eqb_tells t.place k) [
      | inl w ↦ ap (λ a. a.heard) (sym here ∙ (ap (λ j. get_or xs j h.listener) w.1 ∙ h.attached.2))
          ∙ h.has_heard
      | inr w ↦ absurd (in_two_places (map (λ a. a.number) xs) t.place k listener.number
          (subst (λ n. t.place < n) (sym (length-map xs (λ a. a.number))) at)
          (subst (λ n. k < n) (sym (length-map xs (λ a. a.number))) h.attached.1) w.1 one two numbered.rise)
    ]
