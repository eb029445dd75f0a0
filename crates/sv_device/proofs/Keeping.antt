-- What lies under the lock, after one more event.
use Rattle.std.proofs.Common.{◌≡◌, ℕ, ◌+◌, ◌<◌, List, [], ◌∷◌, ◌++◌, Some, refl, sym, ◌∙◌, ap, subst, arith}
use Rattle.std.proofs.Common.{length, set, length-set, slice_get, replicate}
use Rattle.std.specs.Prelude.{slice_index, Bool, true, false}
use Rattle.std.proofs.lemmas.Option.{slice_get_within}
use Rattle.atomic_table.specs.Seated.{TableId}
use Rattle.sv_model.specs.declared.line.Trace.{Trace}
use Rattle.sv_model.specs.declared.line.Mark.{Mark}
use Rattle.sv_model.specs.declared.recorded.Event.{Event}
use Rattle.sv_model.specs.History.{IsHistory, IsWhole}
use Rattle.sv_model.specs.Lawful.{IsLawful}
use Rattle.sv_model.specs.Replies.{IsReply}
use Rattle.sv_core.specs.Marks.{IsNextEvent, IsStop, mark_of}
use Rattle.sv_core.specs.State.{State}
use Rattle.sv_core.specs.declared.stop.Stop.{Stop}
use Rattle.sv_core.specs.declared.stop.Stop.TheVariants as stop
use Rattle.sv_share.specs.Values.{BookIs, book_is}
use Rattle.sv_share.specs.declared.case.Receipt.{Receipt}
use Rattle.sv_device.specs.Actors.{IsEventAt, actors_of, events_of}
use Rattle.sv_device.specs.Devices.{Counts, IsKept, IsReceipt, IsStopIn}
use Rattle.sv_device.proofs.Seats.{few_actors}
use Rattle.sv_device.proofs.Steps.{more_is_history}
use Rattle.sv_device.proofs.Counting.{counts_more, counts_none}

pub kept_first : (t : Trace) (named : TableId) (v : State) (b : BookIs) → IsLawful t → v.trace ≡ t
    → v.history ≡ [] → b ≡ book_is named (replicate 32 0) → IsKept t named v b
kept_first t named v b lawful trace history book =
    let counts : b.counts ≡ replicate 32 0 = ap (λ (x : BookIs). x.counts) book in record {
      lawful = lawful;
      trace = trace;
      board = ap (λ (x : BookIs). x.board) book;
      wide = ap length counts;
      counts = subst (λ l. Counts t l v.history) (sym counts)
          (subst (Counts t (replicate 32 0)) (sym history) (counts_none t));
    }

index_below : (t : Trace) (index place : ℕ) (m : Mark) → IsLawful t → IsEventAt t index place m → index < 32
index_below t index place m lawful e =
    let lt = slice_get_within (actors_of t) index e.who e.actor in
    let le = few_actors t lawful in
    omega (arith, lt, le)

longer : (t : Trace) (h : List Mark) (counts : List ℕ) (index place : ℕ) (m : Mark) → IsLawful t
    → IsHistory t h → Counts t counts h → IsEventAt t index place m → slice_index counts index ≡ place
    → IsHistory t (h ++ m ∷ [])
longer t h counts index place m lawful is counted e shown =
    let count : length (events_of t e.who h) ≡ place = sym (counted index e.who e.actor) ∙ shown in
    subst (λ (x : Mark). IsHistory t (h ++ x ∷ [])) (sym e.event)
    (more_is_history t h e.who place lawful is count e.left)

-- the event is the next of its actor
pub event_next : (t : Trace) (named : TableId) (v : State) (b : BookIs) (index place : ℕ) (event : Event)
    → IsKept t named v b → IsHistory v.trace v.history → IsEventAt t index place (mark_of event)
    → slice_index b.counts index ≡ place → IsNextEvent v.trace v.history event
event_next t named v b index place event k is e shown =
    subst (λ (u : Trace). IsHistory u (v.history ++ mark_of event ∷ [])) (sym k.trace)
    (longer t v.history b.counts index place (mark_of event) k.lawful
    (subst (λ (u : Trace). IsHistory u v.history) k.trace is) k.counts e shown)

-- one event more, which the book counted
pub kept_more : (t : Trace) (named : TableId) (v w : State) (b d : BookIs) (index place : ℕ) (m : Mark)
    → IsKept t named v b → IsEventAt t index place m → slice_index b.counts index ≡ place → w.trace
    ≡ v.trace → w.history ≡ v.history ++ m ∷ [] → d ≡ book_is b.board (set b.counts index (place + 1))
    → IsKept t named w d
kept_more t named v w b d index place m k e shown trace history book =
    let counts : d.counts ≡ set b.counts index (place + 1) = ap (λ (x : BookIs). x.counts) book in
    let below = index_below t index place m k.lawful e in
    let wide = k.wide in
    let more = counts_more t b.counts v.history index e.who place k.lawful k.counts e.actor e.left
    (omega (arith, below, wide)) shown in record {
      lawful = k.lawful;
      trace = trace ∙ k.trace;
      board = ap (λ (x : BookIs). x.board) book ∙ k.board;
      wide = ap length counts ∙ length-set b.counts index (place + 1) ∙ k.wide;
      counts = subst (λ l. Counts t l w.history) (sym counts)
          (subst (Counts t (set b.counts index (place + 1)))
          (sym (history ∙ ap (λ (x : Mark). v.history ++ x ∷ []) e.event)) more);
    }

get_last : (marks : List Mark) (m : Mark) → slice_get (marks ++ m ∷ []) (length marks) ≡ Some m
get_last [] m = refl
get_last (x ∷ xs) m = get_last xs m

-- what the event was answered
pub received : (t : Trace) (named : TableId) (v w : State) (b : BookIs) (index place : ℕ) (m : Mark)
    (r : Receipt) → IsKept t named v b → IsHistory v.trace v.history → IsEventAt t index place m
    → slice_index b.counts index ≡ place → w.trace ≡ v.trace → w.history ≡ v.history ++ m ∷ [] → r.number
    ≡ length v.history → IsReply w.trace w.history (length v.history) r.reply → IsReceipt t m r
received t named v w b index place m r k is e shown trace history number reply = record {
  history = w.history;
  is_history = subst (IsHistory t) (sym history) (longer t v.history b.counts index place m k.lawful
      (subst (λ (u : Trace). IsHistory u v.history) k.trace is) k.counts e shown);
  stands = ap (λ l. slice_get l r.number) history ∙ ap (λ n. slice_get (v.history ++ m ∷ []) n) number
      ∙ get_last v.history m;
  reply = subst (λ (u : Trace). IsReply u w.history r.number r.reply) (trace ∙ k.trace)
      (subst (λ n. IsReply w.trace w.history n r.reply) (sym number) reply);
}
