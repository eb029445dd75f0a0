-- The lines that are still to come, as the events of a history are printed.
use Rattle.std.proofs.Common.{◌≡◌, ℕ, ◌+◌, ◌<◌, ◌≤◌, List, ◌∷◌, ◌++◌, length, get_or, drop, arith, sym, ap}
use Rattle.std.proofs.Common.{◌∙◌, append_assoc, append-nil}
use Rattle.std.proofs.lemmas.List.{drop_all}
use Rattle.sv_model.specs.declared.line.Trace.{Trace}
use Rattle.sv_model.specs.declared.line.Mark.{Mark}
use Rattle.sv_model.specs.declared.work.Reply.{Reply}
use Rattle.sv_report.specs.Replies.{reply_text}
use Rattle.sv_report.specs.Text.{event_line, events_text}
use Rattle.sv_report.proofs.Due.{item_first, line_moves}

-- an event's line and its reply are printed
pub event_moves : (t : Trace) (i : ℕ) (d : Mark) (r : Reply) (marks : List Mark) (replies : List Reply)
    (printed middle after whole : List ℕ) → i < length marks → length replies ≡ length marks → printed
    ++ events_text t i (drop i marks) (drop i replies) ≡ whole → middle ≡ printed
    ++ event_line t i (get_or marks i d) → r ≡ get_or replies i r → after ≡ middle ++ reply_text r → after
    ++ events_text t (i + 1) (drop (i + 1) marks) (drop (i + 1) replies) ≡ whole
unfolding events_text
event_moves t i d r marks replies printed middle after whole h same e to_middle is to_after =
    let within : i < length replies = omega arith in
    let line = event_line t i (get_or marks i d) in
    let reply = reply_text (get_or replies i r) in
    let coming = events_text t (i + 1) (drop (i + 1) marks) (drop (i + 1) replies) in
    let first : events_text t i (drop i marks) (drop i replies) ≡ (line ++ reply) ++ coming =
    ap (λ ms. events_text t i ms (drop i replies)) (item_first marks i d h)
    ∙ ap (λ rs. events_text t i (get_or marks i d ∷ drop (i + 1) marks) rs)
    (item_first replies i r within) in
    line_moves printed (line ++ reply) coming whole after (ap (λ x. printed ++ x) (sym first) ∙ e)
    (to_after ∙ ap (λ x. middle ++ reply_text x) is ∙ ap (λ x. x ++ reply) to_middle
    ∙ append_assoc printed line reply)

-- behind the last event nothing comes
pub events_end : (t : Trace) (i : ℕ) (marks : List Mark) (replies : List Reply) (printed whole : List ℕ)
    → length marks ≤ i → printed ++ events_text t i (drop i marks) (drop i replies) ≡ whole → printed
    ≡ whole
unfolding events_text
events_end t i marks replies printed whole h e = sym (append-nil printed)
    ∙ sym (ap (λ ms. printed ++ events_text t i ms (drop i replies)) (drop_all i marks h)) ∙ e
