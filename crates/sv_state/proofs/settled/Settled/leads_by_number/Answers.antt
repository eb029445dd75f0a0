use Rattle.sv_state.specs.Masks.{Leads}
use Rattle.sv_state.specs.Numbers.{on_token, runs_masks, subs_masks}
use Rattle.sv_state.proofs.Parts.{found_left, found_right}
use Rattle.sv_state.proofs.settled.Settled.leads_by_number.Goals as goal

pub returns-then-tokens_lead : goal.returns-then-tokens_lead
returns-then-tokens_lead c =
    let s = c.args.self.now in
    found_left (λ m. Leads m c.args.d.now) (runs_masks on_token s.runs.items) (subs_masks s.subs.items)
    c.tokens_lead.result c.if-tokens_lead.true (rw c.deref.ensures.value at c.tokens_lead.ensures)

pub returns-else-tokens_lead : goal.returns-else-tokens_lead
returns-else-tokens_lead c =
    let s = c.args.self.now in
    found_right (λ m. Leads m c.args.d.now) (runs_masks on_token s.runs.items) (subs_masks s.subs.items)
    c.tokens_lead.result c.subs_lead.result c.if-tokens_lead.false
    (rw c.deref.ensures.value at c.tokens_lead.ensures)
    (rw c.deref-else-tokens_lead.ensures.value at c.subs_lead.ensures)
