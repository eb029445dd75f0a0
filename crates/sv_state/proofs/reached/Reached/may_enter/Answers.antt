use Rattle.std.proofs.Common.{◌≡◌, IsTrue, false, inl, inr, sym, ◌∙◌, ap}
use Rattle.sv_model.specs.declared.work.Dep.{Dep}
use Rattle.sv_state.proofs.Outlining.{loose_queue, path_outline}
use Rattle.sv_state.proofs.reached.Reached.may_enter.Goals as goal

pub returns-else-may_start : goal.returns-else-may_start
returns-else-may_start c = λ not cell deps step n is late st enters.
    let queue = c.in-Queue.is in
    let from : c.args.d.now.from ≡ n.dep.from = queue
    ∙ sym (loose_queue n.dep.from _ (sym (ap (λ (e : Dep). e.from) is) ∙ queue)) in
    elim enters [
      | inl first ↦ c.may_start.ensures c.if-may_start.false cell n from is late first
      | inr next ↦ (
          let t : IsTrue c.leads.result = c.leads.ensures.1
          (path_outline cell c.args.a.now c.args.d.now n is deps step c.args.self.now from st next) in
          let f : c.leads.result ≡ false = not in cc)
    ]
