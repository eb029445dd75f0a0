use Rattle.std.proofs.Common.{arith, inl, inr, subst, List}
use Rattle.std.proofs.lemmas.List.Elements.{Contains-append_cases}
use Rattle.sv_state.specs.Outlines.{AreUpTo}
use Rattle.sv_state.specs.declared.entry.Entry.{Entry}
use Rattle.sv_state.proofs.state.CellState.newest.Goals as goal

pub returns : goal.returns
returns c = λ e on.
    let written = subst (λ (es : List Entry). AreUpTo c.newest_of-newest.result es) c.deref.ensures.value
    c.newest_of-newest.ensures.accesses in
    let reads = subst (λ (es : List Entry). AreUpTo c.newest_of.result es) c.deref-2.ensures.value
    c.newest_of.ensures.accesses in
    elim (Contains-append_cases c.args.self.now.written.items c.args.self.now.reads.items e on) [
      | inl first ↦ (let u = written e first in let l = c.newest_of.ensures.least in omega (arith, u, l))
      | inr other ↦ reads e other
    ]
