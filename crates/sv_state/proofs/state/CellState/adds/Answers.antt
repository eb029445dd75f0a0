use Rattle.std.proofs.Common.{inl, inr, subst, List}
use Rattle.std.proofs.lemmas.List.Elements.{Contains-append_cases}
use Rattle.sv_state.specs.Outlines.{AreQuiet}
use Rattle.sv_state.specs.States.{live_written}
use Rattle.sv_state.specs.declared.entry.Entry.{Entry}
use Rattle.sv_state.proofs.Changes.{rest}
use Rattle.sv_state.proofs.state.CellState.adds.Goals as goal

pub returns-else-some_add : goal.returns-else-some_add
returns-else-some_add c = λ none e d on on_d.
    let s = c.args.self.now in
    let written : AreQuiet (live_written s) c.args.outlines.now =
    subst (λ (es : List Entry). AreQuiet es c.args.outlines.now)
    (rest c.as_slice-written.result.now s.written.items c.first_live-first.result _
    c.as_slice-written.ensures.value c.first_live-first.ensures.place)
    (c.some_add.ensures c.if-some_add.false) in
    let reads = subst (λ (es : List Entry). AreQuiet es c.args.outlines.now) c.deref.ensures.value
    (c.some_add-else-some_add.ensures none) in
    elim (Contains-append_cases (live_written s) s.reads.items e on)
    [ inl first ↦ written e d first on_d | inr other ↦ reads e d other on_d ]
