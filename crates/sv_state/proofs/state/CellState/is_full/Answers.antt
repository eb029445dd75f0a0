use Rattle.std.proofs.Common.{inl, inr, subst, List}
use Rattle.std.proofs.lemmas.List.Elements.{Contains-append_cases}
use Rattle.sv_state.specs.Outlines.{AreFull}
use Rattle.sv_state.specs.States.{live_written}
use Rattle.sv_state.specs.declared.entry.Entry.{Entry}
use Rattle.sv_state.proofs.Changes.{rest}
use Rattle.sv_state.proofs.state.CellState.is_full.Goals as goal

pub returns-then-all_full : goal.returns-then-all_full
returns-then-all_full c = λ full e d on on_d.
    let s = c.args.self.now in
    let written : AreFull (live_written s) c.args.outlines.now =
    subst (λ (es : List Entry). AreFull es c.args.outlines.now)
    (rest c.as_slice-written.result.now s.written.items c.first_live-first.result _
    c.as_slice-written.ensures.value c.first_live-first.ensures.place)
    (c.all_full.ensures c.if-all_full.true) in
    let reads = subst (λ (es : List Entry). AreFull es c.args.outlines.now) c.deref.ensures.value
    (c.all_full-then-all_full.ensures full) in
    elim (Contains-append_cases (live_written s) s.reads.items e on)
    [ inl first ↦ written e d first on_d | inr other ↦ reads e d other on_d ]
