use Rattle.std.proofs.Common.{◌≡◌, ◌<◌, ◌∙◌, Contains, arith, length, subst}
use Rattle.std.proofs.lemmas.List.{get_or_default}
use Rattle.sv_model.specs.declared.work.Group.{Group}
use Rattle.sv_state.specs.States.{entries_of}
use Rattle.sv_state.specs.declared.entry.Entry.{Entry}
use Rattle.sv_state.specs.declared.state.CellState.{CellState}
use Rattle.sv_state.proofs.StateLaws.{live_in}
use Rattle.sv_space.proofs.Patterned.{quiet_groups}
use Rattle.sv_space.proofs.going.next_of.Goals as goal

-- nothing is listed where nothing is kept
none_kept : (state : CellState) (e : Entry) → length (entries_of state) ≡ 0 → Contains (entries_of state) e
    → ⊥
none_kept state e none (k, lt, is) = omega (arith, none, lt)

pub returns-then-kept-eq0-clause-passed : goal.returns-then-kept-eq0-clause-passed
returns-then-kept-eq0-clause-passed c = λ number d le lt e f on on_f.
    absurd (none_kept c.args.state.now e (let n = c.kept.ensures.number in omega (arith, n))
    (live_in c.args.state.now e on))

pub returns-then-kept-eq0-clause-late : goal.returns-then-kept-eq0-clause-late
returns-then-kept-eq0-clause-late c = λ d e lt on.
    absurd (none_kept c.args.state.now e (let n = c.kept.ensures.number in omega (arith, n)) on)

pub returns-else-index-newest-clause-passed : goal.returns-else-index-newest-clause-passed
returns-else-index-newest-clause-passed c = λ number d le lt. quiet_groups c.args.state.now
    c.args.groups.now.items c.args.patterns.now.items c.args.numbers.now.items c.args.blocks.now.items
    c.args.from c.next_in.result c.requires.have c.next_in.ensures.listed c.next_in.ensures.quiet
    number d le lt

pub returns-else-index-newest-clause-late : goal.returns-else-index-newest-clause-late
returns-else-index-newest-clause-late c = λ d e lt on.
    let up = c.newest.ensures e on in
    let here = c.index.ensures
    ∙ get_or_default c.args.groups.now.items c.args.from c.index.result.now d c.requires.from in
    subst (λ (g : Group). e.access.step < g.step) here (omega (arith, up))
