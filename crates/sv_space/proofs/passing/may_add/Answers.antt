use Rattle.std.proofs.Common.{arith}
use Rattle.sv_space.proofs.Patterned.{full_asked, full_quiet, full_with, quiet_asked, quiet_with}
use Rattle.sv_space.proofs.passing.may_add.Goals as goal

pub returns-then-has-clause-quiet : goal.returns-then-has-clause-quiet
returns-then-has-clause-quiet c = λ none. c.requires.quiet c.args.number (c.has.ensures.0 c.if-has.true)

pub returns-then-is_full-clause-known : goal.returns-then-is_full-clause-known
returns-then-is_full-clause-known c =
    let state = c.args.state.now in
    let patterns = c.args.patterns.now.items in
    let full = full_asked state patterns c.args.number c.index.result.now c.as_slice-outlines.result.now
    (omega arith) c.index.ensures c.as_slice-outlines.ensures.value (c.is_full.ensures c.if-is_full.true) in
    record {
      quiet = quiet_with state patterns c.args.asked.now.quiet c.with-asked-then-is_full.result c.args.number
          c.with-asked-then-is_full.ensures
          (full_quiet state patterns c.args.number c.full_are_quiet.ensures full) c.requires.quiet;
      full = full_with state patterns c.args.asked.now.full c.with-asked.result c.args.number
          c.with-asked.ensures full c.requires.full;
    }

pub returns-then-is_full-clause-quiet : goal.returns-then-is_full-clause-quiet
returns-then-is_full-clause-quiet c = λ none.
    full_quiet c.args.state.now c.args.patterns.now.items c.args.number c.full_are_quiet.ensures
    (full_asked c.args.state.now c.args.patterns.now.items c.args.number c.index.result.now
    c.as_slice-outlines.result.now (omega arith) c.index.ensures c.as_slice-outlines.ensures.value
    (c.is_full.ensures c.if-is_full.true))

pub returns-clause-known : goal.returns-clause-known
returns-clause-known c = record {
  quiet = quiet_with c.args.state.now c.args.patterns.now.items c.args.asked.now.quiet
      c.with-asked-2.result c.args.number c.with-asked-2.ensures
      (quiet_asked c.args.state.now c.args.patterns.now.items c.args.number c.index.result.now
      c.as_slice-outlines.result.now (omega arith) c.index.ensures c.as_slice-outlines.ensures.value
      (c.adds.ensures c.if-adds.false)) c.requires.quiet;
  full = c.requires.full;
}

pub returns-clause-quiet : goal.returns-clause-quiet
returns-clause-quiet c = λ none. quiet_asked c.args.state.now c.args.patterns.now.items c.args.number
    c.index.result.now c.as_slice-outlines.result.now (omega arith) c.index.ensures
    c.as_slice-outlines.ensures.value (c.adds.ensures c.if-adds.false)
