use Rattle.sv_runs.proofs.GroupedReplies.{grouped_is, grouped_is_reply}
use Rattle.sv_runs.proofs.grouping.group.Goals as goal

pub returns-clause-grouped : goal.returns-clause-grouped
returns-clause-grouped c = grouped_is c.args.reply.now c.as_slice-given.result.now
    c.as_slice-noted.result.now c.in_ok-reports.reports c.in_ok-reports.numbers.items c.as_slice.result.now
    c.in_ok-notes.notes c.as_slice-given.ensures c.as_slice-noted.ensures c.in_ok-reports.ensures.whole
    c.in_ok-reports.ensures.runs c.in_ok-reports.ensures.moves c.as_slice.ensures.value
    c.in_ok-notes.ensures.whole c.in_ok-notes.ensures.runs

pub returns-clause-stands : goal.returns-clause-stands
returns-clause-stands c =
    let is = grouped_is c.args.reply.now c.as_slice-given.result.now c.as_slice-noted.result.now
    c.in_ok-reports.reports c.in_ok-reports.numbers.items c.as_slice.result.now c.in_ok-notes.notes
    c.as_slice-given.ensures c.as_slice-noted.ensures c.in_ok-reports.ensures.whole
    c.in_ok-reports.ensures.runs c.in_ok-reports.ensures.moves c.as_slice.ensures.value
    c.in_ok-notes.ensures.whole c.in_ok-notes.ensures.runs in
    λ t history event stands. grouped_is_reply t history event c.args.reply.now _ c.requires.reports is stands
