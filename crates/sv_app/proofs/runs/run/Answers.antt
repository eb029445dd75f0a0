use Rattle.std.proofs.Common.{rules, ◌≡◌, ℕ, List, Option, Some, Err, subst}
use Rattle.sv_words.specs.Words.{asked}
use Rattle.sv_words.specs.declared.ask.Ask.{Ask}
use Rattle.sv_words.specs.declared.ask.Ask.TheVariants.{Replay}
use Rattle.sv_app.specs.Answer.{InSomeOrder, IsAnswerTo}
use Rattle.sv_app.specs.Asked.{IsAnswerToAsk}
use Rattle.sv_app.specs.Run.{IsInput}
use Rattle.sv_app.proofs.runs.run.Goals as goal

pub returns-in-Ok-deliver-clause-answered : goal.returns-in-Ok-deliver-clause-answered
returns-in-Ok-deliver-clause-answered g c = λ _.
    let ask : Some Replay ≡ asked c.args.words.now = search rules in
    let input = subst (λ (a : Option Ask). IsInput g.S.Source.left g.S.Source.given g.S.Source.ended a
    c.in-Ok.bytes.items c.args.source.now c.input.new.source) ask c.in-Ok.ensures.input in
    let bytes = subst (λ (b : List ℕ). IsAnswerTo InSomeOrder b c.in-Ok-replayed_answer.answer.status
    c.in-Ok-replayed_answer.answer.text c.in-Ok-replayed_answer.answer.reports) c.as_slice.ensures.value
    c.in-Ok-replayed_answer.ensures in
    let answer = subst (λ (a : Option Ask). IsAnswerToAsk a c.in-Ok.bytes.items
    c.in-Ok-replayed_answer.answer.status c.in-Ok-replayed_answer.answer.text
    c.in-Ok-replayed_answer.answer.reports) ask bytes in (
      c.in-Ok.bytes.items,
      c.in-Ok-replayed_answer.answer.text,
      c.in-Ok-replayed_answer.answer.reports,
      input,
      answer,
      c.in-Ok-deliver.ensures.ok,
      c.in-Ok-deliver.ensures.heard (λ is_memory. cc is_memory),
    )

pub returns-clause-write_fault : goal.returns-clause-write_fault
returns-clause-write_fault g c = λ _.
    let ask : Some Replay ≡ asked c.args.words.now = search rules in
    let input = subst (λ (a : Option Ask). IsInput g.S.Source.left g.S.Source.given g.S.Source.ended a
    c.in-Ok.bytes.items c.args.source.now c.input.new.source) ask c.in-Ok.ensures.input in
    let bytes = subst (λ (b : List ℕ). IsAnswerTo InSomeOrder b c.in-Ok-replayed_answer.answer.status
    c.in-Ok-replayed_answer.answer.text c.in-Ok-replayed_answer.answer.reports) c.as_slice.ensures.value
    c.in-Ok-replayed_answer.ensures in
    let answer = subst (λ (a : Option Ask). IsAnswerToAsk a c.in-Ok.bytes.items
    c.in-Ok-replayed_answer.answer.status c.in-Ok-replayed_answer.answer.text
    c.in-Ok-replayed_answer.answer.reports) ask bytes in
    let is_failed = c.in-Err-Failed-deliver.field-0-is in
    let failed = c.in-Err-Failed-deliver.ensures.failed (λ i. Err (is_failed i)) in (
      c.in-Ok.bytes.items,
      c.in-Ok-replayed_answer.answer.status,
      c.in-Ok-replayed_answer.answer.text,
      c.in-Ok-replayed_answer.answer.reports,
      input,
      answer,
      failed.0,
      failed.1,
      c.in-Err-Failed-deliver.ensures.heard (λ is_memory. cc (is_failed, is_memory)),
    )
