use Rattle.std.proofs.Common.{◌≡◌, ◌∙◌, ℕ, List, Option, Some, Err, subst, sym}
use Rattle.sv_words.specs.Words.{asked}
use Rattle.sv_words.specs.declared.ask.Ask.{Ask}
use Rattle.sv_app.specs.Asked.{IsAnswerToAsk}
use Rattle.sv_app.specs.Run.{IsInput}
use Rattle.sv_app.proofs.checking.check_run.Goals as goal

pub returns-clause-write_fault : goal.returns-clause-write_fault
returns-clause-write_fault g c = λ _.
    let ask : Some c.in-Ok-Some.ask ≡ asked c.args.words.now = sym c.in-Ok-Some.field-0-is
    ∙ c.in-Ok-Some.ensures.asked in
    let input = subst (λ (a : Option Ask). IsInput g.S.Source.left g.S.Source.given g.S.Source.ended a
    c.in-Ok.bytes.items c.args.source.now c.input.new.source) ask c.in-Ok.ensures.input in
    let bytes = subst (λ (b : List ℕ). IsAnswerToAsk
    (Some c.in-Ok-Some.ask) b c.in-Ok-answer_to.answer.status c.in-Ok-answer_to.answer.text
    c.in-Ok-answer_to.answer.reports) c.as_slice.ensures.value c.in-Ok-answer_to.ensures in
    let answer = subst (λ (a : Option Ask). IsAnswerToAsk a c.in-Ok.bytes.items
    c.in-Ok-answer_to.answer.status c.in-Ok-answer_to.answer.text c.in-Ok-answer_to.answer.reports) ask
    bytes in
    let is_failed = c.in-Err-Failed-deliver.field-0-is in
    let failed = c.in-Err-Failed-deliver.ensures.failed (λ i. Err (is_failed i)) in (
      c.in-Ok.bytes.items,
      c.in-Ok-answer_to.answer.status,
      c.in-Ok-answer_to.answer.text,
      c.in-Ok-answer_to.answer.reports,
      input,
      answer,
      failed.0,
      failed.1,
      c.in-Err-Failed-deliver.ensures.heard (λ is_memory. cc (is_failed, is_memory)),
    )
