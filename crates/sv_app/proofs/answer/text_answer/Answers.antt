use Rattle.std.proofs.Common.{Ok, Err}
use Rattle.std.proofs.lemmas.Result.{IfOk-weaker}
use Rattle.sv_app.proofs.answer.text_answer.Goals as goal

pub returns-in-Ok : goal.returns-in-Ok
returns-in-Ok c = IfOk-weaker c.trace_answer.result _ _
    (λ it is. (Ok c.in-Ok.trace, c.in-Ok.ensures.tells, (c.in-Ok.ensures.lawful, is)))
    c.trace_answer.ensures

pub returns-in-Err-Refused : goal.returns-in-Err-Refused
returns-in-Err-Refused c =
    let outcome = rw c.in-Err-Refused.field-0-is at c.in-Err-Refused.ensures.tells in
    IfOk-weaker c.refusal_answer.result _ _ (λ it is. (Err c.in-Err-Refused.refusal, outcome, is))
    c.refusal_answer.ensures
