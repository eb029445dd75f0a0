use Rattle.std.proofs.Common.{◌≡◌, ◌∙◌, ℕ, List, Ok, Err, refl, subst}
use Rattle.std.proofs.lemmas.Result.{IfOk-weaker}
use Rattle.sv_gen.specs.Generated.{generated}
use Rattle.sv_rules.specs.Outcome.{IsOutcomeOf}
use Rattle.sv_app.proofs.bench.bench.Goals as goal

pub returns-in-Ok-clause-line : goal.returns-in-Ok-clause-line
returns-in-Ok-clause-line c =
    let text : c.as_slice.result.now ≡ generated c.args.seed c.args.count = c.as_slice.ensures.value
    ∙ c.in_ok-text.ensures in
    let outcome = subst (λ (t : List ℕ). IsOutcomeOf t (Ok c.in-Ok.trace)) text c.in-Ok.ensures.tells in
    IfOk-weaker c.trace_line.result _ _ (λ it is. (Ok c.in-Ok.trace, outcome, (c.in-Ok.ensures.lawful, is)))
    c.trace_line.ensures.line

pub returns-clause-line : goal.returns-clause-line
returns-clause-line c =
    let text : c.as_slice.result.now ≡ generated c.args.seed c.args.count = c.as_slice.ensures.value
    ∙ c.in_ok-text.ensures in
    let told = rw c.in-Err-Refused.field-0-is at c.in-Err-Refused.ensures.tells in
    let outcome = subst (λ (t : List ℕ). IsOutcomeOf t (Err c.in-Err-Refused.refusal)) text told in
    IfOk-weaker c.refusal_answer.result _ _ (λ it is. (
      Err c.in-Err-Refused.refusal,
      outcome,
      record
          { has_status = is.has_status; has_text = is.has_text; has_reports = refl },
    )) c.refusal_answer.ensures
