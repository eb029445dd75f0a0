use Rattle.std.proofs.Common.{◌≡◌, ◌≤◌, ◌<◌, ◌+◌, ◌*◌, ◌∙◌, ℕ, List, get_or, length, take, ap, arith, subst}
use Rattle.std.proofs.Common.{sym}
use Rattle.std.specs.Prelude.{sum_by}
use Rattle.sv_space.specs.Counts.{kept_on, pieces_on}
use Rattle.sv_space.specs.Pieces.{IsLineOf}
use Rattle.sv_space.specs.Space.{kept_in, pieces_in}
use Rattle.sv_space.specs.declared.line.Line.{Line}
use Rattle.sv_space.proofs.Counted.{one_more, whole}
use Rattle.sv_space.proofs.KeptFew.{capped_more, line_more, lines_few}
use Rattle.sv_space.proofs.space.Space.kept_total.Goals as goal

pub loop-line-preserved : goal.loop-line-preserved
loop-line-preserved c =
    let lines = c.args.self.now.lines.items in
    let i = c.loop-line.line-index in
    let all = c.loop-line.all in
    let more = c.kept_of.result in
    let line = c.line-item.result in
    let same : c.deref-line-items.result.now ≡ lines = c.deref-line-items.ensures.value in
    let is : line ≡ get_or lines i line = c.line-item.is ∙ ap (λ (ls : List Line). get_or ls i line) same in
    let lt : i < length lines = (let e = ap length same in let h = c.loop-line-test.true in
    omega (arith, e, h)) in record {
      number = c.saturating_add-all.ensures ∙ capped_more all more (kept_on line) c.kept_of.ensures.number
          ∙ one_more kept_on lines i line all (kept_on line) lt c.loop-line.invariant.number (ap kept_on is);
      few = λ work queues most order bounded stand. subst
          (λ (n : ℕ). n ≤ (most + 17 * length queues) * sum_by pieces_on (take (i + 1) lines))
          (sym c.saturating_add-all.ensures)
          (line_more (most + 17 * length queues) all more i lines line lt
          (c.loop-line.invariant.few work queues most order bounded stand)
          (subst (λ (l : Line). more ≤ (most + 17 * length queues) * pieces_on l) is
          (c.kept_of.ensures.few work queues most order bounded
          (subst (λ (l : Line). IsLineOf work l.res l.shape l.pieces.parts.items) (sym is)
          (stand i line lt)))));
    }

pub returns-clause-number : goal.returns-clause-number
unfolding kept_in
returns-clause-number c =
    let long : length c.deref-line-items.result.now ≡ length c.args.self.now.lines.items =
    ap length c.deref-line-items.ensures.value in
    whole kept_on c.args.self.now.lines.items c.loop-line.line-index c.loop-line.all
    (omega arith) c.loop-line.invariant.number

pub returns-clause-few : goal.returns-clause-few
unfolding pieces_in
returns-clause-few c = λ work queues most is bounded.
    let long : length c.deref-line-items.result.now ≡ length c.args.self.now.lines.items =
    ap length c.deref-line-items.ensures.value in
    lines_few (most + 17 * length queues) c.loop-line.all c.loop-line.line-index c.args.self.now.lines.items
    (c.loop-line.invariant.few work queues most is.steps bounded is.lines) (omega arith) (omega arith)
