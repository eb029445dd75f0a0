use Rattle.std.proofs.Common.{◌≡◌, List, [], ◌∷◌, ◌∙◌, ap, subst, arith, length}
use Rattle.sv_model.specs.Size.{capped}
use Rattle.sv_model.specs.declared.line.Line.{Line}
use Rattle.sv_model.specs.declared.line.View.{View}
use Rattle.sv_model.specs.declared.work.PassPoint.TheVariants.{Begin, Next, End}
use Rattle.sv_pass.specs.Begun.{IsBegun, pass_in}
use Rattle.sv_lines.specs.Measures.{anywhere}
use Rattle.sv_lines.proofs.Measuring.{pass_same}
use Rattle.sv_lines.proofs.measure.sizes_of.Goals as goal

pub returns : goal.returns
returns c =
    let e = c.requires.subpasses in
    let b = c.requires.bounded in
    let count0 : length c.as_slice.result.now ≡ length
    (pass_in (c.args.line.now ∷ []) c.args.pass).attachments =
    ap (λ (vs : List View). length vs) c.as_slice.ensures.value ∙ c.in_ok-views.ensures.count
    ∙ c.requires.attachments in
    let same = subst (λ (lines : List Line). IsBegun
    (pass_in lines c.args.pass) c.as_slice.result.now c.in_ok-begun.begun) c.from_ref.ensures.value
    c.in_ok-begun.ensures in
    record {
      few = omega (arith, e, b);
      begin = λ here views count. c.in_ok-begin.ensures
          (pass_in (c.args.line.now ∷ []) c.args.pass) c.as_slice.result.now same
          ∙ ap capped (pass_same (pass_in (c.args.line.now ∷ []) c.args.pass) c.as_slice.result.now views
          anywhere here Begin count0 count);
      next = λ i lt here views count. c.in_ok-next.ensures
          (pass_in (c.args.line.now ∷ []) c.args.pass) c.as_slice.result.now same i (omega (arith, lt, e))
          ∙ ap capped (pass_same (pass_in (c.args.line.now ∷ []) c.args.pass) c.as_slice.result.now views
          anywhere here (Next i) count0 count);
      end = λ here views count. c.in_ok-end.ensures
          (pass_in (c.args.line.now ∷ []) c.args.pass) c.as_slice.result.now same
          ∙ ap capped (pass_same (pass_in (c.args.line.now ∷ []) c.args.pass) c.as_slice.result.now views
          anywhere here End count0 count);
    }
