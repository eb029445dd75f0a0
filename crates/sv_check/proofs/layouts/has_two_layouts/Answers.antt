use Rattle.std.proofs.Common.{◌≡◌, Bool, true, false, not, refl, sym, ◌∙◌, arith}
use Rattle.std.proofs.lemmas.List.{get_or_default}
use Rattle.sv_mask.specs.declared.layout.Layout.TheVariants.{Undefined}
use Rattle.sv_check.proofs.FirstUses.{one_more, two_found, none_found}
use Rattle.sv_rules.proofs.Passing.{not_false}
use Rattle.sv_check.proofs.layouts.has_two_layouts.Goals as goal

not_true : (b : Bool) → not b ≡ true → b ≡ false
not_true true e = let h : false ≡ true = e in cc
not_true false e = refl

pub returns-then-differs : goal.returns-then-differs
returns-then-differs c =
    sym (two_found c.args.uses.now c.loop-u.u-index _ c.loop-u.firsts c.loop-u-test.true
    (λ d. get_or_default c.args.uses.now c.loop-u.u-index d _ c.loop-u-test.true) c.loop-u.invariant
    (not_true _ (sym c.in_ok-differs.ensures.differs ∙ c.if-differs.true)))

pub loop-u-preserved : goal.loop-u-preserved
loop-u-preserved c =
    one_more c.args.uses.now c.loop-u.u-index _ c.loop-u.firsts c.differs_from_first.new.firsts
    (λ d. get_or_default c.args.uses.now c.loop-u.u-index d _ c.loop-u-test.true) c.loop-u.invariant
    c.in_ok-differs.ensures.kept (not_false _ (sym c.in_ok-differs.ensures.differs ∙ c.if-differs.false))

pub returns : goal.returns
returns c =
    let end = c.loop-u-test.false in
    let within = c.loop-u.auto.u-index-end in
    sym (none_found c.args.uses.now c.loop-u.u-index c.loop-u.firsts
    (omega (arith, end, within)) c.loop-u.invariant (record { att = 0; layout = Undefined }))
