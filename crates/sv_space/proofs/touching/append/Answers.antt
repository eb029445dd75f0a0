use Rattle.std.proofs.Common.{◌≡◌, ◌≤◌, ◌∙◌, ◌++◌, ◌∷◌, [], List, append-nil, append_assoc, length-append}
use Rattle.std.proofs.Common.{ap, arith, length, sym, take}
use Rattle.std.proofs.lemmas.List.{take_all, take_more}
use Rattle.sv_model.specs.declared.work.Group.{Group}
use Rattle.sv_space.proofs.touching.append.Goals as goal

longer_by : (old more all : List Group) → all ≡ old ++ more → length old ≤ length all
longer_by old more all is = let e = ap length is ∙ length-append old more in omega (arith, e)

pub loop-group-init : goal.loop-group-init
loop-group-init c = sym (append-nil c.args.log.now)

pub loop-group-preserved : goal.loop-group-preserved
loop-group-preserved c =
    let old = c.args.log.now in
    let groups = c.args.groups.now in
    let i = c.loop-group.group-index in
    let g = c.group-item.result in
    c.in_ok-push.ensures.all
    ∙ ap (λ (gs : List Group). gs ++ g ∷ []) c.loop-group.invariant
    ∙ append_assoc old (take i groups) (g ∷ [])
    ∙ ap (λ (h : Group). old ++ (take i groups ++ h ∷ [])) c.group-item.is
    ∙ ap (λ (gs : List Group). old ++ gs) (sym (take_more groups i g c.loop-group-test.true))

pub returns-in_err-push-clause-longer : goal.returns-in_err-push-clause-longer
returns-in_err-push-clause-longer c =
    let was = longer_by c.args.log.now (take c.loop-group.group-index c.args.groups.now) c.loop-group.log
    c.loop-group.invariant in
    let more = c.push.ensures.longer in
    omega (arith, was, more)

pub returns-clause-all : goal.returns-clause-all
returns-clause-all c = c.loop-group.invariant ∙ ap (λ (gs : List Group). c.args.log.now ++ gs)
    (take_all c.loop-group.group-index c.args.groups.now (omega arith))

pub returns-clause-longer : goal.returns-clause-longer
returns-clause-longer c = longer_by c.args.log.now
    (take c.loop-group.group-index c.args.groups.now) c.loop-group.log c.loop-group.invariant
