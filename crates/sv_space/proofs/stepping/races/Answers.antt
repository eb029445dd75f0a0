use Rattle.std.proofs.Common.{arith, refl, subst, ap}
use Rattle.std.specs.Option.{option_copied}
use Rattle.std.proofs.lemmas.List.{get_or_default}
use Rattle.sv_model.specs.Dependencies.{own_deps}
use Rattle.sv_model.specs.Order.{IsClear, extended}
use Rattle.sv_model.specs.declared.work.Access.{Access}
use Rattle.sv_space.specs.Own.{own_of}
use Rattle.sv_space.proofs.Racing.{some_races, clear_more, own_if, held_if}
use Rattle.sv_space.proofs.stepping.races.Goals as goal

pub check-requires-clause-own : goal.check-requires-clause-own
check-requires-clause-own c = own_if c.args.groups.now c.args.accesses.now c.requires
    c.loop-access.access-index _ c.loop-access-test.true
    (get_or_default c.args.accesses.now c.loop-access.access-index _ _ c.loop-access-test.true)
    c.own_group-own.result c.own_group-own.ensures

pub check-requires-clause-held : goal.check-requires-clause-held
check-requires-clause-held c = held_if c.args.groups.now c.args.accesses.now c.requires
    c.loop-access.access-index _ c.loop-access-test.true
    (get_or_default c.args.accesses.now c.loop-access.access-index _ _ c.loop-access-test.true)
    c.own_group-own.result c.own_group-own.ensures

pub returns : goal.returns
returns c = λ story epoch stands clean below cov x on.
    subst (λ (y : Access). IsClear (extended story (own_of c.args.groups.now y)) epoch y) on.2
    (c.loop-access.invariant story epoch stands clean below cov on.0 x on.1 (let h = on.1 in omega arith))

pub returns-in-Some : goal.returns-in-Some
returns-in-Some c = λ story epoch stands clean below cov.
    some_races (own_of c.args.groups.now) c.args.accesses.now c.loop-access.access-index _
    (own_deps (option_copied c.own_group-own.result))
    (ap own_deps c.own_group-own.ensures) story epoch c.in-Some._partner.access
    c.loop-access-test.true (get_or_default c.args.accesses.now c.loop-access.access-index _ _
    c.loop-access-test.true) below cov (c.in-Some.ensures.partner story epoch
    (stands c.args.state.now refl) clean)

pub loop-access-preserved : goal.loop-access-preserved
loop-access-preserved c = λ story epoch stands clean below cov.
    clear_more (own_of c.args.groups.now) c.args.accesses.now c.loop-access.access-index _
    (own_deps (option_copied c.own_group-own.result)) (ap own_deps c.own_group-own.ensures) story epoch
    c.loop-access-test.true (get_or_default c.args.accesses.now c.loop-access.access-index _ _
    c.loop-access-test.true) below cov (c.in_default.ensures.partner story epoch
    (stands c.args.state.now refl) clean) (c.loop-access.invariant story epoch stands clean below cov)
