use Rattle.std.proofs.Common.{arith, sym, subst}
use Rattle.std.specs.List.{All}
use Rattle.std.proofs.lemmas.List.Elements.{All-push}
use Rattle.sv_model.specs.Size.{HasShortOlds}
use Rattle.sv_binding.proofs.Counting.{count_snoc, groups_pushed}
use Rattle.sv_binding.proofs.numbering.number_groups.Goals as goal

pub loop-group-preserved : goal.loop-group-preserved
loop-group-preserved c =
    let at = c.loop-group.invariant.1 in
    let next = c.in_ok-next.ensures in
    let more = count_snoc c.loop-group.yielded c.in-Some.group in (
      groups_pushed c.args.step c.loop-group.yielded c.in-Some.group c.in_ok-number_group.field-0
          c.loop-group.pos c.loop-group.numbered c.push_or_drop.new.self
          at c.in_ok-number_group.ensures.numbered c.loop-group.invariant.0 c.in_ok-push_or_drop.ensures.ok,
      omega (arith, at, next, more),
      subst (All HasShortOlds) (sym c.in_ok-push_or_drop.ensures.ok)
          (All-push HasShortOlds c.loop-group.numbered c.in_ok-number_group.field-0 c.loop-group.invariant.2
          c.in_ok-number_group.ensures.short),
    )
