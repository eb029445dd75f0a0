use Rattle.std.proofs.Common.{ℕ, ap, sym, subst}
use Rattle.sv_mask.specs.Scopes.{IsAtStages, first_sync, second_sync}
use Rattle.sv_mask.specs.declared.usage.Usages.{Usages}
use Rattle.sv_expand.proofs.AccessScopes.{usages_at-rows, usages_at-first, usages_at-second}
use Rattle.sv_expand.proofs.accesses.usages_at.Goals as goal

usages_of : ℕ → Usages
usages_of n = record { 0 = n }

pub returns-clause-exact : goal.returns-clause-exact
unfolding usages_of
returns-clause-exact c = ap usages_of (usages_at-rows c.args.word _ c.union_of_rows.ensures)

pub returns-clause-in_first_scope : goal.returns-clause-in_first_scope
returns-clause-in_first_scope c =
    subst (λ set. IsAtStages set (first_sync c.args.word)) (sym (returns-clause-exact c))
    (usages_at-first c.args.word)

pub returns-clause-in_second_scope : goal.returns-clause-in_second_scope
returns-clause-in_second_scope c =
    subst (λ set. IsAtStages set (second_sync c.args.word)) (sym (returns-clause-exact c))
    (usages_at-second c.args.word)
