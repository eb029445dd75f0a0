use Rattle.std.proofs.Common.{ℕ, ap, sym, subst}
use Rattle.sv_mask.specs.Scopes.{IsAtStages, first_sync, second_sync}
use Rattle.sv_mask.specs.declared.usage.Usages.{Usages}
use Rattle.sv_expand.proofs.AccessScopes.{access-rows, access-first, access-second}
use Rattle.sv_expand.proofs.accesses.access.Goals as goal

usages_of : ℕ → Usages
usages_of n = record { 0 = n }

pub returns-clause-exact : goal.returns-clause-exact
unfolding usages_of
returns-clause-exact c =
    ap usages_of (access-rows c.args.stages c.args.accesses _ _ _ _ c.union_of_rows-at.ensures
    c.union_of_rows-plain.ensures c.with_flag-with_reads.ensures c.with_flag-with_writes.ensures)

pub returns-clause-in_first_scope : goal.returns-clause-in_first_scope
returns-clause-in_first_scope c =
    subst (λ set. IsAtStages set (first_sync c.args.stages)) (sym (returns-clause-exact c))
    (access-first c.args.stages c.args.accesses)

pub returns-clause-in_second_scope : goal.returns-clause-in_second_scope
returns-clause-in_second_scope c =
    subst (λ set. IsAtStages set (second_sync c.args.stages)) (sym (returns-clause-exact c))
    (access-second c.args.stages c.args.accesses)
