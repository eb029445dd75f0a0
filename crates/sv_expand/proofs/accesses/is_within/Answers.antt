use Rattle.std.proofs.Common.{◌<◌, ◌^◌, ◌&&◌, ap, sym, subst, ◌∙◌}
use Rattle.sv_mask.specs.Scopes.{is_within, has_usages, names_all_of, access}
use Rattle.sv_expand.proofs.AccessScopes.{access-lt}
use Rattle.sv_expand.proofs.accesses.is_within.Goals as goal

pub returns : goal.returns
unfolding is_within
returns c =
    let scope = access c.args.stages c.args.accesses in
    let small = subst (λ set. set.0 < 2 ^ 43) (sym c.access-scope.ensures.exact)
    (access-lt c.args.stages c.args.accesses) in
    let usages =
    c.holds-has_usages.ensures 43 small
    ∙ ap (has_usages c.access-of_scope.result) c.access-scope.ensures.exact
    ∙ ap (λ set. has_usages set scope) c.access-of_scope.ensures.exact in
    ap (λ b. b && c.holds-has_usages.result) c.names_all_of-has_stages.ensures
    ∙ ap (λ b. names_all_of c.args.of_stages c.args.stages && b) usages
