use Rattle.std.proofs.Common.{◌≡◌, ℕ, ◌<◌, true, sym, subst, arith, length, rules}
use Rattle.sv_rules.specs.Named.{is_new_pass}
use Rattle.sv_lines.specs.Tables.{Puts}
use Rattle.sv_rules.specs.Taken.{Taken}
use Rattle.sv_lines.proofs.Passed.{pass_kept, passed_put}
use Rattle.sv_lines.proofs.taken.TakenLines.keep_pass.Goals as goal

pub invariant_of-self-in_err-push : goal.invariant_of-self-in_err-push
invariant_of-self-in_err-push c =
    let puts : Puts c.self.inside.sizes c.insert.new.self c.args.pass c.in_ok-sizes.sizes = search rules in
    passed_put c.self.inside c.push.new.self.lines.items c.args.pass c.in_ok-sizes.sizes
    c.push.new.self.table c.insert.new.self c.self.invariant
    (subst (λ (s : Taken). is_new_pass s.trace c.args.pass ≡ true) (sym c.self.view_is) c.requires.first)
    c.in_err-push.ensures.fault.0 c.in_err-push.ensures.fault.1 puts

pub invariant_of-self-2 : goal.invariant_of-self-2
invariant_of-self-2 c =
    let puts : Puts c.self.inside.sizes c.insert.new.self c.args.pass c.in_ok-sizes.sizes = search rules in
    let count : c.len-place.result ≡ length c.self.inside.passes.lines.items =
    omega (arith, c.len-place.ensures, c.self.inside.passes.lines.ok.0) in
    pass_kept c.self.inside c.push.new.self.lines.items c.args.pass c.args.attachments c.args.subpasses
    c.args.deps c.in_ok-sizes.sizes c.push.new.self.table c.insert.new.self c.self.invariant
    (subst (λ (s : Taken). s.lines < 1000000) (sym c.self.view_is) c.requires.few)
    (subst (λ (s : Taken). is_new_pass s.trace c.args.pass ≡ true) (sym c.self.view_is) c.requires.first)
    c.in_ok-push.ensures.lines (subst (λ (n : ℕ). Puts c.self.inside.passes.table c.push.new.self.table
    c.args.pass n) count c.in_ok-push.ensures.table) puts c.in_ok-sizes.ensures
