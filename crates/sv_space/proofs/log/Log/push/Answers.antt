use Rattle.std.proofs.Common.{ℕ, ◌≡◌, ◌/◌, ◌%◌, ◌∷◌, ◌++◌, [], ◌∙◌, List, ap, arith, get_or}
use Rattle.std.proofs.Common.{length, subst, sym}
use Rattle.sv_model.specs.declared.work.Group.{Group}
use Rattle.sv_space.specs.Patterns.{HavePatterns, Tells}
use Rattle.sv_space.specs.declared.marks.Block.{Block}
use Rattle.sv_space.proofs.Patterned.{patterns_grown, patterns_marked, patterns_more, patterns_numbered}
use Rattle.sv_space.proofs.log.Log.push.Goals as goal

pub invariant_of-self : goal.invariant_of-self
invariant_of-self c =
    let was = c.self.inside in
    patterns_more was.groups.items was.patterns.items c.number_of.new.patterns.items was.numbers.items
    was.blocks.items c.number_of.ensures.more c.self.invariant

pub invariant_of-self-in_err-copied : goal.invariant_of-self-in_err-copied
invariant_of-self-in_err-copied c =
    let was = c.self.inside in
    patterns_more was.groups.items was.patterns.items c.number_of.new.patterns.items was.numbers.items
    was.blocks.items c.number_of.ensures.more c.self.invariant

pub invariant_of-self-in_err-keep : goal.invariant_of-self-in_err-keep
invariant_of-self-in_err-keep c =
    let was = c.self.inside in
    let patterns = c.number_of.new.patterns.items in
    subst (λ (gs : List Group). HavePatterns gs patterns was.numbers.items was.blocks.items)
    (sym c.in_err-keep.ensures.err)
    (patterns_more was.groups.items was.patterns.items patterns was.numbers.items was.blocks.items
    c.number_of.ensures.more c.self.invariant)

pub invariant_of-self-in_err-mark : goal.invariant_of-self-in_err-mark
invariant_of-self-in_err-mark c =
    let was = c.self.inside in
    let groups = c.keep.new.groups.items in
    let patterns = c.number_of.new.patterns.items in
    patterns_marked groups patterns was.numbers.items was.blocks.items c.mark.new.blocks.items
    c.mark.ensures.kept c.mark.ensures.longer
    (patterns_grown was.groups.items groups c.in_ok-copied.copied was.patterns.items patterns
    was.numbers.items was.blocks.items c.in_ok-keep.ensures.ok c.number_of.ensures.more c.self.invariant)

pub invariant_of-self-in-Continue-branch-5 : goal.invariant_of-self-in-Continue-branch-5
invariant_of-self-in-Continue-branch-5 c =
    let was = c.self.inside in
    let numbers = was.numbers.items in
    let blocks = c.mark.new.blocks.items in
    let groups = c.keep.new.groups.items in
    let patterns = c.number_of.new.patterns.items in
    let number = c.in_ok-number.number in
    let at : c.len-then-len.result ≡ length numbers = omega arith in
    let is : groups ≡ was.groups.items ++ c.args.group.now ∷ [] = c.in_ok-keep.ensures.ok
    ∙ ap (λ (g : Group). was.groups.items ++ g ∷ []) c.in_ok-copied.ensures in
    patterns_numbered was.groups.items groups c.args.group.now patterns numbers c.push.new.self.items
    blocks number is c.in_ok-push.ensures.items (omega arith) c.in_ok-number.ensures.number
    (let r = c.in_ok-mark.ensures.room in omega (arith, r))
    (subst (λ k. (e : Block) → Tells (get_or blocks (k / 64) e) (k % 64) number) at
    c.in_ok-mark.ensures.marked)
    (patterns_marked groups patterns numbers was.blocks.items blocks c.mark.ensures.kept c.mark.ensures.longer
    (patterns_grown was.groups.items groups c.args.group.now was.patterns.items patterns numbers
    was.blocks.items is c.number_of.ensures.more c.self.invariant))

pub invariant_of-self-in_err-push : goal.invariant_of-self-in_err-push
invariant_of-self-in_err-push c =
    let was = c.self.inside in
    let groups = c.keep.new.groups.items in
    let patterns = c.number_of.new.patterns.items in
    let blocks = c.mark.new.blocks.items in
    subst (λ (ns : List ℕ). HavePatterns groups patterns ns blocks) (sym c.in_err-push.ensures.items)
    (patterns_marked groups patterns was.numbers.items was.blocks.items blocks c.mark.ensures.kept
    c.mark.ensures.longer
    (patterns_grown was.groups.items groups c.in_ok-copied.copied was.patterns.items patterns
    was.numbers.items was.blocks.items c.in_ok-keep.ensures.ok c.number_of.ensures.more c.self.invariant))

pub invariant_of-self-else-len : goal.invariant_of-self-else-len
invariant_of-self-else-len c =
    let was = c.self.inside in
    patterns_grown was.groups.items c.keep.new.groups.items c.in_ok-copied.copied was.patterns.items
    c.number_of.new.patterns.items was.numbers.items was.blocks.items c.in_ok-keep.ensures.ok
    c.number_of.ensures.more c.self.invariant
