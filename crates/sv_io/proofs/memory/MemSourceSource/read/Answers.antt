use Rattle.std.proofs.Common.{◌≡◌, ℕ, ◌-◌, ◌+◌, ◌≤◌, ◌++◌, length, take, drop, arith, ap, ◌∙◌, sym}
use Rattle.std.proofs.lemmas.List.{drop-drop, length-drop, drop_all}
use Rattle.sv_io.specs.Memory.{SourceInMemory}
use Rattle.sv_io.proofs.Pieces.{gives}
use Rattle.sv_io.proofs.memory.MemSourceSource.read.Goals as goal

pub returns-in-Some-clause-bytes : goal.returns-in-Some-clause-bytes
returns-in-Some-clause-bytes c =
    let s = c.self.inside.bytes.items in
    let p = c.self.inside.place in
    let n = c.min-count.result in
    let left_is : drop p s ≡ c.args.self.now.left = ap (λ (r : SourceInMemory). r.left) c.self.view_is in
    let fits : n ≤ length (drop p s) = omega (arith, length-drop {A = ℕ}) in
    let same : p + n - p ≡ n = omega arith in
    let given : drop p s ≡ take n (c.copy_from_slice.new.self ++ drop n c.args.buf.now) ++ drop n (drop p s) =
    gives (drop p s) c.copy_from_slice.new.self c.args.buf.now n fits
    (c.copy_from_slice.ensures.after ∙ ap (λ xs. take (p + n - p) (drop p xs)) c.deref.ensures.value
    ∙ ap (λ k. take k (drop p s)) same) in (
      sym left_is ∙ given ∙ ap (λ xs. take n (c.copy_from_slice.new.self ++ drop n c.args.buf.now) ++ xs)
          (drop-drop n p s),
      λ z w. drop_all (p + n) s (omega (arith, c.in-Some.ensures.some c.requires)),
    )
