use Rattle.std.proofs.Common.{◌≡◌, ℕ, ◌+◌, ◌<◌, List, ◌∙◌, sym, subst, arith, length, length-set, sum_by}
use Rattle.std.proofs.Common.{inl, inr}
use Rattle.std.proofs.lemmas.Bool.{cases_lt}
use Rattle.std.proofs.lemmas.List.{get_or-set_same, get_or-set_other}
use Rattle.std.specs.Prelude.{slice_index_or, slice_set}
use Rattle.sv_model.specs.declared.work.PassPoint.TheVariants.{Next}
use Rattle.sv_model.specs.Passes.{pass_steps}
use Rattle.sv_model.specs.Size.{step_size, capped}
use Rattle.sv_lines.specs.Measures.{anywhere}
use Rattle.sv_lines.proofs.measure.next_sizes.Goals as goal

one_more : (P : ℕ → ℕ → Type 0) (xs : List ℕ) (i y : ℕ) → i < length xs
    → ((k : ℕ) → k < i → P k (slice_index_or xs k 0)) → P i y → (k : ℕ) → k < i + 1
    → P k (slice_index_or (slice_set xs i y) k 0)
one_more P xs i y within before here k lt = elim (cases_lt k i) [
  | inl less ↦ subst (λ (n : ℕ). P k n) (sym (get_or-set_other xs i k y 0 (λ e. omega (arith, e, less))))
      (before k less)
  | inr more ↦
      let same : k ≡ i = omega (arith, more, lt) in
      subst (λ (n : ℕ). P n (slice_index_or (slice_set xs i y) n 0)) (sym same)
      (subst (λ (n : ℕ). P i n) (sym (get_or-set_same xs i y 0 within)) here)
]

pub loop-i-preserved : goal.loop-i-preserved
loop-i-preserved c =
    let count = c.loop-i.invariant.0 in
    let below = c.loop-i-test.true in
    let few = c.requires in (
      length-set c.loop-i.sizes c.loop-i.i c.in_ok-size.size ∙ c.loop-i.invariant.0,
      λ pass views h. one_more (λ k n. n ≡ capped
          (sum_by step_size (pass_steps pass views (Next k) anywhere))) c.loop-i.sizes c.loop-i.i
          c.in_ok-size.size (omega (arith, count, below, few))
          (c.loop-i.invariant.1 pass views h) (c.in_ok-size.ensures pass views h),
    )
