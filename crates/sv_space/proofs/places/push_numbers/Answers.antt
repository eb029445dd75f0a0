use Rattle.std.proofs.Common.{◌≡◌, ◌≤◌, ◌-◌, ◌∙◌, ◌⊎◌, ◌++◌, ◌∷◌, [], ℕ, List, inl, inr, ap, arith, refl}
use Rattle.std.proofs.Common.{sym, append-nil, append_assoc}
use Rattle.std.specs.List.{range_with_len}
use Rattle.sv_space.proofs.Placing.{push_number, no_numbers}
use Rattle.sv_space.proofs.places.push_numbers.Goals as goal

pub loop-number-init : goal.loop-number-init
loop-number-init c = record {
  items = sym (ap (λ (xs : List ℕ). c.args.list.now.items ++ xs)
      (no_numbers c.args.from c.args.from (omega arith)) ∙ append-nil c.args.list.now.items);
  inside = inl refl;
}

pub loop-number-preserved : goal.loop-number-preserved
loop-number-preserved c = record {
  items = c.in_ok-push.ensures.ok
      ∙ ap (λ (xs : List ℕ). xs ++ c.loop-number.number ∷ []) c.loop-number.invariant.items
      ∙ append_assoc c.args.list.now.items (range_with_len c.args.from (c.loop-number.number - c.args.from))
      (c.loop-number.number ∷ [])
      ∙ ap (λ (xs : List ℕ). c.args.list.now.items ++ xs)
      (sym (push_number c.args.from _ c.loop-number.number (omega arith) refl));
  inside = inr (omega arith);
}

pub returns : goal.returns
returns c = c.loop-number.invariant.items ∙ ap (λ (xs : List ℕ). c.args.list.now.items ++ xs)
    (same c.loop-number.number c.args.from c.args.end c.loop-number.invariant.inside (omega arith))
  where
    same : (n from end : ℕ) → (n ≡ from) ⊎ (n ≤ end) → end ≤ n → range_with_len from (n - from)
        ≡ range_with_len from (end - from)
    same n from end (inl e) le = no_numbers from n (omega (arith, e))
        ∙ sym (no_numbers from end (omega (arith, e, le)))
    same n from end (inr le) over = let e : n ≡ end = omega (arith, le, over) in
        ap (λ k. range_with_len from (k - from)) e
