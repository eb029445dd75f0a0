-- A line among the others, by the number of its resource.
use Rattle.std.proofs.Common.{ℕ, ◌≡◌, ◌<◌, ◌≤◌, ◌+◌, ◌-◌, ◌⊎◌, inl, inr, List, Contains, length, get_or}
use Rattle.std.proofs.Common.{arith, refl, sym, ◌∙◌, ap, subst}
use Rattle.std.specs.List.{insert}
use Rattle.std.proofs.lemmas.List.Edits.{length-insert, get_or-insert_above, get_or-insert_at}
use Rattle.std.proofs.lemmas.List.Edits.{get_or-insert_below}
use Rattle.sv_space.specs.Sorted.{AreSorted, IsPlaceOf}
use Rattle.sv_space.specs.declared.line.Line.{Line}

order : (a b : ℕ) → (a < b) ⊎ ((a ≡ b) ⊎ (b < a))
order a b = grind arith

module _ (lines : List Line) (at : ℕ) (line : Line) (le : at ≤ length lines) where
  -- what stands at each place
  below : (k : ℕ) (d : Line) → k < at → get_or (insert lines at line) k d ≡ get_or lines k d
  below k d lt = get_or-insert_below lines at line d k lt le

  here : (k : ℕ) (d : Line) → k ≡ at → get_or (insert lines at line) k d ≡ line
  here k d same = ap (λ (n : ℕ). get_or (insert lines at line) n d) same ∙ get_or-insert_at lines at line d le

  above : (k : ℕ) (d : Line) → at < k → get_or (insert lines at line) k d ≡ get_or lines (k - 1) d
  above k d lt = let e : k - 1 + 1 ≡ k = omega (arith, lt) in
      subst (λ (n : ℕ). get_or (insert lines at line) n d ≡ get_or lines (k - 1) d) e
      (get_or-insert_above lines at line d (k - 1) (omega (arith, lt)) le)

  pub insert_each : (P : Line → Type 0) → P line →
      ((k : ℕ) (d : Line) → k < length lines → P (get_or lines k d)) → (k : ℕ) (d : Line) → k
      < length (insert lines at line) → P (get_or (insert lines at line) k d)
  insert_each P one each k d lt =
      let l = length-insert lines at line le in
      elim (order k at) [
        | inl less ↦ subst P (sym (below k d less)) (each k d (omega (arith, less, le)))
        | inr w ↦ elim w [
          | inl same ↦ subst P (sym (here k d same)) one
          | inr more ↦ subst P (sym (above k d more)) (each (k - 1) d (omega (arith, l, lt, more)))
        ]
      ]

  pub insert_has : Contains (insert lines at line) line
  insert_has = (at, (let l = length-insert lines at line le in omega (arith, l, le)), here at line refl)

  pub insert_kept : (l : Line) → Contains lines l → Contains (insert lines at line) l
  insert_kept l (k, lt, is) = elim (order k at) [
    | inl less ↦ (k, (let n = length-insert lines at line le in omega (arith, n, lt)), below k l less ∙ is)
    | inr w ↦ (
      k + 1,
      (let n = length-insert lines at line le in omega (arith, n, lt)),
      get_or-insert_above lines at line l k (elim w
          [ inl same ↦ omega (arith, same) | inr more ↦ omega (arith, more) ]) le ∙ is,
    )
  ]

  pub insert_only : (l : Line) → Contains (insert lines at line) l → Contains lines l ⊎ (l ≡ line)
  insert_only l (k, lt, is) =
      let n = length-insert lines at line le in
      elim (order k at) [
        | inl less ↦ inl (k, omega (arith, less, le), sym (below k l less) ∙ is)
        | inr w ↦ elim w [
          | inl same ↦ inr (sym is ∙ here k l same)
          | inr more ↦ inl (k - 1, omega (arith, n, lt, more), sym (above k l more) ∙ is)
        ]
      ]

  module _ (sorted : AreSorted lines) (place : IsPlaceOf line.res lines at)
      (other : (d : Line) → at < length lines → (get_or lines at d).res ≡ line.res → ⊥) where
    -- those behind have larger numbers
    larger : (k : ℕ) (d : Line) → at ≤ k → k < length lines → line.res < (get_or lines k d).res
    larger k d low lt =
        let b = place.behind at d (omega arith) (omega (arith, low, lt)) in
        elim (order line.res (get_or lines at d).res) [
          | inl less ↦ elim (order at k) [
            | inl before ↦ (let s = sorted at k d before lt in omega (arith, s, less))
            | inr w ↦ elim w [
              | inl same ↦ subst (λ (n : ℕ). line.res < (get_or lines n d).res) same less
              | inr after ↦ absurd (omega (arith, after, low))
            ]
          ]
          | inr w ↦ elim w [
            | inl same ↦ absurd (other d (omega (arith, low, lt)) (sym same))
            | inr more ↦ absurd (omega (arith, more, b))
          ]
        ]

    pub insert_sorted : AreSorted (insert lines at line)
    insert_sorted i j d lt len =
        let l = length-insert lines at line le in
        elim (order j at) [
          | inl j_below ↦ (
              let s = sorted i j d lt (omega (arith, j_below, le)) in
              let a = ap (λ (m : Line). m.res) (below i d (omega (arith, lt, j_below))) in
              let b = ap (λ (m : Line). m.res) (below j d j_below) in
              omega (arith, s, a, b))
          | inr w ↦ elim w [
            | inl j_at ↦ (
                let s = place.before i d (omega (arith, lt, j_at)) in
                let a = ap (λ (m : Line). m.res) (below i d (omega (arith, lt, j_at))) in
                let b = ap (λ (m : Line). m.res) (here j d j_at) in
                omega (arith, s, a, b))
            | inr j_above ↦ (
                let b = ap (λ (m : Line). m.res) (above j d j_above) in
                let j_lt : j - 1 < length lines = omega (arith, l, len, j_above) in
                elim (order i at) [
                  | inl i_below ↦ (
                      let s = sorted i (j - 1) d (omega (arith, i_below, j_above)) j_lt in
                      let a = ap (λ (m : Line). m.res) (below i d i_below) in
                      omega (arith, s, a, b))
                  | inr v ↦ elim v [
                    | inl i_at ↦ (
                        let s = larger (j - 1) d (omega (arith, j_above)) j_lt in
                        let a = ap (λ (m : Line). m.res) (here i d i_at) in
                        omega (arith, s, a, b))
                    | inr i_above ↦ (
                        let s = sorted (i - 1) (j - 1) d (omega (arith, lt, i_above)) j_lt in
                        let a = ap (λ (m : Line). m.res) (above i d i_above) in
                        omega (arith, s, a, b))
                  ]
                ])
          ]
        ]
