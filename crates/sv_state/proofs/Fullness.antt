-- What is reached stays, and outlines of which all is reached add nothing.
use Rattle.std.proofs.Common.{ℕ, Bool, ◌≡◌, ◌⊎◌, ◌++◌, inl, inr, ap, List, IsTrue, ◌↔◌, true, refl}
use Rattle.std.proofs.Common.{arith, sym, subst, None, drop, length}
use Rattle.sv_model.specs.Cells.{Within}
use Rattle.sv_model.specs.declared.work.Cell.{Cell}
use Rattle.sv_model.specs.declared.work.Dep.{Dep}
use Rattle.sv_model.specs.declared.work.Track.{Track}
use Rattle.sv_state.specs.Masks.{Adds, Holds, IsHeld, IsMaskOf, Joins, KeepsHeld, Mark, Marked}
use Rattle.sv_state.specs.Outlines.{AreFull, FullAreQuiet, IsFull}
use Rattle.sv_state.specs.States.{AllChanged, AreChangedFrom, live_from}
use Rattle.sv_state.specs.declared.entry.Entry.{Entry}
use Rattle.sv_state.specs.declared.mask.Mask.{Mask}
use Rattle.sv_state.specs.declared.reached.Reached.{Reached}
use Rattle.sv_state.proofs.Changes.{changed_on}
use Rattle.sv_state.proofs.Outlining.{quiet_given}
use Rattle.sv_state.proofs.StateLaws.{changed_both, to_old}

-- a mask is added to what the present step reaches
pub keeps_added : (settled old new : List Mask) (m : Mask) → Adds old new m → (t : Track) (k : Mark)
    → Holds settled t k ⊎ Holds old t k → Holds settled t k ⊎ Holds new t k
keeps_added settled old new m adds t k h = elim h [
  | inl s ↦ inl s
  | inr f ↦ inr (adds.old_stay t k f)
]

-- what the present step reaches comes to what is reached by earlier ones
pub keeps_joined : (settled fresh new left : List Mask) → Joins settled fresh new → (t : Track) (k : Mark)
    → Holds settled t k ⊎ Holds fresh t k → Holds new t k ⊎ Holds left t k
keeps_joined settled fresh new left joins t k h = elim h [
  | inl s ↦ inl (joins.old_stay t k s)
  | inr f ↦ inl (joins.more_is t k f)
]

pub keeps_both : (r s u : Reached) → KeepsHeld r s → KeepsHeld s u → KeepsHeld r u
keeps_both r s u first second t k h = second t k (first t k h)

-- all that an outline without a range may give is in its mask
pub mask_full : (r : Reached) (d : Dep) (m : Mask) → d.range ≡ None
    → ((cell : Cell) → IsTrue true ↔ Within d.range cell → IsMaskOf cell d m)
    → ((k : Mark) → Marked m k → IsHeld r m.track k) → IsFull r d
mask_full r d m none of holds cell k gives =
    let here = of cell (λ t. subst (λ x. Within x cell) (sym none) tt, λ w. refl) in
    subst (λ t. IsHeld r t k) here.track (holds k (here.all k gives))

module _ (R : Entry → Entry → Type 0) (same : (e f : Entry) → R e f → f.access ≡ e.access)
    (keeps : (e f : Entry) → R e f → KeepsHeld e.reached f.reached) where
  -- entries that lose nothing
  full_stays : (old new : List Entry) → AllChanged R old new → (outlines : List Dep) → AreFull old outlines
      → AreFull new outlines
  full_stays old new all outlines full f d on on_d cell k gives =
      let e = to_old R same old new all f on in
      keeps e.0 f e.2 d.to k (full e.0 d e.1 on_d cell k gives)

  -- those of a state
  pub live_full : (alike : Bool) (written reads after more : List Entry)
      → AreChangedFrom (live_from alike (length written)) R written after
      → AreChangedFrom 0 R reads more → (outlines : List Dep)
      → AreFull (drop (live_from alike (length written)) written ++ reads) outlines
      → AreFull (drop (live_from alike (length after)) after ++ more) outlines
  live_full alike written reads after more first second outlines full =
      let from : ℕ = live_from alike (length written) in
      subst (λ n. AreFull (drop n after ++ more) outlines) (ap (λ n. live_from alike n) (sym first.long))
      (full_stays (drop from written ++ reads) (drop from after ++ more)
      (changed_both R (drop from written) (drop from after) reads more
      (changed_on R from written after first.long first.each)
      (record { long = second.long; each = λ k d lt. second.each k d (omega arith) lt })) outlines full)

pub full_are_quiet : FullAreQuiet
full_are_quiet entries outlines full e d on on_d cell deps step n is late =
    quiet_given cell e.access d n is deps step e.reached (full e d on on_d cell)
