-- What a step reports on a cell, by what its accesses see of it: the work before, and their own group.
use Rattle.std.proofs.Common.{ℕ, ◌≡◌, List, [], ◌∷◌, ◌++◌, ◌⊎◌, inl, inr, arith, sym, ◌∙◌, ap, subst}
use Rattle.std.proofs.Common.{Contains, length}
use Rattle.std.specs.List.{AllPairs}
use Rattle.std.proofs.lemmas.List.Elements.{Contains-append_left, Contains-append_right}
use Rattle.std.proofs.lemmas.List.Elements.{Contains-append_cases}
use Rattle.sv_model.specs.Dependencies.{Placed, writes}
use Rattle.sv_model.specs.Order.{Story, NotLater, IsBelow, IsClear, IsPartner, conflict_kind, grown, extended}
use Rattle.sv_model.specs.Reports.{Spot, SpotBefore, story_of, groups_of, IsCurrent, AreNumbered}
use Rattle.sv_model.specs.Reports.{IsReported, IsReportedFrom, AreReportsFrom}
use Rattle.sv_model.proofs.Current.{AreAt, reported_new, reported_only}
use Rattle.sv_model.proofs.Seen.{LeadAlike, clear_seen, partner_seen}
use Rattle.sv_model.proofs.Works.{accesses_on, deps_of, story_grows, step_at, work_below}
use Rattle.sv_model.specs.declared.work.Access.{Access}
use Rattle.sv_model.specs.declared.work.Cell.{Cell}
use Rattle.sv_model.specs.declared.work.Kind.{Kind}
use Rattle.sv_model.specs.declared.work.Step.{Step}
use Rattle.sv_space.specs.Found.{AreFound}
use Rattle.sv_space.specs.Own.{own_of}
use Rattle.sv_space.specs.Steps.{IsNext, AreInOrder}
use Rattle.sv_space.proofs.Numbering.{in_order_push, same_on_cell}
use Rattle.sv_space.proofs.Keeping.{pairs_append}
use Rattle.sv_space.proofs.OwnGroups.{leads_alike, own_at}

module _ (work : List Step) (steps : AreInOrder work) (step : Step) (next : IsNext (length work) step)
    (cell : Cell) (epoch : ℕ) (current : IsCurrent (story_of work cell) epoch) (x : Access)
    (on : Contains (accesses_on step cell) x) where
  numbered : AreNumbered work
  numbered k d lt = (steps k d lt).numbered

  abbrev more : List Step
  more = work ++ step ∷ []

  abbrev story : Story
  story = story_of work cell

  abbrev own : List Placed
  own = own_of (groups_of step) x

  abbrev longer : Story
  longer = grown story (accesses_on step cell) (deps_of step)

  at : AreAt (length work) (accesses_on step cell) (deps_of step)
  at = step_at (length work) step cell next.numbered

  below : IsBelow (length work) story
  below = work_below work cell numbered

  longer_is : story_of more cell ≡ longer
  longer_is = story_grows work step cell

  here : x.step ≡ length work
  here = at.accesses x on

  alike : LeadAlike story x own (deps_of step)
  alike = leads_alike work steps step next cell x on

  own_here : (d : Placed) → Contains own d → d.group.step ≡ length work
  own_here d in_own = own_at work steps step next cell x on d in_own

  -- where x does not race, no spot of it is reported on the cell
  pub clear_unreported : IsClear (extended story own) epoch x → (a : Access) (kind : Kind)
      → IsReported (story_of more cell) x a kind → ⊥
  clear_unreported clear a kind r =
      let now = reported_only story (accesses_on step cell) (deps_of step)
      (length work) below at epoch current x a kind here
      (subst (λ (t : Story). IsReported t x a kind) longer_is r) in
      let all = clear_seen story (accesses_on step cell) own (deps_of step)
      (length work) at own_here x here alike epoch clear in
      let race = now.1.races in
      race.unordered (all a race.on_cell race.in_epoch race.conflict)

  -- where x races, the spot with its partner is reported
  pub partner_reported : (a : Access) (kind : Kind) → IsPartner (extended story own) epoch x a → kind
      ≡ conflict_kind (writes a.what) (writes x.what) → IsReported (story_of more cell) x a kind
  partner_reported a kind partner of_kind =
      let p = partner_seen story (accesses_on step cell) own (deps_of step)
      (length work) at own_here x here alike epoch a partner in
      subst (λ (t : Story). IsReported t x a kind) (sym longer_is)
      (reported_new story (accesses_on step cell) (deps_of step)
      (length work) below at epoch current x a kind (on, p, of_kind))

  in_order : AreInOrder more
  in_order = in_order_push work step steps next

  partner_unique : (a b : Access) → IsPartner (story_of more cell) epoch x a
      → IsPartner (story_of more cell) epoch x b → a ≡ b
  partner_unique a b p q =
      let one = q.latest a p.races in
      let two = p.latest b q.races in
      same_on_cell more cell a b in_order p.races.on_cell q.races.on_cell (same_step one two)
      (same_pos one two)
    where
      same_step : NotLater a b → NotLater b a → a.step ≡ b.step
      same_step (inl h) (inl k) = omega arith
      same_step (inl h) (inr k) = omega arith
      same_step (inr h) k = h.0

      same_pos : NotLater a b → NotLater b a → a.pos ≡ b.pos
      same_pos (inl h) (inl k) = absurd (omega arith)
      same_pos (inl h) (inr k) = absurd (omega arith)
      same_pos (inr h) (inl k) = absurd (omega arith)
      same_pos (inr h) (inr k) = omega arith

  -- and no other
  pub partner_alone : (a b : Access) (kind other : Kind) → IsPartner (extended story own) epoch x a → kind
      ≡ conflict_kind (writes a.what) (writes x.what) → IsReported (story_of more cell) x b other → (b ≡ a)
      × (other ≡ kind)
  partner_alone a b kind other partner of_kind r =
      let p = partner_seen story (accesses_on step cell) own (deps_of step)
      (length work) at own_here x here alike epoch a partner in
      let now = reported_only story (accesses_on step cell) (deps_of step)
      (length work) below at epoch current x b other here
      (subst (λ (t : Story). IsReported t x b other) longer_is r) in
      let back = λ (c : Access) (q : IsPartner longer epoch x c). subst
      (λ (t : Story). IsPartner t epoch x c) (sym longer_is) q in
      let same : b ≡ a = partner_unique b a (back b now.1) (back a p) in
      (same, now.2 ∙ ap (λ (c : Access). conflict_kind (writes c.what) (writes x.what)) same ∙ sym of_kind)

-- nothing is looked at yet
pub found_none : (first : ℕ) (work : List Step) (IsPast : Spot → Type 0)
    → ((s : Spot) → IsReportedFrom first work s → IsPast s → ⊥) → AreFound first work IsPast []
found_none first work IsPast none = record {
  only = λ s on. absurd (let h = on.1 in omega arith);
  past = λ s on. absurd (let h = on.1 in omega arith);
  all = λ s r past. absurd (none s r past);
  in_order = λ i j d lt len. absurd (omega arith);
}

-- more spots, behind those that are found
pub found_more : (first : ℕ) (work : List Step) (Was Is : Spot → Type 0) (found new : List Spot)
    → AreFound first work Was found → ((s : Spot) → Was s → Is s)
    → ((s : Spot) → Contains new s → IsReportedFrom first work s) → ((s : Spot) → Contains new s → Is s)
    → ((s : Spot) → IsReportedFrom first work s → Is s → Was s ⊎ Contains new s) → AllPairs SpotBefore new
    → ((s t : Spot) → Contains found s → Contains new t → SpotBefore s t)
    → AreFound first work Is (found ++ new)
found_more first work Was Is found new f wider reported is cases in_order behind = record {
  only = λ s on. elim (Contains-append_cases found new s on)
      [ inl old ↦ f.only s old | inr now ↦ reported s now ];
  past = λ s on. elim (Contains-append_cases found new s on)
      [ inl old ↦ wider s (f.past s old) | inr now ↦ is s now ];
  all = λ s r past. elim (cases s r past) [
    | inl was ↦ Contains-append_left found new s (f.all s r was)
    | inr now ↦ Contains-append_right found new s now
  ];
  in_order = pairs_append SpotBefore found new f.in_order in_order behind;
}

-- at last
pub found_all : (first : ℕ) (work : List Step) (IsPast : Spot → Type 0) (spots : List Spot)
    → ((s : Spot) → IsReportedFrom first work s → IsPast s) → AreFound first work IsPast spots
    → AreReportsFrom first work spots
found_all first work IsPast spots every f = record
    { only = f.only; all = λ s r. f.all s r (every s r); in_order = f.in_order }
