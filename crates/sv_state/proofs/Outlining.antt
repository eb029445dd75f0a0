-- What outlines tell of the dependencies that have them.
use Rattle.std.proofs.Common.{ℕ, Bool, true, false, MatchBool, ◌≡◌, ◌<◌, List, ◌⊎◌, inl, inr, arith}
use Rattle.std.proofs.Common.{◌++◌, refl, sym, ◌∙◌, ap, subst, None, length, get_or, IsTrue, ◌↔◌}
use Rattle.std.proofs.lemmas.List.Elements.{Contains-append_left, Contains-get_or}
use Rattle.sv_mask.specs.Sets.{Has, Includes}
use Rattle.sv_mask.specs.Usages.{stage_of}
use Rattle.sv_model.specs.Cells.{Within}
use Rattle.sv_model.specs.Dependencies.{Placed, Starts, StartsAs, StartsByUse, Path, Link, InFirst}
use Rattle.sv_model.specs.Dependencies.{IsOn, IsOwn, Compatible}
use Rattle.sv_model.specs.declared.work.Access.{Access}
use Rattle.sv_model.specs.declared.work.Cell.{Cell}
use Rattle.sv_model.specs.declared.work.Dep.{Dep}
use Rattle.sv_model.specs.declared.work.Track.{Track}
use Rattle.sv_model.specs.declared.work.Track.TheVariants.{Queue, Sub, Token}
use Rattle.sv_model.specs.declared.work.What.TheVariants.{Use, Transition}
use Rattle.sv_mask.specs.declared.usage.Usage.{Usage}
use Rattle.sv_state.specs.Masks.{Mark, stage, usage, Marked, Gives, Holds, IsHeld, IsMaskOf}
use Rattle.sv_state.specs.Masks.{LeadsInto, Stands}
use Rattle.sv_state.specs.Outlines.{IsSaturated, loose, outline}
use Rattle.sv_state.specs.Numbers.{masks_of, on_token, runs_masks, subs_masks}
use Rattle.sv_state.specs.declared.mask.Mask.{Mask}
use Rattle.sv_state.specs.declared.reached.Reached.{Reached}
use Rattle.sv_state.specs.declared.settled.Settled.{Settled}
use Rattle.sv_state.proofs.Standing.{reached_leads}

pub holds_at : (masks : List Mask) (i : ℕ) (d m : Mask) → i < length masks → (get_or masks i d).track
    ≡ m.track → ((k : Mark) → Marked m k → Marked (get_or masks i d) k) → (k : Mark) → Marked m k
    → Holds masks m.track k
holds_at masks i d m lt same marks k h = (
  get_or masks i d,
  record { listed = Contains-get_or masks i d lt; track = same; marked = marks k h },
)

-- a dependency whose outline comes from a queue does
pub loose_queue : (t : Track) (q : ℕ) → loose t ≡ Queue q → t ≡ Queue q
loose_queue (Queue r) q h = h
loose_queue (Sub r n i) q h = absurd (let e : Token 0 ≡ Queue q = h in cc)
loose_queue (Token t) q h = absurd (let e : Token 0 ≡ Queue q = h in cc)

outline_scope : (cell : Cell) (d : Dep) (u : ℕ) (w : Bool)
    → MatchBool w (Has d.a1.0 u × Within d.range cell) (Has d.s1.0 (stage_of u))
    → MatchBool w (Has d.a1.0 u × Within None cell) (Has d.s1.0 (stage_of u))
outline_scope cell d u true h = (h.0, tt)
outline_scope cell d u false h = h

outline_gives : (cell : Cell) (d : Dep) (k : Mark) → Gives cell d k → Gives cell (outline d) k
outline_gives cell d (stage s) h = h
outline_gives cell d (usage u) h = (h.0, tt)

module _ (cell : Cell) (a : Access) (d : Dep) (n : Placed) (is : d ≡ outline n.dep) where
  -- the outline holds each cell
  pub held : IsTrue true ↔ Within d.range cell
  held = (λ t. subst (λ (e : Dep). Within e.range cell) (sym is) tt, λ w. refl)

  -- a chain from a usage that begins with n shows in the outline
  pub starts_track : (u : Usage) → d.from ≡ n.dep.from → a.what ≡ Use u → Starts cell a n → IsOn a d.from
  starts_track u from what h = let s : StartsByUse cell a u.0 n = subst (λ w. StartsAs cell a n w) what h in
      subst (λ t. IsOn a t) (sym from) s.track

  pub starts_first : (u : Usage) → a.what ≡ Use u → Starts cell a n → InFirst cell d u.0
  starts_first u what h =
      let s : StartsByUse cell a u.0 n = subst (λ w. StartsAs cell a n w) what h in
      subst (λ (e : Dep). InFirst cell e u.0) (sym is) (outline_scope cell n.dep u.0 _ s.scope)

  -- none from a transition is of a later group
  pub no_transition : a.what ≡ Transition → a.step < n.group.step → Starts cell a n → ⊥
  no_transition what late h = let own : IsOwn a n.group = subst (λ w. StartsAs cell a n w) what h in let s =
      own.step in omega (arith, s, late)

  -- what leads into n leads into the outline
  leads_outline : (masks : List Mask) → d.from ≡ n.dep.from → LeadsInto masks n.dep → LeadsInto masks d
  leads_outline masks from (m, on, by) =
      let first : n.dep.s1 ≡ d.s1 = sym (ap (λ (e : Dep). e.s1) is) in (
        m,
        on,
        record {
          tracks = subst (λ t. Compatible m.track t) (sym from) by.tracks;
          stages = (by.stages.0, by.stages.1, subst (λ s. Has s.0 by.stages.0) first by.stages.2);
        },
      )

  pub path_outline : (deps : List Placed) (step : ℕ) (r : Reached) → d.from ≡ n.dep.from
      → Stands cell a deps step r → ((e : Placed) × Path deps (Starts cell a) e × Link e n)
      → LeadsInto (masks_of r.settled) d ⊎ LeadsInto r.fresh.items d
  path_outline deps step r from st w = elim (reached_leads cell a deps step r n st w) [
    | inl h ↦ inl (leads_outline (masks_of r.settled) from h)
    | inr h ↦ inr (leads_outline r.fresh.items from h)
  ]

  -- where what the outline gives is held, n adds nothing
  pub quiet_given : (deps : List Placed) (step : ℕ) (r : Reached)
      → ((k : Mark) → Gives cell d k → IsHeld r d.to k) → Stands cell a deps step r
      → IsSaturated deps cell a n
  quiet_given deps step r given st enters k gives =
      let to : d.to ≡ n.dep.to = ap (λ (e : Dep). e.to) is in
      elim (given k (subst (λ (e : Dep). Gives cell e k) (sym is) (outline_gives cell n.dep k gives))) [
        | inl h ↦ (let w = st.settled.only d.to k h in
            (w.0, record { path = w.1.path; when = tt; track = w.1.track ∙ to; gives = w.1.gives }))
        | inr h ↦ (let w = st.fresh.only d.to k h in
            (w.0, record { path = w.1.path; when = tt; track = w.1.track ∙ to; gives = w.1.gives }))
      ]

  -- the same where its mask is
  pub quiet_held : (deps : List Placed) (step : ℕ) (r : Reached) (m : Mask) → IsMaskOf cell d m
      → ((k : Mark) → Marked m k → IsHeld r m.track k) → Stands cell a deps step r
      → IsSaturated deps cell a n
  quiet_held deps step r m of holds = quiet_given deps step r
      (λ k gives. subst (λ t. IsHeld r t k) of.track (holds k (of.all k gives)))
