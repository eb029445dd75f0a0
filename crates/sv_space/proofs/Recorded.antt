-- What is known of cells after a step that touches them.
use Rattle.std.proofs.Common.{ℕ, Bool, true, false, MatchBool, ◌≡◌, ◌<◌, ◌≤◌, IsTrue, List, [], ◌∷◌, ◌++◌}
use Rattle.std.proofs.Common.{inr, arith, refl, sym, ◌∙◌, ap, subst, Contains, length, get_or, take}
use Rattle.std.specs.List.{AllPairs}
use Rattle.std.proofs.lemmas.List.{get_or_default, take_all}
use Rattle.std.proofs.lemmas.List.Kept.{AllPairs-filter}
use Rattle.sv_model.specs.Cells.{covers}
use Rattle.sv_model.specs.Dependencies.{Placed, dependencies}
use Rattle.sv_model.specs.Order.{Story, Before, IsBelow, IsClear, IsPartner, grown, recorded, extended}
use Rattle.sv_model.specs.Reports.{groups_of, accesses_of, story_of, IsCurrent, IsEpoch, start, again}
use Rattle.sv_model.specs.Reports.{AreNumbered}
use Rattle.sv_model.proofs.Lists.{in_filter}
use Rattle.sv_model.proofs.Current.{AreAt, current_kept, current_restarted}
use Rattle.sv_model.proofs.Seen.{LeadAlike, clear_seen, partner_seen}
use Rattle.sv_model.proofs.Works.{accesses_on, deps_of, story_grows, step_at, work_below}
use Rattle.sv_model.specs.declared.work.Access.{Access}
use Rattle.sv_model.specs.declared.work.Cell.{Cell}
use Rattle.sv_model.specs.declared.work.Group.{Group}
use Rattle.sv_model.specs.declared.work.Step.{Step}
use Rattle.sv_state.specs.States.{AreNext}
use Rattle.sv_space.specs.Meant.{StandsFor}
use Rattle.sv_state.specs.Contents.{Contents}
use Rattle.sv_space.specs.Steps.{IsNext, AreInOrder}
use Rattle.sv_space.specs.Known.{groups_in, cut_story, IsKnown, AreAlike, AreKnown}
use Rattle.sv_space.specs.Recorded.{IsRecording}
use Rattle.sv_space.proofs.Keeping.{whole_story, take_same, within_more, after_more, alike_more, up_to_more}

-- an epoch begins at a step of the story
pub epoch_below : (story : Story) (n : ℕ) → IsBelow n story → {epoch : ℕ} → IsEpoch story epoch → epoch ≤ n
epoch_below story n below start = omega arith
epoch_below story n below (again {epoch} {step} e r) = let x = r.races in let h = below.accesses x.0 x.1 in
    omega (arith, x.2)

module _ (work : List Step) (steps : AreInOrder work) (step : Step) (next : IsNext (length work) step)
    (own : Access → List Placed) (cell : Cell)
    (alike : (x : Access) → Contains (accesses_on step cell) x
    → LeadAlike (story_of work cell) x (own x) (deps_of step))
    (at_own : (x : Access) → Contains (accesses_on step cell) x → (d : Placed) → Contains (own x) d
    → d.group.step ≡ length work) where
  numbered : AreNumbered work
  numbered k d lt = (steps k d lt).numbered

  abbrev story : Story
  story = story_of work cell

  abbrev now : List Access
  now = accesses_on step cell

  abbrev more : List Step
  more = work ++ step ∷ []

  at : AreAt (length work) now (deps_of step)
  at = step_at (length work) step cell next.numbered

  below : IsBelow (length work) story
  below = work_below work cell numbered

  longer : story_of more cell ≡ grown story now (deps_of step)
  longer = story_grows work step cell

  now_step : (x : Access) → Contains now x → x.step ≡ length work
  now_step x on = at.accesses x on

  now_covers : (x : Access) → Contains now x → IsTrue (covers x.area cell)
  now_covers x on = (in_filter (λ (a : Access). covers a.area cell) (accesses_of step) x on).1

  all_before : AllPairs Before (accesses_of step)
  all_before i j d lt len =
      let xs = accesses_of step in
      let p = next.positions i d (omega arith) in
      let q = next.positions j d len in
      let a = get_or xs i d in
      let b = get_or xs j d in
      let s = next.numbered.accesses a (i, omega arith, get_or_default xs i a d (omega arith)) in
      let t = next.numbered.accesses b (j, len, get_or_default xs j b d len) in
      inr (s ∙ sym t, omega (arith, p, q))

  are_next : (epoch : ℕ) → epoch ≤ length work → AreNext story epoch now
  are_next epoch le = record {
    in_epoch = λ x on. omega (arith, now_step x on);
    one_step = λ x y on_x on_y. now_step x on_x ∙ sym (now_step y on_y);
    in_order = AllPairs-filter Before (λ (a : Access). covers a.area cell) (accesses_of step) all_before;
    after = λ x a on_x on_a. omega (arith, now_step x on_x, below.accesses a on_a);
    after_deps = λ x d on_x on_d. omega (arith, now_step x on_x, below.deps d on_d);
  }

  recorded_is : recorded story now ≡ cut_story more (length (groups_in work)) cell
  recorded_is =
      let accesses : story.accesses ++ now ≡ (story_of more cell).accesses =
      sym (ap (λ (s : Story). s.accesses) longer) in
      let groups : groups_in work ≡ take (length (groups_in work)) (groups_in more) =
      sym (take_same work step numbered next.numbered (length (groups_in work)) (omega arith)
      ∙ take_all (length (groups_in work)) (groups_in work) (omega arith)) in
      ap (λ (p : List Access × List Group). record { cell = cell; accesses = p.0; deps = dependencies p.1 })
      (let e : (story.accesses ++ now, groups_in work)
      ≡ ((story_of more cell).accesses, take (length (groups_in work)) (groups_in more)) = cc in e)

  -- it is known with all groups before the step
  module _ (old mid new : Contents) (is : IsKnown work (length (groups_in work)) cell old) where
    whole : StandsFor story is.epoch old
    whole = subst (λ (s : Story). StandsFor s is.epoch old) (whole_story work cell) is.stands

    -- no access races: they are recorded
    kept : ((x : Access) → Contains now x → IsClear (extended story (own x)) is.epoch x)
        → ((s : Story) (epoch : ℕ) → AreNext s epoch now → StandsFor s epoch old
        → StandsFor (recorded s now) epoch new) → IsKnown more (length (groups_in work)) cell new
    kept clear stands = record {
      epoch = is.epoch;
      current = subst (λ (s : Story). IsCurrent s is.epoch) (sym longer)
          (current_kept story now (deps_of step) (length work) below at is.epoch is.current
          (λ x on. clear_seen story now (own x) (deps_of step) (length work) at (at_own x on) x
          (now_step x on) (alike x on) is.epoch (clear x on)));
      stands = subst (λ (s : Story). StandsFor s is.epoch new) recorded_is
          (stands story is.epoch (are_next is.epoch (epoch_below story (length work) below is.current.begun))
          whole);
    }

    -- some access races: the epoch begins anew, and they are recorded
    restarted : (x : Access) → Contains now x → (a : Access) → IsPartner (extended story (own x)) is.epoch x a
        → ((s : Story) (epoch n : ℕ) → StandsFor s epoch old
        → ((b : Access) → Contains s.accesses b → b.step < n) → StandsFor s n mid)
        → ((s : Story) (epoch : ℕ) → AreNext s epoch now → StandsFor s epoch mid
        → StandsFor (recorded s now) epoch new) → IsKnown more (length (groups_in work)) cell new
    restarted x on a partner restarts stands =
        let p = partner_seen story now (own x) (deps_of step) (length work) at (at_own x on) x
        (now_step x on) (alike x on) is.epoch a partner in
        record {
          epoch = length work;
          current = subst (λ (s : Story). IsCurrent s (length work)) (sym longer)
              (current_restarted story now (deps_of step) (length work) below at is.epoch is.current x on
              (a, p.races));
          stands = subst (λ (s : Story). StandsFor s (length work) new) recorded_is
              (stands story (length work) (are_next (length work) (omega arith))
              (restarts story is.epoch (length work) whole below.accesses));
        }

    recorded_by : (raced : Bool) → IsRecording own now raced old mid new → (b : Bool) → raced ≡ b
        → MatchBool b ((x : Access) × Contains now x
        × ((a : Access) × IsPartner (extended story (own x)) is.epoch x a))
        ((x : Access) → Contains now x → IsClear (extended story (own x)) is.epoch x)
        → IsKnown more (length (groups_in work)) cell new
    recorded_by raced r true e h = restarted h.0 h.1 h.2.0 h.2.1 (r.restarts e) r.stands
    recorded_by raced r false e h = kept h (λ s epoch are st. r.stands s epoch are (r.kept e s epoch st))

    -- the state stands for the cell after the step, of whose groups it was given none
    pub cell_recorded : (raced : Bool) → IsRecording own now raced old mid new
        → IsKnown more (length (groups_in work)) cell new
    cell_recorded raced r = recorded_by raced r raced refl (r.races story is.epoch whole is.current.clean
        (λ x on. subst (λ (n : ℕ). IsBelow n story) (sym (now_step x on)) below)
        (λ x on. now_covers x on))

-- the cells of a piece, which the same accesses of the step touch and which its groups do not tell apart
pub known_recorded : (work : List Step) (steps : AreInOrder work) (step : Step)
    (next : IsNext (length work) step) (own : Access → List Placed) (Holds : Cell → Type 0)
    (xs : List Access)
    → ((c : Cell) → Holds c → accesses_on step c ≡ xs)
    → ((c : Cell) → Holds c → (x : Access) → Contains (accesses_on step c) x
    → LeadAlike (story_of work c) x (own x) (deps_of step))
    → ((x : Access) → Contains xs x → (d : Placed) → Contains (own x) d → d.group.step ≡ length work)
    → ((c e : Cell) → Holds c → Holds e → AreAlike (groups_of step) c e)
    → (old mid new : Contents) (raced : Bool) → IsRecording own xs raced old mid new
    → AreKnown work Holds (length (groups_in work)) old
    → AreKnown (work ++ step ∷ []) Holds (length (groups_in work)) new
known_recorded work steps step next own Holds xs same alike at_own split old mid new raced r known =
    let numbered : AreNumbered work = λ k d lt. (steps k d lt).numbered in
    let step_is : new.step ≡ old.step = r.step_new ∙ r.step_mid in
    record {
      within = within_more work step numbered next.numbered Holds (length (groups_in work)) old known;
      up_to = up_to_more work step numbered next.numbered Holds
          (length (groups_in work)) old known new step_is;
      after = after_more work step numbered next.numbered Holds
          (length (groups_in work)) old known new step_is;
      each = λ c h. cell_recorded work steps step next own c (alike c h)
          (λ x on. at_own x (subst (λ (ys : List Access). Contains ys x) (same c h) on)) old mid new
          (known.each c h) raced
          (subst (λ (ys : List Access). IsRecording own ys raced old mid new) (sym (same c h)) r);
      alike = alike_more work step numbered next.numbered Holds (length (groups_in work)) old known split;
    }
