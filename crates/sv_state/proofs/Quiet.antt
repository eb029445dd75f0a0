-- Dependencies that add nothing to what is reached may be passed over.
use Rattle.std.proofs.Common.{ℕ, ◌≡◌, ◌<◌, ◌≤◌, List, ◌++◌, ◌⊎◌, inl, inr, arith, refl, sym, ◌∙◌, subst}
use Rattle.std.proofs.Common.{Contains}
use Rattle.std.proofs.lemmas.List.Elements.{Contains-append_cases}
use Rattle.sv_model.specs.Dependencies.{Placed, Starts, Link, Path, first, next, UpTo, Compatible}
use Rattle.sv_model.specs.Order.{Story, extended}
use Rattle.sv_model.proofs.Paths.{Path-append, Path-front, Path-in}
use Rattle.sv_model.specs.declared.work.Access.{Access}
use Rattle.sv_model.specs.declared.work.Cell.{Cell}
use Rattle.sv_state.specs.Masks.{Mark, stage, Gives, Reaches, Stands}
use Rattle.sv_state.specs.Outlines.{Whenever, IsSaturated, ArePassed}
use Rattle.sv_state.specs.States.{AreChangedFrom, HasAdvanced, HasComeTo, StandsFor, first_live, live_of}
use Rattle.sv_state.specs.States.{live_written}
use Rattle.sv_state.proofs.StateLaws.{access_before, reads_live, state_advanced, written_live}
use Rattle.sv_state.specs.declared.entry.Entry.{Entry}
use Rattle.sv_state.specs.declared.reached.Reached.{Reached}
use Rattle.sv_state.specs.declared.state.CellState.{CellState}

before_or_at : (m n : ℕ) → m ≤ n → (m < n) ⊎ (m ≡ n)
before_or_at m n h = grind arith

module _ (deps more : List Placed) (cell : Cell) (a : Access) (step : ℕ) (up : UpTo deps step)
    (low : (n : Placed) → Contains more n → step ≤ n.group.step)
    (quiet : (n : Placed) → Contains more n → IsSaturated deps cell a n) where
  -- a path to one of the first is one of them alone
  old_path : (e : Placed) → Contains deps e → Path (deps ++ more) (Starts cell a) e
      → Path deps (Starts cell a) e
  old_path e on (first c s) = first on s
  old_path e on (next {d} p c l) = next (Path-front deps more
      (λ f i. let h = low f i in let u = up e on in let k = l.later in omega arith) p) on l

  -- what leads into a later one is reached by the first alone
  entered : (d e : Placed) → ((k : Mark) → Gives cell d.dep k → Reaches deps cell a Whenever d.dep.to k)
      → Path (deps ++ more) (Starts cell a) d → Link d e → (f : Placed) × Path deps (Starts cell a) f
      × Link f e
  entered d e reached p l = elim (Contains-append_cases deps more d (Path-in p)) [
    | inl old ↦ (d, old_path d old p, l)
    | inr new ↦ (
        let s = l.stages in
        let r = reached (stage s.0) s.1 in (
          r.0,
          r.1.path,
          record {
            later = (let u = up r.0 (Path-in r.1.path) in let h = low d new in let k = l.later in
                omega arith);
            tracks = subst (λ t. Compatible t e.dep.from) (sym r.1.track) l.tracks;
            stages = (s.0, r.1.gives, s.2);
          },
        ))
  ]

  -- what is reached by all of them is reached by the first alone
  reached_before : (d : Placed) → Path (deps ++ more) (Starts cell a) d → (k : Mark) → Gives cell d.dep k
      → Reaches deps cell a Whenever d.dep.to k
  reached_before d (first c s) k g = elim (Contains-append_cases deps more d c) [
    | inl old ↦ (d, record { path = first old s; when = tt; track = refl; gives = g })
    | inr new ↦ quiet d new (inl s) k g
  ]
  reached_before e (next {d} p c l) k g = elim (Contains-append_cases deps more e c) [
    | inl old ↦ (e, record { path = old_path e old (next p c l); when = tt; track = refl; gives = g })
    | inr new ↦ quiet e new (inr (entered d e (reached_before d p) p l)) k g
  ]

  -- what is kept stands for all of them at any step up to which they are
  pub stands_over : (q : ℕ) (r : Reached) → step ≤ q → ((n : Placed) → Contains more n → n.group.step ≤ q)
      → Stands cell a deps q r → Stands cell a (deps ++ more) q r
  stands_over q r le high st = record {
    up_to = λ d on. elim (Contains-append_cases deps more d on)
        [ inl old ↦ (let u = up d old in omega arith) | inr new ↦ high d new ];
    settled = record {
      only = λ t k h. (let w = st.settled.only t k h in (
        w.0,
        record {
          path = Path-append deps more w.1.path;
          when = w.1.when;
          track = w.1.track;
          gives = w.1.gives;
        },
      ));
      all = λ t k w. elim (Contains-append_cases deps more w.0 (Path-in w.1.path)) [
        | inl old ↦ st.settled.all t k (
          w.0,
          record { path = old_path w.0 old w.1.path; when = w.1.when; track = w.1.track; gives = w.1.gives },
        )
        | inr new ↦ (
            let f = reached_before w.0 w.1.path k w.1.gives in
            let l = low w.0 new in
            let u = up f.0 (Path-in f.1.path) in
            let b : w.0.group.step < q = w.1.when in
            st.settled.all t k (
              f.0,
              record {
                path = f.1.path;
                when = omega arith;
                track = f.1.track
                    ∙ w.1.track;
                gives = f.1.gives;
              },
            ))
      ];
    };
    fresh = record {
      only = λ t k h. (let w = st.fresh.only t k h in (
        w.0,
        record {
          path = Path-append deps more w.1.path;
          when = w.1.when;
          track = w.1.track;
          gives = w.1.gives;
        },
      ));
      all = λ t k w.
          let f = reached_before w.0 w.1.path k w.1.gives in
          let u = up f.0 (Path-in f.1.path) in
          elim (before_or_at f.0.group.step q (omega arith)) [
            | inl lt ↦ inl (st.settled.all t k (
              f.0,
              record { path = f.1.path; when = lt; track = f.1.track ∙ w.1.track; gives = f.1.gives },
            ))
            | inr is ↦ st.fresh.all t k (
              f.0,
              record { path = f.1.path; when = is; track = f.1.track ∙ w.1.track; gives = f.1.gives },
            )
          ];
    };
  }

-- a state that came to a step stands for what may be passed over up to there
pub state_over : (old new : CellState) (step : ℕ)
    → ((e : Entry) → Contains (live_of new) e → (f : Entry) × Contains (live_of old) f
    × (f.access ≡ e.access)) → old.step ≤ step → HasComeTo step old new
    → (story : Story) (epoch : ℕ) (more : List Placed) → StandsFor story epoch old
    → ArePassed story step old more → StandsFor (extended story more) epoch new
state_over old new step same le come story epoch more before passed =
    let st = come.stands story epoch before in
    let now : new.step ≡ step = come.step in
    record {
      lists = st.lists;
      parted = st.parted;
      up_to = λ d on. elim (Contains-append_cases story.deps more d on)
          [ inl was ↦ st.up_to d was | inr over ↦ (let h = passed.high d over in omega arith) ];
      each = λ e on. (
          let f = same e on in
          stands_over story.deps more story.cell e.access old.step before.up_to passed.low
          (λ n over. subst (λ (a : Access). IsSaturated story.deps story.cell a n) f.2
          (passed.quiet n f.0 over f.1)) new.step e.reached
          (omega arith) (λ n over. let h = passed.high n over in omega arith) (st.each e on));
      alike = st.alike;
    }

-- a state that is at the step already
pub come_there : (state : CellState) (step : ℕ) → state.step ≡ step → HasComeTo step state state
come_there state step is = record { step = is; stands = λ story epoch st. st }

-- a state to which a later step came
pub advanced_over : (old new : CellState) → old.step < new.step → new.alike ≡ old.alike
    → AreChangedFrom (first_live old) HasAdvanced old.written.items new.written.items
    → AreChangedFrom 0 HasAdvanced old.reads.items new.reads.items
    → (story : Story) (epoch : ℕ) (more : List Placed) → StandsFor story epoch old
    → ArePassed story new.step old more → StandsFor (extended story more) epoch new
advanced_over old new lt alike written reads = state_over old new new.step
    (access_before HasAdvanced (λ e f h. h.access) (live_written old) (live_written new) old.reads.items
    new.reads.items (written_live HasAdvanced (λ e f h. h.access) old new alike written reads)
    (reads_live HasAdvanced (λ e f h. h.access) old new alike written reads))
    (omega arith) (state_advanced old new lt alike written reads)
