-- What is reached on tokens, and on subpasses of render pass instances.
use Rattle.std.proofs.Common.{ℕ, Bool, IsTrue, ◌↔◌, ◌≡◌, ◌<◌, ◌≤◌, ◌+◌, List, [], ◌∷◌, ◌++◌}
use Rattle.std.proofs.Common.{refl, sym, ◌∙◌, ap, subst, Contains, length, get_or, take, Option, Some, None}
use Rattle.std.proofs.Common.{MatchOption, arith, ◌⊎◌, inl, inr}
use Rattle.std.proofs.lemmas.List.{take_more}
use Rattle.std.proofs.lemmas.Grind.{flat_map-append}
use Rattle.std.proofs.Math.ListN.{set}
use Rattle.std.proofs.lemmas.Bool.Decides.{eqb_tells}
use Rattle.std.proofs.lemmas.List.Elements.{Contains-append_cases, Contains-append_right, Contains-push_cases}
use Rattle.std.specs.Int.{bit_at}
use Rattle.std.specs.List.{flat_map}
use Rattle.sv_model.specs.Dependencies.{Compatible, IsOn, Sits}
use Rattle.sv_model.specs.declared.work.Access.{Access}
use Rattle.sv_model.specs.declared.work.Dep.{Dep}
use Rattle.sv_model.specs.declared.work.Track.{Track}
use Rattle.sv_model.specs.declared.work.Track.TheVariants.{Queue, Sub, Token}
use Rattle.sv_state.specs.declared.mask.Mask.{Mask}
use Rattle.sv_state.specs.declared.runs.Run.{Run}
use Rattle.sv_state.specs.declared.sub_runs.SubRuns.{SubRuns}
use Rattle.std.specs.Int.RustNames.{bit_or}
use Rattle.sv_mask.specs.Sets.{Has, Meets}
use Rattle.sv_state.specs.Masks.{Mark, stage, Adds, Holds, Leads, LeadsInto, Shows, ShownTo}
use Rattle.sv_state.specs.Numbers.{AreApart, IsNoneOn, IsOnlyOn, mask_at, runs_masks, on_token, on_sub}
use Rattle.sv_state.specs.Numbers.{sub_masks, subs_masks}
use Rattle.sv_state.specs.Turns.{HaveNumbers, IsUnion, SomeHas}
use Rattle.sv_state.proofs.Numbers.{in_runs, from_runs, no_runs}
use Rattle.sv_state.proofs.Parts.{Adds-set, Adds-pushed, found_in, found_from}
use Rattle.sv_state.proofs.Unions.{Has-none, Has-or, Has-or_left, Has-or_right}

-- the number of a track
unfoldable number_of : Track → ℕ
number_of (Queue q) = q
number_of (Sub q n i) = n
number_of (Token t) = t

pub tokens_apart : (number : ℕ) → AreApart on_token number
unfolding number_of
tokens_apart number n same = ap number_of same

pub subs_apart : (p : SubRuns) (number : ℕ) → AreApart (on_sub p) number
unfolding number_of
subs_apart p number n same = ap number_of same

-- tokens
pub token_track : (runs : List Run) (d : Dep) (token : ℕ) (m : Mask) → d.from ≡ Token token
    → Contains (runs_masks on_token runs) m → Leads m d → m.track ≡ d.from
token_track runs d token m is on by =
    let q = (in_runs on_token runs m on).2 in
    let to : Compatible (Token q.number) d.from =
    subst (λ (x : Mask). Compatible x.track d.from) (sym q.is) by.tracks in
    let same : q.number ≡ token = subst (λ (t : Track). Compatible (Token q.number) t) is to in
    sym (ap (λ (x : Mask). x.track) q.is) ∙ (ap (λ (n : ℕ). Token n) same ∙ sym is)

-- what comes from a queue or a subpass follows no token
pub from_no_token : (runs : List Run) (d : Dep) → ((n : ℕ) → d.from ≡ Token n → ⊥)
    → LeadsInto (runs_masks on_token runs) d → ⊥
from_no_token runs d none (m, on, by) =
    let q = (in_runs on_token runs m on).2 in
    not_from_token d.from none q.number
    (subst (λ (x : Mask). Compatible x.track d.from) (sym q.is) by.tracks)
  where
    not_from_token : (t : Track) → ((n : ℕ) → t ≡ Token n → ⊥) → (n : ℕ) → Compatible (Token n) t → ⊥
    not_from_token (Queue q) none n c = c
    not_from_token (Sub q i j) none n c = c
    not_from_token (Token m) none n c = none m refl

-- no access is on a token
pub never_shown : (runs : List Run) (x : Access) (k : Mark) → ShownTo x k (runs_masks on_token runs) → ⊥
never_shown runs x k (m, on, shows) =
    let q = (in_runs on_token runs m on).2 in
    subst (λ (y : Mask). IsOn x y.track) (sym q.is) shows.track

-- each run has its first number
have_in : (runs : List Run) → HaveNumbers runs → (r : Run) → Contains runs r → r.first ≤ r.last
have_in runs have r (k, lt, is) = subst (λ (s : Run). s.first ≤ s.last) is (have k r lt)

-- the stages of runs, and of the masks on their numbers
module _ (place : ℕ → Track) (runs : List Run) where
  held_stage : (t : Track) (s : ℕ) → Holds (runs_masks place runs) t (stage s) → SomeHas runs s
  held_stage t s (m, by) =
      let q = in_runs place runs m by.listed in
      (q.0, q.1, subst (λ (x : Mask). Has x.stages.0 s) (sym q.2.is) by.marked)

  stage_held : HaveNumbers runs → (r : Run) (s : ℕ) → Contains runs r → Has r.stages.0 s
      → Holds (runs_masks place runs) (place r.first) (stage s)
  stage_held have r s on h = (
    mask_at place r r.first,
    record {
      listed = from_runs place runs r r.first on (omega arith) (have_in runs have r on);
      track = refl;
      marked = h;
    },
  )

-- whether some run has the stage
has_or_none : (runs : List Run) (s : ℕ) → SomeHas runs s ⊎ (¬ SomeHas runs s)
has_or_none [] s = inr (λ h. absurd (let lt = h.1.1 in omega arith))
has_or_none (r ∷ runs) s = elim (eqb_tells (bit_at r.stages.0 s) 1) [
  | inl here ↦ inl (r, (0, omega arith, refl), here.1)
  | inr other ↦ elim (has_or_none runs s) [
    | inl later ↦ inl (later.0, Contains-append_right (r ∷ []) runs later.0 later.1, later.2)
    | inr none ↦ inr (λ h. elim (Contains-append_cases (r ∷ []) runs h.0 h.1) [
      | inl first ↦ other.1 (subst (λ (q : Run). Has q.stages.0 s) (sym (one_in r h.0 first)) h.2)
      | inr rest ↦ none (h.0, rest, h.2)
    ])
  ]
]
  where
    one_in : (r q : Run) → Contains (r ∷ []) q → r ≡ q
    one_in r q on = elim (Contains-push_cases [] r q on)
        [ inl none ↦ absurd (let lt = none.1 in omega arith) | inr same ↦ same ]

some_has : (stages : ℕ) (runs : List Run) → IsUnion stages runs → (s : ℕ) → Has stages s → SomeHas runs s
some_has stages runs is s h = elim (has_or_none runs s)
    [ inl some ↦ some | inr none ↦ absurd (is.only s h none) ]

-- what is added brings its stages
pub union_adds : (place : ℕ → Track) (old new : List Run) (stages : ℕ) (more : Mask) → HaveNumbers old
    → HaveNumbers new → Adds (runs_masks place old) (runs_masks place new) more → IsUnion stages old
    → (both : ℕ) → both ≡ bit_or stages more.stages.0 → IsUnion both new
union_adds place old new stages more have_old have_new adds is both joined = record {
  only = λ s h no. no (elim (Has-or stages more.stages.0 s (subst (λ (n : ℕ). Has n s) joined h)) [
    | inl was ↦ (let r = some_has stages old is s was in held_stage place new (place r.0.first) s
        (adds.old_stay (place r.0.first) (stage s) (stage_held place old have_old r.0 s r.1 r.2)))
    | inr now ↦ held_stage place new more.track s (adds.more_is (stage s) now)
  ]);
  all = λ s r on h. subst (λ (n : ℕ). Has n s) (sym joined)
      (elim (adds.only (place r.first) (stage s) (stage_held place new have_new r s on h)) [
        | inl was ↦ (let q = held_stage place old (place r.first) s was in
            Has-or_left stages more.stages.0 s (is.all s q.0 q.1 q.2))
        | inr now ↦ Has-or_right stages more.stages.0 s now.1
      ]);
}

-- runs of the instances of a queue, on one subpass
module _ (p : SubRuns) where
  pub in_sub : (m : Mask) → Contains (sub_masks p) m → (n : ℕ) × (on_sub p n ≡ m.track)
  unfolding sub_masks
  in_sub m on =
      let q = (in_runs (on_sub p) p.runs.items m on).2 in
      (q.number, ap (λ (x : Mask). x.track) q.is)

  on_other : (d : Dep) → ((n : ℕ) → Compatible (on_sub p n) d.from → ⊥) → LeadsInto (sub_masks p) d → ⊥
  on_other d none (m, on, by) =
      let q = in_sub m on in
      none q.0 (subst (λ (t : Track). Compatible t d.from) (sym q.1) by.tracks)

  pub other_queue : (d : Dep) (queue : ℕ) → d.from ≡ Queue queue → (p.queue ≡ queue → ⊥)
      → LeadsInto (sub_masks p) d → ⊥
  other_queue d queue is other = on_other d
      (λ n c. other (subst (λ (t : Track). Compatible (on_sub p n) t) is c))

  pub other_sub : (d : Dep) (queue instance subpass : ℕ) → d.from ≡ Sub queue instance subpass
      → ((p.queue ≡ queue) × (p.subpass ≡ subpass) → ⊥) → LeadsInto (sub_masks p) d → ⊥
  other_sub d queue instance subpass is other = on_other d
      (λ n c. (let e = subst (λ (t : Track). Compatible (on_sub p n) t) is c in other (e.0, e.2)))

  pub no_token : (d : Dep) (token : ℕ) → d.from ≡ Token token → LeadsInto (sub_masks p) d → ⊥
  no_token d token is = on_other d (λ n c. subst (λ (t : Track). Compatible (on_sub p n) t) is c)

  -- a dependency from the queue follows each of its instances
  pub queue_test : (d : Dep) (b : Bool) → d.from ≡ Queue p.queue → IsTrue b ↔ Meets p.stages.0 d.s1.0
      → IsTrue b ↔ LeadsInto (sub_masks p) d
  unfolding sub_masks
  queue_test d b is some = (
    λ t. (
        let k = some.0 t in
        let r = some_has p.stages.0 p.runs.items p.is_union k.0 k.1 in
        let h = have_in p.runs.items p.have_numbers r.0 r.1 in (
          mask_at (on_sub p) r.0 r.0.first,
          from_runs (on_sub p) p.runs.items r.0 r.0.first r.1 (omega arith) h,
          record {
            tracks = subst (λ (t : Track). Compatible (on_sub p r.0.first) t) (sym is) refl;
            stages = (k.0, r.2, k.2);
          },
        )),
    λ l. (
        let r = in_runs (on_sub p) p.runs.items l.0 l.1 in
        let by : Leads (mask_at (on_sub p) r.0 r.2.number) d =
        subst (λ (x : Mask). Leads x d) (sym r.2.is) l.2 in
        let k = by.stages in
        some.1 (k.0, p.is_union.all k.0 r.0 r.1 k.1, k.2)),
  )

  pub sub_track : (d : Dep) (instance : ℕ) → d.from ≡ on_sub p instance → (m : Mask)
      → Contains (sub_masks p) m → Leads m d → m.track ≡ d.from
  sub_track d instance is m on by =
      let q = in_sub m on in
      let c : Compatible (on_sub p q.0) (on_sub p instance) = subst
      (λ (t : Track). Compatible (on_sub p q.0) t) is
      (subst (λ (t : Track). Compatible t d.from) (sym q.1) by.tracks) in
      sym q.1 ∙ (ap (λ (n : ℕ). on_sub p n) c.1 ∙ sym is)

  -- the track of an access on one of the instances
  sits : (x : Access) (k : Mark) (m : Mask) → Contains (sub_masks p) m → Shows x k m → (n : ℕ)
      × (on_sub p n ≡ m.track) × Sits x.sub x.queue (on_sub p n)
  sits x k m on by =
      let q = in_sub m on in
      (q.0, q.1, subst (λ (t : Track). IsOn x t) (sym q.1) by.track)

  pub outside : (x : Access) (k : Mark) → x.sub ≡ None → ShownTo x k (sub_masks p) → ⊥
  outside x k is (m, on, by) =
      let q = sits x k m on by in
      subst (λ s. Sits s x.queue (on_sub p q.0)) is q.2

  pub other_shown : (x : Access) (k : Mark) (s : ℕ × ℕ) → x.sub ≡ Some s
      → ((p.queue ≡ x.queue) × (p.subpass ≡ s.1) → ⊥) → ShownTo x k (sub_masks p) → ⊥
  other_shown x k s is other (m, on, by) =
      let q = sits x k m on by in
      let e = subst (λ o. Sits o x.queue (on_sub p q.0)) is q.2 in
      other (sym e.0, sym e.2)

  pub shown_track : (x : Access) (k : Mark) (instance : ℕ) → x.sub ≡ Some (instance, p.subpass) → (m : Mask)
      → Contains (sub_masks p) m → Shows x k m → m.track ≡ on_sub p instance
  shown_track x k instance is m on by =
      let q = sits x k m on by in
      let e = subst (λ o. Sits o x.queue (on_sub p q.0)) is q.2 in
      sym q.1 ∙ ap (λ (n : ℕ). on_sub p n) (sym e.1)

pub sub_adds : (p q : SubRuns) (more : Mask) → q.queue ≡ p.queue → q.subpass ≡ p.subpass
    → Adds (runs_masks (on_sub p) p.runs.items) (runs_masks (on_sub p) q.runs.items) more
    → Adds (sub_masks p) (sub_masks q) more
unfolding sub_masks
sub_adds p q more queue subpass a =
    subst (λ (ms : List Mask). Adds (runs_masks (on_sub p) p.runs.items) ms more)
    (sym (ap (λ (n : ℕ). runs_masks (λ i. Sub n i q.subpass) q.runs.items) queue
    ∙ ap (λ (n : ℕ). runs_masks (λ i. Sub p.queue i n) q.runs.items) subpass)) a

pub sub_same : (p q : SubRuns) → q.queue ≡ p.queue → q.subpass ≡ p.subpass → q.runs.items ≡ p.runs.items
    → sub_masks q ≡ sub_masks p
unfolding sub_masks
sub_same p q queue subpass runs =
    ap (λ (n : ℕ). runs_masks (λ i. Sub n i q.subpass) q.runs.items) queue
    ∙ (ap (λ (n : ℕ). runs_masks (λ i. Sub p.queue i n) q.runs.items) subpass
    ∙ ap (λ (rs : List Run). runs_masks (on_sub p) rs) runs)

-- the only mask on the track of an instance
pub sub_mask : (p : SubRuns) (t : Track) (number : ℕ) (o : Option Mask) → t ≡ on_sub p number → MatchOption o
    ((place : ℕ → Track) → t ≡ place number → AreApart place number
    → IsNoneOn (runs_masks place p.runs.items) t)
    (λ m. (place : ℕ → Track) → t ≡ place number → AreApart place number
    → IsOnlyOn (runs_masks place p.runs.items) t m)
    → MatchOption o (IsNoneOn (sub_masks p) t) (IsOnlyOn (sub_masks p) t)
unfolding sub_masks
sub_mask p t number None is h = h (on_sub p) is (subs_apart p number)
sub_mask p t number (Some m) is h = h (on_sub p) is (subs_apart p number)

-- runs of one queue and subpass change, or others are added
pub subs_set : (subs : List SubRuns) (i : ℕ) (old new : SubRuns) (more : Mask) → i < length subs
    → old ≡ get_or subs i old → Adds (sub_masks old) (sub_masks new) more
    → Adds (subs_masks subs) (subs_masks (set subs i new)) more
unfolding subs_masks
subs_set subs i old new more within at a = Adds-set sub_masks subs i old new more within at a

pub subs_pushed : (subs : List SubRuns) (p : SubRuns) (more : Mask) → Adds [] (sub_masks p) more
    → Adds (subs_masks subs) (subs_masks (subs ++ p ∷ [])) more
unfolding subs_masks
subs_pushed subs p more a = Adds-pushed sub_masks subs p more a

pub sub_none : (p : SubRuns) → p.runs.items ≡ [] → sub_masks p ≡ []
unfolding sub_masks
sub_none p none = ap (λ (rs : List Run). runs_masks (on_sub p) rs) none ∙ no_runs (on_sub p)

pub subs_none : subs_masks [] ≡ []
unfolding subs_masks
subs_none = refl

-- one copy more
pub subs_copied : (copies subs : List SubRuns) (i : ℕ) (e copy : SubRuns) → i < length subs
    → subs_masks copies ≡ subs_masks (take i subs) → sub_masks copy ≡ sub_masks (get_or subs i e)
    → subs_masks (copies ++ copy ∷ []) ≡ subs_masks (take (i + 1) subs)
unfolding subs_masks
subs_copied copies subs i e copy lt so_far same =
    flat_map-append sub_masks copies (copy ∷ [])
    ∙ (ap (λ (ms : List Mask). ms ++ flat_map sub_masks (copy ∷ [])) so_far
    ∙ (ap (λ (ms : List Mask). flat_map sub_masks (take i subs) ++ (ms ++ [])) same
    ∙ (sym (flat_map-append sub_masks (take i subs) (get_or subs i e ∷ []))
    ∙ ap (λ (xs : List SubRuns). flat_map sub_masks xs) (sym (take_more subs i e lt)))))

-- d may follow what is reached on some of the runs, and x is on a track that is
pub subs_lead_in : (subs : List SubRuns) (d : Dep) → LeadsInto (subs_masks subs) d → (p : SubRuns)
    × Contains subs p × LeadsInto (sub_masks p) d
unfolding subs_masks
subs_lead_in subs d = found_in (λ m. Leads m d) sub_masks subs

pub subs_lead_from : (subs : List SubRuns) (d : Dep) (p : SubRuns) → Contains subs p
    → LeadsInto (sub_masks p) d → LeadsInto (subs_masks subs) d
unfolding subs_masks
subs_lead_from subs d p on l = found_from (λ m. Leads m d) sub_masks subs p on l

pub subs_shown_in : (subs : List SubRuns) (x : Access) (k : Mark) → ShownTo x k (subs_masks subs)
    → (p : SubRuns) × Contains subs p × ShownTo x k (sub_masks p)
unfolding subs_masks
subs_shown_in subs x k = found_in (λ m. Shows x k m) sub_masks subs

pub subs_shown_from : (subs : List SubRuns) (x : Access) (k : Mark) (p : SubRuns) → Contains subs p
    → ShownTo x k (sub_masks p) → ShownTo x k (subs_masks subs)
unfolding subs_masks
subs_shown_from subs x k p on l = found_from (λ m. Shows x k m) sub_masks subs p on l

-- nothing is reached yet
pub none_reached : (masks : List Mask) (runs : List Run) (subs : List SubRuns) → masks ≡ [] → runs ≡ []
    → subs ≡ [] → masks ++ (runs_masks on_token runs ++ subs_masks subs) ≡ []
none_reached masks runs subs no_mask no_run no_sub =
    ap (λ (ms : List Mask). ms ++ (runs_masks on_token runs ++ subs_masks subs)) no_mask
    ∙ (ap (λ (rs : List Run). runs_masks on_token rs ++ subs_masks subs) no_run
    ∙ (ap (λ (ms : List Mask). ms ++ subs_masks subs) (no_runs on_token)
    ∙ (ap (λ (ps : List SubRuns). subs_masks ps) no_sub ∙ subs_none)))
