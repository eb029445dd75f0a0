-- What holds of a line that is not refused: each sentence is false of it.
use Rattle.std.proofs.Common.{◌≡◌, ℕ, ◌+◌, ◌<◌, ◌≤◌, zero, suc, List, [], ◌∷◌, Bool, true, false, not, eqb}
use Rattle.std.proofs.Common.{Option, None, Some, refl, sym, ◌∙◌, arith, length, IsTrue, inl, inr}
use Rattle.std.specs.Prelude.{if◌then◌else◌, nat_lt, slice_index_or}
use Rattle.std.specs.List.{list_any}
use Rattle.std.proofs.lemmas.Bool.{or_parts}
use Rattle.std.proofs.lemmas.Bool.Decides.{eqb_tells, nat_tests}
use Rattle.sv_model.specs.declared.line.Line.{Line}
use Rattle.sv_model.specs.declared.line.Trace.{Trace}
use Rattle.sv_model.specs.declared.refusal.Cause.{Cause}
use Rattle.sv_rules.specs.First.{or_else}
use Rattle.sv_rules.specs.Taken.{Taken}
use Rattle.sv_rules.specs.Named.{is_undeclared, names_new_queue, names_new_resource, names_new_semaphore}
use Rattle.sv_rules.specs.Named.{names_new_event, names_new_fence, names_new_pass, goes_on_in_new_recording}
use Rattle.sv_rules.specs.Named.{submits_new_recording, is_declared_twice}
use Rattle.sv_rules.specs.PartRules.{is_out_of_resource, is_empty}
use Rattle.sv_rules.specs.Masks.{is_without_stage}
use Rattle.sv_rules.specs.Places as place
use Rattle.sv_rules.specs.SelfDependencies.{is_without_self_dependency}
use Rattle.sv_rules.specs.Calls.{is_of_another_lane, is_of_wrong_kind}
use Rattle.sv_rules.specs.Limits as limits
use Rattle.sv_rules.specs.Causes.{broken_rule, rule_cause}

-- Tests.

pub none_at : {X : Type 0} (p : X → Bool) (xs : List X) → list_any p xs ≡ false → (k : ℕ) (d : X) → k
    < length xs → p (slice_index_or xs k d) ≡ false
none_at p [] e k d lt = absurd (omega (arith, lt))
none_at p (x ∷ xs) e zero d lt = (or_parts (p x) (list_any p xs) e).0
none_at p (x ∷ xs) e (suc k) d lt = none_at p xs (or_parts (p x) (list_any p xs) e).1 k d (omega (arith, lt))

pub few : (most n : ℕ) → nat_lt most n ≡ false → n ≤ most
few most n e = grind (arith, nat_tests)

pub not_false : (b : Bool) → not b ≡ false → b ≡ true
not_false true e = refl
not_false false e = cc

pub same_number : (m n : ℕ) → eqb m n ≡ true → m ≡ n
same_number m n e = elim (eqb_tells m n) [
  | inl same ↦ same.1
  | inr other
      ↦ absurd (let h : false ≡ true = sym other.0 ∙ e in cc)
]

pub first_none : (b : Bool) (c : Cause) (rest : Option Cause) → (if b then Some c else rest) ≡ None
    → (b ≡ false) × (rest ≡ None)
first_none true c rest e = absurd (let h : Some c ≡ None = e in cc)
first_none false c rest e = (refl, e)

no_else : (a b : Option Cause) → or_else a b ≡ None → (a ≡ None) × (b ≡ None)
no_else None b e = (refl, e)
no_else (Some c) b e = absurd (let h : Some c ≡ None = e in cc)

-- The sentences.

pub record Passes (s : Taken) (line : Line) : Type 0 where
  pub declared : is_undeclared s.trace line ≡ false
  pub once : is_declared_twice s.trace line ≡ false
  pub inside : is_out_of_resource s.trace line ≡ false
  pub some : is_empty line ≡ false
  pub stage : is_without_stage line ≡ false
  pub place : place.is_misplaced s line ≡ false
  pub own : is_without_self_dependency s.trace line ≡ false
  pub lane : is_of_another_lane s.trace line ≡ false
  pub kind : is_of_wrong_kind s.trace line ≡ false
  pub limit : limits.passed_limit s line ≡ None

pub passes : (s : Taken) (line : Line) → rule_cause s line ≡ None → Passes s line
unfolding rule_cause broken_rule
passes s line e =
    let both = no_else (broken_rule s line) (limits.passed_limit s line) e in
    let a = first_none (is_undeclared s.trace line) _ _ both.0 in
    let b = first_none (is_declared_twice s.trace line) _ _ a.1 in
    let c = first_none (is_out_of_resource s.trace line) _ _ b.1 in
    let d = first_none (is_empty line) _ _ c.1 in
    let f = first_none (is_without_stage line) _ _ d.1 in
    let g = first_none (place.is_misplaced s line) _ _ f.1 in
    let h = first_none (is_without_self_dependency s.trace line) _ _ g.1 in
    let i = first_none (is_of_another_lane s.trace line) _ _ h.1 in
    let j = first_none (is_of_wrong_kind s.trace line) _ _ i.1 in
    record {
      declared = a.0;
      once = b.0;
      inside = c.0;
      some = d.0;
      stage = f.0;
      place = g.0;
      own = h.0;
      lane = i.0;
      kind = j.0;
      limit = both.1;
    }

pub record AreDeclared (t : Trace) (line : Line) : Type 0 where
  pub queue : names_new_queue t line ≡ false
  pub resource : names_new_resource t line ≡ false
  pub semaphore : names_new_semaphore t line ≡ false
  pub event : names_new_event t line ≡ false
  pub fence : names_new_fence t line ≡ false
  pub pass : names_new_pass t line ≡ false
  pub recording : goes_on_in_new_recording t line ≡ false
  pub submitted : submits_new_recording t line ≡ false

pub are_declared : (t : Trace) (line : Line) → is_undeclared t line ≡ false → AreDeclared t line
unfolding is_undeclared
are_declared t line e =
    let h = or_parts _ _ e in
    let g = or_parts _ _ h.0 in
    let p = or_parts _ _ g.0 in
    let f = or_parts _ _ p.0 in
    let v = or_parts _ _ f.0 in
    let s = or_parts _ _ v.0 in
    let r = or_parts _ _ s.0 in
    record {
      queue = r.0;
      resource = r.1;
      semaphore = s.1;
      event = v.1;
      fence = f.1;
      pass = p.1;
      recording = g.1;
      submitted = h.1;
    }

pub record IsPlaced (s : Taken) (line : Line) : Type 0 where
  pub ended : place.comes_after_end s.trace line ≡ false
  pub end : place.ends_in_scope s.trace line ≡ false
  pub submits : place.submits_wrongly s.trace line ≡ false
  pub transfers : place.has_wrong_transfer s.trace line ≡ false
  pub scope : place.breaks_scope s.trace line ≡ false
  pub forbidden : place.is_forbidden_inside s.trace line ≡ false
  pub subpass : place.breaks_subpass s.trace line ≡ false
  pub usage : place.has_wrong_usage s.trace line ≡ false
  pub views : place.has_wrong_views s.trace line ≡ false
  pub uses : place.has_unclear_use line ≡ false

pub is_placed : (s : Taken) (line : Line) → place.is_misplaced s line ≡ false → IsPlaced s line
unfolding place.is_misplaced
is_placed s line e =
    let l = or_parts _ _ e in
    let k = or_parts _ _ l.0 in
    let j = or_parts _ _ k.0 in
    let i = or_parts _ _ j.0 in
    let h = or_parts _ _ i.0 in
    let g = or_parts _ _ h.0 in
    let f = or_parts _ _ g.0 in
    let d = or_parts _ _ f.0 in
    let c = or_parts _ _ d.0 in
    let b = or_parts _ _ c.0 in
    record {
      uses = l.1;
      views = k.1;
      usage = j.1;
      subpass = i.1;
      forbidden = h.1;
      scope = g.1;
      transfers = f.1;
      submits = d.1;
      end = c.1;
      ended = b.1;
    }

pub record IsLimited (line : Line) : Type 0 where
  pub accesses : limits.has_many_accesses line ≡ false
  pub deps : limits.has_many_deps line ≡ false
  pub subpasses : limits.has_many_subpasses line ≡ false
  pub uses : limits.has_many_uses line ≡ false
  pub attachments : limits.has_many_attachments line ≡ false
  pub batches : limits.has_many_batches line ≡ false
  pub recs : limits.has_many_recs line ≡ false
  pub waits : limits.has_many_waits line ≡ false
  pub signals : limits.has_many_signals line ≡ false

pub is_limited : (s : Taken) (line : Line) → limits.passed_limit s line ≡ None → IsLimited line
unfolding limits.passed_limit
is_limited s line e =
    let n = first_none (nat_lt 1000000 (s.lines + 1)) _ _ e in
    let a = first_none (limits.has_many_accesses line) _ _ n.1 in
    let b = first_none (limits.has_many_deps line) _ _ a.1 in
    let c = first_none (limits.has_many_subpasses line) _ _ b.1 in
    let d = first_none (limits.has_many_uses line) _ _ c.1 in
    let f = first_none (limits.has_many_attachments line) _ _ d.1 in
    let g = first_none (limits.has_many_batches line) _ _ f.1 in
    let h = first_none (limits.has_many_recs line) _ _ g.1 in
    let i = first_none (limits.has_many_waits line) _ _ h.1 in
    let j = first_none (limits.has_many_signals line) _ _ i.1 in
    record {
      accesses = a.0;
      deps = b.0;
      subpasses = c.0;
      uses = d.0;
      attachments = f.0;
      batches = g.0;
      recs = h.0;
      waits = i.0;
      signals = j.0;
    }
