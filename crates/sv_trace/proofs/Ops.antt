-- A name in a table of several parts.
use Rattle.std.proofs.Common.{◌≡◌, ℕ, Bool, true, false, List, [], ◌∷◌, ◌++◌, None, Some, refl, ◌∙◌}
use Rattle.std.specs.Str.{bytes_eq}
use Rattle.sv_mask.specs.Names.{named}
use Rattle.sv_trace.specs.Ops.{declarations, recording_ops, scope_ops, calls, op_named}
use Rattle.sv_trace.specs.declared.op.Op.{Op}

named_left : {A : Type 0} (rows more : List (List ℕ × A)) (s : List ℕ) (a : A) → named rows s ≡ Some a
    → named (rows ++ more) s ≡ Some a
named_left [] more s a h = cc
named_left (row ∷ rows) more s a h = go (bytes_eq s row.0) refl (named_left rows more s a)
  where
    go : (b : Bool) → bytes_eq s row.0 ≡ b → (named rows s ≡ Some a → named (rows ++ more) s ≡ Some a)
        → named ((row ∷ rows) ++ more) s ≡ Some a
    go true e later = rw e (rw e at h)
    go false e later = rw e (later (rw e at h))

named_right : {A : Type 0} (rows more : List (List ℕ × A)) (s : List ℕ) → named rows s ≡ None
    → named (rows ++ more) s ≡ named more s
named_right [] more s h = refl
named_right (row ∷ rows) more s h = go (bytes_eq s row.0) refl (named_right rows more s)
  where
    go : (b : Bool) → bytes_eq s row.0 ≡ b → (named rows s ≡ None → named (rows ++ more) s ≡ named more s)
        → named ((row ∷ rows) ++ more) s ≡ named more s
    go true e later = let h2 = rw e at h in cc
    go false e later = rw e (later (rw e at h))

pub in_declarations : (s : List ℕ) (op : Op) → named declarations s ≡ Some op → op_named s ≡ Some op
unfolding op_named
in_declarations s op h = named_left declarations (recording_ops ++ scope_ops ++ calls) s op h

after_declarations : (s : List ℕ) → named declarations s ≡ None → op_named s
    ≡ named (recording_ops ++ scope_ops ++ calls) s
unfolding op_named
after_declarations s h = named_right declarations (recording_ops ++ scope_ops ++ calls) s h

pub in_recording_ops : (s : List ℕ) (op : Op) → named declarations s ≡ None → named recording_ops s
    ≡ Some op → op_named s ≡ Some op
in_recording_ops s op h k = after_declarations s h ∙ named_left recording_ops (scope_ops ++ calls) s op k

after_recording_ops : (s : List ℕ) → named declarations s ≡ None → named recording_ops s ≡ None → op_named s
    ≡ named (scope_ops ++ calls) s
after_recording_ops s h k = after_declarations s h ∙ named_right recording_ops (scope_ops ++ calls) s k

pub in_scope_ops : (s : List ℕ) (op : Op) → named declarations s ≡ None → named recording_ops s ≡ None
    → named scope_ops s ≡ Some op → op_named s ≡ Some op
in_scope_ops s op h k l = after_recording_ops s h k ∙ named_left scope_ops calls s op l

pub in_calls : (s : List ℕ) → named declarations s ≡ None → named recording_ops s ≡ None → named scope_ops s
    ≡ None → op_named s ≡ named calls s
in_calls s h k l = after_recording_ops s h k ∙ named_right scope_ops calls s l
