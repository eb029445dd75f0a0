-- A fence is signalled, counted over the items, exactly where its state has a signal.
use Rattle.std.proofs.Common.{ℕ, ◌≡◌, ◌∙◌, ◌==◌, List, [], ◌∷◌, Bool, true, false, Option, Some, None, cond}
use Rattle.std.proofs.Common.{refl, sym, ap}
use Rattle.std.specs.List.{fold, find}
use Rattle.sv_model.specs.declared.line.Trace.{Trace}
use Rattle.sv_model.specs.declared.line.Mark.{Mark}
use Rattle.sv_model.specs.declared.line.Line.{Line}
use Rattle.sv_model.specs.declared.line.Line.TheVariants as line
use Rattle.sv_model.specs.declared.work.Item.{Item}
use Rattle.sv_model.specs.declared.work.Item.TheVariants as item
use Rattle.sv_model.specs.declared.work.Taken.{Taken}
use Rattle.sv_model.specs.Declarations.{call_of, is_declared_signaled}
use Rattle.sv_model.specs.History.{batch_at}
use Rattle.sv_model.specs.Primitives.{Made, FenceChange, nothing_made}
use Rattle.sv_model.specs.Fences.{fence_by, fence_state, has_signal, fence_after, fence_after_call}
use Rattle.sv_model.specs.Fences.{is_signaled}
use Rattle.sv_model.specs.HostWaits.{call_made}
use Rattle.sv_model.specs.Work.{made, item_made, run_of}
use Rattle.sv_model.specs.Holding.{items_of}
use Rattle.sv_model.specs.Laws.{left_by_items}
use Rattle.sv_gate.proofs.Folds.{batch_fences}

abbrev signaled_by : Trace → List FenceChange → ℕ → Bool
signaled_by t fences n = has_signal (fence_by (is_declared_signaled t n)
    (find (λ (x : FenceChange). x.fence == n) fences))

one_signal : (d b : Bool) (fence token : ℕ) (o : Option FenceChange)
    → cond b true (has_signal (fence_by d o)) ≡ has_signal
    (fence_by d (cond b (Some (record { fence = fence; token = Some token })) o))
one_signal d true fence token o = refl
one_signal d false fence token o = refl

one_reset : (d b : Bool) (fence : ℕ) (o : Option FenceChange) → cond b false (has_signal (fence_by d o))
    ≡ has_signal (fence_by d (cond b (Some (record { fence = fence; token = None })) o))
one_reset d true fence o = refl
one_reset d false fence o = refl

after_call : (t : Trace) (m : Made) (n : ℕ) (call : Option Line)
    → fence_after_call n (signaled_by t m.fences n) call ≡ signaled_by t (call_made m call).fences n
after_call t m n (Some (line.ResetFence lane fence)) =
    one_reset (is_declared_signaled t n) (fence == n) fence
    (find (λ (x : FenceChange). x.fence == n) m.fences)
after_call t m n other = refl

after_item : (t : Trace) (history : List Mark) (m : Made) (event n : ℕ) (i : Item)
    → fence_after t n (signaled_by t m.fences n) i ≡ signaled_by t (item_made t history m event i).fences n
after_item t history m event n (item.Call lane index) = after_call t m n (call_of t lane index)
after_item t history m event n (item.Fence queue e fence) =
    one_signal (is_declared_signaled t n) (fence == n) fence m.tokens
    (find (λ (x : FenceChange). x.fence == n) m.fences)
after_item t history m event n (item.Batch queue e batch) =
    ap (λ (fences : List FenceChange). signaled_by t fences n)
    (sym (batch_fences t (run_of event queue e batch) m (batch_at t history e batch)))

after_items : (t : Trace) (history : List Mark) (n : ℕ) (m : Made) (items : List Taken)
    → fold (fence_after t n) (signaled_by t m.fences n) (items_of items)
    ≡ signaled_by t (fold (made t history) m items).fences n
after_items t history n m [] = refl
after_items t history n m (x ∷ rest) =
    ap (λ (b : Bool). fold (fence_after t n) b (items_of rest)) (after_item t history m x.event n x.item)
    ∙ after_items t history n (made t history m x) rest

declared_first : (d : Bool) → d ≡ has_signal (fence_by d None)
declared_first true = refl
declared_first false = refl

pub fences_are : (t : Trace) (history : List Mark) (items : List Taken) (n : ℕ)
    → is_signaled t (items_of items) n ≡ has_signal (fence_state t (left_by_items t history items) n)
fences_are t history items n =
    ap (λ (b : Bool). fold (fence_after t n) b (items_of items)) (declared_first (is_declared_signaled t n))
    ∙ after_items t history n nothing_made items
