use Rattle.std.proofs.Common.{◌∙◌, ◌≤◌, refl, subst, sym}
use Rattle.std.proofs.lemmas.List.{append-nil}
use Rattle.std.proofs.lemmas.Result.{on_ok_weaker}
use Rattle.sv_hub.specs.Attachments.{AreNumbered}
use Rattle.sv_hub.proofs.Changes.{changed_by, changed_map, changed_whole, each_of_whole, same_map}
use Rattle.sv_hub.proofs.hub.HubAudience.reserve.Goals as goal

pub invariant_of-self : goal.invariant_of-self
invariant_of-self g c = record {
  numbered = subst (AreNumbered c.args.self.now.next)
      (sym (same_map (λ e. e.number) _ _ (changed_by _ _ _ _ (λ a b h. h.number)
      (changed_whole _ _ _ _ _ c.as_mut_slice.ensures.value c.as_mut_slice.ensures.len
      c.reserve_all.ensures.kept))))
      c.args.self.now.numbered;
}

pub returns-clause-heard : goal.returns-clause-heard
returns-clause-heard g c = record {
  next = refl;
  each = changed_map _ _ _ _ (changed_by _ _ _ _ (λ a b h. record
      { number = h.number; heard = h.heard ∙ sym (append-nil _) })
      (changed_whole _ _ _ _ _ c.as_mut_slice.ensures.value c.as_mut_slice.ensures.len
      c.reserve_all.ensures.kept));
}

pub returns-clause-kept : goal.returns-clause-kept
returns-clause-kept g c =
    changed_map _ _ _ _ (changed_by _ _ _ _ (λ a b h. h.room)
    (changed_whole _ _ _ _ _ c.as_mut_slice.ensures.value c.as_mut_slice.ensures.len
    c.reserve_all.ensures.kept))

pub returns-clause-room : goal.returns-clause-room
returns-clause-room g c =
    on_ok_weaker _ (each_of_whole _ (λ a. c.args.more ≤ a.spare) _ _ _ _ c.as_mut_slice.ensures.value
    c.as_mut_slice.ensures.len c.reserve_all.ensures.kept.long) c.reserve_all.ensures.room
