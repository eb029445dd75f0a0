use Rattle.std.proofs.Common.{◌≤◌, arith, refl, subst, sym}
use Rattle.sv_hub.specs.Attachments.{AreNumbered}
use Rattle.sv_hub.proofs.Changes.{changed_by, changed_map, changed_whole, same_map, seen_each}
use Rattle.sv_hub.proofs.hub.HubAudience.deliver.Goals as goal

pub hear_all-requires : goal.hear_all-requires
hear_all-requires g c = λ k d within. (let room =
    seen_each _ (λ a. 1 ≤ a.spare) _ _ c.as_mut_slice.ensures.value c.requires k d within in omega arith)

pub invariant_of-self : goal.invariant_of-self
invariant_of-self g c = record {
  numbered = subst (AreNumbered c.args.self.now.next)
      (sym (same_map (λ e. e.number) _ _ (changed_by _ _ _ _ (λ a b h. h.number)
      (changed_whole _ _ _ _ _ c.as_mut_slice.ensures.value c.as_mut_slice.ensures.len
      c.hear_all.ensures))))
      c.args.self.now.numbered;
}

pub returns-clause-heard : goal.returns-clause-heard
returns-clause-heard g c = record {
  next = refl;
  each = changed_map _ _ _ _ (changed_by _ _ _ _ (λ a b h. record { number = h.number; heard = h.heard })
      (changed_whole _ _ _ _ _ c.as_mut_slice.ensures.value c.as_mut_slice.ensures.len c.hear_all.ensures));
}

pub returns-clause-room : goal.returns-clause-room
returns-clause-room g c =
    changed_map _ _ _ _ (changed_by _ _ _ _ (λ a b h. h.room)
    (changed_whole _ _ _ _ _ c.as_mut_slice.ensures.value c.as_mut_slice.ensures.len c.hear_all.ensures))
