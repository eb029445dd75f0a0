use Rattle.std.proofs.Common.{◌≡◌, ◌≢◌, ◌<◌, Some, ap, get_or, length, map, refl, subst, sym, ◌∙◌}
use Rattle.std.proofs.lemmas.List.{length-map}
use Rattle.sv_hub.specs.Attachments.{AreNumbered}
use Rattle.sv_hub.proofs.Changes.{each_read}
use Rattle.sv_hub.proofs.Numbers.{by_number, numbered_seen, numbered_without, seen_there, without_seen}
use Rattle.sv_hub.proofs.hub.Hub.detach.Goals as goal

pub returns-in_default-clause-taken : goal.returns-in_default-clause-taken
returns-in_default-clause-taken g c = (
  each_read _
      (λ a. a.number ≢ c.args.id.number) _ _ c.as_slice.ensures.value
      (λ k d within. c.in_default.ensures k d within),
  refl,
)

pub invariant_of-self : goal.invariant_of-self
invariant_of-self g c =
    let next = c.args.self.now.next in
    let items = c.args.self.now.entries.items in
    let place = c.in-Some.place in
    let here = subst (λ es. place < length es) c.as_slice.ensures.value c.in-Some.ensures.0 in
    let within : place < length (map (λ e. e.number) items) =
    subst (λ n. place < n) (sym (length-map items (λ e. e.number))) here in
    record {
      numbered = subst (λ es. AreNumbered next (map (λ e. e.number) es)) (sym c.remove-entry.ensures.items)
          (subst (AreNumbered next) (sym (without_seen (λ e. e.number) items place))
          (numbered_without next (map (λ e. e.number) items) place within c.args.self.now.numbered));
    }

pub returns-clause-taken : goal.returns-clause-taken
returns-clause-taken g c =
    let within = subst (λ es. c.in-Some.place < length es) c.as_slice.ensures.value c.in-Some.ensures.0 in
    let read = c.remove-entry.ensures.value in
    let number : c.remove-entry.result.number ≡ c.args.id.number =
    ap (λ e. e.number) read ∙ subst (λ es. (get_or es c.in-Some.place c.remove-entry.result).number
    ≡ c.args.id.number) c.as_slice.ensures.value (c.in-Some.ensures.1 c.remove-entry.result) in
    record {
      place = c.in-Some.place;
      there = seen_there _ _ c.in-Some.place c.remove-entry.result within c.remove-entry.ensures.value
          ∙ ap Some (by_number _ c.args.id.number number);
      others = ap (λ l. record { attached = l; next = c.args.self.now.next })
          (ap (map _) c.remove-entry.ensures.items ∙ without_seen _ _ c.in-Some.place);
    }

pub returns-in_default-clause-numbered : goal.returns-in_default-clause-numbered
returns-in_default-clause-numbered g c = numbered_seen _ _ _ c.args.self.now.numbered

pub returns-clause-numbered : goal.returns-clause-numbered
returns-clause-numbered g c = numbered_seen _ _ _ c.args.self.now.numbered
