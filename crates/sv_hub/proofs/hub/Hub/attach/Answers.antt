use Rattle.std.proofs.Common.{◌≡◌, ◌+◌, ◌++◌, [], ◌∷◌, map, rules, subst, sym}
use Rattle.std.proofs.lemmas.List.{map-append}
use Rattle.sv_hub.specs.Attachments.{AreNumbered}
use Rattle.sv_hub.proofs.Numbers.{numbered_more, numbered_seen}
use Rattle.sv_hub.proofs.hub.Hub.attach.Goals as goal

pub invariant_of-self-2 : goal.invariant_of-self-2
invariant_of-self-2 g c =
    let next = c.args.self.now.next in
    let items = c.args.self.now.entries.items in
    let pushed : c.push.new.self.items ≡ items ++ record { number = next; listener = c.args.listener }
    ∷ [] = search rules in
    record {
      numbered = subst (λ es. AreNumbered (next + 1) (map (λ e. e.number) es)) (sym pushed)
          (subst (AreNumbered (next + 1)) (sym (map-append (λ e. e.number) items
          (record { number = next; listener = c.args.listener } ∷ [])))
          (numbered_more next (map (λ e. e.number) items) c.args.self.now.numbered));
    }

pub returns-then-is_err-clause-numbered : goal.returns-then-is_err-clause-numbered
returns-then-is_err-clause-numbered g c =
    numbered_seen _ _ _ (subst (λ es. AreNumbered c.args.self.now.next (map (λ e. e.number) es))
    (sym c.reserve.ensures.items) c.args.self.now.numbered)

pub returns-clause-numbered : goal.returns-clause-numbered
returns-clause-numbered g c =
    let next = c.args.self.now.next in
    let items = c.args.self.now.entries.items in
    let pushed : c.push.new.self.items ≡ items ++ record { number = next; listener = c.args.listener }
    ∷ [] = search rules in
    numbered_seen _ _ _ (subst (λ es. AreNumbered (next + 1) (map (λ e. e.number) es)) (sym pushed)
    (subst (AreNumbered (next + 1)) (sym (map-append (λ e. e.number) items
    (record { number = next; listener = c.args.listener } ∷ [])))
    (numbered_more next (map (λ e. e.number) items) c.args.self.now.numbered)))
