use Rattle.std.proofs.Common.{◌≡◌, ◌+◌, ap, ◌∙◌, length, set}
use Rattle.sv_core.specs.Marks.{mark_of}
use Rattle.sv_share.specs.Values.{BookIs, ShareIs, book_is}
use Rattle.sv_device.proofs.Keeping.{event_next, kept_more, received}
use Rattle.sv_device.proofs.kept.Kept.make.Goals as goal

pub apply-requires-clause-next : goal.apply-requires-clause-next
apply-requires-clause-next g c = event_next g.C.Case.trace g.C.Case.board c.self.inside.validator
    c.self.inside.book c.args.share.actor c.args.share.count c.args.event c.self.invariant
    c.history.ensures.history c.requires.next c.agree-share.ensures.equal

pub invariant_of-self : goal.invariant_of-self
invariant_of-self g c =
    let k = c.self.inside in
    let s = c.args.share in
    let book : c.advance-share.new.book ≡ book_is k.book.board (set k.book.counts s.actor (s.count + 1)) =
    c.advance-share.ensures.book
    ∙ ap (λ (b : BookIs). book_is b.board (set b.counts c.agree-share.result.actor
    (c.agree-share.result.count + 1))) c.agree-share.ensures.book
    ∙ ap (λ (x : ShareIs). book_is k.book.board (set k.book.counts x.actor (x.count + 1)))
    c.agree-share.ensures.same in
    kept_more g.C.Case.trace g.C.Case.board k.validator c.apply.new.self k.book c.advance-share.new.book
    s.actor s.count (mark_of c.args.event) c.self.invariant c.requires.next c.agree-share.ensures.equal
    c.in-Ok.ensures.trace c.in-Ok.ensures.history book

pub returns-in-Ok-clause-ok : goal.returns-in-Ok-clause-ok
returns-in-Ok-clause-ok g c =
    let k = c.self.inside in
    let s = c.args.share in
    received g.C.Case.trace g.C.Case.board k.validator c.apply.new.self k.book s.actor s.count
    (mark_of c.args.event) (record { number = c.len-number.result; reply = c.in-Ok.reply })
    c.self.invariant c.history.ensures.history c.requires.next c.agree-share.ensures.equal
    c.in-Ok.ensures.trace c.in-Ok.ensures.history
    (c.len-number.ensures ∙ ap length c.history.ensures.kept) c.in-Ok.ensures.reply
