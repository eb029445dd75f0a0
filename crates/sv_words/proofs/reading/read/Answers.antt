use Rattle.std.proofs.Common.{◌∙◌, Option, ap, codes, subst, sym}
use Rattle.std.specs.Prelude.{IfSome}
use Rattle.clap.proofs.WalkLemmas.{first_value-rows}
use Rattle.clap.specs.Words.{App, first_of, found_of, is_simple, matches_of}
use Rattle.sv_words.specs.Words.{IsInBounds, asked_read, texts_of}
use Rattle.sv_words.specs.declared.ask.Ask.{Ask}
use Rattle.sv_words.proofs.Bounds.{asked_in_bounds}
use Rattle.sv_words.proofs.Kept.{kept_read}
use Rattle.sv_words.proofs.Places.{simple}
use Rattle.sv_words.proofs.reading.read.Goals as goal

pub returns-clause-asked : goal.returns-clause-asked
returns-clause-asked c =
    let words = texts_of c.args.words.now in
    let app = c.in_ok-command.ensures in
    let rows = (c.in-Ok.ensures.matches (ap is_simple app ∙ simple)).0
    ∙ ap (λ (a : App). matches_of a words) app in
    let word = c.get_str.ensures ∙ first_value-rows (found_of c.in-Ok.matches) (codes "word")
    ∙ ap (first_of (codes "word")) rows in
    let seed = c.get_str-2.ensures ∙ first_value-rows (found_of c.in-Ok.matches) (codes "seed")
    ∙ ap (first_of (codes "seed")) rows in
    let count = c.get_str-3.ensures ∙ first_value-rows (found_of c.in-Ok.matches) (codes "count")
    ∙ ap (first_of (codes "count")) rows in
    c.asked_read.ensures ∙ (λ i. asked_read (word i) (seed i) (count i))
    ∙ kept_read words (sym c.is_usage.ensures ∙ c.if-is_usage.false)

pub returns-clause-bounds : goal.returns-clause-bounds
returns-clause-bounds c = subst (λ (o : Option Ask). IfSome o IsInBounds) (sym (returns-clause-asked c))
    (asked_in_bounds (texts_of c.args.words.now))
