-- Reports in greatest runs.
use Rattle.std.specs.Prelude.{◌≡◌, ◌⊎◌, List, [], ◌∷◌, ◌++◌}
use Rattle.std.specs.List.{All}
use Rattle.sv_model.specs.Reports.{IsRun, AreApart}
use Rattle.sv_model.specs.declared.work.Report.{Report}
use Rattle.sv_runs.specs.Joined.{joined_area}

-- each is a run, and no two neighbours could be one
pub record AreRuns (reports : List Report) : Type 0 where
  pub runs : All (λ (r : Report). IsRun r.area) reports
  pub apart : AreApart reports

abbrev pub joined : Report → Report → Report
joined a b = record { area = joined_area a.area b.area; later = a.later; earlier = a.earlier; kind = a.kind }

-- the last report goes on to the cells of one more, which says the same
pub record GoesOn (old : List Report) (report : Report) (new : List Report) : Type 0 where
  pub kept : List Report
  pub last : Report
  pub before : old ≡ kept ++ last ∷ []
  pub after : new ≡ kept ++ joined last report ∷ []
  pub same : last.later ≡ report.later

-- one more report goes on from the last one, or begins a run of its own
abbrev pub Grows : List Report → Report → List Report → Type 0
Grows old report new = GoesOn old report new ⊎ (new ≡ old ++ report ∷ [])
