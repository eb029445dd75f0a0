-- Runs of numbers, of tokens or of render pass instances, on each of which the same is reached.
use Rattle.std.specs.Prelude.{ℕ, ◌+◌, ◌-◌, ◌≤◌, ◌≡◌, ◌++◌, List, map, Contains}
use Rattle.std.specs.List.{flat_map, range_with_len}
use Rattle.sv_model.specs.declared.work.Track.{Track}
use Rattle.sv_model.specs.declared.work.Track.TheVariants.{Sub, Token}
use Rattle.sv_state.specs.declared.mask.Mask.{Mask}
use Rattle.sv_state.specs.declared.runs.Run.{Run}
use Rattle.sv_state.specs.declared.settled.Settled.{Settled}
use Rattle.sv_state.specs.declared.sub_runs.SubRuns.{SubRuns}

-- the mask of one number of a run, on its track
abbrev pub mask_at : (ℕ → Track) → Run → ℕ → Mask
mask_at place r number = record { track = place number; stages = r.stages; usages = r.usages }

-- the masks of its numbers, one after another
unfoldable pub run_masks : (ℕ → Track) → Run → List Mask
run_masks place r = map (λ number. mask_at place r number) (range_with_len r.first (r.last + 1 - r.first))

unfoldable pub runs_masks : (ℕ → Track) → List Run → List Mask
runs_masks place runs = flat_map (λ r. run_masks place r) runs

-- the track of a token, and that of an instance in one subpass
abbrev pub on_token : ℕ → Track
on_token number = Token number

abbrev pub on_sub : SubRuns → ℕ → Track
on_sub p number = Sub p.queue number p.subpass

unfoldable pub sub_masks : SubRuns → List Mask
sub_masks p = runs_masks (on_sub p) p.runs.items

unfoldable pub subs_masks : List SubRuns → List Mask
subs_masks subs = flat_map sub_masks subs

-- all that is reached by earlier steps
abbrev pub masks_of : Settled → List Mask
masks_of s = s.masks.items ++ (runs_masks on_token s.runs.items ++ subs_masks s.subs.items)

-- the other numbers have other tracks
abbrev pub AreApart : (ℕ → Track) → ℕ → Type 0
AreApart place number = (n : ℕ) → place n ≡ place number → n ≡ number

-- no mask is on the track, or this one alone
abbrev pub IsNoneOn : List Mask → Track → Type 0
IsNoneOn masks t = (m : Mask) → Contains masks m → m.track ≡ t → ⊥

pub record IsOnlyOn (masks : List Mask) (t : Track) (m : Mask) : Type 0 where
  pub listed : Contains masks m
  pub only : (n : Mask) → Contains masks n → n.track ≡ t → m ≡ n

-- the run goes on with this number and mask
pub record GoesOn (r : Run) (number : ℕ) (m : Mask) : Type 0 where
  pub next : r.last + 1 ≡ number
  pub low : r.first ≤ number
  pub stages : r.stages.0 ≡ m.stages.0
  pub usages : r.usages.0 ≡ m.usages.0
