-- What a mask names, and how far its synchronization and access scopes reach
-- (Vulkan, "Synchronization").
use Rattle.std.specs.Prelude.{ℕ, zero, suc, ◌+◌, ◌^◌, Bool, ◌&&◌, ◌||◌, ◌==◌, not, nat_le, nat_lt, bit_or}
use Rattle.std.specs.Prelude.{if◌then◌else◌}
use Rattle.std.specs.List.{list_any, list_all, range_with_len}
use Rattle.sv_mask.specs.Sets.{Has, has, set_of}
use Rattle.sv_mask.specs.Usages.{stage_of, access_of, is_write}
use Rattle.sv_mask.specs.declared.stage.Stages.{Stages}
use Rattle.sv_mask.specs.declared.stage.StageWord.{StageWord}
use Rattle.sv_mask.specs.declared.usage.Usages.{Usages}
use Rattle.sv_mask.specs.declared.access.AccessWord.{AccessWord}

-- Stage j comes logically before stage k, or is it. The graphics stages 0 to 10 come in their order,
-- draw_indirect (0) before compute_shader (11), and every other stage stands alone.
abbrev pub precedes : ℕ → ℕ → Bool
precedes j k = j == k || (nat_lt j k && nat_le k 10) || (j == 0 && k == 11)

-- the set of the numbers below n that pass a test
unfoldable pub number_where : ℕ → (ℕ → Bool) → ℕ
number_where zero test = 0
number_where (suc n) test = number_where n test + (if test n then 2 ^ n else 0)

-- the plain stages that pass a test
abbrev pub stages_where : (ℕ → Bool) → Stages
stages_where test = record { 0 = number_where 17 test }

-- the usages that pass a test
abbrev pub usages_where : (ℕ → Bool) → Usages
usages_where test = record { 0 = number_where 43 test }

abbrev pub no_stages : Stages
no_stages = record { 0 = 0 }

abbrev pub no_usages : Usages
no_usages = record { 0 = 0 }

-- the pseudo stage 17 alone
abbrev pub signal : Stages
signal = record { 0 = 2 ^ 17 }

abbrev pub with_signal : Stages → Stages
with_signal s = record { 0 = bit_or s.0 (2 ^ 17) }

-- all plain stages but host
abbrev pub device_stages : Stages
device_stages = record { 0 = set_of (range_with_len 0 16) }

-- all usages but the two of the host
abbrev pub device_usages : Usages
device_usages = record { 0 = set_of (range_with_len 0 41) }

-- a mask names this plain stage
abbrev pub names_stage : StageWord → ℕ → Bool
names_stage word stage = has word.plain.0 stage

-- some stage that a mask names passes a test
abbrev pub names_some : StageWord → (ℕ → Bool) → Bool
names_some word test = list_any (λ stage. names_stage word stage && test stage) (range_with_len 0 17)

-- the named stages with all logically earlier ones, and all stages but host (16) at the bottom of the pipe
unfoldable pub first_sync : StageWord → Stages
first_sync word = stages_where (λ k. names_some word (precedes k) || (word.bottom && nat_lt k 16))

-- the named stages with all logically later ones, and all stages but host (16) at the top of the pipe
unfoldable pub second_sync : StageWord → Stages
second_sync word = stages_where (λ k. names_some word (λ j. precedes j k) || (word.top && nat_lt k 16))

-- an access is named plainly, or by whether it reads or writes
abbrev pub names_usage : AccessWord → ℕ → Bool
names_usage word u = has word.plain.0 (access_of u) || (word.memory_read && not (is_write u))
    || (word.memory_write && is_write u)

-- the usages whose stage and whose access are named
unfoldable pub access : StageWord → AccessWord → Usages
access stages accesses = usages_where (λ u. names_stage stages (stage_of u) && names_usage accesses u)

-- all usages of the named stages
unfoldable pub usages_at : StageWord → Usages
usages_at word = usages_where (λ u. names_stage word (stage_of u))

-- the named stages hold all that all_commands names
abbrev pub names_all : StageWord → Bool
names_all word = list_all (names_stage word) (range_with_len 0 16)

-- some named stage has a usage with this access
abbrev pub has_usage_at : StageWord → ℕ → Bool
has_usage_at word access = list_any (λ u. names_stage word (stage_of u) && access_of u == access)
    (range_with_len 0 43)

-- each access that is named otherwise than by memory_read or memory_write has a usage at some named stage
unfoldable pub supported : StageWord → AccessWord → Bool
supported stages accesses = list_all (λ a. not (has accesses.plain.0 a) || has_usage_at stages a)
    (range_with_len 0 16)

-- all that a mask names the other names too
abbrev pub names_all_of : StageWord → StageWord → Bool
names_all_of word other = list_all (λ k. not (names_stage other k) || names_stage word k)
    (range_with_len 0 17) && (not other.top || word.top) && (not other.bottom || word.bottom)

-- all usages of a set are in the other
abbrev pub has_usages : Usages → Usages → Bool
has_usages set other = list_all (λ u. not (has other.0 u) || has set.0 u) (range_with_len 0 43)

-- One half of a dependency holds one half of another: its stage mask has all that the other's names, and its
-- access scope has the other's.
unfoldable pub is_within : StageWord → AccessWord → StageWord → AccessWord → Bool
is_within stages accesses of_stages of_accesses =
    names_all_of of_stages stages && has_usages (access of_stages of_accesses) (access stages accesses)

-- A dependency of a subpass on itself holds a barrier in the subpass: both halves of it.
abbrev pub is_in_self_dependency : StageWord → AccessWord → StageWord → AccessWord → StageWord → AccessWord
    → StageWord → AccessWord → Bool
is_in_self_dependency src src_access dst dst_access of_src of_src_access of_dst of_dst_access =
    is_within src src_access of_src of_src_access && is_within dst dst_access of_dst of_dst_access

-- each usage of an access scope has its stage in the stage scope
abbrev pub IsAtStages : Usages → Stages → Type 0
IsAtStages usages stages = (u : ℕ) → Has usages.0 u → Has stages.0 (stage_of u)
