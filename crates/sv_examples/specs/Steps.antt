-- Steps as they are expected, with few words.
use Rattle.std.specs.Prelude.{ℕ, ◌^◌, ◌-◌, [], ◌∷◌, None, Option}
use Rattle.sv_model.specs.declared.work.Track.{Track}
use Rattle.sv_model.specs.declared.work.Area.{Area}
use Rattle.sv_model.specs.declared.work.Area.TheVariants.{Bytes}
use Rattle.sv_model.specs.declared.work.What.TheVariants.{Use}
use Rattle.sv_model.specs.declared.work.Place.{Place}
use Rattle.sv_model.specs.declared.work.Dep.{Dep}
use Rattle.sv_model.specs.declared.work.Group.{Group}
use Rattle.sv_model.specs.declared.work.Step.{Step}
use Rattle.sv_model.specs.declared.work.Step.TheVariants.{Accesses, Groups}

abbrev pub place : ℕ → ℕ → ℕ → Place
place event rec cmd = record { event = event; batch = 0; slot = 0; rec = rec; cmd = cmd }

-- a step with one access to bytes of buffer 0
abbrev pub access : ℕ → ℕ → ℕ → ℕ → ℕ → Place → Step
access step usage queue start end at = Accesses (record {
  area = Bytes 0 (record { start = start; end = end });
  what = Use (record { 0 = usage });
  queue = queue;
  sub = None;
  layout = None;
  place = at;
  step = step;
  pos = 0;
} ∷ [])

abbrev pub dep : Track → ℕ → ℕ → Track → ℕ → ℕ → Option Area → Dep
dep from s1 a1 to s2 a2 range = record {
  from = from;
  s1 = record { 0 = s1 };
  a1 = record { 0 = a1 };
  to = to;
  s2 = record { 0 = s2 };
  a2 = record { 0 = a2 };
  range = range;
}

-- a group with one dependency
abbrev pub group : ℕ → Place → Dep → Group
group step at d = record {
  step = step;
  place = at;
  deps = d ∷ [];
  transitions = [];
  olds = [];
  transfer = None;
}

-- a step without groups: a batch that waits for nothing, or signals nothing
abbrev pub none : Step
none = Groups []

-- sets, as they are written in binary
abbrev pub signal_bit : ℕ
signal_bit = 2 ^ 17

abbrev pub device_stages : ℕ
device_stages = 2 ^ 16 - 1
