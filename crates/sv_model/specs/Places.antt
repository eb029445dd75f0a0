-- A step of the work, and where a recording runs: its queue, its instances and its places in a batch
-- ("Command Buffer Submission").
use Rattle.std.specs.Prelude.{ℕ, ◌+◌, List, map, option_map}
use Rattle.sv_model.specs.declared.work.Track.{Track}
use Rattle.sv_model.specs.declared.work.Track.TheVariants.{Queue, Sub, Token}
use Rattle.sv_model.specs.declared.work.Dep.{Dep}
use Rattle.sv_model.specs.declared.work.Place.{Place}
use Rattle.sv_model.specs.declared.work.Access.{Access}
use Rattle.sv_model.specs.declared.work.Group.{Group}
use Rattle.sv_model.specs.declared.work.Step.{Step}
use Rattle.sv_model.specs.declared.work.Note.{Note}

-- A step of the work, the event that released it, and its notes on events, semaphores and fences.
pub record Bound : Type 0 where
  pub step : Step
  pub event : ℕ
  pub notes : List Note

-- Where a recording runs: the event that released its batch, the batch, the slot in it, and the number of
-- its first instance.
pub record Run : Type 0 where
  pub released : ℕ
  pub queue : ℕ
  pub event : ℕ
  pub batch : ℕ
  pub slot : ℕ
  pub instance : ℕ

abbrev pub bind_place : Run → Place → Place
bind_place r p = record { event = r.event; batch = r.batch; slot = r.slot; rec = p.rec; cmd = p.cmd }

abbrev pub bind_track : Run → Track → Track
bind_track r (Queue q) = Queue r.queue
bind_track r (Sub q n i) = Sub r.queue (r.instance + n) i
bind_track r (Token n) = Token n

abbrev pub bind_access : Run → Access → Access
bind_access r a = record a {
  queue = r.queue;
  sub = option_map (λ (s : ℕ × ℕ). (r.instance + s.0, s.1)) a.sub;
  place = bind_place r a.place;
}

abbrev pub bind_dep : Run → Dep → Dep
bind_dep r d = record d { from = bind_track r d.from; to = bind_track r d.to }

abbrev pub bind_group : Run → Group → Group
bind_group r g = record g {
  place = bind_place r g.place;
  deps = map (bind_dep r) g.deps;
  transitions = map (bind_access r) g.transitions;
}
