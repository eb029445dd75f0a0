-- The actors of a trace: lanes and recorders, with their scripts and their events.
use Rattle.std.specs.Prelude.{ℕ, ◌≡◌, ◌+◌, ◌<◌, List, [], ◌∷◌, ◌++◌, Some, length, slice_get, slice_index}
use Rattle.sv_model.specs.declared.line.Mark.{Mark}
use Rattle.sv_model.specs.declared.line.Mark.TheVariants.{Publish, Call}
use Rattle.sv_model.specs.declared.line.Trace.{Trace}
use Rattle.sv_model.specs.History.{calls_of, publications_of, lane_script, recorder_script}
use Rattle.sv_device.specs.declared.who.Who.{Who}
use Rattle.sv_device.specs.declared.who.Who.TheVariants.{Lane, Recorder}

-- those of the scripts, from that number on, that are not empty
abbrev pub with_events : {X : Type 0} → (ℕ → Who) → ℕ → List (List X) → List Who
with_events make n [] = []
with_events make n ([] ∷ scripts) = with_events make (n + 1) scripts
with_events make n ((x ∷ xs) ∷ scripts) = make n ∷ with_events make (n + 1) scripts

-- an actor for each script that is not empty, lanes by number and then recorders by number
abbrev pub actors_of : Trace → List Who
actors_of t = with_events Lane 0 t.lane_scripts ++ with_events Recorder 0 t.recorder_scripts

-- lanes have the numbers 0 to 15, recorder r has 16 + r
abbrev pub number_of : Who → ℕ
number_of (Lane lane) = lane
number_of (Recorder recorder) = 16 + recorder

-- the script of an actor, by numbers
abbrev pub script_of : Trace → Who → List ℕ
script_of t (Lane lane) = lane_script t lane
script_of t (Recorder recorder) = recorder_script t recorder

-- its events in a history, by the same numbers
abbrev pub events_of : Trace → Who → List Mark → List ℕ
events_of t (Lane lane) history = calls_of history lane
events_of t (Recorder recorder) history = publications_of t history recorder

-- its event at that place of its script
abbrev pub mark_at : Trace → Who → ℕ → Mark
mark_at t (Lane lane) place = Call lane place
mark_at t (Recorder recorder) place = Publish (slice_index (recorder_script t recorder) place)

-- an event stands at that place of the script of the actor with that number among the actors
pub record IsEventAt (t : Trace) (index place : ℕ) (m : Mark) : Type 0 where
  pub who : Who
  pub actor : slice_get (actors_of t) index ≡ Some who
  pub left : place < length (script_of t who)
  pub event : m ≡ mark_at t who place

-- What contracts see of an actor: which it is, its number among the actors, and its place in its script.
pub record ActorIs : Type 0 where
  pub who : Who
  pub index : ℕ
  pub place : ℕ

abbrev pub actor_is : Who → ℕ → ℕ → ActorIs
actor_is who index place = record { who = who; index = index; place = place }
