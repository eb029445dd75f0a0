-- Events: the set that is in force, the halves of a split barrier, and the notes of a wait ("Events").
use Rattle.std.specs.Prelude.{ℕ, ◌+◌, List, ◌∷◌, ◌==◌, Option, Some, None, find, option_and_then, is_some}
use Rattle.std.specs.Prelude.{length, if◌then◌else◌, [], map}
use Rattle.sv_mask.specs.Scopes.{signal, no_usages}
use Rattle.sv_model.specs.declared.work.Group.{Group}
use Rattle.sv_model.specs.declared.work.Track.TheVariants.{Token}
use Rattle.sv_model.specs.declared.work.Dep.{Dep}
use Rattle.sv_model.specs.declared.work.Place.{Place}
use Rattle.sv_model.specs.declared.work.Access.{Access}
use Rattle.sv_model.specs.declared.work.Note.{Note}
use Rattle.sv_model.specs.Primitives.{InForce, EventChange, Made}
use Rattle.sv_model.specs.Places.{Run, bind_group}
use Rattle.sv_model.specs.declared.work.Note.TheVariants as note

-- the last set that had effect, unless a reset stands since then
abbrev pub in_force : Made → ℕ → Option InForce
in_force m event = option_and_then (λ (x : EventChange). x.set)
    (find (λ (x : EventChange). x.event == event) m.events)

-- a set has effect where none is in force; each of its groups takes a token
abbrev pub event_set : Made → ℕ → ℕ → List Group → Made
event_set m event queue groups = if is_some (in_force m event) then m else record m {
  events = record {
    event = event;
    set = Some
        (record { queue = queue; groups = groups; token = m.tokens });
  } ∷ m.events;
  tokens = m.tokens
      + length groups;
}

abbrev pub event_reset : Made → ℕ → Made
event_reset m event = record m { events = record { event = event; set = None } ∷ m.events }

-- the half of the set: to the token, where nothing is made visible
abbrev pub set_half : ℕ → Group → Group
set_half token g = record g {
  deps = map (λ (d : Dep). record d
      { to = Token token; s2 = signal; a2 = no_usages }) g.deps;
  transitions = [];
  olds = [];
}

-- the half of the wait, at the wait's place: from the token, with the transitions
abbrev pub wait_half : Place → ℕ → Group → Group
wait_half place token g = record g {
  place = place;
  deps = map (λ (d : Dep). record d { from = Token token; s1 = signal; a1 = no_usages }) g.deps;
  transitions = map (λ (a : Access). record a { place = place }) g.transitions;
}

-- each group with a token of its own, from that token on
abbrev pub with_tokens : (ℕ → Group → Group) → ℕ → List Group → List Group
with_tokens half token [] = []
with_tokens half token (g ∷ rest) = half token g ∷ with_tokens half (token + 1) rest

abbrev pub set_groups : Made → Run → ℕ → List Group → List Group
set_groups m r event groups = if is_some (in_force m event) then [] else with_tokens set_half m.tokens
    (map (bind_group r) groups)

abbrev pub wait_groups : Run → Place → Option InForce → List Group
wait_groups r place None = []
wait_groups r place (Some x) = if x.queue == r.queue then with_tokens
    (wait_half place) x.token x.groups else []

abbrev pub event_note : ℕ → Place → Option ℕ → Note
event_note event place other = note.Event (record
    { event = event; place = place; other = other; reports_before = 0 })

-- a note where no set is in force, or one that another queue made
abbrev pub event_notes : Run → ℕ → Place → Option InForce → List Note
event_notes r event place None = event_note event place None ∷ []
event_notes r event place (Some x) = if x.queue == r.queue then [] else event_note event place
    (Some x.queue) ∷ []
