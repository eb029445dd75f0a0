-- The printed lines of notes and of held items.
use Rattle.std.specs.Prelude.{ℕ, List, ◌++◌, codes, Option, None, Some}
use Rattle.std.specs.Fmt.{decimal}
use Rattle.sv_mask.specs.Names.{layout_text}
use Rattle.sv_mask.specs.declared.layout.Layout.{Layout}
use Rattle.sv_model.specs.declared.work.Area.{Area}
use Rattle.sv_model.specs.declared.work.What.{What}
use Rattle.sv_model.specs.declared.work.Owner.{Owner}
use Rattle.sv_model.specs.declared.work.Owner.TheVariants as owner
use Rattle.sv_model.specs.declared.work.OwnerWhat.{OwnerWhat}
use Rattle.sv_model.specs.declared.work.OwnerWhat.TheVariants as action
use Rattle.sv_model.specs.declared.work.Note.{Note}
use Rattle.sv_model.specs.declared.work.Note.TheVariants as note
use Rattle.sv_model.specs.declared.work.LayoutNote.{LayoutNote}
use Rattle.sv_model.specs.declared.work.OwnerNote.{OwnerNote}
use Rattle.sv_model.specs.declared.work.EventNote.{EventNote}
use Rattle.sv_model.specs.declared.work.TimelineNote.{TimelineNote}
use Rattle.sv_model.specs.declared.work.FenceNote.{FenceNote}
use Rattle.sv_model.specs.declared.work.Held.{Held}
use Rattle.sv_model.specs.declared.work.Held.TheVariants as held
use Rattle.sv_report.specs.Pieces.{area_text, usage_word, what_text, place_text}

-- an element without a transition is a barrier
unfoldable pub element_text : Option What → List ℕ
element_text None = codes "barrier"
element_text (Some what) = what_text what

unfoldable pub action_text : OwnerWhat → List ℕ
action_text (action.Use u) = usage_word u
action_text action.Transition = codes "layout_transition"
action_text action.Release = codes "release"
action_text action.Acquire = codes "acquire"

unfoldable pub owner_text : Owner → List ℕ
owner_text owner.Nobody = codes "none"
owner_text (owner.Family family) = codes "family " ++ decimal family
owner_text (owner.Released from to) = codes "released " ++ decimal from ++ codes " " ++ decimal to

-- how a note on an area begins
unfoldable pub note_start : List ℕ → Area → List ℕ
note_start word area = codes "  note " ++ word ++ codes " " ++ area_text area ++ codes " "

-- the layout that was declared, and the one that was found
unfoldable pub found_text : Layout → Layout → List ℕ
found_text declared found = codes " declared " ++ layout_text declared ++ codes " found " ++ layout_text found

unfoldable pub layout_note_line : LayoutNote → List ℕ
layout_note_line n = note_start (codes "layout") n.area ++ element_text n.what ++ codes " "
    ++ place_text n.place ++ found_text n.declared n.found ++ codes "\n"

unfoldable pub owner_note_line : OwnerNote → List ℕ
owner_note_line n = note_start (codes "owner") n.area ++ action_text n.what ++ codes " "
    ++ place_text n.place ++ codes " found " ++ owner_text n.found ++ codes "\n"

-- the queue that made the set in force; without one the event is unset
unfoldable pub setter_text : Option ℕ → List ℕ
setter_text None = codes "unset"
setter_text (Some queue) = codes "set on queue " ++ decimal queue

unfoldable pub event_note_line : EventNote → List ℕ
event_note_line n = codes "  note event " ++ decimal n.event ++ codes " " ++ place_text n.place ++ codes " "
    ++ setter_text n.other ++ codes "\n"

-- the value of a signal, and the semaphore's value then
unfoldable pub values_text : ℕ → ℕ → List ℕ
values_text value current = codes " value " ++ decimal value ++ codes " current " ++ decimal current

-- a semaphore, and the submit's event and the batch that signals it
unfoldable pub signal_text : ℕ → ℕ → ℕ → List ℕ
signal_text sem event batch = codes "  note timeline " ++ decimal sem ++ codes " " ++ decimal event
    ++ codes "." ++ decimal batch

unfoldable pub timeline_note_line : TimelineNote → List ℕ
timeline_note_line n = signal_text n.sem n.event n.batch ++ values_text n.value n.current ++ codes "\n"

unfoldable pub fence_note_line : FenceNote → List ℕ
fence_note_line n = codes "  note fence " ++ decimal n.fence ++ codes " " ++ decimal n.event ++ codes "\n"

unfoldable pub note_line : Note → List ℕ
note_line (note.Layout n) = layout_note_line n
note_line (note.Owner n) = owner_note_line n
note_line (note.Event n) = event_note_line n
note_line (note.Timeline n) = timeline_note_line n
note_line (note.Fence n) = fence_note_line n

unfoldable pub held_line : Held → List ℕ
held_line (held.Call lane index) = codes "held lane " ++ decimal lane ++ codes " call " ++ decimal index
    ++ codes "\n"
held_line (held.Batch queue event batch) = codes "held queue " ++ decimal queue ++ codes " event "
    ++ decimal event ++ codes " batch " ++ decimal batch ++ codes "\n"
held_line (held.Fence queue event) = codes "held queue " ++ decimal queue ++ codes " event "
    ++ decimal event ++ codes " fence\n"
