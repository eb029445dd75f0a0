-- What the printed lines are made of. Numbers are decimal.
use Rattle.std.specs.Prelude.{ℕ, ◌+◌, List, [], ◌++◌, codes, nat_lt, if◌then◌else◌}
use Rattle.std.specs.Fmt.{decimal}
use Rattle.sv_mask.specs.Names.{usage_text}
use Rattle.sv_mask.specs.declared.usage.Usage.{Usage}
use Rattle.sv_model.specs.declared.work.Kind.{Kind}
use Rattle.sv_model.specs.declared.work.Kind.TheVariants.{Raw, War, Waw}
use Rattle.sv_model.specs.declared.work.Area.{Area}
use Rattle.sv_model.specs.declared.work.Area.TheVariants as area
use Rattle.sv_model.specs.declared.work.What.{What}
use Rattle.sv_model.specs.declared.work.What.TheVariants as part
use Rattle.sv_model.specs.declared.work.Place.{Place}
use Rattle.sv_model.specs.declared.work.Access.{Access}

abbrev pub kind_text : Kind → List ℕ
kind_text Raw = codes "raw"
kind_text War = codes "war"
kind_text Waw = codes "waw"

-- the end of a range is not in it
unfoldable pub area_text : Area → List ℕ
area_text (area.Bytes res span) = codes "res " ++ decimal res ++ codes " bytes " ++ decimal span.start
    ++ codes ".." ++ decimal span.end
area_text (area.Image res cells) = codes "res " ++ decimal res ++ codes " mip " ++ decimal cells.mip
    ++ codes " layers " ++ decimal cells.layer ++ codes ".." ++ decimal (cells.layer + cells.layers)

-- a usage by the names of its access and its stage; a number that is no usage has none
unfoldable pub usage_word : Usage → List ℕ
usage_word u = if nat_lt u.0 43 then (usage_text u.0).0 ++ codes "@" ++ (usage_text u.0).1 else []

unfoldable pub what_text : What → List ℕ
what_text (part.Use u) = usage_word u
what_text part.Transition = codes "layout_transition"

-- the event of the submit, the batch in it, the place of the recording in the batch, the recording, the
-- command
unfoldable pub place_text : Place → List ℕ
place_text p = decimal p.event ++ codes "." ++ decimal p.batch ++ codes "." ++ decimal p.slot
    ++ codes " rec " ++ decimal p.rec ++ codes " cmd " ++ decimal p.cmd

unfoldable pub access_text : Access → List ℕ
access_text a = what_text a.what ++ codes " " ++ place_text a.place
