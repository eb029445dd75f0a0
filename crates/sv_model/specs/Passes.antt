-- The steps of a render pass: entry, inner and exit groups, loads and stores ("Render Pass Creation",
-- "Render Pass Commands").
use Rattle.std.specs.Prelude.{ℕ, ◌+◌, ◌-◌, List, [], ◌∷◌, ◌++◌, Bool, true, false, ◌==◌, ◌&&◌, nat_lt}
use Rattle.std.specs.Prelude.{Option, Some, None, is_some, is_none, map, filter, filter_map, option_map}
use Rattle.std.specs.Prelude.{option_and_then, unwrap_or, slice_get, find, zip, length, if◌then◌else◌}
use Rattle.std.specs.List.{list_any, enumerate_from, last_or, range_with_len}
use Rattle.sv_mask.specs.Sets.{set_of}
use Rattle.sv_mask.specs.Scopes.{no_stages, no_usages, device_stages}
use Rattle.sv_mask.specs.declared.usage.Usages.{Usages}
use Rattle.sv_mask.specs.declared.layout.Layout.{Layout}
use Rattle.sv_model.specs.declared.line.PassAttachment.{PassAttachment}
use Rattle.sv_model.specs.declared.line.PassUse.{PassUse}
use Rattle.sv_model.specs.declared.line.PassDep.{PassDep}
use Rattle.sv_model.specs.declared.line.View.{View}
use Rattle.sv_model.specs.declared.pass.UseIn.{UseIn}
use Rattle.sv_model.specs.declared.pass.Attached.{Attached}
use Rattle.sv_model.specs.declared.work.Track.{Track}
use Rattle.sv_model.specs.declared.work.Track.TheVariants.{Queue, Sub}
use Rattle.sv_model.specs.declared.work.Dep.{Dep}
use Rattle.sv_model.specs.declared.work.Old.{Old}
use Rattle.sv_model.specs.declared.work.Access.{Access}
use Rattle.sv_model.specs.declared.work.Group.{Group}
use Rattle.sv_model.specs.declared.work.Step.{Step}
use Rattle.sv_model.specs.declared.work.Step.TheVariants.{Groups}
use Rattle.sv_model.specs.declared.work.Here.{Here}
use Rattle.sv_model.specs.declared.work.PassPoint.{PassPoint}
use Rattle.sv_model.specs.declared.work.PassPoint.TheVariants.{Begin, Next, End}
use Rattle.sv_model.specs.Declarations.{Pass}
use Rattle.sv_model.specs.Barriers.{place_of, dependency, group, moves}
use Rattle.sv_model.specs.Rendering.{load_usage, store_usage, view_area, used, access_step}

abbrev pub use_in : ℕ → ℕ × List PassUse → Option UseIn
use_in att subpass = option_map (λ (u : PassUse). record { subpass = subpass.0; layout = u.layout })
    (find (λ (u : PassUse). u.att == att) subpass.1)

abbrev pub attached : Pass → List View → List Attached
attached pass views = map (λ (x : ℕ × (PassAttachment × View)). record {
  is = x.1.0;
  on = view_area x.1.1.res x.1.1.mip x.1.1.layer x.1.1.layers;
  uses = filter_map (use_in x.0) (enumerate_from 0 pass.subpasses);
}) (enumerate_from 0 (zip pass.attachments views))

-- the layout of a use, where it is in subpass i
abbrev pub layout_in : ℕ → Option UseIn → Option Layout
layout_in i None = None
layout_in i (Some u) = if u.subpass == i then Some u.layout else None

-- the layout of the attachment's first use, where that is in subpass i
abbrev pub begins_in : ℕ → Attached → Option Layout
begins_in i a = layout_in i (slice_get a.uses 0)

-- the layout of its last use, where that is in subpass i
abbrev pub ends_in : ℕ → Attached → Option Layout
ends_in i a = layout_in i (last_or None a.uses)

abbrev pub pass_use : Here → ℕ → Attached → Layout → ℕ → Access
pass_use here i a layout usage = used here (Some (here.instance, i)) a.on usage (Some layout)

-- the loads of the attachments first used in i
abbrev pub loads : Here → ℕ → List Attached → List Access
loads here i list = filter_map (λ (a : Attached). option_map
    (λ (l : Layout). pass_use here i a l (load_usage a.is.class a.is.load)) (begins_in i a)) list

-- the stores of the attachments last used in i
abbrev pub stores : Here → ℕ → List Attached → List Access
stores here i list = filter_map (λ (a : Attached). option_and_then
    (λ (l : Layout). option_map (pass_use here i a l) (store_usage a.is.class a.is.store)) (ends_in i a))
    list

abbrev pub pair : Attached → Layout → Layout → Old
pair a was becomes = record { area = a.on; was = was; becomes = becomes }

-- from the initial layout to that of the first use
abbrev pub entry_olds : ℕ → List Attached → List Old
entry_olds i list = filter moves (filter_map (λ (a : Attached). option_map (pair a a.is.initial)
    (begins_in i a)) list)

-- from the layout of the last use to the final one
abbrev pub exit_olds : ℕ → List Attached → List Old
exit_olds i list = filter moves (filter_map (λ (a : Attached). option_map
    (λ (l : Layout). pair a l a.is.becomes) (ends_in i a)) list)

-- the latest use before subpass i
abbrev pub use_before : ℕ → Attached → Option UseIn
use_before i a = last_or None (filter (λ (u : UseIn). nat_lt u.subpass i) a.uses)

-- from the layout of the latest earlier use to that of the use in i
abbrev pub inner_old : ℕ → Attached → Option Old
inner_old i a = option_and_then (λ (u : UseIn). option_map
    (λ (earlier : UseIn). pair a earlier.layout u.layout) (use_before i a))
    (find (λ (u : UseIn). u.subpass == i) a.uses)

abbrev pub inner_olds : ℕ → List Attached → List Old
inner_olds i list = filter moves (filter_map (inner_old i) list)

abbrev pub is_subpass : ℕ → Option ℕ → Bool
is_subpass i None = false
is_subpass i (Some j) = j == i

abbrev pub is_below : ℕ → Option ℕ → Bool
is_below i None = false
is_below i (Some j) = nat_lt j i

abbrev pub pass_dependency : Track → Track → PassDep → Dep
pass_dependency from to d = dependency from d.src d.src_access to d.dst d.dst_access None

-- input_attachment_read, both colour and both depth attachment accesses: the usages 27 to 33
abbrev pub attachment_usages : Usages
attachment_usages = record { 0 = set_of (range_with_len 27 7) }

abbrev pub implicit_entry : Track → Dep
implicit_entry to = record {
  from = Queue 0;
  s1 = no_stages;
  a1 = no_usages;
  to = to;
  s2 = device_stages;
  a2 = attachment_usages;
  range = None;
}

abbrev pub implicit_exit : Track → Dep
implicit_exit from = record {
  from = from;
  s1 = device_stages;
  a1 = attachment_usages;
  to = Queue 0;
  s2 = no_stages;
  a2 = no_usages;
  range = None;
}

-- an implicit dependency stands where the pass gives none, and the subpass is an attachment's first or last
-- user
abbrev pub or_implicit : Bool → Dep → List Dep → List Dep
or_implicit true implicit [] = implicit ∷ []
or_implicit false implicit [] = []
or_implicit uses implicit (d ∷ rest) = d ∷ rest

abbrev pub pass_group : Here → List Dep → List Old → Group
pass_group here deps olds = group (place_of here) deps olds olds None

abbrev pub subpass_track : Here → ℕ → Track
subpass_track here i = Sub 0 here.instance i

-- from external to i
abbrev pub entry_deps : Here → Pass → ℕ → List Dep
entry_deps here pass i = map (pass_dependency (Queue 0) (subpass_track here i))
    (filter (λ (d : PassDep). is_none d.from && is_subpass i d.to) pass.deps)

abbrev pub entry_group : Here → Pass → List Attached → ℕ → Group
entry_group here pass list i = pass_group here
    (or_implicit (list_any (λ (a : Attached). is_some (begins_in i a)) list)
    (implicit_entry (subpass_track here i)) (entry_deps here pass i))
    (entry_olds i list)

-- from the subpasses before i to i
abbrev pub inner_deps : Here → Pass → ℕ → List Dep
inner_deps here pass i = map (λ (d : PassDep). pass_dependency (subpass_track here (unwrap_or d.from 0))
    (subpass_track here i) d) (filter (λ (d : PassDep). is_below i d.from && is_subpass i d.to) pass.deps)

abbrev pub inner_group : Here → Pass → List Attached → ℕ → Group
inner_group here pass list i = pass_group here (inner_deps here pass i) (inner_olds i list)

-- from i to external
abbrev pub exit_deps : Here → Pass → ℕ → List Dep
exit_deps here pass i = map (pass_dependency (subpass_track here i) (Queue 0))
    (filter (λ (d : PassDep). is_subpass i d.from && is_none d.to) pass.deps)

abbrev pub exit_group : Here → Pass → List Attached → ℕ → Group
exit_group here pass list i = pass_group here
    (or_implicit (list_any (λ (a : Attached). is_some (ends_in i a)) list)
    (implicit_exit (subpass_track here i)) (exit_deps here pass i))
    (exit_olds i list)

abbrev pub is_filled : Group → Bool
is_filled g = nat_lt 0 (length g.deps + length g.transitions)

-- a step with these groups, unless all are empty
abbrev pub group_step : List Group → List Step
group_step groups = if list_any is_filled groups then Groups groups ∷ [] else []

-- the numbers of the subpasses
abbrev pub subpasses : Pass → List ℕ
subpasses pass = range_with_len 0 (length pass.subpasses)

abbrev pub steps_at : Here → Pass → List Attached → PassPoint → List Step
steps_at here pass list Begin = group_step (map (entry_group here pass list) (subpasses pass))
    ++ access_step (loads here 0 list)
steps_at here pass list (Next i) = access_step (stores here (i - 1) list)
    ++ group_step (inner_group here pass list i ∷ []) ++ access_step (loads here i list)
steps_at here pass list End = access_step (stores here (length pass.subpasses - 1) list)
    ++ group_step (map (exit_group here pass list) (subpasses pass))

-- the steps of a command of a render pass
abbrev pub pass_steps : Pass → List View → PassPoint → Here → List Step
pass_steps pass views point here = steps_at here pass (attached pass views) point
