use Rattle.std.specs.Prelude.{refl}
use Rattle.sv_mask.specs.Scopes.{number_where, first_sync, second_sync, access, usages_at, supported}
use Rattle.sv_mask.specs.Scopes.{is_within}
use Rattle.sv_mask.specs.Usages.{usage_of}
use Rattle.sv_model.specs.Recordings.{lowered}
use Rattle.sv_rules.specs.Taken.{taken_of, family_of_queue, lane_of_queue, pass_in, kind_in, resource_in}
use Rattle.sv_rules.specs.Taken.{family_of_recording, has_ended, standing_in, size_in}
use Rattle.sv_rules.specs.Named.{is_new_queue, is_new_resource, is_new_semaphore, is_new_event}
use Rattle.sv_rules.specs.Named.{is_new_fence, is_new_pass, is_new_recording, is_undeclared}
use Rattle.sv_rules.specs.Named.{is_declared_twice}
use Rattle.sv_rules.specs.PartRules.{is_out_of_resource, is_empty}
use Rattle.sv_rules.specs.Masks.{is_without_stage}
use Rattle.sv_rules.specs.Places.{is_recording, is_misplaced}
use Rattle.sv_rules.specs.SelfDependencies.{is_without_self_dependency}
use Rattle.sv_rules.specs.Calls.{is_of_another_lane, is_of_wrong_kind}
use Rattle.sv_rules.specs.Limits.{size_so_far, added_size, passed_limit}
use Rattle.sv_rules.specs.Causes.{broken_rule, rule_cause}
use Rattle.sv_rules.specs.Ends.{is_unfinished}
use Rattle.sv_rule_examples.specs.Rows.{Rows}
use Rattle.sv_rule_examples.proofs.rows.Goals as goal

pub returns : goal.returns
unfolding number_where first_sync second_sync access usages_at usage_of supported is_within lowered taken_of
    family_of_queue lane_of_queue pass_in kind_in resource_in family_of_recording has_ended standing_in
    size_in is_new_queue is_new_resource is_new_semaphore is_new_event is_new_fence is_new_pass
    is_new_recording is_undeclared is_declared_twice is_out_of_resource is_empty is_without_stage
    is_recording is_misplaced is_without_self_dependency is_of_another_lane is_of_wrong_kind size_so_far
    added_size passed_limit broken_rule rule_cause is_unfinished
returns c = record {
  queue = refl;
  begins = refl;
  copy = refl;
  ends = refl;
  submits = refl;
  no_recording = refl;
  no_resource = refl;
  no_event = refl;
  no_queue = refl;
  no_semaphore = refl;
  no_submitted = refl;
  twice = refl;
  begins_again = refl;
  other_number = refl;
  past_end = refl;
  to_the_end = refl;
  other_form = refl;
  past_layers = refl;
  last_layer = refl;
  empty_bytes = refl;
  no_layers = refl;
  no_usage = refl;
  unsupported = refl;
  late_version = refl;
  first_version = refl;
  second_open = refl;
  other_recorder = refl;
  after_end = refl;
  end_inside = refl;
  open_submitted = refl;
  other_family = refl;
  foreign_families = refl;
  own_family = refl;
  equal_families = refl;
  families_in_set = refl;
  nested = refl;
  ends_other = refl;
  ends_early = refl;
  goes_on = refl;
  goes_past = refl;
  ends_pass = refl;
  barrier_in_rendering = refl;
  event_inside = refl;
  buffer_in_subpass = refl;
  layouts_in_subpass = refl;
  copy_inside = refl;
  other_views = refl;
  contained = refl;
  uncontained = refl;
  no_own = refl;
  other_lane = refl;
  no_value = refl;
  binary_value = refl;
  binary_initial = refl;
  most_accesses = refl;
  many_accesses = refl;
  many_batches = refl;
  size = refl;
  still_open = refl;
  all_ended = refl;
}
