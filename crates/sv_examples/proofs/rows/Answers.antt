use Rattle.sv_examples.proofs.Computed as computed
use Rattle.sv_examples.proofs.rows.Goals as goal

pub returns : goal.returns
returns c = record {
  semaphore = computed.semaphore;
  wait_first = computed.wait_first;
  wait_first_items = computed.wait_first_items;
  event = computed.event;
  render_pass = computed.render_pass;
  subpasses = computed.subpasses;
  rendering = computed.rendering;
  acquire = computed.acquire;
  twice = computed.twice;
  twice_size = computed.twice_size;
  sparse = computed.sparse;
  is_held = computed.is_held;
  fence_wait = computed.fence_wait;
}
