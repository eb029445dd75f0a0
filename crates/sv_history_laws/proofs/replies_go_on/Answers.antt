use Rattle.sv_history_laws.proofs.WholeReplies.{replies_go_on}
use Rattle.sv_history_laws.proofs.replies_go_on.Goals as goal

pub returns : goal.returns
returns c = replies_go_on
