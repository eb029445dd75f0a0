use Rattle.sv_history_laws.proofs.WholeReplies.{replies_are_whole}
use Rattle.sv_history_laws.proofs.replies_are_whole.Goals as goal

pub returns : goal.returns
returns c = replies_are_whole
