use Rattle.sv_core_tests.proofs.spent.is_spent_at_a_refusal.Given as goal

abbrev pub ghosts-keeps_what_it_had : goal.ghosts-keeps_what_it_had
ghosts-keeps_what_it_had g a = record { trace = a.trace.now; board = a.board }
