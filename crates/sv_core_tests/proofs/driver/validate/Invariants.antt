use Rattle.sv_core_tests.proofs.driver.validate.Given as goal

abbrev pub ghosts-replay : goal.ghosts-replay
ghosts-replay g a = record { trace = a.trace.now; board = a.board }
