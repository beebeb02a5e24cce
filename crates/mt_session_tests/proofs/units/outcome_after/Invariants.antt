use Rattle.mt_session_tests.proofs.units.outcome_after.Given as goal

abbrev pub ghosts-told_after : goal.ghosts-told_after
ghosts-told_after a = record { name = a.blank.name; parts = a.blank.parts }
