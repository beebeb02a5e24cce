use Rattle.mt_tactical_tests.proofs.agreement.agrees.Given as goal

abbrev pub ghosts-compare : goal.ghosts-compare
ghosts-compare a = record { name = a.blank.name; parts = a.blank.parts }
