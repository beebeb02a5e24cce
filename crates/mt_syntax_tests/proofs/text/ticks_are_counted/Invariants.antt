use Rattle.mt_syntax_tests.proofs.text.ticks_are_counted.Given as goal

-- the counter is of the blank's own ledger
abbrev pub ghosts-counted : goal.ghosts-counted
ghosts-counted a = record { name = a.blank.name; parts = a.blank.parts }
