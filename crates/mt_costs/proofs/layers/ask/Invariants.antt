use Rattle.mt_costs.proofs.layers.ask.Given as goal

abbrev pub ghosts-answered : goal.ghosts-answered
ghosts-answered a = record { name = a.blank.name; parts = a.blank.parts }
