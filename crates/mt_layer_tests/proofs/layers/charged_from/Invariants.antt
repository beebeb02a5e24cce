use Rattle.mt_layer_tests.proofs.layers.charged_from.Given as goal

abbrev pub ghosts-charged : goal.ghosts-charged
ghosts-charged a = record { name = a.blank.name; parts = a.blank.parts }
