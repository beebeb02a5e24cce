use Rattle.mt_printer.proofs.telescopes.+put_after.Given as goal

abbrev pub decreases-put_after : goal.decreases-put_after
decreases-put_after l = l.depth_left
