use Rattle.mt_protocol.proofs.scripts.+put_raised.Given as goal

abbrev pub decreases-put_raised : goal.decreases-put_raised
decreases-put_raised l = l.k
