use Rattle.orc_text.proofs.instruction.+put_results.Given as goal

abbrev pub decreases-put_results : goal.decreases-put_results
decreases-put_results l = l.count
