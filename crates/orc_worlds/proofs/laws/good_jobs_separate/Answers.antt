use Rattle.orc_worlds.proofs.Separate.{good_jobs_separate, one_row_is_apart}
use Rattle.orc_worlds.proofs.Copied.{copies_in_parts}
use Rattle.orc_worlds.proofs.laws.good_jobs_separate.Goals as goal

pub returns : goal.returns
returns c = record { separate = good_jobs_separate; one_row = one_row_is_apart; met = copies_in_parts }
