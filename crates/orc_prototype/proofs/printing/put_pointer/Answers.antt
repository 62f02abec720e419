use Rattle.orc_prototype.proofs.Joined.{joined_ok}
use Rattle.orc_prototype.proofs.printing.put_pointer.Goals as goal

pub returns : goal.returns
returns c = joined_ok c.args.out.now.items _ _ _ _ _ _ c.put_numbered.result c.in_ok-put_type_of.ensures c.in_ok-extend_from_slice.ensures.items c.put_numbered.ensures
