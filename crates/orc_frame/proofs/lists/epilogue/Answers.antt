use Rattle.x86_flow.proofs.Spelled.{all_allowed, size_within}
use Rattle.orc_frame.proofs.Facts.{whole}
use Rattle.orc_frame.proofs.Leaving.{epilogue_finishes}
use Rattle.orc_frame.proofs.Counted.{epilogue_few, ok_map}
use Rattle.orc_frame.proofs.Addresses.{epilogue_own}
use Rattle.orc_frame.proofs.Targeted.{epilogue_for}
use Rattle.orc_frame.proofs.lists.epilogue.Goals as goal

pub epilogue_list-requires : goal.epilogue_list-requires
epilogue_list-requires c = whole c.args.l.now c.requires

pub returns-clause-finishes : goal.returns-clause-finishes
returns-clause-finishes c = ok_map c.epilogue_list.result _ _ (λ list e. epilogue_finishes c.args.l.now list c.requires e) c.epilogue_list.ensures

pub returns-clause-allowed : goal.returns-clause-allowed
returns-clause-allowed c = ok_map c.epilogue_list.result _ _ (λ list e. all_allowed list (epilogue_few c.args.l.now list c.requires e).fine) c.epilogue_list.ensures

pub returns-clause-bytes : goal.returns-clause-bytes
returns-clause-bytes c = ok_map c.epilogue_list.result _ _ (λ list e. size_within list (epilogue_few c.args.l.now list c.requires e).fine) c.epilogue_list.ensures

pub returns-clause-short : goal.returns-clause-short
returns-clause-short c = ok_map c.epilogue_list.result _ _ (λ list e. (epilogue_few c.args.l.now list c.requires e).count) c.epilogue_list.ensures

pub returns-clause-own : goal.returns-clause-own
returns-clause-own c = ok_map c.epilogue_list.result _ _ (λ list e. epilogue_own c.args.l.now list e) c.epilogue_list.ensures

pub returns-clause-sse2 : goal.returns-clause-sse2
returns-clause-sse2 c = ok_map c.epilogue_list.result _ _ (λ list e. epilogue_for c.args.l.now list e) c.epilogue_list.ensures
