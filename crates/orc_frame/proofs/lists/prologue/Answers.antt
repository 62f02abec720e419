use Rattle.x86_flow.proofs.Spelled.{all_allowed, size_within}
use Rattle.orc_frame.proofs.Facts.{whole}
use Rattle.orc_frame.proofs.Entering.{prologue_prepares}
use Rattle.orc_frame.proofs.Counted.{prologue_few, ok_map}
use Rattle.orc_frame.proofs.Addresses.{prologue_own}
use Rattle.orc_frame.proofs.Targeted.{prologue_for}
use Rattle.orc_frame.proofs.lists.prologue.Goals as goal

pub prologue_list-requires : goal.prologue_list-requires
prologue_list-requires c = whole c.args.l.now c.requires

pub returns-clause-prepares : goal.returns-clause-prepares
returns-clause-prepares c = ok_map c.prologue_list.result _ _ (λ list e. prologue_prepares c.args.l.now list c.requires e) c.prologue_list.ensures

pub returns-clause-allowed : goal.returns-clause-allowed
returns-clause-allowed c = ok_map c.prologue_list.result _ _ (λ list e. all_allowed list (prologue_few c.args.l.now list c.requires e).fine) c.prologue_list.ensures

pub returns-clause-bytes : goal.returns-clause-bytes
returns-clause-bytes c = ok_map c.prologue_list.result _ _ (λ list e. size_within list (prologue_few c.args.l.now list c.requires e).fine) c.prologue_list.ensures

pub returns-clause-short : goal.returns-clause-short
returns-clause-short c = ok_map c.prologue_list.result _ _ (λ list e. (prologue_few c.args.l.now list c.requires e).count) c.prologue_list.ensures

pub returns-clause-own : goal.returns-clause-own
returns-clause-own c = ok_map c.prologue_list.result _ _ (λ list e. prologue_own c.args.l.now list e) c.prologue_list.ensures

pub returns-clause-sse2 : goal.returns-clause-sse2
returns-clause-sse2 c = ok_map c.prologue_list.result _ _ (λ list e. prologue_for c.args.l.now list e) c.prologue_list.ensures
