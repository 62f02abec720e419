use Rattle.std.proofs.Common.{subst}
use Rattle.orc_image.specs.Fields.{stated_at, aligns_at}
use Rattle.orc_image.specs.Told.{HasAligns}
use Rattle.orc_image.proofs.Aligned.{first_read, second_read, Stated, stated_bytes, stated_size, stated_kept}
use Rattle.orc_image.proofs.reading.Reader.stated.Goals as goal

stated : (c : goal.In_ok-aligns-2) → Stated c.args.two_d c.args.dests c.args.sources c.in_ok-n.n c.in_ok-m.m c.aligns.new.aligns.items c.aligns-2.new.aligns.items c.args.self.now c.count.new.self c.count-2.new.self c.aligns.new.self c.aligns-2.new.self
stated c = record {
  n_bytes = c.in_ok-n.ensures.spelled.0;
  n_at = c.in_ok-n.ensures.spelled.1;
  m_bytes = c.in_ok-m.ensures.spelled.0;
  m_at = c.in_ok-m.ensures.spelled.1;
  first = subst (λ xs. HasAligns 4 c.args.dests c.count-2.new.self c.aligns.new.self xs c.aligns.new.aligns.items) c.new-aligns.ensures c.in_ok-aligns.ensures.spelled;
  second = c.in_ok-aligns-2.ensures.spelled;
}

pub returns-clause-spelled : goal.returns-clause-spelled
returns-clause-spelled c = (stated_bytes _ _ _ _ _ _ _ _ _ _ _ _ (stated c), stated_size _ _ _ _ _ _ _ _ _ _ _ _ (stated c))

pub returns-clause-kept : goal.returns-clause-kept
returns-clause-kept c = stated_kept _ _ _ _ _ _ _ _ _ _ _ _ (stated c) c.in_ok-n.ensures.kept c.in_ok-m.ensures.kept c.in_ok-m.ensures.free

pub returns-clause-gives : goal.returns-clause-gives
unfolding stated_at
returns-clause-gives c =
    rw (c.in_ok-n.ensures.gives, c.in_ok-m.ensures.gives, first_read _ _ _ _ c.new-aligns.ensures c.in_ok-aligns.ensures.gives)
    (second_read (aligns_at 8 c.args.sources c.aligns.new.self) c.in_ok-n.n c.in_ok-m.m c.aligns.new.aligns.items c.aligns-2.new.aligns.items c.aligns-2.new.self c.in_ok-aligns-2.ensures.gives)
