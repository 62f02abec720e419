use Rattle.std.proofs.Common.{◌≡◌, ◌++◌, take, drop, ap, ◌∙◌}
use Rattle.orc_image.specs.Spelling.{slots_bytes}
use Rattle.orc_image.proofs.Growing.{four_pushed}
use Rattle.orc_image.proofs.writing.put_facts.Goals as goal

pub returns : goal.returns
returns c =
    let front : c.split_at.result.0.now ≡ take c.args.dests c.args.facts.now.aligns.items = c.split_at.ensures.front ∙ ap (take c.args.dests) c.as_slice.ensures.value in
    let back : c.split_at.result.1.now ≡ drop c.args.dests c.args.facts.now.aligns.items = c.split_at.ensures.back ∙ ap (drop c.args.dests) c.as_slice.ensures.value in
    let first : c.put_slots.new.out.items ≡ c.put_count-2.new.out.items ++ slots_bytes 4 (take c.args.dests c.args.facts.now.aligns.items) = c.in_ok-put_slots.ensures ∙ ap (λ xs. c.put_count-2.new.out.items ++ slots_bytes 4 xs) front in
    let second : c.put_slots-2.new.out.items ≡ c.put_slots.new.out.items ++ slots_bytes 8 (drop c.args.dests c.args.facts.now.aligns.items) = c.in_ok-put_slots-2.ensures ∙ ap (λ xs. c.put_slots.new.out.items ++ slots_bytes 8 xs) back in
    rw c.if-version-ne2.false (four_pushed _ _ _ _ _ _ _ _ _ c.in_ok-put_count.ensures c.in_ok-put_count-2.ensures first second)
