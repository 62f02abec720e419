use Rattle.std.proofs.Common.{◌≡◌, ◌-◌, arith}
use Rattle.orc_elf.proofs.FrameLaws.{moved, where_ok}
use Rattle.orc_elf.proofs.frames.put_moving_rows.Goals as goal

pub returns : goal.returns
returns c =
    let u = c.args.unwind in
    let m : c.saturating_sub-2.result ≡ u.exit - u.body - 55 = grind (arith, c.saturating_sub.ensures, c.saturating_sub-2.ensures) in
    let n : c.saturating_sub-3.result ≡ c.args.size - 1 - u.exit = grind (arith, c.saturating_sub-3.ensures) in
    where_ok c.extend_from_slice-2.result _ _ _ _
    (λ h. moved c.args.size _ _ u _ _ _ _ _ _ _ _ _ m n c.in_ok-put_row.ensures c.in_ok-put_row-2.ensures c.in_ok-put_advance.ensures c.in_ok-put_saved.ensures c.in_ok-put_row-3.ensures c.in_ok-extend_from_slice.ensures.items c.in_ok-put_advance-2.ensures h)
    c.extend_from_slice-2.ensures.items
