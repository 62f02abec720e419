-- The laws of a program's meaning.
use Rattle.std.proofs.Common.{ℕ, Result, Ok, Err, IsOk, ◌<◌, ap, refl, inl}
use Rattle.orc_program.specs.declared.call.Call.{Call}
use Rattle.orc_program.specs.Program.{FunctionValue, is_array_kind}
use Rattle.orc_program.specs.Meaning.{Gap, rows, emulate}
use Rattle.orc_program.specs.Laws.{OneMore, EndsWhereGood, ChangesOnlyDests, CellsMeet}
use Rattle.orc_program.proofs.Steps.{row_more, rows_more, emulate_keeps, IsOutside}
use Rattle.orc_program.proofs.Mapped.{HasNoGap, good_has_no_gap, in_range}
use Rattle.orc_program.proofs.Near.{dest_near}
use Rattle.orc_program.proofs.Apart.{cells_meet}
use Rattle.orc_program.proofs.Sizes.{size_kept}

pub one_more : (f : FunctionValue) (call : Call) → OneMore f call
one_more f call = record { element_more = row_more f call; row_more = rows_more f call }

ok_of : {A : Type 0} (x : Result A Gap) → HasNoGap x → IsOk x
ok_of (Ok x) h = refl
ok_of (Err g) h = absurd h

pub ends_where_good : (f : FunctionValue) (call : Call) → EndsWhereGood f call
ends_where_good f call mem good = ok_of (emulate f call mem) (good_has_no_gap f call mem good)

pub changes_only_dests : (f : FunctionValue) (call : Call) → ChangesOnlyDests f call
changes_only_dests f call mem end e a none = emulate_keeps f call a outside mem end e
  where
    outside : (r i : ℕ) → r < rows f call → i < call.n → IsOutside f call r i a
    outside r i row low p j dest inside here =
        let a = ap is_array_kind dest in
        none p r i j (record { byte = record { array = (in_range f.vars p a, a); row = row; element = inl (dest_near f p dest, low); inside = inside }; dest = dest; here = here })

pub cells_meet_law : (f : FunctionValue) (call : Call) → CellsMeet f call
cells_meet_law f call kept mem good = cells_meet f call mem good (λ p array. size_kept f kept p array.0)
