-- The loops of a row: their instructions are allowed, and have few bytes more than those of the turns.
use Rattle.std.proofs.Common.{ℕ, zero, suc, ◌+◌, ◌*◌, ◌-◌, ◌^◌, ◌<◌, ◌≤◌, pos, List, [], ◌∷◌, ◌++◌, length, refl, arith}
use Rattle.x86_ins.specs.declared.ins.AluOp.{AluOp}
use Rattle.x86_ins.specs.declared.ins.AluOp.TheVariants.{Add, Sub, And}
use Rattle.x86_ins.specs.declared.ins.ShiftOp.TheVariants.{Shr}
use Rattle.x86_ins.specs.declared.ins.Cond.TheVariants.{E, Ns}
use Rattle.x86_ins.specs.declared.ins.Ins.{Ins}
use Rattle.x86_ins.specs.declared.ins.Ins.TheVariants.{MovImm, Alu, AluImm}
use Rattle.x86_ins.specs.Spelling.{IsAllowed, spelling, plus_form}
use Rattle.x86_ins.specs.Way.{Each}
use Rattle.x86_flow.specs.Flow.{Flow, Plain, flat, size, loop_code, choice_code}
use Rattle.x86_flow.specs.Moves.{away}
use Rattle.x86_flow.proofs.Spelled.{IsFine, fits_up, fine_zero, fine_alu, fine_alu_imm, fine_move, fine_shift, fine_load, fine_store, fine_test, each_both, all_allowed, size_within}
use Rattle.x86_flow.proofs.Shapes.{size_both, loop_size, choice_size, loop_fine, choice_fine}
use Rattle.orc_frame.specs.Layout.{left_slot}
use Rattle.orc_region.specs.Regions.{TurnParts, never, gap_code, low_bits_code, never_code, gap_flow, behind_code, enter_head_code, leave_head_code, part_flow, parts_flow, reached_flow, unreached_flow, aligned_row, whole_row, plain_row, tested_row, wide_loops}
use Rattle.orc_region.specs.Code.{AreParts}
use Rattle.orc_region.proofs.Row.Gaps.{each_size}
use Rattle.orc_region.proofs.Row.Parts.{parts_few}

-- instructions that are allowed, of at most so many bytes
pub record Fits (n : ℕ) (is : List Ins) : Type 0 where
  pub allowed : Each IsAllowed is
  pub bytes : size is ≤ n

pub fits_list : (is : List Ins) (k : ℕ) → length is ≤ k → Each IsFine is → Fits (11 * k) is
fits_list is k l h = record { allowed = all_allowed is h; bytes = omega (arith, size_within is h, l) }

pub fits_both : (a b : ℕ) (x y : List Ins) → Fits a x → Fits b y → Fits (a + b) (x ++ y)
fits_both a b x y h g = record { allowed = each_both IsAllowed x y h.allowed g.allowed; bytes = omega (arith, size_both x y, h.bytes, g.bytes) }

fine_never : IsFine (MovImm 0 never)
unfolding spelling plus_form
fine_never = record { allowed = ((omega arith, omega arith), refl); short = omega arith }

fine_gap : (k : ℕ) → k ≤ 3 → Each IsFine (gap_code k)
fine_gap zero l = (fine_zero, (fine_alu Sub 0 2 (omega arith) (omega arith), (fine_alu_imm And 0 (pos 15) (omega arith) (fits_up 15 (omega arith)), tt)))
fine_gap (suc k) l = (fine_zero, (fine_alu Sub 0 2 (omega arith) (omega arith), (fine_alu_imm And 0 (pos 15) (omega arith) (fits_up 15 (omega arith)), (fine_shift Shr 0 (suc k) (omega arith) (omega (arith, l)), tt))))

gap_length : (k : ℕ) → length (gap_code k) ≤ 4
gap_length zero = omega arith
gap_length (suc k) = omega arith

fine_low_bits : (k : ℕ) → k ≤ 3 → Each IsFine (low_bits_code k)
fine_low_bits k l = (fine_move 0 2 (omega arith) (omega arith), (fine_alu_imm And 0 (pos (2 ^ k - 1)) (omega arith) (fits_up (2 ^ k - 1) (each_size (λ j. 2 ^ j - 1 < 2 ^ 31) (omega arith) (omega arith) (omega arith) (omega arith) k l)), tt))

fits_gap : (k : ℕ) → k ≤ 3 → Fits 88 (flat (gap_flow k))
fits_gap zero l = (let h = fits_list (gap_code 0) 4 (gap_length 0) (fine_gap 0 l) in record { allowed = h.allowed; bytes = (let b = h.bytes in omega (arith, b)) })
fits_gap (suc k) l =
    let bits = fits_list (low_bits_code (suc k)) 2 (omega arith) (fine_low_bits (suc k) l) in
    let gap = fits_list (gap_code (suc k)) 4 (gap_length (suc k)) (fine_gap (suc k) l) in
    let far = fits_list never_code 1 (omega arith) (fine_never, tt) in
    let a = bits.bytes in
    let b = gap.bytes in
    let c = far.bytes in
    record {
      allowed = each_both IsAllowed (low_bits_code (suc k)) (choice_code E (gap_code (suc k)) never_code) bits.allowed (choice_fine E (gap_code (suc k)) never_code (omega (arith, b)) (omega (arith, c)) gap.allowed far.allowed);
      bytes = omega (arith, size_both (low_bits_code (suc k)) (choice_code E (gap_code (suc k)) never_code), choice_size E (gap_code (suc k)) never_code, a, b, c);
    }

fine_count : (op : AluOp) (n : ℕ) → n ≤ 64 → IsFine (AluImm op 1 (pos n))
fine_count op n l = fine_alu_imm op 1 (pos n) (omega arith) (fits_up n (omega (arith, l)))

-- several at once from the first element on
pub fits_whole : (wide : Flow) (lanes w : ℕ) → lanes ≤ 64 → Fits w (flat wide) → Fits (w + 11) (flat (whole_row lanes wide))
fits_whole wide lanes w most is_wide =
    let first = fits_list (AluImm Sub 1 (pos lanes) ∷ []) 1 (omega arith) (fine_count Sub lanes most, tt) in
    let x = fits_both 11 w (AluImm Sub 1 (pos lanes) ∷ []) (flat wide) first is_wide in
    record { allowed = x.allowed; bytes = (let b = x.bytes in omega (arith, b)) }

-- behind a test of the pointer
pub fits_tested : (wide aligned : Flow) (lanes w a : ℕ) → lanes ≤ 64 → w ≤ 1000000 → a ≤ 1000000 → Fits w (flat wide) → Fits a (flat aligned) → Fits (a + w + 55) (flat (tested_row lanes wide aligned))
fits_tested wide aligned lanes w a most few_wide few_aligned is_wide is_aligned =
    let one = flat (whole_row lanes aligned) in
    let two = flat (whole_row lanes wide) in
    let bits = fits_list (low_bits_code 4) 2 (omega arith) (fine_move 0 2 (omega arith) (omega arith), (fine_alu_imm And 0 (pos 15) (omega arith) (fits_up 15 (omega arith)), tt)) in
    let h = fits_whole aligned lanes a most is_aligned in
    let g = fits_whole wide lanes w most is_wide in
    let b = h.bytes in
    let c = g.bytes in
    let ways : Fits (a + w + 33) (choice_code E one two) = record {
      allowed = choice_fine E one two (omega (arith, b, few_aligned)) (omega (arith, c, few_wide)) h.allowed g.allowed;
      bytes = omega (arith, choice_size E one two, b, c);
    } in
    let x = fits_both 22 (a + w + 33) (low_bits_code 4) (choice_code E one two) bits ways in
    record { allowed = x.allowed; bytes = (let d = x.bytes in omega (arith, d)) }

-- ---- parts of a turn

-- a turn of so many elements, in few bytes where they are several
pub record FitsPart (count : ℕ) (turn : List Ins) : Type 0 where
  pub some : 0 < count
  pub one : Fits 118943 turn
  pub several : 1 < count → Fits 1100 turn

part_some : (count : ℕ) (turn : List Ins) → FitsPart count turn → 0 < count
part_some count turn x = x.some

-- a loop of such turns
fits_part : (from count n : ℕ) → from ≤ 64 → n ≤ 1000000 → (turn : List Ins) → Fits n turn → Fits (n + 23) (flat (part_flow from count (Plain turn)))
fits_part from count n most few turn h =
    let b = h.bytes in
    let first = AluImm Add 1 (pos (from - count)) ∷ [] in
    let turns : Fits (n + 12) (loop_code Ns turn) = record { allowed = loop_fine Ns turn (omega (arith, b, few)) h.allowed; bytes = omega (arith, loop_size Ns turn, b) } in
    let x = fits_both 11 (n + 12) first (loop_code Ns turn) (fits_list first 1 (omega arith) (fine_count Add (from - count) (omega (arith, most)), tt)) turns in
    record { allowed = x.allowed; bytes = (let c = x.bytes in omega (arith, c)) }

-- all but the last are of several elements
fits_each : (parts : TurnParts) (from : ℕ) → from ≤ 64 → AreParts FitsPart from parts → Fits (117843 + 1123 * length parts) (flat (parts_flow from parts))
fits_each [] from most are = record { allowed = tt; bytes = omega arith }
fits_each (a ∷ []) from most are =
    let x = fits_part from a.0 118943 most (omega arith) a.1 are.2.one in
    let y = fits_both 118966 0 (flat (part_flow from a.0 (Plain a.1))) [] x (record { allowed = tt; bytes = omega arith }) in
    record { allowed = y.allowed; bytes = (let b = y.bytes in omega (arith, b)) }
fits_each (a ∷ b ∷ parts) from most are =
    let u = are.1 in
    let w = are.0.1 in
    let p = are.0.2.some in
    let x = fits_part from a.0 1100 most (omega arith) a.1 (are.2.several (omega (arith, w, p))) in
    let y = fits_each (b ∷ parts) a.0 (omega (arith, u, most)) are.0 in
    let z = fits_both 1123 (117843 + 1123 * length (b ∷ parts)) (flat (part_flow from a.0 (Plain a.1))) (flat (parts_flow a.0 (b ∷ parts))) x y in
    record { allowed = z.allowed; bytes = (let c = z.bytes in omega (arith, c)) }

pub fits_parts : (parts : TurnParts) (from : ℕ) → from ≤ 16 → AreParts FitsPart from parts → Fits 122335 (flat (parts_flow from parts))
fits_parts parts from most are =
    let x = fits_each parts from (omega (arith, most)) are in
    let four = parts_few FitsPart part_some 4 parts from are most in
    record { allowed = x.allowed; bytes = (let b = x.bytes in omega (arith, b, four)) }

module _ (parts : TurnParts) (wide aligned : Flow) (lanes w a : ℕ) (most : lanes ≤ 16) (few_wide : w ≤ 1000000) (few_aligned : a ≤ 1000000) (are : AreParts FitsPart lanes parts) (is_wide : Fits w (flat wide)) (is_aligned : Fits a (flat aligned)) where
  fits_rest : Fits 122335 (flat (parts_flow lanes parts))
  fits_rest = fits_parts parts lanes most are

  near_lanes : lanes ≤ 64
  near_lanes = omega (arith, most)

  -- whole turns and parts of one
  pub fits_plain : Fits (w + 122346) (flat (plain_row lanes parts wide))
  fits_plain =
      let x = fits_both (w + 11) 122335 (flat (whole_row lanes wide)) (flat (parts_flow lanes parts)) (fits_whole wide lanes w near_lanes is_wide) fits_rest in
      record { allowed = x.allowed; bytes = (let b = x.bytes in omega (arith, b)) }

  fits_reached : Fits (a + 122390) (flat (reached_flow lanes parts aligned))
  fits_reached =
      let far = fits_up left_slot (omega arith) in
      let enter = fits_list (enter_head_code lanes) 3 (omega arith) (fine_store 1 (away 4 left_slot) (omega arith) (omega arith) far, (fine_move 1 0 (omega arith) (omega arith), (fine_count Sub lanes near_lanes, tt))) in
      let leave = fits_list leave_head_code 2 (omega arith) (fine_load 1 (away 4 left_slot) (omega arith) (omega arith) far, (fine_test 1 1 (omega arith) (omega arith), tt)) in
      let body = fits_both 22 a leave_head_code (flat aligned) leave is_aligned in
      let turns = fits_both 122335 (22 + a) (flat (parts_flow lanes parts)) (leave_head_code ++ flat aligned) fits_rest body in
      let x = fits_both 33 (122335 + (22 + a)) (enter_head_code lanes) (flat (parts_flow lanes parts) ++ (leave_head_code ++ flat aligned)) enter turns in
      record { allowed = x.allowed; bytes = (let b = x.bytes in omega (arith, b)) }

  fits_unreached : Fits (w + 11) (flat (unreached_flow wide))
  fits_unreached =
      let x = fits_both 11 w (Alu Add 1 0 ∷ []) (flat wide) (fits_list (Alu Add 1 0 ∷ []) 1 (omega arith) (fine_alu Add 1 0 (omega arith) (omega arith), tt)) is_wide in
      record { allowed = x.allowed; bytes = (let b = x.bytes in omega (arith, b)) }

  fits_ways : Fits (a + w + 122412) (choice_code Ns (flat (reached_flow lanes parts aligned)) (flat (unreached_flow wide)))
  fits_ways =
      let b = fits_reached.bytes in
      let c = fits_unreached.bytes in
      record {
        allowed = choice_fine Ns (flat (reached_flow lanes parts aligned)) (flat (unreached_flow wide)) (omega (arith, b, few_aligned)) (omega (arith, c, few_wide)) fits_reached.allowed fits_unreached.allowed;
        bytes = omega (arith, choice_size Ns (flat (reached_flow lanes parts aligned)) (flat (unreached_flow wide)), b, c);
      }

  -- a row whose first dest has elements of 2 ^ k bytes
  pub fits_aligned : (k : ℕ) → k ≤ 3 → Fits (a + w + 244857) (flat (aligned_row k lanes parts wide aligned))
  fits_aligned k l =
      let ways = choice_code Ns (flat (reached_flow lanes parts aligned)) (flat (unreached_flow wide)) in
      let behind = fits_list (behind_code lanes) 2 (omega arith) (fine_alu Sub 1 0 (omega arith) (omega arith), (fine_count Sub lanes near_lanes, tt)) in
      let turns = fits_both (a + w + 122412) 122335 ways (flat (parts_flow lanes parts)) fits_ways fits_rest in
      let counted = fits_both 22 (a + w + 122412 + 122335) (behind_code lanes) (ways ++ flat (parts_flow lanes parts)) behind turns in
      let x = fits_both 88 (22 + (a + w + 122412 + 122335)) (flat (gap_flow k)) (behind_code lanes ++ (ways ++ flat (parts_flow lanes parts))) (fits_gap k l) counted in
      record { allowed = x.allowed; bytes = (let b = x.bytes in omega (arith, b)) }

-- large turns, and then turns of `lanes` elements
pub fits_larges : (lanes more l t : ℕ) → more ≤ 64 → l ≤ 1000000 → t ≤ 1000000 → (large turn : List Ins) → Fits l large → Fits t turn → Fits (l + t + 46) (flat (wide_loops lanes more (Plain large) (Plain turn)))
fits_larges lanes more l t most few_large few_turn large turn h g =
    let one = AluImm Sub 1 (pos (more - lanes)) ∷ [] in
    let two = AluImm Add 1 (pos (more - lanes)) ∷ [] in
    let a = h.bytes in
    let b = g.bytes in
    let larges : Fits (l + 12) (loop_code Ns large) = record { allowed = loop_fine Ns large (omega (arith, a, few_large)) h.allowed; bytes = omega (arith, loop_size Ns large, a) } in
    let turns : Fits (t + 12) (loop_code Ns turn) = record { allowed = loop_fine Ns turn (omega (arith, b, few_turn)) g.allowed; bytes = omega (arith, loop_size Ns turn, b) } in
    let first = fits_both 11 (l + 12) one (loop_code Ns large) (fits_list one 1 (omega arith) (fine_count Sub (more - lanes) (omega (arith, most)), tt)) larges in
    let last = fits_both 11 (t + 12) two (loop_code Ns turn) (fits_list two 1 (omega arith) (fine_count Add (more - lanes) (omega (arith, most)), tt)) turns in
    let x = fits_both (11 + (l + 12)) (11 + (t + 12)) (one ++ loop_code Ns large) (two ++ loop_code Ns turn) first last in
    record { allowed = x.allowed; bytes = (let c = x.bytes in omega (arith, c)) }
