-- The steps of rows by regions are within the bound.
use Rattle.std.proofs.Common.{ℕ, ◌+◌, ◌*◌, ◌≤◌, arith, mul-le-mul_left}
use Rattle.orc_program.specs.Need.{steps_with}

-- a row's elements take so many instructions besides their turns, and each turn so many with the two jumps
abbrev pub regions_of : ℕ → ℕ → ℕ → ℕ
regions_of besides turned turn = besides + turned * (2 + turn)

-- what is left for a row's elements besides their turns: 17 and 3 for each array
pub regions_steps : (turned cost patterns sums arrays lists besides turn rows : ℕ) → lists ≤ 32 + 8 * patterns + 16 * sums → turn ≤ cost + arrays + 4 → besides ≤ 17 + 3 * arrays → arrays ≤ 12
    → lists + (2 * arrays + 3) + (1 + rows * (2 + (regions_of besides turned turn + 5 * arrays + 5))) + 1 ≤ steps_with turned cost patterns sums arrays rows
regions_steps turned cost patterns sums arrays lists besides turn rows short few_turn few_besides few =
    let within : turned * (2 + turn) ≤ turned * (cost + arrays + 6) = mul-le-mul_left turned (omega (arith, few_turn)) in
    let row : rows * (2 + (besides + turned * (2 + turn) + 5 * arrays + 5)) ≤ rows * (24 + 8 * arrays + turned * (cost + arrays + 6)) = mul-le-mul_left rows (omega (arith, within, few_besides)) in
    omega (arith, row, short, few)
