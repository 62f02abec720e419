-- The names of the functions are names.
use Rattle.std.proofs.Common.{◌≡◌, ℕ, zero, suc, ◌+◌, ◌<◌, [], ◌∷◌, ◌++◌, true, codes, decimal, refl, arith}
use Rattle.std.proofs.lemmas.Fmt.{decimal_digit}
use Rattle.orc_program.specs.Words.{is_name}

of_digit : (f : ℕ) → f < 10 → is_name (codes "g" ++ (48 + f) ∷ []) ≡ true → is_name (codes "g" ++ decimal f) ≡ true
of_digit f lt h = rw (decimal_digit f lt) h

pub is_function_name : (f : ℕ) → f < 8 → is_name (codes "g" ++ decimal f) ≡ true
is_function_name zero lt = of_digit 0 (omega arith) refl
is_function_name (suc zero) lt = of_digit 1 (omega arith) refl
is_function_name (suc (suc zero)) lt = of_digit 2 (omega arith) refl
is_function_name (suc (suc (suc zero))) lt = of_digit 3 (omega arith) refl
is_function_name (suc (suc (suc (suc zero)))) lt = of_digit 4 (omega arith) refl
is_function_name (suc (suc (suc (suc (suc zero))))) lt = of_digit 5 (omega arith) refl
is_function_name (suc (suc (suc (suc (suc (suc zero)))))) lt = of_digit 6 (omega arith) refl
is_function_name (suc (suc (suc (suc (suc (suc (suc zero))))))) lt = of_digit 7 (omega arith) refl
is_function_name (suc (suc (suc (suc (suc (suc (suc (suc n)))))))) lt = absurd (omega (arith, lt))
