use Rattle.std.proofs.Common.{◌≡◌, ℕ, ◌+◌, zero, suc, ◌*◌, ◌/◌, ◌%◌, ◌^◌, ap, ◌∙◌, refl, arith}
use Rattle.std.proofs.lemmas.Nat.{pow-add}
use Rattle.x86_vector.proofs.shuffles.choice.Goals as goal

-- two bits a place
four_pow : (k : ℕ) → 2 ^ (2 * k) ≡ 4 ^ k
four_pow zero = refl
four_pow (suc k) = let e : 2 * suc k ≡ 2 * k + 2 = omega arith in ap (λ n. 2 ^ n) e ∙ pow-add 2 (2 * k) 2 ∙ ap (λ n. n * 4) (four_pow k) ∙ omega arith

pub returns-clause-value : goal.returns-clause-value
returns-clause-value c = c.from.ensures ∙ ap (λ n. c.args.order / n % 4) (four_pow c.args.k)
