use Rattle.std.proofs.Common.{rules, ◌≡◌, ◌≢◌, ℕ, Option, Some, None, if◌then◌else◌, nat_lt, get_or, ◌<◌, ◌≤◌, length, List, arith, get_or-set_other, get_or-set_same, ◌⊎◌, inl, inr, ap, sym, ◌∙◌}
use Rattle.std.proofs.Math.ListN.{set}
use Rattle.std.proofs.lemmas.Bool.{cases_eq, cases_lt}
use Rattle.std.proofs.lemmas.Bool.Decides.{nat_tests}
use Rattle.orc_bits.specs.Memory.{put}
use Rattle.orc_bits.proofs.Memories.{put_same, put_other}
use Rattle.x86_apply.proofs.tests.LowBytes.set.Goals as goal

-- the bytes at the lowest addresses
abbrev low : List ℕ → ℕ → Option ℕ
low cells a = if nat_lt a 64 then Some (get_or cells a 0) else None

-- one cell changed
low_set : (cells : List ℕ) (at b : ℕ) → length cells ≡ 64 → at < 64 → (x : ℕ) → low (set cells at b) x ≡ put (low cells) at b x
low_set cells at b l h x = elim (cases_eq x at) [ inl e ↦ here e | inr ne ↦ there ne ]
  where
    here : x ≡ at → low (set cells at b) x ≡ put (low cells) at b x
    here e =
        let k : at < length cells = omega arith in
        ap (low (set cells at b)) e ∙ same (get_or-set_same cells at b 0 k) ∙ sym (ap (put (low cells) at b) e ∙ put_same (low cells) at b)
      where
        same : get_or (set cells at b) at 0 ≡ b → low (set cells at b) at ≡ Some b
        same f = grind (arith, nat_tests)

    there : x ≢ at → low (set cells at b) x ≡ put (low cells) at b x
    there ne = other (cases_lt x 64) ∙ sym (put_other (low cells) at b x ne)
      where
        other : (x < 64) ⊎ (64 ≤ x) → low (set cells at b) x ≡ low cells x
        other (inl near) = let g = get_or-set_other cells at x b 0 ne in grind (arith, nat_tests)
        other (inr far) = grind (arith, nat_tests)

pub returns-then-at-lt64-clause-after : goal.returns-then-at-lt64-clause-after
returns-then-at-lt64-clause-after c = λ i x. low_set c.args.self.now.cells c.args.at c.args.b (search rules) c.if-at-lt64.true x i
