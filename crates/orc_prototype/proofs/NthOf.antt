-- The variable of a number among those of a kind.
use Rattle.std.proofs.Common.{◌≡◌, ℕ, suc, ◌-◌, ◌<◌, true, false, cond, List, ◌∷◌, get_or, ap, ◌∙◌, arith}
use Rattle.std.specs.List.{filter}
use Rattle.orc_program.specs.declared.program.Var.{Var}
use Rattle.orc_program.specs.declared.program.VarKind.{VarKind}
use Rattle.orc_program.specs.Program.{is_of, same_kind, no_var}
use Rattle.orc_prototype.specs.Header.{nth_of}

pub of_skip : (k : VarKind) (v : Var) (vars : List Var) (n : ℕ) → same_kind k v.kind ≡ false → nth_of k (v ∷ vars) n ≡ nth_of k vars n
of_skip k v vars n e =
    let rest = filter (is_of k) vars in
    ap (λ b. get_or (cond b (v ∷ rest) rest) n no_var) e

pub of_here : (k : VarKind) (v : Var) (vars : List Var) → same_kind k v.kind ≡ true → nth_of k (v ∷ vars) 0 ≡ v
of_here k v vars e =
    let rest = filter (is_of k) vars in
    ap (λ b. get_or (cond b (v ∷ rest) rest) 0 no_var) e

pub of_next : (k : VarKind) (v : Var) (vars : List Var) (n : ℕ) → same_kind k v.kind ≡ true → 0 < n → nth_of k (v ∷ vars) n ≡ nth_of k vars (n - 1)
of_next k v vars n e some =
    let rest = filter (is_of k) vars in
    ap (λ b. get_or (cond b (v ∷ rest) rest) n no_var) e ∙ ap (λ m. get_or (v ∷ rest) m no_var) (let z : n ≡ suc (n - 1) = omega (arith, some) in z)
