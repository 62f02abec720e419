-- Structured code unmaps no byte.
use Rattle.std.proofs.Common.{ℕ, zero, suc, List, [], ◌∷◌, subst, inl, inr}
use Rattle.orc_bits.specs.Memory.{IsMapped}
use Rattle.x86_ins.specs.declared.ins.Ins.{Ins}
use Rattle.x86_ins.specs.declared.ins.Cond.{Cond}
use Rattle.x86_ins.specs.Machine.{Core}
use Rattle.x86_ins.proofs.Kept.{work_keeps}
use Rattle.x86_flow.specs.Flow.{Flow, Plain, Chain, Choice, Repeat, enter_jump, again_jump, flat, size}
use Rattle.x86_flow.specs.Does.{Line, Turns, Does}

module _ (Q : Core → Ins → Type 0) (a : ℕ) where
  abbrev Keeps : Core → Core → Type 0
  Keeps c d = IsMapped c.memory a → IsMapped d.memory a

  line_keeps : (is : List Ins) (c d : Core) → Line Q is c d → Keeps c d
  line_keeps [] c d h m = subst (λ x. IsMapped x.memory a) h m
  line_keeps (i ∷ is) c d h m = line_keeps is h.1.0 d h.1.2 (work_keeps a i c h.1.0 h.1.1 m)

  turns_keep : (q : Cond) (is : List Ins) (body : Core → List Ins → Core → Type 0) → ((c : Core) (k : List Ins) (d : Core) → body c k d → Keeps c d) → (i : Ins) (n : ℕ) (c : Core) (k : List Ins) (d : Core) → Turns Q q is body i n c k d → Keeps c d
  turns_keep q is body g i zero c k d h m = subst (λ x. IsMapped x.memory a) h.2 m
  turns_keep q is body g i (suc n) c k d h m = turns_keep q is body g (again_jump q (size is)) n h.2.2 h.2.1 d h.2.4 (g c h.2.0 h.2.2 h.2.3 m)

  pub does_keeps : (t : Flow) (c : Core) (k : List Ins) (d : Core) → Does Q t c k d → IsMapped c.memory a → IsMapped d.memory a
  does_keeps (Plain is) c k d h m = line_keeps is c d h.0 m
  does_keeps (Chain x y) c k d h m = does_keeps y h.2 h.1 d h.4 (does_keeps x c h.0 h.2 h.3 m)
  does_keeps (Choice q x y) c k d (inl h) m = does_keeps x c h.2.0 d h.2.1 m
  does_keeps (Choice q x y) c k d (inr h) m = does_keeps y c h.2.0 d h.2.1 m
  does_keeps (Repeat q body) c k d h m = turns_keep q (flat body) (Does Q body) (λ c k d x. does_keeps body c k d x) (enter_jump q (size (flat body))) h.0 c k d h.1 m
