-- What structured code does to registers and memory, with what holds at each instruction on the way.
use Rattle.std.specs.Prelude.{◌≡◌, ℕ, zero, suc, ◌+◌, ◌⊎◌, true, false, ℤ, pos, List, [], ◌∷◌, ◌++◌, Some, Ok}
use Rattle.x86_ins.specs.declared.ins.Ins.{Ins}
use Rattle.x86_ins.specs.declared.ins.Ins.TheVariants.{Jump, JumpIf}
use Rattle.x86_ins.specs.declared.ins.Cond.{Cond}
use Rattle.x86_ins.specs.Machine.{Core, work, test}
use Rattle.x86_flow.specs.Flow.{size, Flow, Plain, Chain, Choice, Repeat, enter_jump, again_jump, flat}

-- Q is what holds of the core before an instruction
module _ (Q : Core → Ins → Type 0) where
  -- instructions without jumps, one after another
  abbrev pub Line : List Ins → Core → Core → Type 0
  Line [] c d = c ≡ d
  Line (i ∷ is) c d = Q c i × ((u : Core) × (work i c ≡ Ok u) × Line is u d)

  -- a jump may be taken here
  abbrev pub AtJump : Core → Type 0
  AtJump c = ((q : Cond) (rel : ℤ) → Q c (JumpIf q rel)) × ((rel : ℤ) → Q c (Jump rel))

  -- so many turns of a loop around this code, from a test by this jump on
  abbrev pub Turns : Cond → List Ins → (Core → List Ins → Core → Type 0) → Ins → ℕ → Core → List Ins → Core → Type 0
  Turns q is body jump zero c done d = AtJump c × (test q c.flags ≡ Some false) × (c ≡ d) × (done ≡ jump ∷ [])
  Turns q is body jump (suc n) c done d =
      AtJump c × (test q c.flags ≡ Some true) × ((a : List Ins) × (b : List Ins) × (u : Core) × body c a u × Turns q is body (again_jump q (size is)) n u b d × (done ≡ jump ∷ (a ++ b)))

  -- the flow leads from one core to another by these instructions, and Q holds at each
  abbrev pub Does : Flow → Core → List Ins → Core → Type 0
  Does (Plain is) c done d = Line is c d × (done ≡ is)
  Does (Chain x y) c done d = (a : List Ins) × (b : List Ins) × (u : Core) × Does x c a u × Does y u b d × (done ≡ a ++ b)
  Does (Choice q one two) c done d =
      (AtJump c × (test q c.flags ≡ Some true) × ((a : List Ins) × Does one c a d × (done ≡ JumpIf q (pos (size (flat two) + 5)) ∷ a)))
      ⊎ (AtJump c × (test q c.flags ≡ Some false) × ((a : List Ins) × Does two c a d × AtJump d × (done ≡ JumpIf q (pos (size (flat two) + 5)) ∷ (a ++ Jump (pos (size (flat one))) ∷ []))))
  Does (Repeat q body) c done d = (n : ℕ) × Turns q (flat body) (Does body) (enter_jump q (size (flat body))) n c done d
