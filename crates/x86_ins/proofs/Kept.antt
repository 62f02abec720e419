-- A step unmaps no byte.
use Rattle.std.proofs.Common.{◌≡◌, ℕ, ◌+◌, ◌%◌, ◌^◌, Bool, Option, Some, None, Result, Ok, Err, pos, List, [], ◌∷◌, get_or, refl, sym, ap, subst}
use Rattle.orc_bits.specs.Lanes.{from_bytes}
use Rattle.orc_bits.specs.Memory.{Memory, IsMapped, word}
use Rattle.orc_bits.proofs.Memories.{fill_mapped, store_fills}
use Rattle.x86_ins.specs.declared.ins.Ins.{Ins}
use Rattle.x86_ins.specs.declared.ins.Ins.TheVariants.{Vec, VecImm, Shuffle, VecLoad, VecStore, FromGpr, ToGpr, Move, Load, Store, Store8, Store16, Load8, Load16, MovImm, Alu, AluImm, Test, Shift, Imul, Lea, Push, Pop, Jump, JumpIf, Ret}
use Rattle.x86_ins.specs.declared.state.Trap.{Trap}
use Rattle.x86_ins.specs.Machine.{Core, Point, with_gpr, with_xmm, address, load, save, move_size, moved, below_stack, work, at, jump_if, return_to, test, effect}
use Rattle.x86_ins.specs.Way.{Placed, Moment, Way}
use Rattle.x86_ins.proofs.Bounds.{ok_err, ok_one, access_ok, aligned_ok}

module _ (a : ℕ) where
  abbrev Keeps : Core → Core → Type 0
  Keeps c d = IsMapped c.memory a → IsMapped d.memory a

  -- where the memory stays
  stays : (c u d : Core) → u.memory ≡ c.memory → u ≡ d → Keeps c d
  stays c u d m e h = subst (λ x. IsMapped x.memory a) e (subst (λ x. IsMapped x a) (sym m) h)

  loads : (n : ℕ) (c : Core) (from : ℕ) (go : ℕ → Core) (d : Core) → ((v : ℕ) → (go v).memory ≡ c.memory) → load n c from go ≡ Ok d → Keeps c d
  loads n c from go d m e = let x = access_ok n c.memory from _ go d e in stays c (go x.0) d (m x.0) x.2

  saves : (n : ℕ) (c : Core) (to : ℕ) (f : ℕ → ℕ) (go : Memory → Core) (d : Core) → ((mem : Memory) → (go mem).memory ≡ mem) → save n c to f go ≡ Ok d → Keeps c d
  saves n c to f go d m e h =
      let x = access_ok n c.memory to _ go d e in
      let there : IsMapped x.0 a = subst (λ y. IsMapped y a) (store_fills n c.memory to f x.0 x.1) (fill_mapped n c.memory to f a h) in
      subst (λ y. IsMapped y.memory a) x.2 (subst (λ y. IsMapped y a) (sym (m x.0)) there)

  pub work_keeps : (i : Ins) (c d : Core) → work i c ≡ Ok d → Keeps c d
  work_keeps (VecLoad op r p) c d e =
      let x = access_ok (move_size op) c.memory (address c p) _ _ d (aligned_ok op (address c p) _ d e) in
      stays c (with_xmm c r (from_bytes (λ j. get_or x.0 j 0))) d refl x.2
  work_keeps (VecStore op s p) c d e = saves (move_size op) c (address c p) _ _ d (λ mem. refl) (aligned_ok op (address c p) _ d e)
  work_keeps (Load r p) c d e = loads 8 c (address c p) _ d (λ v. refl) e
  work_keeps (Load8 r p) c d e = loads 1 c (address c p) _ d (λ v. refl) e
  work_keeps (Load16 r p) c d e = loads 2 c (address c p) _ d (λ v. refl) e
  work_keeps (Pop r) c d e = loads 8 c (c.gpr 4) _ d (λ v. refl) e
  work_keeps (Store s p) c d e = saves 8 c (address c p) _ _ d (λ mem. refl) e
  work_keeps (Store8 s p) c d e = saves 1 c (address c p) _ _ d (λ mem. refl) e
  work_keeps (Store16 s p) c d e = saves 2 c (address c p) _ _ d (λ mem. refl) e
  work_keeps (Push s) c d e = saves 8 c (below_stack c) _ _ d (λ mem. refl) e
  work_keeps (Jump rel) c d e = absurd (ok_err e)
  work_keeps (JumpIf q rel) c d e = absurd (ok_err e)
  work_keeps Ret c d e = absurd (ok_err e)
  work_keeps (Vec op r q) c d e = stays c _ d refl (ok_one _ d e)
  work_keeps (VecImm op r n) c d e = stays c _ d refl (ok_one _ d e)
  work_keeps (Shuffle op r q o) c d e = stays c _ d refl (ok_one _ d e)
  work_keeps (FromGpr wide r q) c d e = stays c _ d refl (ok_one _ d e)
  work_keeps (ToGpr wide r q) c d e = stays c _ d refl (ok_one _ d e)
  work_keeps (Move r q) c d e = stays c _ d refl (ok_one _ d e)
  work_keeps (MovImm r v) c d e = stays c _ d refl (ok_one _ d e)
  work_keeps (Alu op r q) c d e = stays c _ d refl (ok_one _ d e)
  work_keeps (AluImm op r v) c d e = stays c _ d refl (ok_one _ d e)
  work_keeps (Test x y) c d e = stays c _ d refl (ok_one _ d e)
  work_keeps (Shift op r n) c d e = stays c _ d refl (ok_one _ d e)
  work_keeps (Imul r q) c d e = stays c _ d refl (ok_one _ d e)
  work_keeps (Lea r p) c d e = stays c _ d refl (ok_one _ d e)

  abbrev okay : Point → Result Point Trap
  okay t = Ok t

  point_one : (t u : Point) → okay t ≡ Ok u → t ≡ u
  point_one t u h = ap (value_or t) h
    where
      value_or : Point → Result Point Trap → Point
      value_or d (Ok v) = v
      value_or d (Err e) = d

  abbrev Goes : Core → Point → Type 0
  Goes c t = IsMapped c.memory a → IsMapped t.core.memory a

  to_point : (c : Core) (p t : Point) → p.core.memory ≡ c.memory → okay p ≡ Ok t → Goes c t
  to_point c p t m e h = subst (λ x. IsMapped x.core.memory a) (point_one p t e) (subst (λ x. IsMapped x a) (sym m) h)

  plain : (i : Ins) (c : Core) (rip : ℕ) (t : Point) → at (work i c) rip ≡ Ok t → Goes c t
  plain i c rip t e h = go (work i c) refl e
    where
      go : (r : Result Core Trap) → work i c ≡ r → at r rip ≡ Ok t → IsMapped t.core.memory a
      go (Ok d) q k = subst (λ x. IsMapped x.core.memory a) (point_one (record { core = d; rip = rip }) t k) (work_keeps i c d q h)
      go (Err x) q k = absurd (ok_err k)

  effect_keeps : (i : Ins) (c : Core) (rip : ℕ) (t : Point) → effect i c rip ≡ Ok t → Goes c t
  effect_keeps (Jump rel) c rip t e = to_point c (record { core = c; rip = moved rip rel }) t refl e
  effect_keeps (JumpIf q rel) c rip t e = go (test q c.flags) e
    where
      go : (o : Option Bool) → jump_if o rel c rip ≡ Ok t → Goes c t
      go (Some taken) k = to_point c _ t refl k
      go None k = absurd (ok_err k)
  effect_keeps Ret c rip t e = go (word c.memory (c.gpr 4)) e
    where
      go : (o : Option ℕ) → return_to o c ≡ Ok t → Goes c t
      go (Some r) k = to_point c (record { core = with_gpr c 4 (moved (c.gpr 4) (pos 8)); rip = r }) t refl k
      go None k = absurd (ok_err k)
  effect_keeps (Vec op r q) c rip t e = plain (Vec op r q) c rip t e
  effect_keeps (VecImm op r n) c rip t e = plain (VecImm op r n) c rip t e
  effect_keeps (Shuffle op r q o) c rip t e = plain (Shuffle op r q o) c rip t e
  effect_keeps (VecLoad op r p) c rip t e = plain (VecLoad op r p) c rip t e
  effect_keeps (VecStore op s p) c rip t e = plain (VecStore op s p) c rip t e
  effect_keeps (FromGpr wide r q) c rip t e = plain (FromGpr wide r q) c rip t e
  effect_keeps (ToGpr wide r q) c rip t e = plain (ToGpr wide r q) c rip t e
  effect_keeps (Move r q) c rip t e = plain (Move r q) c rip t e
  effect_keeps (Load r p) c rip t e = plain (Load r p) c rip t e
  effect_keeps (Store s p) c rip t e = plain (Store s p) c rip t e
  effect_keeps (Store8 s p) c rip t e = plain (Store8 s p) c rip t e
  effect_keeps (Store16 s p) c rip t e = plain (Store16 s p) c rip t e
  effect_keeps (Load8 r p) c rip t e = plain (Load8 r p) c rip t e
  effect_keeps (Load16 r p) c rip t e = plain (Load16 r p) c rip t e
  effect_keeps (MovImm r v) c rip t e = plain (MovImm r v) c rip t e
  effect_keeps (Alu op r q) c rip t e = plain (Alu op r q) c rip t e
  effect_keeps (AluImm op r v) c rip t e = plain (AluImm op r v) c rip t e
  effect_keeps (Test x y) c rip t e = plain (Test x y) c rip t e
  effect_keeps (Shift op r n) c rip t e = plain (Shift op r n) c rip t e
  effect_keeps (Imul r q) c rip t e = plain (Imul r q) c rip t e
  effect_keeps (Lea r p) c rip t e = plain (Lea r p) c rip t e
  effect_keeps (Push s) c rip t e = plain (Push s) c rip t e
  effect_keeps (Pop r) c rip t e = plain (Pop r) c rip t e

  -- nor does a way
  pub way_keeps : (code : Placed) (s : Point) (way : List Moment) (t : Point) → Way code s way t → IsMapped s.core.memory a → IsMapped t.core.memory a
  way_keeps code s [] t w h = subst (λ x. IsMapped x.core.memory a) w h
  way_keeps code s (m ∷ ms) t w h = way_keeps code w.1 ms t w.3 (effect_keeps m.ins s.core ((s.rip + w.2.size) % 2 ^ 64) w.1 w.2.done h)
