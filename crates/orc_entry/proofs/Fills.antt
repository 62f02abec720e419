-- A word of the function's own bytes is filled with an argument or a number.
use Rattle.std.proofs.Common.{◌≡◌, ◌≢◌, ℕ, zero, suc, ◌+◌, ◌-◌, ◌*◌, ◌%◌, ◌^◌, ◌<◌, ◌≤◌, ◌⊎◌, Bool, true, false, nat_lt, if◌then◌else◌, pos, List, [], ◌∷◌, Some, None, Ok, refl, sym, ap, ◌∙◌, subst, arith, inl, inr, ⊎_elim}
use Rattle.orc_bits.specs.Numbers.{wrap}
use Rattle.orc_bits.specs.Lanes.{byte_of}
use Rattle.orc_bits.specs.Memory.{Memory, word, fill, IsMapped}
use Rattle.orc_bits.proofs.Bits.{and_zero_r, and_ones_r}
use Rattle.orc_bits.proofs.LaneLaws.{change_other}
use Rattle.orc_bits.proofs.Memories.{some_one, fill_out, fill_mapped}
use Rattle.x86_ins.specs.declared.ins.AluOp.TheVariants.{Sub, And}
use Rattle.x86_ins.specs.declared.ins.ShiftOp.TheVariants.{Shl, Sar}
use Rattle.x86_ins.specs.declared.ins.Ins.{Ins}
use Rattle.x86_ins.specs.declared.ins.Ins.TheVariants.{Move, Load, Store, Shift}
use Rattle.x86_ins.specs.Vectors.{shl, shr, sar}
use Rattle.x86_ins.specs.Machine.{Core, with_gpr, with_flags, with_memory, work, alu_core, alu_result}
use Rattle.x86_flow.specs.Moves.{away}
use Rattle.x86_flow.specs.Does.{Line}
use Rattle.x86_flow.proofs.Moves.{line_append}
use Rattle.x86_flow.proofs.Words.{store_word, load_word}
use Rattle.x86_flow.proofs.Frame.{word_stored, word_same}
use Rattle.orc_prototype.specs.declared.arguments.Class.{Class}
use Rattle.orc_prototype.specs.declared.arguments.Class.TheVariants as class
use Rattle.orc_entry.specs.declared.sources.Source.{Source}
use Rattle.orc_entry.specs.declared.sources.Source.TheVariants as source
use Rattle.orc_prototype.specs.Arguments.{extended, counted, as_word}
use Rattle.orc_entry.specs.Arguments.{taken, in_registers, register_of, stack_word}
use Rattle.orc_entry.specs.Code.{fetch_code, class_code, source_code, fill_code, fills_code, Ascend, stack_size}

-- ---- what the shifts leave

pub shifted : (v : ℕ) → shl 64 v 32 ≡ v % 2 ^ 32 * 2 ^ 32
shifted v = omega arith

pub extended_is : (v : ℕ) → sar 64 (shl 64 v 32) 32 ≡ extended v
extended_is v = ap (λ a. sar 64 a 32) (shifted v) ∙ go (v % 2 ^ 32) (omega arith)
  where
    go : (x : ℕ) → x < 2 ^ 32 → sar 64 (x * 2 ^ 32) 32 ≡ (if nat_lt x (2 ^ 31) then x else x + (2 ^ 64 - 2 ^ 32))
    go x h = grind (arith)

-- one less than the sign: all ones where it is 0, and 0 where it is 1
pub mask : ℕ → ℕ
mask x = alu_result Sub (shr 64 (x * 2 ^ 32) 63) (wrap 64 (pos 1))

counted_go : (x : ℕ) → x < 2 ^ 32 → alu_result And (shr 64 (x * 2 ^ 32) 32) (alu_result Sub (shr 64 (x * 2 ^ 32) 63) (wrap 64 (pos 1))) ≡ (if nat_lt x (2 ^ 31) then x else 0)
counted_go x h = go (nat_lt x (2 ^ 31)) refl
  where
    low : shr 64 (x * 2 ^ 32) 32 ≡ x
    low = omega (arith, h)

    go : (b : Bool) → nat_lt x (2 ^ 31) ≡ b → alu_result And (shr 64 (x * 2 ^ 32) 32) (alu_result Sub (shr 64 (x * 2 ^ 32) 63) (wrap 64 (pos 1))) ≡ (if b then x else 0)
    go true e =
        let ones : alu_result Sub (shr 64 (x * 2 ^ 32) 63) (wrap 64 (pos 1)) ≡ 2 ^ 64 - 1 = grind (arith) in
        ap (λ m. alu_result And (shr 64 (x * 2 ^ 32) 32) m) ones ∙ ap (λ a. alu_result And a (2 ^ 64 - 1)) low ∙ and_ones_r 64 x (omega (arith, h))
    go false e =
        let none : alu_result Sub (shr 64 (x * 2 ^ 32) 63) (wrap 64 (pos 1)) ≡ 0 = grind (arith) in
        ap (λ m. alu_result And (shr 64 (x * 2 ^ 32) 32) m) none ∙ and_zero_r (shr 64 (x * 2 ^ 32) 32)

pub counted_is : (v : ℕ) → alu_result And (shr 64 (shl 64 v 32) 32) (alu_result Sub (shr 64 (shl 64 v 32) 63) (wrap 64 (pos 1))) ≡ counted v
counted_is v = ap (λ a. alu_result And (shr 64 a 32) (alu_result Sub (shr 64 a 63) (wrap 64 (pos 1)))) (shifted v) ∙ counted_go (v % 2 ^ 32) (omega arith)

extended_small : (v : ℕ) → extended v < 2 ^ 64
extended_small v = go (nat_lt (v % 2 ^ 32) (2 ^ 31))
  where
    go : (b : Bool) → (if b then v % 2 ^ 32 else v % 2 ^ 32 + (2 ^ 64 - 2 ^ 32)) < 2 ^ 64
    go true = omega arith
    go false = omega arith

counted_small : (v : ℕ) → counted v < 2 ^ 64
counted_small v = go (nat_lt (v % 2 ^ 32) (2 ^ 31))
  where
    go : (b : Bool) → (if b then v % 2 ^ 32 else 0) < 2 ^ 64
    go true = omega arith
    go false = omega arith

pub as_word_small : (c : Class) (v : ℕ) → v < 2 ^ 64 → as_word c v < 2 ^ 64
as_word_small class.Word v h = h
as_word_small class.Int v h = extended_small v
as_word_small class.Count v h = counted_small v

-- the words so far above RSP hold what they are filled with
abbrev pub AllFilled : ℕ → (ℕ → ℕ) → Memory → List (Source × ℕ) → Type 0
AllFilled rsp arg mem [] = Unit {0}
AllFilled rsp arg mem (x ∷ xs) = (word mem (rsp + x.1) ≡ Some (taken arg x.0)) × AllFilled rsp arg mem xs

-- ---- the instructions

-- s is the core with RSP lowered; Q is to hold of each step's core and instruction
module _ (Q : Core → Ins → Type 0) (s : Core) (low : s.gpr 4 + stack_size + 512 < 2 ^ 61) where
  abbrev pub rsp : ℕ
  rsp = s.gpr 4

  -- the bytes that are filled
  abbrev pub InFilled : ℕ → Type 0
  InFilled x = (rsp ≤ x) × (x < rsp + stack_size)

  -- a core on the way: no register changed but RAX and R11, and no byte but the filled ones
  pub record Near (c : Core) : Type 0 where
    pub others : (r : ℕ) → r ≢ 0 → r ≢ 11 → c.gpr r ≡ s.gpr r
    pub outside : (x : ℕ) → (InFilled x → ⊥) → c.memory x ≡ s.memory x
    pub mapped : (x : ℕ) → InFilled x → IsMapped c.memory x

  near_on : (c u : Core) → Near c → ((r : ℕ) → r ≢ 0 → r ≢ 11 → u.gpr r ≡ c.gpr r) → u.memory ≡ c.memory → Near u
  near_on c u h g m = record {
    others = λ r n k. g r n k ∙ h.others r n k;
    outside = λ x out. ap (λ f. f x) m ∙ h.outside x out;
    mapped = λ x i. subst (λ f. IsMapped f x) (sym m) (h.mapped x i);
  }

  module _ (calm : (u : Core) (i : Ins) → Near u → Q u i) where
    -- RAX holds v, and nothing else changed that was to stay
    pub record Holds (v : ℕ) (c d : Core) : Type 0 where
      pub near : Near d
      pub rax : d.gpr 0 ≡ v
      pub memory : d.memory ≡ c.memory

    class_line : (k : Class) (c : Core) → Near c → (d : Core) × Line Q (class_code k) c d × Holds (as_word k (c.gpr 0)) c d
    class_line class.Word c h = (c, refl, record { near = h; rax = refl; memory = refl })
    class_line class.Int c h =
        let u : Core = with_flags (with_gpr c 0 (shl 64 (c.gpr 0) 32)) None in
        let d : Core = with_flags (with_gpr u 0 (sar 64 (shl 64 (c.gpr 0) 32) 32)) None in
        let near_u : Near u = near_on c u h (λ r n k. change_other c.gpr 0 (shl 64 (c.gpr 0) 32) r n) refl in
        let near_d : Near d = near_on u d near_u (λ r n k. change_other u.gpr 0 (sar 64 (shl 64 (c.gpr 0) 32) 32) r n) refl in
        (d, (calm c (Shift Shl 0 32) h, (u, refl, (calm u (Shift Sar 0 32) near_u, (d, refl, refl)))), record { near = near_d; rax = extended_is (c.gpr 0); memory = refl })
    class_line class.Count c h =
        let a = shl 64 (c.gpr 0) 32 in
        let u1 : Core = with_flags (with_gpr c 0 a) None in
        let u2 : Core = with_gpr u1 11 a in
        let u3 : Core = with_flags (with_gpr u2 0 (shr 64 a 32)) None in
        let u4 : Core = with_flags (with_gpr u3 11 (shr 64 a 63)) None in
        let u5 : Core = alu_core Sub u4 11 (wrap 64 (pos 1)) in
        let d : Core = alu_core And u5 0 (u5.gpr 11) in
        let n1 : Near u1 = near_on c u1 h (λ r n k. change_other c.gpr 0 a r n) refl in
        let n2 : Near u2 = near_on u1 u2 n1 (λ r n k. change_other u1.gpr 11 a r k) refl in
        let n3 : Near u3 = near_on u2 u3 n2 (λ r n k. change_other u2.gpr 0 (shr 64 a 32) r n) refl in
        let n4 : Near u4 = near_on u3 u4 n3 (λ r n k. change_other u3.gpr 11 (shr 64 a 63) r k) refl in
        let n5 : Near u5 = near_on u4 u5 n4 (λ r n k. change_other u4.gpr 11 (alu_result Sub (u4.gpr 11) (wrap 64 (pos 1))) r k) refl in
        let n6 : Near d = near_on u5 d n5 (λ r n k. change_other u5.gpr 0 (alu_result And (u5.gpr 0) (u5.gpr 11)) r n) refl in (
          d,
          (calm c _ h, (u1, refl, (calm u1 _ n1, (u2, refl, (calm u2 _ n2, (u3, refl, (calm u3 _ n3, (u4, refl, (calm u4 _ n4, (u5, refl, (calm u5 _ n5, (d, refl, refl)))))))))))),
          record { near = n6; rax = counted_is (c.gpr 0); memory = refl },
        )

    -- the argument i is v, in its register or in its word behind the return word, which was at RSP before that was lowered
    abbrev pub IsThere : ℕ → ℕ → Type 0
    IsThere i v = (if nat_lt i in_registers then Some (s.gpr (register_of i)) else word s.memory (rsp + stack_size + stack_word i)) ≡ Some v

    register_not : (i r : ℕ) → (r ≡ 0) ⊎ (r ≡ 11) → register_of i ≢ r
    register_not zero r h e = grind (arith)
    register_not (suc zero) r h e = grind (arith)
    register_not (suc (suc zero)) r h e = grind (arith)
    register_not (suc (suc (suc zero))) r h e = grind (arith)
    register_not (suc (suc (suc (suc zero)))) r h e = grind (arith)
    register_not (suc (suc (suc (suc (suc i))))) r h e = grind (arith)

    fetch_line : (i v : ℕ) → i < 64 → IsThere i v → (c : Core) → Near c → (d : Core) × Line Q (fetch_code i) c d × Holds v c d
    fetch_line i v few there c h = go (nat_lt i in_registers) refl there
      where
        go : (b : Bool) → nat_lt i in_registers ≡ b → (if b then Some (s.gpr (register_of i)) else word s.memory (rsp + stack_size + stack_word i)) ≡ Some v
            → (d : Core) × Line Q (if b then Move 0 (register_of i) ∷ [] else Load 0 (away 4 (stack_size + stack_word i)) ∷ []) c d × Holds v c d
        go true e t =
            let x = c.gpr (register_of i) in
            let d : Core = with_gpr c 0 x in
            let is : x ≡ v = h.others (register_of i) (register_not i 0 (inl refl)) (register_not i 11 (inr refl)) ∙ some_one (s.gpr (register_of i)) v t in
            (d, (calm c _ h, (d, refl, refl)), record { near = near_on c d h (λ r n k. change_other c.gpr 0 x r n) refl; rax = is; memory = refl })
        go false e t =
            let a = rsp + stack_size + stack_word i in
            let d : Core = with_gpr c 0 v in
            let there_c : word c.memory (rsp + (stack_size + stack_word i)) ≡ Some v =
            ap (λ z. word c.memory z) (let q : rsp + (stack_size + stack_word i) ≡ a = omega arith in q) ∙ word_same c.memory s.memory a (omega (arith, low, few)) (λ x l u. h.outside x (λ w. omega (arith, w.1, l))) ∙ t in
            let loads : work (Load 0 (away 4 (stack_size + stack_word i))) c ≡ Ok d = load_word c 0 4 rsp (stack_size + stack_word i) v (h.others 4 (λ q. omega (arith, q)) (λ q. omega (arith, q))) (omega (arith, low, few)) there_c in
            (d, (calm c _ h, (d, loads, refl)), record { near = near_on c d h (λ r n k. change_other c.gpr 0 v r n) refl; rax = refl; memory = refl })

    -- where a word comes from is there
    abbrev pub IsReady : (ℕ → ℕ) → Source → Type 0
    IsReady arg (source.Argument k i) = (i < 64) × IsThere i (arg i) × (arg i < 2 ^ 64)
    IsReady arg (source.Number n) = n < 2 ^ 32

    source_line : (arg : ℕ → ℕ) (from : Source) → IsReady arg from → (c : Core) → Near c → (d : Core) × Line Q (source_code from) c d × Holds (taken arg from) c d
    source_line arg (source.Argument k i) ready c h =
        let x = fetch_line i (arg i) ready.0 ready.1 c h in
        let y = class_line k x.0 x.2.near in
        (y.0, line_append Q (fetch_code i) (class_code k) c x.0 y.0 x.1 y.1, record { near = y.2.near; rax = y.2.rax ∙ ap (as_word k) x.2.rax; memory = y.2.memory ∙ x.2.memory })
    source_line arg (source.Number n) ready c h =
        let d : Core = with_gpr c 0 n in
        (d, (calm c _ h, (d, refl, refl)), record { near = near_on c d h (λ r q k. change_other c.gpr 0 n r q) refl; rax = refl; memory = refl })

    taken_small : (arg : ℕ → ℕ) (from : Source) → IsReady arg from → taken arg from < 2 ^ 64
    taken_small arg (source.Argument k i) ready = as_word_small k (arg i) ready.2
    taken_small arg (source.Number n) ready = omega (arith, ready)

    -- the word so far above RSP is v, and no byte below it changed, nor one behind it
    pub record Filled (to v : ℕ) (c d : Core) : Type 0 where
      pub near : Near d
      pub word : word d.memory (rsp + to) ≡ Some v
      pub elsewhere : (x : ℕ) → (x < rsp + to) ⊎ (rsp + to + 8 ≤ x) → d.memory x ≡ c.memory x

    pub fill_line : (arg : ℕ → ℕ) (from : Source) (to : ℕ) → to + 8 ≤ stack_size → IsReady arg from → (c : Core) → Near c → (d : Core) × Line Q (fill_code from to) c d × Filled to (taken arg from) c d
    fill_line arg from to room ready c h =
        let x = source_line arg from ready c h in
        let u : Core = x.0 in
        let near = x.2.near in
        let v = taken arg from in
        let f = byte_of 8 (u.gpr 0) in
        let d : Core = with_memory u (fill 8 u.memory (rsp + to) f) in
        let stores : work (Store 0 (away 4 to)) u ≡ Ok d = store_word u 0 4 rsp to (near.others 4 (λ q. omega (arith, q)) (λ q. omega (arith, q))) (omega (arith, low, room)) (λ a l m. near.mapped a (omega (arith, l), omega (arith, m, room))) in
        let small : u.gpr 0 < 2 ^ 64 = subst (λ z. z < 2 ^ 64) (sym x.2.rax) (taken_small arg from ready) in
        let away_from : (a : ℕ) → (a < rsp + to) ⊎ (rsp + to + 8 ≤ a) → d.memory a ≡ u.memory a = λ a out. fill_out 8 u.memory (rsp + to) f a (omega (arith, low, room)) (λ j l q. ⊎_elim (λ z. omega (arith, z, q)) (λ z. omega (arith, z, q, l)) out) in (
          d,
          line_append Q (source_code from) (Store 0 (away 4 to) ∷ []) c u d x.1 (calm u _ near, (d, stores, refl)),
          record {
            near = record {
              others = near.others;
              outside = λ a out. fill_out 8 u.memory (rsp + to) f a (omega (arith, low, room)) (λ j l q. out (omega (arith, q), omega (arith, q, l, room))) ∙ near.outside a out;
              mapped = λ a i. fill_mapped 8 u.memory (rsp + to) f a (near.mapped a i);
            };
            word = word_stored u.memory (rsp + to) (u.gpr 0) (omega (arith, low, room)) small ∙ ap Some x.2.rax;
            elsewhere = λ a out. away_from a out ∙ ap (λ g. g a) x.2.memory;
          },
        )

    -- ---- words one after another

    abbrev pub AllReady : (ℕ → ℕ) → List (Source × ℕ) → Type 0
    AllReady arg [] = Unit {0}
    AllReady arg (x ∷ xs) = IsReady arg x.0 × AllReady arg xs

    pub record Filling (arg : ℕ → ℕ) (from : ℕ) (xs : List (Source × ℕ)) (c d : Core) : Type 0 where
      pub near : Near d
      pub words : AllFilled rsp arg d.memory xs
      pub below : (x : ℕ) → x < rsp + from → d.memory x ≡ c.memory x

    ascend_low : (from : ℕ) (xs : List (Source × ℕ)) → Ascend from xs → from ≤ stack_size
    ascend_low from [] h = h
    ascend_low from (x ∷ xs) h = omega (arith, h.0, ascend_low (x.1 + 8) xs h.1)

    pub fills_line : (arg : ℕ → ℕ) (from : ℕ) (xs : List (Source × ℕ)) → Ascend from xs → AllReady arg xs → (c : Core) → Near c → (d : Core) × Line Q (fills_code xs) c d × Filling arg from xs c d
    fills_line arg from [] up ready c h = (c, refl, record { near = h; words = tt; below = λ x l. refl })
    fills_line arg from (x ∷ xs) up ready c h =
        let room : x.1 + 8 ≤ stack_size = ascend_low (x.1 + 8) xs up.1 in
        let a = fill_line arg x.0 x.1 room ready.0 c h in
        let u : Core = a.0 in
        let b = fills_line arg (x.1 + 8) xs up.1 ready.1 u a.2.near in
        let d : Core = b.0 in
        let kept : word d.memory (rsp + x.1) ≡ word u.memory (rsp + x.1) = word_same d.memory u.memory (rsp + x.1) (omega (arith, low, room)) (λ y l m. b.2.below y (omega (arith, m))) in (
          d,
          line_append Q (fill_code x.0 x.1) (fills_code xs) c u d a.1 b.1,
          record {
            near = b.2.near;
            words = (kept ∙ a.2.word, b.2.words);
            below = λ y l. b.2.below y (omega (arith, l, up.0)) ∙ a.2.elsewhere y (inl (omega (arith, l, up.0)));
          },
        )
