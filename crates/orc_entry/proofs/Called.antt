-- A good entry makes a good call of the function's code behind the list, in the memory of cells, block and frame.
use Rattle.std.proofs.Common.{◌≡◌, ℕ, ◌+◌, ◌-◌, ◌%◌, ◌^◌, ◌≤◌, ◌<◌, ◌⊎◌, inl, inr, ⊎_elim, Bool, true, false, ◌&&◌, nat_le, nat_lt, if◌then◌else◌, List, ◌++◌, length, Some, None, is_some, refl, sym, ap, ◌∙◌, subst, arith, length-append, true≢false}
use Rattle.std.proofs.lemmas.Bool.{cases_lt}
use Rattle.std.proofs.lemmas.Bool.Decides.{nat_tests}
use Rattle.orc_bits.specs.Memory.{Memory, IsMapped, word}
use Rattle.orc_bits.proofs.Memories.{value_there}
use Rattle.orc_program.specs.Program.{FunctionValue}
use Rattle.x86_ins.specs.Machine.{Core, Point}
use Rattle.x86_ins.specs.Way.{Placed}
use Rattle.x86_flow.specs.Flow.{spell_all, size}
use Rattle.x86_flow.proofs.Frame.{word_same}
use Rattle.orc_frame.specs.Layout.{frame_size}
use Rattle.orc_frame.specs.Parts.{Between, InFrame, InReturn, InBlock, InCode, block_size, elements_word, rows_word, base_word, stride_word, param_word}
use Rattle.orc_frame.specs.Subject.{Call, IsArray}
use Rattle.orc_frame.specs.Function.{subject_of}
use Rattle.orc_frame.specs.GoodCall.{GoodCall, ReadsCall, Disjoint, lowered}
use Rattle.orc_asm.specs.RunsAs.{Within}
use Rattle.orc_asm.specs.Passing.{StandsAt}
use Rattle.orc_prototype.specs.Arguments.{IsSmall, shape_of}
use Rattle.orc_entry.specs.Arguments.{call_by}
use Rattle.orc_entry.specs.Code.{entry_code, block_at}
use Rattle.orc_entry.specs.Entry.{GoodEntry, InOwn}
use Rattle.orc_entry.proofs.Front.{Led}
use Rattle.orc_entry.proofs.Holding.{Holding, holding}

-- ---- the memory of the body's call

-- from the frame of the body to the end of the block, where RSP is this at the body's first byte
abbrev pub InBody : ℕ → ℕ → Type 0
InBody rsp = Between (rsp - frame_size) (rsp + (block_at + block_size))

abbrev pub in_body : ℕ → ℕ → Bool
in_body rsp a = nat_le (rsp - frame_size) a && nat_lt a (rsp + (block_at + block_size))

-- the cells, and those bytes
abbrev pub small_of : Memory → Core → Memory
small_of cells d = λ a. if is_some (cells a) then cells a else if in_body (d.gpr 4) a then d.memory a else None

body_yes : (rsp a : ℕ) → InBody rsp a → in_body rsp a ≡ true
body_yes rsp a i = grind (arith, nat_tests)

body_no : (rsp a : ℕ) → (InBody rsp a → ⊥) → in_body rsp a ≡ false
body_no rsp a out = grind (arith, nat_tests)

body_in : (rsp a : ℕ) → in_body rsp a ≡ true → InBody rsp a
body_in rsp a e = grind (arith, nat_tests)

not_mapped : (b : Bool) → (b ≡ true → ⊥) → b ≡ false
not_mapped true h = absurd (h refl)
not_mapped false h = refl

pub small_cell : (cells : Memory) (d : Core) (a : ℕ) → IsMapped cells a → small_of cells d a ≡ cells a
small_cell cells d a m = ap (λ b. if b then cells a else if in_body (d.gpr 4) a then d.memory a else None) m

pub small_in : (cells : Memory) (d : Core) (a : ℕ) → (IsMapped cells a → ⊥) → InBody (d.gpr 4) a → small_of cells d a ≡ d.memory a
small_in cells d a out i =
    ap (λ b. if b then cells a else if in_body (d.gpr 4) a then d.memory a else None) (not_mapped (is_some (cells a)) out) ∙ ap (λ b. if b then d.memory a else None) (body_yes (d.gpr 4) a i)

pub small_out : (cells : Memory) (d : Core) (a : ℕ) → (IsMapped cells a → ⊥) → (InBody (d.gpr 4) a → ⊥) → small_of cells d a ≡ None
small_out cells d a out o =
    ap (λ b. if b then cells a else if in_body (d.gpr 4) a then d.memory a else None) (not_mapped (is_some (cells a)) out) ∙ ap (λ b. if b then d.memory a else None) (body_no (d.gpr 4) a o)

-- a byte that it has is one of a cell, or of those
pub small_cases : (cells : Memory) (d : Core) (a : ℕ) → IsMapped (small_of cells d) a → IsMapped cells a ⊎ ((IsMapped cells a → ⊥) × InBody (d.gpr 4) a)
small_cases cells d a m = go (is_some (cells a)) (in_body (d.gpr 4) a) refl refl
  where
    go : (b i : Bool) → is_some (cells a) ≡ b → in_body (d.gpr 4) a ≡ i → IsMapped cells a ⊎ ((IsMapped cells a → ⊥) × InBody (d.gpr 4) a)
    go true i e h = inl e
    go false true e h = inr (λ t. true≢false (sym t ∙ e), body_in (d.gpr 4) a h)
    go false false e h = absurd (true≢false (sym m ∙ ap is_some (small_out cells d a (λ t. true≢false (sym t ∙ e)) (λ i. true≢false (sym (body_yes (d.gpr 4) a i) ∙ h)))))

-- ---- the body's call

module _ (f : FunctionValue) (longs : List Bool) (code : Placed) (s : Point) (arg : ℕ → ℕ) (cells : Memory) (back : ℕ) (few : IsSmall (shape_of f)) (good : GoodEntry f longs code s arg cells back) (d : Core) (led : Led f longs code s arg d) where
  -- the body's first byte
  abbrev pub behind : ℕ
  behind = s.rip + size (entry_code f longs)

  abbrev call : Call
  call = call_by f longs arg

  abbrev small : Memory
  small = small_of cells d

  -- those bytes are the code's own, in which no cell lies
  own : (a : ℕ) → InBody (d.gpr 4) a → InOwn (s.core.gpr 4) a
  own a i = (omega (arith, i.0, led.stack), omega (arith, i.1, led.stack))

  apart : (a : ℕ) → InBody (d.gpr 4) a → IsMapped cells a → ⊥
  apart a i m = (good.apart.cells a (good.only a m)).1 (own a i)

  -- the byte of a cell is as at the start
  cell_same : (a : ℕ) → IsMapped cells a → d.memory a ≡ s.core.memory a
  cell_same a m = led.outside a (λ i. (good.apart.cells a (good.only a m)).1 (omega (arith, i.0), i.1))

  pub small_within : Within small d.memory
  small_within a v e = ⊎_elim
      (λ m. cell_same a m ∙ good.within a v (sym (small_cell cells d a m) ∙ e))
      (λ o. sym (small_in cells d a o.0 o.1) ∙ e)
      (small_cases cells d a (ap is_some e))

  here : (a : ℕ) → InBody (d.gpr 4) a → small a ≡ d.memory a
  here a i = small_in cells d a (apart a i) i

  body_mapped : (a : ℕ) → InBody (d.gpr 4) a → IsMapped small a
  body_mapped a i = subst (λ o. is_some o ≡ true) (sym (here a i)) (⊎_elim low high (cases_lt a (d.gpr 4)))
    where
      low : a < d.gpr 4 → IsMapped d.memory a
      low l = subst (λ o. is_some o ≡ true) (sym (led.outside a (λ j. omega (arith, j.0, l, led.stack)))) (good.own a (own a i))

      high : d.gpr 4 ≤ a → IsMapped d.memory a
      high l = led.mapped a (omega (arith, l, led.stack), omega (arith, i.1, led.stack))

  -- the words of the block
  abbrev filled : Holding f longs (d.gpr 4) arg d.memory
  filled = holding f longs (d.gpr 4) arg d.memory led.words

  read : (at v : ℕ) → at + 8 ≤ block_size → word d.memory (d.gpr 4 + (block_at + at)) ≡ Some v → word small (d.gpr 7 + at) ≡ Some v
  read at v l e =
      let a = d.gpr 4 + (block_at + at) in
      let to : d.gpr 7 + at ≡ a = omega (arith, led.block) in
      ap (λ x. word small x) to ∙ word_same small d.memory a (omega (arith, led.stack, good.stack_low, l)) (λ x g h. here x (omega (arith, g), omega (arith, h, l))) ∙ e

  slot_low : (k : ℕ) → IsArray (subject_of f) k → k < 12
  slot_low k (inl l) = omega (arith, l, few.dests)
  slot_low k (inr l) = omega (arith, l.1, few.sources)

  reads : ReadsCall (subject_of f) (record d { memory = small }) call
  reads = record {
    n = ap (λ x. word small x) (let e : d.gpr 7 ≡ d.gpr 7 + elements_word = omega arith in e) ∙ read elements_word call.n (omega arith) filled.n;
    m = read rows_word call.m (omega arith) filled.m;
    bases = λ k is. read (base_word k) (call.base k) (omega (arith, slot_low k is)) (filled.bases k is);
    strides = λ k is. read (stride_word k) (call.stride k) (omega (arith, slot_low k is)) (filled.strides k is);
    params = λ j l. read (param_word j) (call.param j) (omega (arith, l, few.params)) (filled.params j l);
  }

  pub stands : (body post : List ℕ) → code.bytes ≡ spell_all (entry_code f longs) ++ (body ++ post) → StandsAt body code (record { core = d; rip = behind })
  stands body post is = record { before = spell_all (entry_code f longs); after = post; is = is; here = ap (λ r. r + size (entry_code f longs)) good.first; low = good.code_low }

  -- the body's bytes are among the code's
  inside : (body post : List ℕ) → code.bytes ≡ spell_all (entry_code f longs) ++ (body ++ post) → behind + length body ≤ code.start + length code.bytes
  inside body post is = omega (arith, good.first, ap length is, length-append (spell_all (entry_code f longs)) (body ++ post), length-append body post)

  module _ (body post : List ℕ) (is : code.bytes ≡ spell_all (entry_code f longs) ++ (body ++ post)) where
    abbrev placed : Placed
    placed = record { bytes = body; start = behind }

    in_code : (a : ℕ) → InCode placed a → InCode code a
    in_code a i = (omega (arith, i.0, good.first), omega (arith, i.1, inside body post is))

    block_in : (a : ℕ) → InBlock (d.gpr 7) a → InBody (d.gpr 4) a
    block_in a i = (omega (arith, i.0, led.block), omega (arith, i.1, led.block))

    return_in : (a : ℕ) → InReturn (d.gpr 4) a → InBody (d.gpr 4) a
    return_in a i = (omega (arith, i.0), omega (arith, i.1))

    frame_in : (a : ℕ) → InFrame (lowered d) a → InBody (d.gpr 4) a
    frame_in a i = (i.0, omega (arith, i.1, led.stack, good.stack_room))

    off_code : (a : ℕ) → InBody (d.gpr 4) a → InCode placed a → ⊥
    off_code a i c = good.apart.own a (own a i) (in_code a c)

    off_cells : (a : ℕ) → (subject_of f).cells call a → InBody (d.gpr 4) a → ⊥
    off_cells a c i = (good.apart.cells a c).1 (own a i)

    disjoint : Disjoint (subject_of f) placed (record d { memory = small }) call
    disjoint = record {
      cells = λ a c. (λ i. off_cells a c (block_in a i), λ i. off_cells a c (return_in a i), λ i. off_cells a c (frame_in a i), λ i. (good.apart.cells a c).4 (in_code a i));
      block = λ a i. (λ j. omega (arith, i.0, j.1, led.block), λ j. omega (arith, i.0, j.1, led.block, led.stack, good.stack_room), λ j. off_code a (block_in a i) j);
      return = λ a i j. off_code a (return_in a i) j;
      frame = λ a i j. off_code a (frame_in a i) j;
    }

    no_more : (a : ℕ) → IsMapped small a → (subject_of f).cells call a ⊎ (InBlock (d.gpr 7) a ⊎ (InReturn (d.gpr 4) a ⊎ InFrame (lowered d) a))
    no_more a m = ⊎_elim (λ c. inl (good.only a c)) (λ o. inr (part o.1)) (small_cases cells d a m)
      where
        part : InBody (d.gpr 4) a → InBlock (d.gpr 7) a ⊎ (InReturn (d.gpr 4) a ⊎ InFrame (lowered d) a)
        part i = ⊎_elim
            (λ l. inr (inr (i.0, omega (arith, l, led.stack, good.stack_room))))
            (λ l. ⊎_elim (λ k. inr (inl (l, k))) (λ k. inl (omega (arith, k, led.block), omega (arith, i.1, led.block))) (cases_lt a (d.gpr 4 + 8)))
            (cases_lt a (d.gpr 4))

    -- the word at RSP, whatever it is
    any : (v : ℕ) × (word small (d.gpr 4) ≡ Some v)
    any = value_there 8 small (d.gpr 4) (λ j l.
        let e : (d.gpr 4 + j) % 2 ^ 64 ≡ d.gpr 4 + j = omega (arith, l, led.stack, good.stack_low) in
        body_mapped ((d.gpr 4 + j) % 2 ^ 64) (omega (arith, e), omega (arith, e, l)))

    good_call : GoodCall (subject_of f) placed (record { core = record d { memory = small }; rip = behind }) call any.0
    good_call = record {
      first = refl;
      reads = reads;
      returns = any.1;
      arrays = record {
        elements = good.arrays.elements;
        rows_few = good.arrays.rows_few;
        low = good.arrays.low;
        apart = good.arrays.apart;
        mapped = λ p r i j is. let m = good.arrays.mapped p r i j is in subst (λ o. is_some o ≡ true) (sym (small_cell cells d _ m)) m;
      };
      facts = good.facts;
      block = λ a i. body_mapped a (block_in a i);
      return = λ a i. body_mapped a (return_in a i);
      frame = λ a i. body_mapped a (frame_in a i);
      no_more = no_more;
      disjoint = disjoint;
      block_low = omega (arith, led.block, led.stack, good.stack_low);
      return_low = omega (arith, led.stack, good.stack_low);
      frame_room = omega (arith, led.stack, good.stack_room);
      code_low = omega (arith, inside body post is, good.code_low);
      bounded = record { gpr = led.bounded.gpr; xmm = led.bounded.xmm; size = led.bounded.size; memory = λ a v e. led.bounded.memory a v (small_within a v e) };
    }

  pub good_body : (body post : List ℕ) → code.bytes ≡ spell_all (entry_code f longs) ++ (body ++ post)
      → (any : ℕ) × GoodCall (subject_of f) (record { bytes = body; start = behind }) (record { core = record d { memory = small_of cells d }; rip = behind }) (call_by f longs arg) any
  good_body body post is = ((any body post is).0, good_call body post is)
