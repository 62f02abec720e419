-- The list before a function's code leads from a good entry to a core with the block filled, and is quiet on its way.
use Rattle.std.proofs.Common.{◌≡◌, ◌≢◌, ℕ, ◌+◌, ◌-◌, ◌*◌, ◌^◌, ◌<◌, ◌≤◌, ◌⊎◌, inl, inr, Bool, true, false, pos, if◌then◌else◌, ◌==◌, List, [], ◌∷◌, ◌++◌, length, Some, refl, sym, ap, ◌∙◌, subst, arith}
use Rattle.std.proofs.lemmas.Bool.{eqb-true}
use Rattle.orc_bits.specs.Memory.{Memory, word, IsMapped}
use Rattle.orc_program.specs.Program.{FunctionValue}
use Rattle.x86_ins.specs.declared.ins.AluOp.TheVariants.{Sub}
use Rattle.x86_ins.specs.declared.ins.Ins.{Ins}
use Rattle.x86_ins.specs.declared.ins.Ins.TheVariants.{AluImm}
use Rattle.x86_ins.specs.Machine.{Core, Point, Bounded, Touches, span, address}
use Rattle.x86_ins.specs.Spelling.{IsIns, IsAllowed}
use Rattle.x86_ins.specs.Way.{Placed, Way, Moment, Each}
use Rattle.x86_flow.specs.Flow.{Plain, spell_all, size}
use Rattle.x86_flow.specs.Does.{Line}
use Rattle.x86_flow.specs.Moves.{away}
use Rattle.x86_flow.specs.Touching.{base_of}
use Rattle.x86_flow.proofs.Flow.{Leads, flow_leads, listed_length}
use Rattle.x86_flow.proofs.Returning.{each_map}
use Rattle.x86_flow.proofs.Touching.{touches_none, touches_in}
use Rattle.x86_flow.proofs.Ways.{HasAt, has_all}
use Rattle.x86_flow.proofs.Words.{at_away}
use Rattle.orc_frame.specs.Parts.{Between}
use Rattle.orc_frame.specs.Function.{subject_of}
use Rattle.orc_frame.proofs.Writes.{line_bounded}
use Rattle.orc_region.specs.Stores.{TouchesCell, StoresFirst}
use Rattle.orc_asm.specs.RunsAs.{Saved}
use Rattle.orc_prototype.specs.declared.arguments.Class.TheVariants as class
use Rattle.orc_prototype.specs.declared.arguments.Shape.{Shape}
use Rattle.orc_prototype.specs.Arguments.{IsSmall, shape_of, sum_argument, elements_argument, rows_argument, argument_count}
use Rattle.orc_entry.specs.declared.sources.Source.TheVariants as source
use Rattle.orc_entry.specs.Arguments.{in_registers, argument, call_by, taken}
use Rattle.orc_entry.specs.Code.{entry_code, fills_of, stack_size, block_at, pointer_at}
use Rattle.orc_entry.specs.Entry.{GoodEntry, QuietAt}
use Rattle.orc_entry.proofs.Fills.{AllFilled, Near}
use Rattle.orc_entry.proofs.Entering.{begin, begin_low, stack, Entered, entry_line}
use Rattle.orc_entry.proofs.Ascending.{fills_ascend}
use Rattle.orc_entry.proofs.Known.{AllKnown, fills_known, count_few}
use Rattle.orc_entry.proofs.Listed.{IsTouched, IsListed, entry_listed, listed_allowed, entry_length}
use Rattle.orc_entry.proofs.Holding.{holding}
use Rattle.orc_entry.proofs.Ready.{ready}

-- the instructions of the list before a function's code, at most
abbrev pub first_steps : Shape → ℕ
first_steps s = 18 + 6 * (s.dests + s.sources) + 4 * s.params + 2 * s.sums

-- the bytes that the list fills: those above the body's frame
abbrev pub InEntry : ℕ → ℕ → Type 0
InEntry rsp = Between (rsp - stack_size) rsp

-- what the list before the code has done, and what holds on the way
pub record Led (f : FunctionValue) (longs : List Bool) (code : Placed) (s : Point) (arg : ℕ → ℕ) (d : Core) : Type 0 where
  pub way : List Moment
  pub runs : Way code s way (record { core = d; rip = s.rip + size (entry_code f longs) })
  pub short : length way ≤ first_steps (shape_of f)
  -- at each step: RSP is not above its start, only the entry's own bytes have changed, and no cell is touched
  pub below : Each (λ m. m.point.core.gpr 4 ≤ s.core.gpr 4) way
  pub quiet : Each (λ m. QuietAt f longs s arg m.point) way
  pub untouched : Each (λ m. TouchesCell (subject_of f) (call_by f longs arg) m → ⊥) way
  pub unstored : Each (λ m. StoresFirst (subject_of f) (call_by f longs arg) m → ⊥) way
  -- at the end
  pub stack : d.gpr 4 + stack_size ≡ s.core.gpr 4
  pub block : d.gpr 7 ≡ d.gpr 4 + block_at
  pub words : AllFilled (d.gpr 4) arg d.memory (fills_of f longs)
  pub sums : (g : ℕ) → g < (shape_of f).sums → word d.memory (d.gpr 4 + pointer_at g) ≡ Some (arg (sum_argument (shape_of f) g))
  pub saved : Saved s.core d
  pub outside : (a : ℕ) → (InEntry (s.core.gpr 4) a → ⊥) → d.memory a ≡ s.core.memory a
  pub mapped : (a : ℕ) → InEntry (s.core.gpr 4) a → IsMapped d.memory a
  pub bounded : Bounded d

-- ---- what holds on the way

line_with : (Q : Core → Ins → Type 0) (P : Ins → Type 0) (is : List Ins) (c d : Core) → Each P is → Line Q is c d → Line (λ u i. Q u i × P i) is c d
line_with Q P [] c d h l = l
line_with Q P (i ∷ is) c d h l = ((l.0, h.0), (l.1.0, l.1.1, line_with Q P is l.1.0 d h.1 l.1.2))

-- a list at the first byte of code
from_start : (Q : Core → Ins → Type 0) (code : Placed) → code.start + length code.bytes ≤ 2 ^ 47 → (list : List Ins) (c d : Core) → HasAt code.bytes 0 list → Line Q list c d → Leads code Q c 0 list d (size list)
from_start Q code low list c d has line =
    let e : 0 + size list ≡ size list = omega arith in
    subst (λ n. Leads code Q c 0 list d n) e (flow_leads Q code low (Plain list) 0 (omega arith) has c list d (line, refl))

are_ins : (list : List Ins) → Each IsAllowed list → Each IsIns list
are_ins [] h = tt
are_ins (i ∷ list) h = (h.0.0, are_ins list h.1)

abbrev lowering : Ins
lowering = AluImm Sub 4 (pos stack_size)

-- c is the core at the entry
module _ (c : Core) where
  pub record Lower (u : Core) : Type 0 where
    pub stack : u.gpr 4 + stack_size ≡ c.gpr 4
    pub outside : (a : ℕ) → (InEntry (c.gpr 4) a → ⊥) → u.memory a ≡ c.memory a

  -- RSP is about to be lowered, or is
  abbrev pub OnList : Core → Ins → Type 0
  OnList u i = ((u ≡ c) × (i ≡ lowering)) ⊎ Lower u

  list_below : (u : Core) (i : Ins) → OnList u i → u.gpr 4 ≤ c.gpr 4
  list_below u i (inl h) = let e : u.gpr 4 ≡ c.gpr 4 = ap (λ (x : Core). x.gpr 4) h.0 in omega (arith, e)
  list_below u i (inr h) = omega (arith, h.stack)

  list_outside : (u : Core) (i : Ins) → OnList u i → (a : ℕ) → (InEntry (c.gpr 4) a → ⊥) → u.memory a ≡ c.memory a
  list_outside u i (inl h) a out = ap (λ (x : Core). x.memory a) h.0
  list_outside u i (inr h) a out = h.outside a out

  -- what is touched lies in the entry's own bytes, or behind the return word
  list_touches : (count : ℕ) (u : Core) (i : Ins) → count < 64 → c.gpr 4 < 2 ^ 60 → OnList u i → IsListed count i → (a : ℕ) → Touches i u a
      → InEntry (c.gpr 4) a ⊎ Between (c.gpr 4 + 8) (c.gpr 4 + 8 + 8 * (count - in_registers)) a
  list_touches count u i few low (inl h) is a t = absurd (touches_none lowering u refl a (subst (λ j. Touches j u a) h.1 t))
  list_touches count u i few low (inr h) is a t = go is.touches
    where
      go : ((v : Core) → (span i v).1 ≡ 0) ⊎ ((d : ℕ) × IsTouched count d × (base_of i ≡ Some 4) × ((v : Core) → span i v ≡ (address v (away 4 d), 8)))
          → InEntry (c.gpr 4) a ⊎ Between (c.gpr 4 + 8) (c.gpr 4 + 8 + 8 * (count - in_registers)) a
      go (inl none) = absurd (touches_none i u (none u) a t)
      go (inr x) = side x.1
        where
          d : ℕ
          d = x.0

          side : IsTouched count x.0 → InEntry (c.gpr 4) a ⊎ Between (c.gpr 4 + 8) (c.gpr 4 + 8 + 8 * (count - in_registers)) a
          side (inl l) =
              let at : address u (away 4 x.0) ≡ u.gpr 4 + x.0 = at_away u 4 (u.gpr 4) x.0 refl (omega (arith, h.stack, low, l)) in
              let in_it = touches_in 4 (u.gpr 4 + x.0) 8 i u (omega (arith, h.stack, low, l)) (inr (x.2, x.3 u ∙ ap (λ p. (p, 8)) at)) a t in
              inl (omega (arith, in_it.0, h.stack), omega (arith, in_it.1, h.stack, l))
          side (inr l) =
              let at : address u (away 4 x.0) ≡ u.gpr 4 + x.0 = at_away u 4 (u.gpr 4) x.0 refl (omega (arith, h.stack, low, l.1, few)) in
              let in_it = touches_in 4 (u.gpr 4 + x.0) 8 i u (omega (arith, h.stack, low, l.1, few)) (inr (x.2, x.3 u ∙ ap (λ p. (p, 8)) at)) a t in
              inr (omega (arith, in_it.0, h.stack, l.0), omega (arith, in_it.1, h.stack, l.1))

-- ---- from a good entry

module _ (f : FunctionValue) (longs : List Bool) (code : Placed) (s : Point) (arg : ℕ → ℕ) (cells : Memory) (back : ℕ) (small : IsSmall (shape_of f)) (good : GoodEntry f longs code s arg cells back) where
  abbrev shape : Shape
  shape = shape_of f

  abbrev count : ℕ
  count = argument_count shape

  abbrev c : Core
  c = s.core

  room : stack_size ≤ c.gpr 4
  room = omega (arith, good.stack_room)

  low : c.gpr 4 + 1024 < 2 ^ 61
  low = omega (arith, good.stack_low)

  few : count < 64
  few = count_few shape small

  -- a stated number is that of the call, which is small
  elements_small : shape.elements < 2 ^ 32
  elements_small = go (shape.elements == 0) refl good.arrays.elements
    where
      go : (b : Bool) → (shape.elements == 0) ≡ b → taken arg (if b then argument class.Count (elements_argument shape) else source.Number shape.elements) < 2 ^ 31 → shape.elements < 2 ^ 32
      go true e l = let z : shape.elements ≡ 0 = eqb-true shape.elements 0 e in omega (arith, z)
      go false e l = omega (arith, l)

  rows_small : shape.two_d ≡ true → shape.rows < 2 ^ 32
  rows_small two = go (shape.rows == 0) refl
      (subst (λ b. taken arg (if b then (if shape.rows == 0 then argument class.Count (rows_argument shape) else source.Number shape.rows) else source.Number 1) < 2 ^ 31) two (good.arrays.rows_few two))
    where
      go : (b : Bool) → (shape.rows == 0) ≡ b → taken arg (if b then argument class.Count (rows_argument shape) else source.Number shape.rows) < 2 ^ 31 → shape.rows < 2 ^ 32
      go true e l = let z : shape.rows ≡ 0 = eqb-true shape.rows 0 e in omega (arith, z)
      go false e l = omega (arith, l)

  known : AllKnown count (fills_of f longs)
  known = fills_known f longs small elements_small rows_small

  listed : Each (IsListed count) (entry_code f longs)
  listed = entry_listed count f longs (fills_ascend f longs small) known few

  calm : (u : Core) (i : Ins) → Near (OnList c) (begin c room low) (begin_low c room low) u → OnList c u i
  calm u i near = inr (record {
    stack = let e : u.gpr 4 ≡ c.gpr 4 - stack_size = near.others 4 (λ q. omega (arith, q)) (λ q. omega (arith, q)) ∙ stack c room low in omega (arith, e, room);
    outside = λ a out. near.outside a (λ i. out (omega (arith, i.0, stack c room low), omega (arith, i.1, stack c room low, room)));
  })

  -- the line, and what it leaves
  entered : (d : Core) × Line (OnList c) (entry_code f longs) c d × Entered c room low arg (fills_of f longs) d
  entered =
      entry_line c room low (OnList c) (inl (refl, refl)) calm (λ a i. good.own a (omega (arith, i.0, good.stack_room), i.1)) arg (fills_of f longs) (fills_ascend f longs small)
      (ready c room low (OnList c) calm count arg few good.bounded good.arguments (fills_of f longs) known)

  -- a cell is touched at no step
  apart : (a : ℕ) → (subject_of f).cells (call_by f longs arg) a → InEntry (c.gpr 4) a ⊎ Between (c.gpr 4 + 8) (c.gpr 4 + 8 + 8 * (count - in_registers)) a → ⊥
  apart a cell (inl i) = (good.apart.cells a cell).1 (omega (arith, i.0), i.1)
  apart a cell (inr i) = (good.apart.cells a cell).3 i

  -- the list stands in the code, and leads from its first byte to its end
  abbrev Kept : Core → Ins → Type 0
  Kept u i = OnList c u i × IsListed count i

  leads : (post : List ℕ) → code.bytes ≡ spell_all (entry_code f longs) ++ post → Leads code Kept c 0 (entry_code f longs) entered.0 (size (entry_code f longs))
  leads post is =
      let has : HasAt code.bytes 0 (entry_code f longs) = subst (λ b. HasAt b 0 (entry_code f longs)) (sym is) (has_all (entry_code f longs) [] post (listed_allowed count (entry_code f longs) listed)) in
      let line : Line Kept (entry_code f longs) c entered.0 = line_with (OnList c) (IsListed count) (entry_code f longs) c entered.0 listed entered.1 in
      from_start Kept code good.code_low (entry_code f longs) c entered.0 has line

  led : Leads code Kept c 0 (entry_code f longs) entered.0 (size (entry_code f longs)) → Led f longs code s arg entered.0
  led x =
      let d : Core = entered.0 in
      let e : Entered c room low arg (fills_of f longs) d = entered.2 in
      let rsp : c.gpr 4 - stack_size ≡ d.gpr 4 = omega (arith, e.stack) in
      let words : AllFilled (d.gpr 4) arg d.memory (fills_of f longs) = subst (λ r. AllFilled r arg d.memory (fills_of f longs)) rsp e.words in
      let from : code.start + 0 ≡ s.rip = omega (arith, good.first) in
      let kept : (r : ℕ) → (2 < r) → (r ≢ 4) → (r ≢ 7) → (r ≢ 11) → d.gpr r ≡ c.gpr r = λ r l m n o. e.others r (λ q. omega (arith, q, l)) m n o in
      record {
        way = x.way;
        runs = subst (λ r. Way code (record { core = c; rip = r }) x.way (record { core = d; rip = s.rip + size (entry_code f longs) })) from
            (subst (λ r. Way code (record { core = c; rip = code.start + 0 }) x.way (record { core = d; rip = r + size (entry_code f longs) })) (sym good.first) x.runs);
        short = omega (arith, listed_length x.way, ap length x.list, entry_length f longs);
        below = each_map (λ m. Kept m.point.core m.ins) (λ m. m.point.core.gpr 4 ≤ c.gpr 4) (λ m h. list_below c m.point.core m.ins h.0) x.way x.each;
        quiet = each_map (λ m. Kept m.point.core m.ins) (λ m. QuietAt f longs s arg m.point) (λ m h a nd ns no. list_outside c m.point.core m.ins h.0 a (λ i. no (omega (arith, i.0), i.1))) x.way x.each;
        untouched = each_map (λ m. Kept m.point.core m.ins) (λ m. TouchesCell (subject_of f) (call_by f longs arg) m → ⊥) (λ m h t. apart t.0 t.1 (list_touches c count m.point.core m.ins few (omega (arith, good.stack_low)) h.0 h.1 t.0 t.2)) x.way x.each;
        unstored = each_map (λ m. Kept m.point.core m.ins) (λ m. StoresFirst (subject_of f) (call_by f longs arg) m → ⊥) (λ m h t. h.1.plain t.0) x.way x.each;
        stack = e.stack;
        block = e.block;
        words = words;
        sums = (holding f longs (d.gpr 4) arg d.memory words).sums;
        saved = record {
          rbx = kept 3 (omega arith) (λ q. omega (arith, q)) (λ q. omega (arith, q)) (λ q. omega (arith, q));
          rbp = kept 5 (omega arith) (λ q. omega (arith, q)) (λ q. omega (arith, q)) (λ q. omega (arith, q));
          r12 = kept 12 (omega arith) (λ q. omega (arith, q)) (λ q. omega (arith, q)) (λ q. omega (arith, q));
          r13 = kept 13 (omega arith) (λ q. omega (arith, q)) (λ q. omega (arith, q)) (λ q. omega (arith, q));
          r14 = kept 14 (omega arith) (λ q. omega (arith, q)) (λ q. omega (arith, q)) (λ q. omega (arith, q));
          r15 = kept 15 (omega arith) (λ q. omega (arith, q)) (λ q. omega (arith, q)) (λ q. omega (arith, q));
        };
        outside = e.outside;
        mapped = e.mapped;
        bounded = line_bounded (OnList c) (entry_code f longs) c d (are_ins (entry_code f longs) (listed_allowed count (entry_code f longs) listed)) good.bounded entered.1;
      }

  pub front : (post : List ℕ) → code.bytes ≡ spell_all (entry_code f longs) ++ post → (d : Core) × Led f longs code s arg d
  front post is = (entered.0, led (leads post is))
