-- Code that keeps a promise in good calls keeps it in each call whose memory, cut down to the parts, makes a good call.
use Rattle.std.proofs.Common.{◌≡◌, ℕ, ◌+◌, ◌≤◌, List, [], ◌∷◌, Option, Some, None, refl, sym, ap, ◌∙◌, subst, inl, inr}
use Rattle.orc_bits.specs.Memory.{Memory}
use Rattle.orc_bits.proofs.Memories.{mapped_value}
use Rattle.x86_ins.specs.Machine.{Point}
use Rattle.x86_ins.specs.Way.{Placed, Moment, AtMost, Stop, IsOver}
use Rattle.x86_flow.proofs.Larger.{Beside, Alike, LargerWay, big, way_larger, value_larger, alike_length, alike_each, beside_touches}
use Rattle.orc_frame.specs.Parts.{sum_word}
use Rattle.orc_frame.specs.Subject.{Call, Subject, rows}
use Rattle.orc_asm.specs.RunsAs.{Within, Promise, RunsWith, RunsInsideWith, QuietAt, quiet, wide, stop}
use Rattle.orc_region.specs.Stores.{IsMovdquStore, TouchesCell, StoresFirst}

-- the promise carries over from a run in the smaller memory to the one beside it: it speaks of registers, of instructions, and of memory by what changed
abbrev pub Lifts : Promise → Type 0
Lifts P = (s : Point) (small : Memory) (call : Call) (way more : List Moment) (t end : Point) → Within small s.core.memory → Alike small s.core.memory way more → Beside small s.core.memory t end
    → P (big s small) small call way t → P s small call more end

pub same_register : (small large : Memory) (p q : Point) → Beside small large p q → (r : ℕ) → q.core.gpr r ≡ p.core.gpr r
same_register small large p q h r = ap (λ (x : Point). x.core.gpr r) h.same

over_forth : (small large : Memory) (p q : Point) (end : Stop) → Beside small large p q → IsOver end p → IsOver end q
over_forth small large p q end h o = (ap (λ (x : Point). x.rip) h.same ∙ o.0, same_register small large p q h 4 ∙ o.1)

over_back : (small large : Memory) (p q : Point) (end : Stop) → Beside small large p q → IsOver end q → IsOver end p
over_back small large p q end h o = (ap (λ (x : Point). x.rip) (sym h.same) ∙ o.0, sym (same_register small large p q h 4) ∙ o.1)

pub lift : (f : Subject) (bound : ℕ → ℕ → ℕ) (P : Promise) → Lifts P → (bytes : List ℕ) → RunsWith f bound P bytes → RunsInsideWith f bound P bytes
lift f bound P lifts bytes runs start s small call back within good =
    let code : Placed = record { bytes = bytes; start = start } in
    let large = s.core.memory in
    let x = runs start (big s small) call back good in
    let b : LargerWay small large code x.way x.t s = way_larger code (big s small) x.way x.t large within x.runs in
    let h = b.beside in
    let register : (r : ℕ) → b.end.core.gpr r ≡ x.t.core.gpr r = same_register small large x.t b.end h in
    record {
      end = x.end;
      means = x.means;
      way = b.more;
      t = b.end;
      runs = b.runs;
      short = subst (λ k. k ≤ bound call.n (rows f call)) (sym (alike_length small large x.way b.more b.alike)) x.short;
      over = over_forth small large x.t b.end (stop s back) h x.over;
      not_before = alike_each small large (λ m. IsOver (stop s back) m.point → ⊥) (λ m. IsOver (stop s back) m.point → ⊥) (λ m n near e out o. out (over_back small large m.point n.point (stop s back) near o)) x.way b.more b.alike x.not_before;
      same = λ a m nf ns. let v = mapped_value small a m in h.agree a (within a v.0 v.1 ∙ sym v.1) ∙ x.same a m nf ns;
      sums = λ g l. value_larger 8 x.t.core.memory b.end.core.memory (s.core.gpr 7 + sum_word g) (x.end.sums g) h.sub (x.sums g l);
      rest = h.rest;
      saved = record {
        rbx = register 3 ∙ x.saved.rbx;
        rbp = register 5 ∙ x.saved.rbp;
        r12 = register 12 ∙ x.saved.r12;
        r13 = register 13 ∙ x.saved.r13;
        r14 = register 14 ∙ x.saved.r14;
        r15 = register 15 ∙ x.saved.r15;
      };
      more = lifts s small call x.way b.more x.t b.end within b.alike h x.more;
    }

-- ---- promises that carry over

-- a byte that is as at the start in the smaller memory is so in the larger one
quiet_beside : (f : Subject) (s : Point) (small : Memory) (call : Call) → Within small s.core.memory → (p q : Point) → Beside small s.core.memory p q → QuietAt f (big s small) call p → QuietAt f s call q
quiet_beside f s small call within p q h quiet a nd ns nf = go (small a) refl
  where
    go : (o : Option ℕ) → small a ≡ o → q.core.memory a ≡ s.core.memory a
    go None e = h.rest a e
    go (Some v) e =
        let one : s.core.memory a ≡ small a = within a v e ∙ sym e in
        h.agree a one ∙ quiet a nd ns nf ∙ sym one

pub quiet_lifts : (f : Subject) → Lifts (quiet f)
quiet_lifts f s small call way more t end within alike beside h = (
  alike_each small s.core.memory (λ m. QuietAt f (big s small) call m.point) (λ m. QuietAt f s call m.point) (λ m n near e x. quiet_beside f s small call within m.point n.point near x) way more alike h.0,
  quiet_beside f s small call within t end beside h.1,
)

at_most_beside : (small large : Memory) (P : Moment → Type 0) → ((m n : Moment) → Beside small large m.point n.point → n.ins ≡ m.ins → P n → P m) → (k : ℕ) (ms ns : List Moment) → Alike small large ms ns → AtMost k P ms → AtMost k P ns
at_most_beside small large P f k [] [] a h = tt
at_most_beside small large P f k [] (n ∷ ns) a h = absurd a
at_most_beside small large P f k (m ∷ ms) [] a h = absurd a
at_most_beside small large P f k (m ∷ ms) (n ∷ ns) a (inl h) = inl (λ x. h.0 (f m n a.0 a.1 x), at_most_beside small large P f k ms ns a.2 h.1)
at_most_beside small large P f k (m ∷ ms) (n ∷ ns) a (inr h) = inr (h.0, h.1, at_most_beside small large P f h.0 ms ns a.2 h.2)

pub wide_lifts : (f : Subject) → Lifts (wide f)
wide_lifts f s small call way more t end within alike beside h = (
  at_most_beside small s.core.memory (TouchesCell f call) (λ m n near e x. (x.0, x.1, beside_touches small s.core.memory m.point n.point m.ins n.ins x.0 near e x.2)) _ way more alike h.0,
  λ aligned. alike_each small s.core.memory (λ m. StoresFirst f call m → ⊥) (λ m. StoresFirst f call m → ⊥)
      (λ m n near e out x. out (subst IsMovdquStore e x.0, (x.1.0, x.1.1, beside_touches small s.core.memory m.point n.point m.ins n.ins x.1.0 near e x.1.2)))
      way more alike (h.1 aligned),
)

-- two promises at once
pub both_lift : (P Q : Promise) → Lifts P → Lifts Q → Lifts (λ s small call way t. P s small call way t × Q s small call way t)
both_lift P Q p q s small call way more t end within alike beside h = (p s small call way more t end within alike beside h.0, q s small call way more t end within alike beside h.1)
