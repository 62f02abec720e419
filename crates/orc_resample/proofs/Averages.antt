-- A load that puts averages between its elements takes them at once inside a turn.
use Rattle.std.proofs.Common.{◌≡◌, ◌≢◌, ℕ, suc, ◌+◌, ◌*◌, ◌/◌, ◌%◌, ◌^◌, ◌<◌, ◌≤◌, ◌==◌, pos, true, if◌then◌else◌, List, [], ◌∷◌, ◌++◌, get_or, Some, None, refl, sym, ap, ◌∙◌, subst, arith, inl, inr, ⊎_elim}
use Rattle.std.proofs.lemmas.Bool.{cases_eq}
use Rattle.orc_bits.specs.Lanes.{lane}
use Rattle.orc_bits.specs.Memory.{Memory, word}
use Rattle.orc_bits.proofs.LaneLaws.{eq_false, lane_one}
use Rattle.x86_ins.specs.declared.ins.VecOp.TheVariants.{Punpcklbw, Pavgb}
use Rattle.x86_ins.specs.declared.ins.Ins.{Ins}
use Rattle.x86_ins.specs.declared.ins.Ins.TheVariants.{Vec, Load}
use Rattle.x86_ins.specs.Spelling.{IsIns}
use Rattle.x86_ins.specs.Way.{Each}
use Rattle.x86_ins.specs.Vectors.{shape, lane_of, result_of, average}
use Rattle.x86_ins.specs.Machine.{Core, with_gpr, moved}
use Rattle.x86_flow.specs.Does.{Line}
use Rattle.x86_flow.specs.Moves.{IsWidth}
use Rattle.x86_flow.proofs.Moves.{each_width}
use Rattle.orc_ops.specs.declared.far.Far.{Far}
use Rattle.orc_ops.specs.declared.far.Far.TheVariants.{Loadupib}
use Rattle.orc_ops.specs.Far.{far_size, other}
use Rattle.orc_resample.specs.declared.turn.FarSource.{FarSource}
use Rattle.orc_resample.specs.Code.{slot, bytes_code, halve_code, lower_code, upper_code, between_code}
use Rattle.orc_resample.specs.Ready.{Source, InWord, IsRead, element, value_at}
use Rattle.orc_resample.specs.Bring.{IsFarSource, AtHand, Brought, OnTurn}
use Rattle.orc_resample.proofs.Pushes.{by_bytes}
use Rattle.orc_resample.proofs.Runs.{after, run_then, calm_then, calm_run, slot_then}
use Rattle.orc_resample.proofs.Touched.{all_agree}
use Rattle.orc_resample.proofs.Quiet.{all_quiet, Leads, Ends, ended}
use Rattle.orc_resample.proofs.Halves.{even_byte, odd_byte, by_parity, even_lower, odd_lower, even_place, odd_place, el, AreRead, Holds, c4, Words, Elements, AreValues, takes, halve_then, half_is, pointer_is, lower_at, upper_at, back_run, element_small}

-- ---- averages of bytes

average_byte : (x y : List ℕ) (k : ℕ) → k < 16 → get_or (result_of (shape Pavgb) x y) k 0 ≡ (get_or x k 0 + get_or y k 0 + 1) / 2 % 256
average_byte x y k l =
    by_bytes (lane_of (shape Pavgb) x y) k l ∙ ap (λ v. average 8 v (lane 1 k y) % 256) (lane_one k x) ∙ ap (λ v. average 8 (get_or x k 0) v % 256) (lane_one k y)

average_small : (x y : ℕ) → x < 256 → y < 256 → (x + y + 1) / 2 % 256 ≡ (x + y + 1) / 2
average_small x y a b = omega (arith, a, b)

-- ---- numbers of elements

even_upper : (first k : ℕ) → (first + k * 2 + 1) / 2 ≡ (first + 1) / 2 + k
even_upper first k = omega arith

odd_upper : (first k : ℕ) → (first + suc (k * 2) + 1) / 2 ≡ first / 2 + 1 + k
odd_upper first k = omega arith

-- ---- which far load puts averages between its elements

-- element i is the average of those at half of i, rounded down and rounded up
record IsBetween (far : Far) : Type 0 where
  pub size : far_size far ≡ 1
  pub lower : (s : Source) (i : ℕ) → IsRead far s i (pos (i / 2))
  pub upper : (s : Source) (i : ℕ) → IsRead far s i (pos ((i + 1) / 2))
  pub value : (s : Source) (mem : Memory) (i : ℕ) → value_at far s mem i ≡ (element far mem s.base (pos (i / 2)) + element far mem s.base (pos ((i + 1) / 2)) + 1) / 2

upper_read : (s : Source) (i : ℕ) → IsRead Loadupib s i (pos ((i + 1) / 2))
upper_read s i = ⊎_elim
    (λ e. inl (ap pos (let q : (i + 1) / 2 ≡ i / 2 = omega (arith, e) in q)))
    (λ ne. inr (ap (λ m. Some (pos m)) (let q : (i + 1) / 2 ≡ i / 2 + 1 = omega (arith, ne) in q) ∙ ap (λ b. if b then None else Some (pos (i / 2 + 1))) (sym (eq_false (i % 2) 0 ne))))
    (cases_eq (i % 2) 0)

other_is : (i : ℕ) → other (pos (i / 2)) (if i % 2 == 0 then None else Some (pos (i / 2 + 1))) ≡ pos ((i + 1) / 2)
other_is i = ⊎_elim
    (λ e. ap (λ n. other (pos (i / 2)) (if n == 0 then None else Some (pos (i / 2 + 1)))) e ∙ ap pos (let q : i / 2 ≡ (i + 1) / 2 = omega (arith, e) in q))
    (λ ne. ap (λ b. other (pos (i / 2)) (if b then None else Some (pos (i / 2 + 1)))) (eq_false (i % 2) 0 ne) ∙ ap pos (let q : i / 2 + 1 ≡ (i + 1) / 2 = omega (arith, ne) in q))
    (cases_eq (i % 2) 0)

averages : IsBetween Loadupib
averages = record {
  size = refl;
  lower = λ s i. inl refl;
  upper = upper_read;
  value = λ s mem i. ap (λ k. (element Loadupib mem s.base (pos (i / 2)) + element Loadupib mem s.base k + 1) / 2) (other_is i);
}

-- ---- the list

next_at : (g base m : ℕ) → (g + 0) % 2 ^ 64 ≡ (base + m) % 2 ^ 64 → (g + 1) % 2 ^ 64 ≡ (base + (m + 1)) % 2 ^ 64
next_at g base m h = omega (arith, h)

swapped : (x y : ℕ) → (x + y + 1) / 2 ≡ (y + x + 1) / 2
swapped x y = omega arith

not_zero : (n : ℕ) → 0 < n → n ≢ 0
not_zero n l e = omega (arith, l, e)

module _ (count h : ℕ) (width : IsWidth h) (source : FarSource) (is : IsFarSource source) (one : far_size source.far ≡ 1) (s : Source) (c : Core) (at : AtHand count source s c) where
  abbrev Taken_from : ℕ → List ℕ → Type 0
  Taken_from = Holds count source is one s c at h

  -- both registers hold their elements, and RAX the address of those in XMM0
  record Taken (v : Core) : Type 0 where
    pub memory : v.memory ≡ c.memory
    pub stack : v.gpr 4 ≡ c.gpr 4
    pub here : (v.gpr 0 + 0) % 2 ^ 64 ≡ (s.base + s.first / 2) % 2 ^ 64
    pub lower : Taken_from (s.first / 2) (v.xmm 0)
    pub upper : Taken_from ((s.first + 1) / 2) (v.xmm 1)

  both_then : (rest : List Ins) (P : Core → Type 0) → AreRead count source is one s c at h (s.first / 2) → AreRead count source is one s c at h ((s.first + 1) / 2) → ((v : Core) → Taken v → Leads count source s c rest v P)
      → Leads count source s c (halve_code source ++ (upper_code source ++ (bytes_code h 1 0 (pos 0) ++ ((Load 0 (slot source.array) ∷ lower_code) ++ (bytes_code h 0 7 (pos 0) ++ rest))))) c P
  both_then rest P read_lower read_upper go =
      let W = Words count source is one s c at in
      let E = Elements count source is one s c at in
      let first = c4 count source is one s c at in
      let v = after (upper_code source) first in
      let behind = bytes_code h 0 7 (pos 0) ++ rest in
      let js = (Load 0 (slot source.array) ∷ lower_code) ++ behind in
      halve_then count source is one s c at (upper_code source ++ (bytes_code h 1 0 (pos 0) ++ js)) P
      (calm_then W E (upper_code source) (bytes_code h 1 0 (pos 0) ++ js) refl first P
      (takes count source is one s c at h 1 0 0 ((s.first + 1) / 2) v js P width refl (upper_at count source is one s c at first (pointer_is count source is one s c at) (half_is count source is one s c at)) read_upper
      (λ d took y.
      let w : Core = with_gpr d 0 s.base in
      let half : w.gpr 7 ≡ s.first / 2 = took.gpr 7 (λ e. omega (arith, e)) ∙ half_is count source is one s c at in
      slot_then W E 0 source.array (lower_code ++ behind) d s.base P (ap (λ m. word m (moved (d.gpr 4) source.array)) took.memory ∙ ap (λ g. word c.memory (moved g source.array)) (took.gpr 4 (not_zero 4 (omega arith))) ∙ at.array)
      (λ x t. inr (source.array, inr (inl refl), subst (λ g. InWord (moved g source.array) x) (took.gpr 4 (not_zero 4 (omega arith))) t))
      (calm_then W E lower_code behind refl w P
      (takes count source is one s c at h 0 7 0 (s.first / 2) (after lower_code w) rest P width took.memory (lower_at count source is one s c at w refl half) read_lower
      (λ e more x. go e (record {
        memory = more.memory ∙ took.memory;
        stack = more.gpr 4 (λ q. omega (arith, q)) ∙ took.gpr 4 (not_zero 4 (omega arith));
        here = ap (λ g. (g + 0) % 2 ^ 64) (more.gpr 0 (λ q. omega (arith, q))) ∙ lower_at count source is one s c at w refl half;
        lower = x;
        upper = subst (Taken_from ((s.first + 1) / 2)) (sym (more.xmm 1 (λ q. omega (arith, q)))) y;
      })))))))

  averaged : (x y : List ℕ) (k m n : ℕ) → k < 16 → get_or x k 0 ≡ el count source is one s c at m → get_or y k 0 ≡ el count source is one s c at n
      → get_or (result_of (shape Pavgb) x y) k 0 ≡ (el count source is one s c at m + el count source is one s c at n + 1) / 2
  averaged x y k m n l a b =
      average_byte x y k l ∙ ap (λ v. (v + get_or y k 0 + 1) / 2 % 256) a ∙ ap (λ v. (el count source is one s c at m + v + 1) / 2 % 256) b
      ∙ average_small (el count source is one s c at m) (el count source is one s c at n) (element_small count source is one s c at m) (element_small count source is one s c at n)

module _ (source : FarSource) (is : IsFarSource source) (between : IsBetween source.far) (s : Source) (c : Core) where
  between_one : AtHand 1 source s c → Leads 1 source s c (between_code source 1) c (Ends 1 source s c)
  between_one at =
      let one = between.size in
      let down = s.first / 2 in
      let up = (s.first + 1) / 2 in
      let elem = el 1 source is one s c at in
      let mean = Vec Pavgb 0 1 ∷ [] in
      let last = Load 7 (slot source.block) ∷ [] in
      both_then 1 1 (inl refl) source is one s c at (mean ++ last) _
      (λ k l. (0, omega arith, subst (λ n. IsRead source.far s (s.first + 0) (pos n)) (let q : (s.first + 0) / 2 ≡ down + k = omega (arith, l) in q) (between.lower s (s.first + 0))))
      (λ k l. (0, omega arith, subst (λ n. IsRead source.far s (s.first + 0) (pos n)) (let q : (s.first + 0 + 1) / 2 ≡ up + k = omega (arith, l) in q) (between.upper s (s.first + 0))))
      (λ v t. calm_then (Words 1 source is one s c at) (Elements 1 source is one s c at) mean last refl v _
      (back_run 1 source is one s c at (after mean v) t.memory t.stack
      (λ j l. ap (λ i. get_or (result_of (shape Pavgb) (v.xmm 0) (v.xmm 1)) i 0) (let q : j ≡ 0 = omega (arith, l) in q)
      ∙ averaged 1 1 (inl refl) source is one s c at (v.xmm 0) (v.xmm 1) 0 (down + 0) (up + 0) (omega arith) (t.lower 0 (omega arith)) (t.upper 0 (omega arith))
      ∙ ap (λ m. (elem m + elem (up + 0) + 1) / 2) (let q : down + 0 ≡ (s.first + j) / 2 = omega (arith, l) in q) ∙ ap (λ m. (elem ((s.first + j) / 2) + elem m + 1) / 2) (let q : up + 0 ≡ (s.first + j + 1) / 2 = omega (arith, l) in q)
      ∙ sym (between.value s c.memory (s.first + j)))))

  module _ (h : ℕ) (width : IsWidth h) (few : h ≤ 8) (at : AtHand (h * 2) source s c) where
    abbrev n : ℕ
    n = h * 2

    abbrev down : ℕ
    down = s.first / 2

    abbrev up : ℕ
    up = (s.first + 1) / 2

    abbrev elem : ℕ → ℕ
    elem = el n source is between.size s c at

    abbrev Are : ℕ → List ℕ → Type 0
    Are = Holds n source is between.size s c at h

    read_down : AreRead n source is between.size s c at h down
    read_down k l = (k * 2, even_place k h l, subst (λ m. IsRead source.far s (s.first + k * 2) (pos m)) (even_lower s.first k) (between.lower s (s.first + k * 2)))

    read_up : AreRead n source is between.size s c at h up
    read_up k l = (suc (k * 2), odd_place k h l, subst (λ m. IsRead source.far s (s.first + suc (k * 2)) (pos m)) (odd_lower s.first k) (between.lower s (s.first + suc (k * 2))))

    read_behind : AreRead n source is between.size s c at h (down + 1)
    read_behind k l = (suc (k * 2), odd_place k h l, subst (λ m. IsRead source.far s (s.first + suc (k * 2)) (pos m)) (odd_upper s.first k) (between.upper s (s.first + suc (k * 2))))

    mean_small : (m k : ℕ) → (elem m + elem k + 1) / 2 % 256 ≡ (elem m + elem k + 1) / 2
    mean_small m k = average_small (elem m) (elem k) (element_small n source is between.size s c at m) (element_small n source is between.size s c at k)

    weaves : (x y z : List ℕ) → Are down x → Are up y → Are (down + 1) z → AreValues n source is between.size s c at (result_of (shape Punpcklbw) (result_of (shape Pavgb) x y) (result_of (shape Pavgb) z y))
    weaves x y z a b e = by_parity (λ j. get_or (result_of (shape Punpcklbw) (result_of (shape Pavgb) x y) (result_of (shape Pavgb) z y)) j 0 ≡ value_at source.far s c.memory (s.first + j)) h
        (λ k l. even_byte (result_of (shape Pavgb) x y) (result_of (shape Pavgb) z y) k (omega (arith, l, few))
        ∙ ap (λ v. v % 256) (averaged n h width source is between.size s c at x y k (down + k) (up + k) (omega (arith, l, few)) (a k l) (b k l)) ∙ mean_small (down + k) (up + k)
        ∙ ap (λ m. (elem m + elem (up + k) + 1) / 2) (sym (even_lower s.first k)) ∙ ap (λ m. (elem ((s.first + k * 2) / 2) + elem m + 1) / 2) (sym (even_upper s.first k)) ∙ sym (between.value s c.memory (s.first + k * 2)))
        (λ k l. odd_byte (result_of (shape Pavgb) x y) (result_of (shape Pavgb) z y) k (omega (arith, l, few))
        ∙ ap (λ v. v % 256) (averaged n h width source is between.size s c at z y k (down + 1 + k) (up + k) (omega (arith, l, few)) (e k l) (b k l)) ∙ mean_small (down + 1 + k) (up + k) ∙ swapped (elem (down + 1 + k)) (elem (up + k))
        ∙ ap (λ m. (elem m + elem (down + 1 + k) + 1) / 2) (sym (odd_lower s.first k)) ∙ ap (λ m. (elem ((s.first + suc (k * 2)) / 2) + elem m + 1) / 2) (sym (odd_upper s.first k)) ∙ sym (between.value s c.memory (s.first + suc (k * 2))))

    record Woven (v : Core) : Type 0 where
      pub memory : v.memory ≡ c.memory
      pub stack : v.gpr 4 ≡ c.gpr 4
      pub values : AreValues n source is between.size s c at (v.xmm 0)

    weave_run : (v : Core) → Taken n h width source is between.size s c at v → Leads n source s c (bytes_code h 2 7 (pos 1) ++ Vec Pavgb 0 1 ∷ Vec Pavgb 2 1 ∷ Vec Punpcklbw 0 2 ∷ []) v Woven
    weave_run v t =
        let weave = Vec Pavgb 0 1 ∷ Vec Pavgb 2 1 ∷ Vec Punpcklbw 0 2 ∷ [] in
        takes n source is between.size s c at h 2 7 1 (down + 1) v weave Woven width t.memory (next_at (v.gpr 0) s.base down t.here) read_behind
        (λ d took z. calm_run (Words n source is between.size s c at) (Elements n source is between.size s c at) weave refl d Woven (record {
          memory = took.memory ∙ t.memory;
          stack = took.gpr 4 (λ e. omega (arith, e)) ∙ t.stack;
          values = weaves (d.xmm 0) (d.xmm 1) (d.xmm 2) (subst (Are down) (sym (took.xmm 0 (λ e. omega (arith, e)))) t.lower) (subst (Are up) (sym (took.xmm 1 (λ e. omega (arith, e)))) t.upper) z;
        }))

    between_even : Leads n source s c (halve_code source ++ (upper_code source ++ (bytes_code h 1 0 (pos 0) ++ ((Load 0 (slot source.array) ∷ lower_code) ++ (bytes_code h 0 7 (pos 0) ++ ((bytes_code h 2 7 (pos 1) ++ Vec Pavgb 0 1 ∷ Vec Pavgb 2 1 ∷ Vec Punpcklbw 0 2 ∷ []) ++ Load 7 (slot source.block) ∷ [])))))) c (Ends n source s c)
    between_even =
        let one = between.size in
        let means = bytes_code h 2 7 (pos 1) ++ Vec Pavgb 0 1 ∷ Vec Pavgb 2 1 ∷ Vec Punpcklbw 0 2 ∷ [] in
        let last = Load 7 (slot source.block) ∷ [] in
        both_then n h width source is one s c at (means ++ last) _ read_down read_up
        (λ v t. run_then (Words n source is one s c at) (Elements n source is one s c at) means last v Woven _ (weave_run v t) (λ e i. back_run n source is one s c at e i.memory i.stack i.values))

  between_run : (count : ℕ) → IsWidth count → AtHand count source s c → Leads count source s c (between_code source count) c (Ends count source s c)
  between_run count width = each_width (λ n. AtHand n source s c → Leads n source s c (between_code source n) c (Ends n source s c)) between_one
      (between_even 1 (inl refl) (omega arith)) (between_even 2 (inr (inl refl)) (omega arith)) (between_even 4 (inr (inr (inl refl))) (omega arith)) (between_even 8 (inr (inr (inr (inl refl)))) (omega arith)) count width

between_quiet : (source : FarSource) (count : ℕ) → IsWidth count → all_quiet (between_code source count) ≡ true
between_quiet source count is = each_width (λ n. all_quiet (between_code source n) ≡ true) refl refl refl refl refl count is

between_agrees : (source : FarSource) (count : ℕ) → IsWidth count → all_agree (between_code source count) ≡ true
between_agrees source count is = each_width (λ n. all_agree (between_code source n) ≡ true) refl refl refl refl refl count is

pub between_brought : (count : ℕ) (source : FarSource) → IsFarSource source → source.far ≡ Loadupib → IsWidth count → Each IsIns (between_code source count) → (s : Source) (c : Core) → AtHand count source s c
    → (d : Core) × Line (OnTurn count source s c) (between_code source count) c d × Brought count source s c d
between_brought count source is e width ranges s c at =
    ended count source s c at.bounded (between_code source count) (between_quiet source count width) (between_agrees source count width) ranges (between_run source is (subst IsBetween (sym e) averages) s c count width at)
