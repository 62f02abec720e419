-- Registers that are stored to words of memory, and loaded from them.
use Rattle.std.proofs.Common.{◌≡◌, ◌≢◌, ℕ, zero, suc, ◌+◌, ◌*◌, ◌^◌, ◌<◌, ◌≤◌, [], ◌∷◌, Some, Ok, refl, sym, ap, ◌∙◌, subst, arith, inl, ⊎_elim}
use Rattle.std.proofs.lemmas.Bool.{cases_eq}
use Rattle.orc_bits.specs.Lanes.{byte_of}
use Rattle.orc_bits.specs.Memory.{word, fill, IsMapped}
use Rattle.orc_bits.proofs.LaneLaws.{change_other, change_same}
use Rattle.orc_bits.proofs.Memories.{fill_out, fill_mapped, all_there, store_there}
use Rattle.x86_ins.specs.declared.ins.Ins.{Ins}
use Rattle.x86_ins.specs.declared.ins.Ins.TheVariants.{Load, Store}
use Rattle.x86_ins.specs.Machine.{Core, with_gpr, with_memory, address, access, save, load, work}
use Rattle.x86_flow.specs.Moves.{away, stores_code, loads_code}
use Rattle.x86_flow.specs.Does.{Line}
use Rattle.x86_flow.proofs.Moves.{line_append}
use Rattle.x86_flow.proofs.Frame.{word_stored, word_apart}

pub at_away : (c : Core) (r a d : ℕ) → c.gpr r ≡ a → a + d < 2 ^ 62 → address c (away r d) ≡ a + d
at_away c r a d e w = omega (arith, e, w)

-- one word
pub store_word : (c : Core) (q r a d : ℕ) → c.gpr r ≡ a → a + d + 8 < 2 ^ 62 → ((x : ℕ) → a + d ≤ x → x < a + d + 8 → IsMapped c.memory x) → work (Store q (away r d)) c ≡ Ok (with_memory c (fill 8 c.memory (a + d) (byte_of 8 (c.gpr q))))
store_word c q r a d e w h =
    let f = byte_of 8 (c.gpr q) in
    let there = all_there 8 c.memory (a + d) (omega (arith, w)) (λ j l. h (a + d + j) (omega arith) (omega (arith, l))) in
    ap (λ p. save 8 c p f (λ mem. with_memory c mem)) (at_away c r a d e (omega (arith, w)))
    ∙ ap (λ o. access 8 c.memory (a + d) o (λ mem. with_memory c mem)) (store_there 8 c.memory (a + d) f there)

pub load_word : (c : Core) (q r a d v : ℕ) → c.gpr r ≡ a → a + d < 2 ^ 62 → word c.memory (a + d) ≡ Some v → work (Load q (away r d)) c ≡ Ok (with_gpr c q v)
load_word c q r a d v e w h =
    ap (λ p. load 8 c p (λ v. with_gpr c q v)) (at_away c r a d e w)
    ∙ ap (λ o. access 8 c.memory (a + d) o (λ v. with_gpr c q v)) h

-- the addresses of so many words
abbrev pub InWords : ℕ → ℕ → ℕ → Type 0
InWords a n x = (a ≤ x) × (x < a + 8 * n)

-- what the stores leave
pub record Stores (a : ℕ) (reg : ℕ → ℕ) (n : ℕ) (c d : Core) : Type 0 where
  pub gpr : d.gpr ≡ c.gpr
  pub words : (j : ℕ) → j < n → word d.memory (a + 8 * j) ≡ Some (c.gpr (reg j))
  pub outside : (x : ℕ) → (InWords a n x → ⊥) → d.memory x ≡ c.memory x
  pub mapped : (x : ℕ) → IsMapped c.memory x → IsMapped d.memory x

-- and the loads
pub record Loads (reg v : ℕ → ℕ) (n : ℕ) (c d : Core) : Type 0 where
  pub loaded : (j : ℕ) → j < n → d.gpr (reg j) ≡ v j
  pub others : (r : ℕ) → ((j : ℕ) → j < n → r ≢ reg j) → d.gpr r ≡ c.gpr r
  pub memory : d.memory ≡ c.memory

module _ (Q : Core → Ins → Type 0) (r a : ℕ) (reg : ℕ → ℕ) where
  pub stores_line : (first n : ℕ) (c : Core) → c.gpr r ≡ a → a + first + 8 * n < 2 ^ 62 → ((x : ℕ) → InWords (a + first) n x → IsMapped c.memory x) → ((j : ℕ) → j < n → c.gpr (reg j) < 2 ^ 64)
      → ((u : Core) (i : Ins) → u.gpr ≡ c.gpr → ((x : ℕ) → (InWords (a + first) n x → ⊥) → u.memory x ≡ c.memory x) → Q u i)
      → (d : Core) × Line Q (stores_code r first reg n) c d × Stores (a + first) reg n c d
  stores_line first zero c e w there small keeps = (c, refl, record { gpr = refl; words = λ j l. absurd (omega (arith, l)); outside = λ x h. refl; mapped = λ x h. h })
  stores_line first (suc n) c e w there small keeps =
      let x = stores_line first n c e (omega (arith, w)) (λ t h. there t (h.0, omega (arith, h.1))) (λ j l. small j (omega (arith, l)))
      (λ u i g o. keeps u i g (λ t out. o t (λ h. out (h.0, omega (arith, h.1))))) in
      let b = x.0 in
      let g = x.2 in
      let p = a + first + 8 * n in
      let same : b.gpr (reg n) ≡ c.gpr (reg n) = ap (λ f. f (reg n)) g.gpr in
      let v = b.gpr (reg n) in
      let fits : v < 2 ^ 64 = omega (arith, same, small n (omega arith)) in
      let f = byte_of 8 v in
      let d : Core = with_memory b (fill 8 b.memory p f) in
      let p_is : a + (first + 8 * n) ≡ p = omega arith in
      let stores : work (Store (reg n) (away r (first + 8 * n))) b ≡ Ok d =
      store_word b (reg n) r a (first + 8 * n) (ap (λ f. f r) g.gpr ∙ e) (omega (arith, w)) (λ t l h. g.mapped t (there t (omega (arith, l), omega (arith, h))))
      ∙ ap (λ t. Ok (with_memory b (fill 8 b.memory t f))) p_is in
      let calm : Q b (Store (reg n) (away r (first + 8 * n))) = keeps b _ g.gpr (λ t out. g.outside t (λ h. out (h.0, omega (arith, h.1)))) in (
        d,
        line_append Q (stores_code r first reg n) (Store (reg n) (away r (first + 8 * n)) ∷ []) c b d x.1 (calm, (d, stores, refl)),
        record {
          gpr = g.gpr;
          words = λ j l. ⊎_elim
              (λ q. ap (λ i. word d.memory (a + first + 8 * i)) q ∙ word_stored b.memory p v (omega (arith, w)) fits ∙ ap Some (same ∙ ap (λ i. c.gpr (reg i)) (sym q)))
              (λ ne. word_apart 8 b.memory p f (a + first + 8 * j) (omega (arith, w)) (omega (arith, w, l)) (inl (omega (arith, l, ne))) ∙ g.words j (omega (arith, l, ne)))
              (cases_eq j n);
          outside = λ t out. fill_out 8 b.memory p f t (omega (arith, w)) (λ j l q. out (omega (arith, q), omega (arith, q, l))) ∙ g.outside t (λ h. out (h.0, omega (arith, h.1)));
          mapped = λ t h. fill_mapped 8 b.memory p f t (g.mapped t h);
        },
      )

  pub loads_line : (far v : ℕ → ℕ) (n : ℕ) (c : Core) → c.gpr r ≡ a → ((j : ℕ) → j < n → a + far j < 2 ^ 62) → ((j : ℕ) → j < n → word c.memory (a + far j) ≡ Some (v j)) → ((j : ℕ) → j < n → r ≢ reg j) → ((i j : ℕ) → i < n → j < n → reg i ≡ reg j → i ≡ j)
      → ((u : Core) (i : Ins) → u.memory ≡ c.memory → ((x : ℕ) → ((j : ℕ) → j < n → x ≢ reg j) → u.gpr x ≡ c.gpr x) → Q u i)
      → (d : Core) × Line Q (loads_code r far reg n) c d × Loads reg v n c d
  loads_line far v zero c e w words apart one keeps = (c, refl, record { loaded = λ j l. absurd (omega (arith, l)); others = λ x h. refl; memory = refl })
  loads_line far v (suc n) c e w words apart one keeps =
      let x = loads_line far v n c e (λ j l. w j (omega (arith, l))) (λ j l. words j (omega (arith, l))) (λ j l. apart j (omega (arith, l))) (λ i j l m. one i j (omega (arith, l)) (omega (arith, m)))
      (λ u i m g. keeps u i m (λ t h. g t (λ j l. h j (omega (arith, l))))) in
      let b = x.0 in
      let g = x.2 in
      let d : Core = with_gpr b (reg n) (v n) in
      let last : n < suc n = omega arith in
      let there : word b.memory (a + far n) ≡ Some (v n) = ap (λ m. word m (a + far n)) g.memory ∙ words n last in
      let loads : work (Load (reg n) (away r (far n))) b ≡ Ok d = load_word b (reg n) r a (far n) (v n) (g.others r (λ j l. apart j (omega (arith, l))) ∙ e) (w n last) there in
      let calm : Q b (Load (reg n) (away r (far n))) = keeps b _ g.memory (λ t h. g.others t (λ j l. h j (omega (arith, l)))) in (
        d,
        line_append Q (loads_code r far reg n) (Load (reg n) (away r (far n)) ∷ []) c b d x.1 (calm, (d, loads, refl)),
        record {
          loaded = λ j l. ⊎_elim
              (λ q. subst (λ i. d.gpr (reg i) ≡ v i) (sym q) (change_same b.gpr (reg n) (v n)))
              (λ ne. change_other b.gpr (reg n) (v n) (reg j) (λ q. ne (one j n l last q)) ∙ g.loaded j (omega (arith, l, ne)))
              (cases_eq j n);
          others = λ t h. change_other b.gpr (reg n) (v n) t (h n last) ∙ g.others t (λ j l. h j (omega (arith, l)));
          memory = g.memory;
        },
      )
