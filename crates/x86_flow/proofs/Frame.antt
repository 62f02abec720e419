-- Words and slots in the frame.
use Rattle.std.proofs.Common.{◌≡◌, ℕ, zero, suc, ◌+◌, ◌*◌, ◌%◌, ◌/◌, ◌^◌, ◌<◌, ◌≤◌, if◌then◌else◌, nat_lt, true, subst, List, [], ◌∷◌, Some, refl, sym, ap, ◌∙◌, arith, ◌⊎◌, inl, inr, ⊎_elim, mod-eq_of_lt, div-one, pow-suc, mul_comm}
use Rattle.std.proofs.Math.Nat.{div-div-eq-div-mul}
use Rattle.std.proofs.Math.Arith.{mod-mul}
use Rattle.std.proofs.lemmas.Bool.{cases_eq, cases_lt}
use Rattle.orc_bits.specs.Lanes.{change, byte_of}
use Rattle.orc_bits.proofs.LaneLaws.{change_other, change_same}
use Rattle.orc_bits.specs.Memory.{Memory, bind, read, word, number, fill}
use Rattle.orc_bits.proofs.Memories.{fill_in, fill_out}

lt_yes : (x n : ℕ) → x < n → nat_lt x n ≡ true
lt_yes x n h = grind (arith)

pub read_same : (n : ℕ) (m e : Memory) (a : ℕ) → a + n < 2 ^ 63 → ((x : ℕ) → a ≤ x → x < a + n → m x ≡ e x) → read n m a ≡ read n e a
read_same zero m e a w h = refl
read_same (suc n) m e a w h =
    let r : a % 2 ^ 64 ≡ a = mod-eq_of_lt (omega (arith, w)) in
    let here : m (a % 2 ^ 64) ≡ e (a % 2 ^ 64) = subst (λ x. m x ≡ e x) (sym r) (h a (omega arith) (omega arith)) in
    let rest = read_same n m e (a + 1) (omega (arith, w)) (λ x l u. h x (omega (arith, l)) (omega (arith, u))) in
    ap (λ o. bind o (λ b. bind (read n m (a + 1)) (λ bs. Some (b ∷ bs)))) here
    ∙ ap (λ o. bind (e (a % 2 ^ 64)) (λ b. bind o (λ bs. Some (b ∷ bs)))) rest

pub word_same : (m e : Memory) (a : ℕ) → a + 8 < 2 ^ 63 → ((x : ℕ) → a ≤ x → x < a + 8 → m x ≡ e x) → word m a ≡ word e a
word_same m e a w h = ap (λ o. bind o (λ bs. Some (number bs))) (read_same 8 m e a w h)

div_256 : (v j : ℕ) → v / 256 / 256 ^ j ≡ v / 256 ^ suc j
div_256 v j = div-div-eq-div-mul v 256 (256 ^ j) ∙ ap (λ x. v / x) (mul_comm 256 (256 ^ j) ∙ sym (pow-suc 256 j))

power_pos : (n : ℕ) → 0 < 256 ^ n
power_pos zero = omega arith
power_pos (suc n) = omega (arith, pow-suc 256 n, power_pos n)

low_digit : (v n : ℕ) → v % 256 ^ suc n ≡ v % 256 + 256 * (v / 256 % 256 ^ n)
low_digit v n = ap (λ x. v % x) (pow-suc 256 n) ∙ mod-mul v (power_pos n) (omega arith) ∙ omega (arith, mul_comm (v / 256 % 256 ^ n) 256)

-- a number's bytes in memory are read as the number
pub value_read : (n : ℕ) (mem : Memory) (a v : ℕ) → a + n < 2 ^ 63 → ((j : ℕ) → j < n → mem (a + j) ≡ Some (v / 256 ^ j % 256)) → (bs : List ℕ) × (read n mem a ≡ Some bs) × (number bs ≡ v % 256 ^ n)
value_read zero mem a v w h = ([], refl, omega arith)
value_read (suc n) mem a v w h =
    let e : a % 2 ^ 64 ≡ a + 0 = omega (arith, w) in
    let here : mem (a % 2 ^ 64) ≡ Some (v % 256) = ap mem e ∙ h 0 (omega arith) ∙ ap (λ x. Some (x % 256)) (div-one v) in
    let rest = value_read n mem (a + 1) (v / 256) (omega (arith, w)) (λ j l. ap mem (let q : a + 1 + j ≡ a + suc j = omega arith in q) ∙ h (suc j) (omega (arith, l)) ∙ ap (λ x. Some (x % 256)) (sym (div_256 v j))) in (
      v % 256 ∷ rest.0,
      ap (λ o. bind o (λ b. bind (read n mem (a + 1)) (λ bs. Some (b ∷ bs)))) here ∙ ap (λ o. bind o (λ bs. Some (v % 256 ∷ bs))) rest.1,
      ap (λ x. v % 256 + 256 * x) rest.2 ∙ sym (low_digit v n),
    )

pub word_value : (mem : Memory) (a v : ℕ) → a + 8 < 2 ^ 63 → v < 2 ^ 64 → ((j : ℕ) → j < 8 → mem (a + j) ≡ Some (v / 256 ^ j % 256)) → word mem a ≡ Some v
word_value mem a v w b h =
    let r = value_read 8 mem a v w h in
    ap (λ o. bind o (λ bs. Some (number bs))) r.1 ∙ ap Some (r.2 ∙ mod-eq_of_lt b)

byte_in : (v j : ℕ) → j < 8 → byte_of 8 v j ≡ v / 256 ^ j % 256
byte_in v j h = ap (λ t. if t then v / 256 ^ j % 256 else 0) (lt_yes j 8 h)

-- a word that was stored is read again
pub word_stored : (mem : Memory) (a v : ℕ) → a + 8 < 2 ^ 63 → v < 2 ^ 64 → word (fill 8 mem a (byte_of 8 v)) a ≡ Some v
word_stored mem a v w b = word_value (fill 8 mem a (byte_of 8 v)) a v w b (λ j l. fill_in 8 mem a (byte_of 8 v) j w l ∙ ap Some (byte_in v j l))

-- a word elsewhere is as it was
pub word_apart : (n : ℕ) (mem : Memory) (a : ℕ) (f : ℕ → ℕ) (b : ℕ) → a + n < 2 ^ 63 → b + 8 < 2 ^ 63 → (b + 8 ≤ a) ⊎ (a + n ≤ b) → word (fill n mem a f) b ≡ word mem b
word_apart n mem a f b w v (inl h) = word_same (fill n mem a f) mem b v (λ x l u. fill_out n mem a f x w (λ j s e. omega (arith, e, h, u)))
word_apart n mem a f b w v (inr h) = word_same (fill n mem a f) mem b v (λ x l u. fill_out n mem a f x w (λ j s e. omega (arith, e, h, l, s)))

-- so many words from an address on
abbrev pub Slots : ℕ → ℕ → (ℕ → ℕ) → Memory → Type 0
Slots frame count values mem = (j : ℕ) → j < count → word mem (frame + 8 * j) ≡ Some (values j)

pub slot_stored : (frame count : ℕ) (values : ℕ → ℕ) (mem : Memory) (k v : ℕ) → frame + 8 * count < 2 ^ 62 → k < count → v < 2 ^ 64 → Slots frame count values mem → Slots frame count (change values k v) (fill 8 mem (frame + 8 * k) (byte_of 8 v))
slot_stored frame count values mem k v w h b slots j l = ⊎_elim
    (λ e. ap (λ i. word (fill 8 mem (frame + 8 * k) (byte_of 8 v)) (frame + 8 * i)) e ∙ word_stored mem (frame + 8 * k) v (omega (arith, w, h)) b ∙ ap Some (sym (ap (change values k v) e ∙ change_same values k v)))
    (λ ne. word_apart 8 mem (frame + 8 * k) (byte_of 8 v) (frame + 8 * j) (omega (arith, w, h)) (omega (arith, w, l)) (⊎_elim (λ s. inl (omega (arith, s))) (λ g. inr (omega (arith, g, ne))) (cases_lt j k)) ∙ slots j l ∙ ap Some (sym (change_other values k v j ne)))
    (cases_eq j k)

-- the slots stand through writes elsewhere
pub slots_apart : (frame count : ℕ) (values : ℕ → ℕ) (mem end : Memory) → frame + 8 * count < 2 ^ 62 → ((x : ℕ) → frame ≤ x → x < frame + 8 * count → end x ≡ mem x) → Slots frame count values mem → Slots frame count values end
slots_apart frame count values mem end w h slots j l = word_same end mem (frame + 8 * j) (omega (arith, w, l)) (λ x a b. h x (omega (arith, a)) (omega (arith, b, l))) ∙ slots j l
