-- The words of the argument block.
use Rattle.std.proofs.Common.{◌≡◌, ℕ, zero, suc, ◌+◌, ◌-◌, ◌*◌, ◌/◌, ◌%◌, ◌^◌, ◌<◌, ◌≤◌, List, [], ◌∷◌, ◌++◌, length, replicate, get_or, slice_index, slice_index_or, refl, sym, ap, ◌∙◌, arith, inl, inr, lit<, length-append}
use Rattle.std.specs.Int.{w64, cast_unsigned, byte_at, bytes_low_first}
use Rattle.std.proofs.Math.Nat.{div-one}
use Rattle.std.proofs.Math.ListN.{get_or-append}
use Rattle.std.proofs.lemmas.List.{get_or-append-add, get_or-replicate, get_or_past, length-replicate}
use Rattle.std.proofs.lemmas.Bool.{cases_lt}
use Rattle.std.proofs.Math.Seq.{get_or-append_right}
use Rattle.orc_bits.specs.Lanes.{AreBytes}
use Rattle.orc_program.specs.declared.call.Place.{Place}
use Rattle.orc_program.specs.Meaning.{no_place}
use Rattle.orc_worlds.specs.Placement.{word_bytes, words_bytes, place_bytes, places_bytes, padded}

-- the word stands at a place of the bytes
abbrev pub HasWord : List ℕ → ℕ → ℕ → Type 0
HasWord bytes d v = (j : ℕ) → j < 8 → get_or bytes (d + j) 0 ≡ v / 256 ^ j % 256

pub word_long : (v : ℕ) → length (word_bytes v) ≡ 8
unfolding word_bytes
word_long v = refl

low_byte : (i n : ℕ) → byte_at i n ≡ n / 256 ^ i % 256
low_byte zero n = ap (λ k. k % 256) (sym (div-one n))
low_byte (suc i) n = refl

low_bytes : (k i j n : ℕ) → j < k → get_or (bytes_low_first i k n) j 0 ≡ n / 256 ^ (i + j) % 256
low_bytes zero i j n l = absurd (omega (arith, l))
low_bytes (suc k) i zero n l = low_byte i n ∙ ap (λ x. n / 256 ^ x % 256) (let q : i ≡ i + 0 = omega arith in q)
low_bytes (suc k) i (suc j) n l = low_bytes k (suc i) j n (omega (arith, l)) ∙ ap (λ x. n / 256 ^ x % 256) (let q : suc i + j ≡ i + suc j = omega arith in q)

pub in_word : (v j : ℕ) → j < 8 → get_or (word_bytes v) j 0 ≡ v / 256 ^ j % 256
unfolding word_bytes
in_word v j l = low_bytes 8 0 j v l ∙ ap (λ x. v / 256 ^ x % 256) (let q : 0 + j ≡ j = omega arith in q)

pub left_word : (xs ys : List ℕ) (d v : ℕ) → d + 8 ≤ length xs → HasWord xs d v → HasWord (xs ++ ys) d v
left_word xs ys d v l h j m = get_or-append xs ys 0 (d + j) (omega (arith, l, m)) ∙ h j m

pub right_word : (xs ys : List ℕ) (d e v : ℕ) → length xs + d ≡ e → HasWord ys d v → HasWord (xs ++ ys) e v
right_word xs ys d e v is h j m =
    ap (λ i. get_or (xs ++ ys) i 0) (let q : e + j ≡ length xs + (d + j) = omega (arith, is) in q) ∙ get_or-append-add xs ys (d + j) 0 ∙ h j m

pub first_word : (v : ℕ) (ys : List ℕ) → HasWord (word_bytes v ++ ys) 0 v
first_word v ys = left_word (word_bytes v) ys 0 v (let l = word_long v in omega (arith, l)) (λ j m. ap (λ i. get_or (word_bytes v) i 0) (let q : 0 + j ≡ j = omega arith in q) ∙ in_word v j m)

pub words_long : (ns : List ℕ) → length (words_bytes ns) ≡ 8 * length ns
words_long [] = refl
words_long (n ∷ ns) = let l = length-append (word_bytes n) (words_bytes ns) in let w = word_long n in let r = words_long ns in omega (arith, l, w, r)

pub places_long : (ps : List Place) → length (places_bytes ps) ≡ 16 * length ps
places_long [] = refl
places_long (p ∷ ps) =
    let l = length-append (place_bytes p) (places_bytes ps) in
    let m = length-append (word_bytes p.base) (word_bytes (cast_unsigned w64 p.stride)) in
    let a = word_long p.base in
    let b = word_long (cast_unsigned w64 p.stride) in
    let r = places_long ps in
    omega (arith, l, m, a, b, r)

pub words_have : (ns : List ℕ) (k : ℕ) → k < length ns → HasWord (words_bytes ns) (8 * k) (slice_index ns k)
words_have [] k l = absurd (omega (arith, l))
words_have (n ∷ ns) zero l = first_word n (words_bytes ns)
words_have (n ∷ ns) (suc k) l = right_word (word_bytes n) (words_bytes ns) (8 * k) (8 * suc k) (slice_index ns k) (let w = word_long n in omega (arith, w)) (words_have ns k (omega (arith, l)))

place_long : (p : Place) → length (place_bytes p) ≡ 16
place_long p =
    let m = length-append (word_bytes p.base) (word_bytes (cast_unsigned w64 p.stride)) in
    let a = word_long p.base in
    let b = word_long (cast_unsigned w64 p.stride) in
    omega (arith, m, a, b)

-- the words of a base and a stride at a place of the bytes
pub record HasPlace (bytes : List ℕ) (d : ℕ) (p : Place) : Type 0 where
  pub base : HasWord bytes d p.base
  pub stride : HasWord bytes (d + 8) (cast_unsigned w64 p.stride)

first_place : (p : Place) → HasPlace (place_bytes p) 0 p
first_place p = record {
  base = first_word p.base (word_bytes (cast_unsigned w64 p.stride));
  stride = right_word (word_bytes p.base) (word_bytes (cast_unsigned w64 p.stride)) 0 (0 + 8) (cast_unsigned w64 p.stride) (let w = word_long p.base in omega (arith, w))
      (λ j m. ap (λ i. get_or (word_bytes (cast_unsigned w64 p.stride)) i 0) (let q : 0 + j ≡ j = omega arith in q) ∙ in_word (cast_unsigned w64 p.stride) j m);
}

pub left_place : (xs ys : List ℕ) (d : ℕ) (p : Place) → d + 16 ≤ length xs → HasPlace xs d p → HasPlace (xs ++ ys) d p
left_place xs ys d p l h = record { base = left_word xs ys d p.base (omega (arith, l)) h.base; stride = left_word xs ys (d + 8) (cast_unsigned w64 p.stride) (omega (arith, l)) h.stride }

pub right_place : (xs ys : List ℕ) (d e : ℕ) (p : Place) → length xs + d ≡ e → HasPlace ys d p → HasPlace (xs ++ ys) e p
right_place xs ys d e p is h = record { base = right_word xs ys d e p.base is h.base; stride = right_word xs ys (d + 8) (e + 8) (cast_unsigned w64 p.stride) (omega (arith, is)) h.stride }

pub places_have : (ps : List Place) (k : ℕ) → k < length ps → HasPlace (places_bytes ps) (16 * k) (slice_index_or ps k no_place)
places_have [] k l = absurd (omega (arith, l))
places_have (p ∷ ps) zero l = left_place (place_bytes p) (places_bytes ps) 0 p (let w = place_long p in omega (arith, w)) (first_place p)
places_have (p ∷ ps) (suc k) l = right_place (place_bytes p) (places_bytes ps) (16 * k) (16 * suc k) (slice_index_or ps k no_place) (let w = place_long p in omega (arith, w)) (places_have ps k (omega (arith, l)))

-- bytes that are no more than a length have it with zeros behind them
pub padded_to : (size : ℕ) (bytes : List ℕ) → length bytes ≤ size → length (padded size bytes) ≡ size
padded_to size bytes l = let a = length-append bytes (replicate (size - length bytes) 0) in let r = length-replicate {A = ℕ} (size - length bytes) 0 in omega (arith, a, r, l)

-- ---- all of them are bytes

pub bytes_both : (xs ys : List ℕ) → AreBytes xs → AreBytes ys → AreBytes (xs ++ ys)
bytes_both xs ys f g i = elim (cases_lt i (length xs)) [
  | inl l ↦ rw (get_or-append xs ys 0 i l) (f i)
  | inr m ↦ rw (get_or-append_right xs ys i 0 m) (g (i - length xs))
]

pub bytes_same : (n v : ℕ) → v < 256 → AreBytes (replicate n v)
bytes_same n v small i = elim (cases_lt i n) [
  | inl l ↦ rw (get_or-replicate n i v 0 l) small
  | inr m ↦ rw (get_or_past (replicate n v) i 0 (let k = length-replicate {A = ℕ} n v in omega (arith, k, m))) (lit< tt)
]

pub bytes_word : (v : ℕ) → AreBytes (word_bytes v)
bytes_word v i = elim (cases_lt i 8) [
  | inl l ↦ rw (in_word v i l) (omega arith)
  | inr m ↦ rw (get_or_past (word_bytes v) i 0 (let k = word_long v in omega (arith, k, m))) (lit< tt)
]

pub bytes_words : (ns : List ℕ) → AreBytes (words_bytes ns)
bytes_words [] = λ i. lit< tt
bytes_words (n ∷ ns) = bytes_both (word_bytes n) (words_bytes ns) (bytes_word n) (bytes_words ns)

pub bytes_places : (ps : List Place) → AreBytes (places_bytes ps)
bytes_places [] = λ i. lit< tt
bytes_places (p ∷ ps) = bytes_both (place_bytes p) (places_bytes ps) (bytes_both (word_bytes p.base) (word_bytes (cast_unsigned w64 p.stride)) (bytes_word p.base) (bytes_word (cast_unsigned w64 p.stride))) (bytes_places ps)

pub bytes_padded : (size : ℕ) (bytes : List ℕ) → AreBytes bytes → AreBytes (padded size bytes)
bytes_padded size bytes f = bytes_both bytes (replicate (size - length bytes) 0) f (bytes_same (size - length bytes) 0 (lit< tt))
