-- The bytes that are a part's alone: its block, its return word and its frame.
use Rattle.std.proofs.Common.{◌≡◌, ℕ, zero, suc, ◌+◌, ◌-◌, ◌<◌, ◌≤◌, List, [], ◌∷◌, ◌++◌, length, take, drop, get_or, Option, Some, None, is_some, true≢false, refl, sym, ap, ◌∙◌, subst, arith, ◌⊎◌, inl, inr, ⊎_elim, length-append, length-drop}
use Rattle.std.proofs.lemmas.Bool.{cases_lt}
use Rattle.std.proofs.lemmas.List.{length-replicate, length-take-le}
use Rattle.orc_bits.specs.declared.parts.Part.{Part}
use Rattle.orc_bits.specs.Memory.{Memory, IsMapped}
use Rattle.orc_bits.specs.Parts.{memory_of}
use Rattle.orc_bits.specs.Lanes.{AreBytes}
use Rattle.orc_bits.proofs.Memories.{none_some}
use Rattle.orc_program.specs.declared.call.Call.{Call}
use Rattle.orc_frame.specs.Layout.{frame_size}
use Rattle.orc_frame.specs.Parts.{InBlock, InReturn, InFrame, block_size, base_word, param_word}
use Rattle.orc_worlds.specs.Placement.{filler, return_to, word_bytes, words_bytes, places_bytes, padded, block_bytes, frame_bytes}
use Rattle.orc_worlds.specs.Worlds.{block_of, stack_of, own_parts, first_own}
use Rattle.orc_worlds.proofs.Behind.{more_behind, none_before, first_byte, next_byte, mapped_in, small_in}
use Rattle.orc_worlds.proofs.BlockWords.{word_long, words_long, places_long, padded_to, bytes_same, bytes_both, bytes_word, bytes_words, bytes_places, bytes_padded}
use Rattle.std.proofs.Common.{lit<}

-- ---- the block

pub block_long : (dests : ℕ) (call : Call) → dests ≤ 4 → dests ≤ length call.arrays.items → length call.arrays.items ≤ dests + 8 → length call.params.items ≤ 8 → length (block_bytes dests call) ≡ block_size
unfolding block_bytes
block_long dests call few there more numbers =
    let written = take dests call.arrays.items in
    let read = drop dests call.arrays.items in
    let front = word_bytes call.n ++ (word_bytes call.m ++ places_bytes written) in
    let a = length-append (word_bytes call.n) (word_bytes call.m ++ places_bytes written) in
    let b = length-append (word_bytes call.m) (places_bytes written) in
    let n = word_long call.n in
    let m = word_long call.m in
    let p = places_long written in
    let w = length-take-le dests call.arrays.items there in
    let first = padded_to 80 front (omega (arith, a, b, n, m, p, w, few)) in
    let c = length-append (padded (base_word 4) front) (places_bytes read) in
    let q = places_long read in
    let r = length-drop dests call.arrays.items in
    let second = padded_to 208 (padded (base_word 4) front ++ places_bytes read) (omega (arith, first, c, q, r, more)) in
    let d = length-append (padded (param_word 0) (padded (base_word 4) front ++ places_bytes read)) (words_bytes call.params.items) in
    let s = words_long call.params.items in
    padded_to 304 (padded (param_word 0) (padded (base_word 4) front ++ places_bytes read) ++ words_bytes call.params.items) (omega (arith, second, d, s, numbers))

pub block_small : (dests : ℕ) (call : Call) → AreBytes (block_bytes dests call)
unfolding block_bytes
block_small dests call =
    let written = take dests call.arrays.items in
    let read = drop dests call.arrays.items in
    let front = word_bytes call.n ++ (word_bytes call.m ++ places_bytes written) in
    bytes_padded 304 _ (bytes_both (padded (param_word 0) (padded (base_word 4) front ++ places_bytes read)) (words_bytes call.params.items)
    (bytes_padded 208 _ (bytes_both (padded (base_word 4) front) (places_bytes read)
    (bytes_padded 80 front (bytes_both (word_bytes call.n) (word_bytes call.m ++ places_bytes written) (bytes_word call.n) (bytes_both (word_bytes call.m) (places_bytes written) (bytes_word call.m) (bytes_places written))))
    (bytes_places read))) (bytes_words call.params.items))

frame_long : length frame_bytes ≡ frame_size
unfolding frame_bytes
frame_long = length-replicate frame_size filler

frame_small : AreBytes frame_bytes
unfolding frame_bytes
frame_small = bytes_same frame_size filler (lit< tt)

-- ---- one part's

-- an address is in block k, in its return word or in its frame
abbrev pub InOwn : ℕ → ℕ → Type 0
InOwn k a = InBlock (block_of k) a ⊎ (InReturn (stack_of k) a ⊎ InFrame (stack_of k - frame_size) a)

module _ (dests : ℕ) (call : Call) (long : length (block_bytes dests call) ≡ block_size) (k : ℕ) where
  abbrev block_part : Part
  block_part = record { at = block_of k; bytes = block_bytes dests call }

  abbrev return_part : Part
  return_part = record { at = stack_of k; bytes = word_bytes return_to }

  abbrev frame_part : Part
  frame_part = record { at = stack_of k - frame_size; bytes = frame_bytes }

  abbrev own : Memory
  own = memory_of (own_parts dests call k)

  pub block_byte : (i : ℕ) → i < 304 → own (block_of k + i) ≡ Some (get_or (block_bytes dests call) i 0)
  block_byte i l = first_byte block_part (return_part ∷ frame_part ∷ []) i (omega (arith, l, long))

  pub return_byte : (i : ℕ) → i < 8 → own (stack_of k + i) ≡ Some (get_or (word_bytes return_to) i 0)
  return_byte i l =
      next_byte block_part (return_part ∷ frame_part ∷ []) (stack_of k + i) (inl (omega (arith, long)))
      ∙ first_byte return_part (frame_part ∷ []) i (let w = word_long return_to in omega (arith, l, w))

  frame_byte : (i : ℕ) → i < frame_size → own (stack_of k - frame_size + i) ≡ Some (get_or frame_bytes i 0)
  frame_byte i l =
      next_byte block_part (return_part ∷ frame_part ∷ []) (stack_of k - frame_size + i) (inl (omega (arith, long)))
      ∙ next_byte return_part (frame_part ∷ []) (stack_of k - frame_size + i) (inr (omega (arith, l)))
      ∙ first_byte frame_part [] i (omega (arith, l, frame_long))

  pub in_frame : (a : ℕ) → InFrame (stack_of k - frame_size) a → (v : ℕ) × (own a ≡ Some v)
  in_frame a h =
      let i = a - (stack_of k - frame_size) in
      (get_or frame_bytes i 0, ap own (let q : a ≡ stack_of k - frame_size + i = omega (arith, h) in q) ∙ frame_byte i (omega (arith, h)))

  pub own_bytes : (a v : ℕ) → own a ≡ Some v → v < 256
  own_bytes = small_in block_part (return_part ∷ frame_part ∷ []) (block_small dests call)
      (small_in return_part (frame_part ∷ []) (bytes_word return_to)
      (small_in frame_part [] frame_small (λ a v e. absurd (none_some e))))

  frame_or : (a : ℕ) → IsMapped (memory_of (frame_part ∷ [])) a → InFrame (stack_of k - frame_size) a
  frame_or a h = ⊎_elim (λ o. (o.0, omega (arith, o, frame_long))) (λ o. absurd (true≢false (sym o))) (mapped_in frame_part [] a h)

  return_or : (a : ℕ) → IsMapped (memory_of (return_part ∷ frame_part ∷ [])) a → InReturn (stack_of k) a ⊎ InFrame (stack_of k - frame_size) a
  return_or a h = ⊎_elim (λ o. inl (o.0, let w = word_long return_to in omega (arith, o, w))) (λ o. inr (frame_or a o)) (mapped_in return_part (frame_part ∷ []) a h)

  pub in_own : (a : ℕ) → IsMapped own a → InOwn k a
  in_own a h = ⊎_elim (λ o. inl (o.0, omega (arith, o, long))) (λ o. inr (return_or a o)) (mapped_in block_part (return_part ∷ frame_part ∷ []) a h)

-- the parts' own bytes lie apart
pub own_range : (k a : ℕ) → InOwn k a → (block_of k ≤ a) × (a < block_of (suc k))
own_range k a (inl h) = (omega (arith, h), omega (arith, h))
own_range k a (inr (inl h)) = (omega (arith, h), omega (arith, h))
own_range k a (inr (inr h)) = (omega (arith, h), omega (arith, h))

-- ---- those of the first parts

module _ (dests : ℕ) (calls : ℕ → Call) (long : (k : ℕ) → length (block_bytes dests (calls k)) ≡ block_size) where
  abbrev own_of : ℕ → Memory
  own_of k = memory_of (own_parts dests (calls k) k)

  abbrev first : ℕ → List Part
  first n = first_own dests calls n

  not_own : (k a : ℕ) → (InOwn k a → ⊥) → own_of k a ≡ None
  not_own k a h = go (own_of k a) refl
    where
      go : (o : Option ℕ) → own_of k a ≡ o → own_of k a ≡ None
      go None e = e
      go (Some v) e = absurd (h (in_own dests (calls k) (long k) k a (ap is_some e)))

  none_yet : (n a : ℕ) → block_of n ≤ a → memory_of (first n) a ≡ None
  none_yet zero a l = refl
  none_yet (suc n) a l = none_before (first n) (own_parts dests (calls n) n) a (none_yet n a (omega (arith, l))) ∙ not_own n a (λ h. let r = own_range n a h in omega (arith, r, l))

  pub first_has : (n k a v : ℕ) → k < n → own_of k a ≡ Some v → memory_of (first n) a ≡ Some v
  first_has zero k a v l e = absurd (omega (arith, l))
  first_has (suc n) k a v l e = ⊎_elim
      (λ less. let h = first_has n k a v less e in more_behind (first n) (own_parts dests (calls n) n) a (ap is_some h) ∙ h)
      (λ more.
      let is : k ≡ n = omega (arith, l, more) in
      let here : own_of n a ≡ Some v = subst (λ j. own_of j a ≡ Some v) is e in
      let r = own_range n a (in_own dests (calls n) (long n) n a (ap is_some here)) in
      none_before (first n) (own_parts dests (calls n) n) a (none_yet n a r.0) ∙ here)
      (cases_lt k n)

  pub first_found : (n a v : ℕ) → memory_of (first n) a ≡ Some v → (k : ℕ) × (k < n) × (own_of k a ≡ Some v)
  first_found zero a v e = absurd (none_some e)
  first_found (suc n) a v e = go (memory_of (first n) a) refl (first_found n a v)
    where
      go : (o : Option ℕ) → memory_of (first n) a ≡ o → (memory_of (first n) a ≡ Some v → (k : ℕ) × (k < n) × (own_of k a ≡ Some v)) → (k : ℕ) × (k < suc n) × (own_of k a ≡ Some v)
      go None none rest = (n, omega arith, sym (none_before (first n) (own_parts dests (calls n) n) a none) ∙ e)
      go (Some w) there rest =
          let same : memory_of (first n) a ≡ Some v = sym (more_behind (first n) (own_parts dests (calls n) n) a (ap is_some there)) ∙ e in
          let x = rest same in
          (x.0, omega (arith, x.1), x.2)
