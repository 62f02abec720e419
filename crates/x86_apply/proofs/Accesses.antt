-- Accesses byte by byte.
use Rattle.std.proofs.Common.{◌≡◌, ℕ, zero, suc, ◌+◌, ◌-◌, ◌*◌, ◌%◌, ◌^◌, ◌<◌, ◌≤◌, ◌&&◌, nat_lt, Bool, true, false, if◌then◌else◌, List, [], ◌∷◌, get_or, Option, Some, None, is_some, refl, sym, ap, ap₂, ◌∙◌, arith, true≢false, length, ◌⊎◌, inl, inr}
use Rattle.std.proofs.lemmas.Bool.{cases_eq, cases_lt}
use Rattle.std.proofs.lemmas.List.{get_or_past}
use Rattle.std.proofs.lemmas.List.FromFn.{fill_by_all}
use Rattle.orc_bits.specs.Lanes.{from_bytes, lane, number_at}
use Rattle.x86_ins.specs.declared.state.Trap.{Trap}
use Rattle.x86_ins.specs.declared.state.Why.TheVariants as why
use Rattle.orc_bits.proofs.LaneLaws.{from_byte}
use Rattle.orc_bits.proofs.Memories.{put_same, put_other, none_some, some_one, bind_some, all_mapped_there, store_there}
use Rattle.orc_bits.specs.Memory.{Memory, put, fill, all_mapped, missing, read, bind, number, value, store}
use Rattle.x86_apply.specs.Access.{absent, byte_or_zero, taken}

-- one byte that is mapped, then the rest
pub absent_step : (n : ℕ) (mem : Memory) (a : ℕ) → 0 < n → is_some (mem (a % 2 ^ 64)) ≡ true → absent n mem a ≡ absent (n - 1) mem (a + 1)
absent_step zero mem a h e = absurd (omega (arith, h))
absent_step (suc n) mem a h e =
    ap (λ t. if t && all_mapped n mem (a + 1) then None else Some (if t then missing n mem (a + 1) else a % 2 ^ 64)) e
    ∙ ap (λ k. absent k mem (a + 1)) (let q : n ≡ suc n - 1 = omega arith in q)

pub absent_next : (n k : ℕ) (mem : Memory) (a : ℕ) → k < n → is_some (mem ((a + k) % 2 ^ 64)) ≡ true → absent (n - k) mem (a + k) ≡ absent (n - (k + 1)) mem (a + (k + 1))
absent_next n k mem a h e =
    absent_step (n - k) mem (a + k) (omega (arith, h)) e
    ∙ ap₂ (λ i b. absent i mem b) (let q : n - k - 1 ≡ n - (k + 1) = omega arith in q) (let q : a + k + 1 ≡ a + (k + 1) = omega arith in q)

-- the register with these bytes
pub is_from_bytes : (out : List ℕ) (g : ℕ → ℕ) → length out ≡ 16 → ((j : ℕ) → j < 16 → get_or out j 0 ≡ g j) → out ≡ from_bytes g
unfolding from_bytes
is_from_bytes out g l h = fill_by_all g out 16 0 l h

pub fill_none : (mem : Memory) (a : ℕ) (f : ℕ → ℕ) → mem ≡ fill 0 mem a f
unfolding fill
fill_none mem a f = refl

pub fill_next : (k : ℕ) (mem : Memory) (a : ℕ) (f : ℕ → ℕ) → put (fill k mem a f) ((a + k) % 2 ^ 64) (f k) ≡ fill (k + 1) mem a f
unfolding fill
fill_next k mem a f = ap (λ n. fill n mem a f) (let q : suc k ≡ k + 1 = omega arith in q)

pub put_stays : (mem : Memory) (a v x : ℕ) → is_some (mem x) ≡ true → is_some (put mem a v x) ≡ true
put_stays mem a v x h = go (cases_eq x a)
  where
    go : (x ≡ a) ⊎ (x ≡ a → ⊥) → is_some (put mem a v x) ≡ true
    go (inl e) = ap is_some (ap (put mem a v) e ∙ put_same mem a v)
    go (inr ne) = ap is_some (put_other mem a v x ne) ∙ h

pub fill_stays : (k : ℕ) (mem : Memory) (a : ℕ) (f : ℕ → ℕ) (x : ℕ) → is_some (mem x) ≡ true → is_some (fill k mem a f x) ≡ true
unfolding fill
fill_stays zero mem a f x h = h
fill_stays (suc k) mem a f x h = put_stays (fill k mem a f) ((a + k) % 2 ^ 64) (f k) x (fill_stays k mem a f x h)

and_first : (s t : Bool) → (s && t) ≡ true → s ≡ true
and_first true t h = refl
and_first false t h = h

and_second : (s t : Bool) → (s && t) ≡ true → t ≡ true
and_second true t h = h
and_second false t h = absurd (let e : ⊥ = cc in e)

-- each byte of an access whose bytes are all mapped
pub all_at : (n : ℕ) (mem : Memory) (a k : ℕ) → all_mapped n mem a ≡ true → k < n → is_some (mem ((a + k) % 2 ^ 64)) ≡ true
all_at zero mem a k h l = absurd (omega (arith, l))
all_at (suc n) mem a zero h l = ap (λ b. is_some (mem (b % 2 ^ 64))) (let q : a + 0 ≡ a = omega arith in q) ∙ and_first _ _ h
all_at (suc n) mem a (suc k) h l = ap (λ b. is_some (mem (b % 2 ^ 64))) (let q : a + suc k ≡ a + 1 + k = omega arith in q) ∙ all_at n mem (a + 1) k (and_second _ _ h) (omega (arith, l))

-- one byte more of an access whose bytes are all mapped
pub write_next : (n k : ℕ) (mem now later : Memory) (a : ℕ) (f : ℕ → ℕ) (done : Bool) → all_mapped n mem a ≡ true → k < n → now ≡ fill k mem a f →
    done ≡ is_some (now ((a + k) % 2 ^ 64)) → later ≡ (if done then put now ((a + k) % 2 ^ 64) (f k) else now) → later ≡ fill (k + 1) mem a f
write_next n k mem now later a f done h l e c d =
    let t : done ≡ true = c ∙ ap (λ (m : Memory). is_some (m ((a + k) % 2 ^ 64))) e ∙ fill_stays k mem a f ((a + k) % 2 ^ 64) (all_at n mem a k h l) in
    d ∙ ap (λ b. if b then put now ((a + k) % 2 ^ 64) (f k) else now) t ∙ ap (λ (m : Memory). put m ((a + k) % 2 ^ 64) (f k)) e ∙ fill_next k mem a f

-- ---- what a load and a store give

read_there : (n : ℕ) (mem : Memory) (a : ℕ) → all_mapped n mem a ≡ true → (bs : List ℕ) × (read n mem a ≡ Some bs) × ((j : ℕ) → j < n → get_or bs j 0 ≡ byte_or_zero (mem ((a + j) % 2 ^ 64))) × (length bs ≡ n)
read_there zero mem a h = ([], refl, λ j l. absurd (omega (arith, l)), refl)
read_there (suc n) mem a h =
    let rest = read_there n mem (a + 1) (and_second _ _ h) in
    first (mem (a % 2 ^ 64)) refl (and_first _ _ h) rest
  where
    first : (o : Option ℕ) → mem (a % 2 ^ 64) ≡ o → is_some (mem (a % 2 ^ 64)) ≡ true →
        (bs : List ℕ) × (read n mem (a + 1) ≡ Some bs) × ((j : ℕ) → j < n → get_or bs j 0 ≡ byte_or_zero (mem ((a + 1 + j) % 2 ^ 64))) × (length bs ≡ n) →
        (bs : List ℕ) × (read (suc n) mem a ≡ Some bs) × ((j : ℕ) → j < suc n → get_or bs j 0 ≡ byte_or_zero (mem ((a + j) % 2 ^ 64))) × (length bs ≡ suc n)
    first None e t r = absurd (true≢false (sym t ∙ ap is_some e))
    first (Some b) e t r = (
      b ∷ r.0,
      ap (λ o. bind o (λ b. bind (read n mem (a + 1)) (λ bs. Some (b ∷ bs)))) e ∙ ap (λ o. bind o (λ bs. Some (b ∷ bs))) r.1,
      each r.0 r.2,
      ap suc r.3,
    )
      where
        each : (bs : List ℕ) → ((j : ℕ) → j < n → get_or bs j 0 ≡ byte_or_zero (mem ((a + 1 + j) % 2 ^ 64))) → (j : ℕ) → j < suc n → get_or (b ∷ bs) j 0 ≡ byte_or_zero (mem ((a + j) % 2 ^ 64))
        each bs h zero l = sym (ap (λ i. byte_or_zero (mem (i % 2 ^ 64))) (let q : a + 0 ≡ a = omega arith in q) ∙ ap byte_or_zero e)
        each bs h (suc j) l = h j (omega (arith, l)) ∙ ap (λ i. byte_or_zero (mem (i % 2 ^ 64))) (let q : a + 1 + j ≡ a + suc j = omega arith in q)

pub all_of : (n : ℕ) (mem : Memory) (a : ℕ) → absent n mem a ≡ None → all_mapped n mem a ≡ true
all_of n mem a e = go (all_mapped n mem a) refl
  where
    go : (t : Bool) → all_mapped n mem a ≡ t → all_mapped n mem a ≡ true
    go true h = h
    go false h = absurd (none_some (sym e ∙ ap (λ b. if b then None else Some (missing n mem a)) h))

-- the bytes of a read, as a register
pub read_taken : (n : ℕ) (mem : Memory) (a : ℕ) → absent n mem a ≡ None → (bs : List ℕ) × (read n mem a ≡ Some bs) × ((j : ℕ) → get_or bs j 0 ≡ taken n mem a j)
read_taken n mem a e =
    let r = read_there n mem a (all_of n mem a e) in
    (r.0, r.1, λ j. go r.0 r.2 r.3 j (cases_lt j n))
  where
    go : (bs : List ℕ) → ((j : ℕ) → j < n → get_or bs j 0 ≡ byte_or_zero (mem ((a + j) % 2 ^ 64))) → length bs ≡ n → (j : ℕ) → (j < n) ⊎ (n ≤ j) → get_or bs j 0 ≡ taken n mem a j
    go bs h len j (inl l) = h j l ∙ sym (ap (λ t. if t then byte_or_zero (mem ((a + j) % 2 ^ 64)) else 0) (let q : nat_lt j n ≡ true = grind (arith) in q))
    go bs h len j (inr l) = get_or_past bs j 0 (omega (arith, l, len)) ∙ sym (ap (λ t. if t then byte_or_zero (mem ((a + j) % 2 ^ 64)) else 0) (let q : nat_lt j n ≡ false = grind (arith) in q))

number_of : (bs out : List ℕ) (at : ℕ) → ((j : ℕ) → j < length bs → get_or out (at + j) 0 ≡ get_or bs j 0) → number_at out at (length bs) ≡ number bs
unfolding number_at
number_of [] out at h = refl
number_of (b ∷ bs) out at h =
    let first : get_or out at 0 ≡ b = ap (λ i. get_or out i 0) (let q : at ≡ at + 0 = omega arith in q) ∙ h 0 (omega arith) in
    let rest = number_of bs out (at + 1) (λ j l. ap (λ i. get_or out i 0) (let q : at + 1 + j ≡ at + suc j = omega arith in q) ∙ h (suc j) (omega (arith, l))) in
    ap₂ (λ x y. x + 256 * y) first rest

-- the number that a load gives
pub value_taken : (n : ℕ) (mem : Memory) (a : ℕ) → n ≤ 16 → absent n mem a ≡ None → value n mem a ≡ Some (lane n 0 (from_bytes (taken n mem a)))
unfolding lane
value_taken n mem a few e =
    let r = read_there n mem a (all_of n mem a e) in
    let t = read_taken n mem a e in
    let same : t.0 ≡ r.0 = some_one t.0 r.0 (sym t.1 ∙ r.1) in
    let here : (j : ℕ) → j < length r.0 → get_or (from_bytes (taken n mem a)) (0 + j) 0 ≡ get_or r.0 j 0 =
    λ j l. ap (λ i. get_or (from_bytes (taken n mem a)) i 0) (let q : 0 + j ≡ j = omega arith in q) ∙ from_byte (taken n mem a) j (let q : j < 16 = omega (arith, l, few, r.3) in q) ∙ sym (t.2 j) ∙ ap (λ l. get_or l j 0) same in
    ap (λ o. bind o (λ bs. Some (number bs))) r.1 ∙ ap Some (sym (ap (λ i. number_at (from_bytes (taken n mem a)) i n) (let q : 0 * n ≡ 0 = omega arith in q) ∙ ap (number_at (from_bytes (taken n mem a)) 0) (sym r.3) ∙ number_of r.0 (from_bytes (taken n mem a)) 0 here))

-- a vector load gives the bytes as a register
pub load_taken : (n : ℕ) (mem : Memory) (a : ℕ) → absent n mem a ≡ None → (bs : List ℕ) × (read n mem a ≡ Some bs) × (from_bytes (λ j. get_or bs j 0) ≡ from_bytes (taken n mem a))
load_taken n mem a e = let r = read_taken n mem a e in (r.0, r.1, λ i. from_bytes (λ j. r.2 j i))

pub none_of : (n : ℕ) (mem : Memory) (a b : ℕ) → absent n mem a ≡ Some b → (all_mapped n mem a ≡ true → ⊥) × (b ≡ missing n mem a)
none_of n mem a b e = go (all_mapped n mem a) refl
  where
    go : (t : Bool) → all_mapped n mem a ≡ t → (all_mapped n mem a ≡ true → ⊥) × (b ≡ missing n mem a)
    go true h = absurd (none_some (sym (ap (λ t. if t then None else Some (missing n mem a)) h) ∙ e))
    go false h = (λ t. true≢false (sym t ∙ h), some_one b (missing n mem a) (sym e ∙ ap (λ t. if t then None else Some (missing n mem a)) h))

and_both : (s t : Bool) → s ≡ true → t ≡ true → (s && t) ≡ true
and_both true t h k = k
and_both false t h k = absurd (true≢false (sym h))

read_all_there : (n : ℕ) (mem : Memory) (a : ℕ) (bs : List ℕ) → read n mem a ≡ Some bs → all_mapped n mem a ≡ true
read_all_there zero mem a bs e = refl
read_all_there (suc n) mem a bs e =
    let x = bind_some (mem (a % 2 ^ 64)) _ bs e in
    let y = bind_some (read n mem (a + 1)) _ bs x.2 in
    and_both _ _ (ap is_some x.1) (read_all_there n mem (a + 1) y.0 y.1)

pub read_none : (n : ℕ) (mem : Memory) (a b : ℕ) → absent n mem a ≡ Some b → read n mem a ≡ None
read_none n mem a b e = go (read n mem a) refl
  where
    go : (o : Option (List ℕ)) → read n mem a ≡ o → read n mem a ≡ None
    go None h = h
    go (Some bs) h = absurd ((none_of n mem a b e).0 (read_all_there n mem a bs h))

pub value_none : (n : ℕ) (mem : Memory) (a b : ℕ) → absent n mem a ≡ Some b → value n mem a ≡ None
value_none n mem a b e = ap (λ o. bind o (λ bs. Some (number bs))) (read_none n mem a b e)

pub fill_same : (n : ℕ) (mem : Memory) (a : ℕ) (f g : ℕ → ℕ) → ((j : ℕ) → j < n → f j ≡ g j) → fill n mem a f ≡ fill n mem a g
unfolding fill
fill_same zero mem a f g h = refl
fill_same (suc n) mem a f g h = ap₂ (λ (m : Memory) v. put m ((a + n) % 2 ^ 64) v) (fill_same n mem a f g (λ j l. h j (omega (arith, l)))) (h n (omega arith))

abbrev pub unmapped_at : ℕ → Trap
unmapped_at a = record { at = a; why = why.Unmapped }

pub unmapped : {a b : ℕ} → a ≡ b → unmapped_at a ≡ unmapped_at b
unmapped e = ap unmapped_at e

-- a store writes the first n bytes alone
pub store_same : (n : ℕ) (mem : Memory) (a : ℕ) (f g : ℕ → ℕ) → ((j : ℕ) → j < n → f j ≡ g j) → store n mem a f ≡ store n mem a g
store_same n mem a f g h = ap (λ (m : Memory). if all_mapped n mem a then Some m else None) (fill_same n mem a f g h)

-- ---- bytes that the map has side by side

-- the map has these bytes from an address on
pub record HasSlice (n : ℕ) (mem : Memory) (a : ℕ) (bytes : List ℕ) : Type 0 where
  pub count : length bytes ≡ n
  pub each : (j : ℕ) → j < n → mem ((a + j) % 2 ^ 64) ≡ Some (get_or bytes j 0)

pub slice_there : (n : ℕ) (mem : Memory) (a : ℕ) (bytes : List ℕ) → HasSlice n mem a bytes → absent n mem a ≡ None
slice_there n mem a bytes h = ap (λ t. if t then None else Some (missing n mem a)) (all_mapped_there n mem a (λ j l. ap is_some (h.each j l)))

pub slice_taken : (n : ℕ) (mem : Memory) (a : ℕ) (bytes : List ℕ) → HasSlice n mem a bytes → from_bytes (λ j. if nat_lt j n then get_or bytes j 0 else 0) ≡ from_bytes (taken n mem a)
slice_taken n mem a bytes h = λ i. from_bytes (λ j. go j (cases_lt j n) i)
  where
    go : (j : ℕ) → (j < n) ⊎ (n ≤ j) → (if nat_lt j n then get_or bytes j 0 else 0) ≡ taken n mem a j
    go j (inl l) = ap (λ b. if nat_lt j n then b else 0) (sym (ap byte_or_zero (h.each j l)))
    go j (inr l) =
        let t : nat_lt j n ≡ false = grind (arith) in
        ap (λ t. if t then get_or bytes j 0 else 0) t ∙ sym (ap (λ t. if t then byte_or_zero (mem ((a + j) % 2 ^ 64)) else 0) t)

-- the first n bytes of a list are stored side by side
pub slice_stored : (n : ℕ) (mem later : Memory) (a : ℕ) (from low : List ℕ) → length low ≡ n → ((j : ℕ) → j < n → get_or low j 0 ≡ get_or from j 0)
    → all_mapped (length low) mem a ≡ true → later ≡ fill (length low) mem a (λ j. get_or low j 0) → store n mem a (λ j. get_or from j 0) ≡ Some later
slice_stored n mem later a from low count same there e =
    store_there n mem a (λ j. get_or from j 0) (ap (λ k. all_mapped k mem a) (sym count) ∙ there)
    ∙ ap Some (sym (fill_same n mem a (λ j. get_or low j 0) (λ j. get_or from j 0) same) ∙ ap (λ k. fill k mem a (λ j. get_or low j 0)) (sym count) ∙ sym e)
