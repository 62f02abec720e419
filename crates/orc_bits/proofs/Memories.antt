-- Reads and writes of memory, at addresses modulo 2 ^ 64.
use Rattle.std.proofs.Common.{◌≡◌, ◌≢◌, ℕ, zero, suc, ◌+◌, ◌*◌, ◌%◌, ◌^◌, ◌<◌, ◌&&◌, Bool, true, false, if◌then◌else◌, List, [], ◌∷◌, get_or, Option, Some, None, is_some, refl, sym, ap, ◌∙◌, subst, arith, mod-eq_of_lt, ◌⊎◌, inl, inr, ⊎_elim, true≢false, lit<}
use Rattle.std.proofs.lemmas.Bool.{cases_eq, cases_lt}
use Rattle.std.proofs.Math.Nat.{pow-succ'}
use Rattle.orc_bits.proofs.LaneLaws.{eq_false, eq_true}
use Rattle.orc_bits.specs.Memory.{Memory, bind, put, read, number, value, fill, store, all_mapped, IsMapped}

-- ---- values that may not be there

abbrev IsNothing : {A : Type 0} → Option A → Type 0
IsNothing None = Unit {0}
IsNothing (Some x) = ⊥

pub none_some : {A : Type 0} {x : A} → None ≡ Some x → ⊥
none_some e = subst IsNothing e tt

abbrev pub or_else : {A : Type 0} → A → Option A → A
or_else d None = d
or_else d (Some x) = x

pub some_one : {A : Type 0} (x y : A) → Some x ≡ Some y → x ≡ y
some_one x y e = ap (or_else x) e

pub bind_some : {A B : Type 0} (o : Option A) (f : A → Option B) (d : B) → bind o f ≡ Some d → (x : A) × (o ≡ Some x) × (f x ≡ Some d)
bind_some None f d e = absurd (none_some e)
bind_some (Some x) f d e = (x, refl, e)

-- ---- one byte

pub put_other : (mem : Memory) (a v x : ℕ) → x ≢ a → put mem a v x ≡ mem x
unfolding put
put_other mem a v x ne = ap (λ b. if b then Some v else mem x) (eq_false x a ne)

pub put_same : (mem : Memory) (a v : ℕ) → put mem a v a ≡ Some v
unfolding put
put_same mem a v = ap (λ b. if b then Some v else mem a) (eq_true a)

pub mapped_value : (mem : Memory) (a : ℕ) → IsMapped mem a → (v : ℕ) × (mem a ≡ Some v)
mapped_value mem a h = go (mem a) refl
  where
    go : (o : Option ℕ) → mem a ≡ o → (v : ℕ) × (mem a ≡ Some v)
    go None e = absurd (true≢false (sym h ∙ ap is_some e))
    go (Some v) e = (v, e)

pub put_mapped : (mem : Memory) (a v x : ℕ) → IsMapped mem x → IsMapped (put mem a v) x
put_mapped mem a v x h = go (cases_eq x a)
  where
    go : (x ≡ a) ⊎ (x ≢ a) → IsMapped (put mem a v) x
    go (inl e) = ap is_some (ap (put mem a v) e ∙ put_same mem a v)
    go (inr ne) = ap is_some (put_other mem a v x ne) ∙ h

-- ---- so many bytes

-- below 2 ^ 63 no address comes round
straight : (a n j : ℕ) → a + n < 2 ^ 63 → j < n → (a + j) % 2 ^ 64 ≡ a + j
straight a n j w l = mod-eq_of_lt (omega (arith, w, l))

-- bytes elsewhere stay
pub fill_other : (n : ℕ) (mem : Memory) (a : ℕ) (f : ℕ → ℕ) (x : ℕ) → ((j : ℕ) → j < n → x ≢ (a + j) % 2 ^ 64) → fill n mem a f x ≡ mem x
unfolding fill
fill_other zero mem a f x h = refl
fill_other (suc n) mem a f x h = put_other (fill n mem a f) ((a + n) % 2 ^ 64) (f n) x (h n (omega arith)) ∙ fill_other n mem a f x (λ j l. h j (omega (arith, l)))

pub fill_out : (n : ℕ) (mem : Memory) (a : ℕ) (f : ℕ → ℕ) (x : ℕ) → a + n < 2 ^ 63 → ((j : ℕ) → j < n → x ≢ a + j) → fill n mem a f x ≡ mem x
fill_out n mem a f x w h = fill_other n mem a f x (λ j l e. h j l (e ∙ straight a n j w l))

-- those within are as written
pub fill_in : (n : ℕ) (mem : Memory) (a : ℕ) (f : ℕ → ℕ) (j : ℕ) → a + n < 2 ^ 63 → j < n → fill n mem a f (a + j) ≡ Some (f j)
unfolding fill
fill_in zero mem a f j w h = absurd (omega (arith, h))
fill_in (suc n) mem a f j w h =
    let at : (a + n) % 2 ^ 64 ≡ a + n = straight a (suc n) n w (omega arith) in
    ⊎_elim
    (λ l. put_other (fill n mem a f) ((a + n) % 2 ^ 64) (f n) (a + j) (λ e. omega (arith, e, at, l)) ∙ fill_in n mem a f j (omega (arith, w)) l)
    (λ g. ap (put (fill n mem a f) ((a + n) % 2 ^ 64) (f n)) (let p : a + j ≡ (a + n) % 2 ^ 64 = omega (arith, at, g, h) in p) ∙ put_same (fill n mem a f) ((a + n) % 2 ^ 64) (f n) ∙ ap (λ k. Some (f k)) (let p : n ≡ j = omega (arith, g, h) in p))
    (cases_lt j n)

-- and what is mapped stays mapped
pub fill_mapped : (n : ℕ) (mem : Memory) (a : ℕ) (f : ℕ → ℕ) (x : ℕ) → IsMapped mem x → IsMapped (fill n mem a f) x
unfolding fill
fill_mapped zero mem a f x h = h
fill_mapped (suc n) mem a f x h = put_mapped (fill n mem a f) ((a + n) % 2 ^ 64) (f n) x (fill_mapped n mem a f x h)

pub store_fills : (n : ℕ) (mem : Memory) (a : ℕ) (f : ℕ → ℕ) (end : Memory) → store n mem a f ≡ Some end → fill n mem a f ≡ end
store_fills n mem a f end e = go (all_mapped n mem a) e
  where
    go : (t : Bool) → (if t then Some (fill n mem a f) else None) ≡ Some end → fill n mem a f ≡ end
    go true e = some_one _ end e
    go false e = absurd (none_some e)

pub store_there : (n : ℕ) (mem : Memory) (a : ℕ) (f : ℕ → ℕ) → all_mapped n mem a ≡ true → store n mem a f ≡ Some (fill n mem a f)
store_there n mem a f e = ap (λ t. if t then Some (fill n mem a f) else None) e

-- ---- bytes that are all mapped

abbrev pub AreMapped : ℕ → Memory → ℕ → Type 0
AreMapped n mem a = (j : ℕ) → j < n → IsMapped mem ((a + j) % 2 ^ 64)

abbrev rest_mapped : (n : ℕ) (mem : Memory) (a : ℕ) → AreMapped (suc n) mem a → AreMapped n mem (a + 1)
rest_mapped n mem a h = λ j l. subst (λ x. IsMapped mem (x % 2 ^ 64)) (let e : a + suc j ≡ a + 1 + j = omega arith in e) (h (suc j) (omega (arith, l)))

first_mapped : (n : ℕ) (mem : Memory) (a : ℕ) → AreMapped (suc n) mem a → IsMapped mem (a % 2 ^ 64)
first_mapped n mem a h = subst (λ x. IsMapped mem (x % 2 ^ 64)) (let e : a + 0 ≡ a = omega arith in e) (h 0 (omega arith))

pub all_mapped_there : (n : ℕ) (mem : Memory) (a : ℕ) → AreMapped n mem a → all_mapped n mem a ≡ true
all_mapped_there zero mem a h = refl
all_mapped_there (suc n) mem a h =
    ap (λ b. b && all_mapped n mem (a + 1)) (first_mapped n mem a h)
    ∙ all_mapped_there n mem (a + 1) (rest_mapped n mem a h)

pub all_there : (n : ℕ) (mem : Memory) (a : ℕ) → a + n < 2 ^ 63 → ((j : ℕ) → j < n → is_some (mem (a + j)) ≡ true) → all_mapped n mem a ≡ true
all_there n mem a w h = all_mapped_there n mem a (λ j l. ap (λ x. is_some (mem x)) (straight a n j w l) ∙ h j l)

pub read_there : (n : ℕ) (mem : Memory) (a : ℕ) → AreMapped n mem a → (bs : List ℕ) × (read n mem a ≡ Some bs)
read_there zero mem a h = ([], refl)
read_there (suc n) mem a h =
    let here = mapped_value mem (a % 2 ^ 64) (first_mapped n mem a h) in
    let rest = read_there n mem (a + 1) (rest_mapped n mem a h) in
    (here.0 ∷ rest.0, ap (λ o. bind o (λ b. bind (read n mem (a + 1)) (λ bs. Some (b ∷ bs)))) here.1 ∙ ap (λ o. bind o (λ bs. Some (here.0 ∷ bs))) rest.1)

pub value_there : (n : ℕ) (mem : Memory) (a : ℕ) → AreMapped n mem a → (v : ℕ) × (value n mem a ≡ Some v)
value_there n mem a h =
    let bytes = read_there n mem a h in
    (number bytes.0, ap (λ o. bind o (λ bs. Some (number bs))) bytes.1)

pub store_mapped : (n : ℕ) (mem : Memory) (a : ℕ) (f : ℕ → ℕ) → AreMapped n mem a → store n mem a f ≡ Some (fill n mem a f)
store_mapped n mem a f h = store_there n mem a f (all_mapped_there n mem a h)

-- a read of known bytes
pub read_lanes : (n : ℕ) (mem : Memory) (a : ℕ) (f : ℕ → ℕ) → a + n < 2 ^ 63 → ((j : ℕ) → j < n → mem (a + j) ≡ Some (f j)) → (bs : List ℕ) × (read n mem a ≡ Some bs) × ((j : ℕ) → j < n → get_or bs j 0 ≡ f j)
read_lanes zero mem a f w h = ([], refl, λ j l. absurd (omega (arith, l)))
read_lanes (suc n) mem a f w h =
    let e : a % 2 ^ 64 ≡ a + 0 = omega (arith, w) in
    let here : mem (a % 2 ^ 64) ≡ Some (f 0) = ap mem e ∙ h 0 (omega arith) in
    let rest = read_lanes n mem (a + 1) (λ j. f (suc j)) (omega (arith, w)) (λ j l. ap mem (let q : a + 1 + j ≡ a + suc j = omega arith in q) ∙ h (suc j) (omega (arith, l))) in
    (f 0 ∷ rest.0, ap (λ o. bind o (λ b. bind (read n mem (a + 1)) (λ bs. Some (b ∷ bs)))) here ∙ ap (λ o. bind o (λ bs. Some (f 0 ∷ bs))) rest.1, lanes n f rest.0 rest.2)
  where
    lanes : (n : ℕ) (f : ℕ → ℕ) (bs : List ℕ) → ((j : ℕ) → j < n → get_or bs j 0 ≡ f (suc j)) → (j : ℕ) → j < suc n → get_or (f 0 ∷ bs) j 0 ≡ f j
    lanes n f bs r zero l = refl
    lanes n f bs r (suc j) l = r j (omega (arith, l))

-- ---- bytes stay bytes

abbrev pub Bytewide : Memory → Type 0
Bytewide mem = (a v : ℕ) → mem a ≡ Some v → v < 256

pub put_bytes : (mem : Memory) (a v : ℕ) → v < 256 → Bytewide mem → Bytewide (put mem a v)
put_bytes mem a v l h x w e = go (cases_eq x a)
  where
    go : (x ≡ a) ⊎ (x ≡ a → ⊥) → w < 256
    go (inl q) = subst (λ n. n < 256) (some_one v w (sym (put_same mem a v) ∙ ap (put mem a v) (sym q) ∙ e)) l
    go (inr ne) = h x w (sym (put_other mem a v x ne) ∙ e)

pub fill_bytes : (n : ℕ) (mem : Memory) (a : ℕ) (f : ℕ → ℕ) → ((j : ℕ) → f j < 256) → Bytewide mem → Bytewide (fill n mem a f)
unfolding fill
fill_bytes zero mem a f l h = h
fill_bytes (suc n) mem a f l h = put_bytes (fill n mem a f) ((a + n) % 2 ^ 64) (f n) (l n) (fill_bytes n mem a f l h)

pub read_bytes : (n : ℕ) (mem : Memory) (a : ℕ) (bs : List ℕ) → Bytewide mem → read n mem a ≡ Some bs → (j : ℕ) → get_or bs j 0 < 256
read_bytes zero mem a bs h e j = subst (λ l. get_or l j 0 < 256) (some_one [] bs e) (lit< tt)
read_bytes (suc n) mem a bs h e j =
    let x = bind_some (mem (a % 2 ^ 64)) _ bs e in
    let y = bind_some (read n mem (a + 1)) _ bs x.2 in
    subst (λ l. get_or l j 0 < 256) (some_one (x.0 ∷ y.0) bs y.2) (each x.0 y.0 (read_bytes n mem (a + 1) y.0 h y.1) (h _ x.0 x.1) j)
  where
    each : (x : ℕ) (l : List ℕ) → ((j : ℕ) → get_or l j 0 < 256) → x < 256 → (j : ℕ) → get_or (x ∷ l) j 0 < 256
    each x l r f zero = f
    each x l r f (suc j) = r j

pub value_small : (n : ℕ) (mem : Memory) (a v : ℕ) → Bytewide mem → value n mem a ≡ Some v → v < 256 ^ n
value_small n mem a v h e =
    let x = bind_some (read n mem a) _ v e in
    subst (λ k. k < 256 ^ n) (some_one (number x.0) v x.2) (small n mem a x.0 h x.1)
  where
    small : (n : ℕ) (mem : Memory) (a : ℕ) (bs : List ℕ) → Bytewide mem → read n mem a ≡ Some bs → number bs < 256 ^ n
    small zero mem a bs h e = subst (λ l. number l < 1) (some_one [] bs e) (lit< tt)
    small (suc n) mem a bs h e =
        let x = bind_some (mem (a % 2 ^ 64)) _ bs e in
        let y = bind_some (read n mem (a + 1)) _ bs x.2 in
        let b : x.0 < 256 = h _ x.0 x.1 in
        let r : number y.0 < 256 ^ n = small n mem (a + 1) y.0 h y.1 in
        let p : 256 ^ suc n ≡ 256 * 256 ^ n = pow-succ' 256 n in
        subst (λ l. number l < 256 ^ suc n) (some_one (x.0 ∷ y.0) bs y.2) (let q : x.0 + 256 * number y.0 < 256 ^ suc n = rw p (omega (arith, b, r)) in q)
