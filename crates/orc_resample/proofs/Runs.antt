-- Lists of instructions from a state on, piece by piece.
use Rattle.std.proofs.Common.{◌≡◌, ℕ, ◌+◌, ◌%◌, ◌^◌, ◌<◌, Bool, true, false, ◌&&◌, if◌then◌else◌, ℤ, List, [], ◌∷◌, ◌++◌, get_or, Some, Result, Ok, Err, refl, sym, ap, ◌∙◌, subst, arith, true≢false, inl, inr}
use Rattle.orc_bits.specs.Lanes.{from_bytes}
use Rattle.orc_bits.specs.Memory.{word, value, read}
use Rattle.x86_ins.specs.declared.ins.MoveOp.{MoveOp}
use Rattle.x86_ins.specs.declared.ins.Addr.{Addr}
use Rattle.x86_ins.specs.declared.ins.Ins.{Ins}
use Rattle.x86_ins.specs.declared.ins.Ins.TheVariants.{Vec, VecImm, VecLoad, FromGpr, ToGpr, Move, Load, Load8, Load16, Alu, AluImm, Shift, Imul, Lea, Shuffle, VecStore, Store, Store8, Store16, MovImm, Test, Push, Pop, Jump, JumpIf, Ret}
use Rattle.x86_ins.specs.declared.state.Trap.{Trap}
use Rattle.x86_ins.specs.Machine.{Core, with_gpr, with_xmm, moved, address, access, aligned, move_size, work, span, Touches}
use Rattle.x86_flow.specs.Does.{Line}
use Rattle.x86_flow.specs.Moves.{away}
use Rattle.x86_flow.proofs.Moves.{line_append}
use Rattle.x86_flow.specs.Touching.{touch_weight}
use Rattle.orc_resample.specs.Code.{slot}
use Rattle.orc_resample.specs.Ready.{is_pointer, InWord}
use Rattle.orc_resample.proofs.Twins.{Looks}

-- ---- instructions on registers alone

abbrev is_calm : Ins → Bool
is_calm (Vec op d s) = true
is_calm (VecImm op d n) = true
is_calm (FromGpr wide d s) = true
is_calm (ToGpr wide d s) = true
is_calm (Move d s) = true
is_calm (Alu op d s) = true
is_calm (AluImm op d v) = true
is_calm (Shift op d n) = true
is_calm (Imul d s) = true
is_calm (Lea d at) = true
is_calm _ = false

abbrev pub all_calm : List Ins → Bool
all_calm [] = true
all_calm (i ∷ is) = is_calm i && all_calm is

abbrev reached : Core → Result Core Trap → Core
reached v (Ok d) = d
reached v (Err t) = v

-- the state after such a list
abbrev pub after : List Ins → Core → Core
after [] v = v
after (i ∷ is) v = after is (reached v (work i v))

calm_works : (i : Ins) → is_calm i ≡ true → (v : Core) → work i v ≡ Ok (reached v (work i v))
calm_works (Vec op d s) h v = refl
calm_works (VecImm op d n) h v = refl
calm_works (FromGpr wide d s) h v = refl
calm_works (ToGpr wide d s) h v = refl
calm_works (Move d s) h v = refl
calm_works (Alu op d s) h v = refl
calm_works (AluImm op d x) h v = refl
calm_works (Shift op d n) h v = refl
calm_works (Imul d s) h v = refl
calm_works (Lea d at) h v = refl
calm_works (Shuffle op d s o) h v = absurd (true≢false (sym h))
calm_works (VecLoad op d at) h v = absurd (true≢false (sym h))
calm_works (VecStore op s at) h v = absurd (true≢false (sym h))
calm_works (Load d at) h v = absurd (true≢false (sym h))
calm_works (Load8 d at) h v = absurd (true≢false (sym h))
calm_works (Load16 d at) h v = absurd (true≢false (sym h))
calm_works (Store s at) h v = absurd (true≢false (sym h))
calm_works (Store8 s at) h v = absurd (true≢false (sym h))
calm_works (Store16 s at) h v = absurd (true≢false (sym h))
calm_works (MovImm d x) h v = absurd (true≢false (sym h))
calm_works (Test x y) h v = absurd (true≢false (sym h))
calm_works (Push s) h v = absurd (true≢false (sym h))
calm_works (Pop d) h v = absurd (true≢false (sym h))
calm_works (Jump rel) h v = absurd (true≢false (sym h))
calm_works (JumpIf q rel) h v = absurd (true≢false (sym h))
calm_works Ret h v = absurd (true≢false (sym h))

module _ (Near Far : ℕ → Type 0) where
  calm_looks : (i : Ins) → is_calm i ≡ true → (v : Core) → Looks Near Far v i
  calm_looks (Vec op d s) h v x (j, l, e) = absurd (omega (arith, l))
  calm_looks (VecImm op d n) h v x (j, l, e) = absurd (omega (arith, l))
  calm_looks (FromGpr wide d s) h v x (j, l, e) = absurd (omega (arith, l))
  calm_looks (ToGpr wide d s) h v x (j, l, e) = absurd (omega (arith, l))
  calm_looks (Move d s) h v x (j, l, e) = absurd (omega (arith, l))
  calm_looks (Alu op d s) h v x (j, l, e) = absurd (omega (arith, l))
  calm_looks (AluImm op d y) h v x (j, l, e) = absurd (omega (arith, l))
  calm_looks (Shift op d n) h v x (j, l, e) = absurd (omega (arith, l))
  calm_looks (Imul d s) h v x (j, l, e) = absurd (omega (arith, l))
  calm_looks (Lea d at) h v x (j, l, e) = absurd (omega (arith, l))
  calm_looks (Shuffle op d s o) h v x t = absurd (true≢false (sym h))
  calm_looks (VecLoad op d at) h v x t = absurd (true≢false (sym h))
  calm_looks (VecStore op s at) h v x t = absurd (true≢false (sym h))
  calm_looks (Load d at) h v x t = absurd (true≢false (sym h))
  calm_looks (Load8 d at) h v x t = absurd (true≢false (sym h))
  calm_looks (Load16 d at) h v x t = absurd (true≢false (sym h))
  calm_looks (Store s at) h v x t = absurd (true≢false (sym h))
  calm_looks (Store8 s at) h v x t = absurd (true≢false (sym h))
  calm_looks (Store16 s at) h v x t = absurd (true≢false (sym h))
  calm_looks (MovImm d y) h v x t = absurd (true≢false (sym h))
  calm_looks (Test y z) h v x t = absurd (true≢false (sym h))
  calm_looks (Push s) h v x t = absurd (true≢false (sym h))
  calm_looks (Pop d) h v x t = absurd (true≢false (sym h))
  calm_looks (Jump rel) h v x t = absurd (true≢false (sym h))
  calm_looks (JumpIf q rel) h v x t = absurd (true≢false (sym h))
  calm_looks Ret h v x t = absurd (true≢false (sym h))

  pub touched : (i : Ins) (n a : ℕ) (v : Core) → span i v ≡ (a, n) → ((j : ℕ) → j < n → Far ((a + j) % 2 ^ 64)) → (y : ℕ) → Touches i v y → Far y
  touched i n a v s far y (j, l, p) = subst Far (sym (p ∙ ap (λ z. (z.0 + j) % 2 ^ 64) s)) (far j (subst (λ k. j < k) (ap (λ z. z.1) s) l))

  calm_line : (is : List Ins) → all_calm is ≡ true → (v : Core) → Line (Looks Near Far) is v (after is v)
  calm_line [] h v = refl
  calm_line (i ∷ is) h v =
      let p = both (is_calm i) (all_calm is) h in
      (calm_looks i p.0 v, (reached v (work i v), calm_works i p.0 v, calm_line is p.1 (reached v (work i v))))
    where
      both : (s t : Bool) → (s && t) ≡ true → (s ≡ true) × (t ≡ true)
      both true t h = (refl, h)
      both false t h = absurd (true≢false (sym h))

  -- ---- lists from a state on

  -- the list leads from v to a state of which P holds
  abbrev pub Run : List Ins → Core → (Core → Type 0) → Type 0
  Run is v P = (d : Core) × Line (Looks Near Far) is v d × P d

  pub run_then : (is js : List Ins) (v : Core) (P R : Core → Type 0) → Run is v P → ((d : Core) → P d → Run js d R) → Run (is ++ js) v R
  run_then is js v P R h k =
      let r = k h.0 h.2 in
      (r.0, line_append (Looks Near Far) is js v h.0 r.0 h.1 r.1, r.2)

  pub run_map : (is : List Ins) (v : Core) (P R : Core → Type 0) → Run is v P → ((d : Core) → P d → R d) → Run is v R
  run_map is v P R h k = (h.0, h.1, k h.0 h.2)

  -- instructions on registers alone, and what follows
  pub calm_then : (is js : List Ins) → all_calm is ≡ true → (v : Core) (P : Core → Type 0) → Run js (after is v) P → Run (is ++ js) v P
  calm_then is js h v P r = (r.0, line_append (Looks Near Far) is js v (after is v) r.0 (calm_line is h v) r.1, r.2)

  -- and nothing behind them
  pub calm_run : (is : List Ins) → all_calm is ≡ true → (v : Core) (P : Core → Type 0) → P (after is v) → Run is v P
  calm_run is h v P p = (after is v, calm_line is h v, p)

  -- a word of the frame, and what follows
  pub slot_then : (r : ℕ) (z : ℤ) (js : List Ins) (v : Core) (x : ℕ) (P : Core → Type 0) → word v.memory (moved (v.gpr 4) z) ≡ Some x → ((y : ℕ) → InWord (moved (v.gpr 4) z) y → Near y) → Run js (with_gpr v r x) P → Run (Load r (slot z) ∷ js) v P
  slot_then r z js v x P e near k = (
    k.0,
    (λ y t. inl (refl, near y t), (with_gpr v r x, ap (λ o. access 8 v.memory (moved (v.gpr 4) z) o (λ w. with_gpr v r w)) e, k.1)),
    k.2,
  )

  -- bytes by another register as a number, and what follows
  pub load_then : (i : Ins) (n r a : ℕ) (js : List Ins) (v : Core) (x : ℕ) (P : Core → Type 0) → touch_weight is_pointer i ≡ 1 → span i v ≡ (a, n) → work i v ≡ access n v.memory a (value n v.memory a) (λ w. with_gpr v r w)
      → value n v.memory a ≡ Some x → ((j : ℕ) → j < n → Far ((a + j) % 2 ^ 64)) → Run js (with_gpr v r x) P → Run (i ∷ js) v P
  load_then i n r a js v x P by s w e far k = (
    k.0,
    (λ y t. inr (by, touched i n a v s far y t), (with_gpr v r x, w ∙ ap (λ o. access n v.memory a o (λ w. with_gpr v r w)) e, k.1)),
    k.2,
  )

  pub byte_then : (r b d : ℕ) (js : List Ins) (v : Core) (x : ℕ) (P : Core → Type 0) → is_pointer b ≡ true → value 1 v.memory (address v (away b d)) ≡ Some x → ((j : ℕ) → j < 1 → Far ((address v (away b d) + j) % 2 ^ 64)) → Run js (with_gpr v r x) P → Run (Load8 r (away b d) ∷ js) v P
  byte_then r b d js v x P by = load_then (Load8 r (away b d)) 1 r (address v (away b d)) js v x P (ap (λ z. if z then 1 else 0) by) refl refl

  pub pair_then : (r b d : ℕ) (js : List Ins) (v : Core) (x : ℕ) (P : Core → Type 0) → is_pointer b ≡ true → value 2 v.memory (address v (away b d)) ≡ Some x → ((j : ℕ) → j < 2 → Far ((address v (away b d) + j) % 2 ^ 64)) → Run js (with_gpr v r x) P → Run (Load16 r (away b d) ∷ js) v P
  pair_then r b d js v x P by = load_then (Load16 r (away b d)) 2 r (address v (away b d)) js v x P (ap (λ z. if z then 1 else 0) by) refl refl

  -- and into a vector register
  pub vector_then : (op : MoveOp) → ((x : ℕ) (o : Result Core Trap) → aligned op x o ≡ o) → (r b d : ℕ) (js : List Ins) (v : Core) (bs : List ℕ) (P : Core → Type 0) → is_pointer b ≡ true → read (move_size op) v.memory (address v (away b d)) ≡ Some bs → ((j : ℕ) → j < move_size op → Far ((address v (away b d) + j) % 2 ^ 64))
      → Run js (with_xmm v r (from_bytes (λ j. get_or bs j 0))) P → Run (VecLoad op r (away b d) ∷ js) v P
  vector_then op free r b d js v bs P by e far k =
      let a = address v (away b d) in
      let w : Core = with_xmm v r (from_bytes (λ j. get_or bs j 0)) in (
        k.0,
        (
          λ y t. inr (ap (λ z. if z then 1 else 0) by, touched (VecLoad op r (away b d)) (move_size op) a v refl far y t),
          (w, free a _ ∙ ap (λ o. access (move_size op) v.memory a o (λ bs. with_xmm v r (from_bytes (λ j. get_or bs j 0)))) e, k.1),
        ),
        k.2,
      )

  -- the same from any address
  pub far_vector_then : (op : MoveOp) → ((x : ℕ) (o : Result Core Trap) → aligned op x o ≡ o) → (r : ℕ) (at : Addr) (js : List Ins) (v : Core) (bs : List ℕ) (P : Core → Type 0) → is_pointer at.base ≡ true → read (move_size op) v.memory (address v at) ≡ Some bs → ((j : ℕ) → j < move_size op → Far ((address v at + j) % 2 ^ 64))
      → Run js (with_xmm v r (from_bytes (λ j. get_or bs j 0))) P → Run (VecLoad op r at ∷ js) v P
  far_vector_then op free r at js v bs P by e far k =
      let a = address v at in
      let w : Core = with_xmm v r (from_bytes (λ j. get_or bs j 0)) in (
        k.0,
        (
          λ y t. inr (ap (λ z. if z then 1 else 0) by, touched (VecLoad op r at) (move_size op) a v refl far y t),
          (w, free a _ ∙ ap (λ o. access (move_size op) v.memory a o (λ bs. with_xmm v r (from_bytes (λ j. get_or bs j 0)))) e, k.1),
        ),
        k.2,
      )
