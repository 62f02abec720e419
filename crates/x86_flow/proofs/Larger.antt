-- A run without a trap is the same in a larger memory.
use Rattle.std.proofs.Common.{◌≡◌, ℕ, zero, suc, ◌+◌, ◌%◌, ◌^◌, ◌==◌, Bool, true, false, ◌&&◌, if◌then◌else◌, pos, List, [], ◌∷◌, length, ◌<◌, get_or, Option, Some, None, Result, Ok, Err, is_some, refl, sym, ap, ◌∙◌, subst, arith, ⊎_elim, true≢false}
use Rattle.std.proofs.lemmas.Bool.{cases_eq}
use Rattle.orc_bits.specs.Lanes.{from_bytes, byte_of}
use Rattle.x86_ins.specs.declared.ins.MoveOp.{MoveOp}
use Rattle.x86_ins.specs.declared.ins.MoveOp.TheVariants as move
use Rattle.x86_ins.specs.declared.ins.Ins.{Ins}
use Rattle.x86_ins.specs.declared.ins.Ins.TheVariants.{Vec, VecImm, Shuffle, VecLoad, VecStore, FromGpr, ToGpr, Move, Load, Store, Store8, Store16, Load8, Load16, MovImm, Alu, AluImm, Test, Shift, Imul, Lea, Push, Pop, Jump, JumpIf, Ret}
use Rattle.x86_ins.specs.declared.state.Trap.{Trap}
use Rattle.x86_ins.specs.declared.state.Why.TheVariants as why
use Rattle.orc_bits.specs.Memory.{Memory, bind, put, read, value, word, number, fill, store, all_mapped}
use Rattle.x86_ins.specs.Machine.{Core, Point, with_gpr, with_xmm, with_memory, address, access, save, move_size, moved, below_stack, work, at, jump_if, return_to, test, effect, span, Touches}
use Rattle.x86_ins.specs.Way.{Placed, Step, Moment, Way, Each}
use Rattle.orc_bits.proofs.Memories.{put_other, put_same, bind_some, none_some, store_there, store_fills}
use Rattle.x86_ins.proofs.Bounds.{access_ok, aligned_ok, ok_one, ok_err}

-- the larger memory has each byte of the smaller one
abbrev pub Sub : Memory → Memory → Type 0
Sub m n = (a v : ℕ) → m a ≡ Some v → n a ≡ Some v

pub read_larger : (n : ℕ) (m b : Memory) (a : ℕ) (bs : List ℕ) → Sub m b → read n m a ≡ Some bs → read n b a ≡ Some bs
read_larger zero m b a bs s e = e
read_larger (suc n) m b a bs s e =
    let one = bind_some (m (a % 2 ^ 64)) _ bs e in
    let two = bind_some (read n m (a + 1)) _ bs one.2 in
    ap (λ o. bind o (λ x. bind (read n b (a + 1)) (λ xs. Some (x ∷ xs)))) (s _ _ one.1) ∙ ap (λ o. bind o (λ xs. Some (one.0 ∷ xs))) (read_larger n m b (a + 1) two.0 s two.1) ∙ two.2

pub value_larger : (n : ℕ) (m b : Memory) (a v : ℕ) → Sub m b → value n m a ≡ Some v → value n b a ≡ Some v
value_larger n m b a v s e =
    let x = bind_some (read n m a) _ v e in
    ap (λ o. bind o (λ bs. Some (number bs))) (read_larger n m b a x.0 s x.1) ∙ x.2

put_larger : (m b : Memory) (a v : ℕ) → Sub m b → Sub (put m a v) (put b a v)
put_larger m b a v s x w h = ⊎_elim
    (λ e. subst (λ y. put m a v y ≡ Some w → put b a v y ≡ Some w) (sym e) (λ p. put_same b a v ∙ sym (put_same m a v) ∙ p) h)
    (λ ne. put_other b a v x ne ∙ s x w (sym (put_other m a v x ne) ∙ h)) (cases_eq x a)

fill_larger : (n : ℕ) (m b : Memory) (a : ℕ) (f : ℕ → ℕ) → Sub m b → Sub (fill n m a f) (fill n b a f)
unfolding fill
fill_larger zero m b a f s = s
fill_larger (suc n) m b a f s = put_larger (fill n m a f) (fill n b a f) ((a + n) % 2 ^ 64) (f n) (fill_larger n m b a f s)

is_none : (o : Option ℕ) → is_some o ≡ true → o ≡ None → ⊥
is_none o t e = true≢false (sym t ∙ ap is_some e)

and_one : (a b : Bool) → (a && b) ≡ true → a ≡ true
and_one true b e = refl
and_one false b e = e

and_two : (a b : Bool) → (a && b) ≡ true → b ≡ true
and_two true b e = e
and_two false b e = absurd (true≢false (sym e))

some_larger : (m b : Memory) (x : ℕ) → Sub m b → is_some (m x) ≡ true → is_some (b x) ≡ true
some_larger m b x s h = go (m x) refl
  where
    go : (o : Option ℕ) → m x ≡ o → is_some (b x) ≡ true
    go None e = absurd (is_none (m x) h e)
    go (Some v) e = ap is_some (s x v e)

mapped_larger : (n : ℕ) (m b : Memory) (a : ℕ) → Sub m b → all_mapped n m a ≡ true → all_mapped n b a ≡ true
mapped_larger zero m b a s e = refl
mapped_larger (suc n) m b a s e =
    ap (λ t. t && all_mapped n b (a + 1)) (some_larger m b (a % 2 ^ 64) s (and_one _ _ e)) ∙ mapped_larger n m b (a + 1) s (and_two _ _ e)

all_last : (n : ℕ) (m : Memory) (a : ℕ) → all_mapped (suc n) m a ≡ true → (all_mapped n m a ≡ true) × (is_some (m ((a + n) % 2 ^ 64)) ≡ true)
all_last zero m a e = (refl, ap (λ x. is_some (m (x % 2 ^ 64))) (let q : a + 0 ≡ a = omega arith in q) ∙ and_one _ _ e)
all_last (suc n) m a e =
    let rest : (all_mapped n m (a + 1) ≡ true) × (is_some (m ((a + 1 + n) % 2 ^ 64)) ≡ true) = all_last n m (a + 1) (and_two (is_some (m (a % 2 ^ 64))) (all_mapped (suc n) m (a + 1)) e) in
    (ap (λ t. t && all_mapped n m (a + 1)) (and_one _ _ e) ∙ rest.0, ap (λ x. is_some (m (x % 2 ^ 64))) (let q : a + suc n ≡ a + 1 + n = omega arith in q) ∙ rest.1)

fill_apart : (n : ℕ) (m b : Memory) (a : ℕ) (f : ℕ → ℕ) (x : ℕ) → all_mapped n m a ≡ true → m x ≡ None → fill n b a f x ≡ b x
unfolding fill
fill_apart zero m b a f x t e = refl
fill_apart (suc n) m b a f x t e =
    let two = all_last n m a t in
    put_other (fill n b a f) ((a + n) % 2 ^ 64) (f n) x (λ q. is_none (m x) (ap (λ y. is_some (m y)) q ∙ two.1) e) ∙ fill_apart n m b a f x two.0 e

-- a store leaves two memories alike where they were
fill_alike : (n : ℕ) (m b : Memory) (a : ℕ) (f : ℕ → ℕ) (x : ℕ) → b x ≡ m x → fill n b a f x ≡ fill n m a f x
unfolding fill
fill_alike zero m b a f x h = h
fill_alike (suc n) m b a f x h =
    let y = (a + n) % 2 ^ 64 in
    let one = fill n b a f in
    let two = fill n m a f in
    ⊎_elim
    (λ e. ap (put one y (f n)) e ∙ put_same one y (f n) ∙ sym (ap (put two y (f n)) e ∙ put_same two y (f n)))
    (λ ne. put_other one y (f n) x ne ∙ fill_alike n m b a f x h ∙ sym (put_other two y (f n) x ne))
    (cases_eq x y)

all_stored : (n : ℕ) (m : Memory) (a : ℕ) (f : ℕ → ℕ) (end : Memory) → store n m a f ≡ Some end → all_mapped n m a ≡ true
all_stored n m a f end e = go (all_mapped n m a) refl
  where
    go : (t : Bool) → all_mapped n m a ≡ t → all_mapped n m a ≡ true
    go true h = h
    go false h = absurd (none_some (sym (ap (λ t. if t then Some (fill n m a f) else None) h) ∙ e))

-- what one instruction does in the larger memory
pub record Larger (c d : Core) (b : Memory) (next : Core → Result Core Trap) : Type 0 where
  pub after : Memory
  pub does : next (with_memory c b) ≡ Ok (with_memory d after)
  pub sub : Sub d.memory after
  pub agree : (a : ℕ) → b a ≡ c.memory a → after a ≡ d.memory a
  pub rest : (a : ℕ) → c.memory a ≡ None → after a ≡ b a
  pub unmapped : (a : ℕ) → c.memory a ≡ None → d.memory a ≡ None

same_memory : (c d u : Core) (b : Memory) (next : Core → Result Core Trap) → Sub c.memory b → u.memory ≡ c.memory → u ≡ d → next (with_memory c b) ≡ Ok (with_memory u b) → Larger c d b next
same_memory c d u b next s m e n = record {
  after = b;
  does = n ∙ ap (λ x. Ok (with_memory x b)) e;
  sub = subst (λ x. Sub x b) (sym m ∙ ap (λ x. x.memory) e) s;
  agree = λ a h. h ∙ ap (λ f. f a) (sym m ∙ ap (λ x. x.memory) e);
  rest = λ a h. refl;
  unmapped = λ a h. ap (λ f. f a) (ap (λ x. x.memory) (sym e) ∙ m) ∙ h;
}

-- where the memory isn't asked
pure : (i : Ins) (c d u : Core) (b : Memory) → Sub c.memory b → u.memory ≡ c.memory → work i (with_memory c b) ≡ Ok (with_memory u b) → work i c ≡ Ok u → work i c ≡ Ok d → Larger c d b (work i)
pure i c d u b s m n k e = same_memory c d u b (work i) s m (ok_one u d (sym k ∙ e)) n

loads : (i : Ins) (n : ℕ) (c d : Core) (a : ℕ) (go : Memory → ℕ → Core) (b : Memory) → Sub c.memory b → ((v : ℕ) → (go c.memory v).memory ≡ c.memory) → ((v : ℕ) → go b v ≡ with_memory (go c.memory v) b) →
    ((m : Memory) → work i (with_memory c m) ≡ access n m a (value n m a) (go m)) → work i c ≡ Ok d → Larger c d b (work i)
loads i n c d a go b s m k w e =
    let x = access_ok n c.memory a _ _ d (sym (w c.memory) ∙ e) in
    same_memory c d (go c.memory x.0) b (work i) s (m x.0) x.2 (w b ∙ ap (λ o. access n b a o (go b)) (value_larger n c.memory b a x.0 s x.1) ∙ ap (λ y. Ok y) (k x.0))

saves : (i : Ins) (n : ℕ) (c d : Core) (a : ℕ) (f : ℕ → ℕ) (go : Memory → Core) (b : Memory) → Sub c.memory b → ((m : Memory) → (go m).memory ≡ m) → ((m o : Memory) → go o ≡ with_memory (go m) o) →
    ((m : Memory) → work i (with_memory c m) ≡ access n m a (store n m a f) go) → work i c ≡ Ok d → Larger c d b (work i)
saves i n c d a f go b s m k w e =
    let x = access_ok n c.memory a _ go d (sym (w c.memory) ∙ e) in
    let all = all_stored n c.memory a f x.0 x.1 in
    let same : fill n c.memory a f ≡ d.memory = store_fills n c.memory a f x.0 x.1 ∙ sym (m x.0) ∙ ap (λ y. y.memory) x.2 in
    record {
      after = fill n b a f;
      does = w b ∙ ap (λ o. access n b a o go) (store_there n b a f (mapped_larger n c.memory b a s all)) ∙ ap (λ y. Ok y) (k x.0 (fill n b a f)) ∙ ap (λ y. Ok (with_memory y (fill n b a f))) x.2;
      sub = subst (λ y. Sub y (fill n b a f)) same (fill_larger n c.memory b a f s);
      agree = λ x h. fill_alike n c.memory b a f x h ∙ ap (λ y. y x) same;
      rest = λ x h. fill_apart n c.memory b a f x all h;
      unmapped = λ x h. ap (λ y. y x) (sym same) ∙ fill_apart n c.memory c.memory a f x all h ∙ h;
    }

pub work_larger : (i : Ins) (c d : Core) (b : Memory) → Sub c.memory b → work i c ≡ Ok d → Larger c d b (work i)
work_larger (VecLoad op r p) c d b s e = vec_load op e
  where
    loaded : MoveOp → Core → Result Core Trap
    loaded op c = access (move_size op) c.memory (address c p) (read (move_size op) c.memory (address c p)) (λ bs. with_xmm c r (from_bytes (λ j. get_or bs j 0)))

    goes : (op : MoveOp) → loaded op c ≡ Ok d → Larger c d b (loaded op)
    goes op e =
        let x = access_ok (move_size op) c.memory (address c p) _ _ d e in
        same_memory c d (with_xmm c r (from_bytes (λ j. get_or x.0 j 0))) b (loaded op) s refl x.2
        (ap (λ o. access (move_size op) b (address c p) o (λ bs. with_xmm (with_memory c b) r (from_bytes (λ j. get_or bs j 0)))) (read_larger (move_size op) c.memory b (address c p) x.0 s x.1))

    vec_load : (op : MoveOp) → work (VecLoad op r p) c ≡ Ok d → Larger c d b (work (VecLoad op r p))
    vec_load move.Movdqa e = over (address c p % 16 == 0) refl
      where
        over : (t : Bool) → (address c p % 16 == 0) ≡ t → Larger c d b (work (VecLoad move.Movdqa r p))
        over true h =
            let g = goes move.Movdqa (aligned_ok move.Movdqa (address c p) _ d e) in
            record { after = g.after; does = ap (λ t. if t then loaded move.Movdqa (with_memory c b) else Err (record { at = address c p; why = why.Misaligned })) h ∙ g.does; sub = g.sub; agree = g.agree; rest = g.rest; unmapped = g.unmapped }
        over false h = absurd (ok_err (sym (ap (λ t. if t then loaded move.Movdqa c else Err (record { at = address c p; why = why.Misaligned })) h) ∙ e))
    vec_load move.Movdqu e = goes move.Movdqu e
    vec_load move.Movq e = goes move.Movq e
    vec_load move.Movd e = goes move.Movd e
work_larger (VecStore op r p) c d b s e = vec_store op e
  where
    stored : MoveOp → Core → Result Core Trap
    stored op c = save (move_size op) c (address c p) (λ j. get_or (c.xmm r) j 0) (λ mem. with_memory c mem)

    goes : (op : MoveOp) → stored op c ≡ Ok d → Larger c d b (stored op)
    goes op e =
        let f : ℕ → ℕ = λ j. get_or (c.xmm r) j 0 in
        let n = move_size op in
        let a = address c p in
        let x = access_ok n c.memory a _ _ d e in
        let all = all_stored n c.memory a f x.0 x.1 in
        let same : fill n c.memory a f ≡ d.memory = store_fills n c.memory a f x.0 x.1 ∙ ap (λ y. y.memory) x.2 in
        record {
          after = fill n b a f;
          does = ap (λ o. access n b a o (λ mem. with_memory c mem)) (store_there n b a f (mapped_larger n c.memory b a s all)) ∙ ap (λ y. Ok (with_memory y (fill n b a f))) x.2;
          sub = subst (λ y. Sub y (fill n b a f)) same (fill_larger n c.memory b a f s);
          agree = λ x h. fill_alike n c.memory b a f x h ∙ ap (λ y. y x) same;
          rest = λ x h. fill_apart n c.memory b a f x all h;
          unmapped = λ x h. ap (λ y. y x) (sym same) ∙ fill_apart n c.memory c.memory a f x all h ∙ h;
        }

    vec_store : (op : MoveOp) → work (VecStore op r p) c ≡ Ok d → Larger c d b (work (VecStore op r p))
    vec_store move.Movdqa e = over (address c p % 16 == 0) refl
      where
        over : (t : Bool) → (address c p % 16 == 0) ≡ t → Larger c d b (work (VecStore move.Movdqa r p))
        over true h =
            let g = goes move.Movdqa (aligned_ok move.Movdqa (address c p) _ d e) in
            record { after = g.after; does = ap (λ t. if t then stored move.Movdqa (with_memory c b) else Err (record { at = address c p; why = why.Misaligned })) h ∙ g.does; sub = g.sub; agree = g.agree; rest = g.rest; unmapped = g.unmapped }
        over false h = absurd (ok_err (sym (ap (λ t. if t then stored move.Movdqa c else Err (record { at = address c p; why = why.Misaligned })) h) ∙ e))
    vec_store move.Movdqu e = goes move.Movdqu e
    vec_store move.Movq e = goes move.Movq e
    vec_store move.Movd e = goes move.Movd e
work_larger (Vec op r q) c d b s e = pure (Vec op r q) c d _ b s refl refl refl e
work_larger (VecImm op r n) c d b s e = pure (VecImm op r n) c d _ b s refl refl refl e
work_larger (Shuffle op r q o) c d b s e = pure (Shuffle op r q o) c d _ b s refl refl refl e
work_larger (FromGpr wide r q) c d b s e = pure (FromGpr wide r q) c d _ b s refl refl refl e
work_larger (ToGpr wide r q) c d b s e = pure (ToGpr wide r q) c d _ b s refl refl refl e
work_larger (Move r q) c d b s e = pure (Move r q) c d _ b s refl refl refl e
work_larger (Load r p) c d b s e = loads (Load r p) 8 c d (address c p) (λ m v. with_gpr (with_memory c m) r v) b s (λ v. refl) (λ v. refl) (λ m. refl) e
work_larger (Load8 r p) c d b s e = loads (Load8 r p) 1 c d (address c p) (λ m v. with_gpr (with_memory c m) r v) b s (λ v. refl) (λ v. refl) (λ m. refl) e
work_larger (Load16 r p) c d b s e = loads (Load16 r p) 2 c d (address c p) (λ m v. with_gpr (with_memory c m) r v) b s (λ v. refl) (λ v. refl) (λ m. refl) e
work_larger (Pop r) c d b s e = loads (Pop r) 8 c d (c.gpr 4) (λ m v. with_gpr (with_gpr (with_memory c m) 4 (moved (c.gpr 4) (pos 8))) r v) b s (λ v. refl) (λ v. refl) (λ m. refl) e
work_larger (Store q p) c d b s e = saves (Store q p) 8 c d (address c p) (byte_of 8 (c.gpr q)) (λ m. with_memory c m) b s (λ m. refl) (λ m o. refl) (λ m. refl) e
work_larger (Store8 q p) c d b s e = saves (Store8 q p) 1 c d (address c p) (byte_of 1 (c.gpr q)) (λ m. with_memory c m) b s (λ m. refl) (λ m o. refl) (λ m. refl) e
work_larger (Store16 q p) c d b s e = saves (Store16 q p) 2 c d (address c p) (byte_of 2 (c.gpr q)) (λ m. with_memory c m) b s (λ m. refl) (λ m o. refl) (λ m. refl) e
work_larger (Push q) c d b s e = saves (Push q) 8 c d (below_stack c) (byte_of 8 (c.gpr q)) (λ m. with_memory (with_gpr c 4 (below_stack c)) m) b s (λ m. refl) (λ m o. refl) (λ m. refl) e
work_larger (MovImm r v) c d b s e = pure (MovImm r v) c d _ b s refl refl refl e
work_larger (Alu op r q) c d b s e = pure (Alu op r q) c d _ b s refl refl refl e
work_larger (AluImm op r v) c d b s e = pure (AluImm op r v) c d _ b s refl refl refl e
work_larger (Test x y) c d b s e = pure (Test x y) c d _ b s refl refl refl e
work_larger (Shift op r n) c d b s e = pure (Shift op r n) c d _ b s refl refl refl e
work_larger (Imul r q) c d b s e = pure (Imul r q) c d _ b s refl refl refl e
work_larger (Lea r p) c d b s e = pure (Lea r p) c d _ b s refl refl refl e
work_larger (Jump rel) c d b s e = absurd (ok_err e)
work_larger (JumpIf q rel) c d b s e = absurd (ok_err e)
work_larger Ret c d b s e = absurd (ok_err e)

abbrev pub big : Point → Memory → Point
big t b = record { core = with_memory t.core b; rip = t.rip }

-- what one instruction with its place does in the larger memory
pub record LargerPoint (c : Core) (t : Point) (b : Memory) (next : Core → Result Point Trap) : Type 0 where
  pub after : Memory
  pub does : next (with_memory c b) ≡ Ok (big t after)
  pub sub : Sub t.core.memory after
  pub agree : (a : ℕ) → b a ≡ c.memory a → after a ≡ t.core.memory a
  pub rest : (a : ℕ) → c.memory a ≡ None → after a ≡ b a
  pub unmapped : (a : ℕ) → c.memory a ≡ None → t.core.memory a ≡ None

abbrev okay : Point → Result Point Trap
okay t = Ok t

point_one : (t u : Point) → okay t ≡ Ok u → t ≡ u
point_one t u h = ap (value_or t) h
  where
    value_or : Point → Result Point Trap → Point
    value_or d (Ok v) = v
    value_or d (Err e) = d

at_ok : (r : Result Core Trap) (rip : ℕ) (t : Point) → at r rip ≡ Ok t → (d : Core) × (r ≡ Ok d) × (record { core = d; rip = rip } ≡ t)
at_ok (Ok d) rip t e = (d, refl, point_one (record { core = d; rip = rip }) t e)
at_ok (Err x) rip t e = absurd (point_err e)
  where
    IsBad : Result Point Trap → Type 0
    IsBad (Err e) = Unit {0}
    IsBad (Ok x) = ⊥

    point_err : {x : Trap} → Err x ≡ okay t → ⊥
    point_err h = subst IsBad h tt

-- an instruction whose effect is its work
plain_larger : (i : Ins) (c : Core) (rip : ℕ) (t : Point) (b : Memory) → Sub c.memory b → at (work i c) rip ≡ Ok t → LargerPoint c t b (λ x. at (work i x) rip)
plain_larger i c rip t b s e =
    let x = at_ok (work i c) rip t e in
    let l = work_larger i c x.0 b s x.1 in
    let same : x.0 ≡ t.core = ap (λ u. u.core) x.2 in
    record {
      after = l.after;
      does = ap (λ o. at o rip) l.does ∙ ap (λ u. Ok (big u l.after)) x.2;
      sub = subst (λ u. Sub u.memory l.after) same l.sub;
      agree = λ a h. l.agree a h ∙ ap (λ u. u.memory a) same;
      rest = l.rest;
      unmapped = λ a h. ap (λ u. u.memory a) (sym same) ∙ l.unmapped a h;
    }

here_larger : (c d : Core) (rip : ℕ) (t : Point) (b : Memory) (next : Core → Result Point Trap) → Sub c.memory b → d.memory ≡ c.memory → record { core = d; rip = rip } ≡ t → next (with_memory c b) ≡ Ok (big (record { core = d; rip = rip }) b) → LargerPoint c t b next
here_larger c d rip t b next s m e n = record {
  after = b;
  does = n ∙ ap (λ u. Ok (big u b)) e;
  sub = subst (λ x. Sub x b) (sym m ∙ ap (λ u. u.core.memory) e) s;
  agree = λ a h. h ∙ ap (λ f. f a) (sym m ∙ ap (λ u. u.core.memory) e);
  rest = λ a h. refl;
  unmapped = λ a h. ap (λ u. u.core.memory a) (sym e) ∙ ap (λ f. f a) m ∙ h;
}

bad_point : {t : Point} {x : Trap} {A : Type 0} → Err x ≡ okay t → A
bad_point h = absurd (subst IsBad h tt)
  where
    IsBad : Result Point Trap → Type 0
    IsBad (Err e) = Unit {0}
    IsBad (Ok x) = ⊥

pub effect_larger : (i : Ins) (c : Core) (rip : ℕ) (t : Point) (b : Memory) → Sub c.memory b → effect i c rip ≡ Ok t → LargerPoint c t b (λ x. effect i x rip)
effect_larger (JumpIf q rel) c rip t b s e = go (test q c.flags) refl e
  where
    go : (o : Option Bool) → test q c.flags ≡ o → jump_if o rel c rip ≡ Ok t → LargerPoint c t b (λ x. effect (JumpIf q rel) x rip)
    go (Some taken) h k = here_larger c c (if taken then moved rip rel else rip) t b (λ u. effect (JumpIf q rel) u rip) s refl (point_one _ t k) (ap (λ o. jump_if o rel (with_memory c b) rip) h)
    go None h k = bad_point k
effect_larger (Jump rel) c rip t b s e = here_larger c c (moved rip rel) t b (λ u. effect (Jump rel) u rip) s refl (point_one _ t e) refl
effect_larger Ret c rip t b s e = go (word c.memory (c.gpr 4)) refl e
  where
    go : (o : Option ℕ) → word c.memory (c.gpr 4) ≡ o → return_to o c ≡ Ok t → LargerPoint c t b (λ x. effect Ret x rip)
    go (Some r) h k =
        let d : Core = with_gpr c 4 (moved (c.gpr 4) (pos 8)) in
        here_larger c d r t b (λ u. effect Ret u rip) s refl (point_one _ t k) (ap (λ o. return_to o (with_memory c b)) (value_larger 8 c.memory b (c.gpr 4) r s h))
    go None h k = bad_point k
effect_larger (Vec op d s) c rip t b w e = plain_larger (Vec op d s) c rip t b w e
effect_larger (VecImm op d n) c rip t b w e = plain_larger (VecImm op d n) c rip t b w e
effect_larger (Shuffle op d s o) c rip t b w e = plain_larger (Shuffle op d s o) c rip t b w e
effect_larger (VecLoad op d a) c rip t b w e = plain_larger (VecLoad op d a) c rip t b w e
effect_larger (VecStore op s a) c rip t b w e = plain_larger (VecStore op s a) c rip t b w e
effect_larger (FromGpr wide d s) c rip t b w e = plain_larger (FromGpr wide d s) c rip t b w e
effect_larger (ToGpr wide d s) c rip t b w e = plain_larger (ToGpr wide d s) c rip t b w e
effect_larger (Move d s) c rip t b w e = plain_larger (Move d s) c rip t b w e
effect_larger (Load d a) c rip t b w e = plain_larger (Load d a) c rip t b w e
effect_larger (Store s a) c rip t b w e = plain_larger (Store s a) c rip t b w e
effect_larger (Store8 s a) c rip t b w e = plain_larger (Store8 s a) c rip t b w e
effect_larger (Store16 s a) c rip t b w e = plain_larger (Store16 s a) c rip t b w e
effect_larger (Load8 d a) c rip t b w e = plain_larger (Load8 d a) c rip t b w e
effect_larger (Load16 d a) c rip t b w e = plain_larger (Load16 d a) c rip t b w e
effect_larger (MovImm d v) c rip t b w e = plain_larger (MovImm d v) c rip t b w e
effect_larger (Alu op d s) c rip t b w e = plain_larger (Alu op d s) c rip t b w e
effect_larger (AluImm op d v) c rip t b w e = plain_larger (AluImm op d v) c rip t b w e
effect_larger (Test x y) c rip t b w e = plain_larger (Test x y) c rip t b w e
effect_larger (Shift op d n) c rip t b w e = plain_larger (Shift op d n) c rip t b w e
effect_larger (Imul d s) c rip t b w e = plain_larger (Imul d s) c rip t b w e
effect_larger (Lea d a) c rip t b w e = plain_larger (Lea d a) c rip t b w e
effect_larger (Push s) c rip t b w e = plain_larger (Push s) c rip t b w e
effect_larger (Pop d) c rip t b w e = plain_larger (Pop d) c rip t b w e

-- a point q of a run in a larger memory beside the point p of the run in a smaller one; `small` and `large` are the memories at the start
pub record Beside (small large : Memory) (p q : Point) : Type 0 where
  -- all but memory is the same
  pub same : q ≡ big p q.core.memory
  pub sub : Sub p.core.memory q.core.memory
  -- where the two memories agreed they still do
  pub agree : (a : ℕ) → large a ≡ small a → q.core.memory a ≡ p.core.memory a
  -- where the smaller one had no byte it still has none, and the larger one is as at the start
  pub none : (a : ℕ) → small a ≡ None → p.core.memory a ≡ None
  pub rest : (a : ℕ) → small a ≡ None → q.core.memory a ≡ large a

-- two ways of such points, by the same instructions
abbrev pub Alike : Memory → Memory → List Moment → List Moment → Type 0
Alike small large [] [] = Unit {0}
Alike small large (m ∷ ms) (n ∷ ns) = Beside small large m.point n.point × (n.ins ≡ m.ins) × Alike small large ms ns
Alike small large [] (n ∷ ns) = ⊥
Alike small large (m ∷ ms) [] = ⊥

-- the run from a point beside s
pub record LargerWay (small large : Memory) (code : Placed) (way : List Moment) (t q : Point) : Type 0 where
  pub more : List Moment
  pub end : Point
  pub runs : Way code q more end
  pub alike : Alike small large way more
  pub beside : Beside small large t end

way_beside : (small large : Memory) (code : Placed) (s : Point) (way : List Moment) (t : Point) (b : Memory) → Beside small large s (big s b) → Way code s way t → LargerWay small large code way t (big s b)
way_beside small large code s [] t b h w = record { more = []; end = big s b; runs = refl; alike = tt; beside = subst (λ x. Beside small large x (big s b)) w h }
way_beside small large code s (m ∷ ms) t b h w =
    let u = w.1 in
    let step = w.2 in
    let l = effect_larger m.ins s.core ((s.rip + step.size) % 2 ^ 64) u b h.sub step.done in
    let next : Beside small large u (big u l.after) = record { same = refl; sub = l.sub; agree = λ a e. l.agree a (h.agree a e); none = λ a e. l.unmapped a (h.none a e); rest = λ a e. l.rest a (h.none a e) ∙ h.rest a e } in
    let r = way_beside small large code u ms t l.after next w.3 in
    let big_step : Step code (big s b) m.ins (big u l.after) = record { size = step.size; inside = step.inside; decoded = step.decoded; done = l.does } in
    record {
      more = record { point = big s b; ins = m.ins } ∷ r.more;
      end = r.end;
      runs = (refl, big u l.after, big_step, r.runs);
      alike = (subst (λ x. Beside small large x (big s b)) (sym w.0) h, refl, r.alike);
      beside = r.beside;
    }

pub way_larger : (code : Placed) (s : Point) (way : List Moment) (t : Point) (b : Memory) → Sub s.core.memory b → Way code s way t → LargerWay s.core.memory b code way t (big s b)
way_larger code s way t b sub w = way_beside s.core.memory b code s way t b (record { same = refl; sub = sub; agree = λ a e. e; none = λ a e. e; rest = λ a e. refl }) w

-- ---- what two such ways have alike

pub alike_length : (small large : Memory) (ms ns : List Moment) → Alike small large ms ns → length ns ≡ length ms
alike_length small large [] [] a = refl
alike_length small large [] (n ∷ ns) a = absurd a
alike_length small large (m ∷ ms) [] a = absurd a
alike_length small large (m ∷ ms) (n ∷ ns) a = ap suc (alike_length small large ms ns a.2)

pub alike_each : (small large : Memory) (P Q : Moment → Type 0) → ((m n : Moment) → Beside small large m.point n.point → n.ins ≡ m.ins → P m → Q n) → (ms ns : List Moment) → Alike small large ms ns → Each P ms → Each Q ns
alike_each small large P Q f [] [] a h = tt
alike_each small large P Q f [] (n ∷ ns) a h = absurd a
alike_each small large P Q f (m ∷ ms) [] a h = absurd a
alike_each small large P Q f (m ∷ ms) (n ∷ ns) a h = (f m n a.0 a.1 h.0, alike_each small large P Q f ms ns a.2 h.1)

-- the same bytes are touched
span_same : (i : Ins) (c : Core) (b : Memory) → span i (with_memory c b) ≡ span i c
span_same (VecLoad op d a) c b = refl
span_same (VecStore op s a) c b = refl
span_same (Load d a) c b = refl
span_same (Store s a) c b = refl
span_same (Store8 s a) c b = refl
span_same (Store16 s a) c b = refl
span_same (Load8 d a) c b = refl
span_same (Load16 d a) c b = refl
span_same (Push s) c b = refl
span_same (Pop d) c b = refl
span_same Ret c b = refl
span_same (Vec op d s) c b = refl
span_same (VecImm op d n) c b = refl
span_same (Shuffle op d s o) c b = refl
span_same (FromGpr wide d s) c b = refl
span_same (ToGpr wide d s) c b = refl
span_same (Move d s) c b = refl
span_same (MovImm d v) c b = refl
span_same (Alu op d s) c b = refl
span_same (AluImm op d v) c b = refl
span_same (Test x y) c b = refl
span_same (Shift op d n) c b = refl
span_same (Imul d s) c b = refl
span_same (Lea d a) c b = refl
span_same (Jump rel) c b = refl
span_same (JumpIf q rel) c b = refl

pub beside_touches : (small large : Memory) (p q : Point) (i j : Ins) (a : ℕ) → Beside small large p q → j ≡ i → Touches j q.core a → Touches i p.core a
beside_touches small large p q i j a h e t =
    let same : span j q.core ≡ span i p.core = ap (λ k. span k q.core) e ∙ ap (λ u. span i u.core) h.same ∙ span_same i p.core q.core.memory in
    subst (λ x. (k : ℕ) × (k < x.1) × (a ≡ (x.0 + k) % 2 ^ 64)) same t
