-- Lists of a turn that write RAX, RDI and XMM0 to XMM5 alone, and no memory; and moves of bytes that stand side by side.
use Rattle.std.proofs.Common.{◌≡◌, ◌≢◌, ℕ, ◌+◌, ◌%◌, ◌^◌, ◌<◌, ◌≤◌, ◌==◌, ◌||◌, ◌&&◌, not, inl, inr, ⊎_elim, ℤ, Bool, true, false, List, [], ◌∷◌, ◌++◌, get_or, Result, Ok, refl, sym, ap, ◌∙◌, subst, arith, true≢false}
use Rattle.std.specs.Prelude.{nat_lt}
use Rattle.std.proofs.lemmas.Bool.{cases_eq, eqb-true}
use Rattle.std.proofs.lemmas.Bool.Decides.{nat_tests}
use Rattle.orc_bits.specs.Lanes.{lane, from_bytes, byte_of}
use Rattle.orc_bits.specs.Memory.{Memory, read, value, IsMapped}
use Rattle.orc_bits.proofs.LaneLaws.{from_byte, change_other, change_same}
use Rattle.orc_bits.proofs.Memories.{AreMapped, Bytewide, read_there}
use Rattle.x86_ins.specs.declared.ins.AluOp.{AluOp}
use Rattle.x86_ins.specs.declared.ins.AluOp.TheVariants as alu
use Rattle.x86_ins.specs.declared.ins.MoveOp.{MoveOp}
use Rattle.x86_ins.specs.declared.ins.MoveOp.TheVariants as move
use Rattle.x86_ins.specs.declared.ins.Ins.{Ins}
use Rattle.x86_ins.specs.declared.ins.Ins.TheVariants.{Vec, VecImm, VecLoad, FromGpr, ToGpr, Move, Load, Load8, Load16, Alu, AluImm, Shift, Imul, Lea, Shuffle, VecStore, Store, Store8, Store16, MovImm, Test, Push, Pop, Jump, JumpIf, Ret}
use Rattle.x86_ins.specs.declared.state.Trap.{Trap}
use Rattle.x86_ins.specs.Spelling.{IsIns}
use Rattle.x86_ins.specs.Way.{Each}
use Rattle.x86_ins.specs.Vectors.{result_of, shape}
use Rattle.x86_ins.specs.Machine.{Core, Bounded, with_gpr, with_xmm, moved, address, aligned, move_size, access, alu_result, alu_core, keeps_dst, shift_result, work}
use Rattle.x86_ins.proofs.Bounds.{ok_one, access_ok, aligned_ok}
use Rattle.x86_flow.specs.Does.{Line}
use Rattle.x86_flow.specs.Moves.{IsWidth}
use Rattle.x86_flow.proofs.Moves.{each_width}
use Rattle.orc_ops.specs.Far.{far_size}
use Rattle.orc_resample.specs.declared.turn.FarSource.{FarSource}
use Rattle.orc_resample.specs.Code.{bytes_code}
use Rattle.orc_resample.specs.Ready.{Source, AmongCells, value_at}
use Rattle.orc_resample.specs.Bring.{Stays, Brought, InOwn, OnTurn}
use Rattle.orc_resample.proofs.Bytes.{byte, byte_small, digits, value_is, read_byte}
use Rattle.orc_resample.proofs.Twins.{Looks}
use Rattle.orc_resample.proofs.Runs.{Run, calm_run, load_then, far_vector_then}
use Rattle.orc_resample.proofs.Rows.{IsRow, one_digit, two_digits}
use Rattle.orc_resample.proofs.Gathered.{line_bounded}
use Rattle.orc_resample.proofs.Touched.{Agrees, all_agree, agree_each}

-- ---- what such a list writes

abbrev is_own : ℕ → Bool
is_own r = r == 0 || r == 7

abbrev is_quiet : Ins → Bool
is_quiet (Vec op d s) = nat_lt d 6
is_quiet (FromGpr wide d s) = nat_lt d 6
is_quiet (VecLoad op d at) = nat_lt d 6
is_quiet (Load d at) = is_own d
is_quiet (Load8 d at) = is_own d
is_quiet (Load16 d at) = is_own d
is_quiet (Alu op d s) = is_own d && not (keeps_dst op)
is_quiet (Shift op d n) = is_own d
is_quiet (Lea d at) = is_own d
is_quiet _ = false

abbrev pub all_quiet : List Ins → Bool
all_quiet [] = true
all_quiet (i ∷ is) = is_quiet i && all_quiet is

pub record Still (v w : Core) : Type 0 where
  pub memory : w.memory ≡ v.memory
  pub gpr : (r : ℕ) → r ≢ 0 → r ≢ 7 → w.gpr r ≡ v.gpr r
  pub xmm : (r : ℕ) → 6 ≤ r → w.xmm r ≡ v.xmm r

both : (s t : Bool) → (s && t) ≡ true → (s ≡ true) × (t ≡ true)
both true t h = (refl, h)
both false t h = absurd (true≢false (sym h))

pub quiet_append : (x y : List Ins) → all_quiet x ≡ true → all_quiet y ≡ true → all_quiet (x ++ y) ≡ true
quiet_append [] y p q = q
quiet_append (i ∷ x) y p q = let h = both (is_quiet i) (all_quiet x) p in ap (λ b. b && all_quiet (x ++ y)) h.0 ∙ quiet_append x y h.1 q

other_than : (d r : ℕ) → is_own d ≡ true → r ≢ 0 → r ≢ 7 → r ≢ d
other_than d r h a b e = go (d == 0) (d == 7) refl refl h
  where
    go : (s t : Bool) → (d == 0) ≡ s → (d == 7) ≡ t → (s || t) ≡ true → ⊥
    go true t p q k = a (e ∙ eqb-true d 0 p)
    go false true p q k = b (e ∙ eqb-true d 7 q)
    go false false p q k = true≢false (sym k)

still_gpr : (v : Core) (d x : ℕ) → is_own d ≡ true → Still v (with_gpr v d x)
still_gpr v d x h = record { memory = refl; gpr = λ r a b. change_other v.gpr d x r (other_than d r h a b); xmm = λ r l. refl }

still_xmm : (v : Core) (d : ℕ) (x : List ℕ) → nat_lt d 6 ≡ true → Still v (with_xmm v d x)
still_xmm v d x h = record { memory = refl; gpr = λ r a b. refl; xmm = λ r l. change_other v.xmm d x r (λ e. let f : d < 6 = grind (arith, nat_tests) in omega (arith, e, l, f)) }

still_alu : (op : AluOp) (v : Core) (d x : ℕ) → is_own d ≡ true → not (keeps_dst op) ≡ true → Still v (alu_core op v d x)
still_alu alu.Add v d x h k = record { memory = refl; gpr = λ r a b. change_other v.gpr d (alu_result alu.Add (v.gpr d) x) r (other_than d r h a b); xmm = λ r l. refl }
still_alu alu.Sub v d x h k = record { memory = refl; gpr = λ r a b. change_other v.gpr d (alu_result alu.Sub (v.gpr d) x) r (other_than d r h a b); xmm = λ r l. refl }
still_alu alu.And v d x h k = record { memory = refl; gpr = λ r a b. change_other v.gpr d (alu_result alu.And (v.gpr d) x) r (other_than d r h a b); xmm = λ r l. refl }
still_alu alu.Cmp v d x h k = absurd (true≢false (sym k))

still_load : (n d a : ℕ) (v w : Core) → is_own d ≡ true → access n v.memory a (value n v.memory a) (λ x. with_gpr v d x) ≡ Ok w → Still v w
still_load n d a v w h k = let x = access_ok n v.memory a (value n v.memory a) (λ x. with_gpr v d x) w k in subst (Still v) x.2 (still_gpr v d x.0 h)

still_step : (i : Ins) (v w : Core) → is_quiet i ≡ true → work i v ≡ Ok w → Still v w
still_step (Vec op d s) v w h k = subst (Still v) (ok_one _ w k) (still_xmm v d (result_of (shape op) (v.xmm d) (v.xmm s)) h)
still_step (FromGpr wide d s) v w h k = subst (Still v) (ok_one _ w k) (still_xmm v d _ h)
still_step (VecLoad op d at) v w h k =
    let go : List ℕ → Core = λ bs. with_xmm v d (from_bytes (λ j. get_or bs j 0)) in
    let x = access_ok (move_size op) v.memory (address v at) (read (move_size op) v.memory (address v at)) go w (aligned_ok op (address v at) _ w k) in
    subst (Still v) x.2 (still_xmm v d (from_bytes (λ j. get_or x.0 j 0)) h)
still_step (Load d at) v w h k = still_load 8 d (address v at) v w h k
still_step (Load8 d at) v w h k = still_load 1 d (address v at) v w h k
still_step (Load16 d at) v w h k = still_load 2 d (address v at) v w h k
still_step (Alu op d s) v w h k = let p = both (is_own d) (not (keeps_dst op)) h in subst (Still v) (ok_one _ w k) (still_alu op v d (v.gpr s) p.0 p.1)
still_step (Shift op d n) v w h k =
    let s = still_gpr v d (shift_result op (v.gpr d) n) h in
    subst (Still v) (ok_one _ w k) (record { memory = s.memory; gpr = s.gpr; xmm = s.xmm })
still_step (Lea d at) v w h k = subst (Still v) (ok_one _ w k) (still_gpr v d (address v at) h)
still_step (VecImm op d n) v w h k = absurd (true≢false (sym h))
still_step (ToGpr wide d s) v w h k = absurd (true≢false (sym h))
still_step (Move d s) v w h k = absurd (true≢false (sym h))
still_step (AluImm op d x) v w h k = absurd (true≢false (sym h))
still_step (Imul d s) v w h k = absurd (true≢false (sym h))
still_step (Shuffle op d s o) v w h k = absurd (true≢false (sym h))
still_step (VecStore op s at) v w h k = absurd (true≢false (sym h))
still_step (Store s at) v w h k = absurd (true≢false (sym h))
still_step (Store8 s at) v w h k = absurd (true≢false (sym h))
still_step (Store16 s at) v w h k = absurd (true≢false (sym h))
still_step (MovImm d x) v w h k = absurd (true≢false (sym h))
still_step (Test x y) v w h k = absurd (true≢false (sym h))
still_step (Push s) v w h k = absurd (true≢false (sym h))
still_step (Pop d) v w h k = absurd (true≢false (sym h))
still_step (Jump rel) v w h k = absurd (true≢false (sym h))
still_step (JumpIf q rel) v w h k = absurd (true≢false (sym h))
still_step Ret v w h k = absurd (true≢false (sym h))

still_on : (c v w : Core) → Still c v → Still v w → Still c w
still_on c v w h k = record { memory = k.memory ∙ h.memory; gpr = λ r a b. k.gpr r a b ∙ h.gpr r a b; xmm = λ r l. k.xmm r l ∙ h.xmm r l }

-- ---- from what such a list does to what is asked inside a turn

module _ (count : ℕ) (source : FarSource) (s : Source) (c : Core) where
  abbrev pub Own : ℕ → Type 0
  Own = InOwn source c

  abbrev pub Cells : ℕ → Type 0
  Cells = AmongCells source.far count s

  abbrev pub Leads : List Ins → Core → (Core → Type 0) → Type 0
  Leads = Run Own Cells

  stays_of : (u : Core) → Still c u → Stays source c u
  stays_of u k = record {
    stack = k.gpr 4 (λ e. omega (arith, e)) (λ e. omega (arith, e));
    xmm = k.xmm;
    memory = λ x out. ap (λ m. m x) k.memory;
    mapped = λ x h. subst (λ m. IsMapped m x) (sym k.memory) h;
  }

  quiet_line : (is : List Ins) (v d : Core) → all_quiet is ≡ true → Each Agrees is → Still c v → Line (Looks Own Cells) is v d → Line (OnTurn count source s c) is v d × Still c d
  quiet_line [] v d q a k line = (line, subst (Still c) line k)
  quiet_line (i ∷ is) v d q a k line =
      let p = both (is_quiet i) (all_quiet is) q in
      let w = line.1.0 in
      let rest = quiet_line is w d p.1 a.1 (still_on c v w k (still_step i v w p.0 line.1.1)) line.1.2 in
      (((stays_of v k, λ x t. ⊎_elim (λ n. inl (a.0.0 ∙ n.0, n.1)) (λ f. inr (a.0.0 ∙ f.0, f.1)) (line.0 x t), a.0.1), (w, line.1.1, rest.0)), rest.1)

  -- the values, and RDI as before
  pub record Ends (d : Core) : Type 0 where
    pub values : (j : ℕ) → j < count → lane (far_size source.far) j (d.xmm 0) ≡ value_at source.far s c.memory (s.first + j)
    pub block : d.gpr 7 ≡ c.gpr 7

  pub ended : Bounded c → (list : List Ins) → all_quiet list ≡ true → all_agree list ≡ true → Each IsIns list → Leads list c Ends → (d : Core) × Line (OnTurn count source s c) list c d × Brought count source s c d
  ended bounded list quiet agree ranges r =
      let d = r.0 in
      let line = quiet_line list c d quiet (agree_each list agree) (record { memory = refl; gpr = λ r a b. refl; xmm = λ r l. refl }) r.1 in
      let still = line.1 in (
        d,
        line.0,
        record {
          values = r.2.values;
          gpr = λ q a. ⊎_elim (λ e. ap d.gpr e ∙ r.2.block ∙ ap c.gpr (sym e)) (λ b. still.gpr q a b) (cases_eq q 7);
          stays = stays_of d still;
          bounded = line_bounded (OnTurn count source s c) list c d ranges bounded line.0;
        },
      )

-- ---- bytes side by side

-- all registers but t and XMMx are as before, and so is the memory
pub record Took (x t : ℕ) (v d : Core) : Type 0 where
  pub memory : d.memory ≡ v.memory
  pub gpr : (r : ℕ) → r ≢ t → d.gpr r ≡ v.gpr r
  pub xmm : (r : ℕ) → r ≢ x → d.xmm r ≡ v.xmm r

module _ (Near Far : ℕ → Type 0) (mem : Memory) (bytewide : Bytewide mem) where
  abbrev pub Readable : ℕ → ℕ → Type 0
  Readable width a = AreMapped width mem a × ((j : ℕ) → j < width → Far ((a + j) % 2 ^ 64))

  abbrev Takes : ℕ → ℕ → ℕ → ℕ → Core → Core → Type 0
  Takes width x t a v d = Took x t v d × IsRow width mem a (d.xmm x)

  from_gpr : (width x t a val : ℕ) (v : Core) → width ≤ 4 → ((i : ℕ) → i < width → byte_of 4 val i ≡ byte mem (a + i)) → Run Near Far (FromGpr false x t ∷ []) (with_gpr v t val) (Takes width x t a v)
  from_gpr width x t a val v few digit =
      let u : Core = with_gpr v t val in
      let bs : List ℕ = from_bytes (byte_of 4 (u.gpr t)) in
      calm_run Near Far (FromGpr false x t ∷ []) refl u (Takes width x t a v) (
        record { memory = refl; gpr = λ r ne. change_other v.gpr t val r ne; xmm = λ r ne. change_other v.xmm x bs r ne },
        record { bytes = λ i l. ap (λ r. get_or r i 0) (change_same v.xmm x bs) ∙ from_byte (byte_of 4 (u.gpr t)) i (omega (arith, l, few)) ∙ ap (λ n. byte_of 4 n i) (change_same v.gpr t val) ∙ digit i l },
      )

  module _ (x t : ℕ) (z : ℤ) (v : Core) (a : ℕ) (same : v.memory ≡ mem) (here : moved (v.gpr 0) z ≡ a) where
    one : Readable 1 a → Run Near Far (bytes_code 1 x t z) v (Takes 1 x t a v)
    one ok =
        let f : ℕ → ℕ = λ j. byte mem (a + j) in
        load_then Near Far (Load8 t (record { base = 0; disp = z })) 1 t (moved (v.gpr 0) z) (FromGpr false x t ∷ []) v (digits 1 f) (Takes 1 x t a v) refl refl refl
        (ap (value 1 v.memory) here ∙ ap (λ m. value 1 m a) same ∙ value_is 1 mem a ok.0)
        (λ j l. subst (λ b. Far ((b + j) % 2 ^ 64)) (sym here) (ok.1 j l))
        (from_gpr 1 x t a (digits 1 f) v (omega arith) (λ i l. one_digit f (λ j. byte_small mem bytewide (a + j)) i l))

    two : Readable 2 a → Run Near Far (bytes_code 2 x t z) v (Takes 2 x t a v)
    two ok =
        let f : ℕ → ℕ = λ j. byte mem (a + j) in
        load_then Near Far (Load16 t (record { base = 0; disp = z })) 2 t (moved (v.gpr 0) z) (FromGpr false x t ∷ []) v (digits 2 f) (Takes 2 x t a v) refl refl refl
        (ap (value 2 v.memory) here ∙ ap (λ m. value 2 m a) same ∙ value_is 2 mem a ok.0)
        (λ j l. subst (λ b. Far ((b + j) % 2 ^ 64)) (sym here) (ok.1 j l))
        (from_gpr 2 x t a (digits 2 f) v (omega arith) (λ i l. two_digits f (λ j. byte_small mem bytewide (a + j)) i l))

    several : (op : MoveOp) → ((x : ℕ) (o : Result Core Trap) → aligned op x o ≡ o) → move_size op ≤ 16 → Readable (move_size op) a → Run Near Far (VecLoad op x (record { base = 0; disp = z }) ∷ []) v (Takes (move_size op) x t a v)
    several op free few ok =
        let bytes = read_there (move_size op) mem a ok.0 in
        let bs = bytes.0 in
        let w : List ℕ = from_bytes (λ j. get_or bs j 0) in
        far_vector_then Near Far op free x (record { base = 0; disp = z }) [] v bs (Takes (move_size op) x t a v) refl (ap (read (move_size op) v.memory) here ∙ ap (λ m. read (move_size op) m a) same ∙ bytes.1)
        (λ j l. subst (λ b. Far ((b + j) % 2 ^ 64)) (sym here) (ok.1 j l))
        (calm_run Near Far [] refl (with_xmm v x w) (Takes (move_size op) x t a v) (
          record { memory = refl; gpr = λ r ne. refl; xmm = λ r ne. change_other v.xmm x w r ne },
          record { bytes = λ i l. ap (λ r. get_or r i 0) (change_same v.xmm x w) ∙ from_byte (λ j. get_or bs j 0) i (omega (arith, l, few)) ∙ read_byte (move_size op) mem a bs bytes.1 i l },
        ))

    pub bytes_run : (width : ℕ) → IsWidth width → Readable width a → Run Near Far (bytes_code width x t z) v (Takes width x t a v)
    bytes_run width is = each_width (λ n. Readable n a → Run Near Far (bytes_code n x t z) v (Takes n x t a v)) one two (several move.Movd (λ x o. refl) (omega arith)) (several move.Movq (λ x o. refl) (omega arith)) (several move.Movdqu (λ x o. refl) (omega arith)) width is
