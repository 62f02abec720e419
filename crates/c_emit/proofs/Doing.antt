-- Statements one after the other, where each has a meaning and the budget has room.
use Rattle.std.proofs.Common.{◌≡◌, ℕ, zero, suc, ◌+◌, ◌*◌, ◌%◌, ◌^◌, ◌<◌, ◌≤◌, nat_lt, if◌then◌else◌, Bool, true, List, [], ◌∷◌, ◌++◌, length, length-append, Option, Some, None, is_some, Result, Ok, Err, refl, sym, ap, ◌∙◌, subst, arith}
use Rattle.std.proofs.lemmas.Bool.Decides.{nat_tests}
use Rattle.std.proofs.lemmas.Nat.{shl_whole}
use Rattle.orc_bits.specs.Memory.{bind, put}
use Rattle.orc_bits.specs.Lanes.{change}
use Rattle.orc_program.specs.declared.call.Call.{Call}
use Rattle.orc_program.specs.Meaning.{pack}
use Rattle.orc_emul.proofs.Packed.{pack_room}
use Rattle.c_run.specs.declared.tree.CIndex.{CIndex}
use Rattle.c_run.specs.declared.tree.CExpr.{CExpr}
use Rattle.c_run.specs.declared.tree.CExpr.TheVariants.{V}
use Rattle.c_run.specs.declared.tree.CStmt.{CStmt}
use Rattle.c_run.specs.declared.tree.CStmt.TheVariants.{SetV, SetW, SetByte}
use Rattle.c_run.specs.Tree.{CFunctionValue}
use Rattle.c_run.specs.Meaning.{CState, Turn, Stop, Budget, go_on, counted, count, assign, set_if, put_byte, byte_address, body_of}
use Rattle.c_run.proofs.Trees.{value_v}
use Rattle.c_emit.specs.Body.{packed}
use Rattle.c_emit.proofs.Values.{Scene, Gives, same, number, add, shl}

-- from one state the statements lead to the other, within every budget that has room for them
pub record Does (c : CFunctionValue) (call : Call) (t : Turn) (xs : List CStmt) (s e : CState) : Type 0 where
  pub runs : (budget : ℕ) → s.done + length xs ≤ budget → body_of c call budget t xs s ≡ Ok e
  pub done : e.done ≡ s.done + length xs

pub does_none : (c : CFunctionValue) (call : Call) (t : Turn) (s : CState) → Does c call t [] s s
does_none c call t s = record { runs = λ budget l. refl; done = omega arith }

next : (r : Result CState Stop) (e g : CState) (f h : CState → Result CState Stop) → ((m : CState) → f m ≡ Ok e → h m ≡ Ok g) → go_on r f ≡ Ok e → go_on r h ≡ Ok g
next (Ok m) e g f h k p = k m p
next (Err x) e g f h k p = absurd (let q : ⊥ = cc in q)

run_both : (c : CFunctionValue) (call : Call) (t : Turn) (budget : ℕ) (xs ys : List CStmt) (s e g : CState) → body_of c call budget t xs s ≡ Ok e → body_of c call budget t ys e ≡ Ok g → body_of c call budget t (xs ++ ys) s ≡ Ok g
run_both c call t budget [] ys s e g p q = ap (λ (r : Result CState Stop). go_on r (body_of c call budget t ys)) p ∙ q
run_both c call t budget (x ∷ xs) ys s e g p q = next (count budget (assign c call t x) s) e g (body_of c call budget t xs) (body_of c call budget t (xs ++ ys)) (λ m h. run_both c call t budget xs ys m e g h q) p

pub does_both : {c : CFunctionValue} {call : Call} {t : Turn} {xs ys : List CStmt} {s e g : CState} → Does c call t xs s e → Does c call t ys e g → Does c call t (xs ++ ys) s g
does_both {c} {call} {t} {xs} {ys} {s} {e} {g} p q =
    let n = length-append xs ys in
    let d = p.done in
    record {
      runs = λ budget l. run_both c call t budget xs ys s e g (p.runs budget (omega (arith, l, n))) (q.runs budget (omega (arith, l, n, d)));
      done = (let f = q.done in omega (arith, n, d, f));
    }

-- the state after one statement, which is counted
abbrev pub counting : CState → CState
counting e = record e { done = e.done + 1 }

pub does_one : (c : CFunctionValue) (call : Call) (t : Turn) (x : CStmt) (s e : CState) → assign c call t x s ≡ Some e → e.done ≡ s.done → Does c call t (x ∷ []) s (counting e)
does_one c call t x s e p d = record { runs = λ budget l. by budget l; done = ap (λ n. n + 1) d }
  where
    by : (budget : ℕ) → s.done + 1 ≤ budget → go_on (count budget (assign c call t x) s) (body_of c call budget t []) ≡ Ok (counting e)
    by budget l =
        let r : nat_lt s.done budget ≡ true = grind (arith, nat_tests) in
        ap (λ b. go_on (if b then counted s (assign c call t x s) else Err (Budget s.memory)) (body_of c call budget t [])) r
        ∙ ap (λ (o : Option CState). go_on (counted s o) (body_of c call budget t [])) p
        ∙ ap (λ n. let r : Result CState Stop = Ok (record e { done = n + 1 }) in r) (sym d)

-- ---- assignments

abbrev pub scene : Call → Turn → CState → Scene
scene call t s = record { call = call; turn = t; state = s }

abbrev pub with_v : CState → ℕ → ℕ → CState
with_v s d x = record s { v = change s.v d (Some x) }

pub does_v : (c : CFunctionValue) (call : Call) (t : Turn) (s : CState) (d x : ℕ) (e : CExpr) → d < c.temps → Gives (scene call t s) e x → Does c call t (SetV d e ∷ []) s (counting (with_v s d x))
does_v c call t s d x e l g =
    let b : nat_lt d c.temps ≡ true = grind (arith, nat_tests) in
    does_one c call t (SetV d e) s (with_v s d x) (ap (λ (o : Option ℕ). bind o (λ x. set_if (nat_lt d c.temps) (with_v s d x))) g.is ∙ ap (λ t. set_if t (with_v s d x)) b) refl

abbrev pub with_w : CState → ℕ → ℕ → CState
with_w s d x = record s { w = change s.w d (Some x) }

pub does_w : (c : CFunctionValue) (call : Call) (t : Turn) (s : CState) (d x : ℕ) (e : CExpr) → d < c.accs → Gives (scene call t s) e x → Does c call t (SetW d e ∷ []) s (counting (with_w s d x))
does_w c call t s d x e l g =
    let b : nat_lt d c.accs ≡ true = grind (arith, nat_tests) in
    does_one c call t (SetW d e) s (with_w s d x) (ap (λ (o : Option ℕ). bind o (λ x. set_if (nat_lt d c.accs) (with_w s d x))) g.is ∙ ap (λ t. set_if t (with_w s d x)) b) refl

abbrev pub with_byte : CState → ℕ → ℕ → CState
with_byte s a b = record s { memory = put s.memory a b }

pub does_byte : (c : CFunctionValue) (call : Call) (t : Turn) (s : CState) (d a b : ℕ) (x : CIndex) (e : CExpr) → byte_address call t d x ≡ Some a → is_some (s.memory a) ≡ true → Gives (scene call t s) e b → Does c call t (SetByte d x e ∷ []) s (counting (with_byte s a (b % 256)))
does_byte c call t s d a b x e p m g =
    does_one c call t (SetByte d x e) s (with_byte s a (b % 256))
    (ap (λ (o : Option ℕ). bind o (λ b. bind (byte_address call t d x) (λ a. bind (put_byte s.memory a (b % 256)) (λ mem. Some (record s { memory = mem }))))) g.is
    ∙ ap (λ (o : Option ℕ). bind o (λ a. bind (put_byte s.memory a (b % 256)) (λ mem. Some (record s { memory = mem })))) p
    ∙ ap (λ t. bind (if t then Some (put s.memory a (b % 256)) else None) (λ mem. Some (record s { memory = mem }))) m)
    refl

-- ---- parts of instructions

pub v_gives : (call : Call) (t : Turn) (s : CState) (d x : ℕ) → s.v d ≡ Some x → Gives (scene call t s) (V d) x
v_gives call t s d x h = record { is = value_v call t s d ∙ h }

-- numbers packed into sub-lanes of t bits
pub packed_gives : {z : Scene} (t k : ℕ) (e : ℕ → CExpr) (g : ℕ → ℕ) → 0 < t → t * suc k ≤ 64 → ((q : ℕ) → q ≤ k → Gives z (e q) (g q)) → ((q : ℕ) → g q < 2 ^ t) → Gives z (packed t k e) (pack t (suc k) g)
packed_gives {z} t zero e g p l h b =
    let o : 2 ^ (t * 0) ≡ 1 = ap (λ n. 2 ^ n) (let q : t * 0 ≡ 0 = omega arith in q) in
    same (pack t 1 g) (h 0 (omega arith)) (sym (ap (λ n. 0 + g 0 * n) o ∙ (omega arith)))
packed_gives {z} t (suc k) e g p l h b =
    let n : t * suc (suc k) ≡ t * suc k + t = grind arith in
    let r = packed_gives t k e g p (omega (arith, l, n)) (λ q m. h q (omega (arith, m))) b in
    let m = shl (h (suc k) (omega arith)) (number z (t * suc k)) (omega (arith, l, n, p)) in
    let whole = shl_whole (g (suc k)) t (t * suc k) 64 (b (suc k)) (omega (arith, l, n)) in
    add r (same (g (suc k) * 2 ^ (t * suc k)) m whole) (pack_room t (suc k) (suc (suc k)) g b (omega arith) l)
