-- Cells of arrays, read and written byte by byte.
use Rattle.std.proofs.Common.{◌≡◌, ℕ, zero, suc, ◌+◌, ◌*◌, ◌/◌, ◌%◌, ◌^◌, ◌<◌, ◌≤◌, true, List, [], ◌∷◌, Option, Some, is_some, sym, ap, ap₂, ◌∙◌, subst, arith}
use Rattle.std.proofs.lemmas.Nat.{shl_whole}
use Rattle.std.proofs.Math.Pow.{pow_mono}
use Rattle.orc_bits.specs.Memory.{Memory, bind, read, number, put, fill}
use Rattle.orc_bits.proofs.Memories.{bind_some, some_one, value_small, fill_mapped}
use Rattle.orc_bits.proofs.LaneLaws.{pow256}
use Rattle.orc_program.specs.declared.program.Var.{Var}
use Rattle.orc_program.specs.declared.call.Call.{Call}
use Rattle.orc_program.specs.Program.{var_at, array_number}
use Rattle.c_run.specs.declared.tree.CExpr.{CExpr}
use Rattle.c_run.specs.declared.tree.CExpr.TheVariants.{V}
use Rattle.c_run.specs.declared.tree.CStmt.TheVariants.{SetByte}
use Rattle.c_run.specs.Tree.{CFunctionValue}
use Rattle.c_run.specs.Meaning.{CState, Turn, byte_address}
use Rattle.c_run.proofs.Trees.{value_byte}
use Rattle.c_emit.specs.Expressions.{moved}
use Rattle.c_emit.specs.Body.{byte_of, bytes_of, index_of, stores}
use Rattle.c_emit.proofs.Values as values
use Rattle.c_emit.proofs.Values.{Scene, Gives, same, add, shl, moved_gives}
use Rattle.c_emit.proofs.Doing.{Does, does_none, does_both, does_byte, counting, with_byte, scene, v_gives}

-- byte j of a cell has this address, for j below the cell's size
pub record IsAt (call : Call) (t : Turn) (vars : List Var) (p a : ℕ) : Type 0 where
  pub address : (j : ℕ) → j < (var_at vars p).size → byte_address call t (array_number vars p) (index_of vars p j) ≡ Some ((a + j) % 2 ^ 64)

byte_gives : (call : Call) (t : Turn) (s : CState) (vars : List Var) (p a j b : ℕ) → IsAt call t vars p a → j < (var_at vars p).size → s.memory ((a + j) % 2 ^ 64) ≡ Some b → Gives (scene call t s) (byte_of vars p j) b
byte_gives call t s vars p a j b h l m = record { is = value_byte call t s (array_number vars p) (index_of vars p j) ∙ ap (λ (o : Option ℕ). bind o s.memory) (h.address j l) ∙ m }

-- the numbers of bytes are small
number_below : (n : ℕ) (mem : Memory) (a : ℕ) (bs : List ℕ) → ((x b : ℕ) → mem x ≡ Some b → b < 256) → read n mem a ≡ Some bs → number bs < 256 ^ n
number_below n mem a bs w h = value_small n mem a (number bs) w (ap (λ (o : Option (List ℕ)). bind o (λ bs. Some (number bs))) h)

-- the bytes from byte j on spell their number
pub bytes_give : (call : Call) (t : Turn) (s : CState) (vars : List Var) (p a : ℕ) → IsAt call t vars p a → ((x b : ℕ) → s.memory x ≡ Some b → b < 256) → (n j : ℕ) (bs : List ℕ) → j + suc n ≤ (var_at vars p).size → suc n ≤ 8 → read (suc n) s.memory (a + j) ≡ Some bs → Gives (scene call t s) (bytes_of vars p j n) (number bs)
bytes_give call t s vars p a h w zero j bs l k m =
    let b = bind_some (s.memory ((a + j) % 2 ^ 64)) (λ b. bind (read zero s.memory (a + j + 1)) (λ bs. Some (b ∷ bs))) bs m in
    let e : b.0 ∷ [] ≡ bs = some_one (b.0 ∷ []) bs b.2 in
    same (number bs) (byte_gives call t s vars p a j b.0 h (omega (arith, l)) b.1) ((omega arith) ∙ ap number e)
bytes_give call t s vars p a h w (suc n) j bs l k m =
    let b = bind_some (s.memory ((a + j) % 2 ^ 64)) (λ b. bind (read (suc n) s.memory (a + j + 1)) (λ bs. Some (b ∷ bs))) bs m in
    let c = bind_some (read (suc n) s.memory (a + j + 1)) (λ bs. let r : Option (List ℕ) = Some (b.0 ∷ bs) in r) bs b.2 in
    let e : b.0 ∷ c.0 ≡ bs = some_one (b.0 ∷ c.0) bs c.2 in
    let r : read (suc n) s.memory (a + (j + 1)) ≡ Some c.0 = ap (λ i. read (suc n) s.memory i) (let q : a + (j + 1) ≡ a + j + 1 = omega arith in q) ∙ c.1 in
    let rest = bytes_give call t s vars p a h w n (j + 1) c.0 (omega (arith, l)) (omega (arith, k)) r in
    let small = number_below (suc n) s.memory (a + j + 1) c.0 w c.1 in
    let top : 256 ^ suc n ≤ 256 ^ 7 = subst (λ i. i ≤ 256 ^ 7) (sym (pow256 (suc n))) (pow_mono {i = 8 * suc n} {j = 56} (omega (arith, k))) in
    let bound : number c.0 < 2 ^ 56 = omega (arith, small, top) in
    let moved = same (number c.0 * 2 ^ 8) (shl rest (values.number (scene call t s) 8) (omega arith)) (shl_whole (number c.0) 56 8 64 bound (omega arith)) in
    let first = byte_gives call t s vars p a j b.0 h (omega (arith, l)) b.1 in
    let byte = w ((a + j) % 2 ^ 64) b.0 b.1 in
    same (number bs) (add first moved (omega (arith, bound, byte))) ((omega arith) ∙ ap number e)

-- the state whose memory has the low n bytes of x in a cell, after n statements
abbrev pub filled : CState → ℕ → ℕ → ℕ → CState
filled s a x n = record s { memory = fill n s.memory a (λ j. x / 256 ^ j % 256); done = s.done + n }

-- byte by byte a variable goes to a cell
pub stores_do : (c : CFunctionValue) (call : Call) (t : Turn) (s : CState) (vars : List Var) (p a d x n : ℕ) → IsAt call t vars p a → n ≤ (var_at vars p).size → n ≤ 8 → ((j : ℕ) → j < n → is_some (s.memory ((a + j) % 2 ^ 64)) ≡ true) → s.v d ≡ Some x → Does c call t (stores vars p d n) s (filled s a x n)
unfolding fill
stores_do c call t s vars p a d x zero h l k m v = done
  where
    done : Does c call t [] s (filled s a x zero)
    done = subst (λ n. Does c call t [] s (record s { done = n })) (let q : s.done ≡ s.done + 0 = omega arith in q) (does_none c call t s)
stores_do c call t s vars p a d x (suc n) h l k m v =
    let before = stores_do c call t s vars p a d x n h (omega (arith, l)) (omega (arith, k)) (λ j i. m j (omega (arith, i))) v in
    let mid : CState = filled s a x n in
    let there = fill_mapped n s.memory a (λ j. x / 256 ^ j % 256) ((a + n) % 2 ^ 64) (m n (omega arith)) in
    let gives = moved_gives (8 * n) (omega (arith, k)) (v_gives call t mid d x v) in
    let one = does_byte c call t mid (array_number vars p) ((a + n) % 2 ^ 64) (x / 2 ^ (8 * n)) (index_of vars p n) (moved (V d) (8 * n)) (h.address n (omega (arith, l))) there gives in
    last n (does_both before one)
  where
    last : (n : ℕ) → Does c call t (stores vars p d (suc n)) s (counting (with_byte (filled s a x n) ((a + n) % 2 ^ 64) (x / 2 ^ (8 * n) % 256))) → Does c call t (stores vars p d (suc n)) s (filled s a x (suc n))
    last n r =
        let b : x / 2 ^ (8 * n) % 256 ≡ x / 256 ^ n % 256 = ap (λ i. x / i % 256) (sym (pow256 n)) in
        let e : s.done + n + 1 ≡ s.done + suc n = omega arith in
        subst (λ (y : CState). Does c call t (stores vars p d (suc n)) s y) (ap₂ (λ b i. let y : CState = record s { memory = put (fill n s.memory a (λ j. x / 256 ^ j % 256)) ((a + n) % 2 ^ 64) b; done = i } in y) b e) r

-- an expression goes to a cell of one byte
pub store_one : (c : CFunctionValue) (call : Call) (t : Turn) (s : CState) (vars : List Var) (p a x : ℕ) (e : CExpr) → IsAt call t vars p a → 0 < (var_at vars p).size → is_some (s.memory ((a + 0) % 2 ^ 64)) ≡ true → Gives (scene call t s) e x → Does c call t (SetByte (array_number vars p) (index_of vars p 0) e ∷ []) s (filled s a x 1)
unfolding fill
store_one c call t s vars p a x e h l m g =
    let b : x % 256 ≡ x / 256 ^ 0 % 256 = omega arith in
    subst (λ b. Does c call t (SetByte (array_number vars p) (index_of vars p 0) e ∷ []) s (counting (with_byte s ((a + 0) % 2 ^ 64) b))) b
    (does_byte c call t s (array_number vars p) ((a + 0) % 2 ^ 64) x (index_of vars p 0) e (h.address 0 l) m g)
