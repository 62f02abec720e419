-- The lists around a function's code, built one instruction or one word after another.
use Rattle.std.proofs.Common.{◌≡◌, ◌≢◌, ℕ, zero, suc, ◌+◌, ◌<◌, pos, length, slice_index, List, [], ◌∷◌, ◌++◌, Bool, refl, sym, ap, ap₂, ◌∙◌, arith, append-nil, append_assoc}
use Rattle.x86_ins.specs.declared.ins.AluOp.TheVariants.{Sub, Add}
use Rattle.x86_ins.specs.declared.ins.Ins.{Ins}
use Rattle.x86_ins.specs.declared.ins.Ins.TheVariants.{AluImm, Lea}
use Rattle.x86_flow.specs.Moves.{away}
use Rattle.std.proofs.lemmas.List.{get_or-map}
use Rattle.orc_program.specs.declared.program.VarKind.TheVariants as kind
use Rattle.orc_program.specs.Program.{FunctionValue, var_at, count_of, places_of}
use Rattle.orc_program.proofs.Places.{length-places_of}
use Rattle.orc_frame.specs.declared.frame.Layout.{Layout}
use Rattle.orc_frame.specs.Layout.{layout_of, acc_sizes_of}
use Rattle.orc_frame.proofs.Apart.{length-acc_sizes_of}
use Rattle.orc_frame.specs.Parts.{elements_word, rows_word}
use Rattle.orc_frame.specs.Code.{joined}
use Rattle.orc_prototype.specs.declared.arguments.Shape.{Shape}
use Rattle.orc_prototype.specs.Arguments.{shape_of, sum_size}
use Rattle.orc_entry.specs.declared.sources.Source.{Source}
use Rattle.orc_entry.specs.Arguments.{register_of, elements_source, rows_source}
use Rattle.orc_entry.specs.Code.{stack_size, block_at, fill_code, fills_code, joined_fills, array_fills, param_fills, pointer_fills, entry_code, sum_code, exit_code}

pub register_last : (i : ℕ) → i ≢ 0 → i ≢ 1 → i ≢ 2 → i ≢ 3 → i ≢ 4 → register_of i ≡ 9
register_last zero a b c d e = absurd (a refl)
register_last (suc zero) a b c d e = absurd (b refl)
register_last (suc (suc zero)) a b c d e = absurd (c refl)
register_last (suc (suc (suc zero))) a b c d e = absurd (d refl)
register_last (suc (suc (suc (suc zero)))) a b c d e = absurd (e refl)
register_last (suc (suc (suc (suc (suc i))))) a b c d e = refl

-- ---- words

pub fills_append : (xs ys : List (Source × ℕ)) → fills_code (xs ++ ys) ≡ fills_code xs ++ fills_code ys
fills_append [] ys = refl
fills_append (x ∷ xs) ys = ap (λ l. fill_code x.0 x.1 ++ l) (fills_append xs ys) ∙ sym (append_assoc (fill_code x.0 x.1) (fills_code xs) (fills_code ys))

pub one_fill : (from : Source) (to : ℕ) → fills_code ((from, to) ∷ []) ≡ fill_code from to
one_fill from to = append-nil (fill_code from to)

pub two_fills : (a b c : List Ins) (s t : Source) (i j : ℕ) → b ≡ a ++ fill_code s i → c ≡ b ++ fill_code t j → c ≡ a ++ fills_code ((s, i) ∷ (t, j) ∷ [])
two_fills a b c s t i j p q = q ∙ ap (λ l. l ++ fill_code t j) p ∙ append_assoc a (fill_code s i) (fill_code t j) ∙ ap (λ l. a ++ (fill_code s i ++ l)) (sym (one_fill t j))

pub fills_none : (base : List Ins) (fills : ℕ → List (Source × ℕ)) → base ≡ base ++ fills_code (joined_fills fills 0)
fills_none base fills = sym (append-nil base)

pub fills_more : (base c d : List Ins) (fills : ℕ → List (Source × ℕ)) (n : ℕ) → c ≡ base ++ fills_code (joined_fills fills n) → d ≡ c ++ fills_code (fills n) → d ≡ base ++ fills_code (joined_fills fills (n + 1))
fills_more base c d fills n p q =
    q ∙ ap (λ l. l ++ fills_code (fills n)) p ∙ append_assoc base (fills_code (joined_fills fills n)) (fills_code (fills n)) ∙ ap (λ l. base ++ l) (sym (fills_append (joined_fills fills n) (fills n))) ∙ ap (λ k. base ++ fills_code (joined_fills fills k)) (let z : suc n ≡ n + 1 = omega arith in z)

pub fill_more : (base c d : List Ins) (fills : ℕ → List (Source × ℕ)) (n : ℕ) (from : Source) (to : ℕ) → c ≡ base ++ fills_code (joined_fills fills n) → d ≡ c ++ fill_code from to → fills n ≡ (from, to) ∷ [] → d ≡ base ++ fills_code (joined_fills fills (n + 1))
fill_more base c d fills n from to p q e = fills_more base c d fills n p (q ∙ ap (λ l. c ++ l) (sym (one_fill from to) ∙ ap fills_code (sym e)))

pub joined_same : (f g : ℕ → List (Source × ℕ)) → ((k : ℕ) → f k ≡ g k) → (n : ℕ) → joined_fills f n ≡ joined_fills g n
joined_same f g h zero = refl
joined_same f g h (suc n) = ap₂ (λ a b. a ++ b) (joined_same f g h n) (h n)

-- ---- the list before a function's code

abbrev front : List Ins
front = AluImm Sub 4 (pos stack_size) ∷ []

-- one more stretch of words is filled
grow : (a c d : List Ins) (xs ys : List (Source × ℕ)) → c ≡ a ++ fills_code xs → d ≡ c ++ fills_code ys → d ≡ a ++ fills_code (xs ++ ys)
grow a c d xs ys p q = q ∙ ap (λ l. l ++ fills_code ys) p ∙ append_assoc a (fills_code xs) (fills_code ys) ∙ ap (λ l. a ++ l) (sym (fills_append xs ys))

regroup : (x d s p q : List (Source × ℕ)) → (((x ++ d) ++ s) ++ p) ++ q ≡ x ++ (d ++ (s ++ (p ++ q)))
regroup x d s p q = append_assoc ((x ++ d) ++ s) p q ∙ append_assoc (x ++ d) s (p ++ q) ∙ append_assoc x d (s ++ (p ++ q))

-- two words, four stretches of words, and an instruction
built : (n m : Source) (p q : ℕ) (dests sources params sums : List (Source × ℕ)) (last : Ins) (a b c d e g h i j : List Ins) → a ≡ [] → b ≡ a ++ front → c ≡ b ++ fill_code n p → d ≡ c ++ fill_code m q
    → e ≡ d ++ fills_code dests → g ≡ e ++ fills_code sources → h ≡ g ++ fills_code params → i ≡ h ++ fills_code sums → j ≡ i ++ last ∷ []
    → j ≡ AluImm Sub 4 (pos stack_size) ∷ (fills_code ((n, p) ∷ (m, q) ∷ (dests ++ (sources ++ (params ++ sums)))) ++ last ∷ [])
built n m p q dests sources params sums last a b c d e g h i j none pb pc pd pe pg ph pi pj =
    let counts : List (Source × ℕ) = (n, p) ∷ (m, q) ∷ [] in
    let begun : b ≡ front = pb ∙ ap (λ l. l ++ front) none in
    let counted : d ≡ front ++ fills_code counts = two_fills front c d n m p q (pc ∙ ap (λ l. l ++ fill_code n p) begun) pd in
    let x = grow front d e counts dests counted pe in
    let y = grow front e g (counts ++ dests) sources x pg in
    let z = grow front g h ((counts ++ dests) ++ sources) params y ph in
    let w = grow front h i (((counts ++ dests) ++ sources) ++ params) sums z pi in
    pj ∙ ap (λ l. l ++ last ∷ []) (w ∙ ap (λ xs. front ++ fills_code xs) (regroup counts dests sources params sums))

pub entry_whole : (f : FunctionValue) (longs : List Bool) (s : Shape) → s ≡ shape_of f → (n m : Source) → n ≡ elements_source s → m ≡ rows_source s
    → (a b c d e g h i j : List Ins) → a ≡ [] → b ≡ a ++ AluImm Sub 4 (pos stack_size) ∷ [] → c ≡ b ++ fill_code n (block_at + elements_word) → d ≡ c ++ fill_code m (block_at + rows_word)
    → e ≡ d ++ fills_code (joined_fills (λ k. array_fills s (0 + k)) s.dests) → g ≡ e ++ fills_code (joined_fills (λ k. array_fills s (4 + k)) s.sources)
    → h ≡ g ++ fills_code (joined_fills (param_fills s longs) s.params) → i ≡ h ++ fills_code (joined_fills (pointer_fills s) s.sums) → j ≡ i ++ Lea 7 (away 4 block_at) ∷ [] → j ≡ entry_code f longs
entry_whole f longs s is n m n_is m_is a b c d e g h i j none pb pc pd pe pg ph pi pj =
    let code = λ (x y : Source) (t : Shape). AluImm Sub 4 (pos stack_size) ∷ (fills_code ((x, block_at + elements_word) ∷ (y, block_at + rows_word) ∷ (joined_fills (array_fills t) t.dests ++ (joined_fills (λ k. array_fills t (4 + k)) t.sources ++ (joined_fills (param_fills t longs) t.params ++ joined_fills (pointer_fills t) t.sums)))) ++ Lea 7 (away 4 block_at) ∷ []) in
    let from_zero : joined_fills (λ k. array_fills s (0 + k)) s.dests ≡ joined_fills (array_fills s) s.dests = joined_same (λ k. array_fills s (0 + k)) (array_fills s) (λ k. ap (array_fills s) (let z : 0 + k ≡ k = omega arith in z)) s.dests in
    built n m (block_at + elements_word) (block_at + rows_word) (joined_fills (array_fills s) s.dests) (joined_fills (λ k. array_fills s (4 + k)) s.sources) (joined_fills (param_fills s longs) s.params) (joined_fills (pointer_fills s) s.sums) (Lea 7 (away 4 block_at))
    a b c d e g h i j none pb pc pd (pe ∙ ap (λ xs. d ++ fills_code xs) from_zero) pg ph pi pj ∙ ap₂ (λ x y. code x y s) n_is m_is ∙ ap (λ t. code (elements_source t) (rows_source t) t) is

-- ---- the list behind it

sums_same : (f g : ℕ → List Ins) (n : ℕ) → ((k : ℕ) → k < n → f k ≡ g k) → joined f n ≡ joined g n
sums_same f g zero h = refl
sums_same f g (suc n) h = ap₂ (λ a b. a ++ b) (sums_same f g n (λ k l. h k (omega (arith, l)))) (h n (omega arith))

sizes_are : (f : FunctionValue) (g : ℕ) → g < count_of kind.Accumulator f.vars → slice_index (acc_sizes_of f.vars) g ≡ sum_size f g
sizes_are f g l = get_or-map (λ p. (var_at f.vars p).size) (places_of kind.Accumulator f.vars) g 0 0 (omega (arith, l, length-places_of kind.Accumulator f.vars))

pub exit_whole : (f : FunctionValue) (layout : Layout) (sizes : List ℕ) (a b c : List Ins) → layout ≡ layout_of f → sizes ≡ layout.acc_sizes.items → a ≡ [] → b ≡ a ++ joined (λ g. sum_code (slice_index sizes g) g) (length sizes) → c ≡ b ++ AluImm Add 4 (pos stack_size) ∷ [] → c ≡ exit_code f
unfolding layout_of
exit_whole f layout sizes a b c is sizes_is none pb pc =
    let all : sizes ≡ acc_sizes_of f.vars = sizes_is ∙ ap (λ (l : Layout). l.acc_sizes.items) is in
    let n = count_of kind.Accumulator f.vars in
    let count : length sizes ≡ n = ap length all ∙ length-acc_sizes_of f in
    let code = λ (xs : List ℕ). λ (m : ℕ). joined (λ g. sum_code (slice_index xs g) g) m in
    let listed : b ≡ joined (λ g. sum_code (sum_size f g) g) n = pb ∙ ap (λ l. l ++ code sizes (length sizes)) none ∙ ap₂ code all count ∙ sums_same (λ g. sum_code (slice_index (acc_sizes_of f.vars) g) g) (λ g. sum_code (sum_size f g) g) n (λ k l. ap (λ z. sum_code z k) (sizes_are f k l)) in
    pc ∙ ap (λ l. l ++ AluImm Add 4 (pos stack_size) ∷ []) listed
