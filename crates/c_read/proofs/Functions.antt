-- Functions are guessed right.
use Rattle.std.proofs.Common.{◌≡◌, ℕ, zero, suc, ◌+◌, ◌≤◌, ◌==◌, Bool, true, false, List, [], ◌∷◌, ◌++◌, codes, drop, length, refl, sym, ap, subst, ◌∙◌, inl, inr, arith, append_assoc}
use Rattle.std.specs.Fmt.{decimal}
use Rattle.std.specs.List.{AllByRecursion}
use Rattle.std.proofs.lemmas.Bool.{cases_Bool}
use Rattle.std.proofs.lemmas.Bool.Decides.{nat_tests}
use Rattle.std.proofs.lemmas.List.{length-append}
use Rattle.orc_program.specs.Words.{is_name, is_name_byte}
use Rattle.c_run.specs.declared.tree.CStmt.{CStmt}
use Rattle.c_run.specs.Tree.{CFunctionValue}
use Rattle.c_emit.specs.Text.{line_text, numbered, loops_text, body_text, ends_text, function_text}
use Rattle.c_emit.specs.declared.lines.Line.TheVariants.{Temp, Sum, Start, Store}
use Rattle.c_read.specs.declared.function.Counts.{Counts}
use Rattle.c_read.specs.Limits.{InLimits, IsStmt}
use Rattle.c_read.specs.Guess.{head, name_at, no_counts, counts_at, is_temp, temps_at, past, starts_stmt, body_at, function_at}
use Rattle.c_read.specs.Wrong.{Begins}
use Rattle.c_read.proofs.Pieces.{Reads, begins_none, reads_none, reads_known, reads_by, reads_same}
use Rattle.c_read.proofs.Bounded.{ReadsIn, in_all, in_known, in_piece, in_same}
use Rattle.c_read.proofs.Names.{name_reads, name_fine}
use Rattle.c_read.proofs.Parts.{comma, all, Limited, counts_reads, counts_fine}
use Rattle.c_read.proofs.Temps.{whole, whole_is, temps_in}
use Rattle.c_read.proofs.Stmts.{never, body_reads, body_fine}

-- ---- parts that are known

empty : (m : ℕ) → ◌≡◌ {A = List ℕ} (drop m []) []
empty zero = refl
empty (suc m) = refl

drop_drop : (a b : ℕ) (s : List ℕ) → drop b (drop a s) ≡ drop (a + b) s
drop_drop zero b s = let e : b ≡ 0 + b = omega arith in ap (λ (k : ℕ). drop k s) e
drop_drop (suc a) b [] = empty b ∙ sym (empty (suc a + b))
drop_drop (suc a) b (x ∷ s) = let e : suc (a + b) ≡ suc a + b = omega arith in drop_drop a b s ∙ ap (λ (k : ℕ). drop k (x ∷ s)) e

past_is : (part : ℕ → List ℕ) (k n : ℕ) (b : List ℕ) → past part k n b ≡ drop (length (numbered part k n)) b
unfolding past
past_is part k zero b = refl
past_is part k (suc n) b =
    past_is part (k + 1) n (drop (length (part k)) b) ∙ drop_drop (length (part k)) (length (numbered part (k + 1) n)) b
    ∙ ap (λ (m : ℕ). drop m b) (sym (length-append (part k) (numbered part (k + 1) n)))

in_past : {A : Type 0} (n : ℕ) (stops : ℕ → Bool) (v : A) (part : ℕ → List ℕ) (k : ℕ) (t : List ℕ) (f : List ℕ → List ℕ) (g : List ℕ → A × List ℕ) → ReadsIn n stops v t f g
    → ReadsIn n stops v (numbered part 0 k ++ t) (λ b. numbered part 0 k ++ f (past part 0 k b)) (λ b. g (past part 0 k b))
in_past {A} n stops v part k t f g r =
    let i = in_known n stops v (numbered part 0 k) t f g r in
    record {
      part = λ p y q l e. subst (λ (s : List ℕ). Begins p (numbered part 0 k ++ f s)) (sym (past_is part 0 k (p ++ q))) (i.part p y q l e);
      again = λ q l h. ap g (past_is part 0 k ((numbered part 0 k ++ t) ++ q)) ∙ i.again q l h;
    }

-- ---- the heads of the loops

abbrev front : List ℕ
front = codes "for (j = 0; j < "

abbrev rows : Bool → List ℕ
rows true = codes "m; j++) {\nfor (i = 0; i < n; i++) {\n"
rows false = codes "1; j++) {\nfor (i = 0; i < n; i++) {\n"

loops_is : (d : Bool) → loops_text d ≡ front ++ rows d
loops_is true = refl
loops_is false = refl

abbrev rows_at : List ℕ → Bool × List ℕ
rows_at b = (head b == 109, drop 36 b)

rows_reads : (d : Bool) → Reads never d (rows d) (λ b. rows (rows_at b).0) rows_at
rows_reads true =
    reads_by never true 109 (codes "; j++) {\nfor (i = 0; i < n; i++) {\n") (λ b. rows (rows_at b).0) (λ b. rows true) rows_at (λ b. (true, drop 36 b)) (λ b. refl) (λ b. refl)
    (reads_known never true (rows true) [] (λ b. []) (λ b. (true, b)) (reads_none never true (λ b. [])))
rows_reads false =
    reads_by never false 49 (codes "; j++) {\nfor (i = 0; i < n; i++) {\n") (λ b. rows (rows_at b).0) (λ b. rows false) rows_at (λ b. (false, drop 36 b)) (λ b. refl) (λ b. refl)
    (reads_known never false (rows false) [] (λ b. []) (λ b. (false, b)) (reads_none never false (λ b. [])))

abbrev loops_at : List ℕ → Bool × List ℕ
loops_at b = rows_at (drop 16 b)

loops_reads : (d : Bool) → Reads never d (loops_text d) (λ b. loops_text (loops_at b).0) loops_at
loops_reads d =
    reads_same never d (loops_text d) (front ++ rows d) (λ b. loops_text (loops_at b).0) (λ b. front ++ rows (rows_at (drop 16 b)).0) loops_at (loops_is d) (λ b. loops_is (loops_at b).0)
    (reads_known never d front (rows d) (λ b. rows (rows_at b).0) rows_at (rows_reads d))

-- ---- from the end to the beginning

abbrev value : List ℕ → Counts → ℕ → Bool → List CStmt → CFunctionValue
value name c k d body = record { name = name; arrays = c.arrays; params = c.params; accs = c.accs; temps = k; two_d = d; body = body }

shorter : (x r : List ℕ) (n : ℕ) → length (x ++ r) ≤ n → length r ≤ n
shorter x r n h = let e = length-append x r in omega (arith, e, h)

module _ (n : ℕ) where
  abbrev g1 : List ℕ → Counts → ℕ → Bool → List CStmt → List ℕ → CFunctionValue × List ℕ
  g1 name c k d body b = (value name c k d body, drop 2 (past (line_text Store) 0 c.accs (drop 4 b)))

  r1 : (name : List ℕ) (c : Counts) (k : ℕ) (d : Bool) (body : List CStmt) → ReadsIn n never (value name c k d body) (ends_text c.accs) (λ b. ends_text c.accs) (g1 name c k d body)
  r1 name c k d body =
      let v = value name c k d body in
      in_known n never v (codes "}\n}\n") (numbered (line_text Store) 0 c.accs ++ codes "}\n") (λ b. numbered (line_text Store) 0 c.accs ++ codes "}\n") (λ b. (v, drop 2 (past (line_text Store) 0 c.accs b)))
      (in_past n never v (line_text Store) c.accs (codes "}\n") (λ b. codes "}\n") (λ b. (v, drop 2 b))
      (in_all n never v (codes "}\n") (λ b. codes "}\n") (λ b. (v, drop 2 b)) (reads_known never v (codes "}\n") [] (λ b. []) (λ b. (v, b)) (reads_none never v (λ b. [])))))

  abbrev g2 : List ℕ → Counts → ℕ → Bool → List ℕ → CFunctionValue × List ℕ
  g2 name c k d b = g1 name c k d (body_at n b).0 (body_at n b).1

  abbrev f2 : Counts → List ℕ → List ℕ
  f2 c b = body_text (body_at n b).0 ++ ends_text c.accs

  r2 : (name : List ℕ) (c : Counts) (k : ℕ) (d : Bool) (body : List CStmt) → AllByRecursion IsStmt body → ReadsIn n never (value name c k d body) (body_text body ++ ends_text c.accs) (f2 c) (g2 name c k d)
  r2 name c k d body h =
      in_piece n n starts_stmt never body_text (body_at n) body (value name c k d body) (ends_text c.accs) (λ x b. ends_text c.accs) (λ x b. g1 name c k d x b)
      (λ r l. shorter (body_text body) r n l) (λ x r e. ap starts_stmt (sym (ap head e))) (λ q e. refl) (body_reads n body h) (r1 name c k d body)

  abbrev g3 : List ℕ → Counts → ℕ → List ℕ → CFunctionValue × List ℕ
  g3 name c k b = g2 name c k (loops_at b).0 (loops_at b).1

  abbrev f3 : Counts → List ℕ → List ℕ
  f3 c b = loops_text (loops_at b).0 ++ f2 c (loops_at b).1

  r3 : (name : List ℕ) (c : Counts) (k : ℕ) (d : Bool) (body : List CStmt) → AllByRecursion IsStmt body → ReadsIn n never (value name c k d body) (loops_text d ++ (body_text body ++ ends_text c.accs)) (f3 c) (g3 name c k)
  r3 name c k d body h =
      in_piece n n never never loops_text loops_at d (value name c k d body) (body_text body ++ ends_text c.accs) (λ x b. f2 c b) (λ x b. g2 name c k x b)
      (λ r l. shorter (loops_text d) r n l) (λ x r e. refl) (λ q e. refl) (in_all n never d (loops_text d) (λ b. loops_text (loops_at b).0) loops_at (loops_reads d)) (r2 name c k d body h)

  abbrev g4 : List ℕ → Counts → ℕ → List ℕ → CFunctionValue × List ℕ
  g4 name c k b = g3 name c k (past (line_text Start) 0 c.accs (past (line_text Sum) 0 c.accs b))

  abbrev f4 : Counts → List ℕ → List ℕ
  f4 c b = numbered (line_text Sum) 0 c.accs ++ (numbered (line_text Start) 0 c.accs ++ f3 c (past (line_text Start) 0 c.accs (past (line_text Sum) 0 c.accs b)))

  abbrev t4 : Counts → Bool → List CStmt → List ℕ
  t4 c d body = numbered (line_text Sum) 0 c.accs ++ (numbered (line_text Start) 0 c.accs ++ (loops_text d ++ (body_text body ++ ends_text c.accs)))

  r4 : (name : List ℕ) (c : Counts) (k : ℕ) (d : Bool) (body : List CStmt) → AllByRecursion IsStmt body → ReadsIn n never (value name c k d body) (t4 c d body) (f4 c) (g4 name c k)
  r4 name c k d body h =
      let v = value name c k d body in
      in_past n never v (line_text Sum) c.accs (numbered (line_text Start) 0 c.accs ++ (loops_text d ++ (body_text body ++ ends_text c.accs))) (λ b. numbered (line_text Start) 0 c.accs ++ f3 c (past (line_text Start) 0 c.accs b)) (λ b. g3 name c k (past (line_text Start) 0 c.accs b))
      (in_past n never v (line_text Start) c.accs (loops_text d ++ (body_text body ++ ends_text c.accs)) (f3 c) (g3 name c k) (r3 name c k d body h))

  abbrev g5 : List ℕ → Counts → List ℕ → CFunctionValue × List ℕ
  g5 name c b = g4 name c (temps_at c.accs 0 256 b).0 (temps_at c.accs 0 256 b).1

  abbrev f5 : Counts → List ℕ → List ℕ
  f5 c b = whole c.accs (f4 c) 256 0 b

  abbrev made : ℕ → ℕ → ℕ → Counts
  made a p g = record { arrays = a; params = p; accs = g }

  some_accs : (g : ℕ) (b : List ℕ) → is_temp (suc g) b ≡ (head (drop 9 b) == 118)
  some_accs g b = let f : (suc g == 0) ≡ false = grind (arith, nat_tests) in rw f refl

  abbrev T5 : ℕ → ℕ → ℕ → List ℕ → ℕ → Bool → List CStmt → Type 0
  T5 a p g name k d body = ReadsIn n never (value name (made a p g) k d body) (numbered (line_text Temp) 0 k ++ t4 (made a p g) d body) (f5 (made a p g)) (g5 name (made a p g))

  without_accs : (a p : ℕ) (name : List ℕ) (k : ℕ) (d : Bool) (body : List CStmt) (s : List ℕ) → t4 (made a p 0) d body ≡ 102 ∷ s → k ≤ 256 → AllByRecursion IsStmt body → T5 a p 0 name k d body
  without_accs a p name k d body s e l h =
      let c = made a p 0 in
      let v = value name c k d body in
      subst (λ (t : List ℕ). ReadsIn n never v (numbered (line_text Temp) 0 k ++ t) (f5 c) (g5 name c)) (sym e)
      (temps_in 0 [] 117 102 (λ b. refl) refl refl (λ j. codes "int64_t v" ++ (decimal j ++ codes ";\n")) (λ j. refl) n never v s (f4 c) (g4 name c) (λ b. begins_none (f4 c b)) 256 k 0 k l (omega arith)
      (subst (λ (t : List ℕ). ReadsIn n never v t (f4 c) (g4 name c k)) e (r4 name c k d body h)))

  with_accs : (a p g : ℕ) (name : List ℕ) (k : ℕ) (d : Bool) (body : List CStmt) → k ≤ 256 → AllByRecursion IsStmt body → T5 a p (suc g) name k d body
  with_accs a p g name k d body l h =
      let c = made a p (suc g) in
      let v = value name c k d body in
      temps_in (suc g) (codes "uint64_t ") 118 119 (some_accs g) refl refl (λ j. decimal j ++ codes ";\n") (λ j. refl) n never v
      (((decimal 0 ++ codes ";\n") ++ numbered (line_text Sum) (0 + 1) g) ++ (numbered (line_text Start) 0 (suc g) ++ (loops_text d ++ (body_text body ++ ends_text (suc g)))))
      (f4 c) (g4 name c) (λ b. (((codes "w" ++ (decimal 0 ++ codes ";\n")) ++ numbered (line_text Sum) (0 + 1) g) ++ (numbered (line_text Start) 0 (suc g) ++ f3 c (past (line_text Start) 0 (suc g) (past (line_text Sum) 0 (suc g) b))), refl)) 256 k 0 k l (omega arith) (r4 name c k d body h)

  r5 : (a p g : ℕ) (name : List ℕ) (k : ℕ) (d : Bool) (body : List CStmt) → k ≤ 256 → AllByRecursion IsStmt body → T5 a p g name k d body
  r5 a p zero name k true body l h = without_accs a p name k true body (drop 1 (loops_text true) ++ (body_text body ++ ends_text 0)) refl l h
  r5 a p zero name k false body l h = without_accs a p name k false body (drop 1 (loops_text false) ++ (body_text body ++ ends_text 0)) refl l h
  r5 a p (suc g) name k d body l h = with_accs a p g name k d body l h

  -- ---- the signature
  abbrev opening : List ℕ
  opening = codes ")\n{\nint64_t i;\nint64_t j;\n"

  abbrev middle : List ℕ
  middle = codes "(int64_t n, int64_t m"

  abbrev g6 : List ℕ → Counts → List ℕ → CFunctionValue × List ℕ
  g6 name c b = g5 name c (drop 26 b)

  abbrev f6 : Counts → List ℕ → List ℕ
  f6 c b = opening ++ f5 c (drop 26 b)

  abbrev t6 : Counts → ℕ → Bool → List CStmt → List ℕ
  t6 c k d body = opening ++ (numbered (line_text Temp) 0 k ++ t4 c d body)

  r6 : (c : Counts) (name : List ℕ) (k : ℕ) (d : Bool) (body : List CStmt) → k ≤ 256 → AllByRecursion IsStmt body → ReadsIn n never (value name c k d body) (t6 c k d body) (f6 c) (g6 name c)
  r6 c name k d body l h = in_known n never (value name c k d body) opening (numbered (line_text Temp) 0 k ++ t4 c d body) (f5 c) (g5 name c) (r5 c.arrays c.params c.accs name k d body l h)

  abbrev g8 : List ℕ → List ℕ → CFunctionValue × List ℕ
  g8 name b = g6 name (counts_at 24 no_counts (drop 21 b)).0 (counts_at 24 no_counts (drop 21 b)).1

  abbrev f8 : List ℕ → List ℕ
  f8 b = middle ++ (all (counts_at 24 no_counts (drop 21 b)).0 ++ f6 (counts_at 24 no_counts (drop 21 b)).0 (counts_at 24 no_counts (drop 21 b)).1)

  abbrev t8 : Counts → ℕ → Bool → List CStmt → List ℕ
  t8 c k d body = middle ++ (all c ++ t6 c k d body)

  r8 : (c : Counts) (name : List ℕ) (k : ℕ) (d : Bool) (body : List CStmt) → Limited c → k ≤ 256 → AllByRecursion IsStmt body → ReadsIn n never (value name c k d body) (t8 c k d body) f8 (g8 name)
  r8 c name k d body m l h =
      let v = value name c k d body in
      in_known n never v middle (all c ++ t6 c k d body) (λ b. all (counts_at 24 no_counts b).0 ++ f6 (counts_at 24 no_counts b).0 (counts_at 24 no_counts b).1) (λ b. g6 name (counts_at 24 no_counts b).0 (counts_at 24 no_counts b).1)
      (in_piece n n comma never all (counts_at 24 no_counts) c v (t6 c k d body) f6 (g6 name) (λ r u. shorter (all c) r n u) (λ x r e. ap comma (sym (ap head e))) (λ q e. refl)
      (in_all n comma c (all c) (λ b. all (counts_at 24 no_counts b).0) (counts_at 24 no_counts) (counts_reads c m)) (r6 c name k d body l h))

  abbrev flat : List ℕ → Counts → ℕ → Bool → List CStmt → List ℕ
  flat name c k d body = codes "void orc_" ++ (name ++ t8 c k d body)

  abbrev g9 : List ℕ → CFunctionValue × List ℕ
  g9 b = g8 (name_at b).0 (name_at b).1

  r9 : (c : Counts) (name : List ℕ) (k : ℕ) (d : Bool) (body : List CStmt) → is_name name ≡ true → Limited c → k ≤ 256 → AllByRecursion IsStmt body
      → ReadsIn n never (value name c k d body) (flat name c k d body) (λ b. codes "void orc_" ++ ((name_at (drop 9 b)).0 ++ f8 (name_at (drop 9 b)).1)) (λ b. g9 (drop 9 b))
  r9 c name k d body i m l h =
      let v = value name c k d body in
      in_known n never v (codes "void orc_") (name ++ t8 c k d body) (λ b. (name_at b).0 ++ f8 (name_at b).1) g9
      (in_piece n n is_name_byte never (λ s. s) name_at name v (t8 c k d body) (λ x b. f8 b) g8 (λ r u. shorter name r n u) (λ x r e. ap is_name_byte (sym (ap head e))) (λ q e. refl)
      (in_all n is_name_byte name name (λ b. (name_at b).0) name_at (name_reads name i)) (r8 c name k d body m l h))

  flat_is : (f : CFunctionValue) → function_text f ≡ flat f.name (made f.arrays f.params f.accs) f.temps f.two_d f.body
  unfolding function_text
  flat_is f = simp append_assoc refl

  -- a function of the grammar is guessed right
  pub function_reads : (f : CFunctionValue) → InLimits f → ReadsIn n never f (function_text f) (λ b. function_text (function_at n b).0) (function_at n)
  unfolding function_at
  function_reads f h =
      let c = made f.arrays f.params f.accs in
      in_same n never f (function_text f) (flat f.name c f.temps f.two_d f.body) (λ b. function_text (function_at n b).0) (λ b. codes "void orc_" ++ ((name_at (drop 9 b)).0 ++ f8 (name_at (drop 9 b)).1)) (function_at n) (flat_is f) text
      (r9 c f.name f.temps f.two_d f.body h.name (record { arrays = h.arrays; params = h.params; accs = h.accs }) h.temps h.body)
    where
      text : (b : List ℕ) → function_text (function_at n b).0 ≡ codes "void orc_" ++ ((name_at (drop 9 b)).0 ++ f8 (name_at (drop 9 b)).1)
      text b =
          let name = name_at (drop 9 b) in
          let c = counts_at 24 no_counts (drop 21 name.1) in
          flat_is (function_at n b).0 ∙ ap (λ (s : List ℕ). codes "void orc_" ++ (name.0 ++ (middle ++ (all c.0 ++ (opening ++ s))))) (whole_is c.0.accs (f4 c.0) 256 0 (drop 26 c.1))

  temps_few : (accs k m : ℕ) (b : List ℕ) → (temps_at accs k m b).0 ≤ k + m
  unfolding temps_at
  temps_few accs k zero b = omega arith
  temps_few accs k (suc m) b =
      elim (cases_Bool (is_temp accs b)) [
        | inl t ↦ let i = temps_few accs (k + 1) m (drop (length (line_text Temp k)) b) in rw t (omega (arith, i))
        | inr f ↦ let z : k ≤ k + suc m = omega arith in rw f z
      ]

  pub function_fine : (b : List ℕ) → InLimits (function_at n b).0
  unfolding function_at
  function_fine b =
      let name = name_at (drop 9 b) in
      let c = counts_at 24 no_counts (drop 21 name.1) in
      let m = counts_fine (drop 21 name.1) in
      let few = temps_few c.0.accs 0 256 (drop 26 c.1) in
      record { name = name_fine (drop 9 b); arrays = m.arrays; params = m.params; accs = m.accs; temps = omega (arith, few); body = body_fine n _ }
