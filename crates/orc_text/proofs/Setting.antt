-- A variable is set where an instruction line of its segment has its name as a result.
use Rattle.std.proofs.Common.{◌≡◌, ℕ, zero, suc, ◌<◌, ◌==◌, ◌&&◌, ◌||◌, Bool, true, false, not, List, [], ◌∷◌, ◌++◌, map, filter, length, get_or, if◌then◌else◌, refl, sym, ap, ◌∙◌, subst, inl, inr, arith, append_assoc, length-append, true≢false}
use Rattle.std.specs.List.{list_any, AllByRecursion}
use Rattle.std.specs.Str.{bytes_eq}
use Rattle.std.proofs.Math.ListN.{get_or-append}
use Rattle.std.proofs.lemmas.Bool.{cases_Bool}
use Rattle.std.proofs.lemmas.Bool.Decides.{nat_tests}
use Rattle.std.proofs.lemmas.List.{map-append}
use Rattle.std.proofs.lemmas.List.Elements.{filter-append}
use Rattle.orc_ops.specs.declared.lookup.Found.{Found}
use Rattle.orc_program.specs.declared.program.Insn.{Insn}
use Rattle.orc_program.specs.declared.program.Operand.{Operand}
use Rattle.orc_program.specs.declared.program.Operand.TheVariants as operand
use Rattle.orc_program.specs.Checks.{is_set}
use Rattle.orc_program.specs.Kept.{all_distinct}
use Rattle.orc_program.specs.Program.{is_place}
use Rattle.orc_program.specs.Words.{Word}
use Rattle.orc_program.proofs.Sizes.{both}
use Rattle.orc_words.specs.Text.{word}
use Rattle.orc_text.specs.Each.{OneForEach}
use Rattle.orc_text.specs.FirstFault.{is_named, is_result_in, is_result_of}
use Rattle.orc_text.specs.Said.{result_words}
use Rattle.orc_text.specs.Segments.{TextLine, declares, declared_names, Placed, placed_after, is_insn_line, insn_lines, operand_words, StandsFor, Instructs}
use Rattle.orc_text.proofs.Distinct.{not_true}
use Rattle.orc_text.proofs.OneName.{no_later, equal_bytes, equal_tests}

-- ---- distinct words

one_place : (ws : List Word) → all_distinct ws ≡ true → (p q : ℕ) → p < length ws → q < length ws → get_or ws p [] ≡ get_or ws q [] → p ≡ q
one_place [] d p q l m e = absurd (omega (arith, l))
one_place (w ∷ ws) d zero zero l m e = refl
one_place (w ∷ ws) d zero (suc q) l m e =
    let two = both (not (list_any (bytes_eq w) ws)) (all_distinct ws) d in
    absurd (no_later w ws q (not_true (list_any (bytes_eq w) ws) two.0) (omega (arith, m)) (sym e))
one_place (w ∷ ws) d (suc p) zero l m e =
    let two = both (not (list_any (bytes_eq w) ws)) (all_distinct ws) d in
    absurd (no_later w ws p (not_true (list_any (bytes_eq w) ws) two.0) (omega (arith, l)) e)
one_place (w ∷ ws) d (suc p) (suc q) l m e =
    let two = both (not (list_any (bytes_eq w) ws)) (all_distinct ws) d in
    ap suc (one_place ws two.1 p q (omega (arith, l)) (omega (arith, m)) e)

equal_places : (p q : ℕ) → p ≡ q → (p == q) ≡ true
equal_places p q e = grind (arith, nat_tests, e)

places_equal : (p q : ℕ) → (p == q) ≡ true → p ≡ q
places_equal p q e = grind (arith, nat_tests, e)

same_place : (ws : List Word) → all_distinct ws ≡ true → (p q : ℕ) (w : Word) → p < length ws → q < length ws → get_or ws q [] ≡ w → (p == q) ≡ bytes_eq (get_or ws p []) w
same_place ws d p q w l m e =
    elim (cases_Bool (bytes_eq (get_or ws p []) w)) [
      | inl t ↦ equal_places p q (one_place ws d p q l m (equal_bytes (get_or ws p []) w t ∙ sym e)) ∙ sym t
      | inr f ↦
          elim (cases_Bool (p == q)) [
            | inl t ↦ absurd (true≢false (sym (equal_tests (get_or ws p []) w (ap (λ (k : ℕ). get_or ws k []) (places_equal p q t) ∙ e)) ∙ f))
            | inr g ↦ g ∙ sym f
          ]
    ]

-- ---- the lines before a line

-- lines that begin others
abbrev Begins : List TextLine → List TextLine → Type 0
Begins earlier all = (more : List TextLine) × (all ≡ earlier ++ more)

placed_begin : (earlier xs : List TextLine) → AllByRecursion (λ (x : Placed). Begins x.earlier (earlier ++ xs)) (placed_after earlier xs)
placed_begin earlier [] = tt
placed_begin earlier (x ∷ xs) = ((x ∷ xs, refl), subst (λ (all : List TextLine). AllByRecursion (λ (y : Placed). Begins y.earlier all) (placed_after (earlier ++ x ∷ []) xs)) (append_assoc earlier (x ∷ []) xs) (placed_begin (earlier ++ x ∷ []) xs))

kept_all : {A : Type 0} (P : A → Type 0) (p : A → Bool) (xs : List A) → AllByRecursion P xs → AllByRecursion P (filter p xs)
kept_all P p [] h = tt
kept_all {A} P p (x ∷ xs) h = go (p x) (kept_all P p xs h.1)
  where
    go : (b : Bool) → AllByRecursion P (filter p xs) → AllByRecursion P (if b then x ∷ filter p xs else filter p xs)
    go true rest = (h.0, rest)
    go false rest = rest

insns_begin : (segment : List TextLine) → AllByRecursion (λ (x : Placed). Begins x.earlier segment) (insn_lines segment)
insns_begin segment = kept_all (λ (x : Placed). Begins x.earlier segment) (λ (x : Placed). is_insn_line x.line) (placed_after [] segment) (placed_begin [] segment)

names_append : (xs ys : List TextLine) → declared_names (xs ++ ys) ≡ declared_names xs ++ declared_names ys
names_append xs ys = ap (map (λ (l : TextLine). word l.words 2)) (filter-append declares xs ys) ∙ map-append (λ (l : TextLine). word l.words 2) (filter declares xs) (filter declares ys)

-- ---- results

module _ (segment : List TextLine) (d : all_distinct (declared_names segment) ≡ true) (p : ℕ) (l : p < length (declared_names segment)) where
  abbrev name : Word
  name = get_or (declared_names segment) p []

  operand_same : (earlier : List TextLine) → Begins earlier segment → (w : Word) (o : Operand) → StandsFor (declared_names earlier) w o → is_place p o ≡ is_named name w
  operand_same earlier b w (operand.Number n) h = sym (ap (λ (x : Bool). not x && bytes_eq name w) h.0)
  operand_same earlier b w (operand.Var q) h =
      let whole : declared_names segment ≡ declared_names earlier ++ declared_names b.0 = ap declared_names b.1 ∙ names_append earlier b.0 in
      let there : q < length (declared_names segment) = omega (arith, h.1.within, ap length whole, length-append (declared_names earlier) (declared_names b.0)) in
      let here : get_or (declared_names segment) q [] ≡ w = ap (λ (ws : List Word). get_or ws q []) whole ∙ get_or-append (declared_names earlier) (declared_names b.0) [] q h.1.within ∙ h.1.here in
      same_place (declared_names segment) d p q w l there here ∙ sym (ap (λ (x : Bool). not x && bytes_eq name w) h.0)

  operands_same : (earlier : List TextLine) → Begins earlier segment → (ws : List Word) (os : List Operand) → OneForEach (StandsFor (declared_names earlier)) ws os → list_any (is_place p) os ≡ list_any (is_named name) ws
  operands_same earlier b [] [] h = refl
  operands_same earlier b [] (o ∷ os) h = absurd h
  operands_same earlier b (w ∷ ws) [] h = absurd h
  operands_same earlier b (w ∷ ws) (o ∷ os) h =
      ap (λ (x : Bool). x || list_any (is_place p) os) (operand_same earlier b w o h.0) ∙ ap (λ (x : Bool). is_named name w || x) (operands_same earlier b ws os h.1)

  insn_same : (x : Placed) (i : Insn) → Begins x.earlier segment → Instructs x i → list_any (is_place p) i.results.items ≡ is_result_of name x.line.words
  insn_same x i b h =
      operands_same x.earlier b (result_words i.op (operand_words x.line.words)) i.results.items h.results ∙ sym (ap (λ (f : Found). is_result_in name f (operand_words x.line.words)) h.opcode)

  insns_same : (xs : List Placed) (is : List Insn) → AllByRecursion (λ (x : Placed). Begins x.earlier segment) xs → OneForEach Instructs xs is → is_set is p ≡ list_any (λ x. is_result_of name x.line.words) xs
  insns_same [] [] b h = refl
  insns_same [] (i ∷ is) b h = absurd h
  insns_same (x ∷ xs) [] b h = absurd h
  insns_same (x ∷ xs) (i ∷ is) b h = ap (λ (y : Bool). y || is_set is p) (insn_same x i b.0 h.0) ∙ ap (λ (y : Bool). is_result_of name x.line.words || y) (insns_same xs is b.1 h.1)

  -- what is set is a result of an earlier instruction line
  pub set_same : (is : List Insn) → OneForEach Instructs (insn_lines segment) is → is_set is p ≡ list_any (λ x. is_result_of name x.line.words) (insn_lines segment)
  set_same is h = insns_same (insn_lines segment) is (insns_begin segment) h
