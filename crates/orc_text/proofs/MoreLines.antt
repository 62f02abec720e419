-- A segment with one more line: what it says, with what the line adds.
use Rattle.std.proofs.Common.{◌≡◌, ◌||◌, Bool, true, false, List, [], ◌∷◌, ◌++◌, Option, option_to_list, if◌then◌else◌, map, filter, filter_map, refl, sym, ap, ◌∙◌, subst, append-nil, append_assoc}
use Rattle.std.specs.List.{list_any, cons_option}
use Rattle.std.specs.Str.{bytes_eq}
use Rattle.std.proofs.lemmas.List.{map-append}
use Rattle.std.proofs.lemmas.List.Elements.{filter-append, filter_map-append}
use Rattle.std.proofs.lemmas.List.Folds.{list_any-append}
use Rattle.orc_program.specs.declared.program.Insn.{Insn}
use Rattle.orc_program.specs.declared.program.Var.{Var}
use Rattle.orc_program.specs.Words.{Word}
use Rattle.orc_program.specs.Program.{FunctionValue}
use Rattle.orc_program.specs.Kept.{all_distinct}
use Rattle.orc_program.proofs.Declared.{distinct_more}
use Rattle.orc_words.specs.Text.{word}
use Rattle.orc_text.specs.declared.directive.Directive.{Directive}
use Rattle.orc_text.specs.Each.{OneForEach}
use Rattle.orc_text.specs.Segments.{TextLine, directive_in, are_insn, is_insn_line, after_n, after_m, after_backup, is_flags, is_declaration, declares, declared_names, Placed, placed_after, insn_lines, Declares, Instructs, SaysFunction}
use Rattle.orc_text.proofs.Distinct.{all_swapped, names}
use Rattle.orc_text.proofs.Each.{each_appended}

-- ---- what a line adds

-- the variables of a declaration line, and the instructions of an instruction line: none or one
abbrev pub declaration : Option Directive → TextLine → List TextLine
declaration d line = if is_declaration d then line ∷ [] else []

abbrev pub insn_of_line : Bool → Placed → List Placed
insn_of_line b x = if b then x ∷ [] else []

-- a function and what it is with one more line, which begins with this directive or is an instruction
pub record Adds (d : Option Directive) (b : Bool) (line : TextLine) (done : List TextLine) (f g : FunctionValue) : Type 0 where
  pub name : g.name ≡ f.name
  pub two_d : g.two_d ≡ f.two_d || is_flags d
  pub vars : (vs : List Var) × (g.vars ≡ f.vars ++ vs) × OneForEach Declares (declaration d line) vs
  pub new : is_declaration d ≡ true → list_any (bytes_eq (word line.words 2)) (declared_names done) ≡ false
  pub insns : (is : List Insn) × (g.insns ≡ f.insns ++ is) × OneForEach Instructs (insn_of_line b (record { earlier = done; line = line })) is
  pub n : option_to_list g.notes.n ≡ option_to_list f.notes.n ++ cons_option (after_n d line.words) []
  pub m : option_to_list g.notes.m ≡ option_to_list f.notes.m ++ cons_option (after_m d line.words) []
  pub backup : option_to_list g.notes.backup ≡ option_to_list f.notes.backup ++ cons_option (after_backup d line.words) []

-- ---- one more line

or_false : (b : Bool) → b || false ≡ b
or_false true = refl
or_false false = refl

pub placed_more : (earlier xs : List TextLine) (line : TextLine) → placed_after earlier (xs ++ line ∷ []) ≡ placed_after earlier xs ++ record { earlier = earlier ++ xs; line = line } ∷ []
placed_more earlier [] line = ap (λ (e : List TextLine). record { earlier = e; line = line } ∷ []) (sym (append-nil earlier))
placed_more earlier (x ∷ xs) line =
    ap (λ (ps : List Placed). record { earlier = earlier; line = x } ∷ ps)
    (placed_more (earlier ++ x ∷ []) xs line ∙ ap (λ (e : List TextLine). placed_after (earlier ++ x ∷ []) xs ++ record { earlier = e; line = line } ∷ []) (append_assoc earlier (x ∷ []) xs))

each_more : {A B : Type 0} (R : A → B → Type 0) (xs more all : List A) (ys others whole : List B) → all ≡ xs ++ more → whole ≡ ys ++ others → OneForEach R xs ys → OneForEach R more others → OneForEach R all whole
each_more R xs more all ys others whole e f before after =
    subst (λ zs. OneForEach R zs whole) (sym e) (subst (λ bs. OneForEach R (xs ++ more) bs) (sym f) (each_appended R xs more ys others before after))

listed_more : {A : Type 0} (h : TextLine → Option A) (xs : List TextLine) (line : TextLine) (before after : Option A) → option_to_list before ≡ filter_map h xs → option_to_list after ≡ option_to_list before ++ cons_option (h line) []
    → option_to_list after ≡ filter_map h (xs ++ line ∷ [])
listed_more h xs line before after b a = a ∙ ap (λ zs. zs ++ cons_option (h line) []) b ∙ sym (filter_map-append h xs (line ∷ []))

distinct_with : (ws : List Word) (line : TextLine) (b : Bool) → all_distinct ws ≡ true → (b ≡ true → list_any (bytes_eq (word line.words 2)) ws ≡ false)
    → all_distinct (ws ++ map (λ (l : TextLine). word l.words 2) (if b then line ∷ [] else [])) ≡ true
distinct_with ws line true d new = distinct_more ws (word line.words 2) d (all_swapped (word line.words 2) ws ∙ new refl)
distinct_with ws line false d new = ap all_distinct (append-nil ws) ∙ d

names_more : (xs : List TextLine) (line : TextLine) → declared_names (xs ++ line ∷ []) ≡ declared_names xs ++ map (λ (l : TextLine). word l.words 2) (declaration (directive_in line.words) line)
names_more xs line = ap (map (λ (l : TextLine). word l.words 2)) (filter-append declares xs (line ∷ [])) ∙ map-append (λ (l : TextLine). word l.words 2) (filter declares xs) (filter declares (line ∷ []))

pub grown : (first line : TextLine) (rest : List TextLine) (f g : FunctionValue) → SaysFunction (first ∷ rest) f → Adds (directive_in line.words) (are_insn line.words) line (first ∷ rest) f g → SaysFunction (first ∷ (rest ++ line ∷ [])) g
grown first line rest f g s a =
    let done = first ∷ rest in
    let d = directive_in line.words in
    let flags = λ (l : TextLine). is_flags (directive_in l.words) in
    record {
      name = a.name ∙ s.name;
      two_d = a.two_d ∙ ap (λ b. b || is_flags d) s.two_d ∙ ap (λ b. list_any flags done || b) (sym (or_false (is_flags d))) ∙ sym (list_any-append flags done (line ∷ []));
      vars = each_more Declares (filter declares done) (declaration d line) (filter declares (done ++ line ∷ [])) f.vars a.vars.0 g.vars (filter-append declares done (line ∷ [])) a.vars.1 s.vars a.vars.2;
      distinct = ap all_distinct (names_more done line) ∙ distinct_with (declared_names done) line (is_declaration d) s.distinct a.new;
      insns =
          let placed : Placed = record { earlier = done; line = line } in
          let more = ap (filter (λ (x : Placed). is_insn_line x.line)) (placed_more [] done line) ∙ filter-append (λ (x : Placed). is_insn_line x.line) (placed_after [] done) (placed ∷ []) in
          each_more Instructs (insn_lines done) (insn_of_line (are_insn line.words) placed) (insn_lines (done ++ line ∷ [])) f.insns a.insns.0 g.insns more a.insns.1 s.insns a.insns.2;
      n = listed_more (λ (l : TextLine). after_n (directive_in l.words) l.words) done line f.notes.n g.notes.n s.n a.n;
      m = listed_more (λ (l : TextLine). after_m (directive_in l.words) l.words) done line f.notes.m g.notes.m s.m a.m;
      backup = listed_more (λ (l : TextLine). after_backup (directive_in l.words) l.words) done line f.notes.backup g.notes.backup s.backup a.backup;
    }

-- ---- names

-- the names of variables are those that the lines declare
pub names_declared : (ls : List TextLine) (vs : List Var) → OneForEach Declares ls vs → map (λ (l : TextLine). word l.words 2) ls ≡ names vs
names_declared [] [] h = refl
names_declared [] (v ∷ vs) h = absurd h
names_declared (l ∷ ls) [] h = absurd h
names_declared (l ∷ ls) (v ∷ vs) h = ap (λ (w : Word). w ∷ map (λ (x : TextLine). word x.words 2) ls) (sym h.0.name) ∙ ap (λ (ws : List Word). v.name ∷ ws) (names_declared ls vs h.1)
