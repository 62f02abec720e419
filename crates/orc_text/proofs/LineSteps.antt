-- What is said with one line without a fault, by the directive that it begins with.
use Rattle.std.proofs.Common.{◌≡◌, ℕ, ◌+◌, ◌||◌, Bool, true, false, not, List, [], ◌∷◌, ◌++◌, Option, Some, None, is_some, unwrap_or, option_to_list, if◌then◌else◌, drop, length, refl, sym, ap, ◌∙◌, subst, append-nil, true≢false}
use Rattle.std.specs.List.{list_any, cons_option}
use Rattle.std.specs.Str.{bytes_eq}
use Rattle.orc_ops.specs.declared.opcode.Op.{Op}
use Rattle.orc_ops.specs.declared.lookup.Found.{Found}
use Rattle.orc_ops.specs.declared.lookup.Found.TheVariants as found
use Rattle.orc_ops.specs.Names.{find_op}
use Rattle.orc_program.specs.declared.fault.Fault.TheVariants as fault
use Rattle.orc_program.specs.declared.program.Insn.{Insn}
use Rattle.orc_program.specs.declared.program.Var.{Var}
use Rattle.orc_program.specs.declared.program.VarKind.{VarKind}
use Rattle.orc_program.specs.declared.program.VarKind.TheVariants as kind
use Rattle.orc_program.specs.Words.{Word, number_of, size_of}
use Rattle.orc_program.specs.Program.{FunctionValue}
use Rattle.orc_program.specs.Checks.{check}
use Rattle.orc_program.specs.Kept.{all_distinct, result_count, source_count}
use Rattle.orc_words.specs.Text.{is_bad_byte, word, starts_with_dot}
use Rattle.orc_text.specs.declared.directive.Directive.{Directive}
use Rattle.orc_text.specs.declared.directive.Directive.TheVariants as directive
use Rattle.orc_text.specs.Each.{OneForEach}
use Rattle.orc_text.specs.Faults.{is_number, is_size_word, has_bad_number, directive_fault, found_fault, insn_line_fault, words_fault}
use Rattle.orc_text.specs.Said.{Said, directive_of, split_prefix, var_of, operands_of, result_words, source_words, insn_of, say_words, say_if, say_directive, say_found, say_insn}
use Rattle.orc_text.specs.Segments.{TextLine, directive_in, are_insn, starts_function, after_init, after_n, after_m, after_backup, is_flags, is_declaration, declared_names, HasRest, Declares, StandsFor, Instructs}
use Rattle.orc_text.proofs.Directives.{within}
use Rattle.orc_text.proofs.Distinct.{names}
use Rattle.orc_text.proofs.Faultless.{or_none, not_false, passed, fine_variable, var_new}
use Rattle.orc_text.proofs.Fitting.{fine_line, fine_opcode}
use Rattle.orc_text.proofs.MoreLines.{Adds}
use Rattle.orc_text.proofs.Named.{known_named}
use Rattle.orc_text.proofs.OneName.{words_stand}
use Rattle.orc_text.proofs.Operands.{same_number}

-- ---- what a line leaves as it was

no_vars : (f : FunctionValue) → (vs : List Var) × (f.vars ≡ f.vars ++ vs) × OneForEach Declares [] vs
no_vars f = ([], sym (append-nil f.vars), tt)

no_insns : (f : FunctionValue) → (is : List Insn) × (f.insns ≡ f.insns ++ is) × OneForEach Instructs [] is
no_insns f = ([], sym (append-nil f.insns), tt)

same : {A : Type 0} (x : Option A) → option_to_list x ≡ option_to_list x ++ []
same x = sym (append-nil (option_to_list x))

with_false : (b : Bool) → b ≡ b || false
with_false true = refl
with_false false = refl

with_true : (b : Bool) → true ≡ b || true
with_true true = refl
with_true false = refl

-- a note that was not there
only_one : {A : Type 0} (before : Option A) (x : A) → is_some before ≡ false → x ∷ [] ≡ option_to_list before ++ x ∷ []
only_one None x h = refl
only_one (Some y) x h = absurd (true≢false h)

-- no line of a variable
no_name : (line : TextLine) (done : List TextLine) → false ≡ true → list_any (bytes_eq (word line.words 2)) (declared_names done) ≡ false
no_name line done h = absurd (true≢false (sym h))

-- ---- one line of the current function

pub record Stepped (d : Option Directive) (b : Bool) (n : ℕ) (init : Option Word) (over : List FunctionValue) (ws : List Word) (done : List TextLine) (f : FunctionValue) (after : Said) : Type 0 where
  pub to : Option Word
  pub function : FunctionValue
  pub is : after ≡ within n to over function
  pub adds : Adds d b (record { number = n + 1; words = ws }) done f function
  pub noted : option_to_list to ≡ option_to_list init ++ cons_option (after_init d ws) []

module _ (n : ℕ) (init : Option Word) (over : List FunctionValue) (done : List TextLine) (f : FunctionValue) (distinct : all_distinct (declared_names done) ≡ true) (named : names f.vars ≡ declared_names done) where
  abbrev line_with : List Word → TextLine
  line_with ws = record { number = n + 1; words = ws }

  nothing : (d : Option Directive) (ws : List Word) → is_flags d ≡ false → is_declaration d ≡ false → after_n d ws ≡ None → after_m d ws ≡ None → after_backup d ws ≡ None → Adds d false (line_with ws) done f f
  nothing d ws a b c e g = record {
    name = refl;
    two_d = with_false f.two_d ∙ ap (λ x. f.two_d || x) (sym a);
    vars = subst (λ x. (vs : List Var) × (f.vars ≡ f.vars ++ vs) × OneForEach Declares (if x then line_with ws ∷ [] else []) vs) (sym b) (no_vars f);
    new = λ h. no_name (line_with ws) done (sym b ∙ h);
    insns = no_insns f;
    n = same f.notes.n ∙ ap (λ x. option_to_list f.notes.n ++ cons_option x []) (sym c);
    m = same f.notes.m ∙ ap (λ x. option_to_list f.notes.m ++ cons_option x []) (sym e);
    backup = same f.notes.backup ∙ ap (λ x. option_to_list f.notes.backup ++ cons_option x []) (sym g);
  }

  -- a declaration

  number_there : (w : Word) → not (is_number w) ≡ false → number_of w ≡ Some (unwrap_or (number_of w) 0)
  number_there w h = there (number_of w) (not_false (is_number w) h)
    where
      there : (x : Option ℕ) → is_some x ≡ true → x ≡ Some (unwrap_or x 0)
      there None e = absurd (true≢false (sym e))
      there (Some k) e = refl

  size_there : (k : VarKind) (x : Option ℕ) → is_size_word k x ≡ true → x ≡ Some (unwrap_or x 0)
  size_there k None h = absurd (true≢false (sym h))
  size_there k (Some s) h = refl

  rest_there : (k : VarKind) (ws : List Word) → has_bad_number k ws ≡ false → HasRest k ws (var_of k ws).number (var_of k ws).words
  rest_there kind.Const ws h = (number_there (word ws 3) h, refl)
  rest_there kind.Source ws h = (refl, refl)
  rest_there kind.Dest ws h = (refl, refl)
  rest_there kind.Accumulator ws h = (refl, refl)
  rest_there kind.Param ws h = (refl, refl)
  rest_there kind.Temp ws h = (refl, refl)

  declared_by : (k : VarKind) (ws : List Word) → directive_in ws ≡ Some (directive.Variable k) → directive_fault (within n init over f) ws (Some (directive.Variable k)) ≡ None → Declares (line_with ws) (var_of k ws)
  declared_by k ws e h =
      let v = fine_variable (within n init over f) k ws h in
      record {
        kind = e;
        size = size_there k (size_of (word ws 1)) v.size_word;
        name = refl;
        rest = rest_there k ws v.numbers;
      }

  new_name : (k : VarKind) (ws : List Word) → directive_fault (within n init over f) ws (Some (directive.Variable k)) ≡ None → list_any (bytes_eq (word ws 2)) (declared_names done) ≡ false
  new_name k ws h = known_named (word ws 2) f.vars (declared_names done) (sym named) ∙ ap is_some (var_new (within n init over f) k ws h)

  -- by the directive

  directive_step : (ws : List Word) (d : Directive) → directive_in ws ≡ Some d → starts_function (Some d) ≡ false → directive_fault (within n init over f) ws (Some d) ≡ None
      → Stepped (Some d) false n init over ws done f (say_directive (within n init over f) ws d)
  directive_step ws directive.Function e other h = absurd (true≢false other)
  directive_step ws directive.Init e other h = record {
    to = Some (word ws 1);
    function = f;
    is = refl;
    adds = nothing (Some directive.Init) ws refl refl refl refl refl;
    noted = only_one init (word ws 1) (passed (within n init over f) directive.Init ws h).new;
  }
  directive_step ws directive.Flags e other h = record {
    to = init;
    function = record f { two_d = true };
    is = refl;
    adds = record {
      name = refl;
      two_d = with_true f.two_d;
      vars = no_vars f;
      new = no_name (line_with ws) done;
      insns = no_insns f;
      n = same f.notes.n;
      m = same f.notes.m;
      backup = same f.notes.backup;
    };
    noted = same init;
  }
  directive_step ws directive.CountN e other h = record {
    to = init;
    function = record f { notes = record { n = Some (drop 1 ws); m = f.notes.m; backup = f.notes.backup } };
    is = refl;
    adds = record {
      name = refl;
      two_d = with_false f.two_d;
      vars = no_vars f;
      new = no_name (line_with ws) done;
      insns = no_insns f;
      n = only_one f.notes.n (drop 1 ws) (passed (within n init over f) directive.CountN ws h).new;
      m = same f.notes.m;
      backup = same f.notes.backup;
    };
    noted = same init;
  }
  directive_step ws directive.CountM e other h = record {
    to = init;
    function = record f { notes = record { n = f.notes.n; m = Some (drop 1 ws); backup = f.notes.backup } };
    is = refl;
    adds = record {
      name = refl;
      two_d = with_false f.two_d;
      vars = no_vars f;
      new = no_name (line_with ws) done;
      insns = no_insns f;
      n = same f.notes.n;
      m = only_one f.notes.m (drop 1 ws) (passed (within n init over f) directive.CountM ws h).new;
      backup = same f.notes.backup;
    };
    noted = same init;
  }
  directive_step ws directive.Backup e other h = record {
    to = init;
    function = record f { notes = record { n = f.notes.n; m = f.notes.m; backup = Some (word ws 1) } };
    is = refl;
    adds = record {
      name = refl;
      two_d = with_false f.two_d;
      vars = no_vars f;
      new = no_name (line_with ws) done;
      insns = no_insns f;
      n = same f.notes.n;
      m = same f.notes.m;
      backup = only_one f.notes.backup (word ws 1) (passed (within n init over f) directive.Backup ws h).new;
    };
    noted = same init;
  }
  directive_step ws (directive.Variable k) e other h = record {
    to = init;
    function = record f { vars = f.vars ++ var_of k ws ∷ [] };
    is = refl;
    adds = record {
      name = refl;
      two_d = with_false f.two_d;
      vars = (var_of k ws ∷ [], refl, (declared_by k ws e h, tt));
      new = λ _. new_name k ws h;
      insns = no_insns f;
      n = same f.notes.n;
      m = same f.notes.m;
      backup = same f.notes.backup;
    };
    noted = same init;
  }
  directive_step ws directive.Float e other h = record { to = init; function = f; is = refl; adds = nothing (Some directive.Float) ws refl refl refl refl refl; noted = same init }

  if_step : (ws : List Word) (x : Option Directive) → directive_in ws ≡ x → starts_function x ≡ false → directive_fault (within n init over f) ws x ≡ None → Stepped x false n init over ws done f (say_if (within n init over f) ws x)
  if_step ws None e other h = record { to = init; function = f; is = refl; adds = nothing None ws refl refl refl refl refl; noted = same init }
  if_step ws (Some d) e other h = directive_step ws d e other h

  -- an instruction

  instructed : (ws : List Word) (op : Op) → find_op (word (split_prefix ws).1 0) ≡ found.Yes op → found_fault (within n init over f) (split_prefix ws).0 (drop 1 (split_prefix ws).1) (found.Yes op) ≡ None
      → Instructs (record { earlier = done; line = line_with ws }) (insn_of f.vars (n + 1) op (split_prefix ws).0 (drop 1 (split_prefix ws).1))
  instructed ws op e h =
      let operands = drop 1 (split_prefix ws).1 in
      let fine = fine_opcode f.vars f.insns (n + 1) op (split_prefix ws).0 operands h in
      let apart : all_distinct (names f.vars) ≡ true = ap all_distinct named ∙ distinct in
      record {
        line = refl;
        prefix = refl;
        opcode = e;
        count = same_number (length operands) (result_count op + source_count op) fine.count;
        results = subst (λ ns. OneForEach (StandsFor ns) (result_words op operands) (operands_of f.vars (result_words op operands))) named (words_stand f.vars (result_words op operands) apart fine.results);
        sources = subst (λ ns. OneForEach (StandsFor ns) (source_words op operands) (operands_of f.vars (source_words op operands))) named (words_stand f.vars (source_words op operands) apart fine.sources);
      }

  found_step : (ws : List Word) (x : Found) → find_op (word (split_prefix ws).1 0) ≡ x → found_fault (within n init over f) (split_prefix ws).0 (drop 1 (split_prefix ws).1) x ≡ None
      → Stepped None true n init over ws done f (say_found (within n init over f) (split_prefix ws).0 (drop 1 (split_prefix ws).1) x)
  found_step ws (found.Yes op) e h =
      let i = insn_of f.vars (n + 1) op (split_prefix ws).0 (drop 1 (split_prefix ws).1) in
      record {
        to = init;
        function = record f { insns = f.insns ++ i ∷ [] };
        is = refl;
        adds = record {
          name = refl;
          two_d = with_false f.two_d;
          vars = no_vars f;
          new = no_name (line_with ws) done;
          insns = (i ∷ [], refl, (instructed ws op e h, tt));
          n = same f.notes.n;
          m = same f.notes.m;
          backup = same f.notes.backup;
        };
        noted = same init;
      }
  found_step ws found.Unsupported e h = absurd (let c : ⊥ = cc in c)
  found_step ws found.Unknown e h = absurd (let c : ⊥ = cc in c)

  -- a line

  dotted_step : (w : Word) (ws : List Word) (dot : Bool) → starts_with_dot w ≡ dot → starts_function (if dot then directive_of w else None) ≡ false
      → (if dot then directive_fault (within n init over f) (w ∷ ws) (directive_of w) else insn_line_fault (within n init over f) (split_prefix (w ∷ ws))) ≡ None
      → Stepped (if dot then directive_of w else None) (not dot) n init over (w ∷ ws) done f
      (if dot then say_if (within n init over f) (w ∷ ws) (directive_of w) else say_insn (within n init over f) (split_prefix (w ∷ ws)))
  dotted_step w ws true e other h = if_step (w ∷ ws) (directive_of w) (ap (λ (b : Bool). if b then directive_of w else None) e) other h
  dotted_step w ws false e other h =
      let x = split_prefix (w ∷ ws) in
      found_step (w ∷ ws) (find_op (word x.1 0)) refl (fine_line (within n init over f) x h).found

  pub words_step : (bytes : List ℕ) (ws : List Word) → starts_function (directive_in ws) ≡ false → words_fault (within n init over f) bytes ws ≡ None
      → Stepped (directive_in ws) (are_insn ws) n init over ws done f (say_words (within n init over f) ws)
  words_step bytes [] other h = record { to = init; function = f; is = refl; adds = nothing None [] refl refl refl refl refl; noted = same init }
  words_step bytes (w ∷ ws) other h =
      let s = within n init over f in
      let rest = if starts_with_dot w then directive_fault s (w ∷ ws) (directive_of w) else insn_line_fault s (split_prefix (w ∷ ws)) in
      dotted_step w ws (starts_with_dot w) refl other (or_none (check (list_any is_bad_byte bytes) fault.BadByte) rest h).1

-- ---- one line before the first function

abbrev pub outside : ℕ → Option Word → List FunctionValue → Said
outside n init over = record { lines = n; init = init; over = over; current = None }

pub record SteppedOutside (d : Option Directive) (n : ℕ) (init : Option Word) (over : List FunctionValue) (ws : List Word) (after : Said) : Type 0 where
  pub to : Option Word
  pub is : after ≡ outside n to over
  pub noted : option_to_list to ≡ option_to_list init ++ cons_option (after_init d ws) []

module _ (n : ℕ) (init : Option Word) (over : List FunctionValue) where
  directive_outside : (ws : List Word) (d : Directive) → starts_function (Some d) ≡ false → directive_fault (outside n init over) ws (Some d) ≡ None → SteppedOutside (Some d) n init over ws (say_directive (outside n init over) ws d)
  directive_outside ws directive.Function other h = absurd (true≢false other)
  directive_outside ws directive.Init other h = record { to = Some (word ws 1); is = refl; noted = only_one init (word ws 1) (passed (outside n init over) directive.Init ws h).new }
  directive_outside ws directive.Flags other h = record { to = init; is = refl; noted = same init }
  directive_outside ws directive.CountN other h = record { to = init; is = refl; noted = same init }
  directive_outside ws directive.CountM other h = record { to = init; is = refl; noted = same init }
  directive_outside ws directive.Backup other h = record { to = init; is = refl; noted = same init }
  directive_outside ws (directive.Variable k) other h = record { to = init; is = refl; noted = same init }
  directive_outside ws directive.Float other h = record { to = init; is = refl; noted = same init }

  if_outside : (ws : List Word) (x : Option Directive) → starts_function x ≡ false → directive_fault (outside n init over) ws x ≡ None → SteppedOutside x n init over ws (say_if (outside n init over) ws x)
  if_outside ws None other h = record { to = init; is = refl; noted = same init }
  if_outside ws (Some d) other h = directive_outside ws d other h

  dotted_outside : (w : Word) (ws : List Word) (dot : Bool) → starts_function (if dot then directive_of w else None) ≡ false
      → (if dot then directive_fault (outside n init over) (w ∷ ws) (directive_of w) else insn_line_fault (outside n init over) (split_prefix (w ∷ ws))) ≡ None
      → SteppedOutside (if dot then directive_of w else None) n init over (w ∷ ws) (if dot then say_if (outside n init over) (w ∷ ws) (directive_of w) else say_insn (outside n init over) (split_prefix (w ∷ ws)))
  dotted_outside w ws true other h = if_outside (w ∷ ws) (directive_of w) other h
  dotted_outside w ws false other h = absurd (true≢false (sym (fine_line (outside n init over) (split_prefix (w ∷ ws)) h).there))

  pub words_outside : (bytes : List ℕ) (ws : List Word) → starts_function (directive_in ws) ≡ false → words_fault (outside n init over) bytes ws ≡ None → SteppedOutside (directive_in ws) n init over ws (say_words (outside n init over) ws)
  words_outside bytes [] other h = record { to = init; is = refl; noted = same init }
  words_outside bytes (w ∷ ws) other h =
      let s = outside n init over in
      let rest = if starts_with_dot w then directive_fault s (w ∷ ws) (directive_of w) else insn_line_fault s (split_prefix (w ∷ ws)) in
      dotted_outside w ws (starts_with_dot w) other (or_none (check (list_any is_bad_byte bytes) fault.BadByte) rest h).1
