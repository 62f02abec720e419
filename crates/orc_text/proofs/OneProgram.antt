-- Lines say at most one program.
use Rattle.std.proofs.Common.{◌≡◌, ℕ, Bool, List, [], ◌∷◌, Option, Some, None, option_to_list, refl, sym, ap, ◌∙◌, subst, true≢false}
use Rattle.orc_ops.specs.declared.opcode.Op.{Op}
use Rattle.orc_ops.specs.declared.lookup.Found.TheVariants as found
use Rattle.orc_program.specs.declared.program.Insn.{Insn}
use Rattle.orc_program.specs.declared.program.Operand.{Operand}
use Rattle.orc_program.specs.declared.program.Operand.TheVariants as operand
use Rattle.orc_program.specs.declared.program.Var.{Var}
use Rattle.orc_program.specs.declared.program.VarKind.{VarKind}
use Rattle.orc_program.specs.declared.program.VarKind.TheVariants as kind
use Rattle.orc_program.specs.Program.{FunctionValue, ProgramValue}
use Rattle.orc_program.specs.Words.{Word}
use Rattle.orc_text.specs.declared.directive.Directive.TheVariants as directive
use Rattle.orc_text.specs.Each.{OneForEach}
use Rattle.orc_text.specs.Said.{result_words, source_words}
use Rattle.orc_text.specs.Segments.{TextLine, HasRest, Declares, StandsFor, Placed, operand_words, declared_names, Instructs, SaysFunction, SaysOne}

-- one for each, where each has one
each_one : {A B : Type 0} (R : A → B → Type 0) → ((a : A) (b c : B) → R a b → R a c → b ≡ c) → (xs : List A) (ys zs : List B) → OneForEach R xs ys → OneForEach R xs zs → ys ≡ zs
each_one R one [] [] [] h k = refl
each_one R one [] [] (c ∷ zs) h k = absurd k
each_one R one [] (b ∷ ys) zs h k = absurd h
each_one R one (a ∷ xs) [] zs h k = absurd h
each_one R one (a ∷ xs) (b ∷ ys) [] h k = absurd k
each_one R one (a ∷ xs) (b ∷ ys) (c ∷ zs) h k = cc (one a b c h.0 k.0, each_one R one xs ys zs h.1 k.1)

option_one : {A : Type 0} (x y : Option A) → option_to_list x ≡ option_to_list y → x ≡ y
option_one None None e = refl
option_one None (Some b) e = absurd (let c : ⊥ = cc in c)
option_one (Some a) None e = absurd (let c : ⊥ = cc in c)
option_one (Some a) (Some b) e = cc

-- ---- variables

rest_one : (k : VarKind) (ws : List Word) (m n : ℕ) (kept others : List Word) → HasRest k ws m kept → HasRest k ws n others → (m ≡ n) × (kept ≡ others)
rest_one kind.Const ws m n kept others h k = ((let e : Some m ≡ Some n = sym h.0 ∙ k.0 in cc), h.1 ∙ sym k.1)
rest_one kind.Source ws m n kept others h k = (h.0 ∙ sym k.0, h.1 ∙ sym k.1)
rest_one kind.Dest ws m n kept others h k = (h.0 ∙ sym k.0, h.1 ∙ sym k.1)
rest_one kind.Accumulator ws m n kept others h k = (h.0 ∙ sym k.0, h.1 ∙ sym k.1)
rest_one kind.Param ws m n kept others h k = (h.0 ∙ sym k.0, h.1 ∙ sym k.1)
rest_one kind.Temp ws m n kept others h k = (h.0 ∙ sym k.0, h.1 ∙ sym k.1)

same_var : (j k : VarKind) (s t : ℕ) (a b : Word) (m n : ℕ) (xs ys : List Word) → j ≡ k → s ≡ t → a ≡ b → m ≡ n → xs ≡ ys
    → ◌≡◌ {A = Var} (record { kind = j; size = s; name = a; number = m; words = xs }) (record { kind = k; size = t; name = b; number = n; words = ys })
same_var j k s t a b m n xs ys c d e f g = rw (c, d, e, f, g) refl

declares_one : (line : TextLine) (v w : Var) → Declares line v → Declares line w → v ≡ w
declares_one line v w h k =
    let kinds : Some (directive.Variable v.kind) ≡ Some (directive.Variable w.kind) = sym h.kind ∙ k.kind in
    let kind : v.kind ≡ w.kind = cc in
    let sizes : Some v.size ≡ Some w.size = sym h.size ∙ k.size in
    let size : v.size ≡ w.size = cc in
    let rest = rest_one v.kind line.words v.number w.number v.words w.words h.rest (subst (λ (x : VarKind). HasRest x line.words w.number w.words) (sym kind) k.rest) in
    same_var v.kind w.kind v.size w.size v.name w.name v.number w.number v.words w.words kind size (h.name ∙ sym k.name) rest.0 rest.1

-- ---- instructions

stands_one : (names : List Word) (w : Word) (a b : Operand) → StandsFor names w a → StandsFor names w b → a ≡ b
stands_one names w (operand.Number m) (operand.Number n) h k = let e : Some m ≡ Some n = sym h.1 ∙ k.1 in cc
stands_one names w (operand.Number m) (operand.Var p) h k = absurd (true≢false (sym h.0 ∙ k.0))
stands_one names w (operand.Var p) (operand.Number n) h k = absurd (true≢false (sym k.0 ∙ h.0))
stands_one names w (operand.Var p) (operand.Var q) h k = ap (λ x. operand.Var x) (k.1.only p h.1.within h.1.here)

same_insn : (o u : Op) (m n : ℕ) (xs ys vs ws : List Operand) (a b : ℕ) → o ≡ u → m ≡ n → xs ≡ ys → vs ≡ ws → a ≡ b
    → ◌≡◌ {A = Insn} (record { op = o; prefix = m; results = record { items = xs }; sources = record { items = vs }; line = a }) (record { op = u; prefix = n; results = record { items = ys }; sources = record { items = ws }; line = b })
same_insn o u m n xs ys vs ws a b c d e f g = rw (c, d, e, f, g) refl

instructs_one : (x : Placed) (i j : Insn) → Instructs x i → Instructs x j → i ≡ j
instructs_one x i j h k =
    let ops : found.Yes i.op ≡ found.Yes j.op = sym h.opcode ∙ k.opcode in
    let op : i.op ≡ j.op = cc in
    let names = declared_names x.earlier in
    let operands = operand_words x.line.words in
    let results = each_one (StandsFor names) (stands_one names) (result_words i.op operands) i.results.items j.results.items h.results (subst (λ (o : Op). OneForEach (StandsFor names) (result_words o operands) j.results.items) (sym op) k.results) in
    let sources = each_one (StandsFor names) (stands_one names) (source_words i.op operands) i.sources.items j.sources.items h.sources (subst (λ (o : Op). OneForEach (StandsFor names) (source_words o operands) j.sources.items) (sym op) k.sources) in
    same_insn i.op j.op i.prefix j.prefix i.results.items j.results.items i.sources.items j.sources.items i.line j.line op (h.prefix ∙ sym k.prefix) results sources (h.line ∙ sym k.line)

-- ---- functions and programs

same_function : (a b : Word) (c d : Bool) (vs ws : List Var) (is js : List Insn) (n o : Option (List Word)) (m p : Option (List Word)) (x y : Option Word) → a ≡ b → c ≡ d → vs ≡ ws → is ≡ js → n ≡ o → m ≡ p → x ≡ y
    → ◌≡◌ {A = FunctionValue} (record { name = a; two_d = c; vars = vs; insns = is; notes = record { n = n; m = m; backup = x } }) (record { name = b; two_d = d; vars = ws; insns = js; notes = record { n = o; m = p; backup = y } })
same_function a b c d vs ws is js n o m p x y e f g h i j k = rw (e, f, g, h, i, j, k) refl

says_one_function : (segment : List TextLine) (f g : FunctionValue) → SaysFunction segment f → SaysFunction segment g → f ≡ g
says_one_function segment f g h k =
    same_function f.name g.name f.two_d g.two_d f.vars g.vars f.insns g.insns f.notes.n g.notes.n f.notes.m g.notes.m f.notes.backup g.notes.backup
    (h.name ∙ sym k.name)
    (h.two_d ∙ sym k.two_d)
    (each_one Declares declares_one _ f.vars g.vars h.vars k.vars)
    (each_one Instructs instructs_one _ f.insns g.insns h.insns k.insns)
    (option_one f.notes.n g.notes.n (h.n ∙ sym k.n))
    (option_one f.notes.m g.notes.m (h.m ∙ sym k.m))
    (option_one f.notes.backup g.notes.backup (h.backup ∙ sym k.backup))

pub says_one : SaysOne
says_one all p q h k =
    let functions = each_one SaysFunction says_one_function _ p.functions q.functions h.functions k.functions in
    let init = option_one p.init q.init (h.init ∙ sym k.init) in
    let e : ◌≡◌ {A = ProgramValue} (record { init = p.init; functions = p.functions }) (record { init = q.init; functions = q.functions }) = rw (init, functions) refl in
    e
