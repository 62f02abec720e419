-- Words ask for one command, and an input is accepted or refused.
use Rattle.std.proofs.Common.{◌≡◌, ℕ, ◌+◌, ◌==◌, ltb, true, List, [], ◌∷◌, ◌++◌, length, Option, Some, None, if◌then◌else◌, inl, inr, ⊎_elim, refl, sym, ap, ◌∙◌, arith, length-append, IfSome}
use Rattle.std.specs.List.{slice_index, slice_index_or}
use Rattle.std.proofs.lemmas.Bool.{lt-ltb, cases_eq}
use Rattle.orc_ops.specs.declared.target.Target.{Target}
use Rattle.orc_ops.specs.declared.target.Target.TheVariants as target
use Rattle.orcc_top.specs.declared.command.Command.{Command}
use Rattle.orcc_top.specs.declared.command.Command.TheVariants.{Asm, C, Check, Fmt, Run, Dis, Emulate, Obj, Header, Lib, Jobs}
use Rattle.orcc_top.specs.declared.refusal.Refusal.{Refusal}
use Rattle.orcc_top.specs.declared.refusal.Refusal.TheVariants.{TooLong}
use Rattle.orcc_top.specs.declared.workers.Workers.{Workers}
use Rattle.orcc_top.specs.Commands.{Word, words_of}
use Rattle.orcc_top.specs.Answer.{limit_of, refusal_of, Refuses}
use Rattle.orcc_top.specs.Runs.{Takes, IsAccepted, IsRefused}
use Rattle.orcc_top.proofs.Numbered.{same_workers}

-- four bytes of the first word tell the command, but for the numbers of workers
abbrev byte_at : ℕ → List Word → ℕ
byte_at i words = slice_index (slice_index_or words 0 []) i

-- the byte of a digit behind a command's name tells the target
abbrev target_at : ℕ → Target
target_at b = if b == 52 then target.Sse41 else target.Sse2

abbrev command_at : Command → ℕ → ℕ → ℕ → ℕ → Command
command_at shared b next fourth sixth = if b == 97 then Asm (target_at fourth) else (if b == 99 then (if next == 104 then Check (target_at sixth) else C) else (if b == 102 then Fmt else (if b == 100 then Dis else (if b == 114 then Run else (if b == 111 then Obj else (if b == 101 then Emulate else (if b == 104 then Header else (if b == 108 then Lib (target_at fourth) else shared))))))))

abbrev command_by : Command → List Word → Command
command_by shared words = command_at shared (byte_at 0 words) (byte_at 1 words) (byte_at 3 words) (byte_at 5 words)

told_by : (c : Command) → command_by c (words_of c) ≡ c
told_by (Asm target.Sse2) = refl
told_by (Asm target.Sse41) = refl
told_by C = refl
told_by (Check target.Sse2) = refl
told_by (Check target.Sse41) = refl
told_by Fmt = refl
told_by Run = refl
told_by Dis = refl
told_by Emulate = refl
told_by Obj = refl
told_by Header = refl
told_by (Lib target.Sse2) = refl
told_by (Lib target.Sse41) = refl
told_by (Jobs w) = refl

-- the words of `jobs` begin with a byte of its own
workers_in : (c : Command) → byte_at 0 (words_of c) ≡ 106 → (w : Workers) × (c ≡ Jobs w)
workers_in (Asm target.Sse2) e = absurd (omega (arith, e))
workers_in (Asm target.Sse41) e = absurd (omega (arith, e))
workers_in C e = absurd (omega (arith, e))
workers_in (Check target.Sse2) e = absurd (omega (arith, e))
workers_in (Check target.Sse41) e = absurd (omega (arith, e))
workers_in Fmt e = absurd (omega (arith, e))
workers_in Run e = absurd (omega (arith, e))
workers_in Dis e = absurd (omega (arith, e))
workers_in Emulate e = absurd (omega (arith, e))
workers_in Obj e = absurd (omega (arith, e))
workers_in Header e = absurd (omega (arith, e))
workers_in (Lib target.Sse2) e = absurd (omega (arith, e))
workers_in (Lib target.Sse41) e = absurd (omega (arith, e))
workers_in (Jobs w) e = (w, refl)

same_jobs : (v w : Workers) → words_of (Jobs v) ≡ words_of (Jobs w) → Jobs v ≡ Jobs w
same_jobs v w e = ap Jobs (same_workers v w (ap (λ words. slice_index_or words 1 []) e) (ap (λ words. slice_index_or words 2 []) e))

-- a command whose words begin with another byte is told whatever is taken for `jobs`
others_told : (c d : Command) → (byte_at 0 (words_of c) ≡ 106 → ⊥) → command_by d (words_of c) ≡ c
others_told (Asm target.Sse2) d n = refl
others_told (Asm target.Sse41) d n = refl
others_told C d n = refl
others_told (Check target.Sse2) d n = refl
others_told (Check target.Sse41) d n = refl
others_told Fmt d n = refl
others_told Run d n = refl
others_told Dis d n = refl
others_told Emulate d n = refl
others_told Obj d n = refl
others_told Header d n = refl
others_told (Lib target.Sse2) d n = refl
others_told (Lib target.Sse41) d n = refl
others_told (Jobs w) d n = absurd (n refl)

one_command : (a b : Command) → words_of a ≡ words_of b → a ≡ b
one_command a b e = ⊎_elim
    (λ jobs.
    let v = workers_in a jobs in
    let w = workers_in b (sym (ap (byte_at 0) e) ∙ jobs) in
    v.1 ∙ same_jobs v.0 w.0 (sym (ap words_of v.1) ∙ e ∙ ap words_of w.1) ∙ sym w.1)
    (λ other. sym (told_by a) ∙ ap (command_by a) e ∙ others_told b a (λ jobs. other (ap (byte_at 0) e ∙ jobs)))
    (cases_eq (byte_at 0 (words_of a)) 106)

long_refused : (c : Command) (taken rest : List ℕ) → length taken ≡ limit_of c + 1 → refusal_of c (taken ++ rest) ≡ Some TooLong
long_refused c taken rest long =
    let more : ltb (limit_of c) (length (taken ++ rest)) ≡ true = lt-ltb _ _ (omega (arith, long, length-append taken rest)) in
    rw more refl

refused_none : {Q : Type 0} (o : Option Refusal) (r : Refusal) → o ≡ Some r → o ≡ None → Q
refused_none o r e n = absurd (let both : Some r ≡ None = sym e ∙ n in cc)

-- an input of which what was taken is refused is not accepted
whole_refused : {Q : Type 0} (c command : Command) (text taken left line : List ℕ) → c ≡ command → text ≡ taken ++ left → left ≡ [] → Refuses command taken line → refusal_of c text ≡ None → Q
whole_refused c command text taken left line same cut none refuses accepted =
    let whole : text ≡ taken = cut ∙ ap (λ l. taken ++ l) none ∙ nil_after taken in
    refused_none (refusal_of c text) refuses.refusal (ap (λ k. refusal_of k text) same ∙ ap (refusal_of command) whole ∙ refuses.refused) accepted
  where
    nil_after : (l : List ℕ) → l ++ [] ≡ l
    nil_after [] = refl
    nil_after (x ∷ l) = ap (λ (m : List ℕ). x ∷ m) (nil_after l)

part_refused : {Q : Type 0} (c command : Command) (text taken left : List ℕ) → c ≡ command → text ≡ taken ++ left → length taken ≡ limit_of command + 1 → refusal_of c text ≡ None → Q
part_refused c command text taken left same cut long accepted =
    refused_none (refusal_of c text) TooLong (ap (λ k. refusal_of k text) same ∙ ap (refusal_of command) cut ∙ long_refused command taken left long) accepted

pub not_accepted : (Q : Type 0) (words : List Word) (old new : Option (List ℕ)) (command : Command) (taken line : List ℕ) → words ≡ words_of command
    → Takes (limit_of command) old new taken → Refuses command taken line → IfSome old (λ text. IsAccepted words text → Q)
not_accepted Q words None new command taken line asked takes refuses = tt
not_accepted Q words (Some text) None command taken line asked takes refuses = absurd takes.0
not_accepted Q words (Some text) (Some left) command taken line asked (cut, inl end) refuses =
    λ a. whole_refused a.0 command text taken left line (one_command a.0 command (sym a.1 ∙ asked)) cut end.0 refuses a.2
not_accepted Q words (Some text) (Some left) command taken line asked (cut, inr long) refuses =
    λ a. part_refused a.0 command text taken left (one_command a.0 command (sym a.1 ∙ asked)) cut long a.2

-- ---- an input of which what was taken is accepted is not refused

whole_accepted : {Q : Type 0} (c command : Command) (r : Refusal) (text taken left : List ℕ) → c ≡ command → text ≡ taken ++ left → left ≡ [] → refusal_of command taken ≡ None → refusal_of c text ≡ Some r → Q
whole_accepted c command r text taken left same cut none accepted refused =
    let whole : text ≡ taken = cut ∙ ap (λ l. taken ++ l) none ∙ nil_behind taken in
    refused_none (refusal_of c text) r refused (ap (λ k. refusal_of k text) same ∙ ap (refusal_of command) whole ∙ accepted)
  where
    nil_behind : (l : List ℕ) → l ++ [] ≡ l
    nil_behind [] = refl
    nil_behind (x ∷ l) = ap (λ (m : List ℕ). x ∷ m) (nil_behind l)

long_accepted : {Q : Type 0} (command : Command) (taken : List ℕ) → length taken ≡ limit_of command + 1 → refusal_of command taken ≡ None → Q
long_accepted command taken long accepted =
    let more : ltb (limit_of command) (length taken) ≡ true = lt-ltb _ _ (omega (arith, long)) in
    refused_none (refusal_of command taken) TooLong (rw more refl) accepted

pub not_rejected : (Q : Type 0) (words : List Word) (old new : Option (List ℕ)) (command : Command) (taken : List ℕ) → words ≡ words_of command
    → Takes (limit_of command) old new taken → refusal_of command taken ≡ None → IfSome old (λ text. IsRefused words text → Q)
not_rejected Q words None new command taken asked takes accepted = tt
not_rejected Q words (Some text) None command taken asked takes accepted = absurd takes.0
not_rejected Q words (Some text) (Some left) command taken asked (cut, inl end) accepted =
    λ r. whole_accepted r.0 command r.1 text taken left (one_command r.0 command (sym r.2 ∙ asked)) cut end.0 accepted r.3
not_rejected Q words (Some text) (Some left) command taken asked (cut, inr long) accepted = λ r. long_accepted command taken long accepted
