-- Words that ask for a command ask for no summary.
use Rattle.std.proofs.Common.{◌≡◌, ℕ, List, length, sym, ap, ◌∙◌, arith}
use Rattle.orc_ops.specs.declared.target.Target.{Target}
use Rattle.orc_ops.specs.declared.target.Target.TheVariants as target
use Rattle.orcc_top.specs.declared.command.Command.{Command}
use Rattle.orcc_top.specs.declared.command.Command.TheVariants.{Asm, C, Check, Fmt, Run, Dis, Emulate, Obj, Header, Lib, Jobs}
use Rattle.orcc_top.specs.Commands.{Word, asm_word, check_word, lib_word, words_of, gen_words}

-- they are one word, or three
not_two : (c : Command) → length (words_of c) ≡ 2 → ⊥
not_two (Asm target) e = omega (arith, e)
not_two C e = omega (arith, e)
not_two (Check target) e = omega (arith, e)
not_two Fmt e = omega (arith, e)
not_two Run e = omega (arith, e)
not_two Dis e = omega (arith, e)
not_two Emulate e = omega (arith, e)
not_two Obj e = omega (arith, e)
not_two Header e = omega (arith, e)
not_two (Lib target) e = omega (arith, e)
not_two (Jobs w) e = omega (arith, e)

pub not_both : (words : List Word) (c : Command) (seed : ℕ) → words ≡ words_of c → words ≡ gen_words seed → ⊥
not_both words c seed command summary = not_two c (sym (ap length command) ∙ ap length summary)

-- a word that is none of a command's two words
pub no_asm : (word : Word) → (word ≡ asm_word target.Sse2 → ⊥) → (word ≡ asm_word target.Sse41 → ⊥) → (t : Target) → word ≡ asm_word t → ⊥
no_asm word first second target.Sse2 e = first e
no_asm word first second target.Sse41 e = second e

pub no_check : (word : Word) → (word ≡ check_word target.Sse2 → ⊥) → (word ≡ check_word target.Sse41 → ⊥) → (t : Target) → word ≡ check_word t → ⊥
no_check word first second target.Sse2 e = first e
no_check word first second target.Sse41 e = second e

pub no_lib : (word : Word) → (word ≡ lib_word target.Sse2 → ⊥) → (word ≡ lib_word target.Sse41 → ⊥) → (t : Target) → word ≡ lib_word t → ⊥
no_lib word first second target.Sse2 e = first e
no_lib word first second target.Sse41 e = second e
