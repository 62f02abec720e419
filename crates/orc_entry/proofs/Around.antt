-- A function's code between the lists of its entry: its bytes, and that they are the target's instructions.
use Rattle.std.proofs.Common.{◌≡◌, ℕ, ◌+◌, ◌-◌, ◌≤◌, Bool, true, List, [], ◌∷◌, ◌++◌, length, take, All, IsTrue, refl, sym, ap, ap₂, ◌∙◌, subst, arith, append-nil, append_assoc, length-append}
use Rattle.std.proofs.Math.Seq.{take-append_seam}
use Rattle.orc_ops.specs.declared.target.Target.{Target}
use Rattle.orc_program.specs.Program.{FunctionValue}
use Rattle.orc_program.specs.Kept.{is_function}
use Rattle.x86_ins.specs.declared.ins.Ins.{Ins}
use Rattle.x86_ins.specs.declared.ins.Ins.TheVariants.{Ret}
use Rattle.x86_ins.specs.Spelling.{IsAllowed, has_spelling, spelling}
use Rattle.x86_flow.specs.Flow.{spell_all}
use Rattle.x86_flow.proofs.Spelled.{each_both, all_spelled}
use Rattle.x86_flow.proofs.Ways.{spell_append}
use Rattle.sse_laws.proofs.Targeted.{behind_for}
use Rattle.orc_asm.specs.Function.{EndsByReturn, HasOnly}
use Rattle.orc_prototype.proofs.Few.{small}
use Rattle.orc_entry.specs.declared.entry.EntryCode.{EntryCode}
use Rattle.orc_entry.specs.Code.{entry_code, exit_code}
use Rattle.orc_entry.specs.Whole.{HasBody}
use Rattle.orc_entry.specs.Entry.{EntersAs}
use Rattle.orc_entry.proofs.Entered.{enters}
use Rattle.orc_entry.proofs.Sizes.{fine_entry, fine_exit, entry_allowed, exit_allowed, entry_size, exit_size, entry_for, exit_for}

-- ---- what is asked of the lists

abbrev AllSpelled : List Ins → Type 0
AllSpelled is = All (λ i. IsTrue (has_spelling i)) is

pub entry_spelled : (f : FunctionValue) (longs : List Bool) (list : List Ins) → is_function f ≡ true → list ≡ entry_code f longs → All (λ i. IsTrue (has_spelling i)) list
entry_spelled f longs list is e = subst AllSpelled (sym e) (all_spelled (entry_code f longs) (fine_entry f longs (small f is)))

pub exit_spelled : (f : FunctionValue) (list : List Ins) → is_function f ≡ true → list ≡ exit_code f → All (λ i. IsTrue (has_spelling i)) list
exit_spelled f list is e = subst AllSpelled (sym e) (all_spelled (exit_code f) (fine_exit f (small f is)))

-- ---- the bytes

-- what stands before a return is all but the last byte
without_return : (code body : List ℕ) → code ≡ body ++ spelling Ret → take (length code - 1) code ≡ body
unfolding spelling
without_return code body e =
    let long : length code ≡ length body + 1 = ap length e ∙ length-append body (spelling Ret) in
    let n : length code - 1 ≡ length body = omega (arith, long) in
    ap₂ take n e ∙ take-append_seam body (spelling Ret)

pub has_body : (f : FunctionValue) (longs : List Bool) (code cut a b c d e : List ℕ) (entry : EntryCode) → a ≡ [] → b ≡ a ++ spell_all (entry_code f longs) → c ≡ b ++ cut → d ≡ c ++ spell_all (exit_code f) → e ≡ d ++ spelling Ret
    → cut ≡ take (length code - 1) code → entry.code ≡ e → entry.body ≡ length b → entry.exit ≡ length c → (body : List ℕ) → code ≡ body ++ spelling Ret → HasBody f longs body entry
has_body f longs code cut a b c d e entry none pb pc pd pe is code_is begins ends body whole =
    let first = spell_all (entry_code f longs) in
    let last = spell_all (exit_code f) in
    let here : cut ≡ body = is ∙ without_return code body whole in
    let front : b ≡ first = pb ∙ ap (λ l. l ++ first) none in
    let middle : c ≡ first ++ body = pc ∙ ap₂ (λ l m. l ++ m) front here in
    record {
      code = code_is ∙ pe ∙ ap (λ l. l ++ spelling Ret) (pd ∙ ap (λ l. l ++ last) middle) ∙ append_assoc (first ++ body) last (spelling Ret) ∙ append_assoc first body (last ++ spelling Ret);
      begins = begins ∙ ap length front;
      ends = ends ∙ ap length middle ∙ length-append first body ∙ ap (λ n. n + length body) (sym (begins ∙ ap length front));
    }

-- ---- the whole

module _ (f : FunctionValue) (longs : List Bool) (target : Target) (code : List ℕ) (entry : EntryCode) (is : is_function f ≡ true) (ends : EndsByReturn f target code) (has : (body : List ℕ) → code ≡ body ++ spelling Ret → HasBody f longs body entry) where
  abbrev body : List ℕ
  body = ends.0

  abbrev there : HasBody f longs body entry
  there = has body ends.1

  pub enters_as : EntersAs f longs target entry.code
  enters_as = enters f is (small f is) longs target entry.code body (exit_allowed f (small f is)) there.code ends.2

  pub has_only : HasOnly target entry.code
  has_only =
      let first = entry_code f longs in
      let last = exit_code f in
      let own = ends.3.0 in
      let behind : spell_all last ++ spelling Ret ≡ spell_all (last ++ Ret ∷ []) = sym (spell_append last (Ret ∷ []) ∙ ap (λ l. spell_all last ++ l) (append-nil (spelling Ret))) in
      let all : entry.code ≡ spell_all (first ++ (own ++ (last ++ Ret ∷ []))) =
      there.code ∙ ap (λ l. spell_all first ++ l) (ap₂ (λ x y. x ++ y) ends.3.1 behind ∙ sym (spell_append own (last ++ Ret ∷ []))) ∙ sym (spell_append first (own ++ (last ++ Ret ∷ []))) in (
        first ++ (own ++ (last ++ Ret ∷ [])),
        all,
        each_both IsAllowed first (own ++ (last ++ Ret ∷ [])) (entry_allowed f longs (small f is)) (each_both IsAllowed own (last ++ Ret ∷ []) ends.3.2 (each_both IsAllowed last (Ret ∷ []) (exit_allowed f (small f is)) ((tt, refl), tt))),
        behind_for target first (own ++ (last ++ Ret ∷ [])) (entry_for target f longs) (behind_for target own (last ++ Ret ∷ []) ends.3.3 (behind_for target last (Ret ∷ []) (exit_for target f) refl)),
      )

  pub has_few : length code ≤ 1040000 → (1 ≤ length entry.code) × (length entry.code ≤ 1048576)
  unfolding spelling
  has_few few =
      let first = spell_all (entry_code f longs) in
      let last = spell_all (exit_code f) in
      let one : length code ≡ length body + 1 = ap length ends.1 ∙ length-append body (spelling Ret) in
      let long : length entry.code ≡ length first + (length body + (length last + 1)) = ap length there.code ∙ length-append first (body ++ (last ++ spelling Ret)) ∙ ap (λ n. length first + n) (length-append body (last ++ spelling Ret) ∙ ap (λ n. length body + n) (length-append last (spelling Ret))) in
      (omega (arith, long), omega (arith, long, one, few, entry_size f longs (small f is), exit_size f (small f is)))

  pub has_inside : (entry.body ≤ entry.exit) × (entry.exit ≤ length entry.code)
  has_inside =
      let first = spell_all (entry_code f longs) in
      let behind = spell_all (exit_code f) ++ spelling Ret in
      let long : length entry.code ≡ length first + (length body + length behind) = ap length there.code ∙ length-append first (body ++ behind) ∙ ap (λ n. length first + n) (length-append body behind) in
      (omega (arith, there.ends), omega (arith, there.begins, there.ends, long))
