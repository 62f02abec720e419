-- Structured code with a return behind it.
use Rattle.std.proofs.Common.{◌≡◌, ℕ, ◌+◌, ◌^◌, ◌≤◌, pos, List, [], ◌∷◌, ◌++◌, length, Some, Ok, refl, sym, ap, ◌∙◌, subst, arith, length-append, append-nil}
use Rattle.orc_bits.specs.Memory.{word}
use Rattle.x86_ins.specs.declared.ins.Ins.{Ins}
use Rattle.x86_ins.specs.declared.ins.Ins.TheVariants.{Ret}
use Rattle.x86_ins.specs.Machine.{Core, Point, with_gpr, moved, effect, return_to}
use Rattle.x86_ins.specs.Spelling.{IsAllowed, spelling}
use Rattle.x86_ins.specs.Way.{Placed, Step, Moment, Way, Each}
use Rattle.x86_flow.specs.Flow.{Flow, flat, spell_all, size, with_return}
use Rattle.x86_flow.proofs.Ways.{way_append, HasAt, has_all, has_front, has_back, step_at}
use Rattle.x86_flow.specs.Does.{Does}
use Rattle.x86_flow.proofs.Flow.{Leads, flow_leads, each_append, listed, listed_append, listed_length}

-- where a return from d goes
abbrev pub returned : Core → ℕ → Point
returned d back = record { core = with_gpr d 4 (moved (d.gpr 4) (pos 8)); rip = back }

pub record Back (Q : Core → Ins → Type 0) (code : Placed) (c : Core) (done : List Ins) (d : Core) (back : ℕ) : Type 0 where
  pub way : List Moment
  pub runs : Way code (record { core = c; rip = code.start }) way (returned d back)
  pub list : listed way ≡ done ++ Ret ∷ []
  pub count : length way ≡ length done + 1
  pub each : Each (λ m. Q m.point.core m.ins) way

ret_size : length (spelling Ret) ≡ 1
unfolding spelling
ret_size = refl

pub returns : (Q : Core → Ins → Type 0) (t : Flow) (start : ℕ) → Each IsAllowed (with_return t) → start + size (with_return t) ≤ 2 ^ 47 → (c d : Core) (done : List Ins) → Does Q t c done d → Q d Ret → (back : ℕ) → word d.memory (d.gpr 4) ≡ Some back
    → Back Q (record { bytes = spell_all (with_return t); start = start }) c done d back
returns Q t start allowed low c d done does last back word_is =
    let bytes = spell_all (with_return t) in
    let code : Placed = record { bytes = bytes; start = start } in
    let has : HasAt bytes 0 (with_return t) = subst (λ l. HasAt l 0 (with_return t)) (append-nil bytes) (has_all (with_return t) [] [] allowed) in
    let has_flow = has_front bytes 0 (flat t) (Ret ∷ []) has in
    let has_ret = has_back bytes 0 (flat t) (Ret ∷ []) has in
    let z = 0 + size (flat t) in
    let leads : Leads code Q c 0 done d z = flow_leads Q code low t 0 (omega arith) has_flow c done d does in
    let u : Point = record { core = d; rip = start + z } in
    let goes : effect Ret d (start + (z + length (spelling Ret))) ≡ Ok (returned d back) = ap (λ o. return_to o d) word_is in
    let step : Step code u Ret (returned d back) = step_at code z Ret [] d (returned d back) has_ret low goes in
    let m : Moment = record { point = u; ins = Ret } in
    let first : record { core = c; rip = start + 0 } ≡ record { core = c; rip = start } = ap (λ k. record { core = c; rip = k }) (let q : start + 0 ≡ start = omega arith in q) in
    record {
      way = leads.way ++ m ∷ [];
      runs = subst (λ x. Way code x (leads.way ++ m ∷ []) (returned d back)) first (way_append code leads.way (m ∷ []) _ u (returned d back) leads.runs (refl, returned d back, step, refl));
      list = listed_append leads.way (m ∷ []) ∙ ap (λ l. l ++ Ret ∷ []) leads.list;
      count = omega (arith, length-append leads.way (m ∷ []), sym (listed_length leads.way) ∙ ap length leads.list);
      each = each_append _ leads.way (m ∷ []) leads.each (last, tt);
    }

-- what follows at each moment
pub each_map : (P R : Moment → Type 0) → ((m : Moment) → P m → R m) → (ms : List Moment) → Each P ms → Each R ms
each_map P R f [] x = tt
each_map P R f (m ∷ ms) x = (f m x.0, each_map P R f ms x.1)
