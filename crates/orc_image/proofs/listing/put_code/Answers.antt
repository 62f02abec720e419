use Rattle.std.proofs.Common.{◌≡◌, ◌+◌, refl, sym, ap, ◌∙◌, ◌++◌, ◌∷◌, [], ℕ, List, length, take, drop, subst, arith, length-take, append_assoc}
use Rattle.std.proofs.lemmas.Grind.{common_steps}
use Rattle.orc_image.specs.Listing.{Line, lines_text, line_text}
use Rattle.orc_image.proofs.Lines.{lead_on, all_led, lines_pushed, total_pushed, total, LeadTo}
use Rattle.orc_image.proofs.listing.put_code.Goals as goal

pub loop-rest-preserved : goal.loop-rest-preserved
loop-rest-preserved c =
    let w = c.loop-rest.invariant.1 in
    let code = c.args.code.now in
    let out = c.args.out.now.items in
    let at = c.loop-rest.at in
    let rest = c.loop-rest.rest.now in
    let size = c.first_line-size.result.0 in
    let word = c.first_line-size.result.1.now in
    let l : Line = record { bytes = take size rest; word = word } in
    let len : length l.bytes ≡ size = omega (arith, length-take size rest, c.first_line-size.ensures.within) in
    let sum : at + size + length c.split_at.result.1.now ≡ length code = omega (arith, c.loop-rest.invariant.0, c.split_at.ensures.back_len) in
    let back : drop (length l.bytes) rest ≡ c.split_at.result.1.now = ap (λ n. drop n rest) len ∙ sym c.split_at.ensures.back in
    let leads : LeadTo code (w.0 ++ l ∷ []) c.split_at.result.1.now = subst (λ x. LeadTo code (w.0 ++ l ∷ []) x) back (lead_on code w.0 rest l w.1 c.first_line-size.ensures.line) in
    let count : at + size ≡ total (w.0 ++ l ∷ []) = omega (arith, w.2, total_pushed w.0 l, len) in
    let here : at ≡ 0 + total w.0 = omega (arith, w.2) in
    let text : c.put_line.new.out.items ≡ out ++ lines_text 0 (w.0 ++ l ∷ []) =
    c.in_ok-put_line.ensures
    ∙ ap (λ b. c.loop-rest.out.items ++ line_text at (line b word)) c.split_at.ensures.front
    ∙ ap (λ t. t ++ line_text at l) w.3
    ∙ append_assoc out (lines_text 0 w.0) (line_text at l)
    ∙ ap (λ t. out ++ t) (ap (λ k. lines_text 0 w.0 ++ line_text k l) here ∙ sym (lines_pushed w.0 0 l)) in
    (sum, (w.0 ++ l ∷ [], leads, count, text))
  where
    line : List ℕ → List ℕ → Line
    line bytes word = record { bytes = bytes; word = word }

pub returns : goal.returns
returns c =
    let w = c.loop-rest.invariant.1 in
    let none : c.loop-rest.rest.now ≡ [] = grind (arith, common_steps) in
    (lines_text 0 w.0, (w.0, all_led c.args.code.now w.0 (subst (λ x. LeadTo c.args.code.now w.0 x) none w.1), refl), w.3)
