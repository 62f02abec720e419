use Rattle.std.proofs.Common.{◌≡◌, ◌+◌, ◌++◌, ◌∷◌, [], List, ℕ, Ok, length, arith, sym, ap, ◌∙◌, append_assoc, length-append}
use Rattle.std.proofs.lemmas.Grind.{common_steps}
use Rattle.std.proofs.lemmas.Result.{err_from_is_err_and}
use Rattle.orc_image.specs.declared.image.Image.{Image}
use Rattle.orc_image.specs.declared.image.ImageFunction.{ImageFunction}
use Rattle.orc_image.specs.Spelling.{FunctionValue, ImageValue, names, functions_bytes, function_bytes}
use Rattle.orc_image.specs.Fields.{Cursor, Field, function_at, image_with}
use Rattle.orc_image.proofs.Growing.{names_pushed, bytes_pushed}
use Rattle.orc_image.proofs.Unless.{still}
use Rattle.orc_image.proofs.Loop.{goes_on, ends, is_done}
use Rattle.orc_image.proofs.reading.read_functions.Goals as goal

pub returns-in_err-f-clause-gives : goal.returns-in_err-f-clause-gives
returns-in_err-f-clause-gives c =
    let p = err_from_is_err_and c.from_residual.result c.from_residual.ensures.1 in
    let fs = c.loop.image.functions in
    let v = c.args.version in
    rw (p.1, p.2) (still ImageFunction Image c.in_err-f.field-0.0 _ _ (λ h.
    let refused = ap (λ w. function_at w (names fs) c.loop.reader) (sym c.loop.invariant.same) ∙ h in
    ap (image_with v) (ends v fs (names fs) c.args.count c.loop.counter c.loop.reader c.in_err-f.field-0.0 _ c.loop-test.true refused c.loop.invariant.gives)) c.in_err-f.ensures.gives)

pub loop-preserved : goal.loop-preserved
loop-preserved c =
    let fs = c.loop.image.functions in
    let f = c.in_ok-f.f in
    let v = c.args.version in
    let same = c.loop.invariant.same in
    let grown : c.push.new.self.functions ≡ fs ++ f ∷ [] = grind (arith, common_steps) in
    let bytes : functions_bytes v c.push.new.self.functions ≡ functions_bytes v fs ++ function_bytes v f = ap (functions_bytes v) grown ∙ bytes_pushed v fs f in
    let read = ap (λ w. function_at w (names fs) c.loop.reader) (sym same) ∙ c.in_ok-f.ensures.gives in
    let spelled = c.in_ok-f.ensures.spelled.0 ∙ ap (λ w. function_bytes w f ++ c.read_function.new.reader.rest) same in
    let size = c.in_ok-f.ensures.spelled.1 ∙ ap (λ w. c.loop.reader.at + length (function_bytes w f)) same in
    let go = goes_on v fs (names fs) c.args.count c.loop.counter c.loop.reader f c.read_function.new.reader _ c.loop-test.true read c.loop.invariant.gives in
    record {
      kept = c.push.ensures.kept;
      same = grind (arith, common_steps);
      count = omega (arith, ap length grown, length-append fs (f ∷ []), c.loop.invariant.count);
      gives = rw (grown, names_pushed fs f) go;
      bytes = c.loop.invariant.bytes ∙ ap (λ t. functions_bytes v fs ++ t) spelled ∙ sym (append_assoc (functions_bytes v fs) (function_bytes v f) c.read_function.new.reader.rest) ∙ ap (λ t. t ++ c.read_function.new.reader.rest) (sym bytes);
      at = omega (arith, ap length bytes, length-append (functions_bytes v fs) (function_bytes v f), size, c.loop.invariant.at);
    }

pub returns-clause-gives : goal.returns-clause-gives
returns-clause-gives c =
    let v = c.args.version in
    ap (image_with v) (is_done v c.loop.image.functions (names c.loop.image.functions) c.args.count c.loop.counter c.loop.reader _ c.loop-test.false c.loop.invariant.gives)
    ∙ ap (λ w. given w c.loop.image.functions c.loop.reader) (sym c.loop.invariant.same)
  where
    given : ℕ → List FunctionValue → Cursor → Field ImageValue
    given w fs r = Ok (record { version = w; functions = fs }, r)
