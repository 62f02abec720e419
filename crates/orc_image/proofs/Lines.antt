-- The lines of a code.
use Rattle.std.proofs.Common.{◌≡◌, ℕ, zero, suc, ◌+◌, ◌<◌, ◌/◌, ◌%◌, List, [], ◌∷◌, ◌++◌, length, take, drop, get_or, length-take, refl, sym, ap, ◌∙◌, subst, append_assoc, add_assoc, arith, inr}
use Rattle.std.proofs.lemmas.List.{append-nil, take_more, take-append-drop}
use Rattle.std.specs.Prelude.{codes}
use Rattle.x86_ins.specs.declared.ins.Ins.{Ins}
use Rattle.x86_ins.specs.declared.ins.Ins.TheVariants.{Ret}
use Rattle.x86_ins.specs.Spelling.{Decode, spelling}
use Rattle.x86_decode.proofs.Unique.{one_decoding}
use Rattle.orc_image.specs.Listing.{Line, IsLine, AreLines, line_text, lines_text, ListsCode, ListsFunctions, function_line, hex, hex_digit}
use Rattle.orc_image.specs.Spelling.{FunctionValue}

-- how many bytes lines have
abbrev pub total : List Line → ℕ
total [] = 0
total (l ∷ ls) = length l.bytes + total ls

pub lines_pushed : (ls : List Line) (at : ℕ) (l : Line) → lines_text at (ls ++ l ∷ []) ≡ lines_text at ls ++ line_text (at + total ls) l
lines_pushed [] at l = append-nil (line_text at l) ∙ ap (λ k. line_text k l) (let e : at ≡ at + 0 = omega arith in e)
lines_pushed (x ∷ ls) at l =
    ap (λ t. line_text at x ++ t) (lines_pushed ls (at + length x.bytes) l ∙ ap (λ k. lines_text (at + length x.bytes) ls ++ line_text k l) (add_assoc at (length x.bytes) (total ls)))
    ∙ sym (append_assoc (line_text at x) (lines_text (at + length x.bytes) ls) (line_text (at + (length x.bytes + total ls)) l))

pub total_pushed : (ls : List Line) (l : Line) → total (ls ++ l ∷ []) ≡ total ls + length l.bytes
total_pushed [] l = omega arith
total_pushed (x ∷ ls) l = omega (arith, total_pushed ls l)

-- lines that lead from a code to what is left of it
abbrev pub LeadTo : List ℕ → List Line → List ℕ → Type 0
LeadTo code ls rest = (more : List Line) → AreLines rest more → AreLines code (ls ++ more)

pub lead_on : (code : List ℕ) (ls : List Line) (rest : List ℕ) (l : Line) → LeadTo code ls rest → IsLine rest l → LeadTo code (ls ++ l ∷ []) (drop (length l.bytes) rest)
lead_on code ls rest l h k more m = subst (λ x. AreLines code x) (sym (append_assoc ls (l ∷ []) more)) (h (l ∷ more) (k, m))

pub all_led : (code : List ℕ) (ls : List Line) → LeadTo code ls [] → AreLines code ls
all_led code ls h = subst (λ x. AreLines code x) (append-nil ls) (h [] refl)

-- ---- functions

pub functions_listed : (fs : List FunctionValue) (f : FunctionValue) (text body : List ℕ) → ListsFunctions fs text → ListsCode f.code body → ListsFunctions (fs ++ f ∷ []) (text ++ (function_line f.name ++ body))
functions_listed [] f text body e h = (body, [], h, refl, rw e (ap (λ t. function_line f.name ++ t) (sym (append-nil body))))
functions_listed (x ∷ fs) f text body e h =
    let all = function_line f.name ++ body in
    (e.0, e.1 ++ all, e.2, functions_listed fs f e.1 body e.3 h, ap (λ t. t ++ all) e.4 ∙ append_assoc (function_line x.name) (e.0 ++ e.1) all ∙ ap (λ t. function_line x.name ++ t) (append_assoc e.0 e.1 all))

-- ---- one line

abbrev ret_code : List ℕ
ret_code = 0xc3 ∷ []

nothing : (bs : List ℕ) → length bs ≡ 0 → bs ≡ []
nothing [] e = refl
nothing (b ∷ bs) e = absurd (omega (arith, e))

-- what is decoded has a byte: with none it would begin every instruction
pub some_bytes : (code : List ℕ) (i : Ins) (n : ℕ) → Decode code i n → 0 < n
unfolding spelling
some_bytes code i zero d =
    let here : Decode ret_code i 0 = record { allowed = d.allowed; size = d.size; begins = (ret_code, sym (ap (λ t. t ++ ret_code) (nothing (spelling i) d.size))) } in
    let there : Decode ret_code Ret 1 = record { allowed = (tt, refl); size = refl; begins = ([], refl) } in
    absurd (omega (arith, (one_decoding ret_code i Ret 0 1 here there).1))
some_bytes code i (suc n) d = omega arith

pub bad_line : (code : List ℕ) → 0 < length code → ((i : Ins) (n : ℕ) → Decode code i n → ⊥) → IsLine code (record { bytes = take 1 code; word = codes "bad" })
bad_line code l none = ((drop 1 code, sym (take-append-drop 1 code)), inr (record { none = none; one = omega (arith, l, length-take 1 code); word = refl }))

-- ---- hexadecimal

pub hex_pushed : (bs : List ℕ) (b : ℕ) → hex (bs ++ b ∷ []) ≡ hex bs ++ (hex_digit (b / 16) ∷ hex_digit (b % 16) ∷ [])
hex_pushed [] b = refl
hex_pushed (x ∷ bs) b = ap (λ t. hex_digit (x / 16) ∷ hex_digit (x % 16) ∷ t) (hex_pushed bs b)

pub hex_more : (bs : List ℕ) (i : ℕ) → i < length bs → hex (take (i + 1) bs) ≡ hex (take i bs) ++ (hex_digit (get_or bs i 0 / 16) ∷ hex_digit (get_or bs i 0 % 16) ∷ [])
hex_more bs i l = ap hex (take_more bs i 0 l) ∙ hex_pushed (take i bs) (get_or bs i 0)
