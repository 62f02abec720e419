-- An image has one listing.
use Rattle.std.proofs.Common.{◌≡◌, ℕ, ◌+◌, List, [], ◌∷◌, ◌++◌, length, take, drop, refl, sym, ap, ap₂, ◌∙◌, subst, arith, ◌⊎◌, inl, inr, length-append}
use Rattle.std.proofs.lemmas.List.{take_at}
use Rattle.x86_ins.specs.Spelling.{Begins}
use Rattle.x86_decode.proofs.Unique.{one_decoding}
use Rattle.orc_image.specs.Mnemonics.{mnemonic}
use Rattle.orc_image.specs.Spelling.{FunctionValue}
use Rattle.orc_image.specs.Listing.{Line, IsLine, IsKnown, IsBad, AreLines, lines_text, function_line, ListsCode, ListsFunctions, OneListing}
use Rattle.orc_image.proofs.Lines.{some_bytes}

abbrev line : List ℕ → List ℕ → Line
line bytes word = record { bytes = bytes; word = word }

front_one : (code l m : List ℕ) → Begins l code → Begins m code → length l ≡ length m → l ≡ m
front_one code l m a b e =
    let x : take (length m) code ≡ l = ap (take (length m)) a.1 ∙ take_at l a.0 (length m) e in
    let y : take (length m) code ≡ m = ap (take (length m)) b.1 ∙ take_at m b.0 (length m) refl in
    sym x ∙ y

same_line : (code : List ℕ) (l m : Line) → Begins l.bytes code → Begins m.bytes code → length l.bytes ≡ length m.bytes → l.word ≡ m.word → l ≡ m
same_line code l m a b e w = ap₂ line (front_one code l.bytes m.bytes a b e) w

line_one : (code : List ℕ) (l m : Line) → Begins l.bytes code → Begins m.bytes code → IsKnown code l ⊎ IsBad code l → IsKnown code m ⊎ IsBad code m → l ≡ m
line_one code l m a b (inl x) (inl y) =
    let same = one_decoding code x.ins y.ins (length l.bytes) (length m.bytes) x.decoded y.decoded in
    same_line code l m a b same.1 (x.word ∙ ap mnemonic same.0 ∙ sym y.word)
line_one code l m a b (inl x) (inr y) = absurd (y.none x.ins (length l.bytes) x.decoded)
line_one code l m a b (inr x) (inl y) = absurd (x.none y.ins (length m.bytes) y.decoded)
line_one code l m a b (inr x) (inr y) = same_line code l m a b (x.one ∙ sym y.one) (x.word ∙ sym y.word)

-- of nothing there is no line
no_line : (m : Line) → Begins m.bytes [] → IsKnown [] m ⊎ IsBad [] m → ⊥
no_line m b h =
    let none : 0 ≡ length m.bytes + length b.0 = ap length b.1 ∙ length-append m.bytes b.0 in
    elim h [
      | inl x ↦ (let some = some_bytes [] x.ins (length m.bytes) x.decoded in omega (arith, none, some))
      | inr y ↦ (let one = y.one in omega (arith, none, one))
    ]

none_left : (code : List ℕ) (m : Line) → code ≡ [] → IsLine code m → ⊥
none_left code m e h = let empty : IsLine [] m = subst (λ c. IsLine c m) e h in no_line m empty.0 empty.1

lines_one : (code : List ℕ) (ls ms : List Line) → AreLines code ls → AreLines code ms → ls ≡ ms
lines_one code [] [] a b = refl
lines_one code [] (m ∷ ms) a b = absurd (none_left code m a b.0)
lines_one code (l ∷ ls) [] a b = absurd (none_left code l b a.0)
lines_one code (l ∷ ls) (m ∷ ms) a b =
    let first : l ≡ m = line_one code l m a.0.0 b.0.0 a.0.1 b.0.1 in
    let rest : ls ≡ ms = lines_one (drop (length l.bytes) code) ls ms a.1 (subst (λ (x : Line). AreLines (drop (length x.bytes) code) ms) (sym first) b.1) in
    ap₂ (λ x xs. x ∷ xs) first rest

code_one : (code x y : List ℕ) → ListsCode code x → ListsCode code y → x ≡ y
code_one code x y a b = a.2 ∙ ap (lines_text 0) (lines_one code a.0 b.0 a.1 b.1) ∙ sym b.2

functions_one : (fs : List FunctionValue) (x y : List ℕ) → ListsFunctions fs x → ListsFunctions fs y → x ≡ y
functions_one [] x y a b = a ∙ sym b
functions_one (f ∷ fs) x y a b =
    a.4 ∙ ap₂ (λ body more. function_line f.name ++ (body ++ more)) (code_one f.code a.0 b.0 a.2 b.2) (functions_one fs a.1 b.1 a.3 b.3) ∙ sym b.4

pub one_listing : OneListing
one_listing i x y a b = functions_one i.functions x y a b
