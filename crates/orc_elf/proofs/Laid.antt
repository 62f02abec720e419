-- Where the parts of a written object stand.
use Rattle.std.proofs.Common.{◌≡◌, ℕ, ◌+◌, ◌*◌, List, [], ◌∷◌, ◌++◌, length, refl, sym, ap, ◌∙◌, append_assoc, arith, length-append}
use Rattle.std.specs.Prelude.{replicate}
use Rattle.std.proofs.lemmas.List.{append-nil}
use Rattle.orc_elf.specs.declared.section.Places.{Places}
use Rattle.orc_elf.specs.declared.section.SectionHeader.{SectionHeader}
use Rattle.orc_elf.specs.Fields.{part}
use Rattle.orc_elf.specs.Layout.{gap, aligned, padded, places, file_header, header_bytes, headers_part, contents_part, assembled}
use Rattle.orc_elf.proofs.Sizes.{file_header_size, header_size}
use Rattle.orc_elf.proofs.Joined.{fill_size}
use Rattle.orc_elf.proofs.Offsets.{part_here}

-- the places where the contents of an object's sections stand
pub record Sits (p : Places) (code symbols names section_names : List ℕ) : Type 0 where
  pub code_at : p.code.offset ≡ 64
  pub code_has : p.code.size ≡ length code
  pub symbols_at : p.symbols.offset ≡ 64 + aligned (length code)
  pub symbols_have : p.symbols.size ≡ length symbols
  pub names_at : p.names.offset ≡ p.symbols.offset + length symbols
  pub names_have : p.names.size ≡ length names
  pub section_names_at : p.section_names.offset ≡ p.names.offset + length names
  pub section_names_have : p.section_names.size ≡ length section_names

pub sits : (code symbols names section_names : List ℕ) → Sits (places (length code) (length symbols) (length names) (length section_names)) code symbols names section_names
unfolding places
sits code symbols names section_names = record {
  code_at = refl;
  code_has = refl;
  symbols_at = refl;
  symbols_have = refl;
  names_at = refl;
  names_have = refl;
  section_names_at = refl;
  section_names_have = refl;
}

-- ---- the contents

before_symbols : (f c s n k y m h : List ℕ) → f ++ ((((c ++ (s ++ (n ++ k))) ++ y) ++ m) ++ h) ≡ (f ++ c) ++ (s ++ (n ++ (k ++ (y ++ (m ++ h)))))
before_symbols f c s n k y m h = simp append_assoc

before_names : (f c s r : List ℕ) → (f ++ c) ++ (s ++ r) ≡ (f ++ (c ++ s)) ++ r
before_names f c s r = simp append_assoc

before_section_names : (f c s n r : List ℕ) → (f ++ (c ++ s)) ++ (n ++ r) ≡ (f ++ (c ++ (s ++ n))) ++ r
before_section_names f c s n r = simp append_assoc

before_headers : (f c h : List ℕ) → f ++ (c ++ h) ≡ (f ++ c) ++ (h ++ [])
before_headers f c h = simp (append_assoc, append-nil)

pub headers_size : (hs : List SectionHeader) → length (headers_part hs) ≡ 64 * length hs
headers_size [] = refl
headers_size (h ∷ hs) = omega (arith, length-append (header_bytes h) (headers_part hs), header_size h, headers_size hs)

-- ---- the whole

pub record IsLaid (bytes : List ℕ) (p : Places) (cs ss ns ks : List ℕ) (at : ℕ) (hs : List SectionHeader) : Type 0 where
  pub after_header : List ℕ
  pub headed : bytes ≡ file_header at (length hs) ++ after_header
  pub code : part bytes p.code.offset p.code.size ≡ cs
  pub symbols_front : List ℕ
  pub symbols_back : List ℕ
  pub symbols : bytes ≡ symbols_front ++ (ss ++ symbols_back)
  pub symbols_place : p.symbols.offset ≡ length symbols_front
  pub names : part bytes p.names.offset p.names.size ≡ ns
  pub section_names : part bytes p.section_names.offset p.section_names.size ≡ ks
  pub front : List ℕ
  pub headers : bytes ≡ front ++ (headers_part hs ++ [])
  pub headers_place : at ≡ length front
  pub ends : length bytes ≡ at + 64 * length hs

pub laid : (p : Places) (code symbols names section_names more contents : List ℕ) (hs : List SectionHeader) → Sits p code symbols names section_names → contents ≡ contents_part code symbols names section_names ++ more
    → IsLaid (assembled contents hs) p code symbols names section_names (64 + length contents) hs
unfolding assembled contents_part
laid p code symbols names section_names more contents hs s is =
    let bytes : List ℕ = assembled contents hs in
    let f : List ℕ = file_header (64 + length contents) (length hs) in
    let z : List ℕ = replicate (gap 8 (length code)) 0 in
    let c : List ℕ = padded code in
    let inner : List ℕ = c ++ (symbols ++ (names ++ section_names)) in
    let y : List ℕ = replicate (gap 8 (length inner)) 0 in
    let h : List ℕ = headers_part hs in
    let rest : List ℕ = y ++ (more ++ h) in
    let whole : bytes ≡ (f ++ c) ++ (symbols ++ (names ++ (section_names ++ rest))) = ap (λ t. f ++ (t ++ h)) is ∙ before_symbols f c symbols names section_names y more h in
    let named : bytes ≡ (f ++ (c ++ symbols)) ++ (names ++ (section_names ++ rest)) = whole ∙ before_names f c symbols (names ++ (section_names ++ rest)) in
    let titled : bytes ≡ (f ++ (c ++ (symbols ++ names))) ++ (section_names ++ rest) = named ∙ before_section_names f c symbols names (section_names ++ rest) in
    let headed : bytes ≡ (f ++ contents) ++ (h ++ []) = before_headers f contents h in
    let after_code : List ℕ = z ++ (symbols ++ (names ++ (section_names ++ rest))) in
    let coded : bytes ≡ f ++ (code ++ after_code) = whole ∙ append_assoc f c (symbols ++ (names ++ (section_names ++ rest))) ∙ ap (λ t. f ++ t) (append_assoc code z (symbols ++ (names ++ (section_names ++ rest)))) in
    let lf : length f ≡ 64 = file_header_size (64 + length contents) (length hs) in
    let lc : length c ≡ aligned (length code) = omega (arith, length-append code z, fill_size (gap 8 (length code)) 0) in
    let l1 : length (f ++ c) ≡ 64 + aligned (length code) = omega (arith, length-append f c, lf, lc) in
    let l2 : length (f ++ (c ++ symbols)) ≡ 64 + aligned (length code) + length symbols = omega (arith, length-append f (c ++ symbols), length-append c symbols, lf, lc) in
    let l3 : length (f ++ (c ++ (symbols ++ names))) ≡ 64 + aligned (length code) + length symbols + length names = omega (arith, length-append f (c ++ (symbols ++ names)), length-append c (symbols ++ names), length-append symbols names, lf, lc) in
    let begins : 64 + length contents ≡ length (f ++ contents) = omega (arith, length-append f contents, lf) in
    record {
      after_header = contents ++ h;
      headed = refl;
      code = part_here bytes f code after_code p.code.offset p.code.size coded (s.code_at ∙ sym lf) s.code_has;
      symbols_front = f ++ c;
      symbols_back = names ++ (section_names ++ rest);
      symbols = whole;
      symbols_place = s.symbols_at ∙ sym l1;
      names = part_here bytes (f ++ (c ++ symbols)) names (section_names ++ rest) p.names.offset p.names.size named (omega (arith, s.names_at, s.symbols_at, l2)) s.names_have;
      section_names = part_here bytes (f ++ (c ++ (symbols ++ names))) section_names rest p.section_names.offset p.section_names.size titled (omega (arith, s.section_names_at, s.names_at, s.symbols_at, l3)) s.section_names_have;
      front = f ++ contents;
      headers = headed;
      headers_place = begins;
      ends = omega (arith, ap length headed, length-append (f ++ contents) (h ++ []), ap length (append-nil h), begins, headers_size hs);
    }

-- how many bytes the contents of sections 1 to 4 have, and what follows them
pub contents_size : (p : Places) (code symbols names section_names more contents : List ℕ) → Sits p code symbols names section_names → contents ≡ contents_part code symbols names section_names ++ more
    → 64 + length contents ≡ aligned (p.section_names.offset + p.section_names.size) + length more
unfolding contents_part gap
contents_size p code symbols names section_names more contents s is =
    let c : List ℕ = padded code in
    let inner : List ℕ = c ++ (symbols ++ (names ++ section_names)) in
    let lc : length c ≡ aligned (length code) = omega (arith, length-append code (replicate (gap 8 (length code)) 0), fill_size (gap 8 (length code)) 0) in
    let li : length inner ≡ length c + length symbols + length names + length section_names = omega (arith, length-append c (symbols ++ (names ++ section_names)), length-append symbols (names ++ section_names), length-append names section_names) in
    let end : p.section_names.offset + p.section_names.size ≡ 64 + length inner = omega (arith, s.section_names_at, s.section_names_have, s.names_at, s.symbols_at, li, lc) in
    omega (arith, ap length is, length-append (padded inner) more, length-append inner (replicate (gap 8 (length inner)) 0), fill_size (gap 8 (length inner)) 0, end)
