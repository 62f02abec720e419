-- What was spelled is read again.
use Rattle.std.proofs.Common.{◌≡◌, ℕ, zero, suc, max, ◌⊎◌, inl, inr, ◌+◌, ◌-◌, ◌^◌, ◌<◌, ◌≤◌, if◌then◌else◌, Bool, true, false, ◌&&◌, ◌||◌, ◌==◌, ltb, List, [], ◌∷◌, ◌++◌, length, take, drop, Ok, Err, refl, sym, ap, ap₂, ◌∙◌, subst, append_assoc, arith}
use Rattle.std.specs.Int.{w16, w32, to_le_bytes}
use Rattle.std.specs.Str.{bytes_eq}
use Rattle.std.specs.List.{list_any, list_all}
use Rattle.std.proofs.lemmas.Bool.{cases_Bool, lt-ltb, le-ltb, le-leb, ltb-true, eqb-true}
use Rattle.std.proofs.lemmas.Bool.Decides.{nat_tests}
use Rattle.std.proofs.lemmas.List.{take_at, drop_at, length-append, length-take, length-drop, take-append-drop}
use Rattle.std.proofs.lemmas.List.Folds.{list_any-append}
use Rattle.std.proofs.lemmas.Nat.{from_le_bytes-to_le_bytes_2, from_le_bytes-to_le_bytes_4}
use Rattle.std.proofs.lemmas.Slice.Eq.{bytes_eq-Decides}
use Rattle.orc_program.specs.Words.{is_name}
use Rattle.orc_program.specs.Kept.{all_distinct}
use Rattle.orc_program.specs.declared.known.CountFacts.{CountFacts}
use Rattle.orc_program.specs.declared.known.Facts.{Facts}
use Rattle.orc_program.specs.Facts.{most_count, free, least_multiple, is_unbounded, is_count_facts, is_free_count, is_align_value, is_facts, ones, free_facts, is_free}
use Rattle.orc_program.proofs.Sizes.{both}
use Rattle.orc_program.proofs.Declared.{both_hold}
use Rattle.orc_program.proofs.FactLaws.{KeptCount, kept_count, Unbounded, unbounded, free_count, KeptFacts, kept_facts}
use Rattle.orc_image.specs.declared.error.ImageError.{ImageError}
use Rattle.orc_image.specs.declared.error.ImageError.TheVariants.{BadMagic}
use Rattle.orc_image.specs.Spelling.{FunctionValue, ImageValue, IsFunction, IsImage, ImageBegins, OneImage, AreFunctions, names, is_among, bit, is_version, count_bytes, slots_bytes, facts_bytes, function_bytes, functions_bytes, image_bytes, magic}
use Rattle.orc_image.specs.Fields.{Cursor, Field, bytes_at, byte_at, number_at, half_at, name_at, code_at, count_at, is_allowed_align, aligns_at, stated_at, facts_at, function_at, functions_at, version_at, head_at, word_at, image_at}

abbrev cursor : ℕ → List ℕ → Cursor
cursor at rest = record { at = at; rest = rest }

byte_again : (low high at b : ℕ) (rest : List ℕ) → low ≤ b → b ≤ high → byte_at low high (cursor at (b ∷ rest)) ≡ Ok (b, cursor (at + 1) rest)
byte_again low high at b rest h k = rw (le-leb low b h, le-leb b high k) refl

bytes_again : (n at : ℕ) (text rest : List ℕ) → length text ≡ n → bytes_at n (cursor at (text ++ rest)) ≡ Ok (text, cursor (at + n) rest)
bytes_again n at text rest len =
    let long : ltb (length (text ++ rest)) n ≡ false = le-ltb _ _ (omega (arith, length-append text rest)) in
    rw (long, take_at text rest n len, drop_at text rest n len) refl

number_again : (low high at n : ℕ) (rest : List ℕ) → low ≤ n → n ≤ high → n < 2 ^ 32 → number_at low high (cursor at (to_le_bytes w32 n ++ rest)) ≡ Ok (n, cursor (at + 4) rest)
number_again low high at n rest h k lt =
    let long : ltb (length (to_le_bytes w32 n ++ rest)) 4 ≡ false = le-ltb _ _ (omega arith) in
    rw (long, from_le_bytes-to_le_bytes_4 n lt, le-leb low n h, le-leb n high k) refl

name_length : (w : List ℕ) → is_name w ≡ true → (1 ≤ length w) × (length w ≤ 64)
name_length [] h = absurd cc
name_length (b ∷ bytes) h =
    let lt : ltb (length bytes) 64 ≡ true = grind arith in
    let l : length bytes < 64 = ltb-true _ _ lt in
    (omega arith, omega arith)

name_again : (seen : List (List ℕ)) (at : ℕ) (name rest : List ℕ) → is_name name ≡ true → is_among seen name ≡ false → name_at seen (cursor at ((length name ∷ name) ++ rest)) ≡ Ok (name, cursor (at + 1 + length name) rest)
unfolding name_at
name_again seen at name rest h new =
    let l = name_length name h in
    rw (byte_again 1 64 at (length name) (name ++ rest) l.0 l.1, bytes_again (length name) (at + 1) name rest refl, h, new) refl

code_again : (at : ℕ) (code rest : List ℕ) → 1 ≤ length code → length code ≤ 1048576 → code_at (cursor at ((to_le_bytes w32 (length code) ++ code) ++ rest)) ≡ Ok (code, cursor (at + 4 + length code) rest)
unfolding code_at
code_again at code rest h k = rw (number_again 1 1048576 at (length code) (code ++ rest) h k (omega arith), bytes_again (length code) (at + 4) code rest refl) refl

bit_again : (b : Bool) → (bit b == 1) ≡ b
bit_again true = refl
bit_again false = refl

bit_low : (b : Bool) → bit b ≤ 1
bit_low true = omega arith
bit_low false = omega arith

-- ---- facts

-- the numbers of a count are in the ranges of their fields
record Ranges (may : Bool) (c : CountFacts) : Type 0 where
  exact : c.exact ≤ (if may then most_count else 0)
  some : 1 ≤ c.mult
  mult : c.mult ≤ (if may && c.exact == 0 then most_count else 1)
  least : c.min ≤ (if may && c.exact == 0 then most_count else 0)
  room : (if may && c.exact == 0 then least_multiple c.mult c.min else most_count) ≤ c.max
  greatest : c.max ≤ most_count

ranges_closed : (may : Bool) (c : CountFacts) → KeptCount c → may && c.exact == 0 ≡ false → c.exact ≤ (if may then most_count else 0) → Unbounded c → Ranges may c
ranges_closed may c k closed e u = record {
  exact = e;
  some = k.some;
  mult = rw closed (omega (arith, u.mult));
  least = rw closed (omega (arith, u.least));
  room = rw closed (omega (arith, u.greatest));
  greatest = k.greatest;
}

ranges : (may : Bool) (c : CountFacts) → is_count_facts c ≡ true → may || is_free_count c ≡ true → Ranges may c
ranges false c h free =
    let z = free_count c free in
    ranges_closed false c (kept_count c h) refl (omega (arith, z.0)) z.1
ranges true c h free =
    let k = kept_count c h in
    elim (cases_Bool (c.exact == 0)) [
      | inl t ↦ record { exact = k.exact; some = k.some; mult = rw t k.mult; least = rw t k.least; room = rw t k.room; greatest = k.greatest }
      | inr f ↦ ranges_closed true c k f k.exact (unbounded c (subst (λ b. b || is_unbounded c ≡ true) f k.free))
    ]

count_again : (may : Bool) (at : ℕ) (c : CountFacts) (rest : List ℕ) → Ranges may c → count_at may (cursor at (count_bytes c ++ rest)) ≡ Ok (c, cursor (at + 4 + 4 + 4 + 4) rest)
unfolding count_at
count_again may at c rest r =
    let d = to_le_bytes w32 c.max ++ rest in
    let b = to_le_bytes w32 c.min ++ d in
    let a = to_le_bytes w32 c.mult ++ b in
    let small : (if may then most_count else 0) ≤ most_count = low may most_count 0 in
    let stated = may && c.exact == 0 in
    rw (
      number_again 0 (if may then most_count else 0) at c.exact a (omega arith) r.exact (omega (arith, r.exact, small)),
      number_again 1 (if stated then most_count else 1) (at + 4) c.mult b r.some r.mult (omega (arith, r.mult, low stated most_count 1)),
      number_again 0 (if stated then most_count else 0) (at + 4 + 4) c.min d (omega arith) r.least (omega (arith, r.least, low stated most_count 0)),
      number_again (if stated then least_multiple c.mult c.min else most_count) most_count (at + 4 + 4 + 4) c.max rest r.room r.greatest (omega (arith, r.greatest)),
    ) refl
  where
    low : (b : Bool) (x y : ℕ) → (if b then x else y) ≤ max x y
    low true x y = omega arith
    low false x y = omega arith

align_small : (a : ℕ) → is_align_value a ≡ true → a < 2 ^ 16
align_small a h = grind (arith, nat_tests, h)

half_again : (p : ℕ → Bool) (at n : ℕ) (rest : List ℕ) → p n ≡ true → n < 2 ^ 16 → half_at p (cursor at (to_le_bytes w16 n ++ rest)) ≡ Ok (n, cursor (at + 2) rest)
half_again p at n rest h lt =
    let long : ltb (length (to_le_bytes w16 n ++ rest)) 2 ≡ false = le-ltb _ _ (omega arith) in
    rw (long, from_le_bytes-to_le_bytes_2 n lt, h) refl

after_aligns : ℕ → ℕ → ℕ
after_aligns zero at = at
after_aligns (suc n) at = after_aligns n (at + 2)

aligns_again : (n at : ℕ) (aligns rest : List ℕ) → length aligns ≤ n → list_all is_align_value aligns ≡ true → aligns_at n (length aligns) (cursor at (slots_bytes n aligns ++ rest)) ≡ Ok (aligns, cursor (after_aligns n at) rest)
unfolding aligns_at after_aligns
aligns_again zero at [] rest few h = refl
aligns_again zero at (a ∷ aligns) rest few h = absurd (omega (arith, few))
aligns_again (suc n) at [] rest few h =
    rw (half_again (is_allowed_align false) at 1 (slots_bytes n [] ++ rest) refl (omega arith), aligns_again n (at + 2) [] rest (omega arith) refl) refl
aligns_again (suc n) at (a ∷ aligns) rest few h =
    let two = both (is_align_value a) (list_all is_align_value aligns) h in
    let used : ltb 0 (length (a ∷ aligns)) ≡ true = lt-ltb _ _ (omega arith) in
    let left : length (a ∷ aligns) - 1 ≡ length aligns = omega arith in
    rw (used, left, half_again (is_allowed_align true) at a (slots_bytes n aligns ++ rest) two.0 (align_small a two.0), aligns_again n (at + 2) aligns rest (omega (arith, few)) two.1) refl

abbrev after_stated : ℕ → ℕ
after_stated at = after_aligns 8 (after_aligns 4 (at + 4 + 4 + 4 + 4 + 4 + 4 + 4 + 4))

stated_again : (two_d : Bool) (dests sources at : ℕ) (facts : Facts) (rest : List ℕ) → dests ≤ 4 → sources ≤ 8 → KeptFacts two_d (dests + sources) facts
    → stated_at two_d dests sources (cursor at (facts_bytes 2 dests facts ++ rest)) ≡ Ok (facts, cursor (after_stated at) rest)
unfolding stated_at
stated_again two_d dests sources at facts rest few_dests few_sources k =
    let aligns = facts.aligns.items in
    let first = take dests aligns in
    let second = drop dests aligns in
    let first_count : length first ≡ dests = omega (arith, length-take dests aligns, k.count) in
    let second_count : length second ≡ sources = omega (arith, length-drop dests aligns, k.count) in
    let parts = split_all is_align_value dests aligns k.aligns in
    let tail = slots_bytes 8 second ++ rest in
    let middle = slots_bytes 4 first ++ tail in
    let at_m = at + 4 + 4 + 4 + 4 in
    let at_first = at_m + 4 + 4 + 4 + 4 in
    let dests_again : aligns_at 4 dests (cursor at_first middle) ≡ Ok (first, cursor (after_aligns 4 at_first) tail) = subst (λ n. aligns_at 4 n (cursor at_first middle) ≡ Ok (first, cursor (after_aligns 4 at_first) tail)) first_count (aligns_again 4 at_first first tail (omega arith) parts.0) in
    let sources_again : aligns_at 8 sources (cursor (after_aligns 4 at_first) tail) ≡ Ok (second, cursor (after_stated at) rest) = subst (λ n. aligns_at 8 n (cursor (after_aligns 4 at_first) tail) ≡ Ok (second, cursor (after_stated at) rest)) second_count (aligns_again 8 (after_aligns 4 at_first) second rest (omega arith) parts.1) in
    let regrouped : facts_bytes 2 dests facts ++ rest ≡ count_bytes facts.n ++ (count_bytes facts.m ++ middle) = simp append_assoc in
    ap (λ t. stated_at two_d dests sources (cursor at t)) regrouped
    ∙ rw (
      count_again true at facts.n (count_bytes facts.m ++ middle) (ranges true facts.n k.n refl),
      count_again two_d at_m facts.m middle (ranges two_d facts.m k.m k.rows),
      dests_again,
      sources_again,
    ) (ap (λ (xs : List ℕ). Ok (record { n = facts.n; m = facts.m; aligns = record { items = xs } }, cursor (after_stated at) rest)) (take-append-drop dests aligns))
  where
    split_all : (p : ℕ → Bool) (n : ℕ) (xs : List ℕ) → list_all p xs ≡ true → (list_all p (take n xs) ≡ true) × (list_all p (drop n xs) ≡ true)
    split_all p zero xs h = (refl, h)
    split_all p (suc n) [] h = (refl, refl)
    split_all p (suc n) (x ∷ xs) h =
        let two = both (p x) (list_all p xs) h in
        let rest = split_all p n xs two.1 in
        (both_hold (p x) (list_all p (take n xs)) two.0 rest.0, rest.1)

free_is : (c : CountFacts) → is_free_count c ≡ true → c ≡ free
free_is c h =
    let z = free_count c h in
    let u = z.1 in
    ap₄ z.0 u.mult u.least u.greatest
  where
    with : ℕ → ℕ → ℕ → ℕ → CountFacts
    with a b d e = record { exact = a; mult = b; min = d; max = e }

    ap₄ : {a b d e x y z w : ℕ} → a ≡ x → b ≡ y → d ≡ z → e ≡ w → with a b d e ≡ with x y z w
    ap₄ p q r s = cc

ones_are : (n : ℕ) (xs : List ℕ) → list_all (λ x. x == 1) xs ≡ true → length xs ≡ n → xs ≡ ones n
ones_are zero [] h len = refl
ones_are zero (x ∷ xs) h len = absurd (omega (arith, len))
ones_are (suc n) [] h len = absurd (omega (arith, len))
ones_are (suc n) (x ∷ xs) h len =
    let two = both (x == 1) (list_all (λ y. y == 1) xs) h in
    ap₂ (λ y ys. y ∷ ys) (eqb-true x 1 two.0) (ones_are n xs two.1 (omega (arith, len)))

-- facts that state nothing
free_facts_are : (arrays : ℕ) (facts : Facts) → is_free facts ≡ true → length facts.aligns.items ≡ arrays → facts ≡ free_facts arrays
free_facts_are arrays facts h len =
    let a = both (is_free_count facts.n) (is_free_count facts.m && list_all (λ x. x == 1) facts.aligns.items) h in
    let b = both (is_free_count facts.m) (list_all (λ x. x == 1) facts.aligns.items) a.1 in
    ap₃ (free_is facts.n a.0) (free_is facts.m b.0) (ones_are arrays facts.aligns.items b.1 len)
  where
    with : CountFacts → CountFacts → List ℕ → Facts
    with n m xs = record { n = n; m = m; aligns = record { items = xs } }

    ap₃ : {n m a b : CountFacts} {xs ys : List ℕ} → n ≡ a → m ≡ b → xs ≡ ys → with n m xs ≡ with a b ys
    ap₃ p q r = cc

-- the end of a function's facts
abbrev after_facts : ℕ → ℕ → ℕ
after_facts version at = if version == 2 then after_stated at else at

facts_again : (version : ℕ) (two_d : Bool) (dests sources at : ℕ) (facts : Facts) (rest : List ℕ) → dests ≤ 4 → sources ≤ 8 → is_facts two_d (dests + sources) facts ≡ true → is_version version ≡ true → (version ≡ 1 → is_free facts ≡ true)
    → facts_at version two_d dests sources (cursor at (facts_bytes version dests facts ++ rest)) ≡ Ok (facts, cursor (after_facts version at) rest)
facts_again version two_d dests sources at facts rest few_dests few_sources h known free =
    let k = kept_facts two_d (dests + sources) facts h in
    elim (one_or_two version known) [
      | inl e ↦ rw e (ap (λ (x : Facts). Ok (x, cursor at rest)) (sym (free_facts_are (dests + sources) facts (free e) k.count)))
      | inr e ↦ rw e (stated_again two_d dests sources at facts rest few_dests few_sources k)
    ]
  where
    one_or_two : (v : ℕ) → is_version v ≡ true → (v ≡ 1) ⊎ (v ≡ 2)
    one_or_two v h = elim (cases_Bool (v == 1)) [ inl t ↦ inl (eqb-true v 1 t) | inr f ↦ inr (eqb-true v 2 (subst (λ b. b || v == 2 ≡ true) f h)) ]

-- of words that differ, one that follows others is none of them
none_before : (seen : List (List ℕ)) (w : List ℕ) (ws : List (List ℕ)) → all_distinct (seen ++ w ∷ ws) ≡ true → is_among seen w ≡ false
none_before [] w ws d = refl
none_before (x ∷ seen) w ws d =
    let rest : all_distinct (seen ++ w ∷ ws) ≡ true = grind arith in
    let apart : list_any (bytes_eq x) (seen ++ w ∷ ws) ≡ false = grind arith in
    let e : bytes_eq x w ≡ false = grind (arith, list_any-append (bytes_eq x) seen (w ∷ ws)) in
    let s : bytes_eq w x ≡ false = grind (arith, bytes_eq-Decides w x, bytes_eq-Decides x w) in
    rw (s, none_before seen w ws rest) refl

abbrev after_function : ℕ → FunctionValue → ℕ → ℕ
after_function version f at = after_facts version (at + 1 + length f.name + 1 + 1 + 1 + 1 + 1) + 4 + length f.code

function_again : (version : ℕ) (seen : List (List ℕ)) (at : ℕ) (f : FunctionValue) (rest : List ℕ) → is_version version ≡ true → (version ≡ 1 → is_free f.facts ≡ true) → IsFunction f → is_among seen f.name ≡ false
    → function_at version seen (cursor at (function_bytes version f ++ rest)) ≡ Ok (f, cursor (after_function version f at) rest)
unfolding function_at
function_again version seen at f rest known free h new =
    let code = (to_le_bytes w32 (length f.code) ++ f.code) ++ rest in
    let facts = facts_bytes version f.dests f.facts in
    let stated = facts ++ code in
    let tail = bit f.two_d ∷ f.dests ∷ f.sources ∷ f.params ∷ f.accs ∷ (facts ++ (to_le_bytes w32 (length f.code) ++ f.code)) in
    let next = at + 1 + length f.name in
    let regrouped : (bit f.two_d ∷ f.dests ∷ f.sources ∷ f.params ∷ f.accs ∷ (facts ++ (to_le_bytes w32 (length f.code) ++ f.code))) ++ rest ≡ bit f.two_d ∷ f.dests ∷ f.sources ∷ f.params ∷ f.accs ∷ stated =
    ap (λ t. bit f.two_d ∷ f.dests ∷ f.sources ∷ f.params ∷ f.accs ∷ t) (append_assoc facts (to_le_bytes w32 (length f.code) ++ f.code) rest) in
    ap (λ t. function_at version seen (cursor at t)) (append_assoc (length f.name ∷ f.name) tail rest ∙ ap (λ t. (length f.name ∷ f.name) ++ t) regrouped)
    ∙ rw (
      name_again seen at f.name (bit f.two_d ∷ f.dests ∷ f.sources ∷ f.params ∷ f.accs ∷ stated) h.name new,
      byte_again 0 1 next (bit f.two_d) (f.dests ∷ f.sources ∷ f.params ∷ f.accs ∷ stated) (omega arith) (bit_low f.two_d),
      byte_again 0 4 (next + 1) f.dests (f.sources ∷ f.params ∷ f.accs ∷ stated) (omega arith) h.dests,
      byte_again 0 8 (next + 1 + 1) f.sources (f.params ∷ f.accs ∷ stated) (omega arith) h.sources,
      byte_again 0 8 (next + 1 + 1 + 1) f.params (f.accs ∷ stated) (omega arith) h.params,
      byte_again 0 4 (next + 1 + 1 + 1 + 1) f.accs stated (omega arith) h.accs,
      bit_again f.two_d,
      facts_again version f.two_d f.dests f.sources (next + 1 + 1 + 1 + 1 + 1) f.facts code h.dests h.sources h.facts known free,
      code_again (after_facts version (next + 1 + 1 + 1 + 1 + 1)) f.code rest h.some_code h.few_code,
    ) refl

functions_again : (version : ℕ) (fs : List FunctionValue) (seen : List (List ℕ)) (at : ℕ) (rest : List ℕ) → is_version version ≡ true → (version ≡ 1 → list_all (λ f. is_free f.facts) fs ≡ true) → AreFunctions fs → all_distinct (seen ++ names fs) ≡ true →
    (end : ℕ) × (functions_at version (length fs) seen (cursor at (functions_bytes version fs ++ rest)) ≡ Ok (fs, cursor end rest))
unfolding functions_at
functions_again version [] seen at rest known free h d = (at, refl)
functions_again version (f ∷ fs) seen at rest known free h d =
    let tail = functions_bytes version fs ++ rest in
    let e : (seen ++ f.name ∷ []) ++ names fs ≡ seen ++ f.name ∷ names fs = append_assoc seen (f.name ∷ []) (names fs) in
    let two = λ (v : version ≡ 1). both (is_free f.facts) (list_all (λ g. is_free g.facts) fs) (free v) in
    let more = functions_again version fs (seen ++ f.name ∷ []) (after_function version f at) rest known (λ v. (two v).1) h.1 (ap all_distinct e ∙ d) in
    (more.0, ap (λ t. functions_at version (suc (length fs)) seen (cursor at t)) (append_assoc (function_bytes version f) (functions_bytes version fs) rest) ∙ rw (function_again version seen at f tail known (λ v. (two v).0) h.0 (none_before seen f.name (names fs) d), more.1) refl)

word_again : (word : List ℕ) (refusal : ImageError) (at : ℕ) (rest : List ℕ) → word_at word refusal (cursor at (word ++ rest)) ≡ Ok (word, cursor (at + length word) rest)
word_again word refusal at rest =
    let same : bytes_eq word word ≡ true = (bytes_eq-Decides word word).1 refl in
    rw (bytes_again (length word) at word rest refl, same) refl

version_again : (v at : ℕ) (rest : List ℕ) → is_version v ≡ true → version_at (cursor at (v ∷ rest)) ≡ Ok (v, cursor (at + 1) rest)
version_again v at rest h = rw h refl

head_again : (version n : ℕ) (rest : List ℕ) → is_version version ≡ true → n ≤ 64 → head_at (cursor 0 (magic ++ (version ∷ n ∷ rest))) ≡ Ok ((version, n), cursor 6 rest)
unfolding head_at
head_again version n rest known h = rw (word_again magic BadMagic 0 (version ∷ n ∷ rest), version_again version 4 (n ∷ rest) known, byte_again 0 64 5 n rest (omega arith) h) refl

pub image_again : (i : ImageValue) (rest : List ℕ) → IsImage i → (end : ℕ) × (image_at (cursor 0 (image_bytes i ++ rest)) ≡ Ok (i, cursor end rest))
unfolding image_at
image_again i rest h =
    let more = functions_again i.version i.functions [] 6 rest h.known h.free h.each h.distinct in
    (more.0, rw (head_again i.version (length i.functions) (functions_bytes i.version i.functions ++ rest) h.known h.few, more.1) refl)

first_of_ok : {A : Type 0} (d : A) → Field A → A
first_of_ok d (Ok x) = x.0
first_of_ok d (Err e) = d

-- of an image that begins the bytes nothing else is read
pub only_one : (bytes : List ℕ) (i j : ImageValue) (n : ℕ) (c : Cursor) → ImageBegins bytes i n → image_at (cursor 0 bytes) ≡ Ok (j, c) → j ≡ i
unfolding first_of_ok
only_one bytes i j n c b e =
    let again = image_again i b.begins.0 b.allowed in
    let whole : image_at (cursor 0 bytes) ≡ Ok (i, cursor again.0 b.begins.0) = ap (λ t. image_at (cursor 0 t)) b.begins.1 ∙ again.1 in
    ap (first_of_ok i) (sym e ∙ whole)

-- and it is not refused
pub not_refused : (bytes : List ℕ) (i : ImageValue) (n : ℕ) (e : ImageError) → ImageBegins bytes i n → image_at (cursor 0 bytes) ≡ Err e → ⊥
not_refused bytes i n e b h =
    let again = image_again i b.begins.0 b.allowed in
    let whole : image_at (cursor 0 bytes) ≡ Ok (i, cursor again.0 b.begins.0) = ap (λ t. image_at (cursor 0 t)) b.begins.1 ∙ again.1 in
    ok_err (sym whole ∙ h)
  where
    ok_err : {A : Type 0} {x : A} {e : ImageError} → Ok x ≡ Err e → ⊥
    ok_err h = cc

pub one_image : OneImage
one_image i j x y h k e =
    let again = image_again j y k in
    let b : ImageBegins (image_bytes i ++ x) i (length (image_bytes i)) = record { allowed = h; size = refl; begins = (x, refl) } in
    sym (only_one (image_bytes i ++ x) i j (length (image_bytes i)) (cursor again.0 y) b (ap (λ t. image_at (cursor 0 t)) e ∙ again.1))
