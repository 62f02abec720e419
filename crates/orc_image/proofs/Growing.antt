-- One function more.
use Rattle.std.proofs.Common.{◌≡◌, ℕ, zero, suc, ◌+◌, ◌-◌, ◌<◌, ◌≤◌, Bool, true, false, ◌||◌, ◌==◌, List, [], ◌∷◌, ◌++◌, length, map, take, drop, get_or, refl, sym, ap, ◌∙◌, append_assoc, arith, length-append}
use Rattle.std.specs.List.{list_any, list_all}
use Rattle.std.specs.Int.{w16, w32, to_le_bytes}
use Rattle.std.specs.Str.{bytes_eq}
use Rattle.std.proofs.lemmas.List.{append-nil, take_more}
use Rattle.std.proofs.lemmas.List.Folds.{list_any-append}
use Rattle.std.proofs.lemmas.Slice.Eq.{bytes_eq-Decides}
use Rattle.orc_program.specs.Kept.{all_distinct}
use Rattle.orc_program.specs.declared.known.Facts.{Facts}
use Rattle.orc_program.specs.Facts.{is_free}
use Rattle.orc_program.proofs.Sizes.{both}
use Rattle.orc_program.proofs.Declared.{both_hold}
use Rattle.orc_image.specs.Spelling.{FunctionValue, IsFunction, IsImage, AreFunctions, names, is_among, bit, slots_bytes, facts_bytes, function_bytes, functions_bytes}
use Rattle.orc_image.specs.Fields.{Cursor}

pub list_any-map : {A B : Type 0} (f : A → B) (p : B → Bool) (xs : List A) → list_any p (map f xs) ≡ list_any (λ x. p (f x)) xs
list_any-map f p [] = refl
list_any-map f p (x ∷ xs) = ap (λ b. p (f x) || b) (list_any-map f p xs)

pub among_names : (word : List ℕ) (fs : List FunctionValue) → is_among (names fs) word ≡ list_any (λ f. bytes_eq word f.name) fs
among_names word fs = list_any-map (λ f. f.name) (bytes_eq word) fs

eq_swapped : (a b : List ℕ) → bytes_eq a b ≡ bytes_eq b a
eq_swapped a b = grind (arith, bytes_eq-Decides)

less_one : (n : ℕ) → suc n - 1 ≡ n
less_one n = omega arith

-- words that differ, and one more that is none of them
pub distinct_pushed : (ws : List (List ℕ)) (w : List ℕ) → all_distinct ws ≡ true → is_among ws w ≡ false → all_distinct (ws ++ w ∷ []) ≡ true
distinct_pushed [] w d n = refl
distinct_pushed (x ∷ ws) w d n =
    let h : is_among ws w ≡ false = grind arith in
    let e : bytes_eq x w ≡ false = eq_swapped x w ∙ (grind arith) in
    let t : all_distinct ws ≡ true = grind arith in
    let a : list_any (bytes_eq x) ws ≡ false = grind arith in
    rw (list_any-append (bytes_eq x) ws (w ∷ []), a, e, distinct_pushed ws w t h) refl

pub functions_pushed : (fs : List FunctionValue) (f : FunctionValue) → AreFunctions fs → IsFunction f → AreFunctions (fs ++ f ∷ [])
functions_pushed [] f a h = (h, tt)
functions_pushed (x ∷ fs) f a h = (a.0, functions_pushed fs f a.1 h)

pub names_pushed : (fs : List FunctionValue) (f : FunctionValue) → names (fs ++ f ∷ []) ≡ names fs ++ f.name ∷ []
names_pushed [] f = refl
names_pushed (x ∷ fs) f = ap (λ ws. x.name ∷ ws) (names_pushed fs f)

free_pushed : (fs : List FunctionValue) (f : FunctionValue) → list_all (λ g. is_free g.facts) fs ≡ true → is_free f.facts ≡ true → list_all (λ g. is_free g.facts) (fs ++ f ∷ []) ≡ true
free_pushed [] f a h = rw h refl
free_pushed (x ∷ fs) f a h =
    let two = both (is_free x.facts) (list_all (λ g. is_free g.facts) fs) a in
    both_hold (is_free x.facts) (list_all (λ g. is_free g.facts) (fs ++ f ∷ [])) two.0 (free_pushed fs f two.1 h)

pub image_pushed : (version : ℕ) (fs : List FunctionValue) (f : FunctionValue) → IsImage (record { version = version; functions = fs }) → IsFunction f → length fs < 64 → is_among (names fs) f.name ≡ false → (version ≡ 1 → is_free f.facts ≡ true)
    → IsImage (record { version = version; functions = fs ++ f ∷ [] })
image_pushed version fs f i h few new free = record {
  known = i.known;
  free = λ e. free_pushed fs f (i.free e) (free e);
  few = omega (arith, length-append fs (f ∷ []));
  each = functions_pushed fs f i.each h;
  distinct = rw names_pushed (distinct_pushed (names fs) f.name i.distinct new);
}

pub bytes_pushed : (version : ℕ) (fs : List FunctionValue) (f : FunctionValue) → functions_bytes version (fs ++ f ∷ []) ≡ functions_bytes version fs ++ function_bytes version f
bytes_pushed version [] f = append-nil (function_bytes version f)
bytes_pushed version (x ∷ fs) f = ap (λ t. function_bytes version x ++ t) (bytes_pushed version fs f) ∙ sym (append_assoc (function_bytes version x) (functions_bytes version fs) (function_bytes version f))

pub bytes_more : (version : ℕ) (fs : List FunctionValue) (i : ℕ) (d : FunctionValue) → i < length fs → functions_bytes version (take (i + 1) fs) ≡ functions_bytes version (take i fs) ++ function_bytes version (get_or fs i d)
bytes_more version fs i d lt = ap (functions_bytes version) (take_more fs i d lt) ∙ bytes_pushed version (take i fs) (get_or fs i d)

-- ---- four pieces that are appended one after the other

pub four_pushed : (out a b c d o1 o2 o3 o4 : List ℕ) → o1 ≡ out ++ a → o2 ≡ o1 ++ b → o3 ≡ o2 ++ c → o4 ≡ o3 ++ d → o4 ≡ out ++ (a ++ (b ++ (c ++ d)))
four_pushed out a b c d o1 o2 o3 o4 h1 h2 h3 h4 =
    h4 ∙ ap (λ t. t ++ d) (h3 ∙ ap (λ t. t ++ c) (h2 ∙ ap (λ t. t ++ b) h1))
    ∙ append_assoc ((out ++ a) ++ b) c d ∙ append_assoc (out ++ a) b (c ++ d) ∙ append_assoc out a (b ++ (c ++ d))

two_pushed : (out a b c o1 o2 : List ℕ) → o1 ≡ out ++ a → o2 ≡ o1 ++ b → c ≡ a ++ b → o2 ≡ out ++ c
two_pushed out a b c o1 o2 h1 h2 e = h2 ∙ ap (λ t. t ++ b) h1 ∙ append_assoc out a b ∙ ap (λ t. out ++ t) (sym e)

-- ---- slots of aligns

slots_none : (n : ℕ) (aligns : List ℕ) → 0 < n → length aligns < 1 → slots_bytes n aligns ≡ to_le_bytes w16 1 ++ slots_bytes (n - 1) []
slots_none zero aligns h l = absurd (omega (arith, h))
slots_none (suc n) [] h l = rw (less_one n) refl
slots_none (suc n) (a ∷ aligns) h l = absurd (omega (arith, l))

slots_some : (n : ℕ) (aligns : List ℕ) → 0 < n → 1 ≤ length aligns → slots_bytes n aligns ≡ to_le_bytes w16 (get_or aligns 0 0) ++ slots_bytes (n - 1) (drop 1 aligns)
slots_some zero aligns h l = absurd (omega (arith, h))
slots_some (suc n) [] h l = absurd (omega (arith, l))
slots_some (suc n) (a ∷ aligns) h l = rw (less_one n) refl

pub pushed_one : (n : ℕ) (aligns out o1 o2 : List ℕ) → 0 < n → length aligns < 1 → o1 ≡ out ++ to_le_bytes w16 1 → o2 ≡ o1 ++ slots_bytes (n - 1) [] → o2 ≡ out ++ slots_bytes n aligns
pushed_one n aligns out o1 o2 h l e k = two_pushed out (to_le_bytes w16 1) (slots_bytes (n - 1) []) (slots_bytes n aligns) o1 o2 e k (slots_none n aligns h l)

pub pushed_align : (n : ℕ) (aligns out o1 o2 : List ℕ) → 0 < n → 1 ≤ length aligns → o1 ≡ out ++ to_le_bytes w16 (get_or aligns 0 0) → o2 ≡ o1 ++ slots_bytes (n - 1) (drop 1 aligns) → o2 ≡ out ++ slots_bytes n aligns
pushed_align n aligns out o1 o2 h l e k = two_pushed out (to_le_bytes w16 (get_or aligns 0 0)) (slots_bytes (n - 1) (drop 1 aligns)) (slots_bytes n aligns) o1 o2 e k (slots_some n aligns h l)

-- ---- a function's fields that were read one after the other

bit_of : (b : ℕ) → b ≤ 1 → bit (b == 1) ≡ b
bit_of zero h = refl
bit_of (suc zero) h = refl
bit_of (suc (suc b)) h = absurd (omega (arith, h))

-- the function of these fields
abbrev pub function_with : List ℕ → ℕ → ℕ → ℕ → ℕ → ℕ → Facts → List ℕ → FunctionValue
function_with name flags dests sources params accs facts code = record { name = name; two_d = flags == 1; dests = dests; sources = sources; params = params; accs = accs; facts = facts; code = code }

pub record Fields (version : ℕ) (name : List ℕ) (flags dests sources params accs : ℕ) (facts : Facts) (code : List ℕ) (c0 c1 c2 c3 c4 c5 c6 c7 c8 : Cursor) : Type 0 where
  pub the_name : (c0.rest ≡ (length name ∷ name) ++ c1.rest) × (c1.at ≡ c0.at + 1 + length name)
  pub the_flags : (c1.rest ≡ flags ∷ c2.rest) × (c2.at ≡ c1.at + 1)
  pub the_dests : (c2.rest ≡ dests ∷ c3.rest) × (c3.at ≡ c2.at + 1)
  pub the_sources : (c3.rest ≡ sources ∷ c4.rest) × (c4.at ≡ c3.at + 1)
  pub the_params : (c4.rest ≡ params ∷ c5.rest) × (c5.at ≡ c4.at + 1)
  pub the_accs : (c5.rest ≡ accs ∷ c6.rest) × (c6.at ≡ c5.at + 1)
  pub the_facts : (c6.rest ≡ facts_bytes version dests facts ++ c7.rest) × (c7.at ≡ c6.at + length (facts_bytes version dests facts))
  pub the_code : (c7.rest ≡ (to_le_bytes w32 (length code) ++ code) ++ c8.rest) × (c8.at ≡ c7.at + 4 + length code)
  pub few : flags ≤ 1

module _ (version : ℕ) (name : List ℕ) (flags dests sources params accs : ℕ) (facts : Facts) (code : List ℕ) (c0 c1 c2 c3 c4 c5 c6 c7 c8 : Cursor) (h : Fields version name flags dests sources params accs facts code c0 c1 c2 c3 c4 c5 c6 c7 c8) where
  pub fields_bytes : c0.rest ≡ function_bytes version (function_with name flags dests sources params accs facts code) ++ c8.rest
  fields_bytes =
      let f = facts_bytes version dests facts in
      let k = to_le_bytes w32 (length code) ++ code in
      let five = λ (b : ℕ) (t : List ℕ). b ∷ dests ∷ sources ∷ params ∷ accs ∷ t in
      let body : c1.rest ≡ five flags (f ++ (k ++ c8.rest)) =
      h.the_flags.0 ∙ ap (λ t. flags ∷ t) (h.the_dests.0 ∙ ap (λ t. dests ∷ t) (h.the_sources.0 ∙ ap (λ t. sources ∷ t) (h.the_params.0 ∙ ap (λ t. params ∷ t) (h.the_accs.0 ∙ ap (λ t. accs ∷ t) (h.the_facts.0 ∙ ap (λ t. f ++ t) h.the_code.0))))) in
      let flag : five flags (f ++ (k ++ c8.rest)) ≡ five (bit (flags == 1)) (f ++ (k ++ c8.rest)) = ap (λ b. five b (f ++ (k ++ c8.rest))) (sym (bit_of flags h.few)) in
      let grouped : five (bit (flags == 1)) (f ++ (k ++ c8.rest)) ≡ five (bit (flags == 1)) (f ++ k) ++ c8.rest = ap (λ t. five (bit (flags == 1)) t) (sym (append_assoc f k c8.rest)) in
      h.the_name.0 ∙ ap (λ t. (length name ∷ name) ++ t) (body ∙ flag ∙ grouped) ∙ sym (append_assoc (length name ∷ name) (five (bit (flags == 1)) (f ++ k)) c8.rest)

  pub fields_size : c8.at ≡ c0.at + length (function_bytes version (function_with name flags dests sources params accs facts code))
  fields_size =
      let f = facts_bytes version dests facts in
      let k = to_le_bytes w32 (length code) ++ code in
      let tail = bit (flags == 1) ∷ dests ∷ sources ∷ params ∷ accs ∷ (f ++ k) in
      omega (arith, h.the_name.1, h.the_flags.1, h.the_dests.1, h.the_sources.1, h.the_params.1, h.the_accs.1, h.the_facts.1, h.the_code.1, length-append (length name ∷ name) tail, length-append f k)
