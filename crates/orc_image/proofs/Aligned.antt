-- Reading slots of aligns one after the other, behind earlier aligns.
use Rattle.std.proofs.Common.{◌≡◌, ℕ, zero, suc, ◌+◌, ◌-◌, ◌*◌, ◌<◌, ◌≤◌, Bool, true, false, ◌||◌, ltb, if◌then◌else◌, List, [], ◌∷◌, ◌++◌, length, take, drop, Ok, Err, refl, sym, ap, ap₂, ◌∙◌, subst, append_assoc, arith, inl, inr}
use Rattle.std.specs.Int.{w16, to_le_bytes}
use Rattle.std.specs.List.{list_all}
use Rattle.std.proofs.lemmas.Bool.{cases_lt, lt-ltb, le-ltb, eq-eqb, eqb-true}
use Rattle.std.proofs.lemmas.List.{append-nil, length-append, take_at, drop_at}
use Rattle.orc_program.specs.declared.known.CountFacts.{CountFacts}
use Rattle.orc_program.specs.declared.known.Facts.{Facts}
use Rattle.orc_program.specs.Facts.{is_count_facts, is_free_count, is_align_value, is_facts}
use Rattle.orc_program.proofs.Sizes.{both}
use Rattle.orc_program.proofs.Declared.{both_hold}
use Rattle.orc_image.specs.declared.error.ImageError.{ImageError}
use Rattle.orc_image.specs.Spelling.{count_bytes, slots_bytes, facts_bytes}
use Rattle.orc_image.specs.Fields.{Cursor, Field, ◌>>=◌, half_at, is_allowed_align, aligns_at}
use Rattle.orc_image.specs.Told.{with_aligns, HasAligns}

less_one : (n : ℕ) → suc n - 1 ≡ n
less_one n = omega arith

-- ---- nothing is left

pub none_left : (used : ℕ) (earlier : List ℕ) (c : Cursor) → with_aligns earlier (aligns_at 0 used c) ≡ Ok (earlier, c)
unfolding aligns_at
none_left used earlier c = ap (λ (xs : List ℕ). Ok (xs, c)) (append-nil earlier)

pub nothing_added : (used : ℕ) (c : Cursor) (earlier : List ℕ) → used ≤ 0 → HasAligns 0 used c c earlier earlier
nothing_added used c earlier h = record {
  added = [];
  behind = sym (append-nil earlier);
  rest = refl;
  at = omega arith;
  count = omega (arith, h);
  allowed = refl;
}

-- ---- one more

regroup : (used : Bool) (earlier : List ℕ) (a : ℕ) (read : Field (List ℕ)) → with_aligns earlier (read >>= λ x. Ok ((if used then a ∷ x.0 else x.0), x.1)) ≡ with_aligns (if used then earlier ++ a ∷ [] else earlier) read
regroup true earlier a (Ok x) = ap (λ (xs : List ℕ). Ok (xs, x.1)) (sym (append_assoc earlier (a ∷ []) x.0))
regroup false earlier a (Ok x) = refl
regroup true earlier a (Err e) = refl
regroup false earlier a (Err e) = refl

pub one_read : (slots used : ℕ) (earlier : List ℕ) (c after : Cursor) (a : ℕ) → 0 < slots → half_at (is_allowed_align (ltb 0 used)) c ≡ Ok (a, after)
    → with_aligns earlier (aligns_at slots used c) ≡ with_aligns (if ltb 0 used then earlier ++ a ∷ [] else earlier) (aligns_at (slots - 1) (used - 1) after)
unfolding aligns_at
one_read zero used earlier c after a h e = absurd (omega (arith, h))
one_read (suc n) used earlier c after a h e = rw (less_one n, e) (regroup (ltb 0 used) earlier a (aligns_at n (used - 1) after))

pub one_refused : (slots used : ℕ) (earlier : List ℕ) (c : Cursor) (refusal : ImageError) → 0 < slots → half_at (is_allowed_align (ltb 0 used)) c ≡ Err refusal → with_aligns earlier (aligns_at slots used c) ≡ Err refusal
unfolding aligns_at
one_refused zero used earlier c refusal h e = absurd (omega (arith, h))
one_refused (suc n) used earlier c refusal h e = rw e refl

none : (xs : List ℕ) → length xs ≡ 0 → xs ≡ []
none [] e = refl
none (x ∷ xs) e = absurd (omega (arith, e))

-- the slots' bytes are those of one slot and of the others
pub one_added : (slots used : ℕ) (before after end : Cursor) (earlier middle all : List ℕ) (a : ℕ) → 0 < slots → used ≤ slots → before.rest ≡ to_le_bytes w16 a ++ after.rest → after.at ≡ before.at + 2
    → is_allowed_align (ltb 0 used) a ≡ true → middle ≡ (if ltb 0 used then earlier ++ a ∷ [] else earlier) → HasAligns (slots - 1) (used - 1) after end middle all → HasAligns slots used before end earlier all
one_added zero used before after end earlier middle all a h few r p allowed m rest = absurd (omega (arith, h))
one_added (suc n) used before after end earlier middle all a h few r p allowed m more =
    elim (cases_lt 0 used) [
      | inl lt ↦
          let used_yes : ltb 0 used ≡ true = lt-ltb _ _ lt in
          let fine : is_align_value a ≡ true = subst (λ b. is_allowed_align b a ≡ true) used_yes allowed in
          let mid : middle ≡ earlier ++ a ∷ [] = subst (λ b. middle ≡ (if b then earlier ++ a ∷ [] else earlier)) used_yes m in
          record {
            added = a ∷ more.added;
            behind = more.behind ∙ ap (λ xs. xs ++ more.added) mid ∙ append_assoc earlier (a ∷ []) more.added;
            rest = r ∙ ap (λ t. to_le_bytes w16 a ++ t) (more.rest ∙ ap (λ k. slots_bytes k more.added ++ end.rest) (less_one n)) ∙ sym (append_assoc (to_le_bytes w16 a) (slots_bytes n more.added) end.rest);
            at = omega (arith, more.at, p);
            count = omega (arith, more.count, lt);
            allowed = both_hold (is_align_value a) (list_all is_align_value more.added) fine more.allowed;
          }
      | inr le ↦
          let used_no : ltb 0 used ≡ false = le-ltb _ _ le in
          let one : a ≡ 1 = eqb-true a 1 (subst (λ b. is_allowed_align b a ≡ true) used_no allowed) in
          let mid : middle ≡ earlier = subst (λ b. middle ≡ (if b then earlier ++ a ∷ [] else earlier)) used_no m in
          let empty : more.added ≡ [] = none more.added (omega (arith, more.count, le)) in
          record {
            added = [];
            behind = more.behind ∙ ap₂ (λ xs ys. xs ++ ys) mid empty;
            rest = r ∙ ap (λ x. to_le_bytes w16 x ++ after.rest) one ∙ ap (λ t. to_le_bytes w16 1 ++ t) (more.rest ∙ ap₂ (λ k xs. slots_bytes k xs ++ end.rest) (less_one n) empty) ∙ sym (append_assoc (to_le_bytes w16 1) (slots_bytes n []) end.rest);
            at = omega (arith, more.at, p);
            count = omega (arith, le);
            allowed = refl;
          }
    ]

-- ---- the slots of dests and of sources

with_none : (read : Field (List ℕ)) → with_aligns [] read ≡ read
with_none (Ok x) = refl
with_none (Err e) = refl

pub first_read : (read : Field (List ℕ)) (earlier xs : List ℕ) (c : Cursor) → earlier ≡ [] → with_aligns earlier read ≡ Ok (xs, c) → read ≡ Ok (xs, c)
first_read read earlier xs c e h = sym (with_none read) ∙ ap (λ ys. with_aligns ys read) (sym e) ∙ h

pub not_read : (read : Field (List ℕ)) (earlier : List ℕ) (refusal : ImageError) → with_aligns earlier read ≡ Err refusal → read ≡ Err refusal
not_read (Ok x) earlier refusal h = absurd cc
not_read (Err e) earlier refusal h = h

abbrev facts_with : CountFacts → CountFacts → List ℕ → Facts
facts_with n m xs = record { n = n; m = m; aligns = record { items = xs } }

abbrev gathered : CountFacts → CountFacts → List ℕ → List ℕ × Cursor → Field Facts
gathered n m xs x = Ok (facts_with n m (xs ++ x.0), x.1)

pub second_read : (read : Field (List ℕ)) (n m : CountFacts) (xs ys : List ℕ) (c : Cursor) → with_aligns xs read ≡ Ok (ys, c) → (read >>= gathered n m xs) ≡ Ok (facts_with n m ys, c)
second_read (Ok x) n m xs ys c h =
    let parts = ok_parts h in
    ap₂ (λ (zs : List ℕ) (d : Cursor). gave zs d) parts.0 parts.1
  where
    ok_parts : {a b : List ℕ} {c d : Cursor} → ◌≡◌ {A = Field (List ℕ)} (Ok (a, c)) (Ok (b, d)) → (a ≡ b) × (c ≡ d)
    ok_parts {a = a} {b = b} {c = c} {d = d} h = let pair : ◌≡◌ {A = List ℕ × Cursor} (a, c) (b, d) = cc in (ap (λ (p : List ℕ × Cursor). p.0) pair, ap (λ (p : List ℕ × Cursor). p.1) pair)

    gave : List ℕ → Cursor → Field Facts
    gave zs d = Ok (facts_with n m zs, d)
second_read (Err e) n m xs ys c h = absurd (err_ok h)
  where
    err_ok : {x : List ℕ × Cursor} → ◌≡◌ {A = Field (List ℕ)} (Err e) (Ok x) → ⊥
    err_ok h = cc

slots_length : (n : ℕ) (aligns : List ℕ) → length (slots_bytes n aligns) ≡ 2 * n
slots_length zero aligns = refl
slots_length (suc n) [] = omega (arith, slots_length n [])
slots_length (suc n) (a ∷ aligns) = omega (arith, slots_length n aligns)

-- what was read of a function's facts: of n, of m, and the aligns of dests and of sources
pub record Stated (two_d : Bool) (dests sources : ℕ) (n m : CountFacts) (xs ys : List ℕ) (before at_m at_first at_second after : Cursor) : Type 0 where
  pub n_bytes : before.rest ≡ count_bytes n ++ at_m.rest
  pub n_at : at_m.at ≡ before.at + 16
  pub m_bytes : at_m.rest ≡ count_bytes m ++ at_first.rest
  pub m_at : at_first.at ≡ at_m.at + 16
  pub first : HasAligns 4 dests at_first at_second [] xs
  pub second : HasAligns 8 sources at_second after xs ys

module _ (two_d : Bool) (dests sources : ℕ) (n m : CountFacts) (xs ys : List ℕ) (before at_m at_first at_second after : Cursor) (h : Stated two_d dests sources n m xs ys before at_m at_first at_second after) where
  all_are : ys ≡ h.first.added ++ h.second.added
  all_are = h.second.behind ∙ ap (λ zs. zs ++ h.second.added) h.first.behind

  pub stated_bytes : before.rest ≡ facts_bytes 2 dests (facts_with n m ys) ++ after.rest
  stated_bytes =
      let front : take dests ys ≡ h.first.added = ap (take dests) all_are ∙ take_at h.first.added h.second.added dests h.first.count in
      let back : drop dests ys ≡ h.second.added = ap (drop dests) all_are ∙ drop_at h.first.added h.second.added dests h.first.count in
      let a = count_bytes n in
      let b = count_bytes m in
      let c = slots_bytes 4 (take dests ys) in
      let d = slots_bytes 8 (drop dests ys) in
      let slots : at_first.rest ≡ c ++ (d ++ after.rest) =
      h.first.rest ∙ ap (λ t. slots_bytes 4 h.first.added ++ t) h.second.rest ∙ ap₂ (λ x y. slots_bytes 4 x ++ (slots_bytes 8 y ++ after.rest)) (sym front) (sym back) in
      h.n_bytes ∙ ap (λ t. a ++ t) (h.m_bytes ∙ ap (λ t. b ++ t) slots) ∙ sym (regrouped a b c d after.rest)
    where
      regrouped : (a b c d e : List ℕ) → (a ++ (b ++ (c ++ d))) ++ e ≡ a ++ (b ++ (c ++ (d ++ e)))
      regrouped a b c d e = simp append_assoc

  pub stated_size : after.at ≡ before.at + length (facts_bytes 2 dests (facts_with n m ys))
  stated_size =
      let c = slots_bytes 4 (take dests ys) in
      let d = slots_bytes 8 (drop dests ys) in
      omega (arith, h.n_at, h.m_at, h.first.at, h.second.at, length-append c d, slots_length 4 (take dests ys), slots_length 8 (drop dests ys))

  pub stated_kept : is_count_facts n ≡ true → is_count_facts m ≡ true → (two_d ≡ false → is_free_count m ≡ true) → is_facts two_d (dests + sources) (facts_with n m ys) ≡ true
  stated_kept p q free =
      let count : length ys ≡ dests + sources = omega (arith, ap length all_are, length-append h.first.added h.second.added, h.first.count, h.second.count) in
      let all : list_all is_align_value ys ≡ true = ap (list_all is_align_value) all_are ∙ all_joined h.first.added h.second.added h.first.allowed h.second.allowed in
      rw (p, q, rows two_d free, eq-eqb _ _ count, all) refl
    where
      rows : (b : Bool) → (b ≡ false → is_free_count m ≡ true) → b || is_free_count m ≡ true
      rows true g = refl
      rows false g = g refl

      all_joined : (us vs : List ℕ) → list_all is_align_value us ≡ true → list_all is_align_value vs ≡ true → list_all is_align_value (us ++ vs) ≡ true
      all_joined [] vs k l = l
      all_joined (x ∷ us) vs k l = let two = both (is_align_value x) (list_all is_align_value us) k in both_hold (is_align_value x) (list_all is_align_value (us ++ vs)) two.0 (all_joined us vs two.1 l)
