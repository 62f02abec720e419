-- A job that was read keeps its limits.
use Rattle.std.proofs.Common.{◌≡◌, ℕ, ◌^◌, ◌*◌, ◌≤◌, ◌&&◌, Bool, true, false, nat_lt, if◌then◌else◌, List, [], ◌∷◌, Option, Some, None, Result, Ok, Err, inl, inr, refl, sym, subst, codes, arith}
use Rattle.std.specs.List.{list_all}
use Rattle.std.proofs.lemmas.Bool.{and_parts}
use Rattle.std.proofs.lemmas.Bool.Decides.{nat_tests}
use Rattle.serde_json.specs.Data.{Data, Items, no_items, item}
use Rattle.serde_json.specs.Find.{get, as_array}
use Rattle.orc_bits.specs.declared.parts.Part.{Part}
use Rattle.orc_bits.specs.Parts.{span, layout, Overlaps}
use Rattle.orc_emul.specs.Store.{is_low, AreLow}
use Rattle.orc_job.specs.declared.error.Field.{Field}
use Rattle.orc_job.specs.declared.error.Field.TheVariants as field
use Rattle.orc_job.specs.declared.error.JobError.{JobError}
use Rattle.orc_job.specs.declared.error.JobError.TheVariants as refusal
use Rattle.orc_job.specs.declared.job.Job.{Job}
use Rattle.orc_job.specs.Forms as forms
use Rattle.orc_job.specs.Forms.{whole, below, wrapped, name_in, place_in, few_in, bytes_in, part_in, is_within, if_within, segment_in, each, list_in}
use Rattle.orc_job.specs.Fields.{◌>>=◌, name_of, formed, stated, field_at, job, fields_of}
use Rattle.orc_job.specs.Limits.{byte_count, within_limits, job_of}
use Rattle.orc_job.specs.Reading.{IsAnswer, IsReading}
use Rattle.orc_job.specs.Kept.{IsJob}

-- ---- the segments

-- a fact of the value, where there is one
abbrev IfThere : {A : Type 0} → (A → Type 0) → Option A → Type 0
IfThere {A} P o = (x : A) → o ≡ Some x → P x

there : {A B : Type 0} (P : B → Type 0) (o : Option A) (f : A → Option B) → ((x : A) → o ≡ Some x → IfThere P (f x)) → IfThere P (forms.◌>>=◌ o f)
there P None f h y e = absurd cc
there P (Some x) f h y e = h x refl y e

abbrev Within : List Part → Type 0
Within ps = list_all is_within ps ≡ true

in_range : (at : ℕ) (bytes : List ℕ) → IfThere (λ p. is_within p ≡ true) (if_within at bytes)
in_range at bytes = go (is_within q) refl
  where
    q : Part
    q = record { at = at; bytes = bytes }

    go : (t : Bool) → is_within q ≡ t → IfThere (λ p. is_within p ≡ true) (if t then Some q else None)
    go true e p s = let same : q ≡ p = cc in subst (λ x. is_within x ≡ true) same e
    go false e p s = absurd cc

segment_within : (d : Data) → IfThere (λ p. is_within p ≡ true) (segment_in d)
unfolding segment_in
segment_within d =
    there _ (part_in (codes "at") whole d) _ (λ at e. there _ (part_in (codes "bytes") bytes_in d) _ (λ bytes f. in_range at bytes))

all_within : (ds : Items) → IfThere Within (each segment_in ds)
all_within no_items = λ ps e. let same : [] ≡ ps = cc in subst Within same refl
all_within (item d ds) = there Within (segment_in d) _ (λ p e. there Within (each segment_in ds) _ (λ ps f. joined p ps (segment_within d p e) (all_within ds ps f)))
  where
    joined : (p : Part) (ps : List Part) → is_within p ≡ true → Within ps → IfThere Within (Some (p ∷ ps))
    joined p ps a b qs e = let same : p ∷ ps ≡ qs = cc in let here : is_within p && list_all is_within ps ≡ true = rw (a, b) refl in subst Within same here

memory_within : (d : Data) → IfThere Within (list_in segment_in d)
memory_within d = there Within (as_array d) _ (λ ds e. all_within ds)

-- ---- the fields

abbrev IfGiven : {A : Type 0} → (A → Type 0) → Result A JobError → Type 0
IfGiven {A} P r = (x : A) → r ≡ Ok x → P x

given : {A B : Type 0} (P : B → Type 0) (r : Result A JobError) (f : A → Result B JobError) → ((x : A) → r ≡ Ok x → IfGiven P (f x)) → IfGiven P (r >>= f)
given P (Err e) f h y q = absurd cc
given P (Ok x) f h y q = h x refl y q

field_given : {A : Type 0} (P : A → Type 0) (f : Field) (form : Data → Option A) (d : Data) → ((e : Data) → IfThere P (form e)) → IfGiven P (field_at f form d)
field_given {A} P f form d h = go (get (name_of f) d)
  where
    in_form : (o : Option A) → IfThere P o → IfGiven P (formed f o)
    in_form None k = λ x e. absurd cc
    in_form (Some y) k = λ x e. k x cc

    go : (o : Option Data) → IfGiven P (stated f form o)
    go None = λ x e. absurd cc
    go (Some e) = in_form (form e) (h e)

fields_within : (d : Data) → IfGiven (λ j. Within j.memory) (fields_of d)
unfolding fields_of
fields_within d =
    let P : Job → Type 0 = λ j. Within j.memory in
    given P (field_at field.Function name_in d) _ (λ function e0.
    given P (field_at field.N (below (2 ^ 31)) d) _ (λ n e1.
    given P (field_at field.M (below (2 ^ 31)) d) _ (λ m e2.
    given P (field_at field.Arrays (few_in 12 place_in) d) _ (λ arrays e3.
    given P (field_at field.Params (few_in 8 wrapped) d) _ (λ params e4.
    given P (field_at field.Memory (list_in segment_in) d) _ (λ memory e5.
    given P (field_at field.Budget whole d) _ (λ budget e6.
    as_read (job function n m arrays params memory budget) (field_given Within field.Memory (list_in segment_in) d memory_within memory e5))))))))
  where
    as_read : (k : Job) → Within k.memory → IfGiven (λ j. Within j.memory) (Ok k)
    as_read k w j e = let same : k ≡ j = cc in subst (λ x. Within x.memory) same w

-- ---- the limits

passed : (t : Bool) (e : JobError) (rest : Result Job JobError) (j : Job) → (if t then Err e else rest) ≡ Ok j → (t ≡ false) × (rest ≡ Ok j)
passed true e rest j h = absurd cc
passed false e rest j h = (refl, h)

at_most : (most n : ℕ) → nat_lt most n ≡ false → n ≤ most
at_most most n e = grind (arith, nat_tests, e)

kept_limits : (k j : Job) → Within k.memory → within_limits k ≡ Ok j → (Overlaps (layout j.memory) → ⊥) → IsJob j
kept_limits k j w e apart =
    let a = passed (nat_lt 1048576 k.call.n) (refusal.TooLarge field.N) _ j e in
    let b = passed (nat_lt 1048576 k.call.m) (refusal.TooLarge field.M) _ j a.1 in
    let c = passed (nat_lt 1048576 (k.call.n * k.call.m)) (refusal.TooLarge field.M) _ j b.1 in
    let d = passed (nat_lt 16777216 (byte_count k.memory)) (refusal.TooLarge field.Memory) _ j c.1 in
    let f = passed (nat_lt 100000000 k.budget) (refusal.TooLarge field.Budget) (Ok k) j d.1 in
    let same : k ≡ j = cc (f.1) in
    made (subst (λ x. Within x.memory) same w) apart
    (at_most _ _ (subst (λ x. nat_lt 1048576 x.call.n ≡ false) same a.0))
    (at_most _ _ (subst (λ x. nat_lt 1048576 x.call.m ≡ false) same b.0))
    (at_most _ _ (subst (λ x. nat_lt 1048576 (x.call.n * x.call.m) ≡ false) same c.0))
    (at_most _ _ (subst (λ x. nat_lt 16777216 (byte_count x.memory) ≡ false) same d.0))
    (at_most _ _ (subst (λ x. nat_lt 100000000 x.budget ≡ false) same f.0))
  where
    made : Within j.memory → (Overlaps (layout j.memory) → ⊥) → j.call.n ≤ 1048576 → j.call.m ≤ 1048576 → j.call.n * j.call.m ≤ 1048576 → byte_count j.memory ≤ 16777216 → j.budget ≤ 100000000 → IsJob j
    made w a n m c b u = record { within = w; apart = a; n = n; m = m; cells = c; bytes = b; budget = u }

pub kept : (bytes : List ℕ) (j : Job) → IsReading bytes (Ok j) → IsJob j
unfolding IsReading
kept bytes j (inl p) = absurd (let e : Ok j ≡ Err refusal.NotJson = p.1 in cc)
kept bytes j (inr (d, v, a)) = go (job_of d) refl a
  where
    read : (k : Job) → job_of d ≡ Ok k → j ≡ k → (Overlaps (layout k.memory) → ⊥) → IsJob j
    read k e same apart = subst IsJob (sym same) (given (λ x. (Overlaps (layout x.memory) → ⊥) → IsJob x) (fields_of d) within_limits (λ i f x h. kept_limits i x (fields_within d i f) h) k e apart)

    go : (o : Result Job JobError) → job_of d ≡ o → IsAnswer o (Ok j) → IsJob j
    go (Err x) e q = absurd cc
    go (Ok k) e (inl q) = absurd (let x : Ok j ≡ Err refusal.Overlap = q.1 in cc)
    go (Ok k) e (inr q) = read k e (let x : Ok j ≡ Ok k = q.1 in cc) q.0

-- ---- a store of it

low_part : (p : Part) → is_within p ≡ true → is_low (span p) ≡ true
low_part p h = grind (arith, nat_tests, h)

-- no segment ends above 2 ^ 64, as a store asks it
pub low : (ps : List Part) → list_all is_within ps ≡ true → AreLow (layout ps)
low [] h = refl
low (p ∷ ps) h = let parts = and_parts (is_within p) (list_all is_within ps) h in rw (low_part p parts.0, low ps parts.1) refl
