-- The sizes of elements that bytes say: one answer, and as many as arrays.
use Rattle.std.proofs.Common.{◌≡◌, ℕ, suc, ◌*◌, ◌^◌, nat_le, Bool, true, false, List, [], ◌∷◌, length, Option, Some, None, Result, Ok, Err, if◌then◌else◌, inl, inr, refl, sym, ap, ◌∙◌, subst, nat_lt}
use Rattle.std.specs.Str.{is_utf8}
use Rattle.serde_json.specs.Data.{Data, Items, no_items, item}
use Rattle.serde_json.specs.Events.{items_len}
use Rattle.serde_json.specs.Find.{get, as_array}
use Rattle.serde_json.specs.Read.{read}
use Rattle.orc_bits.specs.Parts.{layout}
use Rattle.orc_program.specs.declared.call.Place.{Place}
use Rattle.orc_job.specs.declared.error.Field.{Field}
use Rattle.orc_job.specs.declared.error.Field.TheVariants as field
use Rattle.orc_job.specs.declared.error.JobError.{JobError}
use Rattle.orc_job.specs.declared.error.JobError.TheVariants as error
use Rattle.orc_job.specs.declared.job.Job.{Job}
use Rattle.orc_job.specs.Fields.{◌>>=◌, name_of, field_at, stated, formed, fields_of, job}
use Rattle.orc_job.specs.Forms as forms
use Rattle.orc_job.specs.Limits.{job_of, byte_count, within_limits}
use Rattle.orc_job.specs.Reading.{IsReading, IsSizing}
use Rattle.orc_job.specs.Told.{UnlessMemory}
use Rattle.orcc_top.specs.Jobs.{apart, overlaps, job_of_value, job_read}
use Rattle.orcc_top.specs.Sharing.{sizes_of_value, sizes_read}
use Rattle.orcc_top.proofs.Reading.{read_alike}

-- ---- one answer

pub sizes_alike : (bytes : List ℕ) (r : Result (List ℕ) JobError) → IsSizing bytes r → r ≡ sizes_read bytes
unfolding sizes_read
sizes_alike bytes r (inl (e, h, is)) =
    let j : job_read bytes ≡ Err e = sym (read_alike bytes (Err e) h) in
    is ∙ sym (ap (λ x. x >>= (λ k. sizes_of_value (read bytes))) j)
sizes_alike bytes r (inr (k, h, (d, v, is))) =
    let j : job_read bytes ≡ Ok k = sym (read_alike bytes (Ok k) h) in
    is ∙ sym (ap sizes_of_value v.1) ∙ sym (ap (λ x. x >>= (λ k. sizes_of_value (read bytes))) j)

-- what follows where memory did not run out
pub unless_maps : {A P Q : Type 0} (r : Result A JobError) → (P → Q) → UnlessMemory r P → UnlessMemory r Q
unless_maps (Ok x) f p = f p
unless_maps (Err error.NotJson) f p = f p
unless_maps (Err (error.Missing x)) f p = f p
unless_maps (Err (error.BadField x)) f p = f p
unless_maps (Err (error.TooLarge x)) f p = f p
unless_maps (Err error.Overlap) f p = f p
unless_maps (Err error.Memory) f p = p

-- ---- what has an answer

-- both steps of two have one
bound : {A B : Type 0} (r : Result A JobError) (f : A → Result B JobError) (y : B) → (r >>= f) ≡ Ok y → (x : A) × (r ≡ Ok x) × (f x ≡ Ok y)
bound (Ok x) f y e = (x, refl, e)
bound (Err e) f y q = absurd cc

opt_bound : {A B : Type 0} (o : Option A) (f : A → Option B) (y : B) → (forms.◌>>=◌ o f) ≡ Some y → (x : A) × (o ≡ Some x) × (f x ≡ Some y)
opt_bound (Some x) f y e = (x, refl, e)
opt_bound None f y q = absurd cc

-- a field that has a value is there, and has the form
field_there : {A : Type 0} (f : Field) (form : Data → Option A) (d : Data) (x : A) → field_at f form d ≡ Ok x → (v : Data) × (get (name_of f) d ≡ Some v) × (form v ≡ Some x)
field_there {A} f form d x e = go (get (name_of f) d) refl e
  where
    inner : (v : Data) (o : Option A) → form v ≡ o → formed f o ≡ Ok x → form v ≡ Some x
    inner v (Some y) q h = q ∙ cc
    inner v None q h = absurd cc

    go : (o : Option Data) → get (name_of f) d ≡ o → stated f form o ≡ Ok x → (v : Data) × (get (name_of f) d ≡ Some v) × (form v ≡ Some x)
    go (Some v) q h = (v, q, inner v (form v) refl h)
    go None q h = absurd cc

abbrev count_in : {A : Type 0} → Option (List A) → ℕ
count_in None = 0
count_in (Some xs) = length xs

each_count : {A B : Type 0} (f : Data → Option A) (g : Data → Option B) (ds : Items) (xs : List A) (ys : List B) → forms.each f ds ≡ Some xs → forms.each g ds ≡ Some ys → length xs ≡ length ys
each_count f g no_items xs ys p q = cc
each_count f g (item d ds) xs ys p q =
    let a = opt_bound (f d) _ xs p in
    let b = opt_bound (forms.each f ds) _ xs a.2 in
    let c = opt_bound (g d) _ ys q in
    let e = opt_bound (forms.each g ds) _ ys c.2 in
    let rest = each_count f g ds b.0 e.0 b.1 e.1 in
    let first : suc (length b.0) ≡ length xs = ap count_in b.2 in
    let second : suc (length e.0) ≡ length ys = ap count_in e.2 in
    sym first ∙ ap suc rest ∙ second

few_count : {A B : Type 0} (f : Data → Option A) (g : Data → Option B) (d : Data) (xs : List A) (ys : List B) → forms.few_in 12 f d ≡ Some xs → forms.few_in 12 g d ≡ Some ys → length xs ≡ length ys
few_count {A} {B} f g d xs ys p q =
    let a = opt_bound (as_array d) (forms.each_of_few 12 f) xs p in
    let b = opt_bound (as_array d) (forms.each_of_few 12 g) ys q in
    let same : a.0 ≡ b.0 = (let s = a.1 in let t = b.1 in cc) in
    each_count f g a.0 xs ys (few f a.0 xs a.2) (few g a.0 ys (subst (λ (ds : Items). forms.each_of_few 12 g ds ≡ Some ys) (sym same) b.2))
  where
    few : {C : Type 0} (h : Data → Option C) (ds : Items) (zs : List C) → forms.each_of_few 12 h ds ≡ Some zs → forms.each h ds ≡ Some zs
    few {C} h ds zs e = go (nat_le (items_len ds) 12) e
      where
        go : (b : Bool) → (if b then forms.each h ds else None) ≡ Some zs → forms.each h ds ≡ Some zs
        go true q = q
        go false q = absurd cc

-- ---- as many sizes as arrays

not_refused : (b : Bool) (x : JobError) (r : Result Job JobError) (k : Job) → (if b then Err x else r) ≡ Ok k → r ≡ Ok k
not_refused true x r k q = absurd cc
not_refused false x r k q = q

abbrev okay : Job → Result Job JobError
okay j = Ok j

abbrev job_or : Job → Result Job JobError → Job
job_or d (Ok j) = j
job_or d (Err x) = d

one_job : (j k : Job) → okay j ≡ okay k → j ≡ k
one_job j k q = ap (job_or j) q

limits_keep : (j k : Job) → within_limits j ≡ Ok k → j ≡ k
limits_keep j k e =
    let r5 : Result Job JobError = if nat_lt 100000000 j.budget then Err (error.TooLarge field.Budget) else Ok j in
    let r4 : Result Job JobError = if nat_lt 16777216 (byte_count j.memory) then Err (error.TooLarge field.Memory) else r5 in
    let r3 : Result Job JobError = if nat_lt 1048576 (j.call.n * j.call.m) then Err (error.TooLarge field.M) else r4 in
    let r2 : Result Job JobError = if nat_lt 1048576 j.call.m then Err (error.TooLarge field.M) else r3 in
    one_job j k (not_refused (nat_lt 100000000 j.budget) (error.TooLarge field.Budget) (Ok j) k
    (not_refused (nat_lt 16777216 (byte_count j.memory)) (error.TooLarge field.Memory) r5 k
    (not_refused (nat_lt 1048576 (j.call.n * j.call.m)) (error.TooLarge field.M) r4 k
    (not_refused (nat_lt 1048576 j.call.m) (error.TooLarge field.M) r3 k
    (not_refused (nat_lt 1048576 j.call.n) (error.TooLarge field.N) r2 k e)))))

apart_keeps : (j k : Job) → apart j ≡ Ok k → j ≡ k
apart_keeps j k e = go (overlaps (layout j.memory)) e
  where
    go : (b : Bool) → (if b then Err error.Overlap else Ok j) ≡ Ok k → j ≡ k
    go true q = absurd cc
    go false q = cc

abbrev okay_places : Job → Result (List Place) JobError
okay_places j = Ok j.call.arrays.items

-- the arrays of a job are those of its field
arrays_of : (d : Data) (j : Job) → fields_of d ≡ Ok j → field_at field.Arrays (forms.few_in 12 forms.place_in) d ≡ Ok j.call.arrays.items
unfolding fields_of
arrays_of d j e =
    let a = bound (field_at field.Function forms.name_in d) _ j e in
    let b = bound (field_at field.N (forms.below (2 ^ 31)) d) _ j a.2 in
    let c = bound (field_at field.M (forms.below (2 ^ 31)) d) _ j b.2 in
    let f = bound (field_at field.Arrays (forms.few_in 12 forms.place_in) d) _ j c.2 in
    let g = bound (field_at field.Params (forms.few_in 8 forms.wrapped) d) _ j f.2 in
    let h = bound (field_at field.Memory (forms.list_in forms.segment_in) d) _ j g.2 in
    let k = bound (field_at field.Budget forms.whole d) _ j h.2 in
    f.1 ∙ ap okay_places (one_job (job a.0 b.0 c.0 f.0 g.0 h.0 k.0) j k.2)

job_there : (o : Option Data) (j : Job) → job_of_value o ≡ Ok j → (d : Data) × (o ≡ Some d) × (fields_of d ≡ Ok j)
job_there None j e = absurd cc
job_there (Some d) j e =
    let a = bound (job_of d) apart j e in
    let b = bound (fields_of d) within_limits a.0 a.1 in
    (d, refl, b.1 ∙ ap (λ x. Ok x) (limits_keep b.0 a.0 b.2 ∙ apart_keeps a.0 j a.2))

pub as_many : (bytes : List ℕ) (j : Job) (sizes : List ℕ) → job_read bytes ≡ Ok j → sizes_read bytes ≡ Ok sizes → length sizes ≡ length j.call.arrays.items
unfolding job_read sizes_read
as_many bytes j sizes says sized = go (is_utf8 bytes) says
  where
    go : (b : Bool) → (if b then job_of_value (read bytes) else Err error.NotJson) ≡ Ok j → length sizes ≡ length j.call.arrays.items
    go false q = absurd cc
    go true q =
        let d = job_there (read bytes) j q in
        let s = bound (job_read bytes) (λ k. sizes_of_value (read bytes)) sizes sized in
        let value : field_at field.Arrays (forms.few_in 12 forms.size_in) d.0 ≡ Ok sizes = sym (ap sizes_of_value d.1) ∙ s.2 in
        let places = field_there field.Arrays (forms.few_in 12 forms.place_in) d.0 j.call.arrays.items (arrays_of d.0 j d.2) in
        let counts = field_there field.Arrays (forms.few_in 12 forms.size_in) d.0 sizes value in
        let same : places.0 ≡ counts.0 = (let a = places.1 in let b = counts.1 in cc) in
        few_count forms.size_in forms.place_in counts.0 sizes j.call.arrays.items counts.2 (subst (λ (v : Data). forms.few_in 12 forms.place_in v ≡ Some j.call.arrays.items) same places.2)
