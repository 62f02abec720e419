-- What the bytes of a text say, from what their JSON value says.
use Rattle.std.proofs.Common.{◌≡◌, ℕ, ◌^◌, ◌*◌, Bool, true, false, nat_lt, if◌then◌else◌, List, Option, Some, None, Result, Ok, Err, inl, inr, sym, ◌∙◌, subst}
use Rattle.serde_json.specs.Data.{Data}
use Rattle.serde_json.specs.Find.{get}
use Rattle.orc_job.specs.declared.error.Field.{Field}
use Rattle.orc_job.specs.declared.error.Field.TheVariants as field
use Rattle.orc_job.specs.declared.error.JobError.{JobError}
use Rattle.orc_job.specs.declared.error.JobError.TheVariants as refusal
use Rattle.orc_job.specs.declared.job.Job.{Job}
use Rattle.orc_job.specs.Forms.{whole, below, wrapped, name_in, place_in, segment_in, list_in, few_in}
use Rattle.orc_job.specs.Fields.{◌>>=◌, name_of, formed, stated, field_at, fields_of}
use Rattle.orc_job.specs.Limits.{byte_count, within_limits, job_of}
use Rattle.orc_job.specs.Reading.{HasValue, HasNoValue, IsAnswer, IsReading}

-- a refusal that a JSON value can have
abbrev OfValue : {A : Type 0} → Result A JobError → Type 0
OfValue (Ok x) = Unit {0}
OfValue (Err refusal.NotJson) = ⊥
OfValue (Err (refusal.Missing f)) = Unit {0}
OfValue (Err (refusal.BadField f)) = Unit {0}
OfValue (Err (refusal.TooLarge f)) = Unit {0}
OfValue (Err refusal.Overlap) = ⊥
OfValue (Err refusal.Memory) = ⊥

and_then : {A B : Type 0} (r : Result A JobError) (f : A → Result B JobError) → OfValue r → ((x : A) → OfValue (f x)) → OfValue (r >>= f)
and_then (Ok x) f p q = q x
and_then (Err refusal.NotJson) f p q = p
and_then (Err (refusal.Missing g)) f p q = tt
and_then (Err (refusal.BadField g)) f p q = tt
and_then (Err (refusal.TooLarge g)) f p q = tt
and_then (Err refusal.Overlap) f p q = p
and_then (Err refusal.Memory) f p q = p

at_field : {A : Type 0} (f : Field) (form : Data → Option A) (d : Data) → OfValue (field_at f form d)
at_field {A} f form d = go (get (name_of f) d)
  where
    in_form : (o : Option A) → OfValue (formed f o)
    in_form None = tt
    in_form (Some x) = tt

    go : (o : Option Data) → OfValue (stated f form o)
    go None = tt
    go (Some d) = in_form (form d)

at_fields : (d : Data) → OfValue (fields_of d)
unfolding fields_of
at_fields d =
    and_then _ _ (at_field field.Function name_in d) (λ function.
    and_then _ _ (at_field field.N (below (2 ^ 31)) d) (λ n.
    and_then _ _ (at_field field.M (below (2 ^ 31)) d) (λ m.
    and_then _ _ (at_field field.Arrays (few_in 12 place_in) d) (λ arrays.
    and_then _ _ (at_field field.Params (few_in 8 wrapped) d) (λ params.
    and_then _ _ (at_field field.Memory (list_in segment_in) d) (λ memory.
    and_then _ _ (at_field field.Budget whole d) (λ budget. tt)))))))

-- one limit, and those behind it
at_limit : (f : Field) (t : Bool) (rest : Result Job JobError) → OfValue rest → OfValue (if t then Err (refusal.TooLarge f) else rest)
at_limit f true rest p = tt
at_limit f false rest p = p

at_limits : (j : Job) → OfValue (within_limits j)
at_limits j =
    at_limit field.N (nat_lt 1048576 j.call.n) _ (
    at_limit field.M (nat_lt 1048576 j.call.m) _ (
    at_limit field.M (nat_lt 1048576 (j.call.n * j.call.m)) _ (
    at_limit field.Memory (nat_lt 16777216 (byte_count j.memory)) _ (
    at_limit field.Budget (nat_lt 100000000 j.budget) (Ok j) tt))))

of_value : (d : Data) → OfValue (job_of d)
of_value d = and_then (fields_of d) within_limits (at_fields d) at_limits

-- ---- the answer to bytes

-- a value has one answer
one_answer : (a r s : Result Job JobError) → IsAnswer a r → IsAnswer a s → r ≡ s
one_answer (Err e) r s p q = p ∙ sym q
one_answer (Ok j) r s (inl p) (inl q) = p.1 ∙ sym q.1
one_answer (Ok j) r s (inl p) (inr q) = absurd (q.0 p.0)
one_answer (Ok j) r s (inr p) (inl q) = absurd (p.0 q.0)
one_answer (Ok j) r s (inr p) (inr q) = p.1 ∙ sym q.1

no_value : (bytes : List ℕ) (d : Data) → HasNoValue bytes → HasValue bytes d → ⊥
no_value bytes d none v = let e : None ≡ Some d = sym (none v.0) ∙ v.1 in absurd cc

one_value : (bytes : List ℕ) (d e : Data) → HasValue bytes d → HasValue bytes e → d ≡ e
one_value bytes d e v w = let h : Some d ≡ Some e = sym v.1 ∙ w.1 in cc

pub one_reading : (bytes : List ℕ) (r s : Result Job JobError) → IsReading bytes r → IsReading bytes s → r ≡ s
unfolding IsReading
one_reading bytes r s (inl p) (inl q) = p.1 ∙ sym q.1
one_reading bytes r s (inl p) (inr (d, v, a)) = absurd (no_value bytes d p.0 v)
one_reading bytes r s (inr (d, v, a)) (inl q) = absurd (no_value bytes d q.0 v)
one_reading bytes r s (inr (d, v, a)) (inr (e, w, b)) = one_answer (job_of d) r s a (subst (λ x. IsAnswer (job_of x) s) (sym (one_value bytes d e v w)) b)

-- a value is never refused as no JSON
pub never_not_json : (d : Data) → Err refusal.NotJson ≡ job_of d → ⊥
never_not_json d q = subst (OfValue {A = Job}) (sym q) (of_value d)
