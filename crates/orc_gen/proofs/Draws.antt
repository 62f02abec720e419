-- Draws one after another, and lists one behind another.
use Rattle.std.proofs.Common.{◌≡◌, ℕ, zero, suc, ◌+◌, ◌*◌, ◌/◌, ◌^◌, List, [], ◌∷◌, ◌++◌, refl, sym, ap, ◌∙◌, append_assoc, arith}
use Rattle.orc_gen.specs.Generator.{joined, next, after, drawn}

pub joined_none : {A : Type 0} (f : ℕ → List A) → joined f 0 ≡ []
unfolding joined
joined_none f = refl

pub joined_more : {A : Type 0} (f : ℕ → List A) (n : ℕ) → joined f (n + 1) ≡ joined f n ++ f n
unfolding joined
joined_more f n =
    let e : n + 1 ≡ suc n = omega arith in
    rw e refl

pub after_none : (x : ℕ) → after 0 x ≡ x
unfolding after
after_none x = refl

pub after_one : (x : ℕ) → after 1 x ≡ next x
unfolding after
after_one x = refl

pub after_after : (n m x : ℕ) → after n (after m x) ≡ after (m + n) x
unfolding after
after_after n zero x = let e : zero + n ≡ n = omega arith in rw e refl
after_after n (suc m) x =
    let e : suc m + n ≡ suc (m + n) = omega arith in
    rw e (after_after n m (next x))

-- ---- loops

-- after so many turns, of `step` draws each: what was appended, and the state
pub record Grown (step : ℕ) (f : ℕ → List ℕ) (first : List ℕ) (state count : ℕ) (now : List ℕ) (state_now : ℕ) : Type 0 where
  pub appended : now ≡ first ++ joined f count
  pub drew : state_now ≡ after (step * count) state

nil_after : (l : List ℕ) → l ≡ l ++ []
nil_after [] = refl
nil_after (x ∷ l) = ap (λ (m : List ℕ). x ∷ m) (nil_after l)

-- what so many turns append, without the draws
pub nothing_joined : (f : ℕ → List ℕ) (first : List ℕ) → first ≡ first ++ joined f 0
nothing_joined f first = nil_after first ∙ ap (λ (l : List ℕ). first ++ l) (sym (joined_none f))

pub more_joined : (f : ℕ → List ℕ) (first : List ℕ) (count : ℕ) (now then : List ℕ) → now ≡ first ++ joined f count → then ≡ now ++ f count → then ≡ first ++ joined f (count + 1)
more_joined f first count now then h line = line ∙ ap (λ (l : List ℕ). l ++ f count) h ∙ append_assoc first (joined f count) (f count) ∙ ap (λ (l : List ℕ). first ++ l) (sym (joined_more f count))

pub grown_none : (step : ℕ) (f : ℕ → List ℕ) (first : List ℕ) (state : ℕ) → Grown step f first state 0 first state
grown_none step f first state = record {
  appended = nothing_joined f first;
  drew = let e : step * 0 ≡ 0 = omega arith in sym (ap (λ n. after n state) e ∙ after_none state);
}

pub grown_more : (step : ℕ) (f : ℕ → List ℕ) (first : List ℕ) (state count : ℕ) (now then : List ℕ) (state_now state_then : ℕ)
    → Grown step f first state count now state_now → then ≡ now ++ f count → state_then ≡ after step state_now
    → Grown step f first state (count + 1) then state_then
grown_more step f first state count now then state_now state_then h line drew = record {
  appended = more_joined f first count now then h.appended line;
  drew = let e : step * count + step ≡ step * (count + 1) = grind arith in drew ∙ ap (after step) h.drew ∙ after_after step (step * count) state ∙ ap (λ n. after n state) e;
}

pub grown_all : (step : ℕ) (f : ℕ → List ℕ) (first : List ℕ) (state count n : ℕ) (now : List ℕ) (state_now : ℕ)
    → Grown step f first state count now state_now → count ≡ n → (now ≡ first ++ joined f n) × (state_now ≡ after (step * n) state)
grown_all step f first state count n now state_now h e = (h.appended ∙ ap (λ k. first ++ joined f k) e, h.drew ∙ ap (λ k. after (step * k) state) e)

-- the next draw after so many
pub drawn_next : (x k state : ℕ) → state ≡ after (1 * k) x → drawn state 0 ≡ drawn x k
drawn_next x k state e =
    let first : after 1 (after (1 * k) x) ≡ after (1 * k + 1) x = after_after 1 (1 * k) x in
    let count : 1 * k + 1 ≡ k + 1 = omega arith in
    ap (λ s. after 1 s / 2 ^ 32) e ∙ ap (λ s. s / 2 ^ 32) (first ∙ ap (λ n. after n x) count)
