-- Places for what steps make, step by step.
use Rattle.std.proofs.Common.{◌≡◌, ℕ, zero, suc, ◌+◌, ◌<◌, ◌≤◌, Bool, true, false, ◌||◌, ◌&&◌, ◌==◌, List, [], ◌∷◌, ◌++◌, refl, sym, ap, ◌∙◌, subst, arith, length, filter, take, drop, nat_lt, ◌-◌, get_or, slice_index, if◌then◌else◌, length-append, append_assoc, append-nil, true≢false}
use Rattle.std.specs.List.{list_any, list_all}
use Rattle.std.proofs.lemmas.List.{take_all}
use Rattle.std.proofs.lemmas.List.Elements.{filter-append}
use Rattle.orc_program.specs.Need.{is_in, places, registers}
use Rattle.orc_plan.specs.declared.steps.Step.{Step}
use Rattle.orc_plan.specs.declared.steps.Item.{Item}
use Rattle.orc_plan.specs.declared.steps.Item.TheVariants as item
use Rattle.orc_plan.specs.Core.{values_among, made_by, read_by, made_in, counts_from, is_numbered}
use Rattle.orc_plan.specs.Need.{is_read_in, made_at, need_in, widest}
use Rattle.orc_plan.specs.Ending.{AreEnds}
use Rattle.orc_plan.specs.Places.{Apart, GoodPlaces}
use Rattle.orc_plan.specs.Placing.{counted_from, NeedAtMost, Holds, Extends, HasRoom, PlacesAll}
use Rattle.orc_plan.proofs.Holding.{extends_both, is_same}

both : (a b : Bool) → (a && b) ≡ true → (a ≡ true) × (b ≡ true)
both true b h = (refl, h)
both false b h = absurd (true≢false (sym h))

pub values_few : (items : List Item) → length (values_among items) ≤ length items
values_few [] = omega arith
values_few (item.Value v ∷ xs) = omega (arith, values_few xs)
values_few (item.Array k ∷ xs) = omega (arith, values_few xs)
values_few (item.Acc k n ∷ xs) = omega (arith, values_few xs)
values_few (item.Pattern k ∷ xs) = omega (arith, values_few xs)

-- ---- what is read later

later_any : {A : Type 0} (p : A → Bool) (xs : List A) (j : ℕ) → list_any p (drop j xs) ≡ true → list_any p xs ≡ true
later_any p [] zero h = h
later_any p [] (suc j) h = h
later_any p (x ∷ xs) zero h = h
later_any p (x ∷ xs) (suc j) h = either (p x) (list_any p xs) (later_any p xs j h)
  where
    either : (a b : Bool) → b ≡ true → (a || b) ≡ true
    either true b s = refl
    either false b s = s

filter_after : (p q : ℕ → Bool) → ((v : ℕ) → p v ≡ true → q v ≡ true) → (vs : List ℕ) → filter p (filter q vs) ≡ filter p vs
filter_after p q less [] = refl
filter_after p q less (v ∷ vs) = go (q v) (p v) refl refl (filter_after p q less vs)
  where
    go : (b c : Bool) → q v ≡ b → p v ≡ c → filter p (filter q vs) ≡ filter p vs → filter p (if b then v ∷ filter q vs else filter q vs) ≡ (if c then v ∷ filter p vs else filter p vs)
    go true c e s ih = ap (λ d. if d then v ∷ filter p (filter q vs) else filter p (filter q vs)) s ∙ ap (λ (ys : List ℕ). if c then v ∷ ys else ys) ih
    go false true e s ih = absurd (true≢false (sym (less v s) ∙ e))
    go false false e s ih = ih

in_filter : (p : ℕ → Bool) (vs : List ℕ) (a : ℕ) → is_in a (filter p vs) ≡ true → is_in a vs ≡ true
in_filter p [] a h = h
in_filter p (v ∷ vs) a h = go (p v) (in_filter p vs a) h
  where
    either : (x y z : Bool) → (y ≡ true → z ≡ true) → (x || y) ≡ true → (x || z) ≡ true
    either true y z f s = refl
    either false y z f s = f s

    later : (x z : Bool) → z ≡ true → (x || z) ≡ true
    later true z s = refl
    later false z s = s

    go : (b : Bool) → (is_in a (filter p vs) ≡ true → is_in a vs ≡ true) → is_in a (if b then v ∷ filter p vs else filter p vs) ≡ true → (a == v || is_in a vs) ≡ true
    go true f s = either (a == v) (is_in a (filter p vs)) (is_in a vs) f s
    go false f s = later (a == v) (is_in a vs) (f s)

pub holds_kept : {most : ℕ} (p : ℕ → Bool) (held at : List ℕ) → Holds most held at → Holds most (filter p held) at
holds_kept p held at h = record {
  made = λ a x. h.made a (in_filter p held a x);
  below = h.below;
  apart = λ a b x y s. h.apart a b (in_filter p held a x) (in_filter p held b y) s;
}

-- ---- what counts after one step

-- the values that are held after the first step
abbrev pub held_after : List ℕ → Step → List Step → List ℕ
held_after held s ss = filter (is_read_in (s ∷ ss)) held ++ made_by s

pub counted_first : (held : List ℕ) (s : Step) (ss : List Step) → counted_from held (s ∷ ss) 0 ≡ held_after held s ss
counted_first held s ss = ap (λ (vs : List ℕ). filter (is_read_in (s ∷ ss)) vs ++ made_by s) (append-nil held)

pub counted_later : (held : List ℕ) (s : Step) (ss : List Step) (j : ℕ) → counted_from (held_after held s ss) ss j ≡ counted_from held (s ∷ ss) (suc j)
counted_later held s ss j =
    let p = is_read_in (drop j ss) in
    let q = is_read_in (s ∷ ss) in
    let made = made_in (take j ss) in
    let less : (v : ℕ) → p v ≡ true → q v ≡ true = λ v h. later_any (λ t. is_in v (read_by t)) (s ∷ ss) (suc j) h in
    let one : filter p (held_after held s ss ++ made) ≡ filter p (held ++ (made_by s ++ made)) =
    ap (filter p) (append_assoc (filter q held) (made_by s) made)
    ∙ filter-append p (filter q held) (made_by s ++ made)
    ∙ ap (λ (vs : List ℕ). vs ++ filter p (made_by s ++ made)) (filter_after p q less held)
    ∙ sym (filter-append p held (made_by s ++ made)) in
    ap (λ (vs : List ℕ). vs ++ made_at ss j) one

-- ---- room for a step, and for those after it

pub first_numbered : {most : ℕ} (held at : List ℕ) (s : Step) (ss : List Step) → HasRoom most held at (s ∷ ss) → counts_from (length at) (made_by s) ≡ true
first_numbered held at s ss h =
    let n = length at in
    let later = is_numbered (n + length (made_by s)) ss in
    (both (counts_from n (made_by s)) later (both (list_all (λ v. nat_lt v n) (read_by s)) (counts_from n (made_by s) && later) h.numbered).1).0

later_numbered : (n : ℕ) (s : Step) (ss : List Step) → is_numbered n (s ∷ ss) ≡ true → is_numbered (n + length (made_by s)) ss ≡ true
later_numbered n s ss h =
    let later = is_numbered (n + length (made_by s)) ss in
    (both (counts_from n (made_by s)) later (both (list_all (λ v. nat_lt v n) (read_by s)) (counts_from n (made_by s) && later) h).1).1

pub first_few : {most : ℕ} (held at : List ℕ) (s : Step) (ss : List Step) → HasRoom most held at (s ∷ ss) → length (filter (is_read_in (s ∷ ss)) held) + length (made_by s) ≤ most
first_few held at s ss h =
    omega (arith, h.few 0 (omega arith), ap length (counted_first held s ss), length-append (filter (is_read_in (s ∷ ss)) held) (made_by s))

pub room_after : {most : ℕ} (held at after : List ℕ) (s : Step) (ss : List Step) → HasRoom most held at (s ∷ ss) → length (made_by s) ≤ 2
    → Holds most (held_after held s ss) after → Extends at after (length (made_by s)) → HasRoom most (held_after held s ss) after ss
room_after {most = most} held at after s ss h two holds more = record {
  holds = holds;
  numbered = subst (λ n. is_numbered n ss ≡ true) (sym more.longer) (later_numbered (length at) s ss h.numbered);
  room = omega (arith, h.room, two, more.longer);
  few = λ j l. subst (λ (vs : List ℕ). length vs ≤ most) (sym (counted_later held s ss j)) (h.few (suc j) (omega arith));
}

-- values that are apart stay so where more places stand behind
apart_after : {most : ℕ} (vs old new : List ℕ) (k : ℕ) → Holds most vs old → Extends old new k → Apart new vs
apart_after vs old new k h more a b x y s = h.apart a b x y (sym (more.same a (h.made a x)) ∙ s ∙ more.same b (h.made b y))

pub placed_after : {most : ℕ} (held at after end : List ℕ) (s : Step) (ss : List Step) → Holds most (held_after held s ss) after → Extends at after (length (made_by s))
    → PlacesAll most (held_after held s ss) after end ss → PlacesAll most held at end (s ∷ ss)
placed_after held at after end s ss holds more rest = record {
  extends = extends_both at after end (length (made_by s)) (length (made_in ss)) (length (made_in (s ∷ ss))) more rest.extends (sym (length-append (made_by s) (made_in ss)));
  below = rest.below;
  apart = apart;
}
  where
    apart : (j : ℕ) → j < length (s ∷ ss) → Apart end (counted_from held (s ∷ ss) j)
    apart zero l = subst (λ (vs : List ℕ). Apart end vs) (sym (counted_first held s ss)) (apart_after (held_after held s ss) after end (length (made_in ss)) holds rest.extends)
    apart (suc j) l = subst (λ (vs : List ℕ). Apart end vs) (counted_later held s ss j) (rest.apart j (omega arith))

-- ---- the same as the code has it

-- steps are their first and those after it
pub first_and_rest : (steps : List Step) (s : Step) → 1 ≤ length steps → s ≡ get_or steps 0 s → steps ≡ s ∷ take (length steps - 1) (drop 1 steps)
first_and_rest [] s l e = absurd (omega arith)
first_and_rest (x ∷ xs) s l e = ap (λ (y : Step). y ∷ xs) (sym e) ∙ ap (λ (ys : List Step). s ∷ ys) (sym (take_all (suc (length xs) - 1) xs (omega arith)))

new_held : (held live made new : List ℕ) (steps : List Step) (s : Step) (rest : List Step) → steps ≡ s ∷ rest → live ≡ filter (is_read_in steps) held → made ≡ made_by s → new ≡ live ++ made → new ≡ held_after held s rest
new_held held live made new steps s rest e l m n = n ∙ ap (λ (vs : List ℕ). vs ++ made) (l ∙ ap (λ (ss : List Step). filter (is_read_in ss) held) e) ∙ ap (λ (vs : List ℕ). filter (is_read_in (s ∷ rest)) held ++ vs) m

pub room_later : {most : ℕ} (held live made new at after : List ℕ) (steps : List Step) (s : Step) (rest : List Step) → steps ≡ s ∷ rest → live ≡ filter (is_read_in steps) held → made ≡ made_by s → new ≡ live ++ made
    → HasRoom most held at steps → length made ≤ 2 → Holds most new after → Extends at after (length made) → HasRoom most new after rest
room_later {most = most} held live made new at after steps s rest e l m n h two holds more =
    let same = new_held held live made new steps s rest e l m n in
    subst (λ (vs : List ℕ). HasRoom most vs after rest) (sym same)
    (room_after held at after s rest (subst (λ (ss : List Step). HasRoom most held at ss) e h) (subst (λ (vs : List ℕ). length vs ≤ 2) m two)
    (subst (λ (vs : List ℕ). Holds most vs after) same holds) (subst (λ (vs : List ℕ). Extends at after (length vs)) m more))

pub placed_later : {most : ℕ} (held live made new at after end : List ℕ) (steps : List Step) (s : Step) (rest : List Step) → steps ≡ s ∷ rest → live ≡ filter (is_read_in steps) held → made ≡ made_by s → new ≡ live ++ made
    → Holds most new after → Extends at after (length made) → PlacesAll most new after end rest → PlacesAll most held at end steps
placed_later {most = most} held live made new at after end steps s rest e l m n holds more placed =
    let same = new_held held live made new steps s rest e l m n in
    subst (λ (ss : List Step). PlacesAll most held at end ss) (sym e)
    (placed_after held at after end s rest (subst (λ (vs : List ℕ). Holds most vs after) same holds) (subst (λ (vs : List ℕ). Extends at after (length vs)) m more)
    (subst (λ (vs : List ℕ). PlacesAll most vs after end rest) same placed))

-- ---- what is read later, by when values are read for the last time

kept_same : (p q : ℕ → Bool) (vs : List ℕ) → ((v : ℕ) → is_in v vs ≡ true → p v ≡ q v) → filter p vs ≡ filter q vs
kept_same p q [] h = refl
kept_same p q (v ∷ vs) h =
    ap (λ b. if b then v ∷ filter p vs else filter p vs) (h v (here (v == v) (is_same v v refl)))
    ∙ ap (λ (xs : List ℕ). if q v then v ∷ xs else xs) (kept_same p q vs (λ w l. h w (there w (w == v) l)))
  where
    here : (b : Bool) → b ≡ true → (b || is_in v vs) ≡ true
    here true e = refl
    here false e = absurd (true≢false (sym e))

    there : (w : ℕ) (b : Bool) → is_in w vs ≡ true → (b || is_in w vs) ≡ true
    there w true e = refl
    there w false e = e

-- the values that are held on are those that one of the steps reads
pub held_on : {most : ℕ} (held given kept ends at : List ℕ) (j : ℕ) (steps : List Step) → given ≡ held → kept ≡ filter (λ v. nat_lt j (slice_index ends v)) given → AreEnds ends j steps → HasRoom most held at steps → kept ≡ filter (is_read_in steps) held
held_on held given kept ends at j steps g k are room =
    k ∙ ap (filter (λ v. nat_lt j (slice_index ends v))) g
    ∙ kept_same (λ v. nat_lt j (slice_index ends v)) (is_read_in steps) held
    (λ v h. ap (λ n. nat_lt n (slice_index ends v)) (let e : j ≡ j + 0 = omega arith in e) ∙ sym (are v (omega (arith, room.holds.made v h, room.room)) 0))

pub few_after : {most : ℕ} (held live made at : List ℕ) (steps : List Step) (s : Step) (rest : List Step) → steps ≡ s ∷ rest → live ≡ filter (is_read_in steps) held → made ≡ made_by s → HasRoom most held at steps → length live + length made ≤ most
few_after {most = most} held live made at steps s rest e l m h =
    let first = first_few held at s rest (subst (λ (ss : List Step). HasRoom most held at ss) e h) in
    omega (arith, first, ap length (l ∙ ap (λ (ss : List Step). filter (is_read_in ss) held) e), ap length m)

pub ends_later : (ends : List ℕ) (j : ℕ) (steps : List Step) (s : Step) (rest : List Step) → steps ≡ s ∷ rest → AreEnds ends j steps → AreEnds ends (j + 1) rest
ends_later ends j steps s rest e are v l i =
    subst (λ (ss : List Step). is_read_in (drop (suc i) ss) v ≡ nat_lt (j + suc i) (slice_index ends v)) e (are v l (suc i)) ∙ ap (λ n. nat_lt n (slice_index ends v)) (let z : j + suc i ≡ j + 1 + i = omega arith in z)

pub ends_at_first : (ends : List ℕ) (given core : List Step) → given ≡ core → AreEnds ends 0 given → AreEnds ends 0 core
ends_at_first ends given core e are = subst (λ (ss : List Step). AreEnds ends 0 ss) e are

-- ---- the whole

pub room_at_first : (most : ℕ) (steps : List Step) → is_numbered 0 steps ≡ true → length steps ≤ 100 → NeedAtMost most steps → HasRoom most [] [] steps
unfolding need_in
room_at_first most steps h l few = record {
  holds = record { made = λ v x. absurd (true≢false (sym x)); below = λ v x. absurd (omega arith); apart = λ a b x y s. absurd (true≢false (sym x)) };
  numbered = h;
  room = omega arith;
  few = λ j x. few j x;
}

pub good_at_last : (most : ℕ) (steps : List Step) (at : List ℕ) → most ≤ places → (widest steps ≤ registers → most ≡ registers) → PlacesAll most [] [] at steps → GoodPlaces steps at
good_at_last most steps at low near h = record {
  one_each = omega (arith, h.extends.longer);
  below = λ v l. omega (arith, h.below v l, low);
  near = λ w v l. omega (arith, h.below v l, near w);
  apart = λ j l. h.apart j l;
}

pub live_holds : {most : ℕ} (held live at : List ℕ) (steps : List Step) → live ≡ filter (is_read_in steps) held → Holds most held at → Holds most live at
live_holds {most = most} held live at steps l h = subst (λ (vs : List ℕ). Holds most vs at) (sym l) (holds_kept (is_read_in steps) held at h)

pub room_of : (most : ℕ) (core steps : List Step) (held at : List ℕ) → held ≡ [] → at ≡ [] → steps ≡ core → is_numbered 0 core ≡ true → length steps ≤ 100 → NeedAtMost most core → HasRoom most held at steps
room_of most core steps held at h a e n l few =
    subst (λ (vs : List ℕ). HasRoom most vs at steps) (sym h) (subst (λ (vs : List ℕ). HasRoom most [] vs steps) (sym a)
    (subst (λ (ss : List Step). HasRoom most [] [] ss) (sym e) (room_at_first most core n (subst (λ (ss : List Step). length ss ≤ 100) e l) few)))

pub good_of : (most : ℕ) (core steps copy : List Step) (held old at : List ℕ) → held ≡ [] → old ≡ [] → steps ≡ core → copy ≡ core → most ≤ places → (widest core ≤ registers → most ≡ registers) → PlacesAll most held old at steps → GoodPlaces copy at
good_of most core steps copy held old at h a e c low near p =
    subst (λ (ss : List Step). GoodPlaces ss at) (e ∙ sym c)
    (good_at_last most steps at low (subst (λ (ss : List Step). widest ss ≤ registers → most ≡ registers) (sym e) near) (subst (λ (vs : List ℕ). PlacesAll most vs [] at steps) h (subst (λ (vs : List ℕ). PlacesAll most held vs at steps) a p)))
