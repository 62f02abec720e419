-- Parts as they are placed, one after the other.
use Rattle.std.proofs.Common.{◌≡◌, ℕ, suc, ◌+◌, ◌%◌, ◌^◌, ◌<◌, ◌≤◌, List, [], ◌∷◌, ◌++◌, length, map, refl, sym, ap, ap₂, ◌∙◌, subst, arith, length-append}
use Rattle.std.specs.Int.{w64}
use Rattle.std.specs.Int.RustNames.{FitsSigned}
use Rattle.std.proofs.lemmas.List.{append_assoc, map-append}
use Rattle.orc_bits.specs.declared.parts.Part.{Part}
use Rattle.orc_bits.specs.Memory.{Memory}
use Rattle.orc_bits.specs.Parts.{memory_of}
use Rattle.orc_program.specs.declared.call.Call.{Call}
use Rattle.orc_program.specs.declared.call.Place.{Place}
use Rattle.orc_program.specs.declared.rect.Rect.{Rect}
use Rattle.orc_program.specs.Cut.{total}
use Rattle.orc_image.specs.Spelling.{FunctionValue}
use Rattle.orc_job.specs.declared.job.Job.{Job}
use Rattle.orc_jobs.specs.declared.world.Runner.{Runner}
use Rattle.orc_jobs.specs.declared.world.World.{World}
use Rattle.orc_jobs.specs.World.{Stand, stand_of, seen}
use Rattle.orc_worlds.specs.Worlds.{moved_place, moved_places, AreSigned, call_of_part, own_parts, first_own, part_stand, first_stands, placed_world}
use Rattle.orc_worlds.proofs.Started.{stands_more}

nil_after : {A : Type 0} (l : List A) → l ++ [] ≡ l
nil_after [] = refl
nil_after {A} (x ∷ l) = ap (λ (m : List A). x ∷ m) (nil_after l)

-- ---- places

pub moved_count : (q : Rect) (ps : List Place) (sizes : List ℕ) → length sizes ≡ length ps → length (moved_places q ps sizes) ≡ length ps
moved_count q [] sizes e = refl
moved_count q (p ∷ ps) [] e = absurd (omega (arith, e))
moved_count q (p ∷ ps) (n ∷ sizes) e = ap suc (moved_count q ps sizes (omega (arith, e)))

-- some places are moved, and some are left
pub record Moving (q : Rect) (places : List Place) (sizes : List ℕ) (moved left : List Place) (sizes_left : List ℕ) : Type 0 where
  pub made : moved ++ moved_places q left sizes_left ≡ moved_places q places sizes
  pub alike : length sizes_left ≡ length left
  pub count : length moved + length left ≡ length places
  pub signed : AreSigned left → AreSigned places

pub none_moved : (q : Rect) (places : List Place) (sizes : List ℕ) → length sizes ≡ length places → Moving q places sizes [] places sizes
none_moved q places sizes e = record { made = refl; alike = e; count = omega arith; signed = λ h. h }

pub one_moved : (q : Rect) (places : List Place) (sizes : List ℕ) (moved left now rest : List Place) (sizes_left others : List ℕ) (p r : Place) (n : ℕ) → Moving q places sizes moved left sizes_left
    → left ≡ p ∷ rest → sizes_left ≡ n ∷ others → r ≡ moved_place q p n → FitsSigned w64 p.stride → now ≡ moved ++ r ∷ [] → Moving q places sizes now rest others
one_moved q places sizes moved left now rest sizes_left others p r n h cut size is fits e = record {
  made = ap (λ (l : List Place). l ++ moved_places q rest others) e ∙ append_assoc moved (r ∷ []) (moved_places q rest others) ∙ ap (λ x. moved ++ x ∷ moved_places q rest others) is
      ∙ ap (λ l. moved ++ moved_places q (p ∷ rest) l) (sym size) ∙ ap (λ l. moved ++ moved_places q l sizes_left) (sym cut) ∙ h.made;
  alike = let a = h.alike in let b = ap length size in let c = ap length cut in omega (arith, a, b, c);
  count = let a = h.count in let b = ap length e ∙ length-append moved (r ∷ []) in let c = ap length cut in omega (arith, a, b, c);
  signed = λ more. h.signed (subst AreSigned (sym cut) (fits, more));
}

pub all_moved : (q : Rect) (places : List Place) (sizes : List ℕ) (moved left : List Place) (sizes_left : List ℕ) → Moving q places sizes moved left sizes_left → left ≡ [] → (moved ≡ moved_places q places sizes) × AreSigned places
all_moved q places sizes moved left sizes_left h none = (
  sym (nil_after moved) ∙ ap (λ l. moved ++ moved_places q l sizes_left) (sym none) ∙ h.made,
  h.signed (subst AreSigned (sym none) tt),
)

-- ---- the world

-- the first k parts are placed
pub record Placing (f : FunctionValue) (job : Job) (sizes : List ℕ) (workers : ℕ) (placed : List Part) (standing : List Runner) (k : ℕ) : Type 0 where
  pub parts : placed ≡ job.memory ++ first_own f.dests (call_of_part f job sizes workers) k
  pub runners : map stand_of standing ≡ first_stands f k
  pub signed : 0 < k → AreSigned job.call.arrays.items
  pub few : 0 < k → length job.call.params.items ≤ 8

pub none_placed : (f : FunctionValue) (job : Job) (sizes : List ℕ) (workers : ℕ) (parts : List Part) → parts ≡ job.memory → Placing f job sizes workers parts [] 0
none_placed f job sizes workers parts e = record { parts = e ∙ sym (nil_after job.memory); runners = refl; signed = λ l. absurd (omega (arith, l)); few = λ l. absurd (omega (arith, l)) }

pub one_placed : (f : FunctionValue) (job : Job) (sizes : List ℕ) (workers k : ℕ) (parts now : List Part) (runners then : List Runner) (call : Call) (r : Runner) → Placing f job sizes workers parts runners k
    → call ≡ call_of_part f job sizes workers k → AreSigned job.call.arrays.items → length job.call.params.items ≤ 8 → now ≡ parts ++ own_parts f.dests call k → stand_of r ≡ part_stand f k → then ≡ runners ++ r ∷ [] → Placing f job sizes workers now then (k + 1)
one_placed f job sizes workers k parts now runners then call r h is fits few e q t =
    let s : suc k ≡ k + 1 = omega arith in
    let calls = call_of_part f job sizes workers in
    record {
      parts = e ∙ ap (λ (l : List Part). l ++ own_parts f.dests call k) h.parts ∙ ap (λ c. (job.memory ++ first_own f.dests calls k) ++ own_parts f.dests c k) is
          ∙ append_assoc job.memory (first_own f.dests calls k) (own_parts f.dests (calls k) k) ∙ ap (λ n. job.memory ++ first_own f.dests calls n) s;
      runners = ap (map stand_of) t ∙ map-append stand_of runners (r ∷ []) ∙ stands_more f (map stand_of runners) k (stand_of r) h.runners q;
      signed = λ l. fits;
      few = λ l. few;
    }

pub all_placed : (f : FunctionValue) (job : Job) (sizes : List ℕ) (workers k : ℕ) (placed : List Part) (standing : List Runner) (w : World) → Placing f job sizes workers placed standing k → workers ≤ k → k ≤ workers
    → memory_of w.memory ≡ memory_of placed → w.runners.items ≡ standing → seen w ≡ placed_world f job sizes workers
all_placed f job sizes workers k placed standing w h low high m r =
    let whole : k ≡ workers = omega (arith, low, high) in
    let parts : memory_of w.memory ≡ (placed_world f job sizes workers).memory
    = m ∙ ap memory_of h.parts ∙ ap (λ n. memory_of (job.memory ++ first_own f.dests (call_of_part f job sizes workers) n)) whole in
    let stands : map stand_of w.runners.items ≡ first_stands f workers = ap (map stand_of) r ∙ h.runners ∙ ap (first_stands f) whole in
    ap₂ (λ (a : Memory) (b : List Stand). record { memory = a; stands = b }) parts stands

-- ---- steps

-- the steps of some runners are taken down, and some runners are left
pub record Counted (runners : List Runner) (steps : List ℕ) (left : List Runner) : Type 0 where
  pub made : steps ++ map (λ (r : Runner). r.steps) left ≡ map (λ (r : Runner). r.steps) runners
  pub count : length steps + length left ≡ length runners

pub none_counted : (runners : List Runner) → Counted runners [] runners
none_counted runners = record { made = refl; count = omega arith }

pub one_counted : (runners : List Runner) (steps now : List ℕ) (left rest : List Runner) (r : Runner) → Counted runners steps left → left ≡ r ∷ rest → now ≡ steps ++ r.steps ∷ [] → Counted runners now rest
one_counted runners steps now left rest r h cut e = record {
  made = ap (λ (l : List ℕ). l ++ map (λ (x : Runner). x.steps) rest) e ∙ append_assoc steps (r.steps ∷ []) (map (λ (x : Runner). x.steps) rest) ∙ ap (λ l. steps ++ map (λ (x : Runner). x.steps) l) (sym cut) ∙ h.made;
  count = let a = h.count in let b = ap length e ∙ length-append steps (r.steps ∷ []) in let c = ap length cut in omega (arith, a, b, c);
}

pub all_counted : (runners : List Runner) (steps : List ℕ) (left : List Runner) → Counted runners steps left → left ≡ [] → steps ≡ map (λ (r : Runner). r.steps) runners
all_counted runners steps left h none = sym (nil_after steps) ∙ ap (λ l. steps ++ map (λ (x : Runner). x.steps) l) (sym none) ∙ h.made

-- ---- sums

pub total_more : (g : ℕ → ℕ) (k sum word now : ℕ) → sum ≡ total k g % 2 ^ 64 → word ≡ g k → now ≡ (sum + word) % 2 ^ 64 → now ≡ total (k + 1) g % 2 ^ 64
total_more g k sum word now e w n =
    let s : suc k ≡ k + 1 = omega arith in
    let here : now ≡ (total k g + g k) % 2 ^ 64 = omega (arith, e, w, n) in
    here ∙ ap (λ j. total j g % 2 ^ 64) s
