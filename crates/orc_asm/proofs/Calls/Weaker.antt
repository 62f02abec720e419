-- Fewer promises, and calls in no larger memory.
use Rattle.std.proofs.Common.{ℕ, List}
use Rattle.orc_bits.specs.Memory.{Memory}
use Rattle.x86_ins.specs.Machine.{Point}
use Rattle.x86_ins.specs.Way.{Placed, Moment}
use Rattle.orc_frame.specs.Subject.{Call, Subject}
use Rattle.orc_asm.specs.RunsAs.{Returns, Promise, RunsWith, RunsInsideWith, RunsAs, RunsInside, RunsQuietly, RunsFully, no_promise, quiet, wide}

returns_with : (f : Subject) (bound : ℕ → ℕ → ℕ) (A B : List Moment → Point → Type 0) → ((way : List Moment) (t : Point) → A way t → B way t) →
    (code : Placed) (s : Point) (small : Memory) (call : Call) (back : ℕ) → Returns f bound A code s small call back → Returns f bound B code s small call back
returns_with f bound A B g code s small call back x = record {
  end = x.end;
  means = x.means;
  way = x.way;
  t = x.t;
  runs = x.runs;
  short = x.short;
  over = x.over;
  not_before = x.not_before;
  same = x.same;
  sums = x.sums;
  rest = x.rest;
  saved = x.saved;
  more = g x.way x.t x.more;
}

pub weaker : (f : Subject) (bound : ℕ → ℕ → ℕ) (P Q : Promise) → ((s : Point) (small : Memory) (call : Call) (way : List Moment) (t : Point) → P s small call way t → Q s small call way t) →
    (bytes : List ℕ) → RunsInsideWith f bound P bytes → RunsInsideWith f bound Q bytes
weaker f bound P Q g bytes h start s small call back w good = returns_with f bound (P s small call) (Q s small call) (g s small call) _ s small call back (h start s small call back w good)

-- a good call is one inside its own memory
pub runs_with : (f : Subject) (bound : ℕ → ℕ → ℕ) (P : Promise) (bytes : List ℕ) → RunsInsideWith f bound P bytes → RunsWith f bound P bytes
runs_with f bound P bytes h start s call back good = h start s s.core.memory call back (λ a v e. e) good

pub runs_as : (f : Subject) (bound : ℕ → ℕ → ℕ) (bytes : List ℕ) → RunsFully f bound bytes → RunsAs f bound bytes
runs_as f bound bytes h = runs_with f bound no_promise bytes (weaker f bound _ no_promise (λ s small call way t p. tt) bytes h)

pub runs_inside : (f : Subject) (bound : ℕ → ℕ → ℕ) (bytes : List ℕ) → RunsFully f bound bytes → RunsInside f bound bytes
runs_inside f bound bytes h = weaker f bound _ no_promise (λ s small call way t p. tt) bytes h

pub runs_quietly : (f : Subject) (bound : ℕ → ℕ → ℕ) (bytes : List ℕ) → RunsFully f bound bytes → RunsQuietly f bound bytes
runs_quietly f bound bytes h = weaker f bound _ (quiet f) (λ s small call way t p. p.0) bytes h

pub runs_wide : (f : Subject) (bound : ℕ → ℕ → ℕ) (bytes : List ℕ) → RunsFully f bound bytes → RunsWith f bound (wide f) bytes
runs_wide f bound bytes h = runs_with f bound (wide f) bytes (weaker f bound _ (wide f) (λ s small call way t p. p.1) bytes h)
