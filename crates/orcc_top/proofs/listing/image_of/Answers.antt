use Rattle.std.proofs.Common.{◌≡◌, ℕ, ap₂, ◌≤◌, ◌∙◌, ◌++◌, ◌∷◌, [], List, length, map, take, ap, arith}
use Rattle.std.proofs.lemmas.Grind.{common_steps}
use Rattle.std.proofs.lemmas.List.{take_all}
use Rattle.orc_elf.specs.Entries.{EntryValue, ElfValue, names}
use Rattle.orc_program.specs.Facts.{is_free}
use Rattle.orc_program.specs.Kept.{all_distinct}
use Rattle.orc_image.specs.Spelling.{FunctionValue, ImageValue}
use Rattle.orcc_top.specs.Objects.{uncounted}
use Rattle.orcc_top.proofs.Each.{each_further, next_room, next_new, each_is_map}
use Rattle.orcc_top.proofs.Entries.{Uncounts, uncounted_named}
use Rattle.orcc_top.proofs.listing.image_of.Goals as goal

pub push-requires-clause-room : goal.push-requires-clause-room
push-requires-clause-room c =
    let items = c.as_slice-entry-items.result.now in
    let few : length items ≤ 64 = omega (arith, c.object.invariant.few, ap length c.as_slice-entry-items.ensures) in
    next_room Uncounts items _ c.loop-entry.entry-index c.loop-entry-test.true few c.loop-entry.invariant.entries

pub push-requires-clause-free : goal.push-requires-clause-free
push-requires-clause-free c = λ one. ap (λ (f : FunctionValue). is_free f.facts) c.in_ok-f.ensures

pub push-requires-clause-new : goal.push-requires-clause-new
push-requires-clause-new c =
    let items = c.as_slice-entry-items.result.now in
    let distinct = ap (λ (es : List EntryValue). all_distinct (names es)) c.as_slice-entry-items.ensures ∙ c.object.invariant.distinct in
    next_new Uncounts (λ e. e.name) (λ f. f.name) uncounted_named items _ c.loop-entry.entry-index c.entry-item.result c.in_ok-f.f c.loop-entry-test.true c.entry-item.is distinct c.loop-entry.invariant.entries c.in_ok-f.ensures

pub loop-entry-preserved : goal.loop-entry-preserved
loop-entry-preserved c =
    let grown : c.push.new.self.functions ≡ c.loop-entry.image.functions ++ c.in_ok-f.f ∷ [] = grind (arith, common_steps) in
    record {
      version = grind (arith, common_steps);
      entries = each_further Uncounts c.as_slice-entry-items.result.now c.loop-entry.entry-index _ _ c.entry-item.result c.in_ok-f.f c.loop-entry-test.true c.entry-item.is grown c.loop-entry.invariant.entries c.in_ok-f.ensures;
    }

pub returns : goal.returns
returns c =
    let items = c.as_slice-entry-items.result.now in
    let i = c.loop-entry.entry-index in
    let all : take i items ≡ items = take_all i items (omega (arith, c.loop-entry-test.false)) in
    let mapped = each_is_map uncounted (take i items) _ c.loop-entry.invariant.entries ∙ ap (map uncounted) (all ∙ c.as_slice-entry-items.ensures ∙ ap (λ (e : ElfValue). e.entries) c.object.view_is) in
    ap₂ (λ (v : ℕ) (fs : List FunctionValue). image v fs) c.loop-entry.invariant.version mapped
  where
    image : ℕ → List FunctionValue → ImageValue
    image v fs = record { version = v; functions = fs }
