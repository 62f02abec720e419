-- A call begins where its block, its return word and its frame stand, and its cells lie below the code.
use Rattle.std.proofs.Common.{◌≡◌, ℕ, ℤ, pos, negsuc, zero, suc, ◌+◌, ◌-◌, ◌*◌, ◌^◌, ◌<◌, ◌≤◌, true, if◌then◌else◌, List, [], ◌∷◌, ◌++◌, length, map, take, drop, replicate, get_or, slice_index, slice_index_or, Some, is_some, rules, refl, sym, ap, ap₂, ◌∙◌, subst, arith, ◌⊎◌, inl, inr, lit<, lit≤, length-append, length-drop}
use Rattle.std.specs.Int.{w64, cast_unsigned}
use Rattle.std.specs.Int.RustNames.{FitsSigned}
use Rattle.std.specs.List.{range_with_len}
use Rattle.std.proofs.lemmas.Bool.{cases_lt, lt-ltb, le-ltb}
use Rattle.std.proofs.lemmas.Int.{ints, to_z-of_z}
use Rattle.std.proofs.lemmas.List.{length-take-le, take-append-drop, map-append, get_or-take, get_or-drop, get_or_past, get_or-replicate, ext_get_or}
use Rattle.std.proofs.lemmas.List.FromFn.{fill_by_all, get_or-map-range_with_len, length-map-range_with_len}
use Rattle.orc_bits.specs.Memory.{Memory, IsMapped, word}
use Rattle.orc_bits.specs.Lanes.{AreBytes}
use Rattle.orc_program.specs.declared.program.VarKind.TheVariants as kind
use Rattle.orc_program.specs.declared.call.Place.{Place}
use Rattle.orc_program.specs.Program.{FunctionValue, count_of}
use Rattle.orc_program.specs.Meaning.{no_place}
use Rattle.orc_program.specs.Slots.{slots, place_with}
use Rattle.orc_program.specs.Good.{GoodArrays}
use Rattle.orc_frame.specs.Layout.{frame_size}
use Rattle.orc_frame.specs.Parts.{InBlock, InReturn, InFrame, block_size, base_word, param_word}
use Rattle.orc_frame.specs.Subject.{IsArray}
use Rattle.orc_frame.specs.Subject.{Call as Arguments}
use Rattle.orc_frame.specs.GoodCall.{GoodCall, ReadsCall, Disjoint}
use Rattle.orc_frame.specs.Function.{subject_of, IsCellByte}
use Rattle.orc_region.proofs.Checked.Slots.{Limits, limits}
use Rattle.orc_frame.proofs.Places as frame
use Rattle.orc_image.specs.Spelling as image
use Rattle.orc_parts.specs.Split.{call_with}
use Rattle.x86_flow.proofs.Frame.{word_value}
use Rattle.orc_worlds.specs.Placement.{state_at, code_at, return_to, filler, word_bytes, words_bytes, places_bytes, padded, block_bytes, placed_code}
use Rattle.orc_worlds.specs.Worlds.{AreSigned}
use Rattle.orc_worlds.specs.Whole.{place_of_slot, words_of}
use Rattle.orc_worlds.proofs.BlockWords.{HasWord, HasPlace, word_long, first_word, left_word, right_word, right_place, words_long, places_long, words_have, places_have, padded_to, in_word, bytes_same}
use Rattle.std.specs.List.{AllByRecursion}
use Rattle.orc_program.specs.declared.call.Call.{Call}
use Rattle.orc_program.specs.Kept.{is_function}
use Rattle.x86_ins.specs.Machine.{Point, point_of}
use Rattle.orc_worlds.specs.Worlds.{block_of, stack_of}

-- ---- registers at the start

words_small : (xs : List ℕ) → AllByRecursion (λ x. x < 2 ^ 64) xs → (r : ℕ) → get_or xs r 0 < 2 ^ 64
words_small [] h r = lit< tt
words_small (x ∷ xs) h zero = h.0
words_small (x ∷ xs) h (suc r) = words_small xs h.1 r

registers_small : (at stack : ℕ) → at < 2 ^ 64 → stack < 2 ^ 64 → (r : ℕ) → get_or (state_at at stack).gpr r 0 < 2 ^ 64
registers_small at stack a s = words_small (state_at at stack).gpr (lit< tt, (lit< tt, (lit< tt, (lit< tt, (s, (lit< tt, (lit< tt, (a, (lit< tt, (lit< tt, (lit< tt, (lit< tt, (lit< tt, (lit< tt, (lit< tt, (lit< tt, tt))))))))))))))))

vectors_small : (r : ℕ) → AreBytes (get_or (replicate 16 (replicate 16 filler)) r [])
vectors_small r = elim (cases_lt r 16) [
  | inl l ↦ subst AreBytes (sym (get_or-replicate 16 r (replicate 16 filler) [] l)) (bytes_same 16 filler (lit< tt))
  | inr m ↦ subst AreBytes (sym (get_or_past (replicate 16 (replicate 16 filler)) r [] m)) (λ i. lit< tt)
]

-- ---- the block

stride_at : (ps : List Place) (i : ℕ) → AreSigned ps → FitsSigned w64 (slice_index_or ps i no_place).stride
stride_at [] i h = search rules
stride_at (p ∷ ps) zero h = h.0
stride_at (p ∷ ps) (suc i) h = stride_at ps i h.1

unsigned_small : (z : ℤ) → FitsSigned w64 z → cast_unsigned w64 z < 2 ^ 64
unsigned_small (pos n) h = omega (arith, ints, h)
unsigned_small (negsuc n) h = omega (arith, ints, h)

-- a call has as many arrays and parameters as a function whose code is placed, and words of their widths
pub record Placeable (f : FunctionValue) (entry : image.FunctionValue) (call : Call) : Type 0 where
  pub kept : is_function f ≡ true
  pub dests : entry.dests ≡ count_of kind.Dest f.vars
  pub sources : entry.sources ≡ count_of kind.Source f.vars
  pub params : entry.params ≡ count_of kind.Param f.vars
  pub short : length entry.code ≤ 1048576
  pub arrays : length call.arrays.items ≡ entry.dests + entry.sources
  pub numbers : length call.params.items ≡ entry.params
  pub n : call.n < 2 ^ 64
  pub m : call.m < 2 ^ 64
  pub bases : (i : ℕ) → (slice_index_or call.arrays.items i no_place).base < 2 ^ 64
  pub strides : AreSigned call.arrays.items
  pub words : (j : ℕ) → slice_index call.params.items j < 2 ^ 64

module _ (f : FunctionValue) (entry : image.FunctionValue) (call : Call) (c : Placeable f entry call) where
  abbrev items : List Place
  items = call.arrays.items

  abbrev numbers : List ℕ
  numbers = call.params.items

  abbrev words : Arguments
  words = words_of entry.dests call

  few : Limits f
  few = limits f c.kept

  few_dests : entry.dests ≤ 4
  few_dests = let d = few.dests in omega (arith, d, c.dests)

  few_sources : entry.sources ≤ 8
  few_sources = let d = few.sources in omega (arith, d, c.sources)

  few_params : length numbers ≤ 8
  few_params = let d = (frame.limits f c.kept).params in omega (arith, d, c.params, c.numbers)

  arrays_count : length items ≡ entry.dests + entry.sources
  arrays_count = c.arrays

  -- ---- the block's bytes

  abbrev dest_places : List Place
  dest_places = take entry.dests items

  abbrev source_places : List Place
  source_places = drop entry.dests items

  dests_long : length dest_places ≡ entry.dests
  dests_long = length-take-le entry.dests items (omega (arith, arrays_count))

  sources_long : length source_places ≡ entry.sources
  sources_long = omega (arith, length-drop entry.dests items, arrays_count)

  abbrev front : List ℕ
  front = word_bytes call.n ++ (word_bytes call.m ++ places_bytes dest_places)

  abbrev with_sources : List ℕ
  with_sources = padded (base_word 4) front ++ places_bytes source_places

  abbrev with_params : List ℕ
  with_params = padded (param_word 0) with_sources ++ words_bytes numbers

  abbrev block : List ℕ
  block = padded block_size with_params

  front_long : length front ≡ 16 + 16 * entry.dests
  front_long =
      let a = length-append (word_bytes call.n) (word_bytes call.m ++ places_bytes dest_places) in
      let b = length-append (word_bytes call.m) (places_bytes dest_places) in
      let d = word_long call.n in
      let e = word_long call.m in
      let p = places_long dest_places in
      omega (arith, a, b, d, e, p, dests_long)

  front_padded : length (padded (base_word 4) front) ≡ 80
  front_padded = padded_to 80 front (omega (arith, front_long, few_dests))

  sources_at : length with_sources ≡ 80 + 16 * entry.sources
  sources_at = let a = length-append (padded (base_word 4) front) (places_bytes source_places) in let p = places_long source_places in omega (arith, a, p, front_padded, sources_long)

  sources_padded : length (padded (param_word 0) with_sources) ≡ 208
  sources_padded = padded_to 208 with_sources (omega (arith, sources_at, few_sources))

  params_at : length with_params ≡ 208 + 8 * length numbers
  params_at = let a = length-append (padded (param_word 0) with_sources) (words_bytes numbers) in let p = words_long numbers in omega (arith, a, p, sources_padded)

  block_long : length block ≡ 304
  block_long = padded_to 304 with_params (omega (arith, params_at, few_params))

  from_params : (d v : ℕ) → d + 8 ≤ length with_params → HasWord with_params d v → HasWord block d v
  from_params d v l h = left_word with_params _ d v l h

  from_sources : (d v : ℕ) → d + 8 ≤ length with_sources → HasWord with_sources d v → HasWord block d v
  from_sources d v l h =
      from_params d v (omega (arith, l, sources_at, few_sources, params_at))
      (left_word (padded (param_word 0) with_sources) (words_bytes numbers) d v (omega (arith, l, sources_at, few_sources, sources_padded)) (left_word with_sources _ d v l h))

  from_front : (d v : ℕ) → d + 8 ≤ length front → HasWord front d v → HasWord block d v
  from_front d v l h =
      from_sources d v (omega (arith, l, front_long, few_dests, sources_at))
      (left_word (padded (base_word 4) front) (places_bytes source_places) d v (omega (arith, l, front_long, few_dests, front_padded)) (left_word front _ d v l h))

  n_word : HasWord block 0 call.n
  n_word = from_front 0 call.n (omega (arith, front_long)) (first_word call.n _)

  m_word : HasWord block 8 call.m
  m_word = from_front 8 call.m (omega (arith, front_long))
      (right_word (word_bytes call.n) _ 0 8 call.m (let w = word_long call.n in omega (arith, w)) (first_word call.m _))

  dest_place : (k : ℕ) → k < entry.dests → HasPlace front (16 + 16 * k) (slice_index_or dest_places k no_place)
  dest_place k l =
      right_place (word_bytes call.n) _ (8 + 16 * k) (16 + 16 * k) _ (let w = word_long call.n in omega (arith, w))
      (right_place (word_bytes call.m) _ (16 * k) (8 + 16 * k) _ (let w = word_long call.m in omega (arith, w))
      (places_have dest_places k (omega (arith, l, dests_long))))

  source_place : (k : ℕ) → k < entry.sources → HasPlace with_sources (80 + 16 * k) (slice_index_or source_places k no_place)
  source_place k l = right_place (padded (base_word 4) front) _ (16 * k) (80 + 16 * k) _ (omega (arith, front_padded)) (places_have source_places k (omega (arith, l, sources_long)))

  param_at : (j : ℕ) → j < length numbers → HasWord block (208 + 8 * j) (slice_index numbers j)
  param_at j l =
      from_params (208 + 8 * j) _ (omega (arith, l, params_at))
      (right_word (padded (param_word 0) with_sources) _ (8 * j) (208 + 8 * j) _ (omega (arith, sources_padded)) (words_have numbers j l))

  -- the words of a slot
  slot_place : (k : ℕ) → IsArray (subject_of f) k → HasWord block (16 + 16 * k) (words.base k) × HasWord block (24 + 16 * k) (words.stride k)
  slot_place k (inl l) =
      let inside : k < entry.dests = omega (arith, l, c.dests) in
      let here = dest_place k inside in
      let is : slice_index_or dest_places k no_place ≡ place_of_slot entry.dests call k
      = get_or-take entry.dests items k no_place inside ∙ sym (ap (λ b. slice_index_or items (if b then k else entry.dests + (k - 4)) no_place) (lt-ltb k 4 (omega (arith, inside, few_dests)))) in (
        subst (λ (p : Place). HasWord block (16 + 16 * k) p.base) is (from_front (16 + 16 * k) _ (omega (arith, inside, front_long)) here.base),
        subst (λ (p : Place). HasWord block (24 + 16 * k) (cast_unsigned w64 p.stride)) is
            (subst (λ d. HasWord block d (cast_unsigned w64 (slice_index_or dest_places k no_place).stride)) (let q : 16 + 16 * k + 8 ≡ 24 + 16 * k = omega arith in q) (from_front (16 + 16 * k + 8) _ (omega (arith, inside, front_long)) here.stride)),
      )
  slot_place k (inr l) =
      let j = k - 4 in
      let inside : j < entry.sources = omega (arith, l, c.sources) in
      let here = source_place j inside in
      let is : slice_index_or source_places j no_place ≡ place_of_slot entry.dests call k
      = get_or-drop entry.dests items j no_place ∙ sym (ap (λ b. slice_index_or items (if b then k else entry.dests + (k - 4)) no_place) (le-ltb k 4 l.0)) in
      let at : 80 + 16 * j ≡ 16 + 16 * k = omega (arith, l) in
      let behind : 80 + 16 * j + 8 ≡ 24 + 16 * k = omega (arith, l) in (
        subst (λ (p : Place). HasWord block (16 + 16 * k) p.base) is (subst (λ d. HasWord block d (slice_index_or source_places j no_place).base) at (from_sources (80 + 16 * j) _ (omega (arith, inside, sources_at)) here.base)),
        subst (λ (p : Place). HasWord block (24 + 16 * k) (cast_unsigned w64 p.stride)) is
            (subst (λ d. HasWord block d (cast_unsigned w64 (slice_index_or source_places j no_place).stride)) behind (from_sources (80 + 16 * j + 8) _ (omega (arith, inside, sources_at)) here.stride)),
      )

  block_is : block_bytes entry.dests call ≡ block
  unfolding block_bytes
  block_is = refl

  -- ---- the call that the words make

  abbrev place_in : ℕ → Place
  place_in k = place_with (words.base k) (words.stride k)

  place_same : (k : ℕ) → place_in k ≡ place_of_slot entry.dests call k
  place_same k =
      let p : Place = place_of_slot entry.dests call k in
      ap (λ z. record { base = p.base; stride = z }) (to_z-of_z w64 p.stride (stride_at items _ c.strides))

  dest_list : dest_places ≡ map place_in (range_with_len 0 entry.dests)
  dest_list = fill_by_all place_in dest_places entry.dests no_place dests_long
      (λ k l. get_or-take entry.dests items k no_place l
      ∙ sym (place_same k ∙ ap (λ b. slice_index_or items (if b then k else entry.dests + (k - 4)) no_place) (lt-ltb k 4 (omega (arith, l, few_dests)))))

  source_list : source_places ≡ map place_in (range_with_len 4 entry.sources)
  source_list = ext_get_or no_place source_places (map place_in (range_with_len 4 entry.sources)) (sources_long ∙ sym (length-map-range_with_len place_in 4 entry.sources))
      (λ k l. let inside : k < entry.sources = omega (arith, l, sources_long) in
      get_or-drop entry.dests items k no_place
      ∙ sym (get_or-map-range_with_len place_in 4 entry.sources k (4 + k) no_place inside refl
      ∙ place_same (4 + k)
      ∙ ap (λ b. slice_index_or items (if b then 4 + k else entry.dests + (4 + k - 4)) no_place) (le-ltb (4 + k) 4 (omega arith))
      ∙ ap (λ i. slice_index_or items (entry.dests + i) no_place) (let q : 4 + k - 4 ≡ k = omega arith in q)))

  arrays_same : map place_in (slots f.vars) ≡ items
  arrays_same =
      map-append place_in (range_with_len 0 (count_of kind.Dest f.vars)) (range_with_len 4 (count_of kind.Source f.vars))
      ∙ ap₂ (λ d s. map place_in (range_with_len 0 d) ++ map place_in (range_with_len 4 s)) (sym c.dests) (sym c.sources)
      ∙ ap₂ (λ xs ys. xs ++ ys) (sym dest_list) (sym source_list)
      ∙ take-append-drop entry.dests items

  params_same : map words.param (range_with_len 0 (count_of kind.Param f.vars)) ≡ numbers
  params_same = sym (fill_by_all words.param numbers (count_of kind.Param f.vars) 0 (c.numbers ∙ c.params) (λ k l. refl))

  pub call_same : call_with f words ≡ call
  call_same = ap₂ (λ xs ys. record { n = call.n; m = call.m; arrays = record { items = xs }; params = record { items = ys } }) arrays_same params_same

  -- ---- a memory on which it begins

  -- block k, its return word and its frame are in a memory that has besides them the cells of good arrays alone, below the code
  pub record IsPlaced (k : ℕ) (mem : Memory) : Type 0 where
    pub block : (i : ℕ) → i < 304 → mem (block_of k + i) ≡ Some (get_or (block_bytes entry.dests call) i 0)
    pub return : (i : ℕ) → i < 8 → mem (stack_of k + i) ≡ Some (get_or (word_bytes return_to) i 0)
    pub frame : (a : ℕ) → InFrame (stack_of k - frame_size) a → IsMapped mem a
    pub arrays : GoodArrays f (call_with f words) mem
    pub low : (a : ℕ) → IsCellByte f (call_with f words) a → a < code_at
    pub no_more : (a : ℕ) → IsMapped mem a → IsCellByte f (call_with f words) a ⊎ (InBlock (block_of k) a ⊎ (InReturn (stack_of k) a ⊎ InFrame (stack_of k - frame_size) a))
    pub bytes : (a v : ℕ) → mem a ≡ Some v → v < 256
    pub facts : (subject_of f).facts words ≡ true

  module _ (k : ℕ) (few_parts : k ≤ 64) (mem : Memory) (h : IsPlaced k mem) where
    abbrev at : ℕ
    at = block_of k

    abbrev stack : ℕ
    stack = stack_of k

    abbrev begin : Point
    begin = point_of (state_at at stack) mem

    block_word : (d v : ℕ) → d + 8 ≤ 304 → v < 2 ^ 64 → HasWord block d v → word mem (at + d) ≡ Some v
    block_word d v l small w = word_value mem (at + d) v (omega (arith, l, few_parts)) small
        (λ j m. ap mem (let q : at + d + j ≡ at + (d + j) = omega arith in q) ∙ h.block (d + j) (omega (arith, l, m)) ∙ ap (λ b. Some (get_or b (d + j) 0)) block_is ∙ ap Some (w j m))

    slot_low : (k : ℕ) → IsArray (subject_of f) k → 24 + 16 * k + 8 ≤ 304
    slot_low k (inl l) = omega (arith, l, c.dests, few_dests)
    slot_low k (inr l) = omega (arith, l, c.sources, few_sources)

    reads : ReadsCall (subject_of f) begin.core words
    reads = record {
      n = subst (λ a. word mem a ≡ Some call.n) (let q : at + 0 ≡ at = omega arith in q) (block_word 0 call.n (lit≤ tt) c.n n_word);
      m = block_word 8 call.m (lit≤ tt) c.m m_word;
      bases = λ k a. block_word (16 + 16 * k) (words.base k) (let l = slot_low k a in omega (arith, l)) (c.bases _) (slot_place k a).0;
      strides = λ k a. block_word (24 + 16 * k) (words.stride k) (slot_low k a) (unsigned_small _ (stride_at items _ c.strides)) (slot_place k a).1;
      params = λ j l. block_word (208 + 8 * j) (words.param j) (let p = few_params in omega (arith, l, c.params, c.numbers, p)) (c.words j) (param_at j (omega (arith, l, c.params, c.numbers)));
    }

    between : (low count a : ℕ) → low ≤ a → a < low + count → (i : ℕ) × (i < count) × (low + i ≡ a)
    between low count a l m = (a - low, omega (arith, l, m), omega (arith, l))

    mapped_from : (low count : ℕ) (bytes : List ℕ) → ((i : ℕ) → i < count → mem (low + i) ≡ Some (get_or bytes i 0)) → (a : ℕ) → low ≤ a → a < low + count → IsMapped mem a
    mapped_from low count bytes e a l m =
        let b = between low count a l m in
        subst (IsMapped mem) b.2 (ap is_some (e b.0 b.1))

    disjoint : Disjoint (subject_of f) (placed_code entry) begin.core words
    disjoint = record {
      cells = λ a b. let low = h.low a b in (
        (λ x. omega (arith, low, x)),
        (λ x. omega (arith, low, x)),
        (λ x. omega (arith, low, x)),
        (λ x. omega (arith, low, x)),
      );
      block = λ a b. ((λ x. omega (arith, b, x)), (λ x. omega (arith, b, x)), (λ x. omega (arith, b, x, c.short)));
      return = λ a b x. omega (arith, b, x, c.short);
      frame = λ a b x. omega (arith, b, x, c.short);
    }

    pub begins : GoodCall (subject_of f) (placed_code entry) begin words return_to
    begins = record {
      first = refl;
      reads = reads;
      returns = word_value mem stack return_to (omega (arith, few_parts)) (lit< tt) (λ j m. h.return j m ∙ ap Some (in_word return_to j m));
      arrays = h.arrays;
      facts = h.facts;
      block = λ a b. mapped_from at 304 (block_bytes entry.dests call) h.block a b.0 b.1;
      return = λ a b. mapped_from stack 8 (word_bytes return_to) h.return a b.0 b.1;
      frame = h.frame;
      no_more = h.no_more;
      disjoint = disjoint;
      block_low = omega (arith, few_parts);
      return_low = omega (arith, few_parts);
      frame_room = omega arith;
      code_low = let s = c.short in omega (arith, s);
      bounded = record {
        gpr = registers_small at stack (omega (arith, few_parts)) (omega (arith, few_parts));
        xmm = vectors_small;
        size = λ r l. ap length (get_or-replicate 16 r (replicate 16 filler) [] l);
        memory = h.bytes;
      };
    }
