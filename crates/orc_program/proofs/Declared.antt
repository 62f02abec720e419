-- One more variable: instructions mean the same, since each operand stands for an earlier one.
use Rattle.std.proofs.Common.{◌≡◌, ℕ, zero, suc, ◌+◌, ◌*◌, ◌<◌, ◌≤◌, ◌==◌, ◌&&◌, ◌||◌, Bool, true, false, not, List, [], ◌∷◌, ◌++◌, Option, Some, None, refl, sym, ap, ◌∙◌, subst, arith, length, length-append, true≢false, fold, map, nat_lt, nat_le, ◌^◌, if◌then◌else◌}
use Rattle.std.specs.List.{list_all, list_any, cons_option}
use Rattle.std.specs.Str.{bytes_eq}
use Rattle.std.proofs.lemmas.Bool.Decides.{nat_tests}
use Rattle.std.proofs.lemmas.List.{map-append}
use Rattle.std.proofs.lemmas.List.Folds.{list_all-append, list_any-append}
use Rattle.std.proofs.lemmas.List.Sums.{sum_by-append}
use Rattle.orc_ops.specs.declared.opcode.Op.{Op}
use Rattle.orc_ops.specs.Table.{row, size_of_result, size_of_source}
use Rattle.orc_program.specs.declared.program.Var.{Var}
use Rattle.orc_program.specs.declared.program.VarKind.{VarKind}
use Rattle.orc_program.specs.declared.program.VarKind.TheVariants as kind
use Rattle.orc_program.specs.declared.program.Operand.{Operand}
use Rattle.orc_program.specs.declared.program.Operand.TheVariants as operand
use Rattle.orc_program.specs.declared.program.Insn.{Insn}
use Rattle.orc_program.specs.declared.program.Pattern.{Pattern}
use Rattle.orc_program.specs.declared.fault.Fault.TheVariants as fault
use Rattle.orc_program.specs.Words.{Word}
use Rattle.orc_program.specs.Program.{var_at, is_of, count_of, same_kind, place_from, place_of}
use Rattle.orc_program.specs.Checks.{check, or_else, is_bad_prefix, is_scalar, is_set, result_kind_fault, source_kind_fault, result_fault, source_fault, results_fault, sources_fault, number_in, way_of, pattern_with, uses_from, add_pattern, add_patterns, patterns_of, insn_fault, most_insns, most_patterns}
use Rattle.orc_program.specs.Kept.{is_in_range, is_shaped, all_pass, has_no_fault, has_few, most_of, keeps_limits, all_distinct, result_count, source_count}
use Rattle.orc_program.proofs.Sizes.{both}

pub both_hold : (a b : Bool) → a ≡ true → b ≡ true → a && b ≡ true
both_hold a b x y = ap (λ c. c && b) x ∙ y

below : (p n : ℕ) → nat_lt p n ≡ true → p < n
below p n h = grind (arith, nat_tests, h)

is_below : (p n : ℕ) → p < n → nat_lt p n ≡ true
is_below p n h = grind (arith, nat_tests, h)

-- what stands at a place stays there
pub at_more : (vars more : List Var) (p : ℕ) → p < length vars → var_at (vars ++ more) p ≡ var_at vars p
at_more [] more p l = absurd (omega (arith, l))
at_more (v ∷ vars) more zero l = refl
at_more (v ∷ vars) more (suc p) l = at_more vars more p (omega (arith, l))

module _ (vars more : List Var) where
  range_more : (o : Operand) → is_in_range vars o ≡ true → is_in_range (vars ++ more) o ≡ true
  range_more (operand.Number n) h = h
  range_more (operand.Var p) h =
      let l = below p (length vars) h in
      is_below p (length (vars ++ more)) (omega (arith, length-append vars more, l))

  ranges_more : (os : List Operand) → list_all (is_in_range vars) os ≡ true → list_all (is_in_range (vars ++ more)) os ≡ true
  ranges_more [] h = refl
  ranges_more (o ∷ os) h =
      let a = both (is_in_range vars o) (list_all (is_in_range vars) os) h in
      both_hold (is_in_range (vars ++ more) o) (list_all (is_in_range (vars ++ more)) os) (range_more o a.0) (ranges_more os a.1)

  -- ---- faults of operands

  result_more : (op : Op) (prefix k : ℕ) (o : Operand) → is_in_range vars o ≡ true → result_fault (vars ++ more) op prefix k o ≡ result_fault vars op prefix k o
  result_more op prefix k (operand.Number n) h = refl
  result_more op prefix k (operand.Var p) h =
      ap (λ (v : Var). or_else (result_kind_fault (row op).kind (Some v.kind)) (check (not (is_scalar (Some v.kind)) && not (v.size == size_of_result op k * prefix)) fault.SizeMismatch))
      (at_more vars more p (below p (length vars) h))

  source_more : (earlier : List Insn) (op : Op) (prefix k : ℕ) (o : Operand) → is_in_range vars o ≡ true → source_fault (vars ++ more) earlier op prefix k o ≡ source_fault vars earlier op prefix k o
  source_more earlier op prefix k (operand.Number n) h = refl
  source_more earlier op prefix k (operand.Var p) h =
      ap (λ (v : Var). or_else (source_kind_fault (row op).kind k (Some v.kind)) (or_else (check (not (is_scalar (Some v.kind)) && not (v.size == size_of_source op k * prefix)) fault.SizeMismatch) (check (is_of kind.Temp v && not (is_set earlier p)) fault.Unset)))
      (at_more vars more p (below p (length vars) h))

  results_more : (op : Op) (prefix k : ℕ) (os : List Operand) → list_all (is_in_range vars) os ≡ true → results_fault (vars ++ more) op prefix k os ≡ results_fault vars op prefix k os
  results_more op prefix k [] h = refl
  results_more op prefix k (o ∷ os) h =
      let a = both (is_in_range vars o) (list_all (is_in_range vars) os) h in
      ap (λ x. or_else x (results_fault (vars ++ more) op prefix (k + 1) os)) (result_more op prefix k o a.0)
      ∙ ap (or_else (result_fault vars op prefix k o)) (results_more op prefix (k + 1) os a.1)

  sources_more : (earlier : List Insn) (op : Op) (prefix k : ℕ) (os : List Operand) → list_all (is_in_range vars) os ≡ true → sources_fault (vars ++ more) earlier op prefix k os ≡ sources_fault vars earlier op prefix k os
  sources_more earlier op prefix k [] h = refl
  sources_more earlier op prefix k (o ∷ os) h =
      let a = both (is_in_range vars o) (list_all (is_in_range vars) os) h in
      ap (λ x. or_else x (sources_fault (vars ++ more) earlier op prefix (k + 1) os)) (source_more earlier op prefix k o a.0)
      ∙ ap (or_else (source_fault vars earlier op prefix k o)) (sources_more earlier op prefix (k + 1) os a.1)

  -- ---- patterns

  number_more : (o : Operand) → is_in_range vars o ≡ true → number_in (vars ++ more) o ≡ number_in vars o
  number_more (operand.Number n) h = refl
  number_more (operand.Var p) h =
      ap (λ (v : Var). if is_of kind.Param v then Some (operand.Var p) else (if is_of kind.Const v then Some (operand.Number v.number) else None))
      (at_more vars more p (below p (length vars) h))

  uses_more : (op : Op) (k : ℕ) (os : List Operand) → list_all (is_in_range vars) os ≡ true → uses_from (vars ++ more) op k os ≡ uses_from vars op k os
  uses_more op k [] h = refl
  uses_more op k (o ∷ os) h =
      let a = both (is_in_range vars o) (list_all (is_in_range vars) os) h in
      ap (λ (n : Option Operand). cons_option (pattern_with (way_of op k) n) (uses_from (vars ++ more) op (k + 1) os)) (number_more o a.0)
      ∙ ap (cons_option (pattern_with (way_of op k) (number_in vars o))) (uses_more op (k + 1) os a.1)

  abbrev reads_known : Insn → Bool
  reads_known insn = list_all (is_in_range vars) insn.sources.items

  added_more : (known : List Pattern) (insn : Insn) → reads_known insn ≡ true → add_patterns (vars ++ more) known insn ≡ add_patterns vars known insn
  added_more known insn h = ap (fold add_pattern known) (uses_more insn.op 0 insn.sources.items h)

  all_added_more : (known : List Pattern) (insns : List Insn) → list_all reads_known insns ≡ true → fold (add_patterns (vars ++ more)) known insns ≡ fold (add_patterns vars) known insns
  all_added_more known [] h = refl
  all_added_more known (insn ∷ insns) h =
      let a = both (reads_known insn) (list_all reads_known insns) h in
      ap (λ (ps : List Pattern). fold (add_patterns (vars ++ more)) ps insns) (added_more known insn a.0) ∙ all_added_more (add_patterns vars known insn) insns a.1

  patterns_same : (insns : List Insn) → list_all reads_known insns ≡ true → patterns_of (vars ++ more) insns ≡ patterns_of vars insns
  unfolding patterns_of
  patterns_same insns h = all_added_more [] insns h

  -- ---- instructions

  record Shaped (insn : Insn) : Type 0 where
    prefix : (insn.prefix == 1 || (insn.prefix == 2 || insn.prefix == 4)) ≡ true
    results : (length insn.results.items == result_count insn.op) ≡ true
    sources : (length insn.sources.items == source_count insn.op) ≡ true
    writes : list_all (is_in_range vars) insn.results.items ≡ true
    reads : list_all (is_in_range vars) insn.sources.items ≡ true
    line : nat_lt insn.line (2 ^ 32) ≡ true

  shaped_of : (insn : Insn) → is_shaped vars insn ≡ true → Shaped insn
  shaped_of insn h =
      let prefix = insn.prefix == 1 || (insn.prefix == 2 || insn.prefix == 4) in
      let results = length insn.results.items == result_count insn.op in
      let sources = length insn.sources.items == source_count insn.op in
      let writes = list_all (is_in_range vars) insn.results.items in
      let reads = list_all (is_in_range vars) insn.sources.items in
      let line = nat_lt insn.line (2 ^ 32) in
      let a = both prefix (results && (sources && (writes && (reads && line)))) h in
      let b = both results (sources && (writes && (reads && line))) a.1 in
      let c = both sources (writes && (reads && line)) b.1 in
      let d = both writes (reads && line) c.1 in
      let e = both reads line d.1 in
      record { prefix = a.0; results = b.0; sources = c.0; writes = d.0; reads = e.0; line = e.1 }

  shaped_more : (insn : Insn) → is_shaped vars insn ≡ true → is_shaped (vars ++ more) insn ≡ true
  shaped_more insn h =
      let s = shaped_of insn h in
      let results = length insn.results.items == result_count insn.op in
      let sources = length insn.sources.items == source_count insn.op in
      let writes = list_all (is_in_range (vars ++ more)) insn.results.items in
      let reads = list_all (is_in_range (vars ++ more)) insn.sources.items in
      let line = nat_lt insn.line (2 ^ 32) in
      both_hold (insn.prefix == 1 || (insn.prefix == 2 || insn.prefix == 4)) (results && (sources && (writes && (reads && line)))) s.prefix
      (both_hold results (sources && (writes && (reads && line))) s.results
      (both_hold sources (writes && (reads && line)) s.sources
      (both_hold writes (reads && line) (ranges_more insn.results.items s.writes)
      (both_hold reads line (ranges_more insn.sources.items s.reads) s.line))))

  fault_same : (earlier : List Insn) (insn : Insn) → is_shaped vars insn ≡ true → list_all reads_known (earlier ++ insn ∷ []) ≡ true → insn_fault (vars ++ more) earlier insn ≡ insn_fault vars earlier insn
  unfolding insn_fault
  fault_same earlier insn h known =
      let s = shaped_of insn h in
      let bad = check (is_bad_prefix insn.op insn.prefix) fault.BadPrefix in
      let wrote = results_fault vars insn.op insn.prefix 0 insn.results.items in
      let read = sources_fault vars earlier insn.op insn.prefix 0 insn.sources.items in
      let many = λ (ps : List Pattern). or_else (check (nat_le most_insns (length earlier) || nat_lt most_patterns (length ps)) fault.TooMany) None in
      ap (λ x. or_else bad (or_else x (or_else (sources_fault (vars ++ more) earlier insn.op insn.prefix 0 insn.sources.items) (many (patterns_of (vars ++ more) (earlier ++ insn ∷ [])))))) (results_more insn.op insn.prefix 0 insn.results.items s.writes)
      ∙ ap (λ x. or_else bad (or_else wrote (or_else x (many (patterns_of (vars ++ more) (earlier ++ insn ∷ [])))))) (sources_more earlier insn.op insn.prefix 0 insn.sources.items s.reads)
      ∙ ap (λ (ps : List Pattern). or_else bad (or_else wrote (or_else read (many ps)))) (patterns_same (earlier ++ insn ∷ []) known)

  pub all_pass_same : (earlier insns : List Insn) → list_all reads_known earlier ≡ true → all_pass vars earlier insns ≡ true → all_pass (vars ++ more) earlier insns ≡ true
  all_pass_same earlier [] known h = refl
  all_pass_same earlier (insn ∷ insns) known h =
      let a = both (is_shaped vars insn) (has_no_fault (insn_fault vars earlier insn) && all_pass vars (earlier ++ insn ∷ []) insns) h in
      let b = both (has_no_fault (insn_fault vars earlier insn)) (all_pass vars (earlier ++ insn ∷ []) insns) a.1 in
      let s = shaped_of insn a.0 in
      let here = both_hold (reads_known insn) true s.reads refl in
      let all : list_all reads_known (earlier ++ insn ∷ []) ≡ true = list_all-append reads_known earlier (insn ∷ []) ∙ both_hold (list_all reads_known earlier) (list_all reads_known (insn ∷ [])) known here in
      let same = fault_same earlier insn a.0 all in
      both_hold (is_shaped (vars ++ more) insn) (has_no_fault (insn_fault (vars ++ more) earlier insn) && all_pass (vars ++ more) (earlier ++ insn ∷ []) insns) (shaped_more insn a.0)
      (both_hold (has_no_fault (insn_fault (vars ++ more) earlier insn)) (all_pass (vars ++ more) (earlier ++ insn ∷ []) insns) (ap has_no_fault same ∙ b.0)
      (all_pass_same (earlier ++ insn ∷ []) insns all b.1))

-- ---- names

or_false : (a b : Bool) → a || b ≡ false → (a ≡ false) × (b ≡ false)
or_false true b h = absurd (true≢false h)
or_false false b h = (refl, h)

both_false : (a b : Bool) → a ≡ false → b ≡ false → a || b ≡ false
both_false a b x y = ap (λ c. c || b) x ∙ y

pub distinct_more : (ws : List Word) (w : Word) → all_distinct ws ≡ true → list_any (λ x. bytes_eq x w) ws ≡ false → all_distinct (ws ++ w ∷ []) ≡ true
distinct_more [] w h none = refl
distinct_more (x ∷ ws) w h none =
    let a = both (not (list_any (bytes_eq x) ws)) (all_distinct ws) h in
    let n = or_false (bytes_eq x w) (list_any (λ y. bytes_eq y w) ws) none in
    let old : list_any (bytes_eq x) ws ≡ false = not_true (list_any (bytes_eq x) ws) a.0 in
    let new : bytes_eq x w || false ≡ false = both_false (bytes_eq x w) false n.0 refl in
    let all : list_any (bytes_eq x) (ws ++ w ∷ []) ≡ false = list_any-append (bytes_eq x) ws (w ∷ []) ∙ both_false (list_any (bytes_eq x) ws) (bytes_eq x w || false) old new in
    both_hold (not (list_any (bytes_eq x) (ws ++ w ∷ []))) (all_distinct (ws ++ w ∷ [])) (ap not all) (distinct_more ws w a.1 n.1)
  where
    not_true : (b : Bool) → not b ≡ true → b ≡ false
    not_true true e = absurd (true≢false (sym e))
    not_true false e = refl

-- the names of variables
abbrev names : List Var → List Word
names vars = map (λ (v : Var). v.name) vars

unnamed : (word : Word) (p : ℕ) (vars : List Var) → place_from word p vars ≡ None → list_any (λ x. bytes_eq x word) (names vars) ≡ false
unnamed word p [] h = refl
unnamed word p (v ∷ vars) h = go (bytes_eq v.name word) refl (unnamed word (p + 1) vars) h
  where
    some_none : Some p ≡ None → ⊥
    some_none e = cc

    go : (b : Bool) → bytes_eq v.name word ≡ b → (place_from word (p + 1) vars ≡ None → list_any (λ x. bytes_eq x word) (names vars) ≡ false) → (if b then Some p else place_from word (p + 1) vars) ≡ None → bytes_eq v.name word || list_any (λ x. bytes_eq x word) (names vars) ≡ false
    go true e rest h = absurd (some_none h)
    go false e rest h = both_false (bytes_eq v.name word) (list_any (λ x. bytes_eq x word) (names vars)) e (rest h)

pub names_more : (vars : List Var) (v : Var) → all_distinct (names vars) ≡ true → place_of v.name vars ≡ None → all_distinct (names (vars ++ v ∷ [])) ≡ true
names_more vars v h none =
    subst (λ (ws : List Word). all_distinct ws ≡ true) (sym (map-append (λ (x : Var). x.name) vars (v ∷ []))) (distinct_more (names vars) v.name h (unnamed v.name 0 vars none))

-- ---- limits

same_kind_is : (a b : VarKind) → same_kind a b ≡ true → a ≡ b
same_kind_is kind.Source kind.Source h = refl
same_kind_is kind.Dest kind.Dest h = refl
same_kind_is kind.Accumulator kind.Accumulator h = refl
same_kind_is kind.Param kind.Param h = refl
same_kind_is kind.Const kind.Const h = refl
same_kind_is kind.Temp kind.Temp h = refl
same_kind_is a b h = absurd (true≢false (sym h))

module _ (vars : List Var) (v : Var) (room : count_of v.kind vars < most_of v.kind) where
  count_more : (k : VarKind) → count_of k (vars ++ v ∷ []) ≡ count_of k vars + (if is_of k v then 1 else 0)
  count_more k = sum_by-append (λ (x : Var). if is_of k x then 1 else 0) vars (v ∷ []) ∙ ap (λ n. count_of k vars + n) (omega arith)

  few_more : (k : VarKind) → has_few vars k ≡ true → has_few (vars ++ v ∷ []) k ≡ true
  few_more k h = go (is_of k v) refl
    where
      at_most : count_of k vars ≤ most_of k
      at_most = grind (arith, nat_tests, h)

      go : (b : Bool) → is_of k v ≡ b → has_few (vars ++ v ∷ []) k ≡ true
      go true e =
          let l : count_of k vars < most_of k = subst (λ (l : VarKind). count_of l vars < most_of l) (sym (same_kind_is k v.kind e)) room in
          let c : count_of k (vars ++ v ∷ []) ≡ count_of k vars + 1 = count_more k ∙ ap (λ (b : Bool). count_of k vars + (if b then 1 else 0)) e in
          grind (arith, nat_tests, l, c)
      go false e =
          let c : count_of k (vars ++ v ∷ []) ≡ count_of k vars + 0 = count_more k ∙ ap (λ (b : Bool). count_of k vars + (if b then 1 else 0)) e in
          grind (arith, nat_tests, at_most, c)

  pub limits_more : keeps_limits vars ≡ true → keeps_limits (vars ++ v ∷ []) ≡ true
  limits_more h =
      let all = has_few vars in
      let a = both (all kind.Source) (all kind.Dest && (all kind.Accumulator && (all kind.Param && (all kind.Const && (all kind.Temp && true))))) h in
      let b = both (all kind.Dest) (all kind.Accumulator && (all kind.Param && (all kind.Const && (all kind.Temp && true)))) a.1 in
      let c = both (all kind.Accumulator) (all kind.Param && (all kind.Const && (all kind.Temp && true))) b.1 in
      let d = both (all kind.Param) (all kind.Const && (all kind.Temp && true)) c.1 in
      let e = both (all kind.Const) (all kind.Temp && true) d.1 in
      let g = both (all kind.Temp) true e.1 in
      let new = has_few (vars ++ v ∷ []) in
      both_hold (new kind.Source) (new kind.Dest && (new kind.Accumulator && (new kind.Param && (new kind.Const && (new kind.Temp && true))))) (few_more kind.Source a.0)
      (both_hold (new kind.Dest) (new kind.Accumulator && (new kind.Param && (new kind.Const && (new kind.Temp && true)))) (few_more kind.Dest b.0)
      (both_hold (new kind.Accumulator) (new kind.Param && (new kind.Const && (new kind.Temp && true))) (few_more kind.Accumulator c.0)
      (both_hold (new kind.Param) (new kind.Const && (new kind.Temp && true)) (few_more kind.Param d.0)
      (both_hold (new kind.Const) (new kind.Temp && true) (few_more kind.Const e.0)
      (both_hold (new kind.Temp) true (few_more kind.Temp g.0) refl)))))
