-- Each name is found as its opcode's, and each refused name is refused.
use Rattle.std.proofs.Common.{◌≡◌, ◌↔◌, ℕ, List, [], ◌∷◌, Bool, true, false, if◌then◌else◌, Option, Some, None, refl, sym, ap, ◌∙◌, true≢false}
use Rattle.std.specs.Prelude.{Contains}
use Rattle.std.specs.List.{list_all, list_any}
use Rattle.std.specs.Str.{bytes_eq}
use Rattle.std.proofs.lemmas.Slice.Eq.{bytes_eq-Decides}
use Rattle.std.proofs.lemmas.List.Sums.{AllPass-from_list_all}
use Rattle.std.proofs.lemmas.List.Elements.{All-contains}
use Rattle.std.proofs.lemmas.Map.Views.{Contains-from_any}
use Rattle.orc_ops.specs.declared.opcode.Op.{Op}
use Rattle.orc_ops.specs.declared.opcode.Op.TheVariants as op
use Rattle.orc_ops.specs.declared.lookup.Found.{Found}
use Rattle.orc_ops.specs.declared.lookup.Found.TheVariants as found
use Rattle.orc_ops.specs.Table.{row}
use Rattle.orc_ops.specs.Names.{refused, all_opcodes, find_among, found_as, find_op}

-- computed at each opcode
own_name : (o : Op) → find_op (row o).name ≡ found.Yes o
unfolding find_op
own_name op.Absb = refl
own_name o = refl

abbrev is_unsupported : Found → Bool
is_unsupported (found.Yes o) = false
is_unsupported found.Unsupported = true
is_unsupported found.Unknown = false

-- computed at each refused name
all_refused : list_all (λ word. is_unsupported (find_op word)) refused ≡ true
unfolding find_op
all_refused = refl

unsupported : (f : Found) → is_unsupported f ≡ true → f ≡ found.Unsupported
unsupported (found.Yes o) e = absurd (true≢false (sym e))
unsupported found.Unsupported e = refl
unsupported found.Unknown e = absurd (true≢false (sym e))

abbrev op_of : Op → Found → Op
op_of d (found.Yes o) = o
op_of d other = d

same_op : (o p : Op) → found.Yes o ≡ found.Yes p → o ≡ p
same_op o p e = ap (op_of o) e

other_answer : (o : Op) → found.Yes o ≡ found.Unsupported → ⊥
other_answer o e = true≢false (sym (ap is_unsupported e))

first_or_rest : (p o : Op) (os : List Op) (word : List ℕ) → (find_among os word ≡ Some o → word ≡ (row o).name) → (t : Bool) → bytes_eq (row p).name word ≡ t → (if t then Some p else find_among os word) ≡ Some o → word ≡ (row o).name
first_or_rest p o os word rest true h e = sym ((bytes_eq-Decides (row p).name word).0 h) ∙ ap (λ q. (row q).name) (let f : p ≡ o = cc in f)
first_or_rest p o os word rest false h e = rest e

has_name : (os : List Op) (word : List ℕ) (o : Op) → find_among os word ≡ Some o → word ≡ (row o).name
has_name [] word o e = absurd (let f : ⊥ = cc in f)
has_name (p ∷ os) word o e = first_or_rest p o os word (has_name os word o) (bytes_eq (row p).name word) refl e

pub yes_is_name : (word : List ℕ) (o : Op) → (find_op word ≡ found.Yes o) ↔ (word ≡ (row o).name)
unfolding find_op
yes_is_name word o = (there (find_among all_opcodes word) refl, λ e. ap find_op e ∙ own_name o)
  where
    none : (t : Bool) → (if t then found.Unsupported else found.Unknown) ≡ found.Yes o → word ≡ (row o).name
    none true e = absurd (let f : ⊥ = cc in f)
    none false e = absurd (let f : ⊥ = cc in f)

    there : (a : Option Op) → find_among all_opcodes word ≡ a → found_as a word ≡ found.Yes o → word ≡ (row o).name
    there (Some p) h e = has_name all_opcodes word o (h ∙ ap (λ q. Some q) (same_op p o e))
    there None h e = none (list_any (bytes_eq word) refused) e

pub unsupported_is_refused : (word : List ℕ) → (find_op word ≡ found.Unsupported) ↔ Contains refused word
unfolding find_op
unsupported_is_refused word = (there (find_among all_opcodes word), λ h. unsupported (find_op word) (All-contains (λ w. is_unsupported (find_op w) ≡ true) refused word (AllPass-from_list_all (λ w. is_unsupported (find_op w)) refused all_refused) h))
  where
    none : (t : Bool) → list_any (bytes_eq word) refused ≡ t → (if t then found.Unsupported else found.Unknown) ≡ found.Unsupported → Contains refused word
    none true h e = Contains-from_any (λ x y. (bytes_eq-Decides x y).0) word refused h
    none false h e = absurd (let f : ⊥ = cc in f)

    there : (a : Option Op) → found_as a word ≡ found.Unsupported → Contains refused word
    there (Some p) e = absurd (other_answer p e)
    there None e = none (list_any (bytes_eq word) refused) refl e
