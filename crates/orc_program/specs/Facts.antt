-- Facts of the caller: what `.n`, `.m` and the `align` of arrays state of every call.
use Rattle.std.specs.Prelude.{ℕ, ◌+◌, ◌-◌, ◌*◌, ◌/◌, ◌%◌, ◌^◌, Bool, true, false, not, ◌&&◌, ◌||◌, ◌==◌, nat_lt, nat_le, List, [], ◌∷◌, ◌++◌, Option, Some, None, if◌then◌else◌, codes, length, filter, map, unwrap_or, zero, suc}
use Rattle.std.specs.List.{fold, list_all}
use Rattle.std.specs.Int.{cast_unsigned, w64}
use Rattle.std.specs.Str.{bytes_eq}
use Rattle.orc_program.specs.declared.program.Var.{Var}
use Rattle.orc_program.specs.declared.program.VarKind.{VarKind}
use Rattle.orc_program.specs.declared.program.VarKind.TheVariants as kind
use Rattle.orc_program.specs.declared.call.Call.{Call}
use Rattle.orc_program.specs.declared.call.Place.{Place}
use Rattle.orc_program.specs.declared.known.CountFacts.{CountFacts}
use Rattle.orc_program.specs.declared.known.Facts.{Facts}
use Rattle.orc_program.specs.declared.stated.Claim.{Claim}
use Rattle.orc_program.specs.declared.stated.Claim.TheVariants as claim
use Rattle.orc_program.specs.Words.{Word, number_of, is_align, is_count_word}
use Rattle.orc_program.specs.Notes.{is_align_number}
use Rattle.orc_program.specs.Program.{FunctionValue, is_of}

-- ---- what a count meets

-- the greatest count
abbrev pub most_count : ℕ
most_count = 2 ^ 31 - 1

-- nothing is stated
abbrev pub free : CountFacts
free = record { exact = 0; mult = 1; min = 0; max = most_count }

-- a divisor and bounds that state nothing
abbrev pub is_unbounded : CountFacts → Bool
is_unbounded facts = facts.mult == 1 && (facts.min == 0 && facts.max == most_count)

-- A count meets facts where it is the exact number, if there is one; where mult divides it; and where it lies between min and max.
abbrev pub meets : CountFacts → ℕ → Bool
meets facts c = (facts.exact == 0 || facts.exact == c) && (c % facts.mult == 0 && (nat_le facts.min c && nat_le c facts.max))

-- the least multiple that isn't below a number
abbrev pub least_multiple : ℕ → ℕ → ℕ
least_multiple mult n = mult * ((n + (mult - 1)) / mult)

-- what a type keeps of such facts: some count meets them, and with an exact number the other three state nothing
abbrev pub is_count_facts : CountFacts → Bool
is_count_facts facts = nat_le facts.exact most_count && (nat_le 1 facts.mult && (nat_le facts.mult most_count && (nat_le facts.min most_count && (nat_le facts.max most_count && (nat_le (least_multiple facts.mult facts.min) facts.max && (facts.exact == 0 || is_unbounded facts))))))

-- ---- what a call meets

-- an array's base, and where the function has rows its stride, are multiples of an align
abbrev pub is_aligned : Bool → ℕ → Place → Bool
is_aligned two_d align place = place.base % align == 0 && (not two_d || cast_unsigned w64 place.stride % align == 0)

-- so each array of a call
abbrev pub are_aligned : Bool → List ℕ → List Place → Bool
are_aligned two_d (a ∷ aligns) (p ∷ places) = is_aligned two_d a p && are_aligned two_d aligns places
are_aligned two_d aligns places = true

-- A call meets facts where n does, where m does if there are rows, and where each array is aligned.
abbrev pub call_meets : Facts → Bool → Call → Bool
call_meets facts two_d call = meets facts.n call.n && ((not two_d || meets facts.m call.m) && are_aligned two_d facts.aligns.items call.arrays.items)

-- ---- the words after `.n` and `.m`

abbrev pub same_claim : Claim → Claim → Bool
same_claim claim.Exact claim.Exact = true
same_claim claim.Multiple claim.Multiple = true
same_claim claim.Least claim.Least = true
same_claim claim.Greatest claim.Greatest = true
same_claim a b = false

-- what `mult`, `min` or `max` says of the number behind it
abbrev pub claim_of : Word → Claim
claim_of w = if bytes_eq w (codes "mult") then claim.Multiple else (if bytes_eq w (codes "min") then claim.Least else claim.Greatest)

-- the number words of a line in order, each with what it says: a number by itself is the count
abbrev pub claims : List Word → List (Claim × Word)
claims [] = []
claims (w ∷ []) = (claim.Exact, w) ∷ []
claims (w ∷ v ∷ ws) = if is_count_word w then (claim_of w, v) ∷ claims ws else (claim.Exact, w) ∷ claims (v ∷ ws)

-- of numbers that say this, the later one
abbrev pub later : Claim → Option ℕ → Claim × Word → Option ℕ
later c last said = if same_claim c said.0 then number_of said.1 else last

-- the last of a line's numbers that says this
abbrev pub last_of : Claim → List Word → Option ℕ
last_of c ws = fold (later c) None (claims ws)

-- a number counts only from 1 to 2^31 - 1
abbrev pub counted : Option ℕ → Option ℕ
counted None = None
counted (Some n) = if nat_le 1 n && nat_le n most_count then Some n else None

abbrev pub stated : Claim → List Word → Option ℕ
stated c ws = counted (last_of c ws)

-- a divisor and bounds; they state nothing where no count meets them
abbrev pub within : ℕ → ℕ → ℕ → CountFacts
within mult least greatest = if nat_lt greatest (least_multiple mult least) then free else record { exact = 0; mult = mult; min = least; max = greatest }

-- with an exact number the others are free
abbrev pub exactly_or : CountFacts → Option ℕ → CountFacts
exactly_or facts None = facts
exactly_or facts (Some n) = record { exact = n; mult = 1; min = 0; max = most_count }

-- what the words of a `.n` or `.m` line state
abbrev pub line_states : List Word → CountFacts
line_states ws = exactly_or (within (unwrap_or (stated claim.Multiple ws) 1) (unwrap_or (stated claim.Least ws) 0) (unwrap_or (stated claim.Greatest ws) most_count)) (stated claim.Exact ws)

abbrev pub note_states : Option (List Word) → CountFacts
note_states None = free
note_states (Some ws) = line_states ws

-- ---- the words after an array's name

-- the words that stand behind `align`, in order; such a word isn't looked at again
abbrev pub align_words : List Word → List Word
align_words [] = []
align_words (w ∷ []) = []
align_words (w ∷ v ∷ ws) = if is_align w then v ∷ align_words ws else align_words (v ∷ ws)

-- the number of such a word, a power of two from 1 to 4096 in each array's line
abbrev pub align_number : Option ℕ → ℕ
align_number None = 1
align_number (Some n) = if is_align_number (Some n) then n else 1

-- An array's align is its last one, and 1 where there is none.
abbrev pub align_of : List Word → ℕ
align_of ws = fold (λ last w. align_number (number_of w)) 1 (align_words ws)

-- the aligns of the variables of a kind, in order
abbrev pub aligns_among : VarKind → List Var → List ℕ
aligns_among k vars = map (λ v. align_of v.words) (filter (is_of k) vars)

-- ---- the facts of a function

-- what is stated of n; of m, only where there are rows; and the align of each array, dests first
unfoldable pub facts_of : FunctionValue → Facts
facts_of f = record {
  n = note_states f.notes.n;
  m = if f.two_d then note_states f.notes.m else free;
  aligns = record { items = aligns_among kind.Dest f.vars ++ aligns_among kind.Source f.vars };
}

-- ---- what a type keeps of facts

-- nothing is stated of a count
abbrev pub is_free_count : CountFacts → Bool
is_free_count facts = facts.exact == 0 && is_unbounded facts

-- a power of two from 1 to 4096
abbrev pub is_align_value : ℕ → Bool
is_align_value n = is_align_number (Some n)

-- facts of a function with so many arrays, which has rows or none: each count is as a type keeps it, nothing is stated of rows that aren't there, and each array has an align
abbrev pub is_facts : Bool → ℕ → Facts → Bool
is_facts two_d arrays facts = is_count_facts facts.n && (is_count_facts facts.m && ((two_d || is_free_count facts.m) && (length facts.aligns.items == arrays && list_all is_align_value facts.aligns.items)))

-- nothing is stated of calls with so many arrays
abbrev pub ones : ℕ → List ℕ
ones zero = []
ones (suc n) = 1 ∷ ones n

abbrev pub free_facts : ℕ → Facts
free_facts arrays = record { n = free; m = free; aligns = record { items = ones arrays } }

-- nothing is stated of any call
abbrev pub is_free : Facts → Bool
is_free facts = is_free_count facts.n && (is_free_count facts.m && list_all (λ a. a == 1) facts.aligns.items)
