-- Well-formed blocks (document 01, 'The block'; document 02, C-16 and C-18): a list of named tests, for any list of bytes of any length. Assumes nothing.
use Rattle.std.specs.Prelude.{Bool, true, not, ◌&&◌, ◌||◌, List, [], ◌∷◌, ◌++◌, ℕ, ◌+◌, ◌-◌, eqb, ltb, leb, length, get_or}
use Rattle.std.specs.Int.Bits.{bit_and}
use Rattle.rules.specs.Bits.{is_set}
use Rattle.rules.specs.Register.{Delegation}
use Rattle.rules.specs.CallStep.{before}
use Rattle.block.specs.Layout.{block_size, most_subjects, most_records, free_at, marks_at, marks_size}
use Rattle.block.specs.Bytes.{two, all_from, zeros}
use Rattle.block.specs.Block.{subjects_in, count_in, retired_in}
use Rattle.block.specs.Records.{mark_place, record_place, marks_for, delegation_at, delegations_to}

-- every test of a list passes
abbrev pub all_pass : {A : Type 0} → List (A → Bool) → A → Bool
all_pass [] x = true
all_pass (f ∷ fs) x = f x && all_pass fs x

-- ── a delegation among n subjects ──
-- giver and receiver are enrolled and differ, the receiver is not 0, need and bar share no mark, the kind is 0 or 1
abbrev pub giver_enrolled : ℕ → Delegation → Bool
giver_enrolled n d = ltb d.giver n

abbrev pub receiver_enrolled : ℕ → Delegation → Bool
receiver_enrolled n d = ltb d.receiver n

abbrev pub ends_differ : Delegation → Bool
ends_differ d = not (eqb d.giver d.receiver)

abbrev pub not_to_owner : Delegation → Bool
not_to_owner d = not (eqb d.receiver 0)

abbrev pub marks_apart : Delegation → Bool
marks_apart d = eqb (bit_and d.need d.bar) 0

abbrev pub kind_known : Delegation → Bool
kind_known d = leb d.kind 1

abbrev pub delegation_tests : ℕ → List (Delegation → Bool)
delegation_tests n = giver_enrolled n ∷ receiver_enrolled n ∷ ends_differ ∷ not_to_owner ∷ marks_apart ∷ kind_known ∷ []

unfoldable pub delegation_formed : ℕ → Delegation → Bool
delegation_formed n d = all_pass (delegation_tests n) d

-- ── the head: byte 0, enrolled subjects, 1 to 64; byte 1, zero; bytes 2 and 3, delegations, 0 to 256 ──
abbrev pub some_enrolled : List ℕ → Bool
some_enrolled b = leb 1 (subjects_in b)

abbrev pub few_enrolled : List ℕ → Bool
few_enrolled b = leb (subjects_in b) most_subjects

abbrev pub free_zero : List ℕ → Bool
free_zero b = eqb (get_or b free_at 0) 0

abbrev pub few_records : List ℕ → Bool
few_records b = leb (count_in b) most_records

abbrev pub head_tests : List (List ℕ → Bool)
head_tests = some_enrolled ∷ few_enrolled ∷ free_zero ∷ few_records ∷ []

abbrev pub head_formed : List ℕ → Bool
head_formed b = all_pass head_tests b

-- ── the block ──
abbrev pub right_size : List ℕ → Bool
right_size b = eqb (length b) block_size

-- the owner's marks are zero
abbrev pub owner_unmarked : List ℕ → Bool
owner_unmarked b = eqb (two b marks_at) 0

-- the marks of subjects that are not enrolled are zero
abbrev pub rest_unmarked : List ℕ → Bool
rest_unmarked b = let a = mark_place (subjects_in b) in zeros b a (marks_at + marks_size - a)

abbrev pub records_formed : List ℕ → Bool
records_formed b = all_from (λ k. delegation_formed (subjects_in b) (delegation_at b k)) 0 (count_in b)

-- strictly rising by giver, then receiver
abbrev pub follows : Delegation → List Delegation → Bool
follows d [] = true
follows d (e ∷ es) = before d e

abbrev pub rises : List Delegation → Bool
rises [] = true
rises (d ∷ ds) = follows d ds && rises ds

abbrev pub records_rise : List ℕ → Bool
records_rise b = rises (delegations_to b (count_in b))

-- a retired subject is enrolled, is not the owner and has no marks
abbrev pub is_enrolled : List ℕ → ℕ → Bool
is_enrolled b s = ltb s (subjects_in b)

abbrev pub is_not_owner : ℕ → Bool
is_not_owner s = not (eqb s 0)

abbrev pub is_unmarked : List ℕ → ℕ → Bool
is_unmarked b s = eqb (marks_for b s) 0

abbrev pub retired_tests : List ℕ → List (ℕ → Bool)
retired_tests b = is_enrolled b ∷ is_not_owner ∷ is_unmarked b ∷ []

-- with the bits n: where subject s is retired, it is so
abbrev pub subject_formed : ℕ → List ℕ → ℕ → Bool
subject_formed n b s = not (is_set n s) || all_pass (retired_tests b) s

abbrev pub retired_formed : List ℕ → Bool
retired_formed b = all_from (subject_formed (retired_in b) b) 0 most_subjects

-- with the bits n: the delegation is neither to nor from a retired subject
abbrev pub is_apart : ℕ → Delegation → Bool
is_apart n d = not (is_set n d.giver) && not (is_set n d.receiver)

abbrev pub records_apart : List ℕ → Bool
records_apart b = all_from (λ k. is_apart (retired_in b) (delegation_at b k)) 0 (count_in b)

-- all bytes after the used records are zero
abbrev pub rest_zero : List ℕ → Bool
rest_zero b = let a = record_place (count_in b) in zeros b a (block_size - a)

abbrev pub block_tests : List (List ℕ → Bool)
block_tests = right_size ∷ (head_tests ++ (owner_unmarked ∷ rest_unmarked ∷ records_formed ∷ records_rise ∷ retired_formed ∷ records_apart ∷ rest_zero ∷ []))

unfoldable pub well_formed : List ℕ → Bool
well_formed b = all_pass block_tests b
