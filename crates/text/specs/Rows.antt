-- A text cut at byte 10 into lines and each line at byte 32 into parts, a part taken for a number. It accepts nothing and refuses nothing: what is found is to be written again and compared. Assumes nothing.
use Rattle.std.specs.Prelude.{cond, List, [], ◌∷◌, map, ℕ, ◌+◌, ◌*◌, ◌-◌, eqb, ℤ, pos, neg_ℤ}

-- b put before the first part
abbrev pub onto : ℕ → List (List ℕ) → List (List ℕ)
onto b [] = (b ∷ []) ∷ []
onto b (p ∷ ps) = (b ∷ p) ∷ ps

-- the parts of a text that the byte e ends or parts
abbrev pub cut : ℕ → List ℕ → List (List ℕ)
cut e [] = []
cut e (b ∷ s) = cond (eqb b e) ([] ∷ cut e s) (onto b (cut e s))

-- the number that digits give after those of v
abbrev pub value_on : ℕ → List ℕ → ℕ
value_on v [] = v
value_on v (d ∷ ds) = value_on (v * 10 + (d - 48)) ds

-- the number that a part gives: a minus sign before its digits, or none
abbrev pub part_number : List ℕ → ℤ
part_number [] = pos 0
part_number (b ∷ ds) = cond (eqb b 45) (neg_ℤ (pos (value_on 0 ds))) (pos (value_on 0 (b ∷ ds)))

unfoldable pub rows : List ℕ → List (List ℤ)
rows text = map (λ l. map part_number (cut 32 l)) (cut 10 text)
