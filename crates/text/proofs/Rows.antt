-- The rows of a text that begins with a line are its values, and the rows of what follows. Assumes nothing.
use mathlib.Core.Path.{◌≡◌, refl, sym, ap, ◌∙◌}
use mathlib.Core.Logic.{◌≢◌}
use mathlib.Core.Bool.{Bool, true, false, ◌&&◌}
use mathlib.Core.List.{List, [], ◌∷◌, ◌++◌, map, append_assoc}
use Prim.Native.Nat.{ℕ, zero, suc, ◌+◌, ◌*◌, ◌-◌, ◌/◌, ◌%◌, ◌≤◌, ◌<◌}
use native.Mathlib.Omega.{arith}
use borrow.Author.Tests.{ltb-true, ltb-false, ne_eqb, eq-eqb}
use lib.Dec.{T, ltb, ltb→lt}
use lib.IntN.{ℤ, pos, negsuc}
use lib.ListN.{drop}
use Rattle.text.specs.Text.{digits, number, line}
use Rattle.text.specs.Rows.{onto, cut, value_on, part_number, rows}
use Rattle.text.proofs.Digits.{digits_one, digits_more}

-- no byte is below k
abbrev Low : ℕ → List ℕ → Type 0
Low k [] = Unit {0}
Low k (b ∷ s) = (k ≤ b) × Low k s

low_append : (k : ℕ) (s t : List ℕ) → Low k s → Low k t → Low k (s ++ t)
low_append k [] t h l = l
low_append k (b ∷ s) t h l = (h.0, low_append k s t h.1 l)

low_less : (k j : ℕ) (s : List ℕ) → j ≤ k → Low k s → Low j s
low_less k j [] l h = tt
low_less k j (b ∷ s) l h = (omega (arith, h.0), low_less k j s l h.1)

-- ── digits ──
value_append : (v : ℕ) (s : List ℕ) (d : ℕ) → value_on v (s ++ (d ∷ [])) ≡ value_on v s * 10 + (d - 48)
value_append v [] d = refl
value_append v (b ∷ s) d = value_append (v * 10 + (b - 48)) s d

-- the digits of a number: none is below 48, they give the number, and there is a first
abbrev Read : ℕ → List ℕ → Type 0
Read n s = Low 48 s × (value_on 0 s ≡ n) × (s ≢ [])

append_some : (s : List ℕ) (d : ℕ) → s ++ (d ∷ []) ≢ []
append_some [] d e = let z : ◌≡◌ {A = ℕ} 0 1 = cc in absurd (omega arith)
append_some (b ∷ s) d e = let z : ◌≡◌ {A = ℕ} 0 1 = cc in absurd (omega arith)

read_below : (k n : ℕ) → n < k → Read n (digits n)
read_below zero n h = absurd (omega arith)
read_below (suc k) n h = go (ltb n 10) refl (λ l. read_below k (n / 10) (omega arith))
  where
    go : (x : Bool) → ltb n 10 ≡ x → (10 ≤ n → Read (n / 10) (digits (n / 10))) → Read n (digits n)
    go true e ih =
        let l : n < 10 = ltb-true n 10 e in
        let v : 0 * 10 + (48 + n - 48) ≡ n = omega arith in
        rw (digits_one n l) ((omega arith, tt), v, append_some [] (48 + n))
    go false e ih =
        let l : 10 ≤ n = ltb-false n 10 e in
        let r = ih l in
        let v : value_on 0 (digits (n / 10) ++ ((48 + n % 10) ∷ [])) ≡ n = value_append 0 (digits (n / 10)) (48 + n % 10) ∙ omega (arith, r.1) in
        rw (digits_more n l) (low_append 48 (digits (n / 10)) ((48 + n % 10) ∷ []) r.0 (omega arith, tt), v, append_some (digits (n / 10)) (48 + n % 10))

read_digits : (n : ℕ) → Read n (digits n)
read_digits n = read_below (suc n) n (omega arith)

plain : (n : ℕ) (s : List ℕ) → Read n s → part_number s ≡ pos n
plain n [] r = absurd (r.2 refl)
plain n (b ∷ s) r =
    let q : b ≢ 45 = λ e. absurd (omega (arith, r.0.0)) in
    rw (ne_eqb b 45 q) (ap pos r.1)

-- ── numbers ──
number_low : (z : ℤ) → Low 45 (number z)
number_low (pos n) = low_less 48 45 (digits n) (omega arith) (read_digits n).0
number_low (negsuc n) = (omega arith, low_less 48 45 (digits (suc n)) (omega arith) (read_digits (suc n)).0)

part_number_lem : (z : ℤ) → part_number (number z) ≡ z
part_number_lem (pos n) = plain n (digits n) (read_digits n)
part_number_lem (negsuc n) = rw (read_digits (suc n)).1

number_some : (z : ℤ) → number z ≢ []
number_some (pos n) e = (read_digits n).2 e
number_some (negsuc n) e = let z : ◌≡◌ {A = ℕ} 0 1 = cc in absurd (omega arith)

-- ── parts ──
module _ (e k : ℕ) (h : e < k) where
  cut_end : (p s : List ℕ) → Low k p → cut e (p ++ (e ∷ s)) ≡ p ∷ cut e s
  cut_end [] s l = rw (eq-eqb e e refl)
  cut_end (b ∷ p) s l =
      let q : b ≢ e = λ x. absurd (omega (arith, l.0)) in
      rw (ne_eqb b e q, cut_end p s l.1)

  cut_last : (p : List ℕ) → Low k p → p ≢ [] → cut e p ≡ p ∷ []
  cut_last [] l n = absurd (n refl)
  cut_last (b ∷ []) l n = let q : b ≢ e = λ x. absurd (omega (arith, l.0)) in rw (ne_eqb b e q)
  cut_last (b ∷ c ∷ p) l n =
      let q : b ≢ e = λ x. absurd (omega (arith, l.0)) in
      rw (ne_eqb b e q) (ap (onto b) (cut_last (c ∷ p) l.1 (λ x. let z : ◌≡◌ {A = ℕ} 0 1 = cc in absurd (omega arith))))

-- ── a line ──
-- without the byte at its end
abbrev body : List ℤ → List ℕ
body [] = []
body (z ∷ []) = number z
body (z ∷ y ∷ ys) = number z ++ (32 ∷ body (y ∷ ys))

line_body : (z : ℤ) (zs : List ℤ) → line (z ∷ zs) ≡ body (z ∷ zs) ++ (10 ∷ [])
line_body z [] = refl
line_body z (y ∷ ys) = ap (λ (s : List ℕ). number z ++ (32 ∷ s)) (line_body y ys) ∙ sym (append_assoc (number z) (32 ∷ body (y ∷ ys)) (10 ∷ []))

body_low : (z : ℤ) (zs : List ℤ) → Low 32 (body (z ∷ zs))
body_low z [] = low_less 45 32 (number z) (omega arith) (number_low z)
body_low z (y ∷ ys) = low_append 32 (number z) (32 ∷ body (y ∷ ys)) (low_less 45 32 (number z) (omega arith) (number_low z)) (omega arith, body_low y ys)

body_parts : (z : ℤ) (zs : List ℤ) → map part_number (cut 32 (body (z ∷ zs))) ≡ z ∷ zs
body_parts z [] = ap (map part_number) (cut_last 32 45 (omega arith) (number z) (number_low z) (number_some z)) ∙ ap (λ (y : ℤ). y ∷ []) (part_number_lem z)
body_parts z (y ∷ ys) = ap (map part_number) (cut_end 32 45 (omega arith) (number z) (body (y ∷ ys)) (number_low z)) ∙ (λ i. part_number_lem z i ∷ body_parts y ys i)

pub rows_line : (zs : List ℤ) (s : List ℕ) → zs ≢ [] → rows (line zs ++ s) ≡ zs ∷ rows s
unfolding rows
rows_line [] s n = absurd (n refl)
rows_line (z ∷ zs) s n =
    let a : line (z ∷ zs) ++ s ≡ body (z ∷ zs) ++ (10 ∷ s) = ap (λ (t : List ℕ). t ++ s) (line_body z zs) ∙ append_assoc (body (z ∷ zs)) (10 ∷ []) s in
    ap (λ (t : List ℕ). rows t) a
    ∙ ap (map (λ l. map part_number (cut 32 l))) (cut_end 10 32 (omega arith) (body (z ∷ zs)) s (body_low z zs))
    ∙ ap (λ (r : List ℤ). r ∷ rows s) (body_parts z zs)

-- ── lines that hold no numbers ──
pub rows_none : rows [] ≡ []
unfolding rows
rows_none = refl

pub rows_empty : (s : List ℕ) → rows (10 ∷ s) ≡ [] ∷ rows s
unfolding rows
rows_empty s = refl

-- every byte is above 10
abbrev pub above : List ℕ → Bool
above [] = true
above (b ∷ s) = ltb 10 b && above s

above_low : (p : List ℕ) → T (above p) → Low 11 p
above_low [] h = tt
above_low (b ∷ p) h = (omega (arith, ltb→lt 10 b (T_first (ltb 10 b) (above p) h)), above_low p (T_rest (ltb 10 b) (above p) h))
  where
    T_first : (x y : Bool) → T (x && y) → T x
    T_first true y t = tt
    T_first false y t = absurd t

    T_rest : (x y : Bool) → T (x && y) → T y
    T_rest true y t = t
    T_rest false y t = absurd t

-- the row of a line of names is dropped
pub rows_names : (p s : List ℕ) → T (above p) → drop 1 (rows (p ++ (10 ∷ s))) ≡ rows s
unfolding rows
rows_names p s h = ap (λ (x : List (List ℕ)). drop 1 (map (λ l. map part_number (cut 32 l)) x)) (cut_end 10 11 (omega arith) p s (above_low p h))
