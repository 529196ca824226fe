-- Three parts written one after another over a whole; and so a block of the layout before in the present one. Assumes nothing.
use mathlib.Core.Path.{◌≡◌, sym, ap, ◌∙◌}
use mathlib.Core.List.{List, [], ◌++◌, append_assoc, append-nil}
use Prim.Native.Nat.{ℕ, ◌-◌, ◌≤◌}
use native.Mathlib.Omega.{arith}
use borrow.Rule.Slice.PartMut.{mid_of, put_mid}
use lib.ListN.{length, take, drop, replicate, length-append, length-drop, length-replicate, drop_of_length-le}
use lib.Seq.{take_at, length-take-le, take_all}
use Rattle.block.specs.Layout.{block_size, retired_at, records_at, retired_size}
use Rattle.block.specs.Older.{old_size, brought}

-- x over the first m bytes of b, z over those up to n, y over the rest
module _ (b x z y : List ℕ) (m n : ℕ) (p : length x ≡ m) (q : length z ≡ n - m) (l : m ≤ n) (k : n ≤ length b) where
  -- after the first part, and after the second
  abbrev first : List ℕ
  first = x ++ drop m b

  abbrev second : List ℕ
  second = put_mid m (n - m) first z

  first_long : length first ≡ length b
  first_long = length-append x (drop m b) ∙ omega (arith, p, length-drop m b)

  second_is : second ≡ (x ++ z) ++ drop (n - m) (drop m first)
  second_is = (λ j. take_at x (drop m b) m p j ++ (z ++ drop (n - m) (drop m first))) ∙ sym (append_assoc x z (drop (n - m) (drop m first)))

  half_long : length (x ++ z) ≡ n
  half_long = length-append x z ∙ omega (arith, p, q)

  pub three_stored : put_mid n (length second - n) second y ≡ x ++ (z ++ y)
  three_stored =
      let r : length (drop n second) ≤ length second - n = omega (arith, length-drop n second) in
      let e : drop (length second - n) (drop n second) ≡ [] = drop_of_length-le (drop n second) r in
      let f : take n second ≡ x ++ z = ap (take n) second_is ∙ take_at (x ++ z) (drop (n - m) (drop m first)) n half_long in
      (λ j. f j ++ (y ++ e j)) ∙ ap (λ (s : List ℕ). (x ++ z) ++ s) (append-nil y) ∙ append_assoc x z y

-- as the code leaves each part of an old block
pub brought_stored : (old b : List ℕ) → length old ≡ old_size → length b ≡ block_size
    → (x z y : List ℕ) → x ≡ take retired_at old → z ≡ replicate (length (mid_of retired_at (records_at - retired_at) (x ++ drop retired_at b))) 0 → y ≡ take (length old - retired_at) (drop retired_at old)
    → (let s = put_mid retired_at (records_at - retired_at) (x ++ drop retired_at b) z in put_mid records_at (length s - records_at) s y) ≡ brought old
unfolding brought
brought_stored old b e h x z y p q r =
    let front : length x ≡ retired_at = ap length p ∙ length-take-le retired_at old (omega (arith, e)) in
    let room : length (mid_of retired_at (records_at - retired_at) (x ++ drop retired_at b)) ≡ retired_size =
    length-take-le (records_at - retired_at) (drop retired_at (x ++ drop retired_at b)) (omega (arith, length-drop retired_at (x ++ drop retired_at b), length-append x (drop retired_at b), length-drop retired_at b, front, h)) in
    let w : z ≡ replicate retired_size 0 = q ∙ ap (λ (k : ℕ). replicate k 0) room in
    let v : y ≡ drop retired_at old = r ∙ take_all (length old - retired_at) (drop retired_at old) (omega (arith, length-drop retired_at old)) in
    three_stored b x z y retired_at records_at front (ap length w ∙ length-replicate {A = ℕ} retired_size 0) (omega arith) (omega (arith, h)) ∙ (λ j. p j ++ (w j ++ v j))
