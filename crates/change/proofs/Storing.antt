-- A part of a slice written over, as its bytes stored one after another. Assumes nothing.
use mathlib.Core.Path.{◌≡◌, ap, sym, ◌∙◌}
use mathlib.Core.List.{List, ◌++◌, append_assoc}
use Prim.Native.Nat.{ℕ, ◌+◌, ◌≤◌}
use borrow.Rule.Slice.PartMut.{put_mid}
use lib.ListN.{length, take, drop}
use lib.Seq.{sets, sets-eq, drop-drop}

-- xs, of n bytes, written at `at`; the part holds ys then
pub stored : (b xs ys : List ℕ) (at n : ℕ) → ys ≡ xs → n ≡ length xs → at + length xs ≤ length b → put_mid at n b ys ≡ sets b at xs
stored b xs ys at n e long room =
    (λ i. put_mid at (long i) b (e i))
    ∙ ap (λ (r : List ℕ). take at b ++ (xs ++ r)) (drop-drop (length xs) at b)
    ∙ sym (sets-eq xs b at room ∙ append_assoc (take at b) xs (drop (at + length xs) b))
