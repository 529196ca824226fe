-- Slots of a list of blocks: kept where another is written; copied; read after a write. Assumes nothing.
use mathlib.Core.Path.{◌≡◌, sym, ap, ◌∙◌}
use mathlib.Core.List.{List, ◌++◌, append_assoc}
use Prim.Native.Nat.{ℕ, suc, ◌+◌, ◌*◌, ◌≤◌}
use native.Mathlib.Omega.{arith}
use lib.ListN.{length, take, drop, length-drop, take-append-drop}
use lib.Seq.{paste, length-take-le, take_at, drop_at, drop-append-le, take-append-le}
use Rattle.block.specs.Layout.{block_size}
use Rattle.replay.specs.Replay.{slot}
use Rattle.replay.specs.Turn.{SlotCopied}

-- a part that ends before P does
part_left : (P R : List ℕ) (d n : ℕ) → d + n ≤ length P → take n (drop d (P ++ R)) ≡ take n (drop d P)
part_left P R d n h = ap (take n) (drop-append-le d P R (omega arith)) ∙ take-append-le n (drop d P) R (simp length-drop (omega arith))

module _ (xs : List ℕ) (m : ℕ) (room : m ≤ length xs) where
  -- what stands after the first m bytes does not matter to the slots in them
  pub slot_kept : (R : List ℕ) (j : ℕ) → block_size * suc j ≤ m → slot (take m xs ++ R) j ≡ slot xs j
  unfolding slot
  slot_kept R j h =
      let n : length (take m xs) ≡ m = length-take-le m xs room in
      part_left (take m xs) R (block_size * j) block_size (omega arith)
      ∙ sym (part_left (take m xs) (drop m xs) (block_size * j) block_size (omega arith))
      ∙ ap (λ (l : List ℕ). slot l j) (take-append-drop m xs)

  -- the slot that was written
  pub slot_new : (ys R : List ℕ) (j : ℕ) → m ≡ block_size * j → length ys ≡ block_size → slot (take m xs ++ (ys ++ R)) j ≡ ys
  unfolding slot
  slot_new ys R j e w =
      let n : length (take m xs) ≡ block_size * j = length-take-le m xs room ∙ e in
      ap (take block_size) (drop_at (take m xs) (ys ++ R) (block_size * j) n) ∙ take_at ys R block_size w

-- a slot as a part that begins at m and has k bytes
pub slot_part : (b : List ℕ) (i m k : ℕ) → m ≡ block_size * i → k ≡ block_size → take k (drop m b) ≡ slot b i
unfolding slot
slot_part b i m k e f = λ p. take (f p) (drop (e p) b)

-- ── the copy ──
module _ (b : List ℕ) (from to : ℕ) (next : to ≡ from + block_size) (room : to + block_size ≤ length b) where
  pub copied_all : (i : ℕ) → from ≡ block_size * i → (l : List ℕ) → l ≡ paste b to (drop from b) block_size → SlotCopied b i l
  unfolding slot
  copied_all i f l e =
      let ys : List ℕ = take block_size (drop from b) in
      let R : List ℕ = drop (to + block_size) b in
      let w : length ys ≡ block_size = length-take-le block_size (drop from b) (simp length-drop (omega arith)) in
      let q : l ≡ take to b ++ (ys ++ R) = e ∙ append_assoc (take to b) ys R in
      record {
        copy = ap (λ (z : List ℕ). slot z (suc i)) q ∙ slot_new b to (omega arith) ys R (suc i) (omega arith) w ∙ ap (λ (k : ℕ). take block_size (drop k b)) f;
        kept = λ j h. ap (λ (z : List ℕ). slot z j) q ∙ slot_kept b to (omega arith) (ys ++ R) j (omega arith);
      }
