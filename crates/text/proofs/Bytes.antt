-- Bytes written at a place. Assumes nothing.
use mathlib.Core.Path.{refl}
use mathlib.Core.List.{List}
use Prim.Native.Nat.{ℕ, ◌+◌, ◌-◌}
use native.Mathlib.Omega.{arith}
use borrow.Rule.Slice.PartMut.{put_mid}
use lib.ListN.{length}
use lib.Seq.{drop-drop}
use Rattle.std.proofs.Common.{◌≡◌}
use Rattle.text.specs.Write.{put, Room, Written}

pub put_bytes : (at : ℕ) (xs buf : List ℕ) → Room at xs buf → Written at xs buf (at + length xs) (put_mid at (at + length xs - at) buf xs)
unfolding put
put_bytes at xs buf h =
    let n : at + length xs - at ≡ length xs = omega arith in
    rw n record { next = refl; bytes = rw drop-drop }
