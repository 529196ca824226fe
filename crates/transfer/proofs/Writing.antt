-- The refusals of a write, in order; the ways of a write. Assumes nothing.
use mathlib.Core.Path.{◌≡◌, refl, sym, ap, ◌∙◌}
use mathlib.Core.Logic.{◌≢◌, ◌⊎◌, inl, inr}
use mathlib.Core.Bool.{Bool, true, false, cond, not, ◌||◌}
use mathlib.Core.List.{List, ◌++◌}
use Prim.Native.Nat.{ℕ, ◌≤◌, ◌<◌}
use native.Mathlib.Nat.{zero-add}
use native.Mathlib.Omega.{arith}
use borrow.Author.Tests.{eq-eqb, ne_eqb, lt-ltb, le-ltb}
use lib.Dec.{eqb, ltb, eqb→eq, nltb→le}
use lib.ListN.{length, take, drop, length-append}
use lib.Seq.{take_at}
use Rattle.rules.proofs.Lists.{yes, eq_or}
use Rattle.block.specs.Layout.{block_size}
use Rattle.block.specs.Bytes.{IsBytes}
use Rattle.block.specs.Block.{decode}
use Rattle.block.specs.WellFormed.{well_formed}
use Rattle.block.proofs.Held.{held_formed}
use Rattle.text.specs.Write.{put, Room, Written}
use Rattle.regfile.specs.FileText.{file_text}
use Rattle.regfile.proofs.Sizes.{file_short}
use Rattle.transfer.specs.Filled.{Filled, unfilled_by}
use Rattle.transfer.specs.FileOn.{text_size, write_refusal, WriteMade, WriteFront}

module _ (b buf : List ℕ) where
  -- no refusal applies
  pub record Writable : Type 0 where
    pub long : length b ≡ block_size
    pub room : text_size ≤ length buf
    pub formed : well_formed b ≡ true

  -- ── each of them ──
  pub write_long : length b ≢ block_size → 1 ≡ write_refusal b buf
  unfolding write_refusal
  write_long n = rw (ne_eqb (length b) block_size n)

  module _ (long : length b ≡ block_size) where
    pub write_short : length buf < text_size → 1 ≡ write_refusal b buf
    unfolding write_refusal
    write_short l = rw (eq-eqb (length b) block_size long, lt-ltb (length buf) text_size l)

    module _ (room : text_size ≤ length buf) where
      pub write_unformed : well_formed b ≡ false → 8 ≡ write_refusal b buf
      unfolding write_refusal
      write_unformed e = rw (eq-eqb (length b) block_size long, le-ltb (length buf) text_size room, e)

      pub write_done : well_formed b ≡ true → 0 ≡ write_refusal b buf
      unfolding write_refusal
      write_done e = rw (eq-eqb (length b) block_size long, le-ltb (length buf) text_size room, e)

  -- ── none of them ──
  pub write_through : write_refusal b buf ≡ 0 → Writable
  unfolding write_refusal
  write_through z = go (eqb (length b) block_size) (ltb (length buf) text_size) (well_formed b) refl refl refl z
    where
      go : (x y w : Bool) → eqb (length b) block_size ≡ x → ltb (length buf) text_size ≡ y → well_formed b ≡ w → ◌≡◌ {A = ℕ} (cond (not x || y) 1 (cond (not w) 8 0)) 0 → Writable
      go false y w p q f e = absurd (omega arith)
      go true true w p q f e = absurd (omega arith)
      go true false false p q f e = absurd (omega arith)
      go true false true p q f e = record { long = eqb→eq (length b) block_size (yes p); room = nltb→le (length buf) text_size (rw q tt); formed = f }

-- ── what is returned and left ──
module _ (b buf : List ℕ) where
  pub write_refused : (n : ℕ) → n ≡ write_refusal b buf → n ≢ 0 → WriteMade b buf (unfilled_by n) buf
  write_refused n e k = record { refusal = e; refused = λ _. (refl, refl); text = λ z. absurd (k z) }

  module _ (bytes : IsBytes b) (w : Writable b buf) where
    -- there is room for the text
    pub write_room : Room 0 (file_text (decode b)) buf
    write_room = omega (arith, file_short (decode b) (held_formed b bytes w.formed), w.room)

    pub write_filled : (r : ℕ) (after : List ℕ) → Written 0 (file_text (decode b)) buf r after → WriteMade b buf record { refusal = 0; length = r } after
    unfolding put
    write_filled r after h =
        let n : r ≡ length (file_text (decode b)) = h.next ∙ zero-add (length (file_text (decode b))) in
        record {
          refusal = write_done b buf w.long w.room w.formed;
          refused = λ k. absurd (k refl);
          text = λ _. (n, h.bytes ∙ ap (λ (k : ℕ). file_text (decode b) ++ drop k buf) (sym h.next));
        }

-- ── the front that was filled ──
module _ (b buf : List ℕ) (o : Filled) (after : List ℕ) (made : WriteMade b buf o after) where
  pub front_fits : o.length ≤ length after
  front_fits = go (eq_or o.refusal 0)
    where
      go : (o.refusal ≡ 0) ⊎ (o.refusal ≢ 0) → o.length ≤ length after
      go (inl e) = let (n, a) = made.text e in omega (arith, n, ap length a, length-append (file_text (decode b)) (drop o.length buf))
      go (inr n) = omega (arith, (made.refused n).0)

  pub front_made : WriteFront b buf o.refusal (take o.length after)
  front_made = record {
    refusal = made.refusal;
    refused = λ n. ap (λ (k : ℕ). take k after) (made.refused n).0;
    text = λ e. let (n, a) = made.text e in ap (take o.length) a ∙ take_at (file_text (decode b)) (drop o.length buf) o.length (sym n);
  }
