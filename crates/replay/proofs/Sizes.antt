-- The lengths of the buffers, compared by division. Assumes nothing.
use mathlib.Core.Path.{◌≡◌, refl, sym, subst, ◌∙◌}
use mathlib.Core.Logic.{◌≢◌}
use mathlib.Core.Bool.{Bool, true, false, ◌&&◌}
use mathlib.Core.List.{List}
use Prim.Native.Nat.{ℕ, suc, ◌*◌, ◌/◌, ◌%◌}
use native.Mathlib.Omega.{arith}
use borrow.Author.Tests.{eq-eqb, ne_eqb, eqb-true, eqb-false}
use lib.Dec.{T, eqb, eqb→eq}
use lib.ListN.{length}
use lib.IntN.{ℤ}
use Rattle.rules.proofs.Lists.{T_left, T_right}
use Rattle.block.specs.Layout.{block_size}
use Rattle.replay.specs.Replay.{numbers_per_call, answers_per_call, call_count, is_sized}
use Rattle.replay.specs.Turn.{Sized}

module _ (calls blocks refusals answers : ℕ) where
  pub calls_wrong : calls % numbers_per_call ≢ 0 → false ≡ is_sized calls blocks refusals answers
  calls_wrong h = rw (ne_eqb (calls % numbers_per_call) 0 h)

  module _ (whole : calls % numbers_per_call ≡ 0) where
    pub blocks_wrong : blocks ≢ block_size * suc (calls / numbers_per_call) → false ≡ is_sized calls blocks refusals answers
    blocks_wrong h = rw (eq-eqb (calls % numbers_per_call) 0 whole, ne_eqb blocks (block_size * suc (calls / numbers_per_call)) h)

    module _ (slots : blocks ≡ block_size * suc (calls / numbers_per_call)) where
      pub refusals_wrong : refusals ≢ calls / numbers_per_call → false ≡ is_sized calls blocks refusals answers
      refusals_wrong h = rw (eq-eqb (calls % numbers_per_call) 0 whole, eq-eqb blocks (block_size * suc (calls / numbers_per_call)) slots, ne_eqb refusals (calls / numbers_per_call) h)

      module _ (one : refusals ≡ calls / numbers_per_call) where
        last : is_sized calls blocks refusals answers ≡ eqb answers (answers_per_call * (calls / numbers_per_call))
        last = rw (eq-eqb (calls % numbers_per_call) 0 whole, eq-eqb blocks (block_size * suc (calls / numbers_per_call)) slots, eq-eqb refusals (calls / numbers_per_call) one)

        pub answers_wrong : answers % answers_per_call ≢ 0 → false ≡ is_sized calls blocks refusals answers
        answers_wrong h = sym (last ∙ ne_eqb answers (answers_per_call * (calls / numbers_per_call)) (λ e. h (omega arith)))

        pub answers_compared : answers % answers_per_call ≡ 0 → eqb (answers / answers_per_call) (calls / numbers_per_call) ≡ is_sized calls blocks refusals answers
        answers_compared h = go (eqb (answers / answers_per_call) (calls / numbers_per_call)) refl
          where
            go : (b : Bool) → eqb (answers / answers_per_call) (calls / numbers_per_call) ≡ b → b ≡ is_sized calls blocks refusals answers
            go true q = let e : answers / answers_per_call ≡ calls / numbers_per_call = eqb-true (answers / answers_per_call) (calls / numbers_per_call) q in sym (last ∙ eq-eqb answers (answers_per_call * (calls / numbers_per_call)) (omega arith))
            go false q = sym (last ∙ ne_eqb answers (answers_per_call * (calls / numbers_per_call)) (λ e. eqb-false (answers / answers_per_call) (calls / numbers_per_call) q (omega arith)))

pub sized : (calls b r : List ℕ) (a : List ℤ) → is_sized (length calls) (length b) (length r) (length a) ≡ true → Sized calls b r a
sized calls b r a h =
    let n = call_count calls in
    let w : Bool = eqb (length calls % numbers_per_call) 0 in
    let x : Bool = eqb (length b) (block_size * suc n) in
    let y : Bool = eqb (length r) n in
    let z : Bool = eqb (length a) (answers_per_call * n) in
    let t : T (w && x && y && z) = subst T (sym h) tt in
    let u : T (w && x && y) = T_left (w && x && y) z t in
    record {
      blocks = eqb→eq (length b) (block_size * suc n) (T_right w x (T_left (w && x) y u));
      refusals = eqb→eq (length r) n (T_right (w && x) y u);
      answers = eqb→eq (length a) (answers_per_call * n) (T_right (w && x && y) z t);
    }
