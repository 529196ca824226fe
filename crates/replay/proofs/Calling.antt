-- One call by its numbers: a number that is a call's, and another. Assumes nothing.
use mathlib.Core.Path.{◌≡◌, sym, ap, subst, ◌∙◌}
use mathlib.Core.Bool.{Bool, true, false}
use mathlib.Core.List.{List}
use Prim.Native.Nat.{ℕ, ◌+◌, ◌<◌}
use native.Mathlib.Nat.{add-zero}
use native.Mathlib.Omega.{arith}
use lib.Dec.{T, T_not}
use lib.ListN.{get_or, drop}
use lib.Seq.{get_or-drop}
use Rattle.rules.specs.Call.{Call}
use Rattle.block.specs.Bytes.{all_from}
use Rattle.block.proofs.Bytes.{all_from_at}
use Rattle.register.specs.Made.{Made}
use Rattle.register.specs.Answer.{Answer, refused_by}
use Rattle.demands.specs.History.{lent_to}
use Rattle.replay.specs.Replay.{is_call, call_of, CallMade, call_in}

-- a test that every call passes, call i passes
pub passes_at : (f : ℕ → Bool) (n : ℕ) → all_from f 0 n ≡ true → (i : ℕ) → i < n → T (f i)
passes_at f n e i h =
    let q : 0 + i ≡ i = omega arith in
    subst (λ (k : ℕ). T (f k)) q (all_from_at f 0 n (subst T (sym e) tt) i h)

-- d n is the call that the number n names with the columns that were passed
module _ (number : ℕ) (d : ℕ → Call) (text before : List ℕ) (r : Answer) (after : List ℕ) where
  pub call_named : (k : ℕ) → number ≡ k → T (is_call k) → Made (lent_to (d k) text) (d k) before r after → CallMade number (d number) text before r after
  call_named k e t m = record {
    made = λ h. subst (λ (n : ℕ). Made (lent_to (d n) text) (d n) before r after) (sym e) m;
    other = λ h. absurd (T_not (is_call number) h (subst (λ (n : ℕ). T (is_call n)) (sym e) t));
  }

  pub call_other : is_call number ≡ false → r ≡ refused_by 7 → after ≡ before → CallMade number (d number) text before r after
  call_other e p q = record { made = λ h. absurd (subst T e h); other = λ h. (p, q) }

-- the call at a place, read number by number
pub call_at : (s : List ℕ) (at : ℕ)
    → call_in (drop at s) ≡ call_of (get_or s at 0) (get_or s (at + 1) 0) (get_or s (at + 2) 0) (get_or s (at + 3) 0) (get_or s (at + 4) 0) (get_or s (at + 5) 0) (get_or s (at + 6) 0)
call_at s at =
    let first : get_or (drop at s) 0 0 ≡ get_or s at 0 = get_or-drop at s 0 0 ∙ ap (λ (n : ℕ). get_or s n 0) (add-zero at) in
    λ p. call_of (first p) (get_or-drop at s 1 0 p) (get_or-drop at s 2 0 p) (get_or-drop at s 3 0 p) (get_or-drop at s 4 0 p) (get_or-drop at s 5 0 p) (get_or-drop at s 6 0 p)
