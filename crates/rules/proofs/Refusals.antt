-- The first refusal that applies of a list; a call that is not refused passed every test of its two lists. Assumes nothing.
use mathlib.Core.Path.{◌≡◌, refl, sym, ◌∙◌}
use mathlib.Core.Logic.{◌≢◌, ◌⊎◌, inl, inr}
use mathlib.Core.Bool.{Bool, true, false, not, cond, ◌&&◌}
use mathlib.Core.List.{List, [], ◌∷◌, ◌++◌}
use Prim.Native.Nat.{ℕ}
use native.Mathlib.Omega.{arith}
use borrow.Author.Tests.{eq-eqb, ne_eqb}
use lib.Dec.{T, ltb, eqb, ltb→lt, T_not}
use lib.IntN.{ℤ}
use Rattle.rules.specs.List.{any}
use Rattle.rules.specs.Register.{Register}
use Rattle.rules.specs.Call.{Call, enrol, grant, revoke, downgrade, ask_reach, ask_use, set_marks, retire}
use Rattle.rules.specs.Refusal.{first_of, passed, held, refusal_of}
use Rattle.rules.proofs.Lists.{T_left, T_right, T_both, yes, eq_to_eqb, not_or_left, not_or_right, eq_or}

-- the test that has the number n, the first of them if there are several; false if there is none
abbrev pub test_of : ℕ → List (ℕ × Bool) → Bool
test_of n [] = false
test_of n (p ∷ ps) = cond (eqb p.0 n) p.1 (test_of n ps)

-- no test of the list applies: a test is looked up by its number
abbrev pub Passes : List (ℕ × Bool) → Type 0
Passes ps = (n : ℕ) → T (not (test_of n ps))

-- every number is above 0
abbrev pub numbered : List (ℕ × Bool) → Bool
numbered [] = true
numbered (p ∷ ps) = ltb 0 p.0 && numbered ps

-- the first that applies of two lists one after the other
pub first_of_append : (ps qs : List (ℕ × Bool)) → T (numbered ps) → first_of (ps ++ qs) ≡ cond (eqb (first_of ps) 0) (first_of qs) (first_of ps)
first_of_append [] qs h = refl
first_of_append (p ∷ ps) qs h = go p.1 (first_of_append ps qs (T_right (ltb 0 p.0) (numbered ps) h))
  where
    ne : p.0 ≢ 0
    ne e = let l = ltb→lt 0 p.0 (T_left (ltb 0 p.0) (numbered ps) h) in omega arith

    go : (b : Bool) → first_of (ps ++ qs) ≡ cond (eqb (first_of ps) 0) (first_of qs) (first_of ps)
        → cond b p.0 (first_of (ps ++ qs)) ≡ cond (eqb (cond b p.0 (first_of ps)) 0) (first_of qs) (cond b p.0 (first_of ps))
    go true ih = rw (ne_eqb p.0 0 ne)
    go false ih = ih

pub first_of_none : (ps qs : List (ℕ × Bool)) → T (numbered ps) → first_of ps ≡ 0 → first_of (ps ++ qs) ≡ first_of qs
first_of_none ps qs h e = first_of_append ps qs h ∙ rw (eq-eqb (first_of ps) 0 e)

pub first_of_some : (ps qs : List (ℕ × Bool)) (n : ℕ) → T (numbered ps) → first_of ps ≡ n → n ≢ 0 → first_of (ps ++ qs) ≡ n
first_of_some ps qs n h e k = first_of_append ps qs h ∙ rw (e, ne_eqb n 0 k)

pub first_of_left : (ps qs : List (ℕ × Bool)) → T (numbered ps) → first_of (ps ++ qs) ≡ 0 → first_of ps ≡ 0
first_of_left ps qs h e = go (eq_or (first_of ps) 0)
  where
    go : (first_of ps ≡ 0) ⊎ (first_of ps ≢ 0) → first_of ps ≡ 0
    go (inl z) = z
    go (inr k) = sym (first_of_some ps qs (first_of ps) h refl k) ∙ e

-- a test with this number applies
abbrev pub applies : ℕ → List (ℕ × Bool) → Bool
applies n ps = any (λ p. eqb p.0 n && p.1) ps

pub first_of_other : (ps : List (ℕ × Bool)) (n : ℕ) → T (not (applies n ps)) → n ≢ 0 → first_of ps ≢ n
first_of_other [] n h k e = k (sym e)
first_of_other (p ∷ ps) n h k e = go p.1 refl (first_of_other ps n (not_or_right (eqb p.0 n && p.1) (applies n ps) h) k) e
  where
    go : (b : Bool) → p.1 ≡ b → first_of ps ≢ n → cond b p.0 (first_of ps) ≢ n
    go true q ih x = T_not (eqb p.0 n && p.1) (not_or_left (eqb p.0 n && p.1) (applies n ps) h) (T_both (eqb p.0 n) p.1 (eq_to_eqb x) (yes q))
    go false q ih x = ih x

pub passes_of : (ps : List (ℕ × Bool)) → T (numbered ps) → first_of ps ≡ 0 → Passes ps
passes_of [] h e n = tt
passes_of (p ∷ ps) h e n = go p.1 (eqb p.0 n) (passes_of ps (T_right (ltb 0 p.0) (numbered ps) h)) e
  where
    go : (b here : Bool) → (first_of ps ≡ 0 → Passes ps) → cond b p.0 (first_of ps) ≡ 0 → T (not (cond here b (test_of n ps)))
    go true here f q = absurd (omega (arith, ltb→lt 0 p.0 (T_left (ltb 0 p.0) (numbered ps) h)))
    go false true f q = tt
    go false false f q = f q n

pub passes : (t : List ℤ) (R : Register) (c : Call) → refusal_of t R c ≡ 0 → Passes (passed c ++ held t R c)
unfolding refusal_of passed held
passes t R (enrol m) e = passes_of (passed (enrol m) ++ held t R (enrol m)) tt e
passes t R (grant d) e = passes_of (passed (grant d) ++ held t R (grant d)) tt e
passes t R (revoke y g r) e = passes_of (passed (revoke y g r) ++ held t R (revoke y g r)) tt e
passes t R (downgrade y g r w) e = passes_of (passed (downgrade y g r w) ++ held t R (downgrade y g r w)) tt e
passes t R (ask_reach g r) e = passes_of (passed (ask_reach g r) ++ held t R (ask_reach g r)) tt e
passes t R (ask_use r) e = passes_of (passed (ask_use r) ++ held t R (ask_use r)) tt e
passes t R (set_marks y s m) e = passes_of (passed (set_marks y s m) ++ held t R (set_marks y s m)) tt e
passes t R (retire y s) e = passes_of (passed (retire y s) ++ held t R (retire y s)) tt e

pub passed_numbered : (c : Call) → T (numbered (passed c))
unfolding passed
passed_numbered (enrol m) = tt
passed_numbered (grant d) = tt
passed_numbered (revoke y g r) = tt
passed_numbered (downgrade y g r w) = tt
passed_numbered (ask_reach g r) = tt
passed_numbered (ask_use r) = tt
passed_numbered (set_marks y s m) = tt
passed_numbered (retire y s) = tt
