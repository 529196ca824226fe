-- The text of a call: whether it takes one, where it lies, and the call made with it. Assumes nothing.
use mathlib.Core.Path.{◌≡◌, refl, sym, ap, ◌∙◌}
use mathlib.Core.Logic.{◌≢◌}
use mathlib.Core.Bool.{Bool, true, false}
use mathlib.Core.List.{List}
use Prim.Native.Nat.{ℕ, zero, suc, ◌+◌, ◌-◌, ◌<◌}
use native.Mathlib.Omega.{arith}
use borrow.Author.Tests.{ne_eqb, lt-leb}
use lib.Dec.{leb, leb-zero}
use lib.ListN.{get_or, take, drop}
use lib.Seq.{get_or-drop}
use Rattle.rules.specs.Call.{Call}
use Rattle.steptable.specs.TableText.{Given}
use Rattle.register.specs.CallOn.{call_on}
use Rattle.register.specs.Made.{result_of, Made}
use Rattle.register.specs.Answer.{Answer}
use Rattle.demands.specs.History.{reckons, lent_to, plain, asked_on}
use Rattle.replay.specs.Replay.{call_of, call_in, ask_in}
use Rattle.replay.specs.Turn.{Reckoning, TextPlaced}
use Rattle.replay.specs.declared.Place.{Place}
use Rattle.replay.proofs.Calling.{call_at}

-- ── the calls that take one ──
pub reckons_none : (n : ℕ) → n ≡ 0 → Reckoning n false
unfolding call_of
reckons_none n e by giver receiver weight need bar = rw e

pub reckons_none_5 : (n : ℕ) → n ≡ 5 → Reckoning n false
unfolding call_of
reckons_none_5 n e by giver receiver weight need bar = rw e

reckons_high : (n : ℕ) → 7 < n → Reckoning n false
unfolding call_of
reckons_high n h by giver receiver weight need bar = rw (ne_eqb n 0 (λ e. omega arith), ne_eqb n 1 (λ e. omega arith), ne_eqb n 2 (λ e. omega arith), ne_eqb n 3 (λ e. omega arith), ne_eqb n 4 (λ e. omega arith), ne_eqb n 6 (λ e. omega arith), ne_eqb n 7 (λ e. omega arith))

pub reckons_some : (n : ℕ) → n ≢ 0 → n ≢ 5 → Reckoning n (leb n 7)
unfolding call_of
reckons_some zero h k by giver receiver weight need bar = absurd (h refl)
reckons_some (suc zero) h k by giver receiver weight need bar = refl
reckons_some (suc (suc zero)) h k by giver receiver weight need bar = refl
reckons_some (suc (suc (suc zero))) h k by giver receiver weight need bar = refl
reckons_some (suc (suc (suc (suc zero)))) h k by giver receiver weight need bar = refl
reckons_some (suc (suc (suc (suc (suc zero))))) h k by giver receiver weight need bar = absurd (k refl)
reckons_some (suc (suc (suc (suc (suc (suc zero)))))) h k by giver receiver weight need bar = refl
reckons_some (suc (suc (suc (suc (suc (suc (suc zero))))))) h k by giver receiver weight need bar = refl
reckons_some (suc (suc (suc (suc (suc (suc (suc (suc n)))))))) h k by giver receiver weight need bar =
    let m : ℕ = suc (suc (suc (suc (suc (suc (suc (suc n))))))) in
    lt-leb m 7 (omega arith) ∙ reckons_high m (omega arith) by giver receiver weight need bar

-- ── where it lies ──
module _ (calls : List ℕ) (at : ℕ) (r : Bool) (known : Reckoning (get_or calls at 0) r) where
  reckons_at : r ≡ reckons (call_in (drop at calls))
  reckons_at = known _ _ _ _ _ _ ∙ sym (ap reckons (call_at calls at))

  pub placed_none : r ≡ false → TextPlaced (drop at calls) record { begin = 0; end = 0 }
  placed_none e =
      let q : reckons (call_in (drop at calls)) ≡ false = sym reckons_at ∙ e in
      record { ordered = omega arith; fits = λ size. rw q (leb-zero size); same = λ texts. rw q }

  pub placed : r ≡ true → (a n : ℕ) → a ≡ get_or calls (at + 7) 0 → n ≡ get_or calls (at + 8) 0 → TextPlaced (drop at calls) record { begin = a; end = a + n }
  placed e a n f g =
      let q : reckons (call_in (drop at calls)) ≡ true = sym reckons_at ∙ e in
      let z : a + n - a ≡ n = omega arith in
      record {
        ordered = omega arith;
        fits = λ size. rw (q, get_or-drop at calls 7 0, get_or-drop at calls 8 0, f, g);
        same = λ texts. rw (z, get_or-drop at calls 7 0, get_or-drop at calls 8 0, f, g);
      }

-- a call that is lent what lies there is made with its text
pub made_lent : (s texts : List ℕ) (p : Place) → TextPlaced s p → (d : Call) → call_in s ≡ d → (before : List ℕ) (o : Answer) (after : List ℕ)
    → Made (lent_to d (take (p.end - p.begin) (drop p.begin texts))) d before o after → plain (result_of o after) ≡ asked_on before (ask_in texts s)
made_lent s texts p placed d e before o after m =
    ap plain
    (m
    ∙ ap (λ (c : Call). call_on (lent_to c (take (p.end - p.begin) (drop p.begin texts))) before c) (sym e)
    ∙ ap (λ (g : Given). call_on g before (call_in s)) (placed.same texts))
