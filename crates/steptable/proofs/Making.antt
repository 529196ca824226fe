-- The entries of a table tested one by one, and stored. Assumes nothing.
use mathlib.Core.Path.{◌≡◌, refl, sym, ap, subst, ◌∙◌}
use mathlib.Core.Bool.{Bool, true, false, cond, ◌&&◌}
use mathlib.Core.List.{List, [], ◌∷◌, ◌++◌}
use Prim.Native.Nat.{ℕ, zero, suc, ◌+◌, ◌≤◌, ◌<◌}
use native.Mathlib.Numerals.{add-one}
use native.Mathlib.Omega.{arith}
use borrow.Author.Tests.{lt-leb, le-ltb, lt-ltb, ltb-true, eq-eqb}
use lib.Dec.{T, leb, ltb, eqb, leb-suc-suc, leb→le}
use lib.IntN.{ℤ, pos, negsuc}
use lib.Signed.{lt_z}
use lib.ListN.{length, get_or, take, drop, set, length-set, drop_of_length-le}
use lib.Seq.{take-suc, take_all, drop-cons, take-set-le, get_or-set_same}
use mir.Syntax.{w16, w64}
use mir.Val.{SFits, of_z, to_z}
use mir.Facts.{to_z-of_z}
use Rattle.rules.specs.Limit.{none, code, from_none}
use Rattle.rules.specs.Table.{fits, ruled, table_test}
use Rattle.rules.proofs.Lists.{clash, T_right, T_true, yes}
use Rattle.steptable.specs.TableText.{IsNext, AreNexts}
use Rattle.steptable.specs.Read.{TableMade}
use Rattle.steptable.proofs.Lines.{held}
use Rattle.steptable.proofs.Entries.{entry_at}

-- ── comparisons of numbers from -1 on ──
less_code : (x y : ℤ) → T (from_none x) → T (from_none y) → lt_z x y ≡ ltb (code x) (code y)
unfolding from_none
less_code (pos a) (pos b) f g = sym (leb-suc-suc (suc a) b)
less_code (pos a) (negsuc b) f g = sym (le-ltb (suc a) 0 (omega arith))
less_code (negsuc a) (pos b) f g = sym (lt-ltb 0 (suc b) (omega arith))
less_code (negsuc zero) (negsuc zero) f g = refl
less_code (negsuc zero) (negsuc (suc b)) f g = absurd g
less_code (negsuc (suc a)) (negsuc b) f g = absurd f

-- ── one entry ──
module _ (w : ℕ) (p x : ℤ) (a : IsNext p) (b : IsNext x) where
  less : lt_z (to_z w64 (of_z w64 x)) (to_z w64 (of_z w64 p)) ≡ ltb (code x) (code p)
  less = (λ i. lt_z (held x b.0 i) (held p a.0 i)) ∙ less_code x p b.1 a.1

  pub keeps_not : lt_z (to_z w64 (of_z w64 x)) (to_z w64 (of_z w64 p)) ≡ true → false ≡ fits w p x
  keeps_not e =
      let l : code x < code p = ltb-true (code x) (code p) (sym less ∙ e) in
      sym (rw (T_true (from_none x) b.1, lt-leb (code p) (code x) l))

-- what may stand in a table fits a small number
small : (x : ℤ) → T (from_none x) → code x ≤ 256 → SFits w16 x
unfolding from_none
small (pos n) f l = record { sfits = omega arith }
small (negsuc zero) f l = record { sfits = omega arith }
small (negsuc (suc n)) f l = absurd f

top_most : (b : Bool) (w : ℕ) → w < 256 → cond b 256 w ≤ 256
top_most true w h = omega arith
top_most false w h = omega arith

fits_small : (w : ℕ) (p x : ℤ) → w < 256 → IsNext x → fits w p x ≡ true → SFits w16 x
fits_small w p x h a e =
    let l = leb→le (code x) (cond (eqb w 255) 256 w) (T_right (from_none x && leb (code p) (code x)) (leb (code x) (cond (eqb w 255) 256 w)) (yes e)) in
    small x a.1 (omega (arith, l, top_most (eqb w 255) w h))

-- ── the entries up to w are stored, and the whole answer is the answer from w on ──
pub record Making (entries : List ℤ) (before : ℤ) (w : ℕ) (table : List ℤ) : Type 0 where
  pub long : length table ≡ 256
  pub good : IsNext before
  pub same : take w table ≡ take w entries
  pub on : ruled 0 none entries ≡ ruled w before (drop w entries)

module _ (entries : List ℤ) (size : length entries ≡ 256) (all : AreNexts entries) where
  test_is : table_test entries ≡ ruled 0 none entries
  test_is = ap (λ (b : Bool). b && ruled 0 none entries) (eq-eqb (length entries) 256 size)

  pub making_start : (table : List ℤ) → length table ≡ 256 → Making entries none 0 table
  unfolding from_none
  making_start table l = record { long = l; good = (omega arith, tt); same = refl; on = refl }

  module _ (before : ℤ) (w : ℕ) (table : List ℤ) (m : Making entries before w table) where
    pub making_end : 256 ≤ w → TableMade entries true table
    making_end h =
        let l : length entries ≤ w = omega arith in
        record {
          result = sym (test_is ∙ m.on ∙ ap (ruled w before) (drop_of_length-le entries l));
          same = λ e. sym (take_all w table (omega (arith, m.long))) ∙ m.same ∙ take_all w entries l;
        }

    module _ (h : w < 256) where
      abbrev next : ℤ
      next = get_or entries w (pos 0)

      next_entry : IsNext next
      next_entry = entry_at entries w (omega arith) all

      pub next_held : to_z w64 (of_z w64 next) ≡ next
      next_held = held next next_entry.0

      pub making_entry : IsNext (to_z w64 (of_z w64 next))
      making_entry = subst IsNext (sym next_held) next_entry

      here : ruled 0 none entries ≡ fits w before next && ruled (suc w) next (drop (suc w) entries)
      here = m.on ∙ ap (ruled w before) (drop-cons entries w (pos 0) (omega arith))

      module _ (b : Bool) (e : b ≡ fits w before (to_z w64 (of_z w64 next))) where
        tested : fits w before next ≡ b
        tested = ap (fits w before) (sym next_held) ∙ sym e

        pub making_not : b ≡ false → TableMade entries false table
        making_not f = record {
          result = sym (test_is ∙ here ∙ ap (λ (t : Bool). t && ruled (suc w) next (drop (suc w) entries)) (tested ∙ f));
          same = λ g. clash (sym g);
        }

        module _ (f : b ≡ true) where
          pub making_fits : SFits w16 (to_z w64 (of_z w64 next))
          making_fits = subst (SFits w16) (sym next_held) (fits_small w before next h next_entry (tested ∙ f))

          stored : to_z w16 (of_z w16 (to_z w64 (of_z w64 next))) ≡ next
          stored = to_z-of_z making_fits ∙ next_held

          more : Making entries next (suc w) (set table w next)
          more =
              let l : w < length table = omega (arith, m.long) in
              let k : length (set table w next) ≡ length table = length-set table w next in
              record {
                long = k ∙ m.long;
                good = next_entry;
                same =
                    take-suc (set table w next) w (pos 0) (omega arith)
                    ∙ (λ i. take-set-le w table w next (omega arith) i ++ (get_or-set_same table w next (pos 0) l i ∷ []))
                    ∙ ap (λ (s : List ℤ). s ++ (next ∷ [])) m.same
                    ∙ sym (take-suc entries w (pos 0) (omega arith));
                on = here ∙ ap (λ (t : Bool). t && ruled (suc w) next (drop (suc w) entries)) (tested ∙ f);
              }

          pub making_more : Making entries (to_z w64 (of_z w64 next)) (w + 1) (set table w (to_z w16 (of_z w16 (to_z w64 (of_z w64 next)))))
          making_more = rw (add-one, stored, next_held) more
