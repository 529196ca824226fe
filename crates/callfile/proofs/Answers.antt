-- The line of a call's answers, and of a malformed line. Assumes nothing.
use mathlib.Core.Path.{◌≡◌, sym, ap, subst, ◌∙◌}
use mathlib.Core.Bool.{true}
use mathlib.Core.List.{List, [], ◌∷◌}
use Prim.Native.Nat.{ℕ, ◌+◌, ◌*◌, ◌≤◌}
use native.Mathlib.Omega.{arith}
use lib.IntN.{ℤ, pos, negsuc}
use lib.ListN.{length}
use mir.Syntax.{w32, w64}
use mir.Val.{SFits, of_z, to_z}
use mir.Facts.{to_z-of_z, to_z_pos}
use Rattle.rules.specs.Call.{Call}
use Rattle.steptable.specs.TableText.{ours}
use Rattle.steptable.specs.TableText.{Given}
use Rattle.register.specs.CallOn.{Result, call_on}
use Rattle.register.specs.Made.{Made}
use Rattle.register.specs.Answer.{Answer}
use Rattle.demands.specs.History.{lent_to}
use Rattle.demands.proofs.History.{lent_ours}
use Rattle.text.specs.Text.{line, most, Allowed, AllAllowed}
use Rattle.text.specs.Write.{Room, Written}
use Rattle.text.proofs.Sizes.{line_short}
use Rattle.text.proofs.Signed.{held}
use Rattle.callfile.specs.CallFile.{answer_line}
use Rattle.callfile.specs.Row.{Answered}

-- a line of allowed values fits where there are 12 bytes a value
line_room : (at : ℕ) (zs : List ℤ) (out : List ℕ) → AllAllowed true zs → at + 12 * length zs ≤ length out → Room at (line zs) out
line_room at zs out a h = omega (arith, line_short zs a)

-- ── the values of an answer ──
wide_allowed : (z : ℤ) → SFits w32 z → Allowed true z
wide_allowed (pos n) f = omega (arith, f.sfits)
wide_allowed (negsuc n) f = omega (arith, f.sfits)

abbrev pub given : Answer → List ℤ
given o = pos o.refusal ∷ o.first ∷ o.second ∷ o.third ∷ []

module _ (o : Answer) (a : o.refusal ≤ most) (f : SFits w32 o.first) (g : SFits w32 o.second) (h : SFits w32 o.third) where
  given_allowed : AllAllowed true (given o)
  given_allowed = (a, (wide_allowed o.first f, (wide_allowed o.second g, (wide_allowed o.third h, tt))))

  -- as the machine holds them
  pub machine_is : {p q r s : ℤ} → p ≡ pos o.refusal → q ≡ to_z w32 (of_z w32 o.first) → r ≡ to_z w32 (of_z w32 o.second) → s ≡ to_z w32 (of_z w32 o.third) → to_z w64 (of_z w64 p) ∷ to_z w64 (of_z w64 q) ∷ to_z w64 (of_z w64 r) ∷ to_z w64 (of_z w64 s) ∷ [] ≡ given o
  machine_is e k l m = λ i. held e a i ∷ held (k ∙ to_z-of_z f) (wide_allowed o.first f) i ∷ held (l ∙ to_z-of_z g) (wide_allowed o.second g) i ∷ held (m ∙ to_z-of_z h) (wide_allowed o.third h) i ∷ []

  module _ (zs : List ℤ) (e : zs ≡ given o) (at : ℕ) (out : List ℕ) where
    pub answer_room : at + 48 ≤ length out → AllAllowed true zs × Room at (line zs) out
    answer_room l = subst (λ (s : List ℤ). AllAllowed true s × Room at (line s) out) (sym e) (given_allowed, line_room at (given o) out given_allowed (omega arith))

    pub answered : (c : Call) (b : List ℕ) (n : ℕ) (b' out' : List ℕ) → Made (lent_to c []) c b o b' → Written at (line zs) out n out' → Answered c b out at n b' out'
    answered c b n b' out' lent w =
        let m : Made ours c b o b' = lent ∙ ap (λ (g : Given). call_on g b c) (lent_ours c) in
        let v : Written at (line (given o)) out n out' = subst (λ (s : List ℤ). Written at (line s) out n out') e w in
        record {
          block = ap (λ (x : Result). x.bytes) m;
          line = subst (λ (x : Result). Written at (answer_line x) out n out') m v;
          short = omega (arith, v.next, line_short (given o) given_allowed);
        }

-- ── a malformed line ──
module _ (n : ℕ) (h : n ≤ 65536) where
  number_is : pos 7 ∷ to_z w64 n ∷ [] ≡ pos 7 ∷ pos n ∷ []
  number_is = λ p. pos 7 ∷ to_z_pos w64 {n = n} (omega arith) p ∷ []

  pub malformed_room : (at : ℕ) (out : List ℕ) → at + 24 ≤ length out → AllAllowed true (pos 7 ∷ to_z w64 n ∷ []) × Room at (line (pos 7 ∷ to_z w64 n ∷ [])) out
  malformed_room at out l =
      let a : AllAllowed true (pos 7 ∷ pos n ∷ []) = (omega arith, (omega arith, tt)) in
      subst (λ (s : List ℤ). AllAllowed true s × Room at (line s) out) (sym number_is) (a, line_room at (pos 7 ∷ pos n ∷ []) out a (omega arith))

  pub malformed_written : (at : ℕ) (out : List ℕ) (k : ℕ) (out' : List ℕ) → Written at (line (pos 7 ∷ to_z w64 n ∷ [])) out k out' → Written at (line (pos 7 ∷ pos n ∷ [])) out k out'
  malformed_written at out k out' w = subst (λ (s : List ℤ). Written at (line s) out k out') number_is w
