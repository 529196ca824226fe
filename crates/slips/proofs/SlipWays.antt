-- The ways of a cut with a slip, and of taking one back: refused by a length, by a test, by a slip that is not genuine; or done. Assumes nothing.
use mathlib.Core.Path.{◌≡◌, refl, sym, ap, ◌∙◌}
use mathlib.Core.Logic.{◌≢◌}
use mathlib.Core.Bool.{Bool, true, false, cond, not, ◌&&◌}
use mathlib.Core.List.{List, [], ◌∷◌, ◌++◌}
use Prim.Native.Nat.{ℕ}
use native.Mathlib.Omega.{arith}
use borrow.Author.Tests.{eq-eqb, ne_eqb}
use lib.Dec.{eqb}
use lib.IntN.{pos}
use lib.ListN.{length}
use Rattle.rules.specs.Round.{equal}
use Rattle.rules.specs.Cut.{Cut}
use Rattle.rules.specs.Call.{Call, cut_call}
use Rattle.rules.specs.Refusal.{first_of, passed, back_passed, back_held}
use Rattle.rules.proofs.Lists.{yes}
use Rattle.rules.proofs.Rounds.{equal_to_eq}
use Rattle.rules.proofs.Refusals.{first_of_none, first_of_some}
use Rattle.block.specs.Layout.{block_size}
use Rattle.block.specs.Block.{decode}
use Rattle.steptable.specs.TableText.{Given}
use Rattle.refusals.specs.Early.{text_refused, not_well_formed, early_by, back_refusal}
use Rattle.refusals.proofs.EarlyTests.{refused_early}
use Rattle.register.specs.CallOn.{Result, turned, call_on}
use Rattle.register.specs.Made.{result_of}
use Rattle.register.specs.Cuts.{CutMade}
use Rattle.register.specs.Answer.{Answer, refused_by, answered_by}
use Rattle.register.proofs.CutWays.{cut_refused}
use Rattle.slips.specs.Slip.{cut_bytes, slip, slip_size, slip_before, slip_after, slip_byte, slip_by, slip_giver, slip_cut, Effect, slipped_on, SlipMade, is_cut}
use Rattle.slips.specs.TakeBack.{genuine, other_slip, take_back_refusal, restored, take_back_on, TakeBackMade}
use Rattle.slips.proofs.Equal.{equal_self, equal_append}
use Rattle.slips.proofs.Parts.{bytes_test, slip_parts, five_long}

-- ── a cut with a slip ──

-- a block of another length: the cut gets 1
pub block_short : (g : Given) (c : Call) (b : List ℕ) → length b ≢ block_size → CutMade g c b (refused_by 1) b
block_short g c b n =
    cut_refused g c b 1 (refused_early g b c 1 (ap (λ (x : Bool). cond (not x) 1 (first_of (passed c ++ (text_refused g.refusal ++ (not_well_formed b ∷ []))))) (ne_eqb (length b) block_size n)) (λ z. omega arith)) (λ z. omega arith)

module _ (g : Given) (y : ℕ) (k : Cut) (b s : List ℕ) where
  -- by the length of the slip buffer
  abbrev effect : Bool → Effect
  effect x = let r = cond x (call_on g b (cut_call y k)) (turned 1 b) in record { result = r; slip = cond (eqb r.refusal 0) (slip b y k r.bytes) s }

  pub slip_short : length s ≢ slip_size → SlipMade g y k b s (refused_by 1) b s
  unfolding slipped_on
  slip_short n = record { outcome = sym (ap effect (ne_eqb (length s) slip_size n)); leaves = λ c i z. absurd (omega arith) }

  module _ (l : length s ≡ slip_size) (o : Answer) (b' : List ℕ) (made : CutMade g (cut_call y k) b o b') where
    -- s' is the slip buffer afterwards
    made_so : (s' : List ℕ) → s' ≡ cond (eqb o.refusal 0) (slip b y k b') s → SlipMade g y k b s o b' s'
    unfolding slipped_on
    made_so s' e = record {
      outcome =
          (λ j. record { result = result_of o b'; slip = e j })
          ∙ (λ j. let r = made.outcome j in record { result = r; slip = cond (eqb r.refusal 0) (slip b y k r.bytes) s })
          ∙ sym (ap effect (eq-eqb (length s) slip_size l));
      leaves = made.leaves;
    }

    pub slip_refused : o.refusal ≢ 0 → SlipMade g y k b s o b' s
    slip_refused n = made_so s (sym (ap (λ (x : Bool). cond x (slip b y k b') s) (ne_eqb o.refusal 0 n)))

    pub slip_done : o.refusal ≡ 0 → (s' : List ℕ) → s' ≡ slip b y k b' → SlipMade g y k b s o b' s'
    slip_done z s' e = made_so s' (e ∙ sym (ap (λ (x : Bool). cond x (slip b y k b') s) (eq-eqb o.refusal 0 z)))

-- ── a genuine slip ──
module _ (g : Given) (b s : List ℕ) where
  -- what the cut on the slip comes to
  abbrev again : Result
  again = call_on g (slip_before s) (cut_call (slip_by s) (slip_cut s))

  module _ (l : length s ≡ slip_size) where
    abbrev parts : Bool → Bool → Bool → Bool
    parts a z c = a && (z && (equal (slip_before s) (slip_before s) && (c && equal again.bytes (slip_after s))))

    genuine_parts : genuine g b s ≡ parts (equal (slip_after s) b) (eqb again.refusal 0) (is_cut (slip_byte s 0) (slip_byte s 4))
    unfolding genuine
    genuine_parts = ap (λ (x : Bool). equal (slip_after s) b && (eqb again.refusal 0 && x)) (same ∙ before ∙ ap (λ (x : Bool). equal (slip_before s) (slip_before s) && x) (rest ∙ ap (λ (x : Bool). x && equal again.bytes (slip_after s)) (bytes_test (slip_byte s 0) (slip_by s) (slip_giver s) (slip_byte s 3) (slip_byte s 4))))
      where
        five : List ℕ
        five = slip_byte s 0 ∷ slip_byte s 1 ∷ slip_byte s 2 ∷ slip_byte s 3 ∷ slip_byte s 4 ∷ []

        cut : List ℕ
        cut = cut_bytes (slip_by s) (slip_cut s)

        same : equal (slip_before s ++ (cut ++ again.bytes)) s ≡ equal (slip_before s ++ (cut ++ again.bytes)) (slip_before s ++ (five ++ slip_after s))
        same = ap (equal (slip_before s ++ (cut ++ again.bytes))) (slip_parts s l)

        before : equal (slip_before s ++ (cut ++ again.bytes)) (slip_before s ++ (five ++ slip_after s)) ≡ (equal (slip_before s) (slip_before s) && equal (cut ++ again.bytes) (five ++ slip_after s))
        before = equal_append (slip_before s) (slip_before s) (cut ++ again.bytes) (five ++ slip_after s) refl

        rest : equal (cut ++ again.bytes) (five ++ slip_after s) ≡ (equal cut five && equal again.bytes (slip_after s))
        rest = equal_append cut five again.bytes (slip_after s) (five_long (slip_by s) (slip_cut s))

    and_false : (x : Bool) → (x && false) ≡ false
    and_false true = refl
    and_false false = refl

    -- one of its tests fails
    pub other_after : equal (slip_after s) b ≡ false → false ≡ genuine g b s
    other_after e = sym (genuine_parts ∙ ap (λ (x : Bool). parts x (eqb again.refusal 0) (is_cut (slip_byte s 0) (slip_byte s 4))) e)

    pub other_cut : is_cut (slip_byte s 0) (slip_byte s 4) ≡ false → false ≡ genuine g b s
    other_cut e =
        sym (genuine_parts ∙ ap (parts (equal (slip_after s) b) (eqb again.refusal 0)) e
        ∙ ap (λ (x : Bool). equal (slip_after s) b && (eqb again.refusal 0 && x)) (and_false (equal (slip_before s) (slip_before s)))
        ∙ ap (λ (x : Bool). equal (slip_after s) b && x) (and_false (eqb again.refusal 0)) ∙ and_false (equal (slip_after s) b))

    pub other_refused : again.refusal ≢ 0 → false ≡ genuine g b s
    other_refused n =
        sym (genuine_parts ∙ ap (λ (x : Bool). parts (equal (slip_after s) b) x (is_cut (slip_byte s 0) (slip_byte s 4))) (ne_eqb again.refusal 0 n) ∙ and_false (equal (slip_after s) b))

    -- else by what the cut left
    pub genuine_left : equal (slip_after s) b ≡ true → is_cut (slip_byte s 0) (slip_byte s 4) ≡ true → again.refusal ≡ 0 → genuine g b s ≡ equal again.bytes b
    genuine_left a c z =
        genuine_parts
        ∙ (λ j. parts (a j) (eq-eqb again.refusal 0 z j) (c j))
        ∙ ap (λ (x : Bool). x && equal again.bytes (slip_after s)) (equal_self (slip_before s))
        ∙ ap (equal again.bytes) (equal_to_eq (slip_after s) b (yes a))

-- ── taking a cut back ──
module _ (g : Given) (y : ℕ) (s b : List ℕ) where
  turned_back : (n : ℕ) → take_back_refusal g b y s ≡ n → n ≢ 0 → TakeBackMade g y s b (refused_by n) b
  unfolding take_back_on
  turned_back n e k = sym ((λ j. cond (eqb (e j) 0) (restored (slip_before s)) (turned (e j) b)) ∙ ap (λ (x : Bool). cond x (restored (slip_before s)) (turned n b)) (ne_eqb n 0 k))

  pub back_short : length s ≢ slip_size → TakeBackMade g y s b (refused_by 1) b
  unfolding take_back_refusal
  back_short n = turned_back 1 (ap (λ (x : Bool). cond (not x) 1 (first_of ((early_by g.refusal b (back_passed y) ++ back_held (decode b) y (slip_giver s)) ++ (other_slip g b s ∷ [])))) (ne_eqb (length s) slip_size n)) (λ z. omega arith)

  module _ (l : length s ≡ slip_size) where
    abbrev tests : List (ℕ × Bool)
    tests = early_by g.refusal b (back_passed y) ++ back_held (decode b) y (slip_giver s)

    sized : take_back_refusal g b y s ≡ first_of (tests ++ (other_slip g b s ∷ []))
    unfolding take_back_refusal
    sized = ap (λ (x : Bool). cond (not x) 1 (first_of (tests ++ (other_slip g b s ∷ [])))) (eq-eqb (length s) slip_size l)

    pub back_refused : (n : ℕ) → n ≡ back_refusal g.refusal b y (slip_giver s) → n ≢ 0 → TakeBackMade g y s b (refused_by n) b
    unfolding back_refusal
    back_refused n e k = turned_back n (sized ∙ first_of_some tests (other_slip g b s ∷ []) n tt (sym e) k) k

    module _ (e : back_refusal g.refusal b y (slip_giver s) ≡ 0) where
      pub last_test : take_back_refusal g b y s ≡ cond (not (genuine g b s)) 20 0
      unfolding back_refusal
      last_test = sized ∙ first_of_none tests (other_slip g b s ∷ []) tt e

      pub back_other : genuine g b s ≡ false → TakeBackMade g y s b (refused_by 20) b
      back_other f = turned_back 20 (last_test ∙ ap (λ (x : Bool). cond (not x) 20 0) f) (λ z. omega arith)

      pub back_done : genuine g b s ≡ true → (after : List ℕ) → after ≡ slip_before s → TakeBackMade g y s b (answered_by (pos 0) (pos 0) (pos 0)) after
      unfolding take_back_on
      back_done t after q =
          let z = last_test ∙ ap (λ (x : Bool). cond (not x) 20 0) t in
          (λ j. restored (q j)) ∙ sym (λ j. cond (eqb (z j) 0) (restored (slip_before s)) (turned (z j) b))
