-- Taking a cut back: what a slip that is accepted has, and so what it does; a cut's own slip is accepted. Assumes nothing.
use mathlib.Core.Path.{◌≡◌, refl, sym, ap, subst, ◌∙◌}
use mathlib.Core.Logic.{◌≢◌, ◌⊎◌, inl, inr}
use mathlib.Core.Bool.{Bool, true, false, cond, not, ◌&&◌, ◌||◌}
use mathlib.Core.List.{List, [], ◌∷◌, ◌++◌}
use Prim.Native.Nat.{ℕ, ◌≤◌, ◌<◌}
use native.Mathlib.Omega.{arith}
use borrow.Author.Tests.{eq-eqb, lt-leb, le-ltb}
use lib.Dec.{T, leb, ltb, eqb, eqb→eq, nleb→lt, nltb→le, not_T}
use lib.IntN.{pos}
use lib.ListN.{length}
use Rattle.rules.specs.Bits.{is_set}
use Rattle.rules.specs.Table.{TableRule}
use Rattle.rules.specs.Register.{Register, is_retired}
use Rattle.rules.specs.Support.{Supported}
use Rattle.rules.specs.Round.{equal}
use Rattle.rules.specs.Cut.{Cut, cutting, giver_of, named}
use Rattle.rules.specs.Remainder.{LiftsNothing, Within}
use Rattle.rules.specs.WellFormed.{WellFormed}
use Rattle.rules.specs.Call.{cut_call}
use Rattle.rules.specs.Refusal.{first_of, may_not, passed, held, back_passed, back_held}
use Rattle.rules.specs.CallStep.{call_step}
use Rattle.rules.proofs.Lists.{T_true, T_left, T_right, T_both, yes, unset, not_or_left, eq_to_eqb, eq_or, clash}
use Rattle.rules.proofs.Rounds.{equal_refl, equal_to_eq}
use Rattle.rules.proofs.Refusals.{Passes, passes_of}
use Rattle.rules.proofs.Calls.{call_step_formed}
use Rattle.rules.proofs.Cutting.{cut_makes, cut_within, may_cut, giver_enrolled_lem, giver_stays, cut_differs, giver_or_owner}
use Rattle.block.specs.Layout.{block_size}
use Rattle.block.specs.Bytes.{IsBytes}
use Rattle.block.specs.Block.{decode, encode}
use Rattle.block.specs.WellFormed.{well_formed}
use Rattle.block.proofs.Bytes.{bytes_take}
use Rattle.block.proofs.Encode.{length_encode}
use Rattle.block.proofs.Form.{encode_formed}
use Rattle.block.proofs.Held.{held_formed}
use Rattle.steptable.specs.TableText.{Given}
use Rattle.refusals.specs.Early.{back_refusal}
use Rattle.refusals.proofs.EarlyTests.{EarlyBy, back_none, none_back}
use Rattle.register.specs.CallOn.{Result, turned, call_on}
use Rattle.register.specs.Made.{result_of}
use Rattle.register.specs.Answer.{Answer, answered_by}
use Rattle.register.proofs.Made.{accepted_passes}
use Rattle.register.proofs.Through.{accepted_through, accepted_left}
use Rattle.register.proofs.CutWays.{cuts_left}
use Rattle.slips.specs.Slip.{slip, slip_size, slip_before, slip_after, slip_by, slip_giver, slip_cut, Effect, slipped_on, SlipMade}
use Rattle.slips.specs.TakeBack.{genuine, take_back_refusal, restored, take_back_on, TakeBackMade}
use Rattle.slips.proofs.Parts.{slip_before_lem, slip_after_lem, slip_long, slip_by_lem, slip_giver_lem, slip_cut_lem}
use Rattle.slips.proofs.SlipWays.{back_short, back_refused, back_other, back_done}
use Rattle.demands.specs.TakeBack.{TakenBack, Returnable, TakeBackExactly, Restores}

-- ── a cut with a slip that is accepted ──
module _ (g : Given) (s : List ℕ) (y : ℕ) (b : List ℕ) (k : Cut) where
  -- by the length of the slip buffer
  pub slipped_cases : (P : Effect → Type 0) → (length s ≡ slip_size → let r = call_on g b (cut_call y k) in P record { result = r; slip = cond (eqb r.refusal 0) (slip b y k r.bytes) s })
      → (length s ≢ slip_size → P record { result = turned 1 b; slip = s }) → P (slipped_on g s y b k)
  unfolding slipped_on
  slipped_cases P long short = go (eqb (length s) slip_size) refl
    where
      go : (x : Bool) → eqb (length s) slip_size ≡ x → let r = cond x (call_on g b (cut_call y k)) (turned 1 b) in P record { result = r; slip = cond (eqb r.refusal 0) (slip b y k r.bytes) s }
      go true e = long (eqb→eq (length s) slip_size (yes e))
      go false e = short (λ l. clash (sym (eq-eqb (length s) slip_size l) ∙ e))

  -- it is the cut, and its slip was written
  pub slipped_so : (slipped_on g s y b k).result.refusal ≡ 0 → ((slipped_on g s y b k).result ≡ call_on g b (cut_call y k)) × ((slipped_on g s y b k).slip ≡ slip b y k (call_on g b (cut_call y k)).bytes)
  slipped_so = slipped_cases (λ e. e.result.refusal ≡ 0 → (e.result ≡ call_on g b (cut_call y k)) × (e.slip ≡ slip b y k (call_on g b (cut_call y k)).bytes))
      (λ l z. (refl, ap (λ (x : Bool). cond x (slip b y k (call_on g b (cut_call y k)).bytes) s) (eq-eqb (call_on g b (cut_call y k)).refusal 0 z)))
      (λ n z. absurd (omega arith))

-- ── what a genuine slip is ──
module _ (g : Given) (b s : List ℕ) where
  abbrev again : Result
  again = call_on g (slip_before s) (cut_call (slip_by s) (slip_cut s))

  pub record Genuine : Type 0 where
    pub after : slip_after s ≡ b
    pub accepted : again.refusal ≡ 0
    pub same : slip (slip_before s) (slip_by s) (slip_cut s) again.bytes ≡ s

  pub genuine_means : T (genuine g b s) → Genuine
  unfolding genuine
  genuine_means h =
      let later = eqb again.refusal 0 && equal (slip (slip_before s) (slip_by s) (slip_cut s) again.bytes) s in
      let r = T_right (equal (slip_after s) b) later h in
      record {
        after = equal_to_eq (slip_after s) b (T_left (equal (slip_after s) b) later h);
        accepted = eqb→eq again.refusal 0 (T_left (eqb again.refusal 0) (equal (slip (slip_before s) (slip_by s) (slip_cut s) again.bytes) s) r);
        same = equal_to_eq (slip (slip_before s) (slip_by s) (slip_cut s) again.bytes) s (T_right (eqb again.refusal 0) (equal (slip (slip_before s) (slip_by s) (slip_cut s) again.bytes) s) r);
      }

  pub means_genuine : Genuine → T (genuine g b s)
  unfolding genuine
  means_genuine h =
      T_both (equal (slip_after s) b) (eqb again.refusal 0 && equal (slip (slip_before s) (slip_by s) (slip_cut s) again.bytes) s) (eq_test h.after)
      (T_both (eqb again.refusal 0) (equal (slip (slip_before s) (slip_by s) (slip_cut s) again.bytes) s) (eq_to_eqb h.accepted) (eq_test h.same))
    where
      eq_test : {xs ys : List ℕ} → xs ≡ ys → T (equal xs ys)
      eq_test {xs} e = subst (λ (zs : List ℕ). T (equal xs zs)) e (equal_refl xs)

  -- its cut leaves the block
  module _ (h : Genuine) where
    pub before_long : length (slip_before s) ≡ block_size
    before_long = (accepted_through g (slip_before s) (cut_call (slip_by s) (slip_cut s)) h.accepted).early.size

    pub cut_left : again.bytes ≡ b
    cut_left = sym (slip_after_lem (slip_before s) (slip_by s) (slip_cut s) again.bytes before_long) ∙ ap slip_after h.same ∙ h.after

-- ── what an accepted taking back has passed ──
module _ (g : Given) (b : List ℕ) (y : ℕ) (s : List ℕ) where
  pub record Taken : Type 0 where
    pub long : length s ≡ slip_size
    pub early : EarlyBy g.refusal b (back_passed y)
    pub held : first_of (back_held (decode b) y (slip_giver s)) ≡ 0
    pub genuine : Genuine g b s

  pub taken : (take_back_on g b y s).refusal ≡ 0 → Taken
  taken z = by_length (eq_or (length s) slip_size)
    where
      refusal_of_lem : {o : Answer} {a : List ℕ} → TakeBackMade g y s b o a → o.refusal ≡ 0
      refusal_of_lem m = ap (λ (r : Result). r.refusal) m ∙ z

      by_genuine : (l : length s ≡ slip_size) → back_refusal g.refusal b y (slip_giver s) ≡ 0 → (x : Bool) → genuine g b s ≡ x → Taken
      by_genuine l e true q = let (h, k) = back_none g.refusal b y (slip_giver s) e in record { long = l; early = h; held = k; genuine = genuine_means g b s (yes q) }
      by_genuine l e false q = absurd (omega (arith, refusal_of_lem (back_other g y s b l e q)))

      by_tests : (l : length s ≡ slip_size) → (back_refusal g.refusal b y (slip_giver s) ≡ 0) ⊎ (back_refusal g.refusal b y (slip_giver s) ≢ 0) → Taken
      by_tests l (inl e) = by_genuine l e (genuine g b s) refl
      by_tests l (inr k) = absurd (k (refusal_of_lem (back_refused g y s b l (back_refusal g.refusal b y (slip_giver s)) refl k)))

      by_length : (length s ≡ slip_size) ⊎ (length s ≢ slip_size) → Taken
      by_length (inl l) = by_tests l (eq_or (back_refusal g.refusal b y (slip_giver s)) 0)
      by_length (inr n) = absurd (omega (arith, refusal_of_lem (back_short g y s b n)))

  pub gives_back : Taken → take_back_on g b y s ≡ restored (slip_before s)
  gives_back t =
      let e = none_back g.refusal b y (slip_giver s) t.early ∙ t.held in
      sym (back_done g y s b t.long e (T_true (genuine g b s) (means_genuine g b s t.genuine)) (slip_before s) refl)

  -- what is left
  pub restored_so : (take_back_on g b y s).refusal ≡ 0 → (take_back_on g b y s).bytes ≡ slip_before s
  restored_so z = ap (λ (r : Result). r.bytes) (gives_back (taken z))

  pub refused_so : (take_back_on g b y s).refusal ≢ 0 → (take_back_on g b y s).bytes ≡ b
  unfolding take_back_on
  refused_so n = go (eqb (take_back_refusal g b y s) 0) n
    where
      go : (x : Bool) → (cond x (restored (slip_before s)) (turned (take_back_refusal g b y s) b)).refusal ≢ 0 → (cond x (restored (slip_before s)) (turned (take_back_refusal g b y s) b)).bytes ≡ b
      go true k = absurd (k refl)
      go false k = refl

-- ── the tests by what was passed and by what the register holds ──
module _ (y : ℕ) where
  pub passed_of : y ≤ 63 → first_of (back_passed y) ≡ 0
  passed_of l = λ i. cond (le-ltb 63 y l i || false) 2 0

  of_passed : first_of (back_passed y) ≡ 0 → y ≤ 63
  of_passed e = nltb→le 63 y (not_or_left (ltb 63 y) false (passes_of (back_passed y) tt e 2))

  module _ (g : ℕ) where
    -- they look at the subjects and at who is retired alone
    held_same : (R S : Register) → R.subjects ≡ S.subjects → R.retired ≡ S.retired → first_of (back_held R y g) ≡ first_of (back_held S y g)
    held_same R S p q = λ i. first_of ((9, leb (p i) y || false) ∷ (19, is_set (q i) y || false) ∷ may_not y g ∷ [])

    held_of : (R : Register) → y < R.subjects → T (not (is_retired R y)) → (y ≡ 0) ⊎ (y ≡ g) → first_of (back_held R y g) ≡ 0
    held_of R l u m = λ i. cond (lt-leb R.subjects y l i || false) 9 (cond (unset (is_retired R y) u i || false) 19 (cond (not (may m i)) 14 0))
      where
        or_true : (x : Bool) → (x || true) ≡ true
        or_true true = refl
        or_true false = refl

        may : (y ≡ 0) ⊎ (y ≡ g) → (eqb y g || eqb y 0) ≡ true
        may (inl e) = ap (λ (x : Bool). eqb y g || x) (eq-eqb y 0 e) ∙ or_true (eqb y g)
        may (inr e) = ap (λ (x : Bool). x || eqb y 0) (eq-eqb y g e)

    of_held : (R : Register) → first_of (back_held R y g) ≡ 0 → (y < R.subjects) × T (not (is_retired R y)) × ((y ≡ 0) ⊎ (y ≡ g))
    of_held R e =
        let p = passes_of (back_held R y g) tt e in
        (nleb→lt R.subjects y (not_or_left (leb R.subjects y) false (p 9)), not_or_left (is_retired R y) false (p 19), giver_or_owner y g (p 14))

-- ── an accepted cut ──
module _ (g : Given) (rule : TableRule g.steps) (b : List ℕ) (bytes : IsBytes b) (y : ℕ) (k : Cut) (e : (call_on g b (cut_call y k)).refusal ≡ 0) where
  abbrev after : List ℕ
  after = (call_on g b (cut_call y k)).bytes

  formed : WellFormed (decode b)
  formed = held_formed b bytes (accepted_through g b (cut_call y k) e).early.formed

  cut_passes : Passes (passed (cut_call y k) ++ held g.steps (decode b) (cut_call y k))
  cut_passes = let h = accepted_through g b (cut_call y k) e in accepted_passes g (cut_call y k) b h.early h.held

  left_formed : WellFormed (call_step g.steps (decode b) (cut_call y k)).left
  left_formed = call_step_formed g.steps (decode b) (cut_call y k) formed

  after_long : length after ≡ block_size
  after_long = ap length (accepted_left g b (cut_call y k) e) ∙ length_encode (call_step g.steps (decode b) (cut_call y k)).left left_formed

  after_formed : well_formed after ≡ true
  after_formed =
      ap well_formed (accepted_left g b (cut_call y k) e)
      ∙ T_true (well_formed (encode (call_step g.steps (decode b) (cut_call y k)).left)) (encode_formed (call_step g.steps (decode b) (cut_call y k)).left left_formed)

  pub after_within : Within (decode after) (decode b)
  after_within = let (right, lifts) = cuts_left g rule b bytes (cut_call y k) (cutting k) (cut_makes y k) e in cut_within g.steps (decode b) (decode after) k right.best lifts

  pub after_supported : Supported g.steps (decode after)
  after_supported = (cuts_left g rule b bytes (cut_call y k) (cutting k) (cut_makes y k) e).0.best.remainder.supported

  -- it changes its block
  after_differs : after ≢ b
  after_differs q =
      let (right, lifts) = cuts_left g rule b bytes (cut_call y k) (cutting k) (cut_makes y k) e in
      cut_differs g.steps (decode b) y k cut_passes (subst (λ (x : List ℕ). LiftsNothing (named (decode b) k) (decode x)) q right.best.remainder.within.held)

  -- its slip passes every test of a caller who is the owner or the giver
  own_slip : (z : ℕ) → (z ≡ 0) ⊎ (z ≡ giver_of k) → Taken g after z (slip b y k after)
  own_slip z m = record {
    long = slip_long b y k after long after_long;
    early = record { size = after_long; passed = passed_of z (omega (arith, enrolled, formed.most)); text = (accepted_through g b (cut_call y k) e).early.text; formed = after_formed };
    held =
        held_same z (slip_giver (slip b y k after)) (decode after) (decode b) after_within.subjects after_within.retired
        ∙ ap (λ (n : ℕ). first_of (back_held (decode b) z n)) (slip_giver_lem b y k after long)
        ∙ held_of z (giver_of k) (decode b) enrolled (stays m) m;
    genuine = record {
      after = slip_after_lem b y k after long;
      accepted = ap (λ (r : Result). r.refusal) back_on ∙ e;
      same = (λ j. slip (slip_before_lem b y k after long j) (slip_by_lem b y k after long j) (slip_cut_lem b y k after long j) (back_on j).bytes);
    };
  }
    where
      long : length b ≡ block_size
      long = (accepted_through g b (cut_call y k) e).early.size

      back_on : call_on g (slip_before (slip b y k after)) (cut_call (slip_by (slip b y k after)) (slip_cut (slip b y k after))) ≡ call_on g b (cut_call y k)
      back_on = λ j. call_on g (slip_before_lem b y k after long j) (cut_call (slip_by_lem b y k after long j) (slip_cut_lem b y k after long j))

      enrolled : z < (decode b).subjects
      enrolled = go m
        where
          go : (z ≡ 0) ⊎ (z ≡ giver_of k) → z < (decode b).subjects
          go (inl q) = omega (arith, q, formed.some)
          go (inr q) = omega (arith, q, giver_enrolled_lem g.steps (decode b) y k cut_passes)

      stays : (z ≡ 0) ⊎ (z ≡ giver_of k) → T (not (is_retired (decode b) z))
      stays (inl q) = not_T (is_retired (decode b) z) (λ h. (formed.retired z h).1 q)
      stays (inr q) = subst (λ (v : ℕ). T (not (is_retired (decode b) v))) (sym q) (giver_stays g.steps (decode b) y k cut_passes)

  given_back : (z : ℕ) → (z ≡ 0) ⊎ (z ≡ giver_of k) → take_back_on g after z (slip b y k after) ≡ restored b
  given_back z m = gives_back g after z (slip b y k after) (own_slip z m) ∙ ap restored (slip_before_lem b y k after (accepted_through g b (cut_call y k) e).early.size)

  -- FOR EVERY ACCEPTED CUT, TAKING IT BACK DIRECTLY IS ACCEPTED
  pub taken_back : TakenBack g b y k
  taken_back = record { same = given_back y (may_cut g.steps (decode b) y k cut_passes); either = given_back; made = of_made }
    where
      of_made : (s : List ℕ) (o : Answer) (b' s' : List ℕ) → SlipMade g y k b s o b' s' → o.refusal ≡ 0 → (p : Answer) (b'' : List ℕ) → TakeBackMade g y s' b' p b'' → (p ≡ answered_by (pos 0) (pos 0) (pos 0)) × (b'' ≡ b)
      of_made s o b' s' made z p b'' back =
          let (q, t) = slipped_so g s y b k (ap (λ (f : Effect). f.result.refusal) (sym made.outcome) ∙ z) in
          let u : b' ≡ after = ap (λ (f : Effect). f.result.bytes) made.outcome ∙ ap (λ (r : Result). r.bytes) q in
          let v : s' ≡ slip b y k after = ap (λ (f : Effect). f.slip) made.outcome ∙ t in
          let w = back ∙ (λ j. take_back_on g (u j) y (v j)) ∙ given_back y (may_cut g.steps (decode b) y k cut_passes) in
          ((λ j. record { refusal = (w j).refusal; first = (w j).first; second = (w j).second; third = (w j).third }), ap (λ (r : Result). r.bytes) w)

-- ── accepted exactly when ──
pub take_back_exactly : (g : Given) (b : List ℕ) (z : ℕ) (s : List ℕ) → TakeBackExactly g b z s
take_back_exactly g b z s = record { only = only; whenever = whenever }
  where
    only : (take_back_on g b z s).refusal ≡ 0 → Returnable g b z s
    only q =
        let t = taken g b z s q in
        let (l, u, m) = of_held z (slip_giver s) (decode b) t.held in
        let left = cut_left g b s t.genuine in
        record {
          size = t.early.size;
          long = t.long;
          subject = of_passed z t.early.passed;
          text = t.early.text;
          formed = t.early.formed;
          enrolled = l;
          stays = u;
          may = m;
          by = slip_by s;
          cut = slip_cut s;
          accepted = t.genuine.accepted;
          left = left;
          same = sym t.genuine.same ∙ ap (slip (slip_before s) (slip_by s) (slip_cut s)) left;
        }

    whenever : Returnable g b z s → (take_back_on g b z s).refusal ≡ 0
    whenever r = ap (λ (x : Result). x.refusal) (gives_back g b z s record {
      long = r.long;
      early = record { size = r.size; passed = passed_of z r.subject; text = r.text; formed = r.formed };
      held = held_of z (slip_giver s) (decode b) r.enrolled r.stays r.may;
      genuine = record {
        after = ap slip_after r.same ∙ slip_after_lem (slip_before s) r.by r.cut b long;
        accepted = ap (λ (x : Result). x.refusal) on ∙ r.accepted;
        same = (λ j. slip (slip_before s) (by_is j) (cut_is j) (bytes_are j)) ∙ sym r.same;
      };
    })
      where
        long : length (slip_before s) ≡ block_size
        long = (accepted_through g (slip_before s) (cut_call r.by r.cut) r.accepted).early.size

        by_is : slip_by s ≡ r.by
        by_is = ap slip_by r.same ∙ slip_by_lem (slip_before s) r.by r.cut b long

        cut_is : slip_cut s ≡ r.cut
        cut_is = ap slip_cut r.same ∙ slip_cut_lem (slip_before s) r.by r.cut b long

        on : call_on g (slip_before s) (cut_call (slip_by s) (slip_cut s)) ≡ call_on g (slip_before s) (cut_call r.by r.cut)
        on = λ j. call_on g (slip_before s) (cut_call (by_is j) (cut_is j))

        bytes_are : (call_on g (slip_before s) (cut_call (slip_by s) (slip_cut s))).bytes ≡ b
        bytes_are = ap (λ (x : Result). x.bytes) on ∙ r.left

-- ── what any slip can do ──
module _ (g : Given) (rule : TableRule g.steps) (b : List ℕ) (z : ℕ) (s : List ℕ) (bytes : IsBytes s) where
  module _ (q : (take_back_on g b z s).refusal ≡ 0) where
    t : Taken g b z s
    t = taken g b z s q

    found : IsBytes (slip_before s)
    found = bytes_take block_size s bytes

    pub restored_formed : well_formed (slip_before s) ≡ true
    restored_formed = (accepted_through g (slip_before s) (cut_call (slip_by s) (slip_cut s)) t.genuine.accepted).early.formed

    before_within : Within (decode b) (decode (slip_before s))
    before_within = subst (λ (x : List ℕ). Within (decode x) (decode (slip_before s))) (cut_left g b s t.genuine) (after_within g rule (slip_before s) found (slip_by s) (slip_cut s) t.genuine.accepted)

    pub restore_within : Within (decode b) (decode (take_back_on g b z s).bytes)
    restore_within = subst (λ (x : List ℕ). Within (decode b) (decode x)) (sym (restored_so g b z s q)) before_within

    found_supported : Supported g.steps (decode b)
    found_supported = subst (λ (x : List ℕ). Supported g.steps (decode x)) (cut_left g b s t.genuine) (after_supported g rule (slip_before s) found (slip_by s) (slip_cut s) t.genuine.accepted)

    -- the restored block is not the slip's after
    not_again : genuine g (slip_before s) s ≡ false
    not_again = unset (genuine g (slip_before s) s) (not_T (genuine g (slip_before s) s) (λ h.
        after_differs g rule (slip_before s) found (slip_by s) (slip_cut s) t.genuine.accepted
        (cut_left g b s t.genuine ∙ sym t.genuine.after ∙ (genuine_means g (slip_before s) s h).after)))

    twenty : take_back_on g (slip_before s) z s ≡ turned 20 (slip_before s)
    twenty =
        let early : EarlyBy g.refusal (slip_before s) (back_passed z) = record { size = before_long g b s t.genuine; passed = t.early.passed; text = t.early.text; formed = restored_formed } in
        let held = sym (held_same z (slip_giver s) (decode b) (decode (slip_before s)) before_within.subjects before_within.retired) ∙ t.held in
        sym (back_other g z s (slip_before s) t.long (none_back g.refusal (slip_before s) z (slip_giver s) early ∙ held) not_again)

    pub once_only : take_back_on g (take_back_on g b z s).bytes z s ≡ turned 20 (take_back_on g b z s).bytes
    once_only = subst (λ (x : List ℕ). take_back_on g x z s ≡ turned 20 x) (sym (restored_so g b z s q)) twenty

  pub restores : Restores g b z s
  restores = record { within = restore_within; supported = found_supported; once = once_only }
