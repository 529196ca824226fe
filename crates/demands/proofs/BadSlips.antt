-- The example of a cut taken back; slips that get no register back; and what a slip that nobody wrote can do. Assumes nothing.
use mathlib.Core.Path.{◌≡◌, refl, sym, ap, subst, ◌∙◌}
use mathlib.Core.Logic.{◌≢◌, ◌⊎◌, inl, inr}
use mathlib.Core.Bool.{Bool, false, cond, ◌&&◌, ◌||◌}
use mathlib.Core.List.Memᴰ
use mathlib.Core.List.{List, [], ◌∷◌, ◌++◌}
use Prim.Native.Nat.{ℕ, suc, ◌≤◌}
use native.Mathlib.Omega.{arith}
use borrow.Author.Tests.{ne_eqb}
use lib.Dec.{T, leb, eqb, not_T}
use lib.IntN.{ℤ, pos}
use lib.ListN.{length}
use Rattle.rules.specs.List.{◌∈◌, any, concat_map}
use Rattle.rules.specs.Bits.{is_set}
use Rattle.rules.specs.Limit.{none, code, larger}
use Rattle.rules.specs.Table.{next, step, steps}
use Rattle.rules.specs.Register.{Delegation, Register, fields}
use Rattle.rules.specs.Condition.{meets}
use Rattle.rules.specs.Chain.{limit_from}
use Rattle.rules.specs.Reach.{goes_on, chains, reach}
use Rattle.rules.specs.Support.{allowed}
use Rattle.rules.specs.Round.{equal, settle}
use Rattle.rules.specs.Cut.{Cut, removal, lowering, giver_of, named}
use Rattle.rules.specs.WellFormed.{DelegationFormed, Apart, WellFormed}
use Rattle.rules.specs.Call.{Call, enrol, grant, set_marks, retire, cut_call}
use Rattle.rules.specs.Refusal.{first_of, may_not, passed, held, refusal_of, back_passed, back_held}
use Rattle.rules.specs.CallStep.{Outcome, answered, cut, accepted, call_step}
use Rattle.rules.specs.History.{register_at}
use Rattle.rules.specs.Examples.{P2, entry, twos, two}
use Rattle.rules.proofs.Table.{steps_rule}
use Rattle.rules.proofs.Lists.{eq_or, T_both, T_true, unset, no, any_mem, eq_to_eqb}
use Rattle.rules.proofs.Rounds.{equal_refl}
use Rattle.rules.proofs.Support.{carried_allowed}
use Rattle.rules.proofs.WellFormed.{delegations_formed}
use Rattle.rules.proofs.Calls.{call_step_formed}
use Rattle.rules.proofs.History.{demand3_steps}
use Rattle.block.specs.Layout.{block_size}
use Rattle.block.specs.Block.{decode, encode}
use Rattle.block.specs.WellFormed.{well_formed}
use Rattle.block.proofs.Encode.{length_encode, decode_encode, bytes_encode}
use Rattle.block.proofs.Form.{encode_formed}
use Rattle.steptable.specs.TableText.{passing, ours}
use Rattle.steptable.specs.TableText.{Given}
use Rattle.refusals.proofs.EarlyTests.{EarlyBy, none_back}
use Rattle.register.specs.CallOn.{Result, turned, call_on}
use Rattle.register.proofs.OnBytes.{on_bytes, call_on_encode}
use Rattle.slips.specs.Slip.{slip, slip_size, slip_before, slip_by, slip_giver, slip_cut, is_cut}
use Rattle.slips.specs.TakeBack.{genuine, restored, take_back_on}
use Rattle.slips.proofs.Parts.{cut_revoke, cut_other, parts_long, parts_byte, slip_before_lem, slip_long, slip_by_lem, slip_giver_lem, slip_cut_lem}
use Rattle.slips.proofs.SlipWays.{back_refused, back_other, other_cut}
use Rattle.demands.specs.SlipExample.{found, wrong_line, left, slip_with, SlipShown, nothing, lone, ForgedShown}
use Rattle.demands.proofs.TakingBack.{genuine_means, means_genuine, cut_left, taken, passed_of, taken_back, slipped_cases}

-- ── on a well-formed register written ──
module _ (t : List ℤ) (R : Register) (f : WellFormed R) where
  -- the tests before those by what the register holds
  early : (z : ℕ) → z ≤ 63 → EarlyBy 0 (encode R) (back_passed z)
  early z l = record { size = length_encode R f; passed = passed_of z l; text = refl; formed = T_true (well_formed (encode R)) (encode_formed R f) }

  module _ (z : ℕ) (l : z ≤ 63) (s : List ℕ) (long : length s ≡ slip_size) where
    -- n is what the tests by what the register holds come to
    held_back : (n : ℕ) → first_of (back_held R z (slip_giver s)) ≡ n → n ≢ 0 → take_back_on (passing t) (encode R) z s ≡ turned n (encode R)
    held_back n e k =
        sym (back_refused (passing t) z s (encode R) long n (sym (none_back 0 (encode R) z (slip_giver s) (early z l) ∙ ap (λ (S : Register). first_of (back_held S z (slip_giver s))) (decode_encode R f) ∙ e)) k)

    other_back : first_of (back_held R z (slip_giver s)) ≡ 0 → genuine (passing t) (encode R) s ≡ false → take_back_on (passing t) (encode R) z s ≡ turned 20 (encode R)
    other_back e q =
        sym (back_other (passing t) z s (encode R) long (none_back 0 (encode R) z (slip_giver s) (early z l) ∙ ap (λ (S : Register). first_of (back_held S z (slip_giver s))) (decode_encode R f) ∙ e) q)

  -- the cut on the slip is accepted on F and leaves R, as a test
  abbrev numbers : Register → List ℕ
  numbers S = S.subjects ∷ S.retired ∷ (S.marks ++ concat_map fields S.delegations)

  abbrev leads : Register → ℕ → Cut → Bool
  leads F y k = eqb (call_step t F (cut_call y k)).refusal 0 && equal (numbers (call_step t F (cut_call y k)).left) (numbers R)

  -- a slip of which that is not so is not genuine, whatever its after
  not_led : (F : Register) → WellFormed F → (y : ℕ) (k : Cut) (b : List ℕ) → leads F y k ≡ false → genuine (passing t) (encode R) (slip (encode F) y k b) ≡ false
  not_led F p y k b no_lead = unset (genuine (passing t) (encode R) s) (not_T (genuine (passing t) (encode R) s) (λ h.
      let m = genuine_means (passing t) (encode R) s h in
      let q : call_on (passing t) (slip_before s) (cut_call (slip_by s) (slip_cut s)) ≡ on_bytes (call_step t F (cut_call y k)) =
      (λ j. call_on (passing t) (slip_before_lem (encode F) y k b long j) (cut_call (slip_by_lem (encode F) y k b long j) (slip_cut_lem (encode F) y k b long j))) ∙ call_on_encode t F p (cut_call y k) in
      let z = sym (ap (λ (r : Result). r.refusal) q) ∙ m.accepted in
      let e = sym (decode_encode (call_step t F (cut_call y k)).left (call_step_formed t F (cut_call y k) p)) ∙ ap decode (sym (ap (λ (r : Result). r.bytes) q) ∙ cut_left (passing t) (encode R) s m) ∙ decode_encode R f in
      no no_lead (T_both (eqb (call_step t F (cut_call y k)).refusal 0) (equal (numbers (call_step t F (cut_call y k)).left) (numbers R)) (eq_to_eqb z)
      (subst (λ (S : Register). T (equal (numbers (call_step t F (cut_call y k)).left) (numbers S))) e (equal_refl (numbers (call_step t F (cut_call y k)).left))))))
    where
      long : length (encode F) ≡ block_size
      long = length_encode F p

      s : List ℕ
      s = slip (encode F) y k b

-- ── the five bytes ──

-- a revocation with a weight, and a number that is no cut's, are not genuine on any register
module _ (g : Given) (c b b' : List ℕ) (h : length b ≡ block_size) (h' : length b' ≡ block_size) where
  pub not_with_weight : (y v r w : ℕ) → genuine g c (b ++ ((2 ∷ y ∷ v ∷ r ∷ suc w ∷ []) ++ b')) ≡ false
  not_with_weight y v r w =
      let z : List ℕ = 2 ∷ y ∷ v ∷ r ∷ suc w ∷ [] in
      sym (other_cut g c (b ++ (z ++ b')) (parts_long b z b' h refl h') ((λ j. is_cut (parts_byte b z b' h 0 j) (parts_byte b z b' h 4 j)) ∙ cut_revoke 2 (suc w) refl ∙ ne_eqb (suc w) 0 (λ e. omega arith)))

  pub not_another_number : (n y v r w : ℕ) → n ≢ 2 → n ≢ 3 → genuine g c (b ++ ((n ∷ y ∷ v ∷ r ∷ w ∷ []) ++ b')) ≡ false
  not_another_number n y v r w p q =
      let z : List ℕ = n ∷ y ∷ v ∷ r ∷ w ∷ [] in
      sym (other_cut g c (b ++ (z ++ b')) (parts_long b z b' h refl h') ((λ j. is_cut (parts_byte b z b' h 0 j) (parts_byte b z b' h 4 j)) ∙ cut_other n w p ∙ ne_eqb n 3 q))

-- ── wrong slips, on the registers of the example and on others ──

-- the table, the register, and what a slip holds: the register before, by and the cut
pub record WrongSlip : Type 0 where
  pub table : List ℤ
  pub present : Register
  pub formed : WellFormed present
  pub before : Register
  pub before_formed : WellFormed before
  pub by : ℕ
  pub cut : Cut

abbrev led_so : WrongSlip → Bool
led_so w = leads w.table w.present w.formed w.before w.by w.cut

found_formed : WellFormed found
found_formed = demand3_steps.well_formed P2.given 9

left_formed : WellFormed left
left_formed = call_step_formed steps found (cut_call 1 wrong_line) found_formed

-- of the example's slip: another register before, another by, another cut
abbrev of_left : (F : Register) → WellFormed F → ℕ → Cut → WrongSlip
of_left F f y k = record { table = steps; present = left; formed = left_formed; before = F; before_formed = f; by = y; cut = k }

-- P2's register after one call more
abbrev found_with : Call → Register
found_with c = (call_step steps found c).left

with_formed : (c : Call) → WellFormed (found_with c)
with_formed c = call_step_formed steps found c found_formed

-- and the example's slip on another register, by a table
abbrev on : List ℤ → (R : Register) → WellFormed R → WrongSlip
on t R f = record { table = t; present = R; formed = f; before = found; before_formed = found_formed; by = 1; cut = wrong_line }

pub wrong_slips : List WrongSlip
wrong_slips =
    -- the cut does not lead from it to the register: 0-4 at 9 besides, subject 4 with a mark, a subject more, subject 4 retired, the register itself
    of_left (found_with (grant (entry 0 4 9))) (with_formed (grant (entry 0 4 9))) 1 wrong_line
    ∷ of_left (found_with (set_marks 0 4 1)) (with_formed (set_marks 0 4 1)) 1 wrong_line
    ∷ of_left (found_with (enrol 0)) (with_formed (enrol 0)) 1 wrong_line
    ∷ of_left (found_with (retire 0 4)) (with_formed (retire 0 4)) 1 wrong_line
    ∷ of_left left left_formed 1 wrong_line
    -- who may not cut, or is not enrolled; another cut
    ∷ of_left found found_formed 2 wrong_line
    ∷ of_left found found_formed 3 wrong_line
    ∷ of_left found found_formed 5 wrong_line
    ∷ of_left found found_formed 1 (lowering 4 3 1)
    ∷ of_left found found_formed 1 (lowering 1 3 0)
    ∷ of_left found found_formed 1 (lowering 1 3 4)
    ∷ of_left found found_formed 1 (removal 1 3)
    ∷ of_left found found_formed 0 (removal 3 4)
    -- handed in again, after one call more, or under another table than the cut's
    ∷ on steps found found_formed
    ∷ on steps (call_step steps left (enrol 0)).left (call_step_formed steps left (enrol 0) left_formed)
    ∷ on steps (call_step steps left (grant (entry 0 4 9))).left (call_step_formed steps left (grant (entry 0 4 9)) left_formed)
    ∷ on twos left left_formed
    ∷ on steps (call_step twos found (cut_call 1 wrong_line)).left (call_step_formed twos found (cut_call 1 wrong_line) found_formed)
    ∷ []

none_led : any led_so wrong_slips ≡ false
unfolding wrong_slips larger next step steps two twos meets limit_from goes_on chains reach allowed settle named passed held refusal_of cut accepted call_step
none_led = refl

-- none of them is taken, whatever its after and whoever hands it in
pub not_taken_so : (w : WrongSlip) → w ∈ wrong_slips → (b : List ℕ) (z : ℕ) → (take_back_on (passing w.table) (encode w.present) z (slip (encode w.before) w.by w.cut b)).refusal ≢ 0
not_taken_so w m b z q =
    let s = slip (encode w.before) w.by w.cut b in
    let e = not_led w.table w.present w.formed w.before w.before_formed w.by w.cut b (unset (led_so w) (not_T (led_so w) (λ h. no none_led (any_mem led_so m h)))) in
    no e (means_genuine (passing w.table) (encode w.present) s (taken (passing w.table) (encode w.present) z s q).genuine)

-- ── the example ──
module _ (y : ℕ) (k : Cut) where
  with_long : length (slip_with y k) ≡ slip_size
  with_long = slip_long (encode found) y k (encode left) (length_encode found found_formed) (length_encode left left_formed)

  with_giver : slip_giver (slip_with y k) ≡ giver_of k
  with_giver = slip_giver_lem (encode found) y k (encode left) (length_encode found found_formed)

  -- the tests by what a register holds, of the subject z
  held_with : (R : Register) (z n : ℕ) → first_of (back_held R z (giver_of k)) ≡ n → first_of (back_held R z (slip_giver (slip_with y k))) ≡ n
  held_with R z n e = ap (λ (g : ℕ). first_of (back_held R z g)) with_giver ∙ e

-- the register left, in full
abbrev left_holds : Register
left_holds = record { subjects = 5; marks = 0 ∷ 0 ∷ 0 ∷ 0 ∷ 0 ∷ []; retired = 0; delegations = entry 0 1 5 ∷ entry 0 2 3 ∷ entry 1 3 1 ∷ entry 2 3 2 ∷ entry 3 4 1 ∷ [] }

by_one : call_step steps found (cut_call 1 wrong_line) ≡ answered (pos 0) (pos 1) (pos 2) left_holds
unfolding larger next step steps meets limit_from goes_on chains reach allowed settle named passed held refusal_of cut accepted call_step
by_one = refl

by_owner : call_step steps found (cut_call 0 wrong_line) ≡ answered (pos 0) (pos 1) (pos 2) left_holds
unfolding larger next step steps meets limit_from goes_on chains reach allowed settle named passed held refusal_of cut accepted call_step
by_owner = refl

left_is : left ≡ left_holds
left_is = ap (λ (o : Outcome). o.left) by_one

found_subjects : (found.subjects ≡ 5) × (found.retired ≡ 0)
unfolding larger next step steps meets limit_from goes_on chains reach allowed settle named passed held refusal_of cut accepted call_step
found_subjects = (refl, refl)

-- the cut by y leaves the register of the example
cut_by : (y : ℕ) → call_step steps found (cut_call y wrong_line) ≡ answered (pos 0) (pos 1) (pos 2) left_holds → call_on ours (encode found) (cut_call y wrong_line) ≡ record { refusal = 0; first = pos 0; second = pos 1; third = pos 2; bytes = encode left }
cut_by y e = call_on_encode steps found found_formed (cut_call y wrong_line) ∙ ap on_bytes (e ∙ ap (answered (pos 0) (pos 1) (pos 2)) (sym left_is))

taken_by : (y : ℕ) → call_step steps found (cut_call y wrong_line) ≡ answered (pos 0) (pos 1) (pos 2) left_holds → (z : ℕ) → (z ≡ 0) ⊎ (z ≡ 1) → take_back_on ours (encode left) z (slip_with y wrong_line) ≡ restored (encode found)
taken_by y e z m =
    let q = cut_by y e in
    let b = taken_back ours steps_rule (encode found) (bytes_encode found found_formed) y wrong_line (ap (λ (r : Result). r.refusal) q) in
    (λ j. take_back_on ours (sym q j).bytes z (slip (encode found) y wrong_line (sym q j).bytes)) ∙ b.either z m

-- one of two
by_two_of : (P : ℕ → Type 0) (m : ℕ) → P 0 → P m → (z : ℕ) → (z ≡ 0) ⊎ (z ≡ m) → P z
by_two_of P m p q z (inl e) = subst P (sym e) p
by_two_of P m p q z (inr e) = subst P (sym e) q

-- the tests by what the registers hold, computed
module _ (R : Register) (five : R.subjects ≡ 5) (nobody : R.retired ≡ 0) where
  held_at : (z g n : ℕ) → first_of ((9, leb 5 z || false) ∷ (19, is_set 0 z || false) ∷ may_not z g ∷ []) ≡ n → first_of (back_held R z g) ≡ n
  held_at z g n e = (λ j. first_of ((9, leb (five j) z || false) ∷ (19, is_set (nobody j) z || false) ∷ may_not z g ∷ [])) ∙ e

left_at : (z g n : ℕ) → first_of ((9, leb 5 z || false) ∷ (19, is_set 0 z || false) ∷ may_not z g ∷ []) ≡ n → first_of (back_held left z g) ≡ n
left_at = held_at left (ap (λ (S : Register). S.subjects) left_is) (ap (λ (S : Register). S.retired) left_is)

found_at : (z g n : ℕ) → first_of ((9, leb 5 z || false) ∷ (19, is_set 0 z || false) ∷ may_not z g ∷ []) ≡ n → first_of (back_held found z g) ≡ n
found_at = held_at found found_subjects.0 found_subjects.1

-- a slip of the list of wrong ones gets 20 from a caller who passes the other tests
twenty : (R : Register) (f : WellFormed R) (z : ℕ) → z ≤ 63 → (y : ℕ) (k : Cut) → first_of (back_held R z (giver_of k)) ≡ 0 → leads steps R f found y k ≡ false → take_back_on ours (encode R) z (slip_with y k) ≡ turned 20 (encode R)
twenty R f z l y k e n = other_back steps R f z l (slip_with y k) (with_long y k) (held_with y k R z 0 e) (not_led steps R f found found_formed y k (encode left) n)

again_not : leads steps found found_formed found 1 wrong_line ≡ false
unfolding larger next step steps meets limit_from goes_on chains reach allowed settle named passed held refusal_of cut accepted call_step
again_not = refl

two_not : leads steps left left_formed found 2 wrong_line ≡ false
unfolding larger next step steps meets limit_from goes_on chains reach allowed settle named passed held refusal_of cut accepted call_step
two_not = refl

four_not : leads steps left left_formed found 1 (lowering 4 3 1) ≡ false
unfolding larger next step steps meets limit_from goes_on chains reach allowed settle named passed held refusal_of cut accepted call_step
four_not = refl

pub slip_shown : SlipShown
slip_shown = record {
  made = λ s l. slipped_cases ours s 1 (encode found) wrong_line (λ e. e ≡ record { result = record { refusal = 0; first = pos 0; second = pos 1; third = pos 2; bytes = encode left }; slip = slip_with 1 wrong_line })
      (λ _. λ j. let r = cut_by 1 by_one j in record { result = r; slip = cond (eqb r.refusal 0) (slip (encode found) 1 wrong_line r.bytes) s }) (λ n. absurd (n l));
  standing = ap (λ (S : Register). S.delegations) left_is;
  bytes = refl;
  back = taken_by 1 by_one;
  others = λ z l h. held_back steps left left_formed z (omega (arith, h)) (slip_with 1 wrong_line) (with_long 1 wrong_line) 14 (held_with 1 wrong_line left z 14 (left_at z 1 14 (fourteen z l h))) (λ q. omega arith);
  again = by_two_of (λ z. take_back_on ours (encode found) z (slip_with 1 wrong_line) ≡ turned 20 (encode found)) 1 (twenty found found_formed 0 (omega arith) 1 wrong_line (found_at 0 1 0 refl) again_not) (twenty found found_formed 1 (omega arith) 1 wrong_line (found_at 1 1 0 refl) again_not);
  owner's = taken_by 0 by_owner;
  by_two = by_two_of (λ z. take_back_on ours (encode left) z (slip_with 2 wrong_line) ≡ turned 20 (encode left)) 1 (twenty left left_formed 0 (omega arith) 2 wrong_line (left_at 0 1 0 refl) two_not) (twenty left left_formed 1 (omega arith) 2 wrong_line (left_at 1 1 0 refl) two_not);
  giver_four = held_back steps left left_formed 1 (omega arith) (slip_with 1 (lowering 4 3 1)) (with_long 1 (lowering 4 3 1)) 14 (held_with 1 (lowering 4 3 1) left 1 14 (left_at 1 4 14 refl)) (λ q. omega arith);
  four = by_two_of (λ z. take_back_on ours (encode left) z (slip_with 1 (lowering 4 3 1)) ≡ turned 20 (encode left)) 4 (twenty left left_formed 0 (omega arith) 1 (lowering 4 3 1) (left_at 0 4 0 refl) four_not) (twenty left left_formed 4 (omega arith) 1 (lowering 4 3 1) (left_at 4 4 0 refl) four_not);
}
  where
    fourteen : (z : ℕ) → 2 ≤ z → z ≤ 4 → first_of ((9, leb 5 z || false) ∷ (19, is_set 0 z || false) ∷ may_not z 1 ∷ []) ≡ 14
    fourteen z l h = go (eq_or z 2) (eq_or z 3)
      where
        at : (n : ℕ) → z ≡ n → first_of ((9, leb 5 n || false) ∷ (19, is_set 0 n || false) ∷ may_not n 1 ∷ []) ≡ 14 → first_of ((9, leb 5 z || false) ∷ (19, is_set 0 z || false) ∷ may_not z 1 ∷ []) ≡ 14
        at n e q = subst (λ (v : ℕ). first_of ((9, leb 5 v || false) ∷ (19, is_set 0 v || false) ∷ may_not v 1 ∷ []) ≡ 14) (sym e) q

        go : (z ≡ 2) ⊎ (z ≢ 2) → (z ≡ 3) ⊎ (z ≢ 3) → first_of ((9, leb 5 z || false) ∷ (19, is_set 0 z || false) ∷ may_not z 1 ∷ []) ≡ 14
        go (inl e) q = at 2 e refl
        go (inr n) (inl e) = at 3 e refl
        go (inr n) (inr k) = let e : z ≡ 4 = omega (arith, n, k, l, h) in at 4 e refl

-- ── a slip that nobody wrote ──
pub nothing_left : register_at steps (enrol 0 ∷ enrol 0 ∷ []) 2 ≡ nothing
unfolding passed held refusal_of accepted call_step
nothing_left = refl

pub nothing_formed : WellFormed nothing
nothing_formed = subst WellFormed nothing_left (demand3_steps.well_formed (enrol 0 ∷ enrol 0 ∷ []) 2)

pub lone_formed : WellFormed lone
lone_formed = delegations_formed nothing (entry 1 2 5 ∷ []) nothing_formed (omega arith) ((λ e m. absurd (Memᴰ.not-nil m)), tt) each
  where
    each : (d : Delegation) → d ∈ (entry 1 2 5 ∷ []) → DelegationFormed 3 d × Apart nothing d
    each d (Memᴰ.tail m) = absurd (Memᴰ.not-nil m)
    each d (Memᴰ.head e) = subst (λ (x : Delegation). DelegationFormed 3 x × Apart nothing x) (sym e)
        (record { giver = omega arith; receiver = omega arith; differ = λ q. omega arith; not_owner = λ q. omega arith; weight = omega arith; need = omega arith; bar = omega arith; disjoint = refl; kind = omega arith }, (tt, tt))

lone_step : call_step steps lone (cut_call 1 (removal 1 2)) ≡ answered (pos 0) (pos 0) (pos 1) nothing
unfolding larger next step steps meets limit_from goes_on chains reach allowed settle named passed held refusal_of cut accepted call_step
lone_step = refl

lone_none : allowed steps lone (entry 1 2 5) ≡ none
unfolding larger next step steps meets limit_from goes_on chains reach allowed settle named passed held refusal_of cut accepted call_step
lone_none = refl

pub forged_shown : ForgedShown
forged_shown = record {
  accepted =
      let q = call_on_encode steps lone lone_formed (cut_call 1 (removal 1 2)) ∙ ap on_bytes lone_step in
      let b = taken_back ours steps_rule (encode lone) (bytes_encode lone lone_formed) 1 (removal 1 2) (ap (λ (r : Result). r.refusal) q) in
      (λ j. take_back_on ours (sym q j).bytes 1 (slip (encode lone) 1 (removal 1 2) (sym q j).bytes)) ∙ b.same;
  unsupported = λ s. let h = carried_allowed steps steps_rule lone (entry 1 2 5) (s (entry 1 2 5) (Memᴰ.head refl)) in omega (arith, ap code lone_none, h);
}
