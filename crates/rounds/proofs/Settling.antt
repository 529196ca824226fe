-- Rounds one after another: how it goes on after some that changed something, and how one that changes nothing ends it. Assumes nothing.
use mathlib.Core.Path.{◌≡◌, refl, sym, ap, subst, ◌∙◌}
use mathlib.Core.Logic.{◌≢◌, ◌⊎◌, inl, inr}
use mathlib.Core.Bool.{Bool, true, false, not}
use mathlib.Core.List.{List}
use Prim.Native.Nat.{ℕ, zero, suc, ◌+◌, ◌≤◌, ◌<◌}
use native.Mathlib.Nat.{zero-add, add-zero, suc-add}
use native.Mathlib.Omega.{arith}
use borrow.Author.Tests.{eq-eqb, ne_eqb}
use lib.Dec.{eqb}
use lib.IntN.{ℤ}
use Rattle.rules.specs.Register.{Register}
use Rattle.rules.specs.Table.{TableRule}
use Rattle.rules.specs.Round.{round, SettlesIn, settle, total}
use Rattle.rules.specs.Remainder.{Within}
use Rattle.rules.specs.Refusal.{too_heavy}
use Rattle.rules.specs.WellFormed.{WellFormed}
use Rattle.rules.proofs.Rounds.{round_falls, round_right, settle_right, settles_unique, settle_best}
use Rattle.rules.proofs.WellFormed.{round_formed, settles_formed}
use Rattle.rules.proofs.Bound.{rounds_most}
use Rattle.rules.proofs.Ranges.{total_most}
use Rattle.rules.proofs.Lists.{T_true, no, clash, eq_or}
use Rattle.block.specs.Bytes.{IsBytes}
use Rattle.block.specs.Block.{count_in, decode, encode}
use Rattle.block.specs.WellFormed.{well_formed}
use Rattle.block.proofs.Encode.{bytes_encode, decode_encode}
use Rattle.block.proofs.Form.{encode_formed}
use Rattle.block.proofs.Held.{held_formed, held_written}
use Rattle.reckoning.specs.Reckoned.{IndexOf, Reckoned}
use Rattle.reckoning.specs.declared.Index.{Index}
use Rattle.rounds.specs.Rounded.{RoundMade}
use Rattle.rounds.specs.Settled.{RoundsMade, SupportTold}
use Rattle.rounds.proofs.Indexing.{index_kept}

-- n rounds from C on changed something and left R: however it goes on from R, it goes on from C
pub record Going (t : List ℤ) (C : Register) (n : ℕ) (R : Register) : Type 0 where
  pub formed : WellFormed R
  pub falls : n + total R.delegations ≤ total C.delegations
  pub on : (m : ℕ) (F : Register) → SettlesIn t m R F → SettlesIn t (n + m) C F

module _ (t : List ℤ) (C : Register) where
  going_none : WellFormed C → Going t C 0 C
  going_none f = record { formed = f; falls = omega arith; on = λ m F s. subst (λ (k : ℕ). SettlesIn t k C F) (sym (zero-add m)) s }

  module _ (n : ℕ) (R : Register) (g : Going t C n R) where
    -- fewer than fit a number of 32 bits
    going_few : WellFormed C → n ≤ 65536
    going_few f = omega (arith, g.falls, total_most C f)

    -- a round that changes something
    going_on : round t R ≢ R → Going t C (n + 1) (round t R)
    going_on c = record {
      formed = round_formed t R g.formed;
      falls = omega (arith, g.falls, round_falls t R c);
      on = λ m F s. let e : n + suc m ≡ n + 1 + m = omega arith in subst (λ (k : ℕ). SettlesIn t k C F) e (g.on (suc m) F (c, s));
    }

    -- one that changes nothing ends it
    pub going_end : round t R ≡ R → (n ≡ (settle t C).changed) × (R ≡ (settle t C).left)
    going_end e = settles_unique t n (settle t C).changed C R (settle t C).left (subst (λ (k : ℕ). SettlesIn t k C R) (add-zero n) (g.on 0 R (refl, e))) (settle_right t C)

-- ── on the block ──

-- a round that leaves every weight
pub round_none : (t : List ℤ) (b : List ℕ) → IsBytes b → well_formed b ≡ true → (x : Bool) (ws : List ℤ) → Reckoned t b x ws → x ≡ false → RoundMade t (decode b) false b
round_none t b bytes formed x ws r e = record {
  left = held_written b bytes formed ∙ ap encode (sym (r.same e));
  same = λ _. r.same e;
  change = λ z. absurd (no (sym z) tt);
}

-- the block holds what n rounds left
abbrev pub GoingOn : List ℤ → Register → ℕ → List ℕ → Type 0
GoingOn t C n b = (R : Register) × (b ≡ encode R) × Going t C n R

pub on_first : (t : List ℤ) (b : List ℕ) → IsBytes b → well_formed b ≡ true → GoingOn t (decode b) 0 b
on_first t b bytes formed = (decode b, held_written b bytes formed, going_none t (decode b) (held_formed b bytes formed))

module _ (t : List ℤ) (C : Register) (n : ℕ) (b : List ℕ) (s : GoingOn t C n b) where
  pub on_formed : well_formed b ≡ true
  on_formed = ap well_formed s.1 ∙ T_true (well_formed (encode s.0)) (encode_formed s.0 s.2.formed)

  pub on_few : WellFormed C → n ≤ 65536
  on_few f = going_few t C n s.0 s.2 f

  module _ (x : Bool) (after : List ℕ) (r : RoundMade t (decode b) x after) where
    held : decode b ≡ s.0
    held = ap decode s.1 ∙ decode_encode s.0 s.2.formed

    left : after ≡ encode (round t s.0)
    left = r.left ∙ ap (λ (R : Register). encode (round t R)) held

    changes : x ≡ true → round t s.0 ≢ s.0
    changes e = subst (λ (R : Register). round t R ≢ R) held (r.change e)

    pub on_more : x ≡ true → GoingOn t C (n + 1) after
    on_more e = (round t s.0, left, going_on t C n s.0 s.2 (changes e))

    -- the measure of the loop
    pub on_falls : x ≡ true → total (decode after).delegations < total (decode b).delegations
    on_falls e =
        let p = ap (λ (R : Register). total R.delegations) (ap decode left ∙ decode_encode (round t s.0) (round_formed t s.0 s.2.formed)) in
        let q = ap (λ (R : Register). total R.delegations) held in
        omega (arith, p, q, round_falls t s.0 (changes e))

    -- where it removed nothing, the index stays right
    pub on_index : (i : Index) (p : List ℕ) → IndexOf b i p → count_in after ≡ i.count → IndexOf after i p
    on_index i p h e =
        let f = round_formed t s.0 s.2.formed in
        index_kept t b after (subst IsBytes (sym s.1) (bytes_encode s.0 s.2.formed)) on_formed
        (subst IsBytes (sym left) (bytes_encode (round t s.0) f)) (ap well_formed left ∙ T_true (well_formed (encode (round t s.0))) (encode_formed (round t s.0) f))
        (ap decode left ∙ decode_encode (round t s.0) f ∙ ap (round t) (sym held)) (e ∙ h.count) i p h

    stays : x ≡ false → round t s.0 ≡ s.0
    stays e = subst (λ (R : Register). round t R ≡ R) held (r.same e)

    -- the end: what is left is what the definition leaves, after as many rounds
    on_end : x ≡ false → (n ≡ (settle t C).changed) × (after ≡ encode (settle t C).left)
    on_end e = let (m, F) = going_end t C n s.0 s.2 (stays e) in (m, left ∙ ap encode (stays e ∙ F))

  -- some round changed something: the first did
  began : n ≢ 0 → round t C ≢ C
  began h = go n h (s.2.on (settle t s.0).changed (settle t s.0).left (settle_right t s.0))
    where
      go : (k : ℕ) → k ≢ 0 → SettlesIn t (k + (settle t s.0).changed) C (settle t s.0).left → round t C ≢ C
      go zero q i = absurd (q refl)
      go (suc k) q i = (subst (λ (m : ℕ). SettlesIn t m C (settle t s.0).left) (suc-add k (settle t s.0).changed) i).0

  -- a round that changed something ends it where one is enough
  pub made_once : n ≢ 0 → RoundsMade t C true n b
  made_once h = record { all = λ e. absurd (no e tt); none = λ z. absurd (h z); some = began }

  -- one that changes nothing ends it
  pub made_all : (once x : Bool) (after : List ℕ) → RoundMade t (decode b) x after → x ≡ false → RoundsMade t C once n after
  made_all once x after r e =
      let (m, left) = on_end x after r e in
      record {
        all = λ z. (m, left);
        none = λ z.
            let q = subst (λ (k : ℕ). SettlesIn t k C (settle t C).left) (sym m ∙ z) (settle_right t C) in
            (q.1, left ∙ ap encode (sym q.0));
        some = began;
      }

-- ── all rounds ──
module _ (t : List ℤ) (rule : TableRule t) (C : Register) (f : WellFormed C) (n : ℕ) (after : List ℕ) (m : RoundsMade t C false n after) where
  left_formed : WellFormed (settle t C).left
  left_formed = settles_formed t (settle t C).changed C (settle t C).left (settle_right t C) f

  pub left_decoded : decode after ≡ (settle t C).left
  left_decoded = ap decode (m.all refl).1 ∙ decode_encode (settle t C).left left_formed

  pub left_block : well_formed after ≡ true
  left_block = ap well_formed (m.all refl).1 ∙ T_true (well_formed (encode (settle t C).left)) (encode_formed (settle t C).left left_formed)

  -- which is within the register that they began with
  pub left_within : Within (decode after) C
  left_within = subst (λ (F : Register). Within F C) (sym left_decoded) (settle_best t rule C).remainder.within

  pub few_rounds : n + 1 ≤ 512
  few_rounds = let e = (m.all refl).0 in omega (arith, e, (rounds_most t rule C f).1)

-- ── whether all is supported ──
module _ (t : List ℤ) (b : List ℕ) (bytes : IsBytes b) (formed : well_formed b ≡ true) (n : ℕ) (after : List ℕ) (m : RoundsMade t (decode b) true n after) where
  pub told : SupportTold t b (eqb n 0) after
  told = go (eq_or n 0)
    where
      C : Register
      C = decode b

      heavy : (y : Bool) → n ≢ 0 → too_heavy t C C.delegations ≡ y → false ≡ not y
      heavy true h e = refl
      heavy false h e = absurd (m.some h ((round_right t C).0 e))

      go : (n ≡ 0) ⊎ (n ≢ 0) → SupportTold t b (eqb n 0) after
      go (inl z) = record { told = eq-eqb n 0 z ∙ ap not (sym ((round_right t C).1 (m.none z).0)); same = λ e. (m.none z).1 ∙ sym (held_written b bytes formed) }
      go (inr h) = record { told = ne_eqb n 0 h ∙ heavy (too_heavy t C C.delegations) h refl; same = λ e. clash (sym e ∙ ne_eqb n 0 h) }
