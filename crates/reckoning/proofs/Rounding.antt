-- One round on a block: what is left of the decoded delegations is what the definition leaves. Assumes nothing.
use mathlib.Core.Path.{◌≡◌, refl, sym, ap, subst, ◌∙◌}
use mathlib.Core.Logic.{◌≢◌}
use mathlib.Core.Bool.{Bool, true, false, cond}
use mathlib.Core.List.{List, [], ◌∷◌}
use Prim.Native.Nat.{ℕ, suc, ◌≤◌, ◌<◌, min}
use native.Mathlib.Nat.{zero-add}
use native.Mathlib.Omega.{arith}
use borrow.Author.Tests.{ltb-true, ltb-false, le-ltb}
use lib.Dec.{ltb}
use lib.IntN.{ℤ, pos, negsuc}
use lib.Signed.{lt_z}
use lib.ListN.{length, get_or}
use Rattle.rules.specs.List.{◌∈◌, concat_map}
use Rattle.rules.specs.Limit.{code, ◌≼◌}
use Rattle.rules.specs.Register.{Delegation, reweigh, with_delegations}
use Rattle.rules.specs.Support.{allowed}
use Rattle.rules.specs.Round.{placed, capped, round}
use Rattle.rules.proofs.Rounds.{round_stays, round_changes}
use Rattle.rules.proofs.Signed.{get_or_within, below_weight}
use Rattle.block.specs.Bytes.{IsBytes}
use Rattle.block.specs.Block.{count_in, decode}
use Rattle.block.specs.WellFormed.{well_formed}
use Rattle.block.proofs.Bytes.{tabulate_mem}
use Rattle.block.proofs.Held.{held_formed, delegations_held, record_held}
use Rattle.block.proofs.Left.{left_all}
use Rattle.block.specs.Records.{delegation_at, left_to}
use Rattle.reckoning.specs.Reckoned.{reach_count, reach_at, Tabled, lesser, weight_left, RunLowered, Reckoned}

-- ── one delegation ──
-- the weight lowered to a reach is the weight capped by it
placed_lesser : (d : Delegation) (l : ℤ) → placed d (lesser l (pos d.weight)) ≡ capped d l
placed_lesser d (pos r) = go (lt_z (pos r) (pos d.weight)) refl
  where
    go : (c : Bool) → lt_z (pos r) (pos d.weight) ≡ c → placed d (cond c (pos r) (pos d.weight)) ≡ capped d (pos r)
    go true e =
        let h = ltb-true (suc r) (suc d.weight) (sym (below_weight (pos r) d.weight) ∙ e) in
        let m : r ≡ min d.weight r = omega arith in
        ap (λ (x : ℕ). reweigh d x ∷ []) m
    go false e =
        let h = ltb-false (suc r) (suc d.weight) (sym (below_weight (pos r) d.weight) ∙ e) in
        let m : d.weight ≡ min d.weight r = omega arith in
        ap (λ (x : ℕ). reweigh d x ∷ []) m
placed_lesser d (negsuc n) = refl

code_lesser : (l : ℤ) (w : ℕ) → code (lesser l (pos w)) ≤ suc w
code_lesser l w = go (lt_z l (pos w)) refl
  where
    go : (c : Bool) → lt_z l (pos w) ≡ c → code (cond c l (pos w)) ≤ suc w
    go true e = let h = ltb-true (code l) (suc w) (sym (below_weight l w) ∙ e) in omega arith
    go false e = omega arith

-- a weight is lowered where its reach is below it
lesser_less : (l : ℤ) (w : ℕ) → lt_z (lesser l (pos w)) (pos w) ≡ lt_z l (pos w)
lesser_less l w = go (lt_z l (pos w)) refl
  where
    go : (c : Bool) → lt_z l (pos w) ≡ c → lt_z (cond c l (pos w)) (pos w) ≡ c
    go true e = e
    go false e = below_weight (pos w) w ∙ le-ltb (suc w) (suc w) (omega arith)

-- ── the round ──
module _ (t : List ℤ) (b : List ℕ) (bytes : IsBytes b) (formed : well_formed b ≡ true) (reaches : List ℤ) (size : length reaches ≡ reach_count) (tabled : Tabled t (decode b) reaches) where
  -- the table has what counts for the delegation at place k
  counts_for : (k : ℕ) → k < count_in b → (z : ℤ) → get_or reaches (reach_at (delegation_at b k).giver (delegation_at b k).receiver) z ≡ allowed t (decode b) (delegation_at b k)
  counts_for k h z =
      let f = held_formed b bytes formed in
      let d = f.each (delegation_at b k) (record_held b bytes formed k h) in
      get_or_within reaches (reach_at (delegation_at b k).giver (delegation_at b k).receiver) z (pos 0) (omega (arith, size, d.giver, d.receiver, f.most)) ∙ tabled (delegation_at b k) (record_held b bytes formed k h)

  entry_left : (k : ℕ) → k < count_in b → weight_left reaches (delegation_at b k) ≡ lesser (allowed t (decode b) (delegation_at b k)) (pos (delegation_at b k).weight)
  entry_left k h = ap (λ (l : ℤ). lesser l (pos (delegation_at b k).weight)) (counts_for k h (pos (delegation_at b k).weight))

  module _ (c : Bool) (was after : List ℤ) (left : RunLowered reaches (delegation_at b) 0 (count_in b) c was after) where
    weight_left_lem : (k : ℕ) (h : k < count_in b) → get_or after k (pos 0) ≡ lesser (allowed t (decode b) (delegation_at b k)) (pos (delegation_at b k).weight)
    weight_left_lem k h = subst (λ (j : ℕ). get_or after j (pos 0) ≡ weight_left reaches (delegation_at b j)) (zero-add k) (left.each k h) ∙ entry_left k h

    weights_most : (k : ℕ) → k < count_in b → code (get_or after k (pos 0)) ≤ 256
    weights_most k h =
        let w = ((held_formed b bytes formed).each (delegation_at b k) (record_held b bytes formed k h)).weight in
        omega (arith, ap code (weight_left_lem k h), code_lesser (allowed t (decode b) (delegation_at b k)) (delegation_at b k).weight)

    -- what is left is what the definition leaves
    round_left : with_delegations (decode b) (left_to (delegation_at b) after (count_in b)) ≡ round t (decode b)
    round_left =
        let g : Delegation → List Delegation = λ d. capped d (allowed t (decode b) d) in
        ap (with_delegations (decode b))
        (left_all (delegation_at b) g after (count_in b) (λ k h. ap (placed (delegation_at b k)) (weight_left_lem k h) ∙ placed_lesser (delegation_at b k) (allowed t (decode b) (delegation_at b k))) ∙ ap (concat_map g) (sym (delegations_held b bytes formed)))

    test : (k : ℕ) (h : k < count_in b) → lt_z (weight_left reaches (delegation_at b k)) (pos (delegation_at b k).weight) ≡ ltb (code (allowed t (decode b) (delegation_at b k))) (suc (delegation_at b k).weight)
    test k h = ap (λ (z : ℤ). lt_z z (pos (delegation_at b k).weight)) (entry_left k h) ∙ lesser_less (allowed t (decode b) (delegation_at b k)) (delegation_at b k).weight ∙ below_weight (allowed t (decode b) (delegation_at b k)) (delegation_at b k).weight

    round_same : c ≡ false → round t (decode b) ≡ decode b
    round_same e = round_stays t (decode b) each
      where
        each : (d : Delegation) → d ∈ (decode b).delegations → pos d.weight ≼ allowed t (decode b) d
        each d m =
            let (k, h, q) = tabulate_mem (delegation_at b) 0 (count_in b) (subst (λ (ds : List Delegation). d ∈ ds) (delegations_held b bytes formed) m) in
            let p = q ∙ ap (delegation_at b) (zero-add k) in
            subst (λ (x : Delegation). pos x.weight ≼ allowed t (decode b) x) (sym p) (ltb-false (code (allowed t (decode b) (delegation_at b k))) (suc (delegation_at b k).weight) (sym (test k h) ∙ subst (λ (j : ℕ). lt_z (weight_left reaches (delegation_at b j)) (pos (delegation_at b j).weight) ≡ false) (zero-add k) (left.same e k h)))

    round_change : c ≡ true → round t (decode b) ≢ decode b
    round_change e =
        let (k, h, r) = left.less e in
        let q = subst (λ (j : ℕ). lt_z (weight_left reaches (delegation_at b j)) (pos (delegation_at b j).weight) ≡ true) (zero-add k) r in
        let l = ltb-true (code (allowed t (decode b) (delegation_at b k))) (suc (delegation_at b k).weight) (sym (test k h) ∙ q) in
        round_changes t (decode b) (delegation_at b k) (record_held b bytes formed k h) (omega arith)

    pub reckoned : Reckoned t b c after
    reckoned = record { most = weights_most; left = round_left; same = round_same; change = round_change }
