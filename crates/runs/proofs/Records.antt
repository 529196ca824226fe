-- Records as the delegations of the definitions: read in place, in a part, and by giver. Assumes nothing.
use mathlib.Core.Path.{◌≡◌, sym, ap, subst, ◌∙◌}
use mathlib.Core.Logic.{inl, inr}
use mathlib.Core.List.{List, [], ◌∷◌}
use Prim.Native.Nat.{ℕ, zero, suc, ◌+◌, ◌*◌, ◌≤◌, ◌<◌}
use native.Mathlib.Nat.{add-zero, zero-add, le_refl, le_of_suc-le-suc, not-suc-le-zero}
use native.Mathlib.Omega.{arith}
use lib.ListN.{length, get_or, take, drop}
use lib.Seq.{get_or-drop, get_or-take}
use Rattle.rules.specs.List.{◌∈◌}
use Rattle.rules.specs.Register.{Delegation, no_delegation}
use Rattle.rules.specs.WellFormed.{Before, Rising}
use Rattle.rules.proofs.Lists.{get_d_tabulate}
use Rattle.block.specs.Layout.{record_size, giver_byte, receiver_byte, weight_byte, kind_byte, need_byte, bar_byte}
use Rattle.block.specs.Block.{delegation_in}
use Rattle.block.proofs.Bytes.{length_tabulate, tabulate_mem, get_or_mem, mem_tabulate}
use Rattle.runs.specs.Lent.{record_at, delegations_of}

-- a delegation is read from the bytes of its record
pub delegation_same : (r s : List ℕ) → ((j : ℕ) → j < record_size → get_or r j 0 ≡ get_or s j 0) → delegation_in r ≡ delegation_in s
delegation_same r s h = λ q. record {
  giver = h giver_byte (omega arith) q;
  receiver = h receiver_byte (omega arith) q;
  weight = h weight_byte (omega arith) q;
  need = h need_byte (omega arith) q + h (need_byte + 1) (omega arith) q * 256;
  bar = h bar_byte (omega arith) q + h (bar_byte + 1) (omega arith) q * 256;
  kind = h kind_byte (omega arith) q;
}

-- the giver is the first byte, the receiver the one after it
pub receiver_at : (s : List ℕ) (k : ℕ) → (record_at s k).receiver ≡ get_or s (record_size * k + receiver_byte) 0
receiver_at s k = get_or-drop (record_size * k) s receiver_byte 0

pub giver_at : (s : List ℕ) (k : ℕ) → (record_at s k).giver ≡ get_or s (record_size * k) 0
giver_at s k = get_or-drop (record_size * k) s giver_byte 0 ∙ ap (λ (m : ℕ). get_or s m 0) (add-zero (record_size * k))

-- record k of a part that begins with record a is record a + k of the whole
pub record_part : (s : List ℕ) (a m k : ℕ) → record_size * k + record_size ≤ m → record_at (take m (drop (record_size * a) s)) k ≡ record_at s (a + k)
record_part s a m k l = delegation_same (drop (record_size * k) part) (drop (record_size * (a + k)) s) (λ j b.
    get_or-drop (record_size * k) part j 0
    ∙ get_or-take m (drop (record_size * a) s) (record_size * k + j) 0 (omega arith)
    ∙ get_or-drop (record_size * a) s (record_size * k + j) 0
    ∙ ap (λ (i : ℕ). get_or s i 0) (omega arith)
    ∙ sym (get_or-drop (record_size * (a + k)) s j 0))
  where
    part : List ℕ
    part = take m (drop (record_size * a) s)

module _ (s : List ℕ) (n : ℕ) where
  pub delegation_at_lem : (k : ℕ) (z : Delegation) → k < n → get_or (delegations_of s n) k z ≡ record_at s k
  delegation_at_lem k z l = get_d_tabulate (record_at s) z 0 n k l ∙ ap (record_at s) (zero-add k)

  pub delegation_mem : (k : ℕ) → k < n → record_at s k ∈ delegations_of s n
  delegation_mem k l = subst (λ (d : Delegation). d ∈ delegations_of s n) (ap (record_at s) (zero-add k)) (mem_tabulate (record_at s) 0 n k l)

  pub mem_delegation : (d : Delegation) → d ∈ delegations_of s n → (k : ℕ) × (k < n) × (d ≡ record_at s k)
  mem_delegation d m = let (k, l, e) = tabulate_mem (record_at s) 0 n m in (k, l, e ∙ ap (record_at s) (zero-add k))

-- the givers of a rising list rise
givers_rise : (ds : List Delegation) (z : Delegation) → Rising ds → (j k : ℕ) → j ≤ k → k < length ds → (get_or ds j z).giver ≤ (get_or ds k z).giver
givers_rise [] z r j k h l = absurd (not-suc-le-zero l)
givers_rise (d ∷ ds) z r zero zero h l = le_refl d.giver
givers_rise (d ∷ ds) z r zero (suc k) h l = first (r.0 (get_or ds k z) (get_or_mem ds k z (le_of_suc-le-suc l)))
  where
    first : Before d (get_or ds k z) → d.giver ≤ (get_or ds k z).giver
    first (inl q) = omega arith
    first (inr q) = omega arith
givers_rise (d ∷ ds) z r (suc j) zero h l = absurd (not-suc-le-zero h)
givers_rise (d ∷ ds) z r (suc j) (suc k) h l = givers_rise ds z r.1 j k (le_of_suc-le-suc h) (le_of_suc-le-suc l)

pub records_rise_lem : (s : List ℕ) (n : ℕ) → Rising (delegations_of s n) → (j k : ℕ) → j ≤ k → k < n → (record_at s j).giver ≤ (record_at s k).giver
records_rise_lem s n r j k h l =
    let z = no_delegation in
    let b : k < length (delegations_of s n) = rw (length_tabulate (record_at s) 0 n) l in
    omega (arith, givers_rise (delegations_of s n) z r j k h b, ap (λ (d : Delegation). d.giver) (delegation_at_lem s n j z (omega arith)), ap (λ (d : Delegation). d.giver) (delegation_at_lem s n k z l))
