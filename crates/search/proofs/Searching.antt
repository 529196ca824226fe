-- The search on the block: what is lent to it, and that what it finds are the reaches of the register that the block holds, and the order. Assumes nothing.
use mathlib.Core.Path.{◌≡◌, refl, sym, ap, subst, ◌∙◌}
use mathlib.Core.Logic.{◌⊎◌, inl, inr}
use mathlib.Core.Bool.{true}
use mathlib.Core.List.{List, ◌∷◌}
use Prim.Native.Nat.{ℕ, zero, suc, ◌+◌, ◌*◌, ◌/◌, ◌≤◌, ◌<◌}
use native.Mathlib.Nat.{zero-add, add-zero, add-suc, suc-add, mul-div_right}
use native.Mathlib.Omega.{arith}
use lib.ListN.{length, get_or, take, drop, length-take, length-drop}
use lib.Seq.{get_or-take, get_or-drop}
use lib.IntN.{ℤ, pos}
use Rattle.rules.specs.List.{◌∈◌, tabulate}
use Rattle.rules.specs.Limit.{none}
use Rattle.rules.specs.Table.{TableRule}
use Rattle.rules.specs.Register.{Delegation, Register, marks_of}
use Rattle.rules.specs.Chain.{limit, IsChain}
use Rattle.rules.specs.Reach.{chains, reach}
use Rattle.rules.specs.Links.{links_to}
use Rattle.rules.specs.Order.{Due, Precedes, WrittenSo, owner_first, heaviest_next, IsOrder}
use Rattle.rules.specs.WellFormed.{Rising}
use Rattle.rules.proofs.Lists.{get_d_tabulate}
use Rattle.rules.proofs.Signed.{get_or_within}
use Rattle.block.specs.Layout.{most_subjects, most_records, records_at, record_size}
use Rattle.block.specs.Bytes.{IsBytes}
use Rattle.block.specs.Block.{count_in, records_in, decode}
use Rattle.block.specs.WellFormed.{well_formed}
use Rattle.block.proofs.Bytes.{length_tabulate}
use Rattle.block.proofs.Held.{held_formed, size_held, count_most, delegations_held}
use Rattle.block.specs.Records.{delegation_at, record_from}
use Rattle.runs.specs.Lent.{record_count, record_at, delegations_of, delegations_in, Lent}
use Rattle.runs.proofs.Records.{delegation_same}
use Rattle.search.specs.Search.{under_marks, parent_in, most_links}
use Rattle.search.specs.Found.{Searched, SettledSo, OrderFound}

tabulate_below : {A : Type 0} (f g : ℕ → A) (i n : ℕ) → ((k : ℕ) → k < n → f (i + k) ≡ g (i + k)) → tabulate f i n ≡ tabulate g i n
tabulate_below f g i zero h = refl
tabulate_below f g i (suc n) h =
    let e = subst (λ (m : ℕ). f m ≡ g m) (add-zero i) (h 0 (omega arith)) in
    let r = tabulate_below f g (suc i) n (λ k l. subst (λ (m : ℕ). f m ≡ g m) (add-suc i k ∙ sym (suc-add i k)) (h (suc k) (omega arith))) in
    λ j. e j ∷ r j

-- reach looks at the delegations and at the receiver's marks alone
pub reach_marks : (t : List ℤ) (R : Register) (u v : ℕ) → reach t R u v ≡ reach t (under_marks R.delegations (marks_of R v)) u 0
unfolding chains reach
reach_marks t R u v = refl

-- and so do chains
chain_marks : (t : List ℤ) (R : Register) (u v : ℕ) (ds : List Delegation) → IsChain t (under_marks R.delegations (marks_of R v)) u 0 ds → IsChain t R u v ds
chain_marks t R u v ds c = record { standing = c.standing; linked = c.linked; distinct = c.distinct; met = c.met; live = c.live }

-- and so does the order
module _ (t : List ℤ) (R : Register) (v : ℕ) where
  abbrev marked : Register
  marked = under_marks R.delegations (marks_of R v)

  due_marks : (ws : List ℕ) (s : ℕ) → Due t marked 0 ws s → Due t R v ws s
  unfolding chains reach
  due_marks ws s d =
      let c = d.comes in
      record { unwritten = d.unwritten; reached = d.reached; comes = record { by = c.by; standing = c.standing; from = c.from; to = c.to; met = c.met; limit = c.limit } }

  marks_due : (ws : List ℕ) (s : ℕ) → Due t R v ws s → Due t marked 0 ws s
  unfolding chains reach
  marks_due ws s d =
      let c = d.comes in
      record { unwritten = d.unwritten; reached = d.reached; comes = record { by = c.by; standing = c.standing; from = c.from; to = c.to; met = c.met; limit = c.limit } }

  precedes_marks : (s y : ℕ) → Precedes t marked 0 s y → Precedes t R v s y
  unfolding chains reach
  precedes_marks s y h = h

  written_marks : {ws : List ℕ} → WrittenSo t marked 0 ws → WrittenSo t R v ws
  written_marks owner_first = owner_first
  written_marks (heaviest_next {ws} {s} a d h) = heaviest_next (written_marks a) (due_marks ws s d) (λ y e. precedes_marks s y (h y (marks_due ws y e)))

  order_marks : {ws : List ℕ} → IsOrder t marked 0 ws → IsOrder t R v ws
  unfolding chains reach
  order_marks o = record { written = written_marks o.written; reached = o.reached; all = o.all }

module _ (b : List ℕ) (bytes : IsBytes b) (formed : well_formed b ≡ true) where
  length_records : length (records_in b) ≡ record_size * count_in b
  length_records = length-take (record_size * count_in b) (drop records_at b) ∙ omega (arith, length-drop records_at b, size_held b bytes formed, count_most b bytes formed)

  records_count : record_count (records_in b) ≡ count_in b
  records_count = ap (λ (n : ℕ). n / record_size) length_records ∙ mul-div_right (count_in b) (omega arith)

  same_record : (k : ℕ) → k < count_in b → record_at (records_in b) k ≡ delegation_at b k
  same_record k l = delegation_same (drop (record_size * k) (records_in b)) (record_from b k) (λ j m.
      get_or-drop (record_size * k) (records_in b) j 0 ∙ get_or-take (record_size * count_in b) (drop records_at b) (record_size * k + j) 0 (omega arith) ∙ sym (get_or-drop (record_size * k) (drop records_at b) j 0))

  -- the records lent are the register's delegations
  pub records_held : delegations_in (records_in b) ≡ (decode b).delegations
  records_held =
      ap (delegations_of (records_in b)) records_count
      ∙ tabulate_below (record_at (records_in b)) (delegation_at b) 0 (count_in b)
      (λ k l. subst (λ (m : ℕ). record_at (records_in b) m ≡ delegation_at b m) (sym (zero-add k)) (same_record k l))
      ∙ sym (delegations_held b bytes formed)

  pub lent_held : (t : List ℤ) → TableRule t → Lent t (records_in b) (record_count (records_in b))
  lent_held t rule =
      let f = held_formed b bytes formed in
      let e : delegations_of (records_in b) (record_count (records_in b)) ≡ (decode b).delegations = records_held in
      record {
        rule = rule;
        size = length_records ∙ ap (λ (n : ℕ). record_size * n) (sym records_count);
        few = subst (λ (n : ℕ). n ≤ most_records) (sym records_count) (count_most b bytes formed);
        rising = subst Rising (sym e) f.rising;
        givers = λ d m. let k = (f.each d (subst (λ (ds : List Delegation). d ∈ ds) e m)).giver in omega (arith, f.most);
        receivers = λ d m. let k = (f.each d (subst (λ (ds : List Delegation). d ∈ ds) e m)).receiver in omega (arith, f.most);
      }

  -- the limits found are the reaches
  module _ (t : List ℤ) (v : ℕ) (l : List ℤ) (p : List ℕ) (s : Searched t (records_in b) (marks_of (decode b) v) l p) where
    pub reach_found : (u : ℕ) → u < most_subjects → get_or l u (pos 0) ≡ reach t (decode b) u v
    reach_found u h =
        ap (λ (x : List ℤ). get_or x u (pos 0)) s.limits
        ∙ get_d_tabulate (λ x. reach t (under_marks (delegations_in (records_in b)) (marks_of (decode b) v)) x 0) (pos 0) 0 most_subjects u h
        ∙ ap (λ (x : ℕ). reach t (under_marks (delegations_in (records_in b)) (marks_of (decode b) v)) x 0) (zero-add u)
        ∙ ap (λ (ds : List Delegation). reach t (under_marks ds (marks_of (decode b) v)) u 0) records_held
        ∙ sym (reach_marks t (decode b) u v)

    -- the parents lead back along a chain that carries the reach, where there is one
    pub chain_found : (u : ℕ) → u < most_subjects → (reach t (decode b) u v ≡ none)
        ⊎ (IsChain t (decode b) u v (links_to (parent_in (delegations_in (records_in b)) p) most_links u) × (reach t (decode b) u v ≡ limit t (links_to (parent_in (delegations_in (records_in b)) p) most_links u)))
    chain_found u h = go (s.leads u h)
      where
        ds : List Delegation
        ds = delegations_in (records_in b)

        m : ℕ
        m = marks_of (decode b) v

        same : reach t (under_marks (delegations_in (records_in b)) (marks_of (decode b) v)) u 0 ≡ reach t (decode b) u v
        same = ap (λ (x : List Delegation). reach t (under_marks x (marks_of (decode b) v)) u 0) records_held ∙ sym (reach_marks t (decode b) u v)

        go : (reach t (under_marks (delegations_in (records_in b)) (marks_of (decode b) v)) u 0 ≡ none)
            ⊎ (IsChain t (under_marks (delegations_in (records_in b)) (marks_of (decode b) v)) u 0 (links_to (parent_in (delegations_in (records_in b)) p) most_links u)
            × (reach t (under_marks (delegations_in (records_in b)) (marks_of (decode b) v)) u 0 ≡ limit t (links_to (parent_in (delegations_in (records_in b)) p) most_links u)))
            → (reach t (decode b) u v ≡ none)
            ⊎ (IsChain t (decode b) u v (links_to (parent_in (delegations_in (records_in b)) p) most_links u) × (reach t (decode b) u v ≡ limit t (links_to (parent_in (delegations_in (records_in b)) p) most_links u)))
        go (inl e) = inl (sym same ∙ e)
        go (inr r) =
            inr (
              chain_marks t (decode b) u v (links_to (parent_in (delegations_in (records_in b)) p) most_links u)
                  (subst (λ (x : List Delegation). IsChain t (under_marks x (marks_of (decode b) v)) u 0 (links_to (parent_in (delegations_in (records_in b)) p) most_links u)) records_held r.0),
              sym same ∙ r.1,
            )

    -- and the order found is that of the register
    pub order_found : (xs : List ℕ) (n : ℕ) → SettledSo t (records_in b) (marks_of (decode b) v) xs n → OrderFound t (decode b) v l xs n
    order_found xs n o = record {
      size = size;
      limits = λ u h. get_or_within l u none (pos 0) (subst (λ (m : ℕ). u < m) (sym size) h) ∙ reach_found u h;
      within = o.within;
      order = order_marks t (decode b) v (subst (λ (ds : List Delegation). IsOrder t (under_marks ds (marks_of (decode b) v)) 0 (take n xs)) records_held o.order);
    }
      where
        size : length l ≡ most_subjects
        size = ap length s.limits ∙ length_tabulate (λ x. reach t (under_marks (delegations_in (records_in b)) (marks_of (decode b) v)) x 0) 0 most_subjects
