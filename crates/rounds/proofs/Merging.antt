-- Two rising lists of delegations walked together, the second with no other pairs: what stands for the next pair. Assumes nothing.
use mathlib.Core.Path.{◌≡◌, refl, sym, ap, subst, ◌∙◌}
use mathlib.Core.Bool.{Bool, true, false, cond}
use mathlib.Core.List.Memᴰ
use mathlib.Core.List.{List, [], ◌∷◌}
use Prim.Native.Nat.{ℕ}
use lib.Dec.{T}
use lib.IntN.{pos}
use Rattle.rules.specs.List.{◌∈◌}
use Rattle.rules.specs.Limit.{none}
use Rattle.rules.specs.Register.{Delegation}
use Rattle.rules.specs.Pair.{is_pair, weight_at}
use Rattle.rules.specs.Remainder.{AtMost}
use Rattle.rules.specs.WellFormed.{Before, Rising}
use Rattle.rules.proofs.WellFormed.{Before_trans, Before_pairs, Before_irrefl}
use Rattle.rules.proofs.AtMost.{at_giver, at_receiver}
use Rattle.rules.proofs.Pairs.{IsPair, pair_test, test_pair}

-- ds is left of one list, es of the other, which began as fs: what stands in fs for a pair of ds is what stands in es
pub record Ahead (fs ds es : List Delegation) : Type 0 where
  pub rising : Rising ds
  pub rises : Rising es
  pub held : (e : Delegation) → e ∈ es → (d : Delegation) × (d ∈ ds) × AtMost e d
  pub same : (d : Delegation) → d ∈ ds → weight_at fs d.giver d.receiver ≡ weight_at es d.giver d.receiver

module _ (g r : ℕ) (e : Delegation) (es : List Delegation) where
  weight_first : is_pair g r e ≡ true → weight_at (e ∷ es) g r ≡ pos e.weight
  weight_first t = rw t refl

  weight_rest : (IsPair g r e → ⊥) → weight_at (e ∷ es) g r ≡ weight_at es g r
  weight_rest n = go (is_pair g r e) (λ t. n (test_pair g r e t))
    where
      go : (b : Bool) → (T b → ⊥) → cond b (pos e.weight) (weight_at es g r) ≡ weight_at es g r
      go true h = absurd (h tt)
      go false h = refl

weight_none : (g r : ℕ) (es : List Delegation) → ((e : Delegation) → e ∈ es → IsPair g r e → ⊥) → weight_at es g r ≡ none
weight_none g r [] n = refl
weight_none g r (e ∷ es) n = weight_rest g r e es (n e (Memᴰ.head refl)) ∙ weight_none g r es (λ x m. n x (Memᴰ.tail m))

-- what stands in a list, and is not of its first pair, stands in the rest
held_rest : (d : Delegation) (ds : List Delegation) (e : Delegation) → (IsPair d.giver d.receiver e → ⊥) → (x : Delegation) × (x ∈ (d ∷ ds)) × AtMost e x → (x : Delegation) × (x ∈ ds) × AtMost e x
held_rest d ds e n (x, Memᴰ.tail m, a) = (x, m, a)
held_rest d ds e n (x, Memᴰ.head q, a) = absurd (n (at_giver a ∙ ap (λ (y : Delegation). y.giver) q, at_receiver a ∙ ap (λ (y : Delegation). y.receiver) q))

module _ (fs : List Delegation) (d : Delegation) (ds : List Delegation) where
  -- the next of es is of the pair of d
  module _ (e : Delegation) (es : List Delegation) (s : Ahead fs (d ∷ ds) (e ∷ es)) (t : is_pair d.giver d.receiver e ≡ true) where
    pub met_weight : weight_at fs d.giver d.receiver ≡ pos e.weight
    met_weight = s.same d (Memᴰ.head refl) ∙ weight_first d.giver d.receiver e es t

    pair : IsPair d.giver d.receiver e
    pair = test_pair d.giver d.receiver e (subst T (sym t) tt)

    pub met_on : Ahead fs ds es
    met_on = record {
      rising = s.rising.1;
      rises = s.rises.1;
      held = λ x m. held_rest d ds x (λ p. Before_irrefl e x (pair.0 ∙ sym p.0) (pair.1 ∙ sym p.1) (s.rises.0 x m)) (s.held x (Memᴰ.tail m));
      same = λ x m. s.same x (Memᴰ.tail m) ∙ weight_rest x.giver x.receiver e es (λ p. Before_irrefl d x (sym pair.0 ∙ p.0) (sym pair.1 ∙ p.1) (s.rising.0 x m));
    }

  -- no more of es is of the pair of d
  module _ (es : List Delegation) (s : Ahead fs (d ∷ ds) es) (n : (e : Delegation) → e ∈ es → IsPair d.giver d.receiver e → ⊥) where
    pub missed_weight : weight_at fs d.giver d.receiver ≡ none
    missed_weight = s.same d (Memᴰ.head refl) ∙ weight_none d.giver d.receiver es n

    pub missed_on : Ahead fs ds es
    missed_on = record {
      rising = s.rising.1;
      rises = s.rises;
      held = λ x m. held_rest d ds x (n x m) (s.held x m);
      same = λ x m. s.same x (Memᴰ.tail m);
    }

  -- as where the next of es is of another pair: that one comes after d, and so do all of es
  module _ (e : Delegation) (es : List Delegation) (s : Ahead fs (d ∷ ds) (e ∷ es)) (t : is_pair d.giver d.receiver e ≡ false) where
    other : IsPair d.giver d.receiver e → ⊥
    other p = subst T t (pair_test d.giver d.receiver e p)

    after : Before d e
    after =
        let (x, m, a) = held_rest d ds e other (s.held e (Memᴰ.head refl)) in
        Before_pairs d x d e refl refl (sym (at_giver a)) (sym (at_receiver a)) (s.rising.0 x m)

    pub others : (x : Delegation) → x ∈ (e ∷ es) → IsPair d.giver d.receiver x → ⊥
    others x (Memᴰ.head q) p = other (subst (λ (y : Delegation). IsPair d.giver d.receiver y) q p)
    others x (Memᴰ.tail m) p = Before_irrefl d x (sym p.0) (sym p.1) (Before_trans d e x after (s.rises.0 x m))
