-- The one induction down a list of calls: at every place of every history the outcome is that of the definitions. Assumes nothing.
use mathlib.Core.Path.{◌≡◌, refl, sym, ap, subst, ◌∙◌}
use mathlib.Core.Logic.{◌⊎◌, inl, inr}
use mathlib.Core.Bool.{not}
use mathlib.Core.List.Memᴰ
use mathlib.Core.List.{List, [], ◌∷◌, map}
use Prim.Native.Nat.{ℕ, zero, suc, ◌≤◌, ◌<◌}
use native.Mathlib.Omega.{arith}
use lib.Dec.{T, leb, leb→le, nleb→lt}
use lib.ListN.{take}
use Rattle.rules.specs.List.{◌∈◌, At}
use Rattle.rules.specs.Trace.{Entry, all_asked, trace_from, state_from, History, AtEveryPlace, PlaceRight}
use Rattle.rules.proofs.Lists.{either}

module _ {S A O : Type 0} (step : S → A → O) (left : O → S) where
  -- what each of the first i calls keeps holds of the state that they lead to
  pub stays_each : (P : S → Type 0) (Q : A → Type 0) → ((s : S) (c : A) → Q c → P s → P (left (step s c))) → (s : S) (cs : List A) (i : ℕ) → ((c : A) → c ∈ take i cs → Q c) → P s → P (state_from step left s cs i)
  stays_each P Q k s cs zero q p = p
  stays_each P Q k s [] (suc i) q p = p
  stays_each P Q k s (c ∷ cs) (suc i) q p = stays_each P Q k (left (step s c)) cs i (λ d m. q d (Memᴰ.tail m)) (k s c (q c (Memᴰ.head refl)) p)

  -- what every call keeps holds of every state that the definitions lead to
  pub stays : (P : S → Type 0) → ((s : S) (c : A) → P s → P (left (step s c))) → (s : S) (cs : List A) (i : ℕ) → P s → P (state_from step left s cs i)
  stays P k s cs i p = stays_each P (λ c. Unit {0}) (λ s c q p. k s c p) s cs i (λ c m. tt) p

  -- one call more, or none is left
  next_state : (s : S) (cs : List A) (i : ℕ) → ((c : A) × At cs i c × (state_from step left s cs (suc i) ≡ left (step (state_from step left s cs i) c))) ⊎ (state_from step left s cs (suc i) ≡ state_from step left s cs i)
  next_state s [] zero = inr refl
  next_state s [] (suc i) = inr refl
  next_state s (c ∷ cs) zero = inl (c, refl, refl)
  next_state s (c ∷ cs) (suc i) = next_state (left (step s c)) cs i

  -- what each call keeps holds of every state, also where what is asked of a call follows from what holds of the states up to it
  pub stays_from : (P : S → Type 0) (Q : A → Type 0) → ((s : S) (c : A) → Q c → P s → P (left (step s c))) → (s : S) (cs : List A) (n : ℕ)
      → ((j : ℕ) (c : A) → j < n → At cs j c → ((i : ℕ) → i ≤ j → P (state_from step left s cs i)) → Q c) → P s → (i : ℕ) → i ≤ n → P (state_from step left s cs i)
  stays_from P Q k s cs zero q p i l = let e : 0 ≡ i = omega (arith, l) in subst (λ (m : ℕ). P (state_from step left s cs m)) e p
  stays_from P Q k s cs (suc n) q p i l = go (stays_from P Q k s cs n (λ j c b. q j c (omega (arith, b))) p) (either (leb i n))
    where
      last : ((i : ℕ) → i ≤ n → P (state_from step left s cs i))
          → ((c : A) × At cs n c × (state_from step left s cs (suc n) ≡ left (step (state_from step left s cs n) c))) ⊎ (state_from step left s cs (suc n) ≡ state_from step left s cs n) → P (state_from step left s cs (suc n))
      last upto (inl (c, a, e)) = subst P (sym e) (k (state_from step left s cs n) c (q n c (omega arith) a upto) (upto n (omega arith)))
      last upto (inr e) = subst P (sym e) (upto n (omega arith))

      go : ((i : ℕ) → i ≤ n → P (state_from step left s cs i)) → T (leb i n) ⊎ T (not (leb i n)) → P (state_from step left s cs i)
      go upto (inl b) = upto i (leb→le i n b)
      go upto (inr b) = let e : suc n ≡ i = omega (arith, nleb→lt i n b, l) in subst (λ (m : ℕ). P (state_from step left s cs m)) e (last upto (next_state s cs n))

  followed : (s : S) → AtEveryPlace step left s (λ (r : S) (c : A) (o : O). o ≡ step r c)
  followed s [] h i e m = absurd m
  followed s (x ∷ xs) h zero e m = subst (λ (y : Entry A O). y.outcome ≡ step s y.asked) m h.0
  followed s (x ∷ xs) h (suc i) e m =
      subst (λ (r : S). e.outcome ≡ step (state_from step left r (all_asked xs) i) e.asked) (ap left h.0) (followed (left x.outcome) xs h.1 i e m)

  -- THE WHOLE LIST: what holds of every call on a state that P holds of, holds at every place
  module _ (P : S → Type 0) (keeps : (s : S) (c : A) → P s → P (left (step s c))) (Leaves : S → A → O → Type 0) (right : (s : S) (c : A) → P s → Leaves s c (step s c)) where
    pub places : (s : S) → P s → AtEveryPlace step left s (PlaceRight step Leaves)
    places s p es h i e m =
        let r = state_from step left s (all_asked es) i in
        let q = followed s es h i e m in
        record { outcome = q; leaves = subst (λ (o : O). Leaves r e.asked o) (sym q) (right r e.asked (stays P keeps s (all_asked es) i p)) }

  -- ── the trace is the one that the places cite ──
  pub trace_at : (s : S) (cs : List A) (i : ℕ) (o : O) → At (trace_from step left s cs) i o → (c : A) × At cs i c × (o ≡ step (state_from step left s cs i) c)
  trace_at s [] i o m = absurd m
  trace_at s (c ∷ cs) zero o m = (c, refl, sym m)
  trace_at s (c ∷ cs) (suc i) o m = trace_at (left (step s c)) cs i o m

  pub history_from : (s : S) (es : List (Entry A O)) → History step left s es → map (λ (e : Entry A O). e.outcome) es ≡ trace_from step left s (all_asked es)
  history_from s [] h = refl
  history_from s (e ∷ es) h =
      ap (λ (os : List O). e.outcome ∷ os) (history_from (left e.outcome) es h.1) ∙ ap (λ (o : O). o ∷ trace_from step left (left o) (all_asked es)) h.0
