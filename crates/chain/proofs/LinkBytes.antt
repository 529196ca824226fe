-- The bytes of the links up to a subject, written after those up to the giver of its parent. Assumes nothing.
use mathlib.Core.Path.{◌≡◌, refl, sym, ap, subst, ◌∙◌}
use mathlib.Core.Logic.{◌≢◌, ◌⊎◌, inl, inr}
use mathlib.Core.List.{List, [], ◌∷◌, ◌++◌}
use Prim.Native.Nat.{ℕ, zero, suc, ◌+◌, ◌*◌, ◌-◌, ◌≤◌, zero-le}
use native.Mathlib.Omega.{arith}
use lib.ListN.{length, set, drop, length-append}
use Rattle.rules.specs.Register.{Delegation}
use Rattle.rules.specs.Links.{links_to}
use Rattle.rules.proofs.Links.{links_to_owner, links_to_step}
use Rattle.rules.proofs.Lists.{eq_or}
use Rattle.block.proofs.Bytes.{two_stored}
use Rattle.chain.specs.Links.{link_bytes}

-- two bytes a link
pub bytes_length : (xs : List Delegation) → length (link_bytes xs) ≡ 2 * length xs
bytes_length [] = refl
bytes_length (x ∷ xs) = omega (arith, bytes_length xs)

module _ (parent : ℕ → Delegation) where
  pub links_short : (k u : ℕ) → length (links_to parent k u) ≤ k
  links_short zero u = zero-le
  links_short (suc k) u = go (links_short k) (eq_or u 0)
    where
      go : ((x : ℕ) → length (links_to parent k x) ≤ k) → (u ≡ 0) ⊎ (u ≢ 0) → length (links_to parent (suc k) u) ≤ suc k
      go ih (inl e) = omega (arith, ap length (links_to_owner parent (suc k) u e))
      go ih (inr n) = omega (arith, ih (parent u).giver, ap length (links_to_step parent k u n), length-append (links_to parent k (parent u).giver) (parent u ∷ []))

  -- what is handed out: how many links there are, and the buffer with their bytes in front
  abbrev LinksWritten : ℕ → ℕ → ℕ → List ℕ → List ℕ → Type 0
  LinksWritten k u n buf after = (n ≡ length (links_to parent k u)) × (after ≡ link_bytes (links_to parent k u) ++ drop (2 * n) buf)

  written_none : (k u : ℕ) (buf : List ℕ) → links_to parent k u ≡ [] → LinksWritten k u 0 buf buf
  written_none k u buf e = rw e (refl, refl)

  pub written_left : (k u : ℕ) (buf : List ℕ) → k ≡ 0 → LinksWritten k u 0 buf buf
  written_left k u buf e = written_none k u buf (ap (λ (i : ℕ). links_to parent i u) e)

  pub written_owner : (k u : ℕ) (buf : List ℕ) → u ≡ 0 → LinksWritten k u 0 buf buf
  written_owner k u buf e = written_none k u buf (links_to_owner parent k u e)

  pub written_more : (k u g r n : ℕ) (buf after : List ℕ) → k ≢ 0 → u ≢ 0 → (parent u).giver ≡ g → (parent u).receiver ≡ r → 2 * k ≤ length buf → LinksWritten (k - 1) g n buf after
      → LinksWritten k u (n + 1) buf (set (set after (2 * n) g) (2 * n + 1) r)
  written_more zero u g r n buf after h z eg er room w = absurd (h refl)
  written_more (suc k) u g r n buf after h z eg er room w =
      let j : suc k - 1 ≡ k = omega arith in
      let (en, ew) = subst (λ (i : ℕ). LinksWritten i g n buf after) j w in
      let xs = links_to parent k g in
      let e : links_to parent (suc k) u ≡ xs ++ (parent u ∷ []) = links_to_step parent k u z ∙ ap (λ (i : ℕ). links_to parent k i ++ (parent u ∷ [])) eg in
      let b : link_bytes (links_to parent (suc k) u) ≡ link_bytes xs ++ (g ∷ r ∷ []) = ap link_bytes e ∙ bytes_snoc xs (parent u) ∙ (λ i. link_bytes xs ++ (eg i ∷ er i ∷ [])) in
      let s : n ≤ k = omega (arith, links_short k g) in
      let m : suc (suc (2 * n)) ≡ 2 * (n + 1) = omega arith in (
        omega (arith, ap length e, length-append xs (parent u ∷ [])),
        ap (λ (l : List ℕ). set (set l (2 * n) g) (2 * n + 1) r) ew
            ∙ two_stored (link_bytes xs) buf (2 * n) g r (omega (arith, bytes_length xs)) (omega (arith, s, room))
            ∙ (λ i. sym b i ++ drop (m i) buf),
      )
    where
      bytes_snoc : (xs : List Delegation) (d : Delegation) → link_bytes (xs ++ (d ∷ [])) ≡ link_bytes xs ++ (d.giver ∷ d.receiver ∷ [])
      bytes_snoc [] d = refl
      bytes_snoc (x ∷ xs) d = ap (λ (l : List ℕ). x.giver ∷ x.receiver ∷ l) (bytes_snoc xs d)
