-- The chain call on bytes (document 01, 'Calls'; document 02, C-11): its refusal, and what it may write into the lent buffer. Assumes nothing.
use Rattle.std.specs.Prelude.{◌≡◌, ◌≢◌, List, [], ◌∷◌, ◌++◌, ℕ, ◌*◌, length, drop, ℤ}
use Rattle.rules.specs.Register.{Delegation, Register}
use Rattle.rules.specs.Support.{ChainFor}
use Rattle.rules.specs.Pair.{weight_at}
use Rattle.rules.specs.Refusal.{first_of, chain_passed, chain_held}
use Rattle.block.specs.Block.{decode}
use Rattle.chain.specs.Links.{link_bytes, link_size, chain_size}
use Rattle.steptable.specs.TableText.{Given}
use Rattle.refusals.specs.Early.{wrong_lengths, text_refused, not_well_formed}
use Rattle.chain.specs.Answer.{ChainAnswer}

-- the first that applies of 1, what was passed, 7 and 17 by the step table's text, 8, what the register holds
unfoldable pub chain_refusal_on : Given → List ℕ → ℕ → ℕ → List ℕ → ℕ
chain_refusal_on k b g r buf = first_of (wrong_lengths chain_size b buf ∷ (chain_passed g r ++ (text_refused k.refusal ++ (not_well_formed b ∷ chain_held k.steps (decode b) g r))))

-- what is returned, and what the buffer holds afterwards, where the refusal is n and the pair's weight is w
pub record ChainLeft (t : List ℤ) (R : Register) (g r : ℕ) (w : ℤ) (n : ℕ) (before : List ℕ) (o : ChainAnswer) (after : List ℕ) : Type 0 where
  pub refusal : o.refusal ≡ n
  -- a refused call changes nothing
  pub refused : o.refusal ≢ 0 → (o.links ≡ 0) × (after ≡ before)
  -- an accepted one writes a chain of the pair that carries w, two bytes a link, the owner's end first; the bytes past it don't change
  pub chain : o.refusal ≡ 0 → (ds : List Delegation) × ChainFor t R g r w ds × (o.links ≡ length ds) × (after ≡ link_bytes ds ++ drop (link_size * length ds) before)

-- what the chain call promises: of the register that the block holds, for the weight that stands there for the pair
abbrev pub ChainMade : Given → List ℕ → ℕ → ℕ → List ℕ → ChainAnswer → List ℕ → Type 0
ChainMade k b g r before o after = ChainLeft k.steps (decode b) g r (weight_at (decode b).delegations g r) (chain_refusal_on k b g r before) before o after

-- what the chain call tells and hands back where it hands back the front: the refusal n; no bytes where refused, else those of such a chain
pub record ChainFront (k : Given) (b : List ℕ) (g r : ℕ) (before : List ℕ) (n : ℕ) (part : List ℕ) : Type 0 where
  pub refusal : n ≡ chain_refusal_on k b g r before
  pub refused : n ≢ 0 → part ≡ []
  pub chain : n ≡ 0 → (ds : List Delegation) × ChainFor k.steps (decode b) g r (weight_at (decode b).delegations g r) ds × (part ≡ link_bytes ds)
