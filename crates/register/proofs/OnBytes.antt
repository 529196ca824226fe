-- On a well-formed register written, a call on bytes is the call on the register. Assumes nothing.
use mathlib.Core.Path.{◌≡◌, refl, sym, ap, subst, ◌∙◌}
use mathlib.Core.Logic.{◌≢◌}
use mathlib.Core.Bool.{Bool, true, false, cond, not}
use mathlib.Core.List.{List, ◌++◌}
use borrow.Author.Tests.{eq-eqb, ne_eqb}
use lib.Dec.{T, eqb, eqb→eq, T_not}
use lib.ListN.{length}
use lib.IntN.{ℤ, pos}
use Rattle.rules.specs.Register.{Register}
use Rattle.rules.specs.WellFormed.{WellFormed}
use Rattle.rules.specs.Call.{Call}
use Rattle.rules.specs.Refusal.{first_of, passed, held, refusal_of}
use Rattle.rules.specs.CallStep.{Outcome, accepted, refused, call_step}
use Rattle.rules.proofs.Lists.{T_true}
use Rattle.rules.proofs.Refusals.{Passes, passed_numbered, first_of_some}
use Rattle.rules.proofs.Calls.{accepted_refusal, call_step_cases, call_step_refused}
use Rattle.block.specs.Layout.{block_size}
use Rattle.block.specs.Block.{decode, encode}
use Rattle.block.specs.WellFormed.{well_formed}
use Rattle.block.proofs.Encode.{length_encode, decode_encode}
use Rattle.block.proofs.Form.{encode_formed}
use Rattle.steptable.specs.TableText.{passing}
use Rattle.refusals.specs.Early.{early}
use Rattle.register.specs.CallOn.{Result, turned, written, call_on}
use Rattle.refusals.proofs.EarlyTests.{early_one}

-- an outcome on a register, with its register written
abbrev pub on_bytes : Outcome → Result
on_bytes o = record { refusal = o.refusal; first = o.first; second = o.second; third = o.third; bytes = encode o.left }

-- an accepted outcome leaves its register; a refused one the register that it found
written_on_bytes : (t : List ℤ) (R : Register) (c : Call) → written (encode R) (call_step t R c) ≡ on_bytes (call_step t R c)
written_on_bytes t R c = call_step_cases t R c (λ (o : Outcome). written (encode R) o ≡ on_bytes o) done turned_back
  where
    one : (o : Outcome) → o.refusal ≡ 0 → written (encode R) o ≡ on_bytes o
    one o e = ap (λ (x : Bool). record { refusal = o.refusal; first = o.first; second = o.second; third = o.third; bytes = cond x (encode o.left) (encode R) }) (eq-eqb o.refusal 0 e)

    done : refusal_of t R c ≡ 0 → Passes (passed c ++ held t R c) → written (encode R) (accepted t R c) ≡ on_bytes (accepted t R c)
    done z p = one (accepted t R c) (accepted_refusal t R c)

    turned_back : refusal_of t R c ≢ 0 → written (encode R) (refused (refusal_of t R c) R) ≡ on_bytes (refused (refusal_of t R c) R)
    turned_back n = ap (λ (x : Bool). record { refusal = refusal_of t R c; first = pos 0; second = pos 0; third = pos 0; bytes = cond x (encode R) (encode R) }) (ne_eqb (refusal_of t R c) 0 n)

module _ (t : List ℤ) (R : Register) (f : WellFormed R) (c : Call) where
  early_encode : first_of (early 0 (encode R) c) ≡ first_of (passed c)
  early_encode = early_one 0 (encode R) c ∙ rw (eq-eqb (length (encode R)) block_size (length_encode R f), T_true (well_formed (encode R)) (encode_formed R f)) (go (eqb (first_of (passed c)) 0) refl)
    where
      go : (x : Bool) → eqb (first_of (passed c)) 0 ≡ x → cond (not x) (first_of (passed c)) 0 ≡ first_of (passed c)
      go true q = sym (eqb→eq (first_of (passed c)) 0 (subst T (sym q) tt))
      go false q = refl

  refusal_of_lem : first_of (passed c) ≢ 0 → refusal_of t R c ≡ first_of (passed c)
  unfolding refusal_of
  refusal_of_lem k = first_of_some (passed c) (held t R c) (first_of (passed c)) (passed_numbered c) refl k

  -- on a well-formed register written, a call on bytes with a table that passes is the call on the register
  pub call_on_encode : call_on (passing t) (encode R) c ≡ on_bytes (call_step t R c)
  unfolding call_on
  call_on_encode = go (eqb (first_of (early 0 (encode R) c)) 0) refl
    where
      go : (b : Bool) → eqb (first_of (early 0 (encode R) c)) 0 ≡ b
          → let r : Result = elim b [ true ↦ written (encode R) (call_step t (decode (encode R)) c) | false ↦ turned (first_of (early 0 (encode R) c)) (encode R) ] in r ≡ on_bytes (call_step t R c)
      go true e = ap (λ (S : Register). written (encode R) (call_step t S c)) (decode_encode R f) ∙ written_on_bytes t R c
      go false e =
          let n : first_of (early 0 (encode R) c) ≢ 0 = λ z. absurd (T_not true (subst (λ (x : Bool). T (not x)) (sym (sym (eq-eqb (first_of (early 0 (encode R) c)) 0 z) ∙ e)) tt) tt) in
          sym (ap on_bytes (call_step_refused t R c (first_of (early 0 (encode R) c)) (refusal_of_lem (λ z. n (early_encode ∙ z)) ∙ sym early_encode) n))
