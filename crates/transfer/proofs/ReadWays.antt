-- The ways of a read, in the order in which the code finds its refusals. Assumes nothing.
use mathlib.Core.Path.{◌≡◌, sym, ap, ◌∙◌}
use mathlib.Core.Logic.{◌≢◌, ◌⊎◌, inl, inr}
use mathlib.Core.Bool.{Bool, true, false, cond, not}
use mathlib.Core.List.{List}
use Prim.Native.Nat.{ℕ}
use native.Mathlib.Omega.{arith}
use lib.IntN.{pos}
use lib.ListN.{length}
use Rattle.rules.specs.Register.{Register}
use Rattle.rules.specs.WellFormed.{WellFormed}
use Rattle.rules.specs.Refusal.{too_heavy}
use Rattle.rules.proofs.Lists.{T_true, not_true, not_false}
use Rattle.block.specs.Layout.{block_size}
use Rattle.block.specs.Block.{decode, encode}
use Rattle.block.specs.WellFormed.{well_formed}
use Rattle.block.proofs.Encode.{decode_encode}
use Rattle.block.proofs.Form.{encode_formed}
use Rattle.steptable.specs.TableText.{given}
use Rattle.steptable.proofs.Right.{given_number}
use Rattle.regfile.specs.FileText.{filed}
use Rattle.regfile.specs.Parsed.{Parsed}
use Rattle.regfile.proofs.FileRight.{filed_number, filed_passing}
use Rattle.transfer.specs.FileOn.{read_refusal, ReadMade}
use Rattle.transfer.proofs.Reading.{read_long, read_file_malformed, read_table_malformed, read_broken, read_unformed, read_heavy, read_refused, read_accepted}
use Rattle.register.specs.Answer.{refused_by, answered_by}

module _ (text table b : List ℕ) where
  refused_by_lem : (n : ℕ) → read_refusal (given table) (filed text) b ≡ n → n ≢ 0 → ReadMade text table b (refused_by n) b
  refused_by_lem n e k = sym (read_refused (given table) (filed text) b n e k)

  pub other_length : length b ≢ block_size → ReadMade text table b (refused_by 1) b
  other_length h = refused_by_lem 1 (read_long (given table) (filed text) b h) (λ e. absurd (omega arith))

  -- n is the refusal of the text, and these bytes are those of its register
  module _ (long : length b ≡ block_size) (n : ℕ) (bytes : List ℕ) (parsed : Parsed text n bytes) where
    pub text_malformed : n ≡ 7 → ReadMade text table b (refused_by n) b
    text_malformed e = refused_by_lem n (read_file_malformed (given table) (filed text) b long (sym parsed.refusal ∙ e) ∙ sym e) (λ z. absurd (omega arith))

    module _ (plain : n ≢ 7) where
      pub table_refused : (given table).refusal ≢ 0 → ReadMade text table b (refused_by (given table).refusal) b
      table_refused k = refused_by_lem (given table).refusal (go (given_number table)) k
        where
          go : ((given table).refusal ≡ 0) ⊎ (((given table).refusal ≡ 7) ⊎ ((given table).refusal ≡ 17)) → read_refusal (given table) (filed text) b ≡ (given table).refusal
          go (inl e) = absurd (k e)
          go (inr (inl e)) = read_table_malformed (given table) (filed text) b long e ∙ sym e
          go (inr (inr e)) = read_broken (given table) (filed text) b long (λ q. plain (parsed.refusal ∙ q)) e ∙ sym e

      module _ (passes : (given table).refusal ≡ 0) where
        pub text_unformed : n ≢ 0 → ReadMade text table b (refused_by n) b
        text_unformed k = refused_by_lem n (go (filed_number text)) k
          where
            go : ((filed text).refusal ≡ 0) ⊎ (((filed text).refusal ≡ 7) ⊎ ((filed text).refusal ≡ 8)) → read_refusal (given table) (filed text) b ≡ n
            go (inl e) = absurd (k (parsed.refusal ∙ e))
            go (inr (inl e)) = absurd (plain (parsed.refusal ∙ e))
            go (inr (inr e)) = read_unformed (given table) (filed text) b long passes e ∙ sym (parsed.refusal ∙ e)

        module _ (none : n ≡ 0) where
          abbrev R : Register
          R = (filed text).register

          formed : WellFormed R
          formed = (filed_passing text (sym parsed.refusal ∙ none)).0

          pub bytes_formed : well_formed bytes ≡ true
          bytes_formed = ap well_formed (parsed.bytes none) ∙ T_true (well_formed (encode R)) (encode_formed R formed)

          -- whether every delegation is supported
          module _ (r : Bool) (found : r ≡ not (too_heavy (given table).steps (decode bytes) (decode bytes).delegations)) where
            heavy : not (too_heavy (given table).steps R R.delegations) ≡ r
            heavy = sym (found ∙ ap (λ (S : Register). not (too_heavy (given table).steps S S.delegations)) (ap decode (parsed.bytes none) ∙ decode_encode R formed))

            number : read_refusal (given table) (filed text) b ≡ cond (too_heavy (given table).steps R R.delegations) 18 0
            number = read_heavy (given table) (filed text) b long passes (sym parsed.refusal ∙ none)

            pub unsupported : r ≡ false → ReadMade text table b (refused_by 18) b
            unsupported e = refused_by_lem 18 (number ∙ ap (λ (x : Bool). cond x 18 0) (not_false (too_heavy (given table).steps R R.delegations) (heavy ∙ e))) (λ z. absurd (omega arith))

            pub read_done : r ≡ true → (after : List ℕ) → after ≡ bytes → ReadMade text table b (answered_by (pos 0) (pos 0) (pos 0)) after
            read_done e after q =
                (λ i. record { refusal = 0; first = pos 0; second = pos 0; third = pos 0; bytes = (q ∙ parsed.bytes none) i })
                ∙ sym (read_accepted (given table) (filed text) b (number ∙ ap (λ (x : Bool). cond x 18 0) (not_true (too_heavy (given table).steps R R.delegations) (heavy ∙ e))))
