-- Out and in, and in and out. Assumes nothing.
use mathlib.Core.Path.{◌≡◌, refl, sym, ap, subst, ◌∙◌}
use mathlib.Core.Logic.{◌≢◌, ◌⊎◌, inl, inr}
use mathlib.Core.Bool.{Bool, true, false, cond}
use mathlib.Core.List.{List}
use Prim.Native.Nat.{ℕ}
use lib.ListN.{length}
use Rattle.rules.specs.Register.{Register}
use Rattle.rules.specs.Support.{Supported}
use Rattle.rules.specs.WellFormed.{WellFormed}
use Rattle.rules.specs.Refusal.{too_heavy}
use Rattle.rules.proofs.Lists.{T_true}
use Rattle.rules.proofs.Support.{too_heavy_right}
use Rattle.block.specs.Layout.{block_size}
use Rattle.block.specs.Bytes.{IsBytes}
use Rattle.block.specs.Block.{decode, encode}
use Rattle.block.specs.WellFormed.{well_formed}
use Rattle.block.proofs.Encode.{bytes_encode, decode_encode}
use Rattle.block.proofs.Form.{encode_formed}
use Rattle.block.proofs.Held.{held_formed, held_written}
use Rattle.steptable.specs.TableText.{given}
use Rattle.steptable.proofs.Right.{given_keeps, given_number}
use Rattle.regfile.specs.FileText.{Filed, passing_file, file_text, filed}
use Rattle.regfile.proofs.FileRight.{filed_right, filed_number, filed_passing}
use Rattle.register.specs.CallOn.{Result}
use Rattle.transfer.specs.FileOn.{read_refusal, holding, read_on}
use Rattle.transfer.specs.RoundTrip.{reading, RoundTrip}
use Rattle.transfer.proofs.Reading.{read_through, read_heavy, read_accepted, read_same}

-- ── an accepted read ──

-- the text is that of a well-formed register, which is left
pub record Accepted (text table before : List ℕ) : Type 0 where
  pub long : length before ≡ block_size
  pub passes : (given table).refusal ≡ 0
  pub formed : WellFormed (filed text).register
  pub same : text ≡ file_text (filed text).register
  pub supported : Supported (given table).steps (filed text).register
  pub result : reading text table before ≡ holding (filed text).register

-- a number that is one of three, and not the last two
first_of : {m n k : ℕ} → (m ≡ 0) ⊎ ((m ≡ n) ⊎ (m ≡ k)) → m ≢ n → m ≢ k → m ≡ 0
first_of (inl e) p q = e
first_of (inr (inl e)) p q = absurd (p e)
first_of (inr (inr e)) p q = absurd (q e)

module _ (text table before : List ℕ) (accepted : (reading text table before).refusal ≡ 0) where
  abbrev R : Register
  R = (filed text).register

  pub read_passed : Accepted text table before
  read_passed =
      let z = sym (read_same (given table) (filed text) before) ∙ accepted in
      let h = read_through (given table) (filed text) before z in
      let (f, e) = filed_passing text (first_of (filed_number text) h.file.0 h.file.1) in
      record {
        long = h.long;
        passes = first_of (given_number table) h.table.0 h.table.1;
        formed = f;
        same = e;
        supported = (too_heavy_right (given table).steps (given_keeps table) R).0 h.light;
        result = read_accepted (given table) (filed text) before z;
      }

  -- the block left is that of the register
  read_bytes : (reading text table before).bytes ≡ encode R
  read_bytes = ap (λ (r : Result). r.bytes) read_passed.result

  read_register : decode (reading text table before).bytes ≡ R
  read_register = ap decode read_bytes ∙ decode_encode R read_passed.formed

  pub read_formed : well_formed (reading text table before).bytes ≡ true
  read_formed = ap well_formed read_bytes ∙ T_true (well_formed (encode R)) (encode_formed R read_passed.formed)

  pub read_is_bytes : IsBytes (reading text table before).bytes
  read_is_bytes = subst IsBytes (sym read_bytes) (bytes_encode R read_passed.formed)

  pub read_text : file_text (decode (reading text table before).bytes) ≡ text
  read_text = ap file_text read_register ∙ sym read_passed.same

  pub read_supported : Supported (given table).steps (decode (reading text table before).bytes)
  read_supported = subst (Supported (given table).steps) (sym read_register) read_passed.supported

-- ── a read of a register's text ──
module _ (R : Register) (f : WellFormed R) (table before : List ℕ) (long : length before ≡ block_size) (passes : (given table).refusal ≡ 0) where
  abbrev heavy : Bool
  heavy = too_heavy (given table).steps R R.delegations

  abbrev Held : Type 0
  Held = Supported (given table).steps R

  passing_number : read_refusal (given table) (passing_file R) before ≡ cond heavy 18 0
  passing_number = read_heavy (given table) (passing_file R) before long passes refl

  as_passing : reading (file_text R) table before ≡ read_on (given table) (passing_file R) before
  as_passing = ap (λ (x : Filed). read_on (given table) x before) (filed_right.formed R f)

  written_number : (reading (file_text R) table before).refusal ≡ cond heavy 18 0
  written_number = ap (λ (r : Result). r.refusal) as_passing ∙ read_same (given table) (passing_file R) before ∙ passing_number

  light : Held → ◌≡◌ {A = ℕ} (cond heavy 18 0) 0
  light s = ap (λ (x : Bool). cond x 18 0) ((too_heavy_right (given table).steps (given_keeps table) R).1 s)

  pub written_read : Held → (reading (file_text R) table before).refusal ≡ 0
  written_read s = written_number ∙ light s

  pub written_left : Held → (reading (file_text R) table before).bytes ≡ encode R
  written_left s = ap (λ (r : Result). r.bytes) (as_passing ∙ read_accepted (given table) (passing_file R) before (passing_number ∙ light s))

  pub written_refused : (Held → ⊥) → (reading (file_text R) table before).refusal ≡ 18
  written_refused n = written_number ∙ go heavy refl
    where
      go : (x : Bool) → heavy ≡ x → ◌≡◌ {A = ℕ} (cond x 18 0) 18
      go true e = refl
      go false e = absurd (n ((too_heavy_right (given table).steps (given_keeps table) R).0 e))

pub round_trip : RoundTrip
round_trip = record {
  back = λ b table before bytes formed long passes s. let f = held_formed b bytes formed in
      (written_read (decode b) f table before long passes s, written_left (decode b) f table before long passes s ∙ sym (held_written b bytes formed));
  same = λ text table before e. (read_formed text table before e, read_text text table before e, read_supported text table before e);
  unsupported = λ b table before bytes formed long passes n. written_refused (decode b) (held_formed b bytes formed) table before long passes n;
  accepted = λ text table before e. let a = read_passed text table before e in record {
    long = a.long;
    passes = a.passes;
    register = (filed text).register;
    formed = a.formed;
    same = a.same;
    supported = a.supported;
  };
  readable = λ text table before r. ap (λ (s : List ℕ). (reading s table before).refusal) r.same ∙ written_read r.register r.formed table before r.long r.passes r.supported;
}
