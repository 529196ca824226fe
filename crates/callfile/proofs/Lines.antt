-- One line of a call file: its row, and its call. Assumes nothing.
use mathlib.Core.Path.{◌≡◌, refl, sym, ap, subst, ◌∙◌}
use mathlib.Core.Bool.{true, false}
use Rattle.std.proofs.lemmas.Option.{none-some}
use mathlib.Core.List.{List, [], ◌∷◌, ◌++◌}
use Prim.Native.Nat.{ℕ, ◌+◌, ◌≤◌, ◌<◌}
use native.Mathlib.Omega.{arith}
use lib.IntN.{ℤ, pos}
use lib.ListN.{length, get_or, drop, drop_of_length-le}
use lib.Seq.{drop-cons}
use mir.Syntax.{w64}
use mir.Val.{of_z, to_z}
use Rattle.text.specs.Text.{line, Allowed, AllAllowed}
use Rattle.text.specs.Read.{LineRead}
use Rattle.std.specs.Prelude.{Option, None, Some, IfSome, IsSomeAnd}
use Rattle.text.proofs.Signed.{kept, allowed_fits}
use Rattle.text.proofs.Lines.{allowed_at}
use Rattle.callfile.specs.CallFile.{FileCall, enrols, grants, revokes, downgrades, asks_reach, asks_use, values}
use Rattle.callfile.specs.Row.{is_row, row_of, CallRead}
use Rattle.callfile.specs.declared.Row.{Row}
use Rattle.callfile.proofs.Rows.{row_none, row_call, row_named}

-- ── seven values ──
module _ (vs : List ℤ) (a : AllAllowed false vs) (i : ℕ) (h : i < length vs) where
  same : to_z w64 (of_z w64 (get_or vs i (pos 0))) ≡ get_or vs i (pos 0)
  same = kept (get_or vs i (pos 0)) (allowed_fits false (get_or vs i (pos 0)) (allowed_at false vs i h a))

  pub value_allowed : Allowed false (to_z w64 (of_z w64 (get_or vs i (pos 0))))
  value_allowed = subst (λ (z : ℤ). Allowed false z) (sym same) (allowed_at false vs i h a)

  pub value_is : {n : ℕ} → pos n ≡ to_z w64 (of_z w64 (get_or vs i (pos 0))) → pos n ≡ get_or vs i (pos 0)
  value_is e = e ∙ same

pub seven : (vs : List ℤ) → length vs ≡ 7
    → vs ≡ get_or vs 0 (pos 0) ∷ get_or vs 1 (pos 0) ∷ get_or vs 2 (pos 0) ∷ get_or vs 3 (pos 0) ∷ get_or vs 4 (pos 0) ∷ get_or vs 5 (pos 0) ∷ get_or vs 6 (pos 0) ∷ []
seven vs e =
    let l : length vs ≤ 7 = omega arith in
    drop-cons vs 0 (pos 0) (omega arith) ∙ ap (λ (s : List ℤ). get_or vs 0 (pos 0) ∷ s)
    (drop-cons vs 1 (pos 0) (omega arith) ∙ ap (λ (s : List ℤ). get_or vs 1 (pos 0) ∷ s)
    (drop-cons vs 2 (pos 0) (omega arith) ∙ ap (λ (s : List ℤ). get_or vs 2 (pos 0) ∷ s)
    (drop-cons vs 3 (pos 0) (omega arith) ∙ ap (λ (s : List ℤ). get_or vs 3 (pos 0) ∷ s)
    (drop-cons vs 4 (pos 0) (omega arith) ∙ ap (λ (s : List ℤ). get_or vs 4 (pos 0) ∷ s)
    (drop-cons vs 5 (pos 0) (omega arith) ∙ ap (λ (s : List ℤ). get_or vs 5 (pos 0) ∷ s)
    (drop-cons vs 6 (pos 0) (omega arith) ∙ ap (λ (s : List ℤ). get_or vs 6 (pos 0) ∷ s) (drop_of_length-le vs l)))))))

-- ── a row ──
-- a row is read from `at` exactly where the text goes on with its line, and next is where it goes on after that
pub record RowRead (text : List ℕ) (at : ℕ) (r : Option Row) (next : ℕ) : Type 0 where
  pub read : IfSome r (λ w. AllAllowed false (row_of w) × (next ≡ at + length (line (row_of w))) × (drop at text ≡ line (row_of w) ++ drop next text))
  pub each : (zs : List ℤ) (rest : List ℕ) → length zs ≡ 7 → AllAllowed false zs → drop at text ≡ line zs ++ rest → IsSomeAnd r (λ w. row_of w ≡ zs)

module _ (text : List ℕ) (at : ℕ) (before after : List ℤ) (h : length before ≡ 7) where
  pub row_missing : (next : ℕ) → LineRead text at false before None after → RowRead text at None next
  row_missing next l = record { read = tt; each = λ zs rest k a d. l.each zs rest (k ∙ sym h) a d }

  pub row_there : (next : ℕ) → LineRead text at false before (Some next) after → (w : Row) → row_of w ≡ after → RowRead text at (Some w) next
  row_there next l w same =
      let q = l.read in
      let e = sym same in
      record {
        read = (subst (λ (s : List ℤ). AllAllowed false s) e q.0, q.1 ∙ ap (λ (s : List ℤ). at + length (line s)) e, q.2 ∙ ap (λ (s : List ℤ). line s ++ drop next text) e);
        each = λ zs rest k a d. same ∙ (l.each zs rest (k ∙ sym h) a d).0;
      }

-- ── a call ──
pub seven_values : (c : FileCall) → length (values c) ≡ 7
seven_values (enrols m) = refl
seven_values (grants g r w n b) = refl
seven_values (revokes y g r) = refl
seven_values (downgrades y g r w) = refl
seven_values (asks_reach g r) = refl
seven_values (asks_use r) = refl

module _ (text : List ℕ) (at : ℕ) (before after : List ℤ) (h : length before ≡ 7) where
  pub call_missing : LineRead text at false before None after → CallRead text at None at
  call_missing l =
      let r = row_missing text at before after h at l in
      record {
        known = tt;
        read = tt;
        none = λ t. (λ c rest a d. r.each (values c) rest (seven_values c) a d, refl);
      }

  module _ (next : ℕ) (l : LineRead text at false before (Some next) after) (w : Row) (same : row_of w ≡ after) where
    pub call_other : is_row w.call w.by w.giver w.receiver w.weight w.need w.bar ≡ false → CallRead text at None at
    call_other f =
        let r = row_there text at before after h next l w same in
        record {
          known = tt;
          read = tt;
          none = λ t. (λ c rest a d. row_none w.call w.by w.giver w.receiver w.weight w.need w.bar f c (r.each (values c) rest (seven_values c) a d), refl);
        }

    pub call_there : is_row w.call w.by w.giver w.receiver w.weight w.need w.bar ≡ true → CallRead text at (Some w) next
    call_there e =
        let (v, m) = row_named w.call w.by w.giver w.receiver w.weight w.need w.bar e in
        let q = (row_there text at before after h next l w same).read in
        record {
          known = (row_call w.call w.by w.giver w.receiver w.weight w.need w.bar e, m);
          read = (subst (λ (s : List ℤ). AllAllowed false s) v q.0, q.1 ∙ ap (λ (s : List ℤ). at + length (line s)) v, q.2 ∙ ap (λ (s : List ℤ). line s ++ drop next text) v);
          none = λ t. absurd (none-some _ (sym t));
        }
