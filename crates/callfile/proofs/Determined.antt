-- A text prints one thing. Assumes nothing.
use mathlib.Core.Path.{◌≡◌, refl, sym, ◌∙◌}
use mathlib.Core.Logic.{inl, inr}
use mathlib.Core.Bool.{true, false}
use mathlib.Core.List.{List, [], ◌∷◌, ◌++◌, append_assoc, append_cancel_left}
use Prim.Native.Nat.{ℕ, ◌+◌}
use native.Mathlib.Omega.{arith}
use lib.IntN.{ℤ, pos, negsuc}
use lib.ListN.{length}
use Rattle.rules.specs.Call.{fresh}
use Rattle.block.specs.Block.{encode}
use Rattle.text.specs.Text.{AllAllowed}
use Rattle.text.proofs.Injective.{line_inj}
use Rattle.callfile.specs.CallFile.{call_names, answer_names, FileCall, values, AllWritable, call_line, call_lines, answer_lines, ending, NoCall, Prints, unnamed, named, Determined}
use Rattle.callfile.proofs.Rows.{values_inj}
use Rattle.callfile.proofs.Lines.{seven_values}

pub signed : (zs : List ℤ) → AllAllowed false zs → AllAllowed true zs
signed [] a = tt
signed (pos n ∷ zs) a = (a.0, signed zs a.1)
signed (negsuc n ∷ zs) a = absurd a.0

-- the lines of calls at the front of a text, as many as there are
calls_one : (cs ds : List FileCall) (s t : List ℕ) → AllWritable cs → AllWritable ds → NoCall s → NoCall t → call_lines cs ++ s ≡ call_lines ds ++ t → (cs ≡ ds) × (s ≡ t)
calls_one [] [] s t a b m n e = (refl, e)
calls_one [] (d ∷ ds) s t a b m n e = absurd (m d (call_lines ds ++ t) b.0 (e ∙ append_assoc (call_line d) (call_lines ds) t))
calls_one (c ∷ cs) [] s t a b m n e = absurd (n c (call_lines cs ++ s) a.0 (sym e ∙ append_assoc (call_line c) (call_lines cs) s))
calls_one (c ∷ cs) (d ∷ ds) s t a b m n e =
    let q = line_inj (values c) (values d) (call_lines cs ++ s) (call_lines ds ++ t) (seven_values c ∙ sym (seven_values d)) (signed (values c) a.0) (signed (values d) b.0)
    (sym (append_assoc (call_line c) (call_lines cs) s) ∙ e ∙ append_assoc (call_line d) (call_lines ds) t) in
    let r = calls_one cs ds s t a.1 b.1 m n q.1 in
    (λ p. values_inj c d q.0 p ∷ r.0 p, r.1)

prints_one : (text out out' : List ℕ) → Prints text out → Prints text out' → out ≡ out'
prints_one text out out' (unnamed q e) (unnamed r f) = e ∙ sym f
prints_one text out out' (unnamed (inl h) e) (named cs s l a d m f) = absurd (omega arith)
prints_one text out out' (unnamed (inr h) e) (named cs s l a d m f) = absurd (h (call_lines cs ++ s) d)
prints_one text out out' (named cs s l a d m f) (unnamed (inl h) e) = absurd (omega arith)
prints_one text out out' (named cs s l a d m f) (unnamed (inr h) e) = absurd (h (call_lines cs ++ s) d)
prints_one text out out' (named cs s l a d m f) (named ds t k b g n j) =
    let q = calls_one cs ds s t a b m n (append_cancel_left call_names (call_lines cs ++ s) (call_lines ds ++ t) (sym d ∙ g)) in
    f ∙ (λ p. answer_names ++ (answer_lines (encode fresh) (q.0 p) ++ ending (2 + length (q.0 p)) (q.1 p))) ∙ sym j

pub determined : Determined
determined = record { one = prints_one }
