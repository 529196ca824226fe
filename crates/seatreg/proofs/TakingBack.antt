-- A cut that an entry point made is taken back by the slip that it left. Assumes nothing.
use mathlib.Core.Path.{◌≡◌, sym, ap, ◌∙◌}
use mathlib.Core.Bool.{Bool, cond}
use mathlib.Core.List.{List}
use Prim.Native.Nat.{ℕ}
use borrow.Author.Tests.{eq-eqb}
use lib.ListN.{length}
use Rattle.rules.specs.Table.{TableRule}
use Rattle.rules.specs.Cut.{Cut}
use Rattle.rules.specs.Call.{cut_call}
use Rattle.block.specs.Bytes.{IsBytes}
use Rattle.steptable.specs.TableText.{Given}
use Rattle.register.specs.CallOn.{Result, call_on}
use Rattle.slips.specs.Slip.{slip, slipped_on}
use Rattle.slips.specs.TakeBack.{restored, take_back_on}
use Rattle.demands.proofs.TakingBack.{slipped_so, taken_back}
use Rattle.seatreg.specs.Answers.{answers_size}
use Rattle.seatreg.specs.Entry.{Returned, EntryEffect, handed_out, wrong_answers, entry_of}
use Rattle.seatreg.specs.TakeBack.{EntryTakenBack}
use Rattle.seatreg.proofs.Entry.{entry_accepted}

pub entry_taken_back : (g : Given) → TableRule g.steps → (b : List ℕ) → IsBytes b → (y : ℕ) (k : Cut) → EntryTakenBack g b y k
entry_taken_back g rule b bytes y k s a b' s' a' made c long n b'' c' back =
    let o = slipped_on g s y b k in
    let (z, d, w) = entry_accepted o b a s (sym (ap (λ (e : EntryEffect). e.returned.refusal) made.outcome)) in
    let (q, t) = slipped_so g s y b k z in
    let r = call_on g b (cut_call y k) in
    let u : b' ≡ r.bytes = ap (λ (e : EntryEffect). e.returned.block) made.outcome ∙ d ∙ ap (λ (x : Result). x.bytes) q in
    let v : s' ≡ slip b y k r.bytes = ap (λ (e : EntryEffect). e.slip) made.outcome ∙ w ∙ t in
    let accepted = sym (ap (λ (x : Result). x.refusal) q) ∙ z in
    let h = back ∙ (λ j. entry_of (take_back_on g (u j) y (v j)) (u j) c) ∙ ap (λ (x : Result). entry_of x r.bytes c) (taken_back g rule b bytes y k accepted).same ∙ ap (λ (x : Bool). cond x (handed_out (restored b) c) (wrong_answers r.bytes c)) (eq-eqb (length c) answers_size long) in
    (ap (λ (x : Returned). x.refusal) h, ap (λ (x : Returned). x.block) h, ap (λ (x : Returned). x.answers) h)
