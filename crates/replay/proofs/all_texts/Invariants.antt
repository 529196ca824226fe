-- `replay::all_texts` tests where every text lies. Assumes nothing.
use mathlib.Core.Path.{◌≡◌}
use Prim.Native.Nat.{◌-◌}
use Rattle.block.specs.Bytes.{all_from}
use Rattle.replay.specs.Replay.{call_count, text_fits_at}
use Rattle.replay.proofs.all_texts.Given as goal

abbrev pub invariant-loop-i : goal.invariant-loop-i
invariant-loop-i l = all_from (text_fits_at l.calls l.texts) 0 (call_count l.calls) ≡ all_from (text_fits_at l.calls l.texts) l.i (call_count l.calls - l.i)
