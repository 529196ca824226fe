-- `replay::all_calls` tests every call number. Assumes nothing.
use mathlib.Core.Path.{◌≡◌}
use Prim.Native.Nat.{◌-◌}
use Rattle.block.specs.Bytes.{all_from}
use Rattle.replay.specs.Replay.{is_call, call_count, number_at}
use Rattle.replay.proofs.all_calls.Given as goal

abbrev pub invariant-loop-i : goal.invariant-loop-i
invariant-loop-i l = all_from (λ k. is_call (number_at l.calls k)) 0 (call_count l.calls) ≡ all_from (λ k. is_call (number_at l.calls k)) l.i (call_count l.calls - l.i)
