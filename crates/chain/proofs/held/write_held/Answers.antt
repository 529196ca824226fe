-- `chain::write_held` writes a chain for a standing pair, or refuses by what the register holds. Assumes nothing.
use mathlib.Core.Path.{◌≡◌}
use mathlib.Core.Bool.{not}
use mathlib.Core.List.{[], ◌∷◌}
use native.Mathlib.Omega.{arith}
use Rattle.rules.specs.Pair.{is_pair}
use Rattle.rules.specs.Refusal.{first_of, subjects_held}
use Rattle.rules.proofs.Refusals.{passes_of}
use Rattle.block.specs.Bytes.{leading}
use Rattle.block.specs.Block.{count_in, decode}
use Rattle.block.proofs.Bytes.{fits_bytes}
use Rattle.block.proofs.Held.{size_held, count_most}
use Rattle.block.specs.Records.{delegations_to}
use Rattle.std.proofs.Common.{rules}
use Rattle.refusals.proofs.First.{number_some, told, told_none}
use Rattle.refusals.proofs.Holding.{both_of}
use Rattle.chain.specs.Answer.{chain_answer}
use Rattle.chain.proofs.ChainWays.{chain_unnamed, chain_missing, chain_carried}
use Rattle.chain.proofs.held.write_held.Goals as goal
use Rattle.chain.proofs.held.write_held.Goals.{After-find-k, In_ok-pair_held}

-- neither 9 nor 19 applies
named : (c : In_ok-pair_held) → let a = c.args in first_of (subjects_held (decode a.block.now) (a.giver ∷ a.receiver ∷ [])) ≡ 0
named c = told_none c.pair_held.ensures c.in_ok-pair_held.was

place : (c : After-find-k) → let a = c.args in c.find-k.result ≡ leading (λ d. not (is_pair a.giver a.receiver d)) (delegations_to a.block.now (count_in a.block.now))
place c = rw (← c.count-n.ensures) c.find-k.ensures

pub returns-in_err-pair_held : goal.returns-in_err-pair_held
returns-in_err-pair_held c =
    let a = c.args in
    search (rules, chain_unnamed a.table.now a.block.now (fits_bytes c.args.block.now c.shared_slice_known-1.given) c.requires.0.formed a.giver a.receiver _ (told c.pair_held.ensures c.in_err-pair_held.was) (number_some _) a.buf.now)

pub count-n-requires : goal.count-n-requires
count-n-requires c = omega (arith, size_held c.args.block.now (fits_bytes c.args.block.now c.shared_slice_known-1.given) c.requires.0.formed)

pub find-k-requires : goal.find-k-requires
find-k-requires c =
    let b = c.args.block.now in
    omega (arith, size_held b (fits_bytes c.args.block.now c.shared_slice_known-1.given) c.requires.0.formed, count_most b (fits_bytes c.args.block.now c.shared_slice_known-1.given) c.requires.0.formed, c.count-n.ensures)

pub returns-then-k-n : goal.returns-then-k-n
returns-then-k-n c =
    let a = c.args in
    (chain_missing a.table.now a.block.now (fits_bytes c.args.block.now c.shared_slice_known-1.given) c.requires.0.formed a.giver a.receiver (named (goal.at.returns-then-k-n c).In_ok-pair_held) c.find-k.result (place (goal.at.returns-then-k-n c).After-find-k) (rw (← c.count-n.ensures) c.if-k-n.true) a.buf.now)

pub weight-weight-requires : goal.weight-weight-requires
weight-weight-requires c =
    let b = c.args.block.now in
    omega (arith, size_held b (fits_bytes c.args.block.now c.shared_slice_known-1.given) c.requires.0.formed, count_most b (fits_bytes c.args.block.now c.shared_slice_known-1.given) c.requires.0.formed, c.count-n.ensures, c.if-k-n.false)

pub write_carrying-requires : goal.write_carrying-requires
write_carrying-requires c =
    (both_of c.args.block.now (fits_bytes c.args.block.now c.shared_slice_known-1.given) c.requires.0.formed c.args.giver c.args.receiver (passes_of (subjects_held (decode c.args.block.now) (c.args.giver ∷ c.args.receiver ∷ [])) tt (named (goal.at.write_carrying-requires c).In_ok-pair_held) 9), c.requires.1, c.requires.2)

pub returns : goal.returns
returns c =
    let o = c.write_carrying in
    let a = c.args in
    chain_carried a.table.now a.block.now (fits_bytes c.args.block.now c.shared_slice_known-1.given) c.requires.0.formed a.giver a.receiver (named (goal.at.returns c).In_ok-pair_held) c.find-k.result (place (goal.at.returns c).After-find-k) (rw (← c.count-n.ensures) c.if-k-n.false) c.weight-weight.result c.weight-weight.ensures a.buf.now (chain_answer o.result) _ o.ensures
