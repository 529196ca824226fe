-- `chain::limits_for` finds the reaches of a receiver. Assumes nothing.
use Rattle.chain.proofs.held.limits_for.Goals as goal

pub limits_for-requires : goal.limits_for-requires
limits_for-requires c =
    let p = c.requires in
    (record { block = p.block; starts = c.starts_of.ensures }, p.receiver, p.lists)

pub returns : goal.returns
returns c = c.limits_for.ensures
