-- `chain::chain` hands back the front of the buffer that it filled. Assumes nothing.
use Rattle.std.proofs.Common.{◌≡◌, ◌≤◌, ◌*◌, length, sym, ap, subst, Ok, arith, rules}
use lib.Seq.{length-take-le}
use Rattle.steptable.specs.TableText.{ours}
use Rattle.chain.specs.Answer.{ChainAnswer, chain_answer}
use Rattle.chain.specs.ChainOn.{ChainMade}
use Rattle.chain.proofs.ChainWays.{front_fits}
use Rattle.chain.proofs.chain.Goals as goal
use Rattle.chain.proofs.chain.Goals.{In_ok-links}

fits : (c : In_ok-links) → 2 * c.in_ok-links.links ≤ length c.write_chain.new.buf
fits c =
    let a = c.args in
    let was : c.write_chain.result ≡ Ok c.in_ok-links.links = search rules in
    let made = subst (λ (o : ChainAnswer). ChainMade ours a.block.now a.giver a.receiver a.buf.now o c.write_chain.new.buf) (ap chain_answer was) c.write_chain.ensures in
    front_fits ours a.block.now a.giver a.receiver a.buf.now _ c.write_chain.new.buf made

pub overflow_mul-buf : goal.overflow_mul-buf
overflow_mul-buf c = omega (arith, fits (goal.at.overflow_mul-buf c).In_ok-links)

pub slice_bounds-result-end : goal.slice_bounds-result-end
slice_bounds-result-end c = sym (length-take-le _ _ (omega (arith, fits (goal.at.slice_bounds-result-end c).In_ok-links)))
