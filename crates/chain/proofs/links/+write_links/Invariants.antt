-- The measure of `chain::links::write_links` is the number of links that may still be written. Assumes nothing.
use Rattle.chain.proofs.links.+write_links.Given as goal

abbrev pub decreases-write_links : goal.decreases-write_links
decreases-write_links l = l.left
