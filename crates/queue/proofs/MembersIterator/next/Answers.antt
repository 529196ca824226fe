-- `queue::Members` gives the lowest member, and has one fewer then. Assumes nothing.
use borrow.Author.Rules.{rules}
use Rattle.queue.proofs.Buckets.{members_fall, part_put}
use Rattle.queue.proofs.MembersIterator.next.Goals as goal

pub returns-clause-goes : goal.returns-clause-goes
returns-clause-goes c =
    let o = c.lowest-first.ensures in
    let w = c.without-self in
    let fewer = members_fall c.args.self.now.0 w.result c.lowest-first.result o.small o.member w.ensures.here (part_put c.args.self.now.0 w.result c.lowest-first.result w.ensures) in
    record { on = λ _. (search rules, search rules, fewer); keeps = search rules; rests = search rules }
