-- `search::search` finds the reaches by settling the heaviest open subject, the lowest where several are, until none waits; one that was raised is settled at its new limit, and waits no more; and lists them as it settles them. Assumes nothing.
use mathlib.Core.Path.{◌≡◌, ◌∙◌}
use Rattle.std.specs.Prelude.{Some}
use Prim.Native.Nat.{ℕ, ◌≤◌}
use native.Mathlib.Omega.{arith}
use Rattle.queue.specs.Queue.{Lowest}
use Rattle.runs.specs.Lent.{SubjectLists}
use Rattle.search.proofs.Whole.{measure}
use Rattle.search.proofs.Midway.{Midway, midway_start, midway_on, midway_down, midway_turn, midway_ready, midway_settle, midway_less, midway_found, midway_empty}
use Rattle.search.proofs.Listing.{listing_start, listing_room, listing_next, listing_end}
use Rattle.search.proofs.search.Goals as goal
use Rattle.search.proofs.search.Goals.{After-at_hand-turn}

-- ── with a level at hand ──
module _ (c : After-at_hand-turn) where
  on : let v = c.loop-sets in let h = c.at_hand-turn in Midway c.args.table.now c.args.records.now c.args.marks v.limits v.parents h.new.waiting h.result.sets v.settled × (measure v.settled h.result.sets.near h.result.sets.far ≤ measure v.settled v.sets.near v.sets.far)
  on =
      let v = c.loop-sets in
      let h = c.at_hand-turn in
      midway_on c.args.table.now c.args.records.now c.requires.0.lent c.args.marks v.limits v.parents v.waiting v.sets v.settled v.invariant.0 h.result h.new.waiting h.ensures

  who : (u : ℕ) → c.at_hand-turn.result.subject ≡ Some u → Lowest c.at_hand-turn.result.sets.here u
  who u some =
      let v = c.loop-sets in
      let h = c.at_hand-turn in
      midway_turn c.args.table.now c.args.records.now c.requires.0.lent c.args.marks v.limits v.parents v.waiting v.sets v.settled v.invariant.0 h.result h.new.waiting u some h.ensures

pub loop-sets-init : goal.loop-sets-init
loop-sets-init c =
    let f = c.start in
    let room : SubjectLists f.new.limits f.new.parents = record { limits = f.auto.limits ∙ c.requires.1.search.lists.limits; parents = f.auto.parents ∙ c.requires.1.search.lists.parents } in (
      midway_start c.args.table.now c.args.records.now c.requires.0.lent c.args.marks _ _ _ _ c.first-sets.ensures room f.ensures c.requires.1.search.queue,
      listing_start c.args.table.now c.args.records.now c.requires.0.lent c.args.marks c.args.order.now c.requires.1.order,
    )

-- ── one is settled ──
pub append-count-requires : goal.append-count-requires
append-count-requires c =
    let here = (goal.at.append-count-requires c).After-at_hand-turn in
    let v = c.loop-sets in
    let u = who here c.in-Some.u c.in-Some.is in
    (listing_room c.args.table.now c.args.records.now c.requires.0.lent c.args.marks v.limits v.parents c.at_hand-turn.new.waiting c.at_hand-turn.result.sets v.settled (on here).0 v.order v.count v.invariant.1 _ u _ c.with-settled.ensures, u.small)

pub relax_giver-sets-requires : goal.relax_giver-sets-requires
relax_giver-sets-requires c =
    let here = (goal.at.relax_giver-sets-requires c).After-at_hand-turn in
    let v = c.loop-sets in
    let u = who here c.in-Some.u c.in-Some.is in
    (c.requires.0, u.small, midway_ready c.args.table.now c.args.records.now c.requires.0.lent c.args.marks v.limits v.parents c.at_hand-turn.new.waiting c.at_hand-turn.result.sets v.settled (on here).0 c.in-Some.u u.small u.member c.apart.result c.apart.ensures.2)

pub loop-sets-smaller-in-Some : goal.loop-sets-smaller-in-Some
loop-sets-smaller-in-Some c =
    let here = (goal.at.loop-sets-smaller-in-Some c).After-at_hand-turn in
    let v = c.loop-sets in
    let u = who here c.in-Some.u c.in-Some.is in
    let o = c.apart in
    omega (
      arith,
      midway_less c.args.table.now c.args.records.now c.requires.0.lent c.args.marks v.limits v.parents c.at_hand-turn.new.waiting c.at_hand-turn.result.sets v.settled (on here).0 c.in-Some.u u.small u.member o.result _ o.ensures.0 o.ensures.1 c.with-settled.ensures c.relax_giver-sets.result,
      (on here).1,
    )

pub loop-sets-preserved-in-Some : goal.loop-sets-preserved-in-Some
loop-sets-preserved-in-Some c =
    let here = (goal.at.loop-sets-preserved-in-Some c).After-at_hand-turn in
    let v = c.loop-sets in
    let u = who here c.in-Some.u c.in-Some.is in
    let o = c.apart in
    let g = c.relax_giver-sets in
    let w = c.with-settled in
    let p = c.append-count in (
      midway_settle c.args.table.now c.args.records.now c.requires.0.lent c.args.marks v.limits v.parents c.at_hand-turn.new.waiting c.at_hand-turn.result.sets v.settled (on here).0 c.in-Some.u u.small u.member o.result _ o.ensures.0 o.ensures.1 w.ensures _ _ _ g.result g.ensures.0 g.ensures.1,
      rw (p.ensures.0, p.ensures.1) (listing_next c.args.table.now c.args.records.now c.requires.0.lent c.args.marks v.limits v.parents c.at_hand-turn.new.waiting c.at_hand-turn.result.sets v.settled (on here).0 v.order v.count v.invariant.1 _ u _ w.ensures),
    )

-- ── none waits at the level found ──
pub loop-sets-smaller : goal.loop-sets-smaller
loop-sets-smaller c =
    let v = c.loop-sets in
    let h = c.at_hand-turn in
    midway_down c.args.table.now c.args.records.now c.requires.0.lent c.args.marks v.limits v.parents v.waiting v.sets v.settled v.invariant.0 h.result h.new.waiting c.in_default.is h.ensures

pub loop-sets-preserved : goal.loop-sets-preserved
loop-sets-preserved c = ((on (goal.at.loop-sets-preserved c).After-at_hand-turn).0, c.loop-sets.invariant.1)

pub returns : goal.returns
returns c =
    let v = c.loop-sets in record {
      searched = midway_found c.args.table.now c.args.records.now c.requires.0.lent c.args.marks v.limits v.parents v.waiting v.sets v.settled v.invariant.0 c.loop-sets-test.false;
      empty = midway_empty c.args.table.now c.args.records.now c.requires.0.lent c.args.marks v.limits v.parents v.waiting v.sets v.settled v.invariant.0 c.loop-sets-test.false;
      settled = listing_end c.args.table.now c.args.records.now c.requires.0.lent c.args.marks v.limits v.parents v.waiting v.sets v.settled v.invariant.0 v.order v.count v.invariant.1 c.loop-sets-test.false;
    }
