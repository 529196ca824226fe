-- `chain::links::write_links` meets its contract. Assumes nothing.
use mathlib.Core.Path.{ap, ◌∙◌}
use Prim.Native.Nat.{ℕ, ◌+◌, ◌*◌, ◌-◌, ◌/◌, ◌≤◌, ◌<◌}
use native.Mathlib.Omega.{arith}
use lib.ListN.{length, get_or, length-set}
use Rattle.rules.specs.Register.{Delegation}
use Rattle.search.specs.Search.{parent_in}
use Rattle.runs.specs.Lent.{record_at, delegations_in}
use Rattle.runs.proofs.Records.{receiver_at, giver_at, delegation_mem}
use Rattle.chain.proofs.Ready.{parent_record}
use Rattle.chain.proofs.LinkBytes.{links_short, written_more}
use Rattle.chain.proofs.links.+write_links.Goals as goal
use Rattle.chain.proofs.links.+write_links.Goals.{Else-subject-eq0, After-write_links-n}

-- past the owner, the subject's parent is a place of the records
placed : (t : ℕ) (c : Else-subject-eq0 t) → get_or c.args.parents.now c.args.subject 0 < length c.args.records.now / 8
placed t c = c.requires.0.placed c.if-subject-eq0.false c.args.subject c.requires.0.subject

-- after the links up to the giver there is room for one link more
room : (t : ℕ) (c : After-write_links-n t) → 2 * c.write_links-n.result + 2 ≤ length c.write_links-n.new.buf
room t c =
    let f = c.write_links-n in
    omega (
      arith,
      links_short (parent_in (delegations_in c.args.records.now) c.args.parents.now) (c.args.left - 1)
          (get_or c.args.records.now (8 * get_or c.args.parents.now c.args.subject 0) 0),
      f.ensures.0,
      f.auto.buf,
      c.requires.1,
      c.if-left-eq0.false,
    )

pub write_links-n-requires : goal.write_links-n-requires
write_links-n-requires t c =
    let p = placed t (goal.at.write_links-n-requires t c).Else-subject-eq0 in
    let below = c.requires.0.givers (record_at c.args.records.now (get_or c.args.parents.now c.args.subject 0))
    (delegation_mem c.args.records.now (length c.args.records.now / 8) (get_or c.args.parents.now c.args.subject 0) p) in (
      omega arith,
      (
        record {
          size = c.requires.0.size;
          subject = omega (arith, below, giver_at c.args.records.now (get_or c.args.parents.now c.args.subject 0));
          placed = λ n. c.requires.0.placed c.if-subject-eq0.false;
          givers = c.requires.0.givers;
        },
        omega arith,
      ),
    )

pub overflow_mul-buf : goal.overflow_mul-buf
overflow_mul-buf t c = omega (arith, room t (goal.at.overflow_mul-buf t c).After-write_links-n)

pub bounds-buf-n : goal.bounds-buf-n
bounds-buf-n t c = omega (arith, room t (goal.at.bounds-buf-n t c).After-write_links-n)

pub overflow_mul-buf-2 : goal.overflow_mul-buf-2
overflow_mul-buf-2 t c = omega (arith, room t (goal.at.overflow_mul-buf-2 t c).After-write_links-n)

pub overflow_add-buf : goal.overflow_add-buf
overflow_add-buf t c = omega (arith, room t (goal.at.overflow_add-buf t c).After-write_links-n)

pub bounds-buf-n-2 : goal.bounds-buf-n-2
bounds-buf-n-2 t c = simp length-set (omega (arith, room t (goal.at.bounds-buf-n-2 t c).After-write_links-n))

pub overflow_add-result : goal.overflow_add-result
overflow_add-result t c = omega (arith, room t (goal.at.overflow_add-result t c).After-write_links-n)

pub returns : goal.returns
returns t c =
    let f = c.write_links-n in
    let k = get_or c.args.parents.now c.args.subject 0 in
    let e = parent_record c.args.records.now c.args.parents.now c.args.subject (placed t (goal.at.returns t c).Else-subject-eq0) in
    written_more (parent_in (delegations_in c.args.records.now) c.args.parents.now) c.args.left c.args.subject _ _ f.result c.args.buf.now _ c.if-left-eq0.false c.if-subject-eq0.false
    (ap (λ (d : Delegation). d.giver) e ∙ giver_at c.args.records.now k) (ap (λ (d : Delegation). d.receiver) e ∙ receiver_at c.args.records.now k) c.requires.1 f.ensures
