-- `regfile::parse` reads the register of a text exactly where it is the text of a well-formed one. Assumes nothing.
use Rattle.std.proofs.Common.{◌≡◌, None, Some, refl, sym, ◌∙◌, ◌++◌, ◌-◌, take, drop, length}
use borrow.Author.Tests.{not-true, not-false}
use Rattle.std.proofs.lemmas.Bool.Decides.{Decides-eqb}
use Rattle.std.proofs.lemmas.Slice.Eq.{strip_prefix_is}
use Rattle.block.specs.Fits.{empty}
use Rattle.block.proofs.Fitting.{encode_fitting}
use Rattle.regfile.specs.FileText.{subject_names, delegation_names}
use Rattle.regfile.proofs.Parsing.{empty_fits, part_is, no_names, no_middle, put_into, more_follows, no_room, not_well_formed_lem, read_whole}
use Rattle.regfile.proofs.read.parse.Goals as goal
use Rattle.regfile.proofs.read.parse.Goals.{In-Some, In-Some-strip_prefix}

module _ (d : In-Some) where
  first : d.args.text.now ≡ subject_names ++ d.in-Some.lines.now
  unfolding subject_names
  first = strip_prefix_is Decides-eqb d.args.text.now subject_names (Some d.in-Some.lines) d.in-Some.ensures.cases

module _ (d : In-Some-strip_prefix) where
  second : drop d.read_rows-subjects.result.next d.in-Some.lines.now ≡ delegation_names ++ d.in-Some-strip_prefix.last.now
  unfolding delegation_names
  second =
      let s = d.in-Some.lines.now in
      let n = d.read_rows-subjects.result.next in
      sym (part_is s n) ∙ strip_prefix_is Decides-eqb (take (length s - n) (drop n s)) delegation_names (Some d.in-Some-strip_prefix.last) d.in-Some-strip_prefix.ensures.cases

pub returns-in_default : goal.returns-in_default
unfolding subject_names
returns-in_default c = no_names c.args.text.now c.args.b.now (strip_prefix_is Decides-eqb c.args.text.now subject_names None c.in_default.ensures.cases)

pub read_rows-subjects-requires : goal.read_rows-subjects-requires
read_rows-subjects-requires c = (refl, λ t. rw c.write_empty.ensures (encode_fitting empty empty_fits))

pub returns-in_default-strip_prefix : goal.returns-in_default-strip_prefix
unfolding delegation_names
returns-in_default-strip_prefix c =
    let e = c.write_empty in
    let r = c.read_rows-subjects in
    let s = c.in-Some.lines.now in
    no_middle c.args.text.now s e.new.b r.new.b (first (goal.at.returns-in_default-strip_prefix c).In-Some) e.ensures r.result r.ensures r.new.b (rw (part_is s r.result.next) at (strip_prefix_is Decides-eqb (take (length s - r.result.next) (drop r.result.next s)) delegation_names None c.in_default-strip_prefix.ensures.cases))

pub read_rows-delegations-requires : goal.read_rows-delegations-requires
read_rows-delegations-requires c =
    let e = c.write_empty in
    let r = c.read_rows-subjects in
    let s = c.in-Some.lines.now in
    (refl, put_into c.args.text.now s e.new.b r.new.b (first (goal.at.read_rows-delegations-requires c).In-Some) e.ensures r.result r.ensures)

pub returns-then-delegations-last : goal.returns-then-delegations-last
returns-then-delegations-last c =
    let e = c.write_empty in
    let r = c.read_rows-subjects in
    let q = c.read_rows-delegations in
    let s = c.in-Some.lines.now in
    more_follows c.args.text.now s e.new.b r.new.b (first (goal.at.returns-then-delegations-last c).In-Some) e.ensures r.result r.ensures c.in-Some-strip_prefix.last.now q.new.b (second (goal.at.returns-then-delegations-last c).In-Some-strip_prefix) q.result q.ensures q.new.b c.if-delegations-last.true

pub returns-then-not-delegations : goal.returns-then-not-delegations
returns-then-not-delegations c =
    let e = c.write_empty in
    let r = c.read_rows-subjects in
    let q = c.read_rows-delegations in
    let s = c.in-Some.lines.now in
    no_room c.args.text.now s e.new.b r.new.b (first (goal.at.returns-then-not-delegations c).In-Some) e.ensures r.result r.ensures c.in-Some-strip_prefix.last.now q.new.b (second (goal.at.returns-then-not-delegations c).In-Some-strip_prefix) q.result q.ensures c.if-delegations-last.false q.new.b (not-true _ c.if-not-delegations.true)

pub returns-then-not-well_formed : goal.returns-then-not-well_formed
returns-then-not-well_formed c =
    let e = c.write_empty in
    let r = c.read_rows-subjects in
    let q = c.read_rows-delegations in
    let s = c.in-Some.lines.now in
    let w = c.well_formed-2 in
    not_well_formed_lem c.args.text.now s e.new.b r.new.b (first (goal.at.returns-then-not-well_formed c).In-Some) e.ensures r.result r.ensures c.in-Some-strip_prefix.last.now q.new.b (second (goal.at.returns-then-not-well_formed c).In-Some-strip_prefix) q.result q.ensures c.if-delegations-last.false (not-false _ c.if-not-delegations.false) q.new.b (sym w.ensures ∙ c.if-not-well_formed.true)

pub returns : goal.returns
returns c =
    let e = c.write_empty in
    let r = c.read_rows-subjects in
    let q = c.read_rows-delegations in
    let s = c.in-Some.lines.now in
    let w = c.well_formed-2 in
    read_whole c.args.text.now s e.new.b r.new.b (first (goal.at.returns c).In-Some) e.ensures r.result r.ensures c.in-Some-strip_prefix.last.now q.new.b (second (goal.at.returns c).In-Some-strip_prefix) q.result q.ensures c.if-delegations-last.false (not-false _ c.if-not-delegations.false) (sym w.ensures ∙ c.if-not-well_formed.false)
