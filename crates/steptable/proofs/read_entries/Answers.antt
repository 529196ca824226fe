-- `steptable::read_entries` reads the entries of a table exactly where the text is its text. Assumes nothing.
use Rattle.std.proofs.Common.{refl, arith, length, None, Some}
use lib.Dec.{leb}
use Rattle.std.proofs.lemmas.Bool.Decides.{Decides-eqb}
use Rattle.std.proofs.lemmas.Slice.Eq.{strip_prefix_is}
use Rattle.steptable.specs.TableText.{table_names}
use Rattle.steptable.proofs.Entries.{no_names, names, lines_end, no_line_lem, value_held, line_more}
use Rattle.steptable.proofs.read_entries.Goals as goal

pub returns-in_default : goal.returns-in_default
unfolding table_names
returns-in_default c = no_names c.args.text.now c.args.entries.now (strip_prefix_is Decides-eqb c.args.text.now table_names None c.in_default.ensures.cases)

pub loop-w-init : goal.loop-w-init
loop-w-init c = names c.in-Some.lines.now c.args.entries.now c.requires

pub returns-in_default-read_entry : goal.returns-in_default-read_entry
unfolding table_names
returns-in_default-read_entry c =
    let l = c.loop-w in
    let e = strip_prefix_is Decides-eqb c.args.text.now table_names (Some c.in-Some.lines) c.in-Some.ensures.cases in
    rw e (no_line_lem c.in-Some.lines.now l.at l.w l.entries l.invariant (omega arith) _ c.in_default-read_entry.ensures)

pub loop-w-preserved : goal.loop-w-preserved
loop-w-preserved c =
    let l = c.loop-w in
    let v = c.in-Some-read_entry.next in
    let m = c.in-Some-read_entry.ensures in
    rw (value_held c.in-Some.lines.now l.at l.w l.entries l.invariant (omega arith) v m)
    (line_more c.in-Some.lines.now l.at l.w l.entries l.invariant (omega arith) v m)

pub returns : goal.returns
unfolding table_names
returns c =
    let l = c.loop-w in
    let e = strip_prefix_is Decides-eqb c.args.text.now table_names (Some c.in-Some.lines) c.in-Some.ensures.cases in
    rw e (lines_end c.in-Some.lines.now l.at l.w l.entries l.invariant (omega arith) (leb (length c.in-Some.lines.now) l.at) refl)
