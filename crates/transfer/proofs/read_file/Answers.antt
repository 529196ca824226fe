-- `transfer::read_file` reads the register of a text or refuses. Assumes nothing.
use Rattle.std.proofs.Common.{◌≡◌, ◌≢◌, sym, ap, ◌∙◌, subst, not, ℕ, true, false, Err, rules}
use Rattle.rules.specs.Table.{TableRule}
use Rattle.rules.specs.Refusal.{too_heavy}
use Rattle.block.specs.Block.{decode}
use Rattle.steptable.specs.TableText.{Given, given}
use Rattle.steptable.specs.Lent.{given_by}
use Rattle.steptable.proofs.Right.{given_keeps}
use Rattle.refusals.proofs.First.{number_some}
use Rattle.regfile.specs.declared.FileFault.TheVariants.{Malformed}
use Rattle.regfile.specs.Faults.{number_in}
use Rattle.register.specs.Answer.{refused_by}
use Rattle.transfer.specs.FileOn.{ReadMade}
use Rattle.transfer.proofs.Faults.{not_seven, error_some}
use Rattle.transfer.proofs.ReadWays.{other_length, text_malformed, table_refused, text_unformed, bytes_formed, unsupported, read_done}
use Rattle.transfer.proofs.read_file.Goals as goal
use Rattle.transfer.proofs.read_file.Goals.{After-read_table, After-supports, In_ok-steps, In_ok-parsed}

-- 7 does not apply to the text
plain : (c : After-read_table) → number_in c.parse-parsed.result ≢ 7
plain c =
    let n : c.parse-parsed.result ≡ Err Malformed → ⊥ = search rules in
    not_seven c.parse-parsed.result n

-- neither does 7 or 17 to the table's
passes : (c : In_ok-steps) → (given c.args.table.now).refusal ≡ 0
passes c = ap (λ (g : Given). g.refusal) (sym c.read_table.ensures) ∙ ap (λ r. (given_by r).refusal) c.in_ok-steps.was

steps : (c : In_ok-steps) → c.in_ok-steps.steps ≡ (given c.args.table.now).steps
steps c = sym (ap (λ r. (given_by r).steps) c.in_ok-steps.was) ∙ ap (λ (g : Given). g.steps) c.read_table.ensures

found : (c : After-supports) → let R = decode c.parse-parsed.new.b in c.supports.result ≡ not (too_heavy (given c.args.table.now).steps R R.delegations)
found c =
    let R = decode c.parse-parsed.new.b in
    c.supports.ensures.told ∙ ap (λ t. not (too_heavy t R R.delegations)) (sym (ap (λ r. (given_by r).steps) c.in_ok-steps.was) ∙ ap (λ (g : Given). g.steps) c.read_table.ensures)

pub returns-then-block-ne-BLOCK_SIZE : goal.returns-then-block-ne-BLOCK_SIZE
returns-then-block-ne-BLOCK_SIZE c =
    let a = c.args in
    other_length a.text.now a.table.now a.block.now c.if-block-ne-BLOCK_SIZE.true

pub returns-then-eq : goal.returns-then-eq
returns-then-eq c =
    let a = c.args in
    let r = c.parse-parsed in
    let w : r.result ≡ Err Malformed = search rules in
    let e = ap number_in w in
    subst (λ (n : ℕ). ReadMade a.text.now a.table.now a.block.now (refused_by n) a.block.now) e (text_malformed a.text.now a.table.now a.block.now c.if-block-ne-BLOCK_SIZE.false (number_in r.result) r.new.b r.ensures e)

pub returns-in_err-steps : goal.returns-in_err-steps
returns-in_err-steps c =
    let a = c.args in
    let r = c.parse-parsed in
    let e = ap (λ (g : Given). g.refusal) (sym c.read_table.ensures) ∙ ap (λ r. (given_by r).refusal) c.in_err-steps.was in
    search (
      rules,
      subst (λ (n : ℕ). ReadMade a.text.now a.table.now a.block.now (refused_by n) a.block.now) e
          (table_refused a.text.now a.table.now a.block.now c.if-block-ne-BLOCK_SIZE.false (number_in r.result) r.new.b r.ensures (plain (goal.at.returns-in_err-steps c).After-read_table) (λ z. number_some _ (sym e ∙ z))),
    )

pub returns-in_err-parsed : goal.returns-in_err-parsed
returns-in_err-parsed c =
    let a = c.args in
    let r = c.parse-parsed in
    search (
      rules,
      subst (λ (n : ℕ). ReadMade a.text.now a.table.now a.block.now (refused_by n) a.block.now) (ap number_in c.in_err-parsed.was)
          (text_unformed a.text.now a.table.now a.block.now c.if-block-ne-BLOCK_SIZE.false (number_in r.result) r.new.b r.ensures (plain (goal.at.returns-in_err-parsed c).After-read_table) (passes (goal.at.returns-in_err-parsed c).In_ok-steps) (error_some c.in_err-parsed.was)),
    )

pub supports-requires : goal.supports-requires
supports-requires c =
    let a = c.args in
    let r = c.parse-parsed in
    let s = (goal.at.supports-requires c).In_ok-steps in (
      bytes_formed a.text.now a.table.now a.block.now c.if-block-ne-BLOCK_SIZE.false (number_in r.result) r.new.b r.ensures (plain (goal.at.supports-requires c).After-read_table) (passes s) (ap number_in c.in_ok-parsed.was),
      subst TableRule (sym (steps s)) (given_keeps a.table.now),
    )

pub returns-then-not-supports : goal.returns-then-not-supports
returns-then-not-supports c =
    let a = c.args in
    let r = c.parse-parsed in
    let t : c.supports.result ≡ false = search rules in
    unsupported a.text.now a.table.now a.block.now c.if-block-ne-BLOCK_SIZE.false (number_in r.result) r.new.b r.ensures (plain (goal.at.returns-then-not-supports c).After-read_table) (passes (goal.at.returns-then-not-supports c).In_ok-steps) (ap number_in c.in_ok-parsed.was)
    c.supports.result (found (goal.at.returns-then-not-supports c).After-supports) t

pub returns : goal.returns
returns c =
    let a = c.args in
    let r = c.parse-parsed in
    let t : c.supports.result ≡ true = search rules in
    rw c.new.ensures
    (read_done a.text.now a.table.now a.block.now c.if-block-ne-BLOCK_SIZE.false (number_in r.result) r.new.b r.ensures (plain (goal.at.returns c).After-read_table) (passes (goal.at.returns c).In_ok-steps) (ap number_in c.in_ok-parsed.was)
    c.supports.result (found (goal.at.returns c).After-supports) t c.copy.new.to (c.copy.ensures ∙ c.supports.ensures.same t))
