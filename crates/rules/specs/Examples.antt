-- P1 to P8 of document 01 ('Register examples'), as lists of calls with what document 01 says comes out; those of document 02's C-12, C-15, C-16 and C-18; a list in which the step table changes from call to call; and an order of C-14. Assumes nothing.
use Rattle.std.specs.Prelude.{cond, List, [], ◌∷◌, ◌++◌, map, ℕ, zero, suc, eqb, length, take, drop, replicate, ℤ, pos}
use Rattle.rules.specs.List.{tabulate}
use Rattle.rules.specs.Limit.{none}
use Rattle.rules.specs.Table.{steps}
use Rattle.rules.specs.Register.{Delegation, Register, granted}
use Rattle.rules.specs.Call.{Call, enrol, grant, revoke, downgrade, ask_reach, ask_use, set_marks, retire, fresh}
use Rattle.rules.specs.CallStep.{Outcome, call_step}
use Rattle.rules.specs.Trace.{trace_from}
use Rattle.rules.specs.History.{left_by, trace}

-- an outcome as the program prints it: refusal and three answers
pub record Line : Type 0 where
  pub refusal : ℕ
  pub first : ℤ
  pub second : ℤ
  pub third : ℤ

abbrev pub line : ℕ → ℤ → ℤ → ℤ → Line
line n a b c = record { refusal = n; first = a; second = b; third = c }

abbrev pub line_of : Outcome → Line
line_of o = line o.refusal o.first o.second o.third

-- the calls that make the register, all accepted; the calls that the document speaks of; what they answer; the delegations that stand afterwards
pub record Example : Type 0 where
  pub given : List Call
  pub calls : List Call
  pub printed : List Line
  pub standing : List Delegation

-- the delegations that the last call left
abbrev pub last_left : List Outcome → List Delegation
last_left [] = []
last_left (o ∷ os) = left_after o os
  where
    left_after : Outcome → List Outcome → List Delegation
    left_after o [] = o.left.delegations
    left_after o (p ∷ ps) = left_after p ps

pub record Shown : Type 0 where
  pub refusals : List ℕ
  pub printed : List Line
  pub standing : List Delegation

-- of the outcomes of a list: the refusals of the first n, the lines of the others, and what stands at the end
abbrev pub shown : ℕ → List Outcome → Shown
shown n os = record { refusals = map (λ o. o.refusal) (take n os); printed = map line_of (drop n os); standing = last_left os }

-- what the definitions make of an example, and what the document says of it
abbrev pub computed : Example → Shown
computed e = shown (length e.given) (trace steps (e.given ++ e.calls))

abbrev pub said : Example → Shown
said e = record { refusals = replicate (length e.given) 0; printed = e.printed; standing = e.standing }

-- ── the examples ──

abbrev pub plain : ℕ → ℕ → ℕ → Call
plain g r w = grant (granted g r w 0 0 0)

abbrev pub entry : ℕ → ℕ → ℕ → Delegation
entry g r w = granted g r w 0 0 0

abbrev pub needing : ℕ → ℕ → ℕ → ℕ → Delegation
needing g r w n = granted g r w n 0 0

abbrev pub one : ℤ → Line
one a = line 0 a (pos 0) (pos 0)

abbrev pub P1 : Example
P1 = record {
  given = [];
  calls = enrol 0 ∷ enrol 0 ∷ plain 0 1 255 ∷ plain 1 2 255 ∷ plain 2 1 255 ∷ revoke 0 0 1 ∷ ask_use 2 ∷ [];
  printed = one (pos 1) ∷ one (pos 2) ∷ one (pos 1) ∷ one (pos 2) ∷ one (pos 3) ∷ line 0 (pos 2) (pos 0) (pos 2) ∷ one (pos 0) ∷ [];
  standing = [];
}

abbrev pub P2 : Example
P2 = record {
  given = enrol 0 ∷ enrol 0 ∷ enrol 0 ∷ enrol 0 ∷ plain 0 1 5 ∷ plain 0 2 3 ∷ plain 1 3 4 ∷ plain 2 3 2 ∷ plain 3 4 3 ∷ [];
  calls = revoke 0 0 1 ∷ [];
  printed = line 0 (pos 1) (pos 1) (pos 2) ∷ [];
  standing = entry 0 2 3 ∷ entry 2 3 2 ∷ entry 3 4 1 ∷ [];
}

-- P3 where subject 4 has the marks m
abbrev pub P3_given : ℕ → List Call
P3_given m = enrol 0 ∷ enrol 0 ∷ enrol 1 ∷ enrol m ∷ grant (granted 0 1 6 1 0 0) ∷ plain 0 2 3 ∷ plain 1 3 5 ∷ plain 2 3 2 ∷ []

abbrev pub P3_standing : List Delegation
P3_standing = needing 0 1 6 1 ∷ entry 0 2 3 ∷ entry 1 3 5 ∷ entry 2 3 2 ∷ []

abbrev pub P3_with : Example
P3_with = record { given = P3_given 1; calls = ask_reach 3 4 ∷ []; printed = one (pos 4) ∷ []; standing = P3_standing }

abbrev pub P3_without : Example
P3_without = record { given = P3_given 0; calls = ask_reach 3 4 ∷ []; printed = one (pos 1) ∷ []; standing = P3_standing }

abbrev pub P4 : Example
P4 = record { given = P3_given 0 ++ (enrol 1 ∷ plain 3 5 4 ∷ []); calls = ask_reach 5 4 ∷ []; printed = one (pos 0) ∷ []; standing = P3_standing ++ (entry 3 5 4 ∷ []) }

abbrev pub P5 : Example
P5 = record {
  given = enrol 0 ∷ enrol 0 ∷ enrol 1 ∷ enrol 1 ∷ enrol 0 ∷ grant (granted 0 1 6 1 0 0) ∷ plain 1 3 5 ∷ plain 0 2 7 ∷ plain 2 3 6 ∷ plain 3 5 5 ∷ plain 5 4 4 ∷ [];
  calls = downgrade 0 0 2 2 ∷ [];
  printed = line 0 (pos 1) (pos 2) (pos 3) ∷ [];
  standing = needing 0 1 6 1 ∷ entry 0 2 2 ∷ entry 1 3 5 ∷ entry 2 3 1 ∷ entry 3 5 0 ∷ [];
}

abbrev pub P6 : Example
P6 = record { given = enrol 0 ∷ []; calls = ask_reach 0 1 ∷ []; printed = one (pos 255) ∷ []; standing = [] }

abbrev pub P7 : Example
P7 = record { given = enrol 0 ∷ enrol 0 ∷ plain 0 1 0 ∷ []; calls = ask_reach 1 2 ∷ []; printed = one none ∷ []; standing = entry 0 1 0 ∷ [] }

abbrev pub P8 : Example
P8 = record {
  given = enrol 0 ∷ enrol 0 ∷ plain 0 1 254 ∷ [];
  calls = ask_reach 1 2 ∷ plain 1 2 254 ∷ plain 1 2 253 ∷ [];
  printed = one (pos 253) ∷ line 16 (pos 0) (pos 0) (pos 0) ∷ one (pos 2) ∷ [];
  standing = entry 0 1 254 ∷ entry 1 2 253 ∷ [];
}

-- document 02, C-12: a dealer earns more depth, and nobody is revoked; each grant above the reach is refused with 16, each that is no raise with 11; a cut takes a raise back
abbrev pub raising : Example
raising = record {
  given = enrol 0 ∷ enrol 0 ∷ enrol 0 ∷ plain 0 1 5 ∷ plain 1 2 4 ∷ plain 2 3 2 ∷ [];
  calls = plain 2 3 3 ∷ plain 1 2 5 ∷ plain 1 2 4 ∷ plain 1 2 3 ∷ grant (needing 2 3 4 1) ∷ plain 0 1 9 ∷ plain 1 2 8 ∷ downgrade 0 0 1 4 ∷ [];
  printed = one (pos 3) ∷ line 16 (pos 0) (pos 0) (pos 0) ∷ line 11 (pos 0) (pos 0) (pos 0) ∷ line 11 (pos 0) (pos 0) (pos 0) ∷ line 11 (pos 0) (pos 0) (pos 0) ∷ one (pos 3) ∷ one (pos 3) ∷ line 0 (pos 0) (pos 2) (pos 2) ∷ [];
  standing = entry 0 1 4 ∷ entry 1 2 3 ∷ entry 2 3 2 ∷ [];
}

-- document 02, C-15: subjects 2 and 3 have the mark that 0-1 needs
abbrev pub lapse_given : List Call
lapse_given = enrol 0 ∷ enrol 1 ∷ enrol 1 ∷ grant (needing 0 1 6 1) ∷ plain 1 2 5 ∷ plain 2 3 4 ∷ []

-- 2 loses it: 1-2 is dropped, then 2-3 lowered to what 0-2 carries; 2 has it again, and nothing comes back. The marks of 1, who only passes on, lower nothing
abbrev pub lapse : Example
lapse = record {
  given = lapse_given ++ (plain 0 2 2 ∷ []);
  calls = set_marks 0 1 65535 ∷ set_marks 0 2 0 ∷ set_marks 0 2 1 ∷ set_marks 2 2 1 ∷ set_marks 1 0 1 ∷ [];
  printed = line 0 (pos 0) (pos 0) (pos 1) ∷ line 0 (pos 1) (pos 1) (pos 3) ∷ line 0 (pos 0) (pos 0) (pos 1) ∷ line 14 (pos 0) (pos 0) (pos 0) ∷ line 6 (pos 0) (pos 0) (pos 0) ∷ [];
  standing = needing 0 1 6 1 ∷ entry 0 2 2 ∷ entry 2 3 1 ∷ [];
}

-- without 0-2 both fall
abbrev pub lapse_alone : Example
lapse_alone = record { given = lapse_given; calls = set_marks 0 2 0 ∷ []; printed = line 0 (pos 2) (pos 0) (pos 3) ∷ []; standing = needing 0 1 6 1 ∷ [] }

-- a refused call's line
abbrev turned : ℕ → Line
turned n = line n (pos 0) (pos 0) (pos 0)

-- document 02, C-16: two roads to 2, one by 1, who has marks
abbrev pub leaving_given : List Call
leaving_given = enrol 7 ∷ enrol 0 ∷ enrol 0 ∷ enrol 0 ∷ plain 0 1 5 ∷ plain 0 3 2 ∷ plain 1 2 4 ∷ plain 3 2 1 ∷ plain 2 4 3 ∷ []

-- 1 is retired: 2-4 falls to what 3 carries; no call may name 1 any more, and a number that is not enrolled comes first
abbrev pub leaving : Example
leaving = record {
  given = leaving_given;
  calls = retire 0 1 ∷ ask_use 1 ∷ plain 0 1 5 ∷ retire 0 1 ∷ ask_reach 1 9 ∷ set_marks 1 2 0 ∷ retire 3 0 ∷ retire 3 2 ∷ enrol 0 ∷ [];
  printed = line 0 (pos 0) (pos 1) (pos 2) ∷ turned 19 ∷ turned 19 ∷ turned 19 ∷ turned 9 ∷ turned 19 ∷ turned 6 ∷ turned 14 ∷ one (pos 5) ∷ [];
  standing = entry 0 3 2 ∷ entry 2 4 0 ∷ entry 3 2 1 ∷ [];
}

-- the last of ten subjects, who has nothing
abbrev pub leaving_idle : Example
leaving_idle = record {
  given = replicate 9 (enrol 0);
  calls = retire 0 9 ∷ ask_use 9 ∷ [];
  printed = line 0 (pos 0) (pos 0) (pos 1) ∷ line 19 (pos 0) (pos 0) (pos 0) ∷ [];
  standing = [];
}

-- document 02, C-18: a pass-only delegation
abbrev pub pass_only : ℕ → ℕ → ℕ → Delegation
pass_only g r w = granted g r w 0 0 1

-- 1 passes on and does not use; the other kind gets 11, the same kind raises. Brought to 0 it stays, though nothing can stand on it, and is raised again
abbrev pub passing : Example
passing = record {
  given = enrol 0 ∷ enrol 0 ∷ grant (pass_only 0 1 3) ∷ plain 1 2 2 ∷ [];
  calls = ask_use 1 ∷ ask_use 2 ∷ ask_reach 1 2 ∷ plain 0 1 9 ∷ grant (pass_only 0 1 9) ∷ downgrade 0 0 1 0 ∷ ask_use 1 ∷ plain 0 1 0 ∷ grant (pass_only 0 1 4) ∷ [];
  printed = one (pos 0) ∷ one (pos 1) ∷ one (pos 2) ∷ turned 11 ∷ one (pos 2) ∷ line 0 (pos 1) (pos 0) (pos 2) ∷ one (pos 0) ∷ turned 11 ∷ one (pos 1) ∷ [];
  standing = pass_only 0 1 4 ∷ [];
}

-- a round brings 1-2 to 0, and it stays; an ordinary delegation beside it is enough for use
abbrev pub passing_lowered : Example
passing_lowered = record {
  given = enrol 0 ∷ enrol 0 ∷ plain 0 1 5 ∷ grant (pass_only 1 2 3) ∷ [];
  calls = downgrade 0 0 1 1 ∷ ask_use 2 ∷ plain 0 2 0 ∷ ask_use 2 ∷ [];
  printed = line 0 (pos 0) (pos 1) (pos 2) ∷ one (pos 0) ∷ one (pos 3) ∷ one (pos 1) ∷ [];
  standing = entry 0 1 1 ∷ entry 0 2 0 ∷ pass_only 1 2 0 ∷ [];
}

abbrev pub examples : List Example
examples = P1 ∷ P2 ∷ P3_with ∷ P3_without ∷ P4 ∷ P5 ∷ P6 ∷ P7 ∷ P8 ∷ raising ∷ lapse ∷ lapse_alone ∷ leaving ∷ leaving_idle ∷ passing ∷ passing_lowered ∷ []

-- ── several refusals at once: the first in the order of the call's lists is returned ──

-- the calls on P2's register with the refusal that document 01's order gives
abbrev pub orders : List (Call × ℕ)
orders =
    (plain 100 100 256, 2)
    ∷ (plain 4 4 256, 3)
    ∷ (grant (granted 0 0 5 0 65536 0), 4)
    ∷ (grant (granted 0 0 5 3 1 0), 4)
    ∷ (plain 0 0 5, 5)
    ∷ (plain 7 0 5, 6)
    ∷ (grant (granted 4 4 256 0 0 2), 3)
    ∷ (grant (granted 0 0 5 3 1 2), 4)
    ∷ (grant (granted 0 0 5 0 0 2), 5)
    ∷ (grant (granted 7 0 5 0 0 2), 6)
    ∷ (grant (granted 0 7 5 0 0 2), 21)
    ∷ (grant (granted 0 7 0 0 0 1), 21)
    ∷ (grant (granted 0 7 5 0 0 1), 9)
    ∷ (plain 0 7 5, 9)
    ∷ (plain 0 1 9, 0)
    ∷ (plain 0 1 5, 11)
    ∷ (plain 0 1 4, 11)
    ∷ (grant (granted 0 1 9 1 0 0), 11)
    ∷ (grant (granted 0 1 9 0 1 0), 11)
    ∷ (grant (granted 0 1 9 0 0 1), 11)
    ∷ (grant (granted 0 1 0 0 0 1), 21)
    ∷ (grant (granted 0 1 9 0 0 256), 21)
    ∷ (plain 1 3 5, 16)
    ∷ (plain 1 3 4, 11)
    ∷ (grant (granted 1 3 5 1 0 0), 11)
    ∷ (plain 4 1 2, 0)
    ∷ (plain 4 1 3, 16)
    ∷ (grant (granted 4 1 2 0 0 1), 0)
    ∷ (grant (granted 4 1 3 0 0 1), 16)
    ∷ (grant (granted 4 1 0 0 0 1), 21)
    ∷ (plain 4 1 0, 0)
    ∷ (revoke 64 3 3, 2)
    ∷ (revoke 7 2 0, 6)
    ∷ (revoke 7 0 1, 9)
    ∷ (revoke 2 0 4, 13)
    ∷ (revoke 1 0 1, 14)
    ∷ (downgrade 0 0 1 256, 3)
    ∷ (downgrade 1 0 1 5, 14)
    ∷ (downgrade 0 0 1 5, 15)
    ∷ (downgrade 0 0 1 0, 0)
    ∷ (ask_reach 0 0, 5)
    ∷ (ask_reach 5 5, 5)
    ∷ (ask_reach 5 0, 6)
    ∷ (ask_use 64, 2)
    ∷ (ask_use 5, 9)
    ∷ (enrol 65536, 4)
    ∷ (set_marks 64 0 65536, 2)
    ∷ (set_marks 1 0 65536, 4)
    ∷ (set_marks 7 0 1, 6)
    ∷ (set_marks 5 1 1, 9)
    ∷ (set_marks 1 5 1, 9)
    ∷ (set_marks 1 1 1, 14)
    ∷ (set_marks 0 1 65535, 0)
    ∷ []

-- ── another step table: each call goes by the one lent to it ──

-- falls by two: entries 0 and 1 are -1, entry n is n - 2 for 2 to 254, entry 255 is 255
unfoldable pub two : ℕ → ℤ
two zero = none
two (suc zero) = none
two (suc (suc n)) = cond (eqb n 253) (pos 255) (pos n)

unfoldable pub twos : List ℤ
twos = tabulate two 0 256

-- the outcomes of a list of calls, each with its table
abbrev pub lent_trace : List (List ℤ × Call) → List Outcome
lent_trace cs = trace_from (λ R c. call_step c.0 R c.1) left_by fresh cs

-- granted by our table
abbrev pub twos_given : List Call
twos_given = enrol 0 ∷ enrol 0 ∷ enrol 0 ∷ enrol 0 ∷ plain 0 1 9 ∷ plain 1 2 8 ∷ plain 2 3 6 ∷ plain 0 4 1 ∷ []

-- 0-4, which holds nothing up, is revoked by the table t; then the reach of 2 and 3 by each table
abbrev pub twos_computed : List ℤ → Shown
twos_computed t = shown 8 (lent_trace (map (λ c. (steps, c)) twos_given ++ ((t, revoke 0 0 4) ∷ (twos, ask_reach 2 3) ∷ (steps, ask_reach 2 3) ∷ [])))

abbrev pub twos_shown : (lowered rounds byTwos byOurs : ℕ) → List Delegation → Shown
twos_shown l n a b ds = record { refusals = replicate 8 0; printed = line 0 (pos 0) (pos l) (pos n) ∷ one (pos a) ∷ one (pos b) ∷ []; standing = ds }

-- what comes out, t being ours and twos: the cut by twos lowers what twos does not support
abbrev pub twos_said : List Shown
twos_said = twos_shown 0 1 5 7 (entry 0 1 9 ∷ entry 1 2 8 ∷ entry 2 3 6 ∷ []) ∷ twos_shown 2 2 5 6 (entry 0 1 9 ∷ entry 1 2 7 ∷ entry 2 3 5 ∷ []) ∷ []

-- ── document 02, C-14: a register, and the order for subject 5 ──
abbrev pub fanned : Register
fanned = record {
  subjects = 6;
  marks = 0 ∷ 0 ∷ 0 ∷ 0 ∷ 0 ∷ 0 ∷ [];
  retired = 0;
  delegations = entry 0 2 9 ∷ entry 0 4 255 ∷ entry 1 3 20 ∷ entry 2 3 7 ∷ entry 3 5 6 ∷ entry 4 1 255 ∷ [];
}

-- 1 comes by 4, so it follows 4; 3 comes by 1 at 19, though it was reached by 2 at 6
abbrev pub fanned_order : List ℕ
fanned_order = 0 ∷ 4 ∷ 1 ∷ 3 ∷ 2 ∷ 5 ∷ []

abbrev pub fanned_bytes : List ℕ
fanned_bytes = 0 ∷ 255 ∷ 4 ∷ 255 ∷ 1 ∷ 255 ∷ 3 ∷ 19 ∷ 2 ∷ 8 ∷ 5 ∷ 5 ∷ []
