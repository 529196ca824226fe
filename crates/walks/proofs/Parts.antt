-- The parts of a function's code, for a walk that has a loop. Assumes nothing.
use mir.Syntax.{Body, skip, seq, assign, block, loop, cond, switch, exit, return, call, call_v, lend_static, unreachable}

-- the first statement of a sequence and the code after it; the code in a block or a loop; `skip` where there is none
record Parts : Type 0 where
  pub first : Body
  pub rest : Body
  pub inner : Body

abbrev whole : Parts
whole = record { first = skip; rest = skip; inner = skip }

abbrev nested : Body → Parts
nested b = record { first = skip; rest = skip; inner = b }

abbrev parts : Body → Parts
parts skip = whole
parts (seq a b) = record { first = a; rest = b; inner = skip }
parts (assign p r) = whole
parts (block b) = nested b
parts (loop b) = nested b
parts (cond c a b) = whole
parts (switch c a) = whole
parts (exit n) = whole
parts return = whole
parts (call f a p) = whole
parts unreachable = whole
parts (call_v f a p q) = whole
parts (lend_static p a q) = whole

abbrev pub after : Body → Body
after b = (parts b).rest

abbrev pub head : Body → Body
head b = (parts b).first

abbrev pub inside : Body → Body
inside b = (parts b).inner
