-- A search midway: what holds between two turns, and that each turn keeps it, until none waits. Assumes nothing.
use mathlib.Core.Path.{◌≡◌, sym, ap, subst, ◌∙◌}
use mathlib.Core.Logic.{◌≢◌, ◌⊎◌, inl, inr}
use mathlib.Core.Bool.{not}
use mathlib.Core.List.{List, [], ◌∷◌}
use Rattle.std.specs.Prelude.{Some, None}
use Prim.Native.Nat.{ℕ, ◌≤◌, ◌<◌, max}
use native.Mathlib.Nat.{le_refl}
use native.Mathlib.Omega.{arith}
use lib.Bits.{bit_or}
use lib.Dec.{T}
use lib.ListN.{get_or}
use lib.IntN.{ℤ, pos}
use Rattle.rules.specs.Limit.{none, ◌≼◌}
use Rattle.rules.proofs.Lists.{eq_or}
use Rattle.rules.proofs.Signed.{code_pos}
use Rattle.block.specs.Layout.{most_subjects}
use Rattle.rules.specs.Bits.{bit, BitPut}
use Rattle.queue.specs.Queue.{Lowest, top_of, Empty, owner_here}
use Rattle.queue.specs.declared.Sets.{Sets}
use Rattle.search.specs.declared.Turn.{Turn}
use Rattle.rules.proofs.Bits.{bit_zero, bit_small, bit_or_lem}
use Rattle.queue.proofs.Buckets.{covered_take}
use Rattle.runs.specs.Lent.{record_count, Lent, SubjectLists}
use Rattle.runs.specs.Steps.{Gave, Waiting, Ready}
use Rattle.search.specs.Search.{Started}
use Rattle.search.specs.Turns.{LevelTaken, LevelSought, GroupTaken, GroupSought, AtHand}
use Rattle.search.specs.Found.{Searched}
use Rattle.search.proofs.State.{limit_of, is_settled, State, AllHere}
use Rattle.search.proofs.Whole.{measure, level_less, group_less, state_start, waiting_start, all_start, level_small, state_level, all_level, state_group, state_settle, all_settle, settle_less, none_left, state_end, empty_end}

-- the limits, parents and queue, those who wait and those settled, as they are between two turns; some level is at hand
pub record Midway (t : List ℤ) (s : List ℕ) (marks : ℕ) (l : List ℤ) (p q : List ℕ) (sets : Sets) (n : ℕ) : Type 0 where
  pub at : ℕ
  pub small : at ≤ 255
  pub state : State t s marks (is_settled n) at l p (sets.here ∷ sets.near ∷ q) []
  pub waiting : Waiting l q sets.far
  -- where anyone waits here, all do who have the limit at hand
  pub all : (x : ℕ) → bit sets.here x ≡ 1 → AllHere (is_settled n) at l (sets.here ∷ sets.near ∷ q)

module _ (t : List ℤ) (s : List ℕ) (lent : Lent t s (record_count s)) (marks : ℕ) where
  pub midway_start : (l : List ℤ) (p q : List ℕ) (sets : Sets) → sets ≡ owner_here → SubjectLists l p → Started l p → Empty q → Midway t s marks l p q sets 0
  midway_start l p q sets e room st empty = subst (λ (x : Sets). Midway t s marks l p q x 0) (sym e) record { at = 255; small = omega arith; state = state_start t s lent marks l p q room st empty; waiting = waiting_start t s lent marks l p q room st empty; all = λ _ _. all_start t s lent marks l p q room st empty }

  module _ (l : List ℤ) (p q : List ℕ) (sets : Sets) (n : ℕ) (now : Midway t s marks l p q sets n) where
    -- ── none waits here ──
    module _ (none_here : sets.here ≡ 0) where
      no_bits : {m : ℕ} → m ≡ 0 → (y : ℕ) → bit m y ≡ 0
      no_bits e y = ap (λ (x : ℕ). bit x y) e ∙ bit_zero y

      abbrev pub Next : Sets → List ℕ → Type 0
      Next left q' = Midway t s marks l p q' left n × (measure n left.near left.far < measure n sets.near sets.far)

      midway_level : (u : ℕ) (left : Sets) → LevelTaken l sets u left → Next left q
      midway_level u left tk = (
        record {
          at = _;
          small = level_small t s lent marks l p q sets.here sets.near sets.far n now.at now.small now.state now.waiting.queue.covered (no_bits none_here) u left.here left.near tk.heaviest tk.near;
          state = state_level t s lent marks l p q sets.here sets.near sets.far n now.at now.small now.state now.waiting.queue.covered (no_bits none_here) u left.here left.near tk.heaviest tk.near;
          waiting = subst (Waiting l q) (sym tk.far) now.waiting;
          all = λ _ _. all_level t s lent marks l p q sets.here sets.near sets.far n now.at now.small now.state now.waiting.queue.covered (no_bits none_here) u left.here left.near tk.heaviest tk.near;
        },
        subst (λ (f : ℕ). measure n left.near f < measure n sets.near sets.far) (sym tk.far)
            (level_less n sets.near left.near sets.far u tk.heaviest.small in_near (tk.near u ∙ omega (arith, in_near, tk.heaviest.member)) (λ y e. tk.near y ∙ omega (arith, e))),
      )
        where
          in_near : bit sets.near u ≡ 1
          in_near = (tk.heaviest.each u tk.heaviest.member).0

      midway_group : sets.near ≡ 0 → (left : Sets) (q' : List ℕ) → GroupTaken n sets left q q' → Next left q'
      midway_group none left q' tk = (
        record {
          at = top_of tk.group;
          small = omega arith;
          state = state_group t s lent marks l p q sets.here sets.near sets.far n now.at now.small now.state now.waiting.queue.covered (no_bits none_here) (no_bits none) tk.group tk.first left.here left.near tk.here q' tk.near;
          waiting = record {
            queue = record { size = tk.near.size ∙ now.waiting.queue.size; covered = covered_take q q' tk.group n left.near sets.far left.far now.waiting.queue.covered tk.near tk.far };
            limits = now.waiting.limits;
          };
          all = λ x w. absurd (omega (arith, sym (no_bits tk.here x) ∙ w));
        },
        group_less n tk.group sets.near left.near sets.far left.far tk.first tk.far,
      )

    -- ── one who waits here is settled ──
    module _ (u : ℕ) (small : u < most_subjects) (member : bit sets.here u ≡ 1) where
      at_hand : get_or l u none ≡ pos now.at
      at_hand = code_pos (get_or l u none) now.at (now.state.here u member).1

      pub midway_ready : (left : Sets) → left.far ≡ sets.far → Ready (get_or l u none) l p q left.far
      midway_ready left e = record {
        live = subst (λ (z : ℤ). pos 0 ≼ z) (sym at_hand) (omega arith);
        most = subst (λ (z : ℤ). z ≼ pos 255) (sym at_hand) (omega (arith, now.small));
        lists = record { limits = now.state.limits; parents = now.state.parents };
        waiting = subst (Waiting l q) (sym e) now.waiting;
      }

      module _ (left : Sets) (n₁ : ℕ) (out : BitPut sets.here u 0 left.here) (off : BitPut sets.near u 0 left.near) (put : BitPut n u 1 n₁) where
        pub midway_settle : (l' : List ℤ) (p' q' : List ℕ) (after : Sets) → Gave t s marks u l p (left.here ∷ left.near ∷ q) l' p' (after.here ∷ after.near ∷ q') → Waiting l' q' after.far → Midway t s marks l' p' q' after n₁
        midway_settle l' p' q' after g w = record {
          at = now.at;
          small = now.small;
          state = state_settle t s lent marks l p q sets.here sets.near sets.far n now.at now.small now.state now.waiting.queue.covered u member left.here left.near n₁ out off put l' p' (after.here ∷ after.near ∷ q') g;
          waiting = w;
          all = λ _ _. all_settle t s lent marks l p q sets.here sets.near sets.far n now.at now.small now.state now.waiting.queue.covered u member left.here left.near n₁ out off put l' p' (after.here ∷ after.near ∷ q') g
              (now.all u member);
        }

        pub midway_less : (after : Sets) → measure n₁ after.near after.far < measure n sets.near sets.far
        midway_less after = settle_less t s lent marks l p q sets.here sets.near sets.far n now.at now.small now.state now.waiting.queue.covered u member left.here left.near n₁ out off put small after.near after.far

    -- ── none waits ──
    module _ (empty : bit_or (bit_or sets.here sets.near) sets.far ≡ 0) where
      all : (y : ℕ) → max (max (bit sets.here y) (bit sets.near y)) (bit sets.far y) ≡ 0
      all y = ap (λ (x : ℕ). max x (bit sets.far y)) (sym (bit_or_lem sets.here sets.near y)) ∙ sym (bit_or_lem (bit_or sets.here sets.near) sets.far y) ∙ ap (λ (x : ℕ). bit x y) empty ∙ bit_zero y

      -- who is open has no limit
      pub midway_none : (y : ℕ) → T (not (is_settled n y)) → limit_of l y ≡ none
      midway_none = none_left t s lent marks l p q sets.here sets.near sets.far n now.at now.state now.waiting.queue.covered (λ y. omega (arith, all y)) (λ y. omega (arith, all y)) (λ y. omega (arith, all y))

      pub midway_found : Searched t s marks l p
      midway_found = state_end t s lent marks l p q sets.here sets.near sets.far n now.at now.state now.waiting.queue.covered (λ y. omega (arith, all y)) (λ y. omega (arith, all y)) (λ y. omega (arith, all y))

      pub midway_empty : Empty q
      midway_empty = empty_end t s lent marks l p q sets.here sets.near sets.far n now.at now.state now.waiting.queue.covered (λ y. omega (arith, all y)) (λ y. omega (arith, all y)) (λ y. omega (arith, all y)) now.waiting.queue.size

-- the level at hand: the same, or the next
module _ (t : List ℤ) (s : List ℕ) (lent : Lent t s (record_count s)) (marks : ℕ) (l : List ℤ) (p q : List ℕ) (sets : Sets) (n : ℕ) (now : Midway t s marks l p q sets n) (turn : Turn) (q' : List ℕ) where
  advanced : (none_here : sets.here ≡ 0) (group : Sets) → GroupSought n sets group q q' → LevelSought l group turn → Next t s lent marks l p q sets n now none_here turn.sets q'
  advanced h group (inl (some, e, f)) (inl (near, _, _)) = absurd (some (ap (λ (x : Sets). x.near) (sym e) ∙ near))
  advanced h group (inl (some, e, f)) (inr (u, _, tk)) =
      subst (Next t s lent marks l p q sets n now h turn.sets) (sym f) (midway_level t s lent marks l p q sets n now h u turn.sets (subst (λ (x : Sets). LevelTaken l x u turn.sets) e tk))
  advanced h group (inr (near, tk)) (inl (_, _, e)) = subst (λ (x : Sets). Next t s lent marks l p q sets n now h x q') (sym e) (midway_group t s lent marks l p q sets n now h near group q' tk)
  advanced h group (inr (near, tk)) (inr (u, _, lt)) =
      let g = midway_group t s lent marks l p q sets n now h near group q' tk in
      let i = midway_level t s lent marks l p q' group n g.0 tk.here u turn.sets lt in
      (i.0, omega (arith, g.1, i.1))

  pub midway_on : AtHand l n sets turn q q' → Midway t s marks l p q' turn.sets n × (measure n turn.sets.near turn.sets.far ≤ measure n sets.near sets.far)
  midway_on (inl (_, _, _, e, f)) =
      subst (λ (r : List ℕ). Midway t s marks l p r turn.sets n × (measure n turn.sets.near turn.sets.far ≤ measure n sets.near sets.far)) (sym f)
      (subst (λ (x : Sets). Midway t s marks l p q x n × (measure n x.near x.far ≤ measure n sets.near sets.far)) (sym e) (now, le_refl (measure n sets.near sets.far)))
  midway_on (inr a) = let g = advanced a.none a.between a.group a.level in (g.0, omega (arith, g.1))

  -- the next, where none waits at the level found
  pub midway_down : turn.subject ≡ None → AtHand l n sets turn q q' → measure n turn.sets.near turn.sets.far < measure n sets.near sets.far
  midway_down nobody (inl (_, some, _, _, _)) = cc
  midway_down nobody (inr a) = (advanced a.none a.between a.group a.level).1

  -- else it is the turn of the lowest of those who wait there
  pub midway_turn : (u : ℕ) → turn.subject ≡ Some u → AtHand l n sets turn q q' → Lowest turn.sets.here u
  midway_turn u some (inl (v, w, low, e, f)) =
      let i : v ≡ u = cc in
      subst (λ (x : Sets). Lowest x.here u) (sym e) (subst (Lowest sets.here) i low)
  midway_turn u some (inr a) = go a.level
    where
      go : LevelSought l a.between turn → Lowest turn.sets.here u
      go (inl (_, nobody, _)) = cc
      go (inr (v, w, tk)) =
          let i : v ≡ u = cc in
          subst (Lowest turn.sets.here) i record { small = tk.heaviest.small; member = tk.heaviest.member; least = λ x b. no_lower x b (eq_or (bit turn.sets.here x) 1) }
        where
          no_lower : (x : ℕ) → x < v → (bit turn.sets.here x ≡ 1) ⊎ (bit turn.sets.here x ≢ 1) → bit turn.sets.here x ≡ 0
          no_lower x b (inl w) = absurd (omega (arith, b, tk.heaviest.least x w))
          no_lower x b (inr d) = omega (arith, d, bit_small turn.sets.here x)
