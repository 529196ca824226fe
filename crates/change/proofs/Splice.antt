-- A record put into a run of bytes, taken out of it, or changed; and the same in a list of delegations. Assumes nothing.
use mathlib.Core.Path.{◌≡◌, refl, sym, ap, subst, ◌∙◌}
use mathlib.Core.Bool.{Bool, true, false, not, cond}
use mathlib.Core.List.Memᴰ
use mathlib.Core.List.{List, [], ◌∷◌, ◌++◌, append_assoc, map}
use Prim.Native.Nat.{ℕ, zero, suc, ◌+◌, ◌*◌, ◌-◌, ◌≤◌, ◌<◌}
use native.Mathlib.Nat.{le_of_suc-le-suc, not-suc-le-zero, mul-zero, mul-suc}
use native.Mathlib.Omega.{arith}
use lib.Dec.{T}
use lib.ListN.{length, get_or, take, drop, set, length-append, length-drop}
use lib.Seq.{sets, sets-eq, take_at, drop_at, take-take, take-append-le, drop-append-add, drop-append_seam, drop-drop, length-take-le}
use Rattle.rules.specs.List.{◌∈◌, keep, filter, concat_map}
use Rattle.rules.specs.Register.{Delegation, reweigh}
use Rattle.rules.specs.Pair.{is_pair, set_for}
use Rattle.rules.specs.WellFormed.{Rising}
use Rattle.rules.specs.CallStep.{before, insert}
use Rattle.block.specs.Layout.{record_size}
use Rattle.block.specs.Bytes.{leading}
use Rattle.block.proofs.PairPlace.{pair_place, others}
use Rattle.change.specs.Shift.{moved_up, moved_down}

-- ── bytes ──
module _ (P : List ℕ) (at : ℕ) (here : length P ≡ at) where
  -- room made at the end of P, and filled
  pub spliced_in : (Y Z rec : List ℕ) (end : ℕ) → at + length Y ≡ end → record_size ≤ length Z → length rec ≡ record_size → sets (moved_up (P ++ (Y ++ Z)) at end) at rec ≡ P ++ (rec ++ (Y ++ drop record_size Z))
  unfolding moved_up
  spliced_in Y Z rec end e l w =
      let b = P ++ (Y ++ Z) in
      let rest = take (end - at) (drop at b) ++ drop (end + record_size) b in
      let size : length b ≡ at + (length Y + length Z) = length-append P (Y ++ Z) ∙ omega (arith, length-append Y Z, here) in
      let front : length (take (at + record_size) b) ≡ at + record_size = length-take-le (at + record_size) b (omega arith) in
      let room : at + length rec ≤ length (take (at + record_size) b ++ rest) = omega (arith, length-append (take (at + record_size) b) rest) in
      let d : drop at b ≡ Y ++ Z = drop_at P (Y ++ Z) at here in
      let y : take (end - at) (drop at b) ≡ Y = ap (take (end - at)) d ∙ take_at Y Z (end - at) (omega arith) in
      let n : end + record_size ≡ at + (length Y + record_size) = omega arith in
      let z : drop (end + record_size) b ≡ drop record_size Z =
      ap (λ (k : ℕ). drop k b) n ∙ sym (drop-drop (length Y + record_size) at b) ∙ ap (drop (length Y + record_size)) d ∙ drop-append-add Y Z record_size in
      let p : take at (take (at + record_size) b ++ rest) ≡ P =
      take-append-le at (take (at + record_size) b) rest (omega arith) ∙ take-take at (at + record_size) b (omega arith) ∙ take_at P (Y ++ Z) at here in
      let r : drop (at + length rec) (take (at + record_size) b ++ rest) ≡ rest = drop_at (take (at + record_size) b) rest (at + length rec) (omega arith) in
      sets-eq rec (take (at + record_size) b ++ rest) at room
      ∙ (λ j. p j ++ rec ++ r j)
      ∙ append_assoc P rec rest
      ∙ (λ j. P ++ (rec ++ (y j ++ z j)))

  -- the record W that begins at the end of P taken out, and zeros put at the end
  pub spliced_out : (W Y Z rec : List ℕ) (end last : ℕ) → length W ≡ record_size → at + record_size + length Y ≡ end → last + record_size ≡ end → length rec ≡ record_size → sets (moved_down (P ++ (W ++ (Y ++ Z))) at end) last rec ≡ P ++ (Y ++ (rec ++ Z))
  unfolding moved_down
  spliced_out W Y Z rec end last w e x k =
      let b = P ++ (W ++ (Y ++ Z)) in
      let n : end - (at + record_size) ≡ length Y = omega arith in
      let p : take at b ≡ P = take_at P (W ++ (Y ++ Z)) at here in
      let d : drop at b ≡ W ++ (Y ++ Z) = drop_at P (W ++ (Y ++ Z)) at here in
      let s : drop (at + record_size) b ≡ Y ++ Z = sym (drop-drop record_size at b) ∙ ap (drop record_size) d ∙ drop_at W (Y ++ Z) record_size w in
      let y : take (end - (at + record_size)) (drop (at + record_size) b) ≡ Y = ap (take (end - (at + record_size))) s ∙ take_at Y Z (end - (at + record_size)) (omega arith) in
      let q = drop (at + (end - (at + record_size))) b in
      let long : length b ≡ at + (record_size + (length Y + length Z)) = length-append P (W ++ (Y ++ Z)) ∙ omega (arith, length-append W (Y ++ Z), length-append Y Z, here) in
      let qlong : length q ≡ record_size + length Z = length-drop (at + (end - (at + record_size))) b ∙ omega arith in
      let moved : take at b ++ take (end - (at + record_size)) (drop (at + record_size) b) ++ q ≡ (P ++ Y) ++ q = λ j. p j ++ y j ++ q in
      let py : length (P ++ Y) ≡ last = length-append P Y ∙ omega arith in
      let room : last + length rec ≤ length ((P ++ Y) ++ q) = omega (arith, length-append (P ++ Y) q) in
      let tail : drop (last + length rec) ((P ++ Y) ++ q) ≡ Z =
      let m : last + length rec ≡ length (P ++ Y) + record_size = omega arith in
      let u : record_size + (at + (end - (at + record_size))) ≡ at + (record_size + length Y) = omega arith in
      let v : at + (end - (at + record_size)) + record_size ≡ at + (record_size + length Y) = omega arith in
      ap (λ (i : ℕ). drop i ((P ++ Y) ++ q)) m ∙ drop-append-add (P ++ Y) q record_size ∙ drop-drop record_size (at + (end - (at + record_size))) b ∙ ap (λ (i : ℕ). drop i b) v
      ∙ sym (drop-drop (record_size + length Y) at b) ∙ ap (drop (record_size + length Y)) d ∙ ap (λ (i : ℕ). drop i (W ++ (Y ++ Z))) (ap (λ (i : ℕ). i + length Y) (sym w)) ∙ drop-append-add W (Y ++ Z) (length Y) ∙ drop-append_seam Y Z in
      ap (λ (l : List ℕ). sets l last rec) moved
      ∙ sets-eq rec ((P ++ Y) ++ q) last room
      ∙ (λ j. take_at (P ++ Y) q last py j ++ rec ++ tail j)
      ∙ append_assoc (P ++ Y) rec Z
      ∙ append_assoc P Y (rec ++ Z)

-- bytes over as many others
pub sets_over : (P X Y Z : List ℕ) (at : ℕ) → length P ≡ at → length X ≡ length Y → sets (P ++ (X ++ Z)) at Y ≡ P ++ (Y ++ Z)
sets_over P X Y Z at here e =
    let b = P ++ (X ++ Z) in
    let room : at + length Y ≤ length b = omega (arith, length-append P (X ++ Z), length-append X Z) in
    let tail : drop (at + length Y) b ≡ Z = sym (drop-drop (length Y) at b) ∙ ap (drop (length Y)) (drop_at P (X ++ Z) at here) ∙ drop_at X Z (length Y) e in
    sets-eq Y b at room ∙ (λ j. take_at P (X ++ Z) at here j ++ Y ++ tail j) ∙ append_assoc P Y Z

-- value k of those that are written one after another, after P
module _ {A : Type 0} (enc : A → List ℕ) (w : ℕ) (wide : (x : A) → length (enc x) ≡ w) where
  pub written_set : (P Z : List ℕ) (xs : List A) (k : ℕ) (v : A) → k < length xs → sets (P ++ (concat_map enc xs ++ Z)) (length P + w * k) (enc v) ≡ P ++ (concat_map enc (set xs k v) ++ Z)
  written_set P Z [] k v l = absurd (not-suc-le-zero l)
  written_set P Z (x ∷ xs) zero v l =
      let S = concat_map enc xs in
      let here : length P ≡ length P + w * zero = omega (arith, mul-zero w) in
      ap (λ (s : List ℕ). sets (P ++ s) (length P + w * zero) (enc v)) (append_assoc (enc x) S Z)
      ∙ sets_over P (enc x) (enc v) (S ++ Z) (length P + w * zero) here (wide x ∙ sym (wide v))
      ∙ ap (λ (s : List ℕ). P ++ s) (sym (append_assoc (enc v) S Z))
  written_set P Z (x ∷ xs) (suc k) v l =
      let at : length P + w * suc k ≡ length (P ++ enc x) + w * k = omega (arith, length-append P (enc x), wide x, mul-suc w k) in
      (λ j. sets (group (concat_map enc xs) j) (at j) (enc v)) ∙ written_set (P ++ enc x) Z xs k v (le_of_suc-le-suc l) ∙ sym (group (concat_map enc (set xs k v)))
    where
      group : (S : List ℕ) → P ++ ((enc x ++ S) ++ Z) ≡ (P ++ enc x) ++ (S ++ Z)
      group S = ap (λ (s : List ℕ). P ++ s) (append_assoc (enc x) S Z) ∙ sym (append_assoc P (enc x) (S ++ Z))

-- ── delegations ──

-- a delegation is inserted after those at the front that it does not come before
pub insert_leading : (d : Delegation) (ds : List Delegation) → let k = leading (λ e. not (before d e)) ds in insert d ds ≡ take k ds ++ (d ∷ drop k ds)
insert_leading d [] = refl
insert_leading d (e ∷ es) = go (before d e) (insert_leading d es)
  where
    go : (b : Bool) → (let k = leading (λ x. not (before d x)) es in insert d es ≡ take k es ++ (d ∷ drop k es))
        → let n = cond (not b) (suc (leading (λ x. not (before d x)) es)) zero in cond b (d ∷ e ∷ es) (e ∷ insert d es) ≡ take n (e ∷ es) ++ (d ∷ drop n (e ∷ es))
    go true h = refl
    go false h = λ j. e ∷ h j

filter_all : (f : Delegation → Bool) (ds : List Delegation) → ((d : Delegation) → d ∈ ds → T (f d)) → filter f ds ≡ ds
filter_all f [] h = refl
filter_all f (d ∷ ds) h = go (f d) (h d (Memᴰ.head refl)) (filter_all f ds (λ e m. h e (Memᴰ.tail m)))
  where
    go : (b : Bool) → T b → filter f ds ≡ ds → keep b d (filter f ds) ≡ d ∷ ds
    go true t e = λ j. d ∷ e j
    go false t e = absurd t

map_all : (f : Delegation → Delegation) (ds : List Delegation) → ((d : Delegation) → d ∈ ds → f d ≡ d) → map f ds ≡ ds
map_all f [] h = refl
map_all f (d ∷ ds) h = let e = h d (Memᴰ.head refl) in let r = map_all f ds (λ x m. h x (Memᴰ.tail m)) in λ j. e j ∷ r j

module _ (g r : ℕ) where
  pub filter_pair : (ds : List Delegation) → Rising ds → filter (λ d. not (is_pair g r d)) ds ≡ take (pair_place g r ds) ds ++ drop (suc (pair_place g r ds)) ds
  filter_pair [] s = refl
  filter_pair (d ∷ ds) s = go (is_pair g r d) refl (filter_pair ds s.1)
    where
      go : (b : Bool) → is_pair g r d ≡ b → filter (λ e. not (is_pair g r e)) ds ≡ take (pair_place g r ds) ds ++ drop (suc (pair_place g r ds)) ds
          → let k = cond (not b) (suc (pair_place g r ds)) zero in keep (not b) d (filter (λ e. not (is_pair g r e)) ds) ≡ take k (d ∷ ds) ++ drop (suc k) (d ∷ ds)
      go true q h = filter_all (λ e. not (is_pair g r e)) ds (others g r d ds s (subst T (sym q) tt))
      go false q h = λ j. d ∷ h j

  module _ (w : ℕ) where
    untouched : (d : Delegation) → T (not (is_pair g r d)) → set_for g r w d ≡ d
    untouched d h = go (is_pair g r d) h
      where
        go : (b : Bool) → T (not b) → cond b (reweigh d w) d ≡ d
        go true t = absurd t
        go false t = refl

    pub map_pair : (ds : List Delegation) (z : Delegation) → Rising ds → pair_place g r ds < length ds
        → map (set_for g r w) ds ≡ take (pair_place g r ds) ds ++ (reweigh (get_or ds (pair_place g r ds) z) w ∷ drop (suc (pair_place g r ds)) ds)
    map_pair [] z s l = absurd (not-suc-le-zero l)
    map_pair (d ∷ ds) z s l = go (is_pair g r d) refl (map_pair ds z s.1) l
      where
        go : (b : Bool) → is_pair g r d ≡ b
            → (pair_place g r ds < length ds → map (set_for g r w) ds ≡ take (pair_place g r ds) ds ++ (reweigh (get_or ds (pair_place g r ds) z) w ∷ drop (suc (pair_place g r ds)) ds))
            → cond (not b) (suc (pair_place g r ds)) zero < suc (length ds)
            → let k = cond (not b) (suc (pair_place g r ds)) zero in
            cond b (reweigh d w) d ∷ map (set_for g r w) ds ≡ take k (d ∷ ds) ++ (reweigh (get_or (d ∷ ds) k z) w ∷ drop (suc k) (d ∷ ds))
        go true q ih m =
            let e = map_all (set_for g r w) ds (λ x i. untouched x (others g r d ds s (subst T (sym q) tt) x i)) in
            λ j. reweigh d w ∷ e j
        go false q ih m = let e = ih (le_of_suc-le-suc m) in λ j. d ∷ e j
