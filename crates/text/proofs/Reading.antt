-- One number read byte by byte, and that it is read exactly where the text is its rendering. Assumes nothing.
use Rattle.std.proofs.lemmas.Bool.{false≢true}
use mathlib.Core.Path.{◌≡◌, refl, sym, ap, ◌∙◌}
use mathlib.Core.Logic.{◌≢◌}
use mathlib.Core.Bool.{Bool, true, false, cond}
use mathlib.Core.List.{List, [], ◌∷◌, ◌++◌, append_assoc}
use Prim.Native.Nat.{ℕ, zero, suc, ◌+◌, ◌*◌, ◌-◌, ◌/◌, ◌%◌, ◌≤◌, ◌<◌}
use native.Mathlib.Omega.{arith}
use borrow.Author.Tests.{lt-ltb, le-ltb, le-leb, lt-leb, ne_eqb, eq-eqb, ltb-true, ltb-false, leb-true, eqb-true, eqb-false}
use lib.Dec.{ltb, leb, eqb}
use lib.ListN.{length, get_or, drop, length-append, drop_of_length-le}
use lib.Seq.{drop-drop, drop-cons}
use Rattle.text.specs.Text.{digits, most}
use Rattle.std.specs.Prelude.{Option, None, Some, IfSome}
use Rattle.text.specs.Read.{is_digit, NumberRead}
use Rattle.text.specs.declared.Found.{Found}
use Rattle.text.proofs.Digits.{digits_one, digits_more, digits_next}

abbrev pub number_at : ℕ → ℕ → Option (Found ℕ)
number_at v n = Some (record { value = v; next = n })

-- the number that is read, 0 where none is
abbrev pub value_of : Option (Found ℕ) → ℕ
value_of None = 0
value_of (Some m) = m.value

-- the number with one digit more
abbrev grown : ℕ → ℕ → ℕ
grown v b = v * 10 + (b - 48)

-- what is read of s, which stands at `at`, after the digits of v
abbrev pub read_on : (end v : ℕ) → List ℕ → ℕ → Option (Found ℕ)
read_on end v [] at = None
read_on end v (b ∷ s) at = cond (is_digit b) (cond (eqb v 0) None (cond (ltb most (grown v b)) None (read_on end (grown v b) s (suc at)))) (cond (eqb b end) (number_at v (suc at)) None)

-- what is read of s, which stands at `at`
abbrev pub read_from : (end : ℕ) → List ℕ → ℕ → Option (Found ℕ)
read_from end [] at = None
read_from end (b ∷ s) at = cond (is_digit b) (read_on end (b - 48) s (suc at)) None

-- ── the tests of one turn ──
digit_yes : (b : ℕ) → 48 ≤ b → b ≤ 57 → is_digit b ≡ true
digit_yes b h l = rw (le-leb 48 b h, le-leb b 57 l)

pub digit_low : (b : ℕ) → b < 48 → is_digit b ≡ false
digit_low b h = rw (lt-leb 48 b h)

pub digit_range : (b : ℕ) → is_digit b ≡ true → (48 ≤ b) × (b ≤ 57)
digit_range b e = go (leb 48 b) refl (leb b 57) refl e
  where
    go : (x : Bool) → leb 48 b ≡ x → (y : Bool) → leb b 57 ≡ y → is_digit b ≡ true → (48 ≤ b) × (b ≤ 57)
    go true p true q t = (leb-true 48 b p, leb-true b 57 q)
    go true p false q t = absurd (false≢true (sym (rw (p, q)) ∙ t))
    go false p y q t = absurd (false≢true (sym (rw p) ∙ t))

module _ (end v b : ℕ) (s : List ℕ) (at : ℕ) where
  on_zero : is_digit b ≡ true → v ≡ 0 → read_on end v (b ∷ s) at ≡ None
  on_zero e z = rw (e, eq-eqb v 0 z)

  on_large : is_digit b ≡ true → most < grown v b → read_on end v (b ∷ s) at ≡ None
  on_large e l = go (eqb v 0) refl
    where
      go : (x : Bool) → eqb v 0 ≡ x → read_on end v (b ∷ s) at ≡ None
      go true q = rw (e, q)
      go false q = rw (e, q, lt-ltb most (grown v b) l)

  on_more : is_digit b ≡ true → v ≢ 0 → grown v b ≤ most → read_on end v (b ∷ s) at ≡ read_on end (grown v b) s (suc at)
  on_more e n l = rw (e, ne_eqb v 0 n, le-ltb most (grown v b) l)

  on_end : is_digit b ≡ false → b ≡ end → read_on end v (b ∷ s) at ≡ number_at v (suc at)
  on_end e q = rw (e, eq-eqb b end q)

  on_other : is_digit b ≡ false → b ≢ end → read_on end v (b ∷ s) at ≡ None
  on_other e q = rw (e, ne_eqb b end q)

pub from_other : (end b : ℕ) (s : List ℕ) (at : ℕ) → is_digit b ≡ false → read_from end (b ∷ s) at ≡ None
from_other end b s at e = rw e

from_digit : (end b : ℕ) (s : List ℕ) (at : ℕ) → is_digit b ≡ true → read_from end (b ∷ s) at ≡ read_on end (b - 48) s (suc at)
from_digit end b s at e = rw e

-- ── what is read is a rendering ──
abbrev Sound : ℕ → List ℕ → List ℕ → ℕ → Option (Found ℕ) → Type 0
Sound end front s at r =
    IfSome r (λ m. (m.value ≤ most) × (at < m.next) × (m.next + length front ≡ at + suc (length (digits m.value))) × (front ++ s ≡ digits m.value ++ (end ∷ drop (m.next - at) s)))

-- one digit more
carry : (end v b : ℕ) (s : List ℕ) (at : ℕ) (r : Option (Found ℕ)) → is_digit b ≡ true → 1 ≤ v → Sound end (digits (grown v b)) s (suc at) r → Sound end (digits v) (b ∷ s) at r
carry end v b s at None d h g = tt
carry end v b s at (Some r) d h g =
    let l : b - 48 < 10 = omega (arith, (digit_range b d).0, (digit_range b d).1) in
    let q : 48 + (b - 48) ≡ b = omega (arith, (digit_range b d).0) in
    let n : digits (grown v b) ≡ digits v ++ (b ∷ []) = digits_next v (b - 48) h l ∙ ap (λ (k : ℕ). digits v ++ (k ∷ [])) q in
    let m : length (digits (grown v b)) ≡ suc (length (digits v)) = rw (n, length-append) (omega arith) in
    let w : r.next - at ≡ suc (r.next - suc at) = omega (arith, g.1) in
    (g.0, omega (arith, g.1), omega (arith, g.2, m), rw w (sym (append_assoc (digits v) (b ∷ []) s) ∙ (rw n at g.3)))

-- the first digit
start : (end b : ℕ) (s : List ℕ) (at : ℕ) (r : Option (Found ℕ)) → is_digit b ≡ true → Sound end (digits (b - 48)) s (suc at) r → Sound end [] (b ∷ s) at r
start end b s at None d g = tt
start end b s at (Some r) d g =
    let l : b - 48 < 10 = omega (arith, (digit_range b d).0, (digit_range b d).1) in
    let q : 48 + (b - 48) ≡ b = omega (arith, (digit_range b d).0) in
    let n : digits (b - 48) ≡ b ∷ [] = digits_one (b - 48) l ∙ ap (λ (k : ℕ). k ∷ []) q in
    let m : length (digits (b - 48)) ≡ 1 = rw n in
    let w : r.next - at ≡ suc (r.next - suc at) = omega (arith, g.1) in
    (g.0, omega (arith, g.1), omega (arith, g.2, m), rw w (rw n at g.3))

sound : (end v : ℕ) (s : List ℕ) (at : ℕ) → v ≤ most → Sound end (digits v) s at (read_on end v s at)
sound end v [] at h = tt
sound end v (b ∷ s) at h = go (is_digit b) refl (λ k. sound end (grown v b) s (suc at) k)
  where
    more : is_digit b ≡ true → (grown v b ≤ most → Sound end (digits (grown v b)) s (suc at) (read_on end (grown v b) s (suc at))) → (x : Bool) → eqb v 0 ≡ x → (y : Bool) → ltb most (grown v b) ≡ y → Sound end (digits v) (b ∷ s) at (read_on end v (b ∷ s) at)
    more d ih true p y q = rw (on_zero end v b s at d (eqb-true v 0 p)) tt
    more d ih false p true q = rw (on_large end v b s at d (ltb-true most (grown v b) q)) tt
    more d ih false p false q =
        let n : v ≢ 0 = eqb-false v 0 p in
        let l : grown v b ≤ most = ltb-false most (grown v b) q in
        let o : 1 ≤ v = omega arith in
        rw (on_more end v b s at d n l) (carry end v b s at (read_on end (grown v b) s (suc at)) d o (ih l))

    last : is_digit b ≡ false → (x : Bool) → eqb b end ≡ x → Sound end (digits v) (b ∷ s) at (read_on end v (b ∷ s) at)
    last d true p =
        let q : b ≡ end = eqb-true b end p in
        let w : suc at - at ≡ 1 = omega arith in
        rw (on_end end v b s at d q) (h, omega arith, omega arith, rw (w, q))
    last d false p = rw (on_other end v b s at d (eqb-false b end p)) tt

    go : (x : Bool) → is_digit b ≡ x → (grown v b ≤ most → Sound end (digits (grown v b)) s (suc at) (read_on end (grown v b) s (suc at))) → Sound end (digits v) (b ∷ s) at (read_on end v (b ∷ s) at)
    go true d ih = more d ih (eqb v 0) refl (ltb most (grown v b)) refl
    go false d ih = last d (eqb b end) refl

sound_from : (end : ℕ) (s : List ℕ) (at : ℕ) → Sound end [] s at (read_from end s at)
sound_from end [] at = tt
sound_from end (b ∷ s) at = go (is_digit b) refl
  where
    go : (x : Bool) → is_digit b ≡ x → Sound end [] (b ∷ s) at (read_from end (b ∷ s) at)
    go false d = rw (from_other end b s at d) tt
    go true d =
        let o : b - 48 ≤ most = omega (arith, (digit_range b d).1) in
        rw (from_digit end b s at d) (start end b s at (read_on end (b - 48) s (suc at)) d (sound end (b - 48) s (suc at) o))

-- ── a rendering is read ──
-- past a rendering and the byte after it
pub drop_end : (xs : List ℕ) (b : ℕ) (ys : List ℕ) → drop (suc (length xs)) (xs ++ (b ∷ ys)) ≡ ys
drop_end [] b ys = refl
drop_end (x ∷ xs) b ys = drop_end xs b ys

module _ (end : ℕ) (e : end < 48) where
  read_digits : (k n : ℕ) → n < k → n ≤ most → (s : List ℕ) (at : ℕ) → read_from end (digits n ++ s) at ≡ read_on end n s (at + length (digits n))
  read_digits zero n h l s at = absurd (omega arith)
  read_digits (suc k) n h l s at = go (ltb n 10) refl (λ a. read_digits k (n / 10) (omega arith) (omega arith) ((48 + n % 10) ∷ s) at)
    where
      go : (x : Bool) → ltb n 10 ≡ x → (10 ≤ n → read_from end (digits (n / 10) ++ ((48 + n % 10) ∷ s)) at ≡ read_on end (n / 10) ((48 + n % 10) ∷ s) (at + length (digits (n / 10))))
          → read_from end (digits n ++ s) at ≡ read_on end n s (at + length (digits n))
      go true q ih =
          let a : n < 10 = ltb-true n 10 q in
          let b : 48 + n - 48 ≡ n = omega arith in
          let c : at + 1 ≡ suc at = omega arith in
          rw (digits_one n a, c) (from_digit end (48 + n) s at (digit_yes (48 + n) (omega arith) (omega arith)) ∙ rw b)
      go false q ih =
          let a : 10 ≤ n = ltb-false n 10 q in
          let g : grown (n / 10) (48 + n % 10) ≡ n = omega arith in
          let c : at + length (digits (n / 10) ++ ((48 + n % 10) ∷ [])) ≡ suc (at + length (digits (n / 10))) = rw length-append (omega arith) in
          let z : n / 10 ≢ 0 = λ y. absurd (omega arith) in
          rw (digits_more n a, append_assoc, c) (ih a ∙ on_more end (n / 10) (48 + n % 10) s (at + length (digits (n / 10))) (digit_yes (48 + n % 10) (omega arith) (omega arith)) z (omega arith) ∙ rw g)

  pub read_number : (n : ℕ) → n ≤ most → (rest : List ℕ) (at : ℕ) → read_from end (digits n ++ (end ∷ rest)) at ≡ number_at n (suc (at + length (digits n)))
  read_number n l rest at = read_digits (suc n) n (omega arith) l (end ∷ rest) at ∙ on_end end n end rest (at + length (digits n)) (digit_low end e) refl

  sound_read : (text : List ℕ) (at : ℕ) (r : Option (Found ℕ)) → Sound end [] (drop at text) at r → IfSome r (λ m. (m.value ≤ most) × (m.next ≡ at + suc (length (digits m.value))) × (drop at text ≡ digits m.value ++ (end ∷ drop m.next text)))
  sound_read text at None g = tt
  sound_read text at (Some r) g =
      let w : at + (r.next - at) ≡ r.next = omega (arith, g.1) in
      (g.0, omega (arith, g.2), rw (drop-drop, w) at g.3)

  -- the whole contract
  pub number_read : (text : List ℕ) (at : ℕ) (r : Option (Found ℕ)) → r ≡ read_from end (drop at text) at → NumberRead text at end r
  number_read text at r q = record {
    read = sound_read text at r (rw q (sound_from end (drop at text) at));
    each = λ n rest l d.
        let p : r ≡ number_at n (suc (at + length (digits n))) = q ∙ ap (λ (s : List ℕ). read_from end s at) d ∙ read_number n l rest at in
        let m : suc (at + length (digits n)) ≡ at + suc (length (digits n)) = omega arith in
        let w : drop (suc (at + length (digits n))) text ≡ rest = ap (λ (k : ℕ). drop k text) m ∙ sym (drop-drop (suc (length (digits n))) at text) ∙ ap (λ (s : List ℕ). drop (suc (length (digits n))) s) d ∙ drop_end (digits n) end rest in
        rw p (refl, w);
  }

-- ── the loop: the whole answer is the answer from i on ──
module _ (end : ℕ) (low : end < 48) (text : List ℕ) (at : ℕ) where
  pub start_end : length text ≤ at → NumberRead text at end None
  start_end h = number_read end low text at None (rw (drop_of_length-le text h))

  pub start_other : at < length text → is_digit (get_or text at 0) ≡ false → NumberRead text at end None
  start_other h d = number_read end low text at None (sym (ap (λ (s : List ℕ). read_from end s at) (drop-cons text at 0 h) ∙ from_other end (get_or text at 0) (drop (suc at) text) at d))

  module _ (v i : ℕ) (inv : read_from end (drop at text) at ≡ read_on end v (drop i text) i) where
    pub turn_done : length text ≤ i → NumberRead text at end None
    turn_done h = number_read end low text at None (sym (inv ∙ rw (drop_of_length-le text h)))

    module _ (h : i < length text) where
      here : read_from end (drop at text) at ≡ read_on end v (get_or text i 0 ∷ drop (suc i) text) i
      here = inv ∙ ap (λ (s : List ℕ). read_on end v s i) (drop-cons text i 0 h)

      pub turn_end : is_digit (get_or text i 0) ≡ false → NumberRead text at end (cond (eqb (get_or text i 0) end) (number_at v (suc i)) None)
      turn_end d = number_read end low text at _ (sym (here ∙ rw d))

      module _ (d : is_digit (get_or text i 0) ≡ true) where
        pub turn_zero : v ≡ 0 → NumberRead text at end None
        turn_zero z = number_read end low text at None (sym (here ∙ on_zero end v (get_or text i 0) (drop (suc i) text) i d z))

        pub turn_large : most < v * 10 + (get_or text i 0 - 48) → NumberRead text at end None
        turn_large l = number_read end low text at None (sym (here ∙ on_large end v (get_or text i 0) (drop (suc i) text) i d l))
