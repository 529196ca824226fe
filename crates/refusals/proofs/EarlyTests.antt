-- The refusals of a call that come before those by what the register holds: 1, those by what was passed, 7 and 17 by the step table's text, 8; and the whole refusal. Assumes nothing.
use mathlib.Core.Path.{◌≡◌, refl, sym, ap, subst, ◌∙◌}
use mathlib.Core.Logic.{◌≢◌, ◌⊎◌, inl, inr}
use mathlib.Core.Bool.{Bool, true, false, not, cond}
use mathlib.Core.List.{List, [], ◌∷◌, ◌++◌}
use Prim.Native.Nat.{ℕ}
use native.Mathlib.Omega.{arith}
use borrow.Author.Tests.{eq-eqb}
use lib.Dec.{T, leb, eqb, eqb→eq, nleb→lt}
use lib.ListN.{length}
use lib.IntN.{ℤ}
use Rattle.std.specs.Prelude.{Result, Ok, Err}
use Rattle.rules.specs.declared.refusal.Refusal.{Refusal}
use Rattle.rules.specs.Refused.{refusal_number, refused_with}
use Rattle.refusals.proofs.First.{number_some}
use Rattle.rules.specs.Call.{Call, enrol, grant, revoke, downgrade, ask_reach, ask_use, set_marks, retire}
use Rattle.rules.specs.Refusal.{first_of, passed, held, order_passed, order_held, back_passed, back_held}
use Rattle.rules.proofs.Refusals.{numbered, passed_numbered, passes_of, first_of_append, first_of_none, first_of_some, first_of_left}
use Rattle.rules.proofs.Lists.{not_or_left, eq_or}
use Rattle.block.specs.Layout.{block_size}
use Rattle.block.specs.Block.{decode}
use Rattle.block.specs.WellFormed.{well_formed}
use Rattle.steptable.specs.TableText.{lent}
use Rattle.steptable.specs.TableText.{Given}
use Rattle.refusals.specs.Early.{wrong_length, text_refused, not_well_formed, early_by, early, refusal_on, order_refusal, back_refusal}
use Rattle.refusals.specs.Checked.{InLimits, Checked, Receives}
use Rattle.refusals.proofs.InLimits.{in_limits}

-- none of them applies, ps being those by what was passed
pub record EarlyBy (n : ℕ) (b : List ℕ) (ps : List (ℕ × Bool)) : Type 0 where
  pub size : length b ≡ block_size
  pub passed : first_of ps ≡ 0
  pub text : first_of (text_refused n) ≡ 0
  pub formed : well_formed b ≡ true

abbrev pub Early : ℕ → List ℕ → Call → Type 0
Early n b c = EarlyBy n b (passed c)

checked : (n : ℕ) (b : List ℕ) (c : Call) → Early n b c → Checked b c
checked n b c h = record { formed = h.formed; numbers = in_limits c h.passed }

-- what follows those by what was passed
abbrev later : ℕ → List ℕ → List (ℕ × Bool)
later n b = text_refused n ++ (not_well_formed b ∷ [])

-- as the code finds them: the refusal by what was passed is one number, or 0
abbrev early_of : ℕ → List ℕ → ℕ → List (ℕ × Bool)
early_of n b p = wrong_length b ∷ (p, not (eqb p 0)) ∷ later n b

module _ (n : ℕ) (b : List ℕ) (ps : List (ℕ × Bool)) (all : T (numbered ps)) where
  -- the refusals by what was passed, as one number
  by_one : first_of (early_by n b ps) ≡ first_of (early_of n b (first_of ps))
  by_one =
      ap (λ (m : ℕ). cond (not (eqb (length b) block_size)) 1 m) (first_of_append ps (later n b) all ∙ turn (eqb (first_of ps) 0) (first_of (later n b)) (first_of ps))
    where
      turn : (x : Bool) (m k : ℕ) → cond x m k ≡ cond (not x) k m
      turn true m k = refl
      turn false m k = refl

  by_none : first_of (early_by n b ps) ≡ 0 → EarlyBy n b ps
  by_none e = go (eqb (length b) block_size) (eqb (first_of ps) 0) (eqb n 7) (eqb n 17) (well_formed b) refl refl refl refl refl (sym by_one ∙ e)
    where
      go : (x y u v z : Bool) → eqb (length b) block_size ≡ x → eqb (first_of ps) 0 ≡ y → eqb n 7 ≡ u → eqb n 17 ≡ v → well_formed b ≡ z
          → cond (not x) 1 (cond (not y) (first_of ps) (cond u 7 (cond v 17 (cond (not z) 8 0)))) ≡ 0 → EarlyBy n b ps
      go true true false false true p q s t f h =
          record { size = eqb→eq (length b) block_size (subst T (sym p) tt); passed = eqb→eq (first_of ps) 0 (subst T (sym q) tt); text = rw (s, t); formed = f }
      go true true true v z p q s t f h = absurd (omega arith)
      go true true false true z p q s t f h = absurd (omega arith)
      go true true false false false p q s t f h = absurd (omega arith)
      go true false u v z p q s t f h = absurd (subst T (sym (eq-eqb (first_of ps) 0 h) ∙ q) tt)
      go false y u v z p q s t f h = absurd (omega arith)

  none_by : EarlyBy n b ps → first_of (early_by n b ps) ≡ 0
  none_by h =
      let s = eq-eqb (length b) block_size h.size in
      let p = eq-eqb (first_of ps) 0 h.passed in
      by_one ∙ (λ j. cond (not (s j)) 1 (cond (not (p j)) (first_of ps) (first_of (later n b)))) ∙ first_of_none (text_refused n) (not_well_formed b ∷ []) tt h.text ∙ (λ j. cond (not (h.formed j)) 8 0)

  -- as the code finds the first of them
  by_found : {p m : ℕ} → p ≡ first_of ps → m ≡ first_of (early_of n b p) → first_of (early_by n b ps) ≡ m
  by_found e q = by_one ∙ ap (λ (k : ℕ). first_of (early_of n b k)) (sym e) ∙ sym q

module _ (n : ℕ) (b : List ℕ) (c : Call) where
  pub early_one : first_of (early n b c) ≡ first_of (early_of n b (first_of (passed c)))
  early_one = by_one n b (passed c) (passed_numbered c)

  pub early_none : first_of (early n b c) ≡ 0 → Early n b c
  early_none = by_none n b (passed c) (passed_numbered c)

  pub none_early : Early n b c → first_of (early n b c) ≡ 0
  none_early = none_by n b (passed c) (passed_numbered c)

-- ── the whole refusal ──
early_numbered : (n : ℕ) (b : List ℕ) (c : Call) → T (numbered (early n b c))
unfolding passed
early_numbered n b (enrol m) = tt
early_numbered n b (grant d) = tt
early_numbered n b (revoke y g r) = tt
early_numbered n b (downgrade y g r w) = tt
early_numbered n b (ask_reach g r) = tt
early_numbered n b (ask_use r) = tt
early_numbered n b (set_marks y s m) = tt
early_numbered n b (retire y s) = tt

-- no refusal applies
pub record Through (g : Given) (b : List ℕ) (c : Call) : Type 0 where
  pub early : Early g.refusal b c
  pub numbers : InLimits c
  pub held : first_of (held g.steps (decode b) c) ≡ 0

module _ (g : Given) (b : List ℕ) (c : Call) where
  abbrev first : ℕ
  first = first_of (early g.refusal b c)

  pub refused_early : (n : ℕ) → first ≡ n → n ≢ 0 → n ≡ refusal_on g b c
  unfolding refusal_on
  refused_early n e k = sym (first_of_some (early g.refusal b c) (held g.steps (decode b) c) n (early_numbered g.refusal b c) e k)

  pub refused_held : Early g.refusal b c → refusal_on g b c ≡ first_of (held g.steps (decode b) c)
  unfolding refusal_on
  refused_held h = first_of_none (early g.refusal b c) (held g.steps (decode b) c) (early_numbered g.refusal b c) (none_early g.refusal b c h)

  pub through : refusal_on g b c ≡ 0 → Through g b c
  through z = go (eq_or first 0)
    where
      go : (first ≡ 0) ⊎ (first ≢ 0) → Through g b c
      go (inl e) = let h = early_none g.refusal b c e in record { early = h; numbers = (checked g.refusal b c h).numbers; held = sym (refused_held h) ∙ z }
      go (inr k) = absurd (k (refused_early first refl k ∙ z))

-- ── the whole refusal, as the code finds it ──

-- n is what the code finds before it looks at what the register holds, where the table's text is refused with x
pub record EarlyFound (x : ℕ) (b : List ℕ) (c : Call) (n : ℕ) : Type 0 where
  pub first : first_of (early x b c) ≡ n
  pub checked : n ≡ 0 → Checked b c
  -- the whole refusal: n where that is one, else h, which is what the code finds in the register
  pub refused : n ≢ 0 → (t : List ℤ) → n ≡ refusal_on (lent x t) b c
  pub late : n ≡ 0 → (t : List ℤ) (h : ℕ) → h ≡ first_of (held t (decode b) c) → h ≡ refusal_on (lent x t) b c

pub early_found : {x : ℕ} {b : List ℕ} {c : Call} {p n : ℕ} → p ≡ first_of (passed c) → n ≡ first_of (early_of x b p) → EarlyFound x b c n
early_found {x} {b} {c} {p} {n} e q = record {
  first = first;
  checked = λ z. checked x b c (early_none x b c (first ∙ z));
  refused = λ k t. refused_early (lent x t) b c n first k;
  late = λ z t h r. r ∙ sym (refused_held (lent x t) b c (early_none x b c (first ∙ z)));
}
  where
    first : first_of (early x b c) ≡ n
    first = by_found x b (passed c) (passed_numbered c) e q

module _ {A : Type 0} {r : Result A Refusal} (x : ℕ) (b : List ℕ) (c : Call) {p : ℕ} (e : p ≡ first_of (passed c)) (q : refused_with r ≡ first_of (early_of x b p)) where
  pub early_refused : {f : Refusal} → r ≡ Err f → (t : List ℤ) → refusal_number f ≡ refusal_on (lent x t) b c
  early_refused {f} w t = sym (ap refused_with w) ∙ (early_found {x = x} {b = b} {c = c} e q).refused (λ z. number_some f (sym (ap refused_with w) ∙ z)) t

  pub early_checked : {a : A} → r ≡ Ok a → Checked b c
  early_checked w = (early_found {x = x} {b = b} {c = c} e q).checked (ap refused_with w)

  pub early_late : {a : A} → r ≡ Ok a → (t : List ℤ) (h : ℕ) → h ≡ first_of (held t (decode b) c) → h ≡ refusal_on (lent x t) b c
  early_late w t h = (early_found {x = x} {b = b} {c = c} e q).late (ap refused_with w) t h

-- of a call that is not refused, no test of the text applies
pub text_allowed : (g : Given) (b : List ℕ) (c : Call) → refusal_on g b c ≡ 0 → first_of (text_refused g.refusal) ≡ refusal_on g b c
text_allowed g b c z = (through g b c z).early.text ∙ sym z

-- ── a call that is in no list: ps are its tests by what was passed, hs those by what the register holds ──
module _ (n : ℕ) (b : List ℕ) (ps hs : List (ℕ × Bool)) (all : T (numbered ps)) (every : T (numbered (early_by n b ps))) where
  -- m is what the code finds first, from p, the refusal by what was passed
  pub first_refused : {p m : ℕ} → p ≡ first_of ps → m ≡ first_of (early_of n b p) → m ≢ 0 → m ≡ first_of (early_by n b ps ++ hs)
  first_refused {m = m} e q k = sym (first_of_some (early_by n b ps) hs m every (by_found n b ps all e q) k)

  module _ {p m : ℕ} (e : p ≡ first_of ps) (q : m ≡ first_of (early_of n b p)) (z : m ≡ 0) where
    pub first_formed : well_formed b ≡ true
    first_formed = (by_none n b ps all (by_found n b ps all e q ∙ z)).formed

    pub then_held : {h : ℕ} → h ≡ first_of hs → h ≡ first_of (early_by n b ps ++ hs)
    then_held r = r ∙ sym (first_of_none (early_by n b ps) hs every (by_found n b ps all e q ∙ z))

  -- none applies
  pub both_none : first_of (early_by n b ps ++ hs) ≡ 0 → EarlyBy n b ps × (first_of hs ≡ 0)
  both_none z =
      let e = first_of_left (early_by n b ps) hs every z in
      (by_none n b ps all e, sym (first_of_none (early_by n b ps) hs every e) ∙ z)

  pub none_both : EarlyBy n b ps → first_of (early_by n b ps ++ hs) ≡ first_of hs
  none_both h = first_of_none (early_by n b ps) hs every (none_by n b ps all h)

-- ── the order call ──
module _ (n : ℕ) (b : List ℕ) (v : ℕ) where
  pub order_early : {p m : ℕ} → p ≡ first_of (order_passed v) → m ≡ first_of (early_of n b p) → m ≢ 0 → m ≡ order_refusal n b v
  unfolding order_refusal
  order_early = first_refused n b (order_passed v) (order_held (decode b) v) tt tt

  module _ {p m : ℕ} (e : p ≡ first_of (order_passed v)) (q : m ≡ first_of (early_of n b p)) (z : m ≡ 0) where
    pub order_formed : well_formed b ≡ true
    order_formed = first_formed n b (order_passed v) (order_held (decode b) v) tt tt e q z

    pub order_held_lem : {h : ℕ} → h ≡ first_of (order_held (decode b) v) → h ≡ order_refusal n b v
    unfolding order_refusal
    order_held_lem = then_held n b (order_passed v) (order_held (decode b) v) tt tt e q z

  pub receives : order_refusal n b v ≡ 0 → Receives b v
  unfolding order_refusal decode
  receives z =
      let (h, e) = both_none n b (order_passed v) (order_held (decode b) v) tt tt z in
      record { formed = h.formed; receiver = nleb→lt (decode b).subjects v (not_or_left (leb (decode b).subjects v) false (passes_of (order_held (decode b) v) tt e 9)) }

-- no test of the text applies then
pub order_text : (n : ℕ) (b : List ℕ) (v : ℕ) → order_refusal n b v ≡ 0 → first_of (text_refused n) ≡ 0
unfolding order_refusal
order_text n b v z = (both_none n b (order_passed v) (order_held (decode b) v) tt tt z).0.text

-- ── taking a cut back by y, where g is the giver on the slip ──
module _ (n : ℕ) (b : List ℕ) (y g : ℕ) where
  pub back_early : {p m : ℕ} → p ≡ first_of (back_passed y) → m ≡ first_of (early_of n b p) → m ≢ 0 → m ≡ back_refusal n b y g
  unfolding back_refusal
  back_early = first_refused n b (back_passed y) (back_held (decode b) y g) tt tt

  module _ {p m : ℕ} (e : p ≡ first_of (back_passed y)) (q : m ≡ first_of (early_of n b p)) (z : m ≡ 0) where
    pub back_formed : well_formed b ≡ true
    back_formed = first_formed n b (back_passed y) (back_held (decode b) y g) tt tt e q z

    pub back_held_lem : {h : ℕ} → h ≡ first_of (back_held (decode b) y g) → h ≡ back_refusal n b y g
    unfolding back_refusal
    back_held_lem = then_held n b (back_passed y) (back_held (decode b) y g) tt tt e q z

  -- none of these tests applies
  pub back_none : back_refusal n b y g ≡ 0 → EarlyBy n b (back_passed y) × (first_of (back_held (decode b) y g) ≡ 0)
  unfolding back_refusal
  back_none = both_none n b (back_passed y) (back_held (decode b) y g) tt tt

  pub none_back : EarlyBy n b (back_passed y) → back_refusal n b y g ≡ first_of (back_held (decode b) y g)
  unfolding back_refusal
  none_back = none_both n b (back_passed y) (back_held (decode b) y g) tt tt
