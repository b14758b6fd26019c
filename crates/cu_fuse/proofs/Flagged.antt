-- A plan in which other arrays are inlined.
use Rattle.cu_fuse.proofs.AlikeKinds.{SameLayouts}
use Rattle.cu_fuse.proofs.Inside.{AreAlike}
use Rattle.cu_fuse.proofs.ReadOnce.{reader_within}
use Rattle.cu_fuse.specs.Choosing.{all_stored}
use Rattle.cu_fuse.specs.Inlining.{inlining}
use Rattle.cu_op.specs.Arrays.{array_at, is_inlined, maker_at, no_array}
use Rattle.cu_op.specs.Operation.{reads_of, IsBefore, IsReadable}
use Rattle.cu_op.specs.PlanView.{PlanView, op_of}
use Rattle.cu_op.specs.Sound.{Sound}
use Rattle.cu_op.specs.declared.layout.ArrayInfo.{ArrayInfo}
use Rattle.std.proofs.Common.{◌≡◌, ◌≢◌, inl, inr, ℕ, ◌<◌, ◌≤◌, ◌==◌, ◌||◌, true, false, List, length, get_or, Contains, None, Option, refl, ap, sym, ◌∙◌, subst, arith, Bool}
use Rattle.std.proofs.lemmas.Bool.{cases_lt}
use Rattle.std.proofs.Math.ListN.{set}
use Rattle.std.proofs.lemmas.Bool.Decides.{eqb_tells}
use Rattle.std.proofs.lemmas.List.{get_or_past, get_or_read, get_or-set_other, get_or-set_same, length-set}
use Rattle.std.proofs.lemmas.List.Elements.{All-contains}
use Rattle.std.proofs.lemmas.List.FromFn.{fill_by_all, get_or-map-range_with_len, length-map-range_with_len}

abbrev flagged : PlanView → (ℕ → Bool) → ℕ → ArrayInfo
flagged p f a = record (array_at p.arrays a) { inlined = f a }

pub long : (p : PlanView) (f : ℕ → Bool) → length (inlining p f).arrays ≡ length p.arrays
long p f = length-map-range_with_len (flagged p f) 0 (length p.arrays)

pub array_flagged : (p : PlanView) (f : ℕ → Bool) (a : ℕ) → a < length p.arrays
    → array_at (inlining p f).arrays a ≡ record (array_at p.arrays a) { inlined = f a }
array_flagged p f a h = get_or-map-range_with_len (flagged p f) 0 (length p.arrays) a a no_array h (omega arith)

past : (p : PlanView) (f : ℕ → Bool) (a : ℕ) → length p.arrays ≤ a → array_at (inlining p f).arrays a ≡ array_at p.arrays a
past p f a h =
    let l = long p f in
    get_or_past (inlining p f).arrays a no_array (omega (arith, l, h)) ∙ sym (get_or_past p.arrays a no_array h)

-- what doesn't change
pub same_array : {T : Type 0} (what : ArrayInfo → T) → ((x : ArrayInfo) (b : Bool) → what (record x { inlined = b }) ≡ what x)
    → (p : PlanView) (f : ℕ → Bool) (a : ℕ) → what (array_at (inlining p f).arrays a) ≡ what (array_at p.arrays a)
same_array what kept p f a =
    elim (cases_lt a (length p.arrays)) [
      | inl l ↦ ap what (array_flagged p f a l) ∙ kept (array_at p.arrays a) (f a)
      | inr far ↦ ap what (past p f a far)
    ]

pub maker_kept : (p : PlanView) (f : ℕ → Bool) (a : ℕ) → maker_at (inlining p f).arrays a ≡ maker_at p.arrays a
maker_kept p f a = same_array (λ (x : ArrayInfo). x.maker) (λ x b. refl) p f a

pub layouts_kept : (p : PlanView) (f : ℕ → Bool) → SameLayouts p.arrays (inlining p f).arrays
layouts_kept p f = record { at = λ a. same_array (λ (x : ArrayInfo). x.layout) (λ x b. refl) p f a }

pub prefix_kept : (p : PlanView) (f : ℕ → Bool) (a : ℕ) → (array_at (inlining p f).arrays a).prefix ≡ (array_at p.arrays a).prefix
prefix_kept p f a = same_array (λ (x : ArrayInfo). x.prefix) (λ x b. refl) p f a

-- which are inlined
pub flag_at : (p : PlanView) (f : ℕ → Bool) (a : ℕ) → a < length p.arrays → is_inlined (inlining p f).arrays a ≡ f a
flag_at p f a h = ap (λ (x : ArrayInfo). x.inlined) (array_flagged p f a h)

pub flag_past : (arrays : List ArrayInfo) (a : ℕ) → length arrays ≤ a → is_inlined arrays a ≡ false
flag_past arrays a h = ap (λ (x : ArrayInfo). x.inlined) (get_or_past arrays a no_array h)

pub flag_within : (arrays : List ArrayInfo) (a : ℕ) → is_inlined arrays a ≡ true → a < length arrays
flag_within arrays a t =
    elim (cases_lt a (length arrays)) [ inl l ↦ l | inr far ↦ absurd (let f = flag_past arrays a far in cc) ]

-- flags that are off past the end
abbrev pub StayWithin : PlanView → (ℕ → Bool) → Type 0
StayWithin p f = (a : ℕ) → length p.arrays ≤ a → f a ≡ false

pub flag_is : (p : PlanView) (f : ℕ → Bool) (a : ℕ) → StayWithin p f → is_inlined (inlining p f).arrays a ≡ f a
flag_is p f a few =
    elim (cases_lt a (length p.arrays)) [
      | inl l ↦ flag_at p f a l
      | inr far ↦ let l = long p f in flag_past (inlining p f).arrays a (omega (arith, l, far)) ∙ sym (few a far)
    ]

pub flags_are : (p : PlanView) (f : ℕ → Bool) → StayWithin p f → is_inlined (inlining p f).arrays ≡ f
flags_are p f few = λ i a. flag_is p f a few i

-- ---- the same plan

pub flags_alike : (p : PlanView) (f g : ℕ → Bool) → ((a : ℕ) → a < length p.arrays → f a ≡ g a) → inlining p f ≡ inlining p g
flags_alike p f g h =
    let same : (inlining p f).arrays ≡ (inlining p g).arrays =
    fill_by_all (flagged p g) (inlining p f).arrays (length p.arrays) no_array (long p f)
    (λ a l. array_flagged p f a l ∙ ap (λ (b : Bool). record (array_at p.arrays a) { inlined = b }) (h a l)) in
    λ i. record p { arrays = same i }

pub again : (p : PlanView) (f g : ℕ → Bool) → inlining (inlining p f) g ≡ inlining p g
again p f g =
    let l = long p f in
    let same : (inlining (inlining p f) g).arrays ≡ (inlining p g).arrays =
    fill_by_all (flagged p g) (inlining (inlining p f) g).arrays (length p.arrays) no_array (long (inlining p f) g ∙ l)
    (λ a b. array_flagged (inlining p f) g a (omega (arith, l, b)) ∙ ap (λ (x : ArrayInfo). record x { inlined = g a }) (array_flagged p f a b)) in
    λ i. record p { arrays = same i }

pub its_own : (p : PlanView) → p ≡ inlining p (is_inlined p.arrays)
its_own p =
    let same : p.arrays ≡ (inlining p (is_inlined p.arrays)).arrays =
    fill_by_all (flagged p (is_inlined p.arrays)) p.arrays (length p.arrays) no_array refl (λ a l. refl) in
    λ i. record p { arrays = same i }

-- a plan from the one in which all is stored
pub from_stored : (c : PlanView) → c ≡ inlining (all_stored c) (is_inlined c.arrays)
from_stored c = its_own c ∙ sym (again c (λ a. false) (is_inlined c.arrays))

pub stored_again : (c : PlanView) (f : ℕ → Bool) → all_stored (inlining c f) ≡ all_stored c
stored_again c f = again c f (λ a. false)

-- ---- alike plans

module _ (p : PlanView) (s : Sound p) where
  pub read_before : (k a : ℕ) → Contains (reads_of (op_of p k)) a → (a < length p.arrays) × IsBefore (maker_at p.arrays a) k
  read_before k a read =
      All-contains (IsReadable p.arrays k) (reads_of (op_of p k)) a (s.operations k (reader_within p k a read)).reads read

  pub alike : (f g : ℕ → Bool) → ((a : ℕ) → a < length p.arrays → f a ≡ true → maker_at p.arrays a ≢ None) → AreAlike (inlining p f) (inlining p g)
  alike f g made = record {
    ops = λ k. refl;
    makers = λ a. maker_kept p g a ∙ sym (maker_kept p f a);
    layouts = record { at = λ a. (layouts_kept p g).at a ∙ sym ((layouts_kept p f).at a) };
    reserved = refl;
    before = λ k a read. subst (λ (m : Option ℕ). IsBefore m k) (sym (maker_kept p f a)) (read_before k a read).1;
    made = λ a t.
        let l = long p f in
        let within = flag_within (inlining p f).arrays a t in
        let b : a < length p.arrays = omega (arith, l, within) in
        λ none. made a b (sym (flag_at p f a b) ∙ t) (sym (maker_kept p f a) ∙ none);
  }

-- ---- one array more

pub set_flag : (p : PlanView) (a : ℕ) (x : ArrayInfo) → a < length p.arrays → x ≡ get_or p.arrays a x
    → set p.arrays a (record x { inlined = true }) ≡ (inlining p (λ b. b == a || is_inlined p.arrays b)).arrays
set_flag p a x h is =
    fill_by_all (flagged p (λ b. b == a || is_inlined p.arrays b)) (set p.arrays a (record x { inlined = true })) (length p.arrays) no_array (length-set p.arrays a (record x { inlined = true })) (λ b l.
    elim (eqb_tells b a) [
      | inl t ↦
          let on : (b == a || is_inlined p.arrays b) ≡ true = (let e = t.0 in rw e refl) in
          ap (λ (n : ℕ). get_or (set p.arrays a (record x { inlined = true })) n no_array) t.1
          ∙ get_or-set_same p.arrays a (record x { inlined = true }) no_array h
          ∙ ap (λ (y : ArrayInfo). record y { inlined = true }) (get_or_read p.arrays a x h is no_array ∙ ap (array_at p.arrays) (sym t.1))
          ∙ ap (λ (y : Bool). record (array_at p.arrays b) { inlined = y }) (sym on)
      | inr t ↦
          let off : (b == a || is_inlined p.arrays b) ≡ is_inlined p.arrays b = (let e = t.0 in rw e refl) in
          get_or-set_other p.arrays a b (record x { inlined = true }) no_array t.1
          ∙ ap (λ (y : Bool). record (array_at p.arrays b) { inlined = y }) (sym off)
    ])
