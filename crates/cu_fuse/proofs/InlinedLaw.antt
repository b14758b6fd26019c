-- What the plan in which arrays are inlined has in common with the plan.
use Rattle.cu_op.proofs.AllStored.{stored_at}
use Rattle.cu_op.proofs.Members.{bool_cases}
use Rattle.cu_fuse.proofs.Chosen.{one_choice}
use Rattle.cu_fuse.proofs.InlinedNames.{input_kept, made_name_of, output_name, own_names}
use Rattle.cu_fuse.proofs.InlinedPlans.{arrays_long, chosen_may, input_left, ops_long, projection_is, same_layouts, same_maker, same_node, same_op, within_allowed}
use Rattle.cu_fuse.proofs.InlinedSound.{inlined_sound, same_values}
use Rattle.cu_fuse.specs.Close.{HasInputsFirst, HasMadeNames}
use Rattle.cu_fuse.specs.Inlining.{inlined_by, IsInlinedOf}
use Rattle.cu_name.specs.Keys.{made_prefix_of}
use Rattle.cu_op.specs.Arrays.{array_at, is_inlined, maker_at, AllStored}
use Rattle.cu_op.specs.Elements.{Elements}
use Rattle.cu_op.specs.Names.{HasOwnNames}
use Rattle.cu_op.specs.PlanView.{PlanView, op_of, operation_at}
use Rattle.cu_op.specs.Sound.{Sound}
use Rattle.cu_op.specs.Value.{plan_value}
use Rattle.std.proofs.Common.{◌≡◌, ◌≢◌, ◌⊎◌, inl, inr, ℕ, ◌^◌, ◌<◌, ◌≤◌, false, List, length, None, refl, ap, sym, ◌∙◌, subst, arith, Bool}

module _ (p q : PlanView) (r : IsInlinedOf p q) where
  abbrev chosen : ℕ → Bool
  chosen = is_inlined q.arrays

  -- what holds of the plan by its definition
  over : (P : PlanView → Type 0) → P (inlined_by p chosen) → P q
  over P h = subst P (sym r.plan) h

  pub sound_is : Sound p → HasMadeNames p → AllStored p.arrays → p.allowed < 2 ^ 64 → Sound q
  sound_is s names stored allowed = over Sound (inlined_sound p chosen r.choice s stored names allowed)

  pub long_is : (length q.arrays ≡ length p.arrays) × (length q.ops ≡ length p.ops)
  long_is = over (λ x. (length x.arrays ≡ length p.arrays) × (length x.ops ≡ length p.ops)) (arrays_long p chosen, ops_long p chosen)

  pub needs_is : (k : ℕ) → Sound p → AllStored p.arrays → ((j : ℕ) → j < length p.ops → (operation_at p.ops j).projected ≤ p.allowed)
      → k < length q.ops → (operation_at q.ops k).projected ≤ p.allowed
  needs_is k s stored all h =
      let l = long_is.1 in
      let b : k < length p.ops = omega (arith, l, h) in
      over (λ x. (operation_at x.ops k).projected ≤ p.allowed)
      (let is = projection_is p chosen s r.choice k b in
      let few = within_allowed p chosen s r.choice k b stored (all k b) in
      omega (arith, is, few))

  pub numbers_is : (q.out ≡ p.out) × (q.allowed ≡ p.allowed) × (q.reserved ≡ p.reserved)
  numbers_is = over (λ x. (x.out ≡ p.out) × (x.allowed ≡ p.allowed) × (x.reserved ≡ p.reserved)) (refl, refl, refl)

  pub op_is : (k : ℕ) → (op_of q k ≡ op_of p k) × ((operation_at q.ops k).node ≡ (operation_at p.ops k).node)
  op_is k = over (λ x. (op_of x k ≡ op_of p k) × ((operation_at x.ops k).node ≡ (operation_at p.ops k).node)) (same_op p chosen k, same_node p chosen k)

  pub layout_is : (a : ℕ) → (array_at q.arrays a).layout ≡ (array_at p.arrays a).layout
  layout_is a = over (λ x. (array_at x.arrays a).layout ≡ (array_at p.arrays a).layout) ((same_layouts p chosen).at a)

  pub maker_is : (a : ℕ) → maker_at q.arrays a ≡ maker_at p.arrays a
  maker_is a = over (λ x. maker_at x.arrays a ≡ maker_at p.arrays a) (same_maker p chosen a)

  pub input_is : (a : ℕ) → AllStored p.arrays → maker_at p.arrays a ≡ None → array_at q.arrays a ≡ array_at p.arrays a
  input_is a stored none =
      over (λ x. array_at x.arrays a ≡ array_at p.arrays a)
      (input_kept p chosen a (stored_at p.arrays a stored) (input_left p chosen r.choice a none) none)

  pub first_is : (n : ℕ) → HasInputsFirst p n → HasInputsFirst q n
  first_is n h =
      let l = long_is.0 in
      record {
        few = (let f = h.few in omega (arith, l, f));
        given = λ a b. maker_is a ∙ h.given a b;
        alone = λ a b none. h.alone a (omega (arith, l, b)) (sym (maker_is a) ∙ none);
      }

  pub output_is : Sound p → (is_inlined q.arrays q.out ≡ false) × ((array_at q.arrays q.out).prefix ≡ (array_at p.arrays p.out).prefix)
  output_is s = (
    ap (is_inlined q.arrays) numbers_is.0
        ∙ (elim (bool_cases (is_inlined q.arrays p.out)) [
          | inl t ↦ absurd (let (k, i, at, may, room) = chosen_may p chosen r.choice p.out t in may.inner refl)
          | inr f ↦ f
        ]),
    over (λ x. (array_at x.arrays x.out).prefix ≡ (array_at p.arrays p.out).prefix) (output_name p chosen s),
  )

  pub value_is : (env : Elements) (a : ℕ) (idx : List ℕ) → plan_value q env a idx ≡ plan_value p env a idx
  value_is env a idx = over (λ x. plan_value x env a idx ≡ plan_value p env a idx) (λ i. same_values p chosen env i a idx)

  pub names_is : Sound p → AllStored p.arrays → HasOwnNames p.arrays → HasOwnNames q.arrays
  names_is s stored own = over (λ x. HasOwnNames x.arrays) (own_names p chosen s r.choice (λ a l. stored_at p.arrays a stored) own)

  pub made_is : (a : ℕ) → Sound p → a < length q.arrays → maker_at q.arrays a ≢ None → is_inlined q.arrays a ≡ false
      → ((array_at q.arrays a).prefix ≡ (array_at p.arrays p.out).prefix)
      ⊎ ((k : ℕ) × (k < 2 ^ 64) × ((array_at q.arrays a).prefix ≡ made_prefix_of (array_at p.arrays p.out).prefix k))
  made_is a s l made stored =
      over (λ x. a < length x.arrays → maker_at x.arrays a ≢ None → is_inlined x.arrays a ≡ false
      → ((array_at x.arrays a).prefix ≡ (array_at p.arrays p.out).prefix)
      ⊎ ((k : ℕ) × (k < 2 ^ 64) × ((array_at x.arrays a).prefix ≡ made_prefix_of (array_at p.arrays p.out).prefix k)))
      (λ b m f. made_name_of p chosen s r.choice a b m f) l made stored

-- there is one
pub one_plan : (p q r : PlanView) → IsInlinedOf p q → IsInlinedOf p r → q ≡ r
one_plan p q r x y =
    let same : is_inlined q.arrays ≡ is_inlined r.arrays = (λ i a. one_choice p (is_inlined q.arrays) (is_inlined r.arrays) x.choice y.choice a i) in
    x.plan ∙ ap (inlined_by p) same ∙ sym y.plan
