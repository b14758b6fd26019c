-- Each step keeps what a plan is for.
use Rattle.std.proofs.Common.{◌≡◌, ◌≢◌, ℕ, ◌<◌, ◌≤◌, ◌^◌, true, false, List, length, None, refl, ap, sym, ◌∙◌, subst, arith}
use Rattle.cu_fuse.proofs.ClosedNames.{encodings_kept, own_names}
use Rattle.cu_fuse.proofs.ClosedPlans.{closed_is_sound, closed_within, first_kept, inputs_kept, made_name, output_layout, output_made, output_name, result_kept, IsLeft}
use Rattle.cu_fuse.proofs.FusedPlans.{fused_left, fused_once_within, fused_within}
use Rattle.cu_fuse.proofs.JoinedCopies.{copies_left, within_joined}
use Rattle.cu_fuse.specs.Close.{closed, fused, fused_loading_once, setting_by, setting_of, HasInputsFirst, HasMadeNames}
use Rattle.cu_fuse.specs.Copies.{copies_joined, joined_copies}
use Rattle.cu_fuse.specs.Fused.{fused_ops}
use Rattle.cu_num.specs.declared.layout.Encoding.TheVariants.{Plain}
use Rattle.cu_num.specs.declared.layout.Sep.TheVariants.{Slash}
use Rattle.cu_op.proofs.AllStored.{stored_at}
use Rattle.cu_op.specs.Arrays.{array_at, is_inlined, maker_at, AllStored}
use Rattle.cu_op.specs.Elements.{Elements}
use Rattle.cu_op.specs.Names.{HasCells, HasOwnNames}
use Rattle.cu_op.specs.PlanView.{PlanView, operation_at}
use Rattle.cu_op.specs.Sound.{Sound}
use Rattle.cu_op.specs.Value.{plan_value}
use Rattle.cu_op.specs.declared.layout.Layout.{Layout}
use Rattle.cu_op.specs.declared.operation.Planned.{Planned}
use Rattle.cu_plan.specs.Keeping.{IsMadeName, KeepsPlan}
use Rattle.cu_shape.specs.Index.{IsInside}

-- what each operation needs is allowed
abbrev IsWithin : PlanView → Type 0
IsWithin p = (k : ℕ) → k < length p.ops → (operation_at p.ops k).projected ≤ p.allowed

-- the stored made arrays have the encoding "default" with "/"
abbrev IsPlain : PlanView → Type 0
IsPlain p = (a : ℕ) → HasCells p.arrays a → (array_at p.arrays a).layout.encoding ≡ Plain Slash

-- ---- of steps that put other operations in place of some

module _ (p : PlanView) (n : ℕ) (sound : Sound p) (stored : AllStored p.arrays) (names : HasMadeNames p) (first : HasInputsFirst p n)
    (output : maker_at p.arrays p.out ≢ None) (plain : IsPlain p) where
  closed_keeps : (ops : List Planned) → IsLeft p ops → IsWithin (closed (setting_of p) ops) → KeepsPlan p n (closed (setting_of p) ops)
  closed_keeps ops left needs =
      let again = closed_is_sound p ops sound stored names left in
      record {
        sound = again;
        allowed = refl;
        needs = needs;
        inputs = λ a l. inputs_kept p ops n first.few first.given first.alone a l;
        first = first_kept p ops n first.few first.given first.alone;
        name = output_name p ops left.out;
        layout = output_layout p ops left.out;
        output = output_made p ops left.out output;
        made = λ a cells. made_name p ops sound names a cells.within cells.made;
        apart = own_names p ops sound names;
        encodings = encodings_kept p ops sound names (Plain Slash) plain;
        value = λ env idx inside. result_kept p ops n first.few first.given first.alone sound again left env idx inside;
      }

  module _ (room : p.allowed < 2 ^ 64) (few : IsWithin p) where
    pub fused_keeps : KeepsPlan p n (fused p)
    fused_keeps = closed_keeps (fused_ops (setting_by false p) p.ops) (fused_left false p sound stored room) (fused_within p room few)

    pub fused_once_keeps : KeepsPlan p n (fused_loading_once p)
    fused_once_keeps = closed_keeps (fused_ops (setting_by true p) p.ops) (fused_left true p sound stored room) (fused_once_within p sound stored room few)

    pub copies_keep : KeepsPlan p n (copies_joined p)
    copies_keep =
        closed_keeps (joined_copies (setting_of p) p.ops) (copies_left p sound stored room)
        (closed_within p (joined_copies (setting_of p) p.ops) p.allowed (within_joined (setting_of p) p.ops few))

-- ---- of a step that leaves each array and each operation its number

module _ (q r : PlanView) (n : ℕ) (stored : AllStored q.arrays) (output : maker_at q.arrays q.out ≢ None) (plain : IsPlain q) (given : HasInputsFirst q n) where
  pub inlined_keeps : Sound r → IsWithin r → (r.out ≡ q.out) × (r.allowed ≡ q.allowed) × (r.reserved ≡ q.reserved)
      → length r.arrays ≡ length q.arrays → ((a : ℕ) → (array_at r.arrays a).layout ≡ (array_at q.arrays a).layout)
      → ((a : ℕ) → maker_at r.arrays a ≡ maker_at q.arrays a) → ((a : ℕ) → maker_at q.arrays a ≡ None → array_at r.arrays a ≡ array_at q.arrays a)
      → HasInputsFirst r n → (array_at r.arrays r.out).prefix ≡ (array_at q.arrays q.out).prefix → (HasOwnNames q.arrays → HasOwnNames r.arrays)
      → ((a : ℕ) → a < length r.arrays → maker_at r.arrays a ≢ None → is_inlined r.arrays a ≡ false → IsMadeName (array_at q.arrays q.out).prefix (array_at r.arrays a).prefix)
      → ((env : Elements) (a : ℕ) (idx : List ℕ) → plan_value r env a idx ≡ plan_value q env a idx) → KeepsPlan q n r
  inlined_keeps sound needs numbers long layouts makers inputs first name apart made values =
      let out = numbers.0 in
      record {
        sound = sound;
        allowed = numbers.1;
        needs = λ j l. subst (λ m. (operation_at r.ops j).projected ≤ m) numbers.1 (needs j l);
        inputs = λ a l. inputs a (given.given a l);
        first = first;
        name = name;
        layout = layouts r.out ∙ ap (λ a. (array_at q.arrays a).layout) out;
        output = λ none. output (ap (maker_at q.arrays) (sym out) ∙ sym (makers r.out) ∙ none);
        made = λ a cells. made a cells.within cells.made cells.stored;
        apart = apart;
        encodings = λ a cells. ap (λ (l : Layout). l.encoding) (layouts a) ∙ plain a (had a cells);
        value = λ env idx inside. ap (λ a. plan_value r env a idx) out ∙ values env q.out idx;
      }
    where
      had : (a : ℕ) → HasCells r.arrays a → HasCells q.arrays a
      had a cells = record {
        within = (let l = cells.within in omega (arith, l, long));
        made = λ none. cells.made (makers a ∙ none);
        stored = stored_at q.arrays a stored;
      }

-- ---- of two steps

pub both_keep : (p q r : PlanView) (n : ℕ) → KeepsPlan p n q → KeepsPlan q n r → KeepsPlan p n r
both_keep p q r n one two = record {
  sound = two.sound;
  allowed = two.allowed ∙ one.allowed;
  needs = λ k l. subst (λ m. (operation_at r.ops k).projected ≤ m) one.allowed (two.needs k l);
  inputs = λ a l. two.inputs a l ∙ one.inputs a l;
  first = two.first;
  name = two.name ∙ one.name;
  layout = two.layout ∙ one.layout;
  output = two.output;
  made = λ a cells. subst (λ own. IsMadeName own (array_at r.arrays a).prefix) one.name (two.made a cells);
  apart = λ names. two.apart (one.apart names);
  encodings = two.encodings;
  value = λ env idx inside.
      two.value env idx (subst (λ (l : Layout). IsInside l.grid.shape idx) (sym one.layout) inside) ∙ one.value env idx inside;
}
