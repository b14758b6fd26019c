-- Each value of a sound plan is a number of its array's type, where the inputs' are.
use Rattle.cu_grid.specs.Grid.{IsGrid}
use Rattle.cu_num.proofs.ElementBytes.{InRange-element_at}
use Rattle.cu_num.specs.Dtype.{InRange}
use Rattle.cu_num.specs.Element.{element_at}
use Rattle.cu_op.proofs.KindLaws.{laws_of}
use Rattle.cu_op.proofs.Members.{bool_cases, any_contains, contains_any}
use Rattle.cu_op.proofs.Operations.{Fit, nested_writes, reads_inside}
use Rattle.cu_op.proofs.Plans.{grid_ok}
use Rattle.cu_op.proofs.Values.{reads_listed}
use Rattle.cu_op.specs.Arrays.{array_at, grid_at, maker_at, no_array, type_at, layout_at}
use Rattle.cu_op.specs.Cells.{task_grid}
use Rattle.cu_op.specs.Layout.{IsArray}
use Rattle.cu_op.specs.Operation.{writes_of, reads_of, IsReadable, IsBefore}
use Rattle.cu_op.specs.PlanView.{PlanView, operation_at}
use Rattle.cu_op.specs.Schedule.{IsNested}
use Rattle.cu_op.specs.Sound.{Sound, IsOperation}
use Rattle.cu_op.specs.Elements.{Elements}
use Rattle.cu_op.specs.Value.{plan_value, updated, values_after, stored_inputs, HasTypes}
use Rattle.cu_op.specs.declared.layout.ArrayInfo.{ArrayInfo}
use Rattle.cu_op.specs.declared.operation.Planned.{Planned}
use Rattle.cu_shape.specs.Index.{IsInside, place_of, quotients, remainders}
use Rattle.cu_zarr.specs.Key.{chunk_key_of}
use Rattle.cu_zarr.specs.Layout.{ArrayLayout, stored_chunk_bytes}
use Rattle.cu_zarr.specs.Stored.{element_in}
use Rattle.std.proofs.Common.{◌≡◌, inl, inr, ℕ, ℤ, suc, ◌<◌, ◌+◌, ◌==◌, List, [], ◌∷◌, length, All, Contains, Option, None, Some, refl, ap, sym, ◌∙◌, subst, arith}
use Rattle.std.proofs.lemmas.Bool.Decides.{eqb_tells}
use Rattle.std.proofs.lemmas.List.Elements.{All-contains}
use Rattle.std.proofs.lemmas.Option.{same_Some}
use Rattle.std.specs.List.{list_any}

-- the elements of the arrays that are given or made before operation n have their types
abbrev TypedUpTo : List ArrayInfo → ℕ → Elements → Type 0
TypedUpTo arrays n at = (a : ℕ) (idx : List ℕ) (x : ℤ) → IsReadable arrays n a → IsInside (grid_at arrays a).shape idx → at a idx ≡ Some x → InRange (type_at arrays a) x

module _ (arrays : List ArrayInfo) (grids : (a : ℕ) → a < length arrays → IsGrid (grid_at arrays a)) where
  step_range : (o : Planned) (n : ℕ) (at : Elements) → IsOperation arrays n o.op → ((a : ℕ) → a < length arrays → maker_at arrays a ≡ Some n → Contains (writes_of o.op) a)
      → TypedUpTo arrays n at → TypedUpTo arrays (n + 1) (updated o.op arrays at)
  step_range o n at ok all typed a idx x readable inside v =
      elim (bool_cases (list_any (λ b. b == a) (writes_of o.op))) [
        | inl t ↦
            let among = any_contains (writes_of o.op) a t in
            let fit : Fit arrays n o.op = (ok.reads, ok.writes, ok.fits) in
            let nested = All-contains (λ b. IsNested (grid_at arrays b) (task_grid arrays o.op)) (writes_of o.op) a (nested_writes arrays grids n o.op fit) among in
            let wide : IsInside (task_grid arrays o.op).shape idx = subst (λ (ns : List ℕ). IsInside ns idx) (sym nested.shape) inside in
            (laws_of o.op).range arrays at a idx x among ok.fits wide
            (λ b i y r e. typed b i y (All-contains (IsReadable arrays n) (reads_of o.op) b ok.reads (reads_listed o.op arrays idx b i r)) (reads_inside arrays grids n o.op b idx i fit wide r) e)
            (λ b i r. (reads_inside arrays grids n o.op b idx i fit wide r, (grids b (All-contains (IsReadable arrays n) (reads_of o.op) b ok.reads (reads_listed o.op arrays idx b i r)).0).elements))
            (rw t at v)
        | inr f ↦ typed a idx x (readable.0, earlier (maker_at arrays a) readable.1 (λ e. let c = contains_any (writes_of o.op) a (all a readable.0 e) in cc)) inside (rw f at v)
      ]
    where
      earlier : (m : Option ℕ) → IsBefore m (n + 1) → (m ≡ Some n → ⊥) → IsBefore m n
      earlier None h other = tt
      earlier (Some k) h other = elim (eqb_tells k n) [ inl e ↦ absurd (other (ap Some e.1)) | inr e ↦ let d = e.1 in omega arith ]

  after_range : (os : List Planned) (n : ℕ) (at : Elements)
      → ((k : ℕ) → k < length os → IsOperation arrays (n + k) (operation_at os k).op)
      → ((k a : ℕ) → k < length os → a < length arrays → maker_at arrays a ≡ Some (n + k) → Contains (writes_of (operation_at os k).op) a)
      → TypedUpTo arrays n at → TypedUpTo arrays (n + length os) (values_after os arrays at)
  after_range [] n at ok all typed = subst (λ (m : ℕ). TypedUpTo arrays m at) (let e : n ≡ n + 0 = omega arith in e) typed
  after_range (o ∷ os) n at ok all typed =
      let first : IsOperation arrays n o.op = subst (λ (m : ℕ). IsOperation arrays m o.op) (let e : n + 0 ≡ n = omega arith in e) (ok 0 (omega arith)) in
      let next = step_range o n at first (λ a l e. all 0 a (omega arith) l (e ∙ ap Some (let f : n ≡ n + 0 = omega arith in f))) typed in
      let rest = after_range os (n + 1) (updated o.op arrays at)
      (λ k l. subst (λ (m : ℕ). IsOperation arrays m (operation_at os k).op) (let e : n + suc k ≡ n + 1 + k = omega arith in e) (ok (suc k) (omega arith)))
      (λ k a l b e. all (suc k) a (omega arith) b (e ∙ ap Some (let f : n + 1 + k ≡ n + suc k = omega arith in f))) next in
      subst (λ (m : ℕ). TypedUpTo arrays m (values_after os arrays (updated o.op arrays at))) (let e : n + 1 + length os ≡ n + suc (length os) = omega arith in e) rest

pub value_range : (p : PlanView) (env : Elements) → Sound p → HasTypes p.arrays env
    → (a : ℕ) (idx : List ℕ) (x : ℤ) → a < length p.arrays → IsInside (grid_at p.arrays a).shape idx → plan_value p env a idx ≡ Some x → InRange (type_at p.arrays a) x
value_range p env s typed a idx x l inside v =
    after_range p.arrays (λ b h. grid_ok p b s h) p.ops 0 env
    (λ k b. subst (λ (m : ℕ). IsOperation p.arrays m (operation_at p.ops k).op) (let e : k ≡ 0 + k = omega arith in e) (s.operations k b))
    (λ k b h within e. (s.makers b k within (e ∙ ap Some (let f : 0 + k ≡ k = omega arith in f))).1)
    (λ b i y readable there e. typed b i y readable.0 (none_before (maker_at p.arrays b) readable.1) e)
    a idx x (l, before_end (maker_at p.arrays a) (λ k e. (s.makers a k l e).0)) inside v
  where
    none_before : (m : Option ℕ) → IsBefore m 0 → m ≡ None
    none_before None h = refl
    none_before (Some k) h = absurd (omega arith)

    before_end : (m : Option ℕ) → ((k : ℕ) → m ≡ Some k → k < length p.ops) → IsBefore m (0 + length p.ops)
    before_end None h = tt
    before_end (Some k) h = let b = h k refl in omega (arith, b)

-- what a store holds of an array is a number of its type
element_range : (l : ArrayLayout) (held : Option (List ℕ)) (idx : List ℕ) (x : ℤ) → InRange l.dtype l.fill → element_in l held idx ≡ Some x → InRange l.dtype x
element_range l None idx x fill e = subst (InRange l.dtype) (same_Some l.fill x e) fill
element_range l (Some bytes) idx x fill e =
    elim (eqb_tells (length bytes) (stored_chunk_bytes l)) [
      | inl p ↦
          let v : Some (element_at l.endian l.dtype bytes (place_of l.chunk (remainders idx l.chunk))) ≡ Some x = rw p.0 at e in
          subst (InRange l.dtype) (same_Some _ x v) (InRange-element_at l.endian l.dtype bytes (place_of l.chunk (remainders idx l.chunk)))
      | inr p ↦ let v = rw p.0 at e in cc
    ]

pub stored_range : (arrays : List ArrayInfo) (held : List ℕ → Option (List ℕ)) → All IsArray arrays → HasTypes arrays (stored_inputs arrays held)
stored_range arrays held ok a idx x within made e =
    element_range (layout_at arrays a) (held (chunk_key_of (array_at arrays a).prefix (layout_at arrays a).encoding (quotients idx (layout_at arrays a).chunk))) idx x (ok a no_array within).fill e
