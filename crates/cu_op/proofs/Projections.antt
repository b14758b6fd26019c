-- The memory of an operation with those that stand inside: what it depends on, and that what
-- stands inside needs no more.
use Rattle.cu_op.proofs.Depths.{flat_alike, ordered, within_opened}
use Rattle.cu_op.proofs.KindLaws.{laws_of}
use Rattle.cu_op.proofs.Lists.{greatest_append}
use Rattle.cu_op.proofs.Members.{only_member}
use Rattle.cu_op.proofs.Plans.{inner_kind}
use Rattle.cu_op.specs.Arrays.{chunk_room, is_inlined, maker_at}
use Rattle.cu_op.specs.Needs.{inner_ops, plan_over, within_maker, IsCountable}
use Rattle.cu_op.specs.Operation.{reads_of, target_of, IsReadable}
use Rattle.cu_op.specs.PlanView.{PlanView, op_of}
use Rattle.cu_op.specs.Projection.{input_room, instruction_count, output_room, projection, scratch_room}
use Rattle.cu_op.specs.Sound.{Sound}
use Rattle.cu_op.specs.Within.{made_by, maker_op, ops_deep, ops_within}
use Rattle.cu_op.specs.declared.layout.ArrayInfo.{ArrayInfo}
use Rattle.cu_op.specs.declared.operation.Op.{Op}
use Rattle.cu_shape.specs.Counts.{largest}
use Rattle.std.proofs.Common.{◌≡◌, ℕ, zero, suc, ◌+◌, ◌*◌, ◌<◌, ◌≤◌, true, List, [], ◌∷◌, length, map, Contains, Option, None, Some, refl, ap, sym, ◌∙◌, subst, arith, if◌then◌else◌}
use Rattle.std.proofs.lemmas.List.{map-append}
use Rattle.std.proofs.lemmas.List.Elements.{All-contains}
use Rattle.std.proofs.lemmas.List.Sums.{sum_by-append, sum_by-cons}
use Rattle.std.specs.List.{flat_map}
use Rattle.std.specs.Prelude.{sum_by}

-- ---- plans of the same arrays and operations

module _ (p q : PlanView) (arrays : p.arrays ≡ q.arrays) (ops : (j : ℕ) → op_of p j ≡ op_of q j) where
  same_made : (m : Option ℕ) → made_by p m ≡ made_by q m
  same_made None = refl
  same_made (Some k) = ops k

  same_deep : (n : ℕ) (op : Op) → ops_deep p n op ≡ ops_deep q n op
  same_deep zero op = refl
  same_deep (suc n) op =
      ap (λ (rest : List Op). op ∷ rest)
      (flat_alike (λ a. if is_inlined p.arrays a then ops_deep p n (maker_op p a) else []) (λ a. if is_inlined q.arrays a then ops_deep q n (maker_op q a) else []) (reads_of op) (λ a there.
      let maker : maker_op p a ≡ maker_op q a = same_made (maker_at p.arrays a) ∙ ap (λ (given : List ArrayInfo). made_by q (maker_at given a)) arrays in
      let inner = same_deep n (maker_op p a) ∙ ap (ops_deep q n) maker in
      ap (λ (os : List Op). if is_inlined p.arrays a then os else []) inner ∙ ap (λ (given : List ArrayInfo). if is_inlined given a then ops_deep q n (maker_op q a) else []) arrays))

  same_within : (k : ℕ) → ops_within p k ≡ ops_within q k
  same_within k = same_deep k (op_of p k) ∙ ap (ops_deep q k) (ops k)

  -- need as much
  pub same_projection : (k : ℕ) → p.reserved ≡ q.reserved → projection p k ≡ projection q k
  same_projection k reserved =
      let whole = λ (r : ℕ) (given : List ArrayInfo) (os : List Op) (op : Op).
      r + largest (map (scratch_room given) os) + sum_by (input_room given) os + output_room given op + 512 * sum_by instruction_count os in
      ap (λ (r : ℕ). whole r p.arrays (ops_within p k) (op_of p k)) reserved
      ∙ ap (λ (given : List ArrayInfo). whole q.reserved given (ops_within p k) (op_of p k)) arrays
      ∙ ap (λ (os : List Op). whole q.reserved q.arrays os (op_of p k)) (same_within k)
      ∙ ap (λ (op : Op). whole q.reserved q.arrays (ops_within q k) op) (ops k)

-- ---- of a plan without what else it says

pub over_within : (p : PlanView) (k : ℕ) → ops_within (plan_over p.arrays p.ops 0) k ≡ ops_within p k
over_within p k = same_within (plan_over p.arrays p.ops 0) p refl (λ j. refl) k

-- what an operation of a sound plan and those inside need can be counted
pub countable_within : (p : PlanView) → Sound p → (k : ℕ) → k < length p.ops
    → IsCountable p.arrays (ops_within (plan_over p.arrays p.ops 0) k)
countable_within p s k h =
    let room = s.rooms k h in
    subst (IsCountable p.arrays) (sym (over_within p k)) (record { inputs = omega (arith, room); steps = omega (arith, room) })

-- ---- what stands inside

-- one list among several that are put one behind another
inner_sum : (f : Op → ℕ) (g : ℕ → List Op) (xs : List ℕ) (a : ℕ) → Contains xs a
    → sum_by f (g a) ≤ sum_by f (flat_map g xs)
inner_sum f g [] a (i, l, e) = absurd (omega (arith, l))
inner_sum f g (x ∷ xs) a (zero, l, e) =
    let all = sum_by-append f (g x) (flat_map g xs) in
    subst (λ (b : ℕ). sum_by f (g b) ≤ sum_by f (flat_map g (x ∷ xs))) e (omega (arith, all))
inner_sum f g (x ∷ xs) a (suc i, l, e) =
    let all = sum_by-append f (g x) (flat_map g xs) in
    let rest = inner_sum f g xs a (i, (let b : suc i < suc (length xs) = l in omega arith), e) in
    omega (arith, all, rest)

inner_greatest : (f : Op → ℕ) (g : ℕ → List Op) (xs : List ℕ) (a : ℕ) → Contains xs a
    → largest (map f (g a)) ≤ largest (map f (flat_map g xs))
inner_greatest f g [] a (i, l, e) = absurd (omega (arith, l))
inner_greatest f g (x ∷ xs) a (zero, l, e) =
    let all = ap largest (map-append f (g x) (flat_map g xs)) ∙ greatest_append (map f (g x)) (map f (flat_map g xs)) in
    subst (λ (b : ℕ). largest (map f (g b)) ≤ largest (map f (flat_map g (x ∷ xs)))) e (omega (arith, all))
inner_greatest f g (x ∷ xs) a (suc i, l, e) =
    let all = ap largest (map-append f (g x) (flat_map g xs)) ∙ greatest_append (map f (g x)) (map f (flat_map g xs)) in
    let rest = inner_greatest f g xs a (i, (let b : suc i < suc (length xs) = l in omega arith), e) in
    omega (arith, all, rest)

-- an operation whose result is made where it is read needs no more than what reads it
pub inner_projection : (p : PlanView) (j k a : ℕ) → Sound p → k < length p.ops
    → Contains (reads_of (op_of p k)) a → is_inlined p.arrays a ≡ true → maker_at p.arrays a ≡ Some j
    → projection p j ≤ projection p k
inner_projection p j k a s h read inner made =
    let op = op_of p k in
    let arrays = p.arrays in
    let readable = All-contains (IsReadable arrays k) (reads_of op) a (s.operations k h).reads read in
    let one = inner_kind p j a s readable.0 inner made in
    let target : target_of (op_of p j) ≡ a =
    only_member (target_of (op_of p j)) a (subst (λ (ws : List ℕ). Contains ws a) ((laws_of (op_of p j)).one_written one) (s.makers a j readable.0 made).1) in
    let result : output_room arrays (op_of p j) ≡ chunk_room arrays a = (laws_of (op_of p j)).one_room arrays one ∙ ap (chunk_room arrays) target in
    let region = (laws_of op).by_chunk_room arrays a ((s.inlined a readable.0 inner).reader k h read) in
    let own : inner_ops p a ≡ ops_within p j = rw inner (ap (within_maker p) made) in
    let opened = within_opened p (ordered p s) k h in
    let rest = flat_map (inner_ops p) (reads_of op) in
    let inputs : sum_by (input_room arrays) (ops_within p k) ≡ input_room arrays op + sum_by (input_room arrays) rest =
    ap (sum_by (input_room arrays)) opened ∙ sum_by-cons (input_room arrays) op rest in
    let steps : sum_by instruction_count (ops_within p k) ≡ instruction_count op + sum_by instruction_count rest =
    ap (sum_by instruction_count) opened ∙ sum_by-cons instruction_count op rest in
    let scratch : largest (map (scratch_room arrays) (ops_within p k)) ≡ largest (map (scratch_room arrays) (op ∷ rest)) = ap (λ (os : List Op). largest (map (scratch_room arrays) os)) opened in
    let a1 = subst (λ (os : List Op). sum_by (input_room arrays) os ≤ sum_by (input_room arrays) rest) own (inner_sum (input_room arrays) (inner_ops p) (reads_of op) a read) in
    let a2 = subst (λ (os : List Op). sum_by instruction_count os ≤ sum_by instruction_count rest) own (inner_sum instruction_count (inner_ops p) (reads_of op) a read) in
    let a3 = subst (λ (os : List Op). largest (map (scratch_room arrays) os) ≤ largest (map (scratch_room arrays) rest)) own (inner_greatest (scratch_room arrays) (inner_ops p) (reads_of op) a read) in
    omega (arith, result, region, inputs, steps, scratch, a1, a2, a3)
