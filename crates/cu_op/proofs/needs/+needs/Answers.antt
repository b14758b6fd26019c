use Rattle.cu_op.proofs.Depths.{within_opened}
use Rattle.cu_op.proofs.NeededTogether.{first_part, last_part, more_need, next_part, one_more, sums_fit}
use Rattle.cu_op.proofs.needs.+needs.Goals as goal
use Rattle.cu_op.specs.Needs.{inner_ops, plan_over, IsCountable, IsNeedOf, IsOrdered}
use Rattle.cu_op.specs.Operation.{reads_of, IsReadable}
use Rattle.cu_op.specs.PlanView.{no_operation, op_of, operation_at}
use Rattle.cu_op.specs.Projection.{input_room}
use Rattle.cu_op.specs.Within.{ops_within}
use Rattle.cu_op.specs.declared.layout.ArrayInfo.{ArrayInfo}
use Rattle.cu_op.specs.declared.needs.Needs.{Needs}
use Rattle.cu_op.specs.declared.operation.Op.{Op}
use Rattle.cu_op.specs.declared.operation.Planned.{Planned}
use Rattle.std.proofs.Common.{◌≡◌, ◌+◌, ◌^◌, ◌<◌, ◌≤◌, ◌++◌, ℕ, List, [], ◌∷◌, length, max, take, get_or, ap, sym, ◌∙◌, subst, arith}
use Rattle.std.proofs.lemmas.List.{get_or_default, take_all}
use Rattle.std.proofs.lemmas.List.Sums.{sum_by-cons}
use Rattle.std.specs.List.{flat_map}

-- the operation is the one of its number, and what it reads is what that one reads
same_reads : (ops : List Planned) (k : ℕ) (x : Planned) (items : List ℕ) → k < length ops
    → items ≡ reads_of (get_or ops k x).op → items ≡ reads_of (operation_at ops k).op
same_reads ops k x items h e = e ∙ ap (λ (o : Planned). reads_of o.op) (get_or_default ops k x no_operation h)

-- a place that the loop has come to
below : (n at : ℕ) (items seen : List ℕ) → at < n → n ≡ length items → seen ≡ items
    → at < length seen
below n at items seen h e d = let same = ap length d in omega (arith, h, e, same)

module _ (arrays : List ArrayInfo) (ops : List Planned) (o : IsOrdered arrays ops) (k : ℕ) (h : k < length ops) where
  abbrev op : Op
  op = op_of (plan_over arrays ops 0) k

  abbrev inner : ℕ → List Op
  inner a = inner_ops (plan_over arrays ops 0) a

  all : IsCountable arrays (ops_within (plan_over arrays ops 0) k) → IsCountable arrays (op ∷ flat_map inner (reads_of op))
  all small = subst (IsCountable arrays) (within_opened (plan_over arrays ops 0) o k h) small

  own_fits : (x : Planned) → IsCountable arrays (ops_within (plan_over arrays ops 0) k)
      → input_room arrays (get_or ops k x).op < 2 ^ 64
  own_fits x small =
      let one = (first_part arrays (op ∷ []) (flat_map inner (reads_of op)) (all small)).inputs in
      let e = sum_by-cons (input_room arrays) op [] in
      let here : input_room arrays op < 2 ^ 64 = omega (arith, one, e) in
      subst (λ (p : Planned). input_room arrays p.op < 2 ^ 64) (sym (get_or_default ops k x no_operation h)) here

  module _ (seen : List ℕ) (same : seen ≡ reads_of op) (at : ℕ) (l : at < length seen) where
    readable : IsReadable arrays k (get_or seen at 0)
    readable =
        subst (λ (reads : List ℕ). IsReadable arrays k (get_or reads at 0)) (sym same)
        (o.reads k h at 0 (subst (λ (reads : List ℕ). at < length reads) same l))

    countable : IsCountable arrays (ops_within (plan_over arrays ops 0) k)
        → IsCountable arrays ((op ∷ flat_map inner (take at (reads_of op))) ++ inner (get_or seen at 0))
    countable small =
        subst (λ (reads : List ℕ). IsCountable arrays ((op ∷ flat_map inner (take at (reads_of op))) ++ inner (get_or reads at 0))) (sym same)
        (next_part arrays inner op (reads_of op) at 0 (subst (λ (reads : List ℕ). at < length reads) same l) (all small))

    inner_countable : IsCountable arrays (ops_within (plan_over arrays ops 0) k)
        → IsCountable arrays (inner (get_or seen at 0))
    inner_countable small = last_part arrays (op ∷ flat_map inner (take at (reads_of op))) (inner (get_or seen at 0)) (countable small)

    fits : (m n : Needs) → IsCountable arrays (ops_within (plan_over arrays ops 0) k)
        → IsNeedOf arrays (op ∷ flat_map inner (take at (reads_of op))) m
        → IsNeedOf arrays (inner (get_or seen at 0)) n
        → (m.inputs + n.inputs < 2 ^ 64) × (m.steps + n.steps < 2 ^ 64)
    fits m n small x y = sums_fit arrays (op ∷ flat_map inner (take at (reads_of op))) (inner (get_or seen at 0)) m n (countable small) x y

    preserved : (m n r : Needs) → IsNeedOf arrays (op ∷ flat_map inner (take at (reads_of op))) m
        → IsNeedOf arrays (inner (get_or seen at 0)) n → r.scratch ≡ max m.scratch n.scratch
        → r.inputs ≡ m.inputs + n.inputs → r.steps ≡ m.steps + n.steps
        → IsNeedOf arrays (op ∷ flat_map inner (take (at + 1) (reads_of op))) r
    preserved m n r x y a b d =
        let next = one_more inner op (reads_of op) at 0 (subst (λ (reads : List ℕ). at < length reads) same l) in
        let there = subst (λ (reads : List ℕ). IsNeedOf arrays (inner (get_or reads at 0)) n) same y in
        subst (λ (os : List Op). IsNeedOf arrays os r) (sym next) (more_need arrays (op ∷ flat_map inner (take at (reads_of op))) (inner (get_or (reads_of op) at 0)) m n r x there a b d)

  whole : (at : ℕ) (n : Needs) → length (reads_of op) ≤ at
      → IsNeedOf arrays (op ∷ flat_map inner (take at (reads_of op))) n
      → IsNeedOf arrays (ops_within (plan_over arrays ops 0) k) n
  whole at n l x =
      let e = within_opened (plan_over arrays ops 0) o k h in
      subst (λ (os : List Op). IsNeedOf arrays os n) (sym e)
      (subst (λ (reads : List ℕ). IsNeedOf arrays (op ∷ flat_map inner reads) n) (take_all at (reads_of op) l) x)

pub needs_within-own_needs-needs-requires-clause-small : goal.needs_within-own_needs-needs-requires-clause-small
needs_within-own_needs-needs-requires-clause-small t c =
    own_fits c.args.arrays.now c.args.ops.now c.requires.ordered c.args.op c.requires.operation c.index-ops-op.result c.requires.small

pub needs_within-inner_needs-inner-requires : goal.needs_within-inner_needs-inner-requires
needs_within-inner_needs-inner-requires t c =
    let arrays = c.args.arrays.now in
    let ops = c.args.ops.now in
    let o = c.requires.ordered in
    let h = c.requires.operation in
    let same = c.deref.ensures.0 ∙ same_reads ops c.args.op c.index-ops-op.result c.reads-reads.result.items h c.reads-reads.ensures in
    let l = below c.len-at-end.result c.loop-at.at c.reads-reads.result.items c.deref.result.now c.loop-at-test.true c.len-at-end.ensures.value c.deref.ensures.0 in (
      omega (arith, c.decreases),
      (h, (o, (readable arrays ops o c.args.op h c.deref.result.now same c.loop-at.at l, inner_countable arrays ops o c.args.op h c.deref.result.now same c.loop-at.at l c.requires.small))),
    )

pub needs_within-together-needs-requires-clause-inputs : goal.needs_within-together-needs-requires-clause-inputs
needs_within-together-needs-requires-clause-inputs t c =
    let ops = c.args.ops.now in
    let h = c.requires.operation in
    let same = c.deref.ensures.0 ∙ same_reads ops c.args.op c.index-ops-op.result c.reads-reads.result.items h c.reads-reads.ensures in
    let l = below c.len-at-end.result c.loop-at.at c.reads-reads.result.items c.deref.result.now c.loop-at-test.true c.len-at-end.ensures.value c.deref.ensures.0 in
    (fits c.args.arrays.now ops c.requires.ordered c.args.op h c.deref.result.now same c.loop-at.at l c.loop-at.needs c.inner_needs-inner.result c.requires.small c.loop-at.invariant c.inner_needs-inner.ensures).0

pub needs_within-together-needs-requires-clause-steps : goal.needs_within-together-needs-requires-clause-steps
needs_within-together-needs-requires-clause-steps t c =
    let ops = c.args.ops.now in
    let h = c.requires.operation in
    let same = c.deref.ensures.0 ∙ same_reads ops c.args.op c.index-ops-op.result c.reads-reads.result.items h c.reads-reads.ensures in
    let l = below c.len-at-end.result c.loop-at.at c.reads-reads.result.items c.deref.result.now c.loop-at-test.true c.len-at-end.ensures.value c.deref.ensures.0 in
    (fits c.args.arrays.now ops c.requires.ordered c.args.op h c.deref.result.now same c.loop-at.at l c.loop-at.needs c.inner_needs-inner.result c.requires.small c.loop-at.invariant c.inner_needs-inner.ensures).1

pub needs_within-loop-at-preserved : goal.needs_within-loop-at-preserved
needs_within-loop-at-preserved t c =
    let ops = c.args.ops.now in
    let h = c.requires.operation in
    let same = c.deref.ensures.0 ∙ same_reads ops c.args.op c.index-ops-op.result c.reads-reads.result.items h c.reads-reads.ensures in
    let l = below c.len-at-end.result c.loop-at.at c.reads-reads.result.items c.deref.result.now c.loop-at-test.true c.len-at-end.ensures.value c.deref.ensures.0 in
    preserved c.args.arrays.now ops c.requires.ordered c.args.op h c.deref.result.now same c.loop-at.at l c.loop-at.needs c.inner_needs-inner.result c.together-needs.result c.loop-at.invariant
    c.inner_needs-inner.ensures c.together-needs.ensures.scratch c.together-needs.ensures.inputs c.together-needs.ensures.steps

pub needs_within-returns : goal.needs_within-returns
needs_within-returns t c =
    let ops = c.args.ops.now in
    let h = c.requires.operation in
    let same = same_reads ops c.args.op c.index-ops-op.result c.reads-reads.result.items h c.reads-reads.ensures in
    let f = c.loop-at-test.false in
    let v = c.len-at-end.ensures.value in
    let l : length c.reads-reads.result.items ≤ c.loop-at.at = omega (arith, f, v) in
    whole c.args.arrays.now ops c.requires.ordered c.args.op h c.loop-at.at c.loop-at.needs (subst (λ (reads : List ℕ). length reads ≤ c.loop-at.at) same l) c.loop-at.invariant
