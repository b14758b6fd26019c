use Rattle.std.proofs.Common.{◌≡◌, ◌<◌, ◌++◌, ℕ, length, map, drop, get_or, refl, ap, sym, ◌∙◌, subst, arith, if◌then◌else◌}
use Rattle.std.specs.List.{range_with_len}
use Rattle.std.proofs.lemmas.List.{get_or_read, length-set}
use Rattle.cu_fuse.proofs.Filling.{filled_all}
use Rattle.cu_fuse.proofs.Renaming.{counted_few, counted_step, renamed_array, renamed_step}
use Rattle.cu_fuse.specs.Choosing.{plan_view}
use Rattle.cu_fuse.specs.Inlining.{is_numbered}
use Rattle.cu_name.specs.Keys.{made_prefix_of}
use Rattle.cu_name.specs.Name.{IsArrayName}
use Rattle.cu_op.specs.Arrays.{array_at, is_inlined, no_array}
use Rattle.cu_op.specs.PlanView.{PlanView}
use Rattle.cu_op.specs.declared.layout.ArrayInfo.{ArrayInfo}
use Rattle.cu_fuse.proofs.choice.Choice.rename.Goals as goal

name_is : (p : PlanView) (x : ArrayInfo) → p.out < length p.arrays → x ≡ get_or p.arrays p.out x → x.prefix ≡ (array_at p.arrays p.out).prefix
name_is p x l e = ap (λ (y : ArrayInfo). y.prefix) (get_or_read p.arrays p.out x l e no_array)

pub loop-a-init : goal.loop-a-init
loop-a-init c = record { plan = refl; others = refl; long = refl }

pub rename_array-next-requires-clause-array : goal.rename_array-next-requires-clause-array
rename_array-next-requires-clause-array c =
    let t = c.loop-a-test.true in
    let e = c.len-a-end.ensures in
    let long = c.loop-a.invariant.long in
    omega (arith, t, e, long)

pub rename_array-next-requires-clause-named : goal.rename_array-next-requires-clause-named
rename_array-next-requires-clause-named c =
    let p = plan_view c.args.self.now in
    subst IsArrayName (sym (name_is p c.index.result.now c.requires.out c.index.ensures)) c.requires.named

pub rename_array-next-requires-clause-few : goal.rename_array-next-requires-clause-few
rename_array-next-requires-clause-few c =
    let p = plan_view c.args.self.now in
    let t = c.loop-a-test.true in
    let e = c.len-a-end.ensures in
    let few = c.requires.few in
    let count = c.loop-a.invariant.others in
    let most = counted_few p c.loop-a.a in
    omega (arith, t, e, few, count, most)

pub loop-a-preserved : goal.loop-a-preserved
loop-a-preserved c =
    let p = plan_view c.args.self.now in
    let q = plan_view c.loop-a.self in
    let a = c.loop-a.a in
    let t = c.loop-a-test.true in
    let e = c.len-a-end.ensures in
    let within : a < length p.arrays = omega (arith, t, e) in
    let name = c.index.result.now.prefix in
    let named = name_is p c.index.result.now c.requires.out c.index.ensures in
    let next = renamed_step p q a within c.loop-a.invariant.plan name c.loop-a.others named c.loop-a.invariant.others in
    record {
      plan = c.rename_array-next.ensures.arrays ∙ (λ i. record (c.loop-a.invariant.plan i) { arrays = next i });
      others = counted_step p q a within c.loop-a.invariant.plan c.loop-a.others c.rename_array-next.result c.loop-a.invariant.others c.rename_array-next.ensures.count;
      long = ap (λ (r : PlanView). length r.arrays) c.rename_array-next.ensures.arrays
          ∙ length-set q.arrays a (record (array_at q.arrays a) { prefix = if is_numbered q (is_inlined q.arrays) a then made_prefix_of name c.loop-a.others else (array_at q.arrays a).prefix })
          ∙ c.loop-a.invariant.long;
    }

pub returns : goal.returns
returns c =
    let p = plan_view c.args.self.now in
    let a = c.loop-a.a in
    let f = c.loop-a-test.false in
    let b = c.loop-a.auto.a-end in
    let e = c.len-a-end.ensures in
    let all : length p.arrays ≡ a = omega (arith, f, b, e) in
    let whole : map (renamed_array p) (range_with_len 0 a) ++ drop a p.arrays ≡ map (renamed_array p) (range_with_len 0 (length p.arrays)) =
    filled_all (renamed_array p) p.arrays (map (renamed_array p) (range_with_len 0 a) ++ drop a p.arrays) a refl all ∙ ap (λ (n : ℕ). map (renamed_array p) (range_with_len 0 n)) (sym all) in
    c.loop-a.invariant.plan ∙ (λ i. record p { arrays = whole i })
