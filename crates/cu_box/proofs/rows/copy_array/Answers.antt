use Rattle.std.proofs.Common.{◌≡◌, ℕ, ◌+◌, ◌-◌, ◌++◌, List, take, drop, ap, ◌∙◌, subst, arith}
use Rattle.std.proofs.lemmas.List.{drop-drop}
use borrow.Rule.Slice.PartMut.{put_mid}
use Rattle.cu_box.specs.Order.{IsReordered}
use Rattle.cu_box.proofs.rows.copy_array.Goals as goal

pub returns : goal.returns
returns g c =
    let size = g.row.N in
    let from : c.args.first + size - c.args.first ≡ size = omega arith in
    let to : c.args.at + size - c.args.at ≡ size = omega arith in
    let taken = c.in-Some.ensures.cases.same ∙ ap (λ n. take n (drop c.args.first c.args.source.now)) from in (
      c.reorder.new.bytes,
      subst (λ (x : List ℕ). IsReordered c.args.order c.args.size x c.reorder.new.bytes) taken c.reorder.ensures,
      ap (put_mid c.args.at (c.args.at + size - c.args.at) c.args.target.now) c.put_array.ensures
          ∙ ap (λ n. put_mid c.args.at n c.args.target.now c.reorder.new.bytes) to
          ∙ ap (λ rest. take c.args.at c.args.target.now ++ (c.reorder.new.bytes ++ rest)) (drop-drop size c.args.at c.args.target.now),
    )
