use Rattle.std.proofs.Common.{◌≡◌, ℕ, ◌+◌, ◌-◌, ◌++◌, List, take, drop, ap, ◌∙◌, subst, arith}
use Rattle.std.proofs.lemmas.List.{drop-drop}
use borrow.Rule.Slice.PartMut.{put_mid}
use Rattle.cu_box.specs.Order.{IsReordered}
use Rattle.cu_box.proofs.rows.copy_bytes.Goals as goal

pub returns : goal.returns
returns c =
    let target = c.args.target.now in
    let from : c.args.first + c.args.count - c.args.first ≡ c.args.count = omega arith in
    let to : c.args.at + c.args.count - c.args.at ≡ c.args.count = omega arith in
    let taken = c.copy_from_slice.ensures.after ∙ ap (λ n. take n (drop c.args.first c.args.source.now)) from in (
      c.reorder.new.bytes,
      subst (λ (x : List ℕ). IsReordered c.args.order c.args.size x c.reorder.new.bytes) taken c.reorder.ensures,
      ap (λ n. put_mid c.args.at n c.args.target.now c.reorder.new.bytes) to
          ∙ ap (λ rest. take c.args.at c.args.target.now ++ (c.reorder.new.bytes ++ rest)) (drop-drop c.args.count c.args.at c.args.target.now),
    )
