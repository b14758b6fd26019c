use Rattle.std.proofs.Common.{◌≡◌, ◌+◌, ◌*◌, ℕ, List, Option, Some, None, IfSome, get_or, ap, sym, ◌∙◌}
use Rattle.cu_num.specs.Dtype.{size_of}
use Rattle.cu_shape.specs.Index.{product, products}
use Rattle.cu_op.specs.declared.layout.ArrayInfo.{ArrayInfo}
use Rattle.cu_task.specs.Straight.{behind_first}
use Rattle.cu_task.specs.ViewJobs.{view_task_of}
use Rattle.cu_task.specs.Views.{source_in}
use Rattle.cu_task.proofs.RowReads.{stands_from}
use Rattle.cu_task.proofs.rows.first_row.Goals as goal

if_some_then : (r : Option ℕ) (P Q : ℕ → Type 0) → ((x : ℕ) → P x → Q x) → IfSome r P → IfSome r Q
if_some_then None P Q f h = tt
if_some_then (Some x) P Q f h = f x h

pub returns : goal.returns
returns c =
    let rows = c.if-not-has_rows.ensures in
    let long = c.in_ok-row.ensures ∙ ap (λ (a : ArrayInfo). product (behind_first a.layout.grid.chunk) * size_of a.layout.dtype) c.source_array.ensures in
    let first : c.at.result ≡ get_or (products c.args.chunk.now.coord (source_in (view_task_of c.args.chunk.now.job.now) c.args.chunk.now.source).layout.grid.chunk) 0 0
    = c.at.ensures ∙ ap (λ (is : List ℕ). get_or is 0 0) c.chunk_part-part.ensures.lo in
    let needed : c.at-2.result ≡ get_or c.args.chunk.now.needed.lo 0 0 = c.at-2.ensures in
    if_some_then c.row_place.result _ _
    (λ at here. stands_from c.args.chunk.now c.requires rows c.args.before at c.in_ok-row.row long
    (ap (λ (n : ℕ). at + n * c.in_ok-row.row) (sym needed) ∙ here ∙ ap (λ (n : ℕ). c.args.before + n * c.in_ok-row.row) first))
    c.row_place.ensures
