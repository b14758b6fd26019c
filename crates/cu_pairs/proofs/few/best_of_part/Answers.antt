use Rattle.std.proofs.Common.{◌≡◌, ◌<◌, ◌+◌, ◌-◌, ◌*◌, ◌/◌, ℕ, length, sym, subst, refl}
use Rattle.cu_num.specs.Dtype.{size_of}
use Rattle.cu_num.specs.Element.{element_at}
use Rattle.cu_num.specs.declared.layout.Endian.TheVariants.{Little}
use Rattle.cu_pairs.specs.Columns.{column_of}
use Rattle.cu_pairs.specs.Runs.{IsBestValue}
use Rattle.cu_pairs.proofs.Parts.{kept, element_count}
use Rattle.cu_pairs.proofs.FewColumns.{best_of_gathered}
use Rattle.cu_pairs.proofs.few.best_of_part.Goals as goal

pub returns : goal.returns
returns c =
    let t = c.args.t in
    let n = c.args.end - c.args.from in
    let f = λ (j : ℕ). column_of t c.args.rows.width c.args.rows.bytes.now c.args.column (c.args.from + j) in
    let long : length c.gather.new.own ≡ n * size_of t = c.gather.ensures.same_length in
    let count : length c.gather.new.own / size_of t ≡ n = element_count t n (size_of t) (length c.gather.new.own) refl long in
    let read : (j : ℕ) → j < n → element_at Little t c.gather.new.own j ≡ f j = c.gather.ensures.own in
    subst (λ v. IsBestValue c.args.least f n v) (sym (kept c.best_value.result (record { sfits = c.best_value.type_inv })))
    (best_of_gathered c.args.least t c.gather.new.own f n c.best_value.result count read c.best_value.ensures.best)
