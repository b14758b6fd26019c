use Rattle.std.proofs.Common.{◌≡◌, ◌≢◌, ◌≤◌, ◌+◌, ◌*◌, ℕ, length, ap, ◌∙◌, below_more, arith}
use Rattle.std.proofs.Math.Nat.{mul-le-mul_right}
use Rattle.cu_num.specs.Dtype.{size_of}
use Rattle.cu_num.specs.Element.{element_at}
use Rattle.cu_num.specs.Wrap.{wrapped}
use Rattle.cu_num.specs.declared.layout.Endian.TheVariants.{Little}
use Rattle.cu_num.proofs.Wrapped.{wrapped_in_range}
use Rattle.cu_num.proofs.ElementBytes.{element_at-written_at_same, element_at-written_at_other, length-written_at, InRange-element_at}
use Rattle.cu_pairs.specs.Columns.{column_of}
use Rattle.cu_pairs.specs.Runs.{elements}
use Rattle.cu_pairs.proofs.Parts.{kept, element_room}
use Rattle.cu_pairs.proofs.FewColumns.{column_fits, column_small}
use Rattle.cu_pairs.proofs.few.gather.Goals as goal

pub load-requires : goal.load-requires
load-requires c =
    let t = c.args.t in
    column_fits t c.args.rows.width c.args.column (c.args.from + c.loop-j.j) (c.args.from + c.args.count) (length c.args.rows.bytes.now) c.requires.column
    (omega (arith, c.loop-j-test.true)) c.requires.rows

pub overflow_add-from : goal.overflow_add-from
overflow_add-from c =
    let small = column_small c.args.t c.args.rows.width c.args.column (c.args.from + c.loop-j.j) (c.args.from + c.args.count) (length c.args.rows.bytes.now) c.requires.column
    (omega (arith, c.loop-j-test.true)) c.requires.rows in
    let row = small.0 in
    omega arith

pub overflow_mul-from : goal.overflow_mul-from
overflow_mul-from c =
    let small = column_small c.args.t c.args.rows.width c.args.column (c.args.from + c.loop-j.j) (c.args.from + c.args.count) (length c.args.rows.bytes.now) c.requires.column
    (omega (arith, c.loop-j-test.true)) c.requires.rows in
    let number = small.1 in
    omega arith

pub overflow_add-from-in-loop-j : goal.overflow_add-from-in-loop-j
overflow_add-from-in-loop-j c =
    let small = column_small c.args.t c.args.rows.width c.args.column (c.args.from + c.loop-j.j) (c.args.from + c.args.count) (length c.args.rows.bytes.now) c.requires.column
    (omega (arith, c.loop-j-test.true)) c.requires.rows in
    let number = small.1 in
    omega arith

pub save-requires : goal.save-requires
save-requires c = element_room (size_of c.args.t) c.loop-j.j c.args.count (length c.loop-j.own) c.loop-j-test.true c.loop-j.invariant.same_length

pub loop-j-preserved : goal.loop-j-preserved
loop-j-preserved c =
    let t = c.args.t in
    let j = c.loop-j.j in
    let f = λ (k : ℕ). column_of t c.args.rows.width c.args.rows.bytes.now c.args.column (c.args.from + k) in
    let long = c.loop-j.invariant.same_length in
    let far : (j + 1) * size_of t ≤ c.args.count * size_of t = mul-le-mul_right (size_of t) (let l : j + 1 ≤ c.args.count = omega (arith, c.loop-j-test.true) in l) in
    let room : j * size_of t + size_of t ≤ length c.loop-j.own = omega (arith, c.requires.room) in
    let read = kept c.load.result (record { sfits = c.load.type_inv }) ∙ c.load.ensures.value in
    record {
      same_length = ap length c.save.ensures ∙ length-written_at Little t c.loop-j.own j _ room ∙ long;
      done = below_more (λ k. elements t c.save.new.bytes k ≡ f k) j
          (λ k b. let apart : k ≢ j = omega arith in
          ap (λ all. element_at Little t all k) c.save.ensures ∙ element_at-written_at_other Little t c.loop-j.own j k _ apart room ∙ c.loop-j.invariant.done k b)
          (ap (λ all. element_at Little t all j) c.save.ensures ∙ element_at-written_at_same Little t c.loop-j.own j _ room ∙ ap (wrapped t) read
          ∙ wrapped_in_range t (f j) (InRange-element_at Little t c.args.rows.bytes.now ((c.args.from + j) * c.args.rows.width + c.args.column)));
    }
