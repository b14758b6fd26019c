use Rattle.cu_op.specs.Chunks.{cell}
use Rattle.cu_plan.proofs.OneReader.{one_region_of, some_region}
use Rattle.cu_plan.proofs.laws.one_reader_law.Goals as goal

pub returns-clause-some : goal.returns-clause-some
returns-clause-some c = λ p a coord s within inner here.
    some_region p s (λ k task d h l. c.input_cells_law.ensures.own p k task d s h l) a within inner coord here

pub returns-clause-only : goal.returns-clause-only
returns-clause-only c = λ p k region l other a coord s inner first second.
    let read = c.input_law.ensures.arrays p k region (cell a coord) s first.operation first.number first.chunk in
    let also = c.input_law.ensures.arrays p l other (cell a coord) s second.operation second.number second.chunk in
    one_region_of p s (λ j task d h b. c.input_cells_law.ensures.own p j task d s h b) a read.1.0 inner coord read.1.1 k region l other first second read.0 also.0
