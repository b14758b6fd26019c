use Rattle.std.proofs.Common.{◌≤◌, ◌+◌, ◌*◌, length, get_or, pos, arith, rules, ap, ◌∙◌}
use Rattle.std.proofs.lemmas.Int.{to_z-of_z}
use Rattle.std.proofs.lemmas.Option.{slice_get_within}
use Rattle.std.specs.Int.{w128}
use Rattle.std.specs.Prelude.{FitsSigned}
use Rattle.cu_num.specs.Dtype.{size_of}
use Rattle.cu_num.specs.declared.layout.Endian.TheVariants.{Little}
use Rattle.cu_num.proofs.ElementBytes.{length-written_at}
use Rattle.cu_load.proofs.ChunkLemmas.{element_fits, one_more_saved}
use Rattle.cu_load.proofs.chunk.save_all.Goals as goal

pub loop-at-preserved : goal.loop-at-preserved
loop-at-preserved c =
    let same = c.loop-at.invariant.same_length in
    let fits : c.loop-at.at * size_of c.args.dtype + size_of c.args.dtype ≤ length c.loop-at.bytes = rw same (element_fits _ _ _ c.loop-at-test.true) in
    let small : FitsSigned w128 (get_or c.args.elements.now c.loop-at.at (pos 0)) = search rules in
    let saved = rw (to_z-of_z w128 (get_or c.args.elements.now c.loop-at.at (pos 0)) small) at c.save.ensures in
    record {
      same_length = ap length saved ∙ (length-written_at Little c.args.dtype c.loop-at.bytes c.loop-at.at (get_or c.args.elements.now c.loop-at.at (pos 0)) fits ∙ same);
      done = one_more_saved c.args.dtype c.args.elements.now c.loop-at.bytes c.save.new.bytes c.loop-at.at fits saved c.loop-at.invariant.done;
    }

pub returns : goal.returns
returns c = record {
  long = c.loop-at.invariant.same_length;
  parts = λ p x is. c.loop-at.invariant.done p x (omega (arith, slice_get_within c.args.elements.now p x is)) is;
}
