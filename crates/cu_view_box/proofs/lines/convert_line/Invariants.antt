use Rattle.cu_num.specs.Element.{element_at, element_bytes}
use Rattle.cu_num.specs.declared.layout.Endian.TheVariants.{Little}
use Rattle.cu_view_box.specs.Line.{on_line}
use Rattle.cu_view_box.proofs.Lined.{IsLined}
use Rattle.cu_view_box.proofs.lines.convert_line.Given as goal

abbrev pub invariant-loop-j : goal.invariant-loop-j
invariant-loop-j l = IsLined l.target (λ j. element_bytes Little l.target.dtype (element_at Little l.source.dtype l.bytes (on_line l.source j))) l.j l.fn.output l.output
