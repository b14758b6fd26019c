use Rattle.cu_op.specs.Layout.{layout_view}
use Rattle.cu_op.proofs.Spellings.{defined_at, spelled_alike}
use Rattle.cu_op.proofs.laws.chunk_law.Goals as goal

pub returns : goal.returns
returns c = record {
  defined = λ a f coord idx bytes ok here e within. defined_at (layout_view a.layout) f coord idx bytes ok.grid here e within;
  alike = λ a f g coord ok here same. spelled_alike (layout_view a.layout) f g coord ok.grid here same;
}
