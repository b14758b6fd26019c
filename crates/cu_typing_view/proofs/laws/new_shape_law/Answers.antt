use Rattle.cu_typing_view.proofs.NewShapes.{new_shape_count, new_shape_type}
use Rattle.cu_typing_view.proofs.laws.new_shape_law.Goals as goal

pub returns-clause-count : goal.returns-clause-count
returns-clause-count c a i shape few h = new_shape_count a i shape few h

pub returns-clause-same_type : goal.returns-clause-same_type
returns-clause-same_type c a i shape h = new_shape_type a i shape h
