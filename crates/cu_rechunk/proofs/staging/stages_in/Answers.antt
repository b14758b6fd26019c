use Rattle.std.proofs.Common.{◌≡◌, List, ℕ, ap, ◌∙◌}
use Rattle.cu_rechunk.specs.Stages.{consolidated, write_sizes}
use Rattle.cu_rechunk.proofs.staging.stages_in.Goals.{After-consolidate-write}

written : (c : After-consolidate-write) → c.consolidate-write.result ≡ write_sizes c.args.shape.now c.args.target.now c.args.room
written c = c.consolidate-write.ensures.sizes ∙ ap (λ (t : List ℕ). consolidated c.args.room 1 c.args.shape.now t c.args.shape.now) c.cut.ensures.sizes
