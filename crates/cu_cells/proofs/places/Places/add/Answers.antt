use Rattle.std.proofs.Common.{◌∙◌}
use Rattle.cu_cells.proofs.Texts.{inserted}
use Rattle.cu_cells.proofs.places.Places.add.Goals as goal
use Rattle.cu_cells.proofs.places.Places.add.Goals.{in-Ok, in-Err}

pub returns : goal.returns
returns c = record {
  ok = elim c.match-insert.branch [ in-Ok w ↦ rw w.result-is (rw w.in-Ok.ensures.keys (inserted _ _ _ _ c.self.view_is (c.in_ok-text.ensures.ok ∙ c.text.ensures.text) c.requires.new)) | in-Err w ↦ rw w.result-is tt ];
}
