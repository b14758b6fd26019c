use Rattle.cu_load.proofs.LoadLemmas.{small_grid}
use Rattle.cu_load.proofs.load_form.grid_of.Goals as goal

pub returns-clause-small : goal.returns-clause-small
returns-clause-small c = small_grid c.make.result c.ok.result c.item_size.result c.ok.ensures.value c.make.ensures.limits
