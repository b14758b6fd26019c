use Rattle.cu_op.proofs.AllStored.{all_cells, all_elements, all_fetched, all_listed, all_projection, all_tasks, all_within}
use Rattle.cu_op.proofs.laws.all_stored_law.Goals as goal

pub returns : goal.returns
returns c = record {
  elements = all_elements;
  fetched = all_fetched;
  cells = all_cells;
  within = all_within;
  room = all_projection;
  tasks = all_tasks;
  listed = all_listed;
}
