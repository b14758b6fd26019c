use Rattle.std.proofs.Common.{◌+◌, ◌*◌, ◌-◌}
use Rattle.cu_task.proofs.making.+make.Given as goal

-- the operation's number falls from what makes a region to what stands inside it, and within one of them the places that are left
abbrev pub decreases-make_result : goal.decreases-make_result
decreases-make_result g l = 16 * l.task.now.op + 15

abbrev pub decreases-compute_result : goal.decreases-compute_result
decreases-compute_result g l = 16 * l.task.now.op + 12

abbrev pub decreases-fold_by_strips : goal.decreases-fold_by_strips
decreases-fold_by_strips g l = 16 * l.task.now.op + 12

abbrev pub decreases-map_shown : goal.decreases-map_shown
decreases-map_shown g l = 16 * l.task.now.op + 14

abbrev pub decreases-map_from_chunk : goal.decreases-map_from_chunk
decreases-map_from_chunk g l = 16 * l.task.now.op + 13

abbrev pub decreases-map_by_slabs : goal.decreases-map_by_slabs
decreases-map_by_slabs g l = 16 * l.task.now.op + 12

abbrev pub decreases-read_shown : goal.decreases-read_shown
decreases-read_shown g l = 16 * l.task.now.op + 3

abbrev pub decreases-read_inputs : goal.decreases-read_inputs
decreases-read_inputs g l = 16 * l.task.now.op + 3 + (8 - l.place)

abbrev pub decreases-read_input : goal.decreases-read_input
decreases-read_input g l = 16 * l.task.now.op + 2
