use Rattle.std.proofs.Common.{◌≡◌, ◌+◌, ◌*◌, [], drop, length}
use Rattle.cu_command.specs.Inputs.{used_names, names_from, names_of, HasRead}
use Rattle.cu_command.proofs.inputs.read_inputs.Given as goal

-- the names of the inputs so far, and then those of the nodes that are left, are all
abbrev pub invariant-loop-node : goal.invariant-loop-node
invariant-loop-node g l = record {
  whole : names_from [] (used_names l.node-items) ≡ names_from (names_of l.inputs.items) (used_names (drop l.node-index l.node-items));
  read : HasRead (2 * (l.retries + 1)) (g.D.PutStore.shown l.initial.depot) (g.D.PutStore.shown l.depot) l.inputs.items;
  room : length l.room.items ≡ 1048577;
}
