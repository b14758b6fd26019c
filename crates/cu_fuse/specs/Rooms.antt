-- What an operation needs with the operations inside its tasks.
use Rattle.std.specs.Prelude.{ℕ, ◌+◌, ◌-◌, ◌*◌, ◌≤◌, ◌&&◌, nat_le, max, Bool, List, length, map, sum_by}
use Rattle.cu_op.specs.Operation.{reads_of}
use Rattle.cu_op.specs.PlanView.{PlanView, op_of}
use Rattle.cu_op.specs.Projection.{input_room, instruction_count, output_room, scratch_room}
use Rattle.cu_op.specs.Within.{ops_within, stored_reads}
use Rattle.cu_op.specs.declared.layout.ArrayInfo.{ArrayInfo}
use Rattle.cu_op.specs.declared.operation.Op.{Op}
use Rattle.cu_shape.specs.Counts.{largest}
use Rattle.cu_fuse.specs.declared.room.Room.{Room}

-- of operation k of a plan
abbrev pub room_within : PlanView → ℕ → Room
room_within p k = record {
  steps = sum_by instruction_count (ops_within p k);
  reads = sum_by (stored_reads p.arrays) (ops_within p k);
  scratch = largest (map (scratch_room p.arrays) (ops_within p k));
  inputs = sum_by (input_room p.arrays) (ops_within p k);
  output = output_room p.arrays (op_of p k);
}

-- of an operation alone, over stored arrays
abbrev pub own_room : List ArrayInfo → Op → Room
own_room arrays op = record {
  steps = instruction_count op;
  reads = length (reads_of op);
  scratch = scratch_room arrays op;
  inputs = input_room arrays op;
  output = output_room arrays op;
}

-- of an operation with another inside its tasks
abbrev pub joined : Room → Room → Room
joined outer inner = record {
  steps = outer.steps + inner.steps;
  reads = outer.reads + inner.reads - 1;
  scratch = max outer.scratch inner.scratch;
  inputs = outer.inputs + inner.inputs;
  output = outer.output;
}

-- the memory
abbrev pub needs : ℕ → Room → ℕ
needs reserved room = reserved + room.scratch + room.inputs + room.output + 512 * room.steps

-- an operation may need so much
abbrev pub room_fits : ℕ → ℕ → Room → Bool
room_fits allowed reserved room =
    nat_le room.steps 32 && (nat_le room.reads 8 && nat_le (needs reserved room) allowed)

-- operation k of a plan, with what is inside its tasks, needs no more
abbrev pub fits_one_task : PlanView → ℕ → Bool
fits_one_task p k = room_fits p.allowed p.reserved (room_within p k)

pub record IsModest (room : Room) : Type 0 where
  pub steps : room.steps ≤ 32
  pub reads : room.reads ≤ 8
