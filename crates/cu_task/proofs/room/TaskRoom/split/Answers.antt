use Rattle.std.proofs.Common.{ap, sym, ◌+◌, ◌∙◌, ◌++◌, List, ℕ, take, append_assoc, arith}
use Rattle.cu_task.specs.Inputs.{last_bytes}
use Rattle.cu_task.specs.OfTask.{found_bytes, made_bytes}
use Rattle.cu_task.proofs.Tails.{last_part, part_before_last}
use Rattle.cu_task.proofs.room.TaskRoom.split.Goals as goal

pub overflow_sub-before_output : goal.overflow_sub-before_output
overflow_sub-before_output c =
    let made = c.result_bytes.ensures.bytes in
    let room = c.requires in
    omega (arith, made, room)

pub overflow_sub-before_values : goal.overflow_sub-before_values
overflow_sub-before_values c =
    let made = c.result_bytes.ensures.bytes in
    let found = c.value_bytes.ensures in
    let room = c.requires in
    omega (arith, made, found, room)

pub returns-clause-room : goal.returns-clause-room
returns-clause-room c =
    let made = c.result_bytes.ensures.bytes in
    let found = c.value_bytes.ensures in
    let room = c.requires in
    let front = c.split_at_mut-front.ensures.front_len in
    let back = c.split_at_mut-front.ensures.back_len in
    let front2 = c.split_at_mut-scratch.ensures.front_len in
    let back2 = c.split_at_mut-scratch.ensures.back_len in
    record {
      scratch = omega (arith, room, made, found, front2);
      values = omega (arith, room, made, found, front, back2);
      output = omega (arith, room, made, back);
    }

pub returns-clause-together : goal.returns-clause-together
returns-clause-together c =
    let output = c.split_at_mut-front in
    output.ensures.value ∙ ap (λ (xs : List ℕ). xs ++ output.result.1.now) c.split_at_mut-scratch.ensures.value

pub returns-clause-values : goal.returns-clause-values
returns-clause-values c =
    let output = c.split_at_mut-front in
    let values = c.split_at_mut-scratch in
    let made = c.result_bytes.ensures.bytes in
    let found = c.value_bytes.ensures in
    let back = output.ensures.back_len in
    let front = output.ensures.front_len in
    let back2 = values.ensures.back_len in
    let room = c.requires in
    let whole = output.ensures.value ∙ ap (λ (xs : List ℕ). xs ++ output.result.1.now) values.ensures.value ∙ append_assoc values.result.0.now values.result.1.now output.result.1.now in
    sym (ap (λ (xs : List ℕ). take (found_bytes c.args.task.now) (last_bytes (found_bytes c.args.task.now + made_bytes c.args.task.now) xs)) whole
    ∙ part_before_last values.result.0.now values.result.1.now output.result.1.now _ _ (omega (arith, found, front, back2, room, made)) (omega (arith, made, back, room)))

pub returns-clause-output : goal.returns-clause-output
returns-clause-output c =
    let output = c.split_at_mut-front in
    let made = c.result_bytes.ensures.bytes in
    let back = output.ensures.back_len in
    let room = c.requires in
    sym (ap (last_bytes (made_bytes c.args.task.now)) output.ensures.value ∙ last_part output.result.0.now output.result.1.now _ (omega (arith, made, back, room)))
