use Rattle.cu_work.proofs.Endings.{TableLaws, decided_at_end}
use Rattle.cu_work.proofs.ends.outcome_law.Goals as goal

pub returns : goal.returns
returns c =
    let laws : TableLaws = record {
      front = c.history_law.ensures.front;
      counted = c.task_law.ensures.done;
      stays = c.done_law.ensures.stays;
      exactly = c.broken_law.ensures.exactly;
      task = c.broken_law.ensures.task;
      ended = c.ended_law.ensures.stays;
      halt = c.ended_law.ensures.halt;
      undone = c.ended_law.ensures.undone;
    } in
    decided_at_end laws
