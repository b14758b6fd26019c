use Rattle.cu_table.specs.Machine.{opening}
use Rattle.cu_work.proofs.Resuming.{found_stays, found_holds, opened_named, found_seen}
use Rattle.cu_work.proofs.commands.resume_law.Goals as goal

pub returns : goal.returns
returns c = record {
  stays = found_stays;
  done = found_holds;
  opened = opened_named;
  seen = found_seen;
  unstarted = λ s done history m held op task replays named is stored.
      c.done_law.ensures.never_again s (opening done) history m op task replays.1 ((opened_named s.plan done op task).1 (named op task is stored));
}
