use Rattle.cu_table.proofs.Alone.{all_done_alone}
use Rattle.cu_table.proofs.Keeping.{replay_kept}
use Rattle.cu_table.proofs.laws.alone_law.Goals as goal

pub returns : goal.returns
returns c = λ s done history m sound replays none waits. all_done_alone s.plan sound s.retries m (replay_kept s done history m replays).0 none waits
