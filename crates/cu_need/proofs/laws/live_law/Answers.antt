use Rattle.cu_need.proofs.laws.live_law.Goals as goal
use Rattle.cu_need.proofs.LiveNodes.{live_closed, live_least, live_reason, live_below}

pub returns : goal.returns
returns c = record { closed = live_closed; least = live_least; reason = live_reason; below = live_below }
