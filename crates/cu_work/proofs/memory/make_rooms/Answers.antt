use Rattle.std.proofs.Common.{◌≡◌, ◌∙◌, ℕ, replicate, [], ap, arith}
use Rattle.cu_work.specs.Rooms.{rooms_of}
use Rattle.cu_work.proofs.Pushed.{pushed, same_more}
use Rattle.cu_work.proofs.memory.make_rooms.Goals as goal

pub returns : goal.returns
returns c =
    let all : c.loop.counter ≡ c.args.workers = omega arith in
    c.loop.invariant ∙ ap (λ (n : ℕ). replicate n (rooms_of c.args.plan.now)) all

pub loop-preserved : goal.loop-preserved
loop-preserved c =
    same_more c.loop.counter (rooms_of c.args.plan.now) c.in_ok-room.room [] c.loop.rooms.items c.push.new.self.items c.loop.invariant c.in_ok-room.ensures
    (pushed _ c.is_err.result c.loop.rooms.items c.push.new.self.items c.in_ok-room.room c.push.ensures.items c.is_err.ensures.negation c.if-is_err.false)
