use Rattle.std.proofs.Common.{ℕ, ◌≤◌, ◌+◌, ◌*◌, ◌∙◌, ap, max, replicate, subst}
use Rattle.cu_work.specs.Rooms.{rooms_of}
use Rattle.cu_work.specs.Shared.{most_copies, worker_count}
use Rattle.cu_work.proofs.Lent.{rooms_within, all_buffers, all_within, few_workers, one_each, rooms_many}
use Rattle.cu_work.proofs.memory.RunMemory.make.Goals as goal

pub returns-clause-few : goal.returns-clause-few
returns-clause-few c = λ off.
    let o = c.args.options.now in
    let rooms = c.in_ok-rooms.rooms in
    subst (λ (n : ℕ). rooms.len ≤ max 1 n) c.requires
    (one_each o c.args.done.now rooms.len off
    (rooms_many c.worker_count.result rooms.len (rooms_of c.args.plan.now) rooms.items rooms.ok.0 c.in_ok-rooms.ensures ∙ c.worker_count.ensures))

pub returns-clause-room : goal.returns-clause-room
returns-clause-room c = λ room instructions lent.
    let o = c.args.options.now in
    all_within c.worker_count.result o.workers (room + 512 * instructions) (rooms_of c.args.plan.now) c.in_ok-rooms.rooms.items c.in_ok-rooms.ensures
    (few_workers o.workers (most_copies o.backups c.args.done.now) c.worker_count.result c.worker_count.ensures)
    (rooms_within c.args.plan.now room instructions lent)

pub returns-clause-memory : goal.returns-clause-memory
returns-clause-memory c = record {
  rooms = c.in_ok-rooms.ensures ∙ ap (λ (n : ℕ). replicate n (rooms_of c.args.plan.now)) c.worker_count.ensures;
  specs = c.in_ok-specs.ensures;
  table = c.in_ok-table.ensures.table;
}

pub returns-clause-buffers : goal.returns-clause-buffers
returns-clause-buffers c =
    all_buffers (worker_count c.args.options.now c.args.done.now) (rooms_of c.args.plan.now) c.in_ok-rooms.rooms.items
    (c.in_ok-rooms.ensures ∙ ap (λ (n : ℕ). replicate n (rooms_of c.args.plan.now)) c.worker_count.ensures)
