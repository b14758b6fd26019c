-- Worlds in which a condition of an event is dropped, to see what it is for.
use Rattle.std.specs.Prelude.{◌≡◌, ◌⊎◌, Bool, List, [], ◌∷◌, length, None}
use Rattle.cu_history.specs.declared.entry.EventKind.TheVariants.{Start, Done}
use Rattle.cu_table.specs.Numbers.{IsTask, task_count}
use Rattle.cu_table.specs.Machine.{RunsNothing, IsWaiting, opening, copy_started}
use Rattle.cu_table.specs.Step.{Settings, Step}
use Rattle.cu_work.specs.World.{World, Event, Steps, Stops, Happens}

-- one event after another, each of which may happen
abbrev pub AllMay : (World → Event → World → Type 0) → World → List Event → World → Type 0
AllMay may old [] new = new ≡ old
AllMay may old (e ∷ es) new = (mid : World) × may old e mid × AllMay may mid es new

-- a task that waits is started, ready or not
abbrev pub StartsEarly : Settings → World → Event → World → Type 0
StartsEarly g old (Steps e) new =
    (e.kind ≡ Start) × (old.machine.ended ≡ None) × RunsNothing old.machine e.worker × IsTask g.plan e.op e.task × IsWaiting g.plan old.machine e.op e.task
    × (new ≡ record { machine = copy_started g.plan old.machine e; held = old.held; started = (record { op = e.op; task = e.task }) ∷ old.started })
StartsEarly g old event new = ⊥

-- a task becomes done, whether its cells are held or not
abbrev pub IsDoneUnstored : Settings → World → Event → World → Type 0
IsDoneUnstored g old (Steps e) new = (e.kind ≡ Done) × Step g old.machine e new.machine × (new.held ≡ old.held) × (new.started ≡ old.started)
IsDoneUnstored g old event new = ⊥

-- a stop with any list of tasks
abbrev pub StopsAnyhow : Settings → World → Event → World → Type 0
StopsAnyhow g old (Stops done) new = (length done ≡ task_count g.plan) × (new.machine ≡ opening done) × (new.held ≡ old.held) × (new.started ≡ old.started)
StopsAnyhow g old event new = ⊥

abbrev pub HappensEarly : Settings → World → Event → World → Type 0
HappensEarly g old event new = Happens g old event new ⊎ StartsEarly g old event new

abbrev pub HappensUnstored : Settings → World → Event → World → Type 0
HappensUnstored g old event new = Happens g old event new ⊎ IsDoneUnstored g old event new

abbrev pub HappensAnyhow : Settings → World → Event → World → Type 0
HappensAnyhow g old event new = Happens g old event new ⊎ StopsAnyhow g old event new
