use Rattle.std.proofs.Common.{inl, inr}
use Rattle.cu_table.specs.Machine.{opening}
use Rattle.cu_table.proofs.Ended.{ended_stays, halt_halted, halted_halt, ended_undone}
use Rattle.cu_table.proofs.Doing.{halts_so}
use Rattle.cu_table.proofs.laws.ended_law.Goals as goal

pub returns-clause-stays : goal.returns-clause-stays
returns-clause-stays c = ended_stays

pub returns-clause-halt : goal.returns-clause-halt
returns-clause-halt c = λ s done history m replays. (
  halt_halted s (opening done) history m replays.1,
  λ h. elim (halted_halt s (opening done) history m replays.1 h) [ inl was ↦ absurd (let e = was.1 in cc e) | inr has ↦ has ],
)

pub returns-clause-undone : goal.returns-clause-undone
returns-clause-undone c = ended_undone

pub returns-clause-fault : goal.returns-clause-fault
returns-clause-fault c = halts_so
