-- What is seen of a depot around another, and which of its calls come next. This project's own rules.
use Rattle.std.specs.Prelude.{ℕ, Option}
use Rattle.cu_store.specs.Steps.{Shown}
use Rattle.test_depots.specs.Late.{shown_with}
use Rattle.test_depots.specs.declared.failing.Failing.{Failing}
use Rattle.test_depots.specs.declared.late.FailedPut.{FailedPut}
use Rattle.test_depots.specs.declared.span.FailingCalls.{FailingCalls}

-- what it shows, where the depot in it shows this
abbrev pub seen_of : {D : Type 0} → (D → Shown) → Failing D → Shown
seen_of shown d = shown_with (shown d.depot) d.late d.faults d.calls

-- the calls that fail
abbrev pub span_of : {D : Type 0} → Failing D → FailingCalls
span_of d = d.span

-- the number of the next call
abbrev pub call_number : {D : Type 0} → Failing D → ℕ
call_number d = d.made

-- the put that is late
abbrev pub late_of : {D : Type 0} → Failing D → Option FailedPut
late_of d = d.late
