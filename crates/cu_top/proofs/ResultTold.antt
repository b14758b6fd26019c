-- From what the call answers to what its answer 0 means.
use Rattle.std.proofs.Common.{◌≡◌, ◌⊎◌, inl, inr, subst}
use Rattle.cu_command.specs.declared.status.Status.{Status}
use Rattle.cu_command.specs.declared.status.Status.TheVariants.{Done}

pub either : {A B C : Type 0} → (A → C) → (B → C) → A ⊎ B → C
either one other (inl a) = one a
either one other (inr b) = other b

pub at_done : (fact : Status → Type 0) {status : Status} → status ≡ Done → fact status → fact Done
at_done fact is so = subst fact is so
