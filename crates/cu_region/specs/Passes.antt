-- A pass after calls of its yard. This project's own rule.
use Rattle.std.specs.Prelude.{ℕ, IsTrue, List}
use Rattle.cu_store.specs.Yard.{is_made, Known, IsOfOneYard}
use Rattle.cu_store.specs.declared.yard.Spec.{Spec}

-- A later moment of a pass of a yard that serves these keys: it knows of the yard what it knew, and has seen each made key that it had seen.
pub record IsLaterIn (specs : List Spec) (old new : Known) : Type 0 where
  pub yard : IsOfOneYard old new
  pub seen : (key : List ℕ) → IsTrue (is_made specs key) → IsTrue (old.seen key) → IsTrue (new.seen key)
