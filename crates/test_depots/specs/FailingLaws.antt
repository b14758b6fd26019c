-- The laws of yards say nothing of counts.
use Rattle.std.specs.Prelude.{◌≡◌, ℕ, IsTrue, List, None}
use Rattle.cu_store.specs.Yard.{Known, Served, IsOfOneYard, FitsYard, is_made}
use Rattle.cu_store.specs.declared.yard.Spec.{Spec}
use Rattle.test_depots.specs.FailingCounts.{known_with}

-- each key that may be put by the second specs may be put by the first
abbrev pub MakesAtMost : List Spec → List Spec → Type 0
MakesAtMost specs known = (key : List ℕ) → IsTrue (is_made known key) → IsTrue (is_made specs key)

-- the pass is one of a yard that tells nothing, whose specs are known
abbrev pub IsOwnWith : Type 0 → Served → List Spec → Type 0
IsOwnWith own yard known = own × (yard.promise ≡ None) × MakesAtMost yard.specs known

pub same_with : {a b : Known} {f c g d : ℕ} → IsOfOneYard a b → IsOfOneYard (known_with a f c) (known_with b g d)
same_with s = record { promise = s.promise; entries = s.entries; lacks = s.lacks }

pub fits_with : {y : Served} {a : Known} {f c : ℕ} → FitsYard y a → FitsYard y (known_with a f c)
fits_with s = record { promise = s.promise; entries = s.entries; told = s.told; made = s.made; present = s.present }
