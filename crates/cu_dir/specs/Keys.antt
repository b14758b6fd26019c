-- The keys of a yard that may be put, as a set of texts. This project's own rules.
use Rattle.std.specs.Prelude.{◌≡◌, ℕ, List, String}
use Rattle.std.specs.declared.alloc.Global.{Global}
use Rattle.std.specs.HashSet.{HashSet, contains_text}
use Rattle.cu_store.specs.Yard.{is_made}
use Rattle.cu_store.specs.declared.yard.Spec.{Spec}

-- the set has the made keys of the specs, and no others
abbrev pub AreMadeOf : {S : Type 0} → List Spec → HashSet (String Global) S → Type 0
AreMadeOf specs set = (key : List ℕ) → contains_text set key ≡ is_made specs key
