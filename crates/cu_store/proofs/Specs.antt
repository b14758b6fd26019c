-- A made key is served.
use Rattle.std.proofs.Common.{ℕ, Bool, true, false, List, [], ◌∷◌, IsTrue, refl, ◌||◌, ◌&&◌}
use Rattle.std.specs.Str.{bytes_eq}
use Rattle.cu_store.specs.Yard.{is_served, is_made}
use Rattle.cu_store.specs.declared.yard.Spec.{Spec}

either_side : (m e a b : Bool) → (IsTrue a → IsTrue b) → IsTrue ((m && e) || a) → IsTrue (e || b)
either_side m true a b rest h = refl
either_side true false a b rest h = rest h
either_side false false a b rest h = rest h

pub made_is_served : (specs : List Spec) (key : List ℕ) → IsTrue (is_made specs key) → IsTrue (is_served specs key)
made_is_served [] key h = h
made_is_served (s ∷ ss) key h = either_side s.made (bytes_eq s.key key) (is_made ss key) (is_served ss key) (made_is_served ss key) h
