-- The values under a folder that several workers use at once: what each knows of them, and what comes to lie there. This project's own rules.
use Rattle.std.specs.Prelude.{◌≡◌, ◌⊎◌, ℕ, Bool, true, false, IsTrue, ◌&&◌, ◌||◌, List, Option, Some, None}
use Rattle.cu_store.specs.Held.{Contents}
use Rattle.cu_store.specs.Share.{Lent, HoldsPromised, PutPromised}
use Rattle.cu_store.specs.Steps.{Lands}
use Rattle.cu_store.specs.Yard.{is_made, is_served, Served}
use Rattle.cu_store.specs.declared.yard.Spec.{Spec}
use Rattle.cu_dir.specs.Names.{path_of}
use Rattle.cu_dir.specs.Tree.{IsNewBeside}

-- whether there is something
abbrev pub is_there : {T : Type 0} → Option T → Bool
is_there None = false
is_there (Some x) = true

-- under each key that isn't a made one there is the same, where the values are told
abbrev pub IsReadAs : List Spec → Option Contents → Option Contents → Type 0
IsReadAs specs None None = Unit {0}
IsReadAs specs (Some entries) (Some known) = (key : List ℕ) → is_made specs key ≡ false → known key ≡ entries key
IsReadAs specs entries known = ⊥

-- What a hand may know: under a made key nothing or the promise's bytes, under each other key what lay there when the folder was lent.
pub record KnowsOf (l : Lent) (entries known : Option Contents) : Type 0 where
  pub made : HoldsPromised l known
  pub read : IsReadAs l.specs entries known

-- A call for a key may tell that its promised bytes lie there, and nothing else: what is known stays.
abbrev pub LearnsAt : Lent → List ℕ → Option Contents → Option Contents → Type 0
LearnsAt l asked = Lands (λ key value. (key ≡ asked) × PutPromised l key value)

-- There is what either has, wherever either has something.
abbrev pub IsUnion : Option Contents → Option Contents → Option Contents → Type 0
IsUnion None None None = Unit {0}
IsUnion (Some a) (Some b) (Some both) = (at : List ℕ)
    → ((both at ≡ a at) ⊎ (both at ≡ b at)) × (is_there (both at) ≡ (is_there (a at) || is_there (b at)))
IsUnion a b both = ⊥

-- under each key that is lent there is the same, where the values are told
abbrev pub IsLentAs : List Spec → Option Contents → Option Contents → Type 0
IsLentAs specs None None = Unit {0}
IsLentAs specs (Some values) (Some known) = (key : List ℕ) → IsTrue (is_served specs key) → known key ≡ values key
IsLentAs specs values known = ⊥

-- the made keys that are known to be held; where the values aren't told every key counts as seen
abbrev pub seen_among : List Spec → Option Contents → List ℕ → Bool
seen_among specs None key = true
seen_among specs (Some known) key = is_made specs key && is_there (known key)

-- the promise, where the values are told
abbrev pub told_with : Option Contents → Contents → Option Contents
told_with None promise = None
told_with (Some entries) promise = Some promise

-- what is served of a folder that was lent
abbrev pub served_as : Lent → Option Contents → Served
served_as l entries = record { specs = l.specs; promise = told_with entries l.promise; entries = entries }

-- ---- what becomes of the files

-- the path is that of a made key, and the value is its promised bytes
abbrev pub IsPromisedAt : List ℕ → Lent → List ℕ → Option (List ℕ) → Type 0
IsPromisedAt folder l path value = (key : List ℕ) × ((path ≡ path_of folder key) × PutPromised l key value)

-- the path is that of a new file beside the file of a made key
abbrev pub IsBesideMade : List ℕ → List Spec → List ℕ → Type 0
IsBesideMade folder specs path = (key : List ℕ) × (IsTrue (is_made specs key) × IsNewBeside (path_of folder key) path)

-- At each path there is what there was, or the promised bytes of a made key, or a new file that a put has left beside one where
-- nothing was. So no file is taken away, and none is changed but those of made keys.
abbrev pub IsPutUnder : List ℕ → Lent → Option Contents → Option Contents → Type 0
IsPutUnder folder l None None = Unit {0}
IsPutUnder folder l (Some old) (Some new) = (path : List ℕ)
    → (new path ≡ old path) ⊎ (IsPromisedAt folder l path (new path) ⊎ (IsBesideMade folder l.specs path × (old path ≡ None)))
IsPutUnder folder l old new = ⊥
