-- What is read by a test passes it.
use Rattle.std.proofs.Common.{◌≡◌, ◌&&◌, Bool, true, false, Option, Some, None, option_and_then, refl, subst}
use Rattle.std.specs.Prelude.{if◌then◌else◌}
use Rattle.serde_json.specs.Data.{Data}
use Rattle.cu_read.specs.Members.{passing}

pub both : (a b : Bool) → a ≡ true → b ≡ true → (a && b) ≡ true
both true true h k = refl
both true false h k = cc
both false b h k = cc

passes_by : {A : Type 0} (test : A → Bool) (x y : A) (b : Bool) → test x ≡ b → (if b then Some x else None) ≡ Some y → test y ≡ true
passes_by test x y true e h = let same : x ≡ y = cc in subst (λ z. test z ≡ true) same e
passes_by test x y false e h = cc

pub passes : {A : Type 0} (test : A → Bool) (o : Option A) (y : A) → option_and_then (passing test) o ≡ Some y → test y ≡ true
passes test (Some x) y h = passes_by test x y (test x) refl h
passes test None y h = cc

-- a member, where each value passes
pub member_passes : {A : Type 0} (value : Data → Option A) (test : A → Bool) → ((d : Data) (x : A) → value d ≡ Some x → test x ≡ true)
    → (member : Option Data) (x : A) → option_and_then value member ≡ Some x → test x ≡ true
member_passes value test each (Some d) x h = each d x h
member_passes value test each None x h = cc
