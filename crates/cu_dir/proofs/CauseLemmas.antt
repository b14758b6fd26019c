-- Why a put fails.
use Rattle.std.proofs.Common.{◌≡◌, ◌⊎◌, inl, inr, ℕ, ◌+◌, Bool, List, Option, Some, None, refl, ◌∙◌, arith}
use Rattle.std.specs.Prelude.{Result, Ok, Err, IfErr}
use Rattle.std.specs.IoError.{error_kind}
use Rattle.std.specs.declared.io.Error.{Error}
use Rattle.std.specs.declared.io.ErrorKind.{ErrorKind}
use Rattle.std.specs.declared.io.ErrorKind.TheVariants.{OutOfMemory}
use Rattle.cu_store.specs.declared.faults.DepotFault.{DepotFault}
use Rattle.cu_store.specs.declared.faults.DepotFault.TheVariants.{Failed, NoMemory}
use Rattle.cu_dir.specs.Depot.{AnswersAs, fault_of}
use Rattle.cu_dir.specs.Names.{tried_names}
use Rattle.cu_dir.specs.Tree.{AreTaken, HasRisen, IsPutCause}

rises : (n m : ℕ) (a b c : Option ℕ) → HasRisen n a b → HasRisen m b c → HasRisen (n + m) a c
rises n m None None None first more = tt
rises n m (Some a) (Some b) (Some c) first more = omega (arith, first, more)
rises n m None None (Some c) first more = absurd more
rises n m None (Some b) c first more = absurd first
rises n m (Some a) None c first more = absurd first
rises n m (Some a) (Some b) None first more = absurd more

pub rises_then : (a b c : Option ℕ) → HasRisen 0 a b → HasRisen 1 b c → HasRisen 1 a c
rises_then a b c first more = rises 0 1 a b c first more

pub stays_risen : (a b c : Option ℕ) → HasRisen 1 a b → HasRisen 0 b c → HasRisen 1 a c
stays_risen a b c first more = rises 1 0 a b c first more

-- the new file was written and couldn't be renamed; what is done then doesn't hide it
pub unrenamed : (error : Error) (P : Type 0) (a b c d : Option ℕ)
    → HasRisen 0 a b → (error_kind error ≡ OutOfMemory) ⊎ HasRisen 1 b c → HasRisen 0 c d
    → (error_kind error ≡ OutOfMemory) ⊎ P ⊎ HasRisen 1 a d
unrenamed error P a b c d written (inl memory) taken_away = inl memory
unrenamed error P a b c d written (inr failed) taken_away =
    inr (inr (stays_risen a c d (rises_then a b c written failed) taken_away))

lacked : (kind : ErrorKind) (result : Result (Unit {0}) DepotFault)
    → kind ≡ OutOfMemory → result ≡ Err (fault_of kind) → result ≡ Err Failed → ⊥
lacked kind result memory is failed =
    let other : result ≡ Err NoMemory = is ∙ rw memory refl in
    cc

-- a fault of the depot is one of the tree
pub failed_by : (places : Option (List ℕ → Bool)) (path : List ℕ) (number : ℕ)
    (before after : Option ℕ) (answer : Result (Unit {0}) Error)
    (result : Result (Unit {0}) DepotFault)
    → IfErr answer (IsPutCause places path number before after) → AnswersAs answer result
    → result ≡ Err Failed
    → AreTaken places path number tried_names ⊎ HasRisen 1 before after
failed_by places path number before after (Ok x) result cause is failed = cc
failed_by places path number before after (Err e) result (inl memory) is failed =
    absurd (lacked (error_kind e) result memory is failed)
failed_by places path number before after (Err e) result (inr cause) is failed = cause
