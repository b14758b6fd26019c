-- From the parts of the call to what it answers.
use Rattle.std.proofs.Common.{◌≡◌, ℕ, ◌+◌, ◌*◌, arith, List, Some, Ok, inl, inr, refl, subst}
use Rattle.cu_store.specs.Held.{Write, IsAmong}
use Rattle.cu_store.specs.Steps.{Shown, NoChange, OrLate, AllLateIn, OnceEach}
use Rattle.cu_store.proofs.Once.{once_then, once_few}
use Rattle.cu_command.proofs.SeenLemmas.{stepped_none, stepped_then, within_then, within_few}
use Rattle.cu_command.specs.Seen.{Stream, Seen, Stepped, WithinCalls, seen}
use Rattle.cu_command.specs.Streams.{ReadsAll}
use Rattle.cu_command.specs.declared.status.Status.{Status}
use Rattle.cu_command.specs.declared.status.Status.TheVariants.{Done, Exists, WriteFault, DepotFailed, NoMemory}
use Rattle.cu_load.proofs.AskLemmas.{rose_earlier}
use Rattle.cu_load.specs.Keys.{IsAskedFor, AreFree, IsAskFault}
use Rattle.cu_load.specs.Load.{IsArrayKey, IsArrayCalm, IsPutFault, IsPutWanting, IsStoreFault, Stored, Loaded}
use Rattle.cu_load.specs.LoadForm.{GivenArray, load_of}

-- asking for the keys ended the call
pub ask_ended : (retries : ℕ) (a : GivenArray) (name : List ℕ) (out : Stream) (old new : Shown) (status : Status)
    → name ≡ a.name → Stepped NoChange old new → IsAskFault (retries + 1) (IsAskedFor name old.held) old.faults new.faults new.held status → Stored retries a (seen out old) (seen out new) status
ask_ended retries a name out old new (Exists key) same quiet fault = (subst (λ (n : List ℕ). IsAskedFor n old.held key) same fault.0, fault.1, (quiet, refl))
ask_ended retries a name out old new (DepotFailed key) same quiet fault = (fault.1, refl, inl (subst (λ (n : List ℕ). IsAskedFor n old.held key) same fault.0, quiet))
ask_ended retries a name out old new NoMemory same quiet fault = (refl, inl quiet)
ask_ended retries a name out old new status same quiet fault = absurd fault

-- ---- a step without a change, and then the calls that store

calm_at : (a : GivenArray) (late : List Write) (key bytes : List ℕ) → IsArrayCalm a late → IsArrayKey a key → OrLate NoChange late key (Some bytes) → (other : List ℕ) × (bytes ≡ other) × IsAmong late key other
calm_at a late key bytes calm of_array (inl none) = absurd none
calm_at a late key bytes calm of_array (inr (other, is, among)) = (other, cc, among)

-- the premise stands
pub still_calm : (a : GivenArray) (late now_late : List Write) → AllLateIn now_late (OrLate NoChange late) → IsArrayCalm a late → IsArrayCalm a now_late
still_calm a late now_late stay calm key bytes among of_array =
    let (other, same, was) = calm_at a late key bytes calm of_array (stay key bytes among) in
    rw same (calm key other was of_array)

fault_since : (a : GivenArray) (old mid new : Shown) (key : List ℕ) → Stepped NoChange old mid → IsPutFault a mid new key → IsPutFault a old new key
fault_since a old mid new key quiet (inl (k, below, same, step, before)) = inl (k, below, same, stepped_then (stepped_none quiet) step, λ calm. before (still_calm a old.late mid.late quiet.step.late calm))
fault_since a old mid new key quiet (inr (same, step, stores)) = inr (same, stepped_then (stepped_none quiet) step, λ calm. stores (still_calm a old.late mid.late quiet.step.late calm))

wanting_since : (a : GivenArray) (old mid new : Shown) → Stepped NoChange old mid → IsPutWanting a mid new → IsPutWanting a old new
wanting_since a old mid new quiet (inl (n, few, step, before)) = inl (n, few, stepped_then (stepped_none quiet) step, λ calm. before (still_calm a old.late mid.late quiet.step.late calm))
wanting_since a old mid new quiet (inr (rose, (key, fault))) = inr (rose_earlier 1 old.faults mid.faults new.faults quiet.step.count rose, (key, fault_since a old mid new key quiet fault))

-- storing ended it
pub store_ended : (retries : ℕ) (a : GivenArray) (out : Stream) (old mid new : Shown) (status : Status)
    → AreFree a.name old.held → Stepped NoChange old mid → IsStoreFault (retries + 1) a mid new status → Stored retries a (seen out old) (seen out new) status
store_ended retries a out old mid new (DepotFailed key) free quiet fault = (rose_earlier (retries + 1) old.faults mid.faults new.faults quiet.step.count fault.0, refl, inr (free, fault_since a old mid new key quiet fault.1))
store_ended retries a out old mid new NoMemory free quiet (lacks, fault) = (refl, inr (free, lacks, wanting_since a old mid new quiet fault))
store_ended retries a out old mid new status free quiet fault = absurd fault

-- the array was read, and storing it answered
pub loaded : (retries : ℕ) (src next : Stream) (old new : Seen) (text : List ℕ) (a : GivenArray) (status : Status)
    → ReadsAll src.told next.told text → load_of text ≡ Ok a → Stored retries a old new status → Loaded retries src next old new status
loaded retries src next old new text a (Exists key) read gives stored = record { text = text; read = read; array = a; gives = gives; is_so = stored }
loaded retries src next old new text a (DepotFailed key) read gives stored = record { text = text; read = read; array = a; gives = gives; is_so = stored }
loaded retries src next old new text a NoMemory read gives stored = inr (record { text = text; read = read; array = a; gives = gives; is_so = stored })
loaded retries src next old new text a Done read gives stored = record { text = text; read = read; array = a; gives = gives; is_so = stored }
loaded retries src next old new text a WriteFault read gives stored = record { text = text; read = read; array = a; gives = gives; is_so = stored }
loaded retries src next old new text a status read gives stored = absurd stored

-- how many calls are made: for three keys, and then for the chunks and the metadata
pub load_calls : (chunks tries : ℕ) (a b c : Shown) → WithinCalls (3 * tries) a b → WithinCalls ((chunks + 1) * tries) b c → WithinCalls ((chunks + 4) * tries) a c
load_calls chunks tries a b c first next = within_few (3 + (chunks + 1)) (chunks + 4) tries a c (omega arith) (within_then 3 (chunks + 1) tries a b c first next)

pub load_once : (chunks : ℕ) (a b c : Shown) → OnceEach 3 a b → OnceEach (chunks + 1) b c → OnceEach (chunks + 4) a c
load_once chunks a b c first next = once_few (3 + (chunks + 1)) (chunks + 4) a c (omega arith) (once_then 3 (chunks + 1) a b c first next)
