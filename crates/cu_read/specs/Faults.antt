-- The codes of the faults of an expression's text (this project's own rule).
use Rattle.std.specs.Prelude.{◌≡◌, ℕ, Result, Ok, Err}
use Rattle.cu_read.specs.declared.faults.NodeCode.{NodeCode}
use Rattle.cu_read.specs.declared.faults.NodeRefused.{NodeRefused}
use Rattle.cu_read.specs.declared.faults.ReadFault.{ReadFault}
use Rattle.cu_read.specs.declared.faults.ReadRefused.{ReadRefused}

-- the numbers of what a node is refused for
abbrev pub node_code_number : NodeCode → ℕ
node_code_number NodeCode.Form = 3
node_code_number NodeCode.Unknown = 4
node_code_number NodeCode.Args = 5
node_code_number NodeCode.Id = 6

-- the answer is the one that is said, or memory was wanted and not had
abbrev pub Gives : {A : Type 0} → Result A NodeRefused → Result A NodeCode → Type 0
Gives (Ok x) said = said ≡ Ok x
Gives (Err (NodeRefused.Code code)) said = said ≡ Err code
Gives (Err NodeRefused.NoMemory) said = Unit {0}

-- the answer, seen by this view, is the one that is said, or memory was wanted and not had
abbrev pub GivesAs : {A B : Type 0} → (A → B) → Result A ReadRefused → Result B ReadFault → Type 0
GivesAs seen (Ok x) said = said ≡ Ok (seen x)
GivesAs seen (Err (ReadRefused.Fault fault)) said = said ≡ Err fault
GivesAs seen (Err ReadRefused.NoMemory) said = Unit {0}

-- where the refusal has a fault, the fault has the property; want of memory says nothing
abbrev pub IfReadFault : ReadRefused → (ReadFault → Type 0) → Type 0
IfReadFault (ReadRefused.Fault fault) P = P fault
IfReadFault ReadRefused.NoMemory P = Unit {0}
