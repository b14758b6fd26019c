-- What a command leaves of what the inputs of its text hold. This project's own rules.
use Rattle.std.specs.Prelude.{◌≡◌, ℕ, List, ◌++◌, codes, Contains}
use Rattle.cu_form.specs.Expression.{Expression}
use Rattle.cu_form.specs.declared.expr.Node.{Node}
use Rattle.cu_form.specs.declared.form.Form.{Form}
use Rattle.cu_read.specs.Form.{HasForm}
use Rattle.cu_store.specs.Held.{IsAmong}
use Rattle.cu_store.specs.Steps.{Shown, Changes}
use Rattle.cu_command.specs.Seen.{Stepped}

-- an input node of the expression uses the array with this name
abbrev pub IsUsed : Expression → List ℕ → Type 0
IsUsed e name = (node : Node) × Contains e.nodes node × (node.form ≡ Form.Input name)

-- The text is an expression that uses an array under whose name the key stands. So stand the keys of
-- the array's metadata, of either version, and of each of its chunks.
abbrev pub IsInputKeyOf : List ℕ → List ℕ → Type 0
IsInputKeyOf text key = (e : Expression) × HasForm text e
    × ((name : List ℕ) × IsUsed e name × ((rest : List ℕ) × (key ≡ name ++ (codes "/" ++ rest))))

-- changes under keys of no input
abbrev pub Elsewhere : List ℕ → Changes
Elsewhere text key value = IsInputKeyOf text key → ⊥

-- Each key of an input holds what it held, or what a put carried that was late and landed. What is
-- late there now was late before.
abbrev pub LeavesInputs : List ℕ → Shown → Shown → Type 0
LeavesInputs text old new = Stepped (Elsewhere text) old new

-- no put that failed may still land under a key of an input
abbrev pub AreInputsSettled : List ℕ → Shown → Type 0
AreInputsSettled text shown =
    (key bytes : List ℕ) → IsInputKeyOf text key → IsAmong shown.late key bytes → ⊥
