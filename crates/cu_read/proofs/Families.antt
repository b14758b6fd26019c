-- The families of operators, of which each is asked for the row in turn.
use Rattle.std.proofs.Common.{◌≡◌, ◌⊎◌, inl, inr, Result, Ok, Err, Some, None, refl, subst}
use Rattle.cu_form.specs.declared.form.Form.{Form}
use Rattle.cu_read.specs.Faults.{Gives}
use Rattle.cu_read.specs.Node.{if_known, or_row}
use Rattle.cu_read.specs.declared.faults.NodeCode.{NodeCode}
use Rattle.cu_read.specs.declared.faults.NodeRefused.{NodeRefused}

-- the row is the answer, whatever the next families say, or its family hasn't the operator
answers_or_not : (row : Result Form NodeRefused) (said next : Result Form NodeCode) → Gives row said
    → ((if_known row ≡ Some row) × Gives row (or_row said next)) ⊎ (row ≡ Err (NodeRefused.Code NodeCode.Unknown))
answers_or_not (Ok form) said next gives = inl (refl, rw gives refl)
answers_or_not (Err (NodeRefused.Code NodeCode.Form)) said next gives = inl (refl, rw gives refl)
answers_or_not (Err (NodeRefused.Code NodeCode.Unknown)) said next gives = inr refl
answers_or_not (Err (NodeRefused.Code NodeCode.Args)) said next gives = inl (refl, rw gives refl)
answers_or_not (Err (NodeRefused.Code NodeCode.Id)) said next gives = inl (refl, rw gives refl)
answers_or_not (Err NodeRefused.NoMemory) said next gives = inl (refl, tt)

-- a row of the family that has the operator is the answer
pub known : (row kept : Result Form NodeRefused) (said next : Result Form NodeCode) → Gives row said → if_known row ≡ Some kept → Gives kept (or_row said next)
known row kept said next gives is = elim (answers_or_not row said next gives) [
  | inl (own, answers) ↦ let same : row ≡ kept = cc in subst (λ (r : Result Form NodeRefused). Gives r (or_row said next)) same answers
  | inr other ↦ let none = rw other at is in cc
]

-- where a family hasn't the operator, the next ones answer
pub unknown : (row kept : Result Form NodeRefused) (said next : Result Form NodeCode) → Gives row said → if_known row ≡ None → Gives kept next → Gives kept (or_row said next)
unknown row kept said next gives is h = elim (answers_or_not row said next gives) [
  | inl (own, answers) ↦ cc
  | inr other ↦ let no_such : said ≡ Err NodeCode.Unknown = rw other at gives in rw no_such h
]
