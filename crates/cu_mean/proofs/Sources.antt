-- What an argument of a number names.
use Rattle.std.proofs.Common.{◌≡◌, ◌<◌, ◌≤◌, ℕ, pos, List, length, get_or, Option, Some, sym, ap, ◌∙◌}
use Rattle.cu_form.specs.declared.args.Arg.{Arg}
use Rattle.cu_semantics.specs.Argument.{NodeElements, element_from, source_at}
use Rattle.cu_mean.proofs.Found.{found, past}

pub source_past : (at : NodeElements) (args : List Arg) (j : ℕ) (idx : List ℕ) → length args ≤ j → pos 0 ≡ source_at at args j idx
source_past at args j idx le = ap (λ (arg : Option Arg). element_from at arg idx) (sym (past args j le))

pub source_is : (at : NodeElements) (args : List Arg) (j : ℕ) (idx : List ℕ) (d arg : Arg) → j < length args → get_or args j d ≡ arg → element_from at (Some arg) idx ≡ source_at at args j idx
source_is at args j idx d arg lt is = ap (λ (found_arg : Option Arg). element_from at found_arg idx) (sym (found args j d lt ∙ ap Some is))
