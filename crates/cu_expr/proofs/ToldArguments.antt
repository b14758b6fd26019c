-- What is told of the arguments of a node.
use Rattle.std.proofs.Common.{◌≡◌, ℕ, suc, ◌<◌, ◌≤◌, true, List, [], ◌∷◌, length, map, All, refl, ap, sym, ◌∙◌, arith, inl, inr}
use Rattle.std.specs.List.{list_all}
use Rattle.std.proofs.lemmas.Bool.{and_parts, leb-true, cases_lt}
use Rattle.std.proofs.lemmas.List.{get_or_past}
use Rattle.std.proofs.lemmas.List.Elements.{All-nil, All-cons, All-get_or}
use Rattle.cu_form.specs.Form.{args_of, is_array, are_arrays, takes_args}
use Rattle.cu_form.specs.declared.args.Arg.{Arg}
use Rattle.cu_form.specs.declared.form.Form.{Form}
use Rattle.cu_node.specs.Info.{IsInfo, info_at, no_info}
use Rattle.cu_node.specs.declared.info.NodeInfo.{NodeInfo}
use Rattle.cu_typing.specs.Joined.{arrays_of}
use Rattle.cu_expr.specs.Premises.{HasArrays}
use Rattle.cu_expr.specs.Typing.{argument_of, told_of}

pub no_info_kept : IsInfo no_info
no_info_kept = record {
  ranks = refl;
  short = omega arith;
  positive = All-nil (λ (c : ℕ). 0 < c);
  elements = omega arith;
  chunks = omega arith;
  bytes = omega arith;
}

pub info_kept : (infos : List NodeInfo) (k : ℕ) → All IsInfo infos → IsInfo (info_at infos k)
info_kept infos k h =
    elim (cases_lt k (length infos)) [
      | inl l ↦ All-get_or IsInfo infos k no_info l h
      | inr g ↦ rw (get_or_past infos k no_info g) no_info_kept
    ]

-- the arrays among the arguments keep the limits
pub told_kept : (infos : List NodeInfo) (args : List Arg) → All IsInfo infos → All IsInfo (arrays_of (map (argument_of infos) args))
told_kept infos [] h = All-nil IsInfo
told_kept infos (Arg.Node n ∷ args) h = All-cons IsInfo (info_at infos n) _ (info_kept infos n h) (told_kept infos args h)
told_kept infos (Arg.Int x ∷ args) h = told_kept infos args h
told_kept infos (Arg.Truth b ∷ args) h = told_kept infos args h

-- arguments that are arrays are told as so many arrays
all_told : (infos : List NodeInfo) (args : List Arg) → list_all is_array args ≡ true → length (arrays_of (map (argument_of infos) args)) ≡ length args
all_told infos [] h = refl
all_told infos (Arg.Node n ∷ args) h = ap suc (all_told infos args h)
all_told infos (Arg.Int x ∷ args) h = cc
all_told infos (Arg.Truth b ∷ args) h = cc

-- of a form that takes so many arrays to so many, as many are told
pub told_count : (infos : List NodeInfo) (form : Form) → HasArrays form (length (arrays_of (told_of infos form)))
told_count infos form least most h =
    let both = and_parts _ _ h in
    let ends = and_parts _ _ both.0 in
    let e : length (arrays_of (told_of infos form)) ≡ length (args_of form) = all_told infos (args_of form) both.1 in
    let fewest : least ≤ length (args_of form) = leb-true least (length (args_of form)) ends.0 in
    let longest : length (args_of form) ≤ most = leb-true (length (args_of form)) most ends.1 in
    (omega arith, omega arith)

-- by another name of a form that takes one to eight arrays
pub one_to_eight : (form other : Form) (n : ℕ) → form ≡ other → takes_args form ≡ true → HasArrays form n → takes_args other ≡ are_arrays 1 8 (args_of other) → (0 < n) × (n ≤ 8)
one_to_eight form other n is takes has own =
    let told = has 1 8 (ap (λ (f : Form). are_arrays 1 8 (args_of f)) is ∙ sym own ∙ sym (ap takes_args is) ∙ takes) in
    (omega (arith, told.0), told.1)
