-- The premises of `load` and of the demonstration are met.
use Rattle.std.proofs.Common.{◌≡◌, List, [], ◌∷◌, Some, None, Ok, refl, sym, ap, ◌∙◌, subst, inl, inr, codes, arith}
use Rattle.std.specs.Fmt.{digits}
use Rattle.cu_num.specs.Element.{element_bytes}
use Rattle.cu_num.specs.Promotion.{promotion}
use Rattle.cu_num.specs.Wrap.{wrapped}
use Rattle.cu_num.specs.declared.types.Dtype.TheVariants.{Int32, Int64}
use Rattle.cu_command.specs.declared.job.Job.{Job}
use Rattle.cu_demo.specs.Expression.{IsDemoJob, demo_expression, demo_inputs}
use Rattle.cu_expr.specs.Typing.{typed}
use Rattle.cu_form.specs.Expression.{Expression}
use Rattle.cu_load.specs.Load.{IsArrayCalm, given_chunk, key_of_chunk}
use Rattle.cu_node.specs.Info.{info_of}
use Rattle.cu_node.specs.declared.info.NodeInfo.{NodeInfo}
use Rattle.cu_plan.specs.Refusal.{refusal_of}
use Rattle.cu_top.specs.Demo.{IsDemoAtRest, IsDemoCalm}
use Rattle.cu_top.specs.Sample.{demo_options, empty_held, empty_shown, sample_array, sample_chunk, sample_late}

-- ---- an array whose chunk is late

first_chunk : given_chunk sample_array 0 ≡ Some sample_chunk
unfolding element_bytes wrapped
first_chunk = refl

first_key : key_of_chunk sample_array 0 ≡ codes "x/c/0"
unfolding digits
first_key = refl

pub array_calm : IsArrayCalm sample_array sample_late
array_calm key bytes (inl (is, same)) of_array = inr (0, omega arith, (bytes, first_chunk ∙ ap Some (sym same), (is ∙ sym first_key, refl)))
array_calm key bytes (inr none) of_array = absurd none

-- ---- a demonstration over an empty store

abbrev infos : List NodeInfo
infos =
    info_of Int32 (2 ∷ 2 ∷ []) (2 ∷ 2 ∷ []) ∷ info_of Int32 (2 ∷ 2 ∷ []) (2 ∷ 2 ∷ []) ∷ info_of Int32 (2 ∷ 2 ∷ []) (2 ∷ 2 ∷ []) ∷ info_of Int32 (2 ∷ 2 ∷ []) (2 ∷ 2 ∷ [])
    ∷ info_of Int32 (2 ∷ 2 ∷ []) (2 ∷ 2 ∷ []) ∷ info_of Int32 (2 ∷ 2 ∷ []) (2 ∷ 2 ∷ []) ∷ info_of Int64 (2 ∷ []) (2 ∷ []) ∷ info_of Int64 [] [] ∷ []

has_types : typed (demo_inputs 2) demo_expression ≡ Ok infos
unfolding promotion
has_types = refl

has_plan : refusal_of demo_options demo_expression infos ≡ None
has_plan = refl

same_types : (a b : List NodeInfo) → typed (demo_inputs 2) demo_expression ≡ Ok a → typed (demo_inputs 2) demo_expression ≡ Ok b → a ≡ b
same_types a b one other = cc

planned : (job : Job) → IsDemoJob 2 job → refusal_of demo_options job.expr job.types ≡ None
planned job is =
    let types = same_types job.types infos (subst (λ (e : Expression). typed (demo_inputs 2) e ≡ Ok job.types) is.expr is.types) has_types in
    ap (λ (e : Expression). refusal_of demo_options e job.types) is.expr ∙ ap (λ (ts : List NodeInfo). refusal_of demo_options demo_expression ts) types ∙ has_plan

pub demo_at_rest : IsDemoAtRest demo_options 2 empty_held empty_shown
demo_at_rest = record {
  planned = planned;
  free = λ job key is listed. refl;
  settled = λ job key bytes is listed among. absurd among;
}

pub demo_calm : IsDemoCalm demo_options 2 empty_shown
demo_calm = record {
  inputs = (λ key bytes among listed. absurd among, λ key bytes among listed. absurd among);
  hidden = λ input bytes among. absurd among;
  plan = λ held job stores is has. record { pieces = λ q bytes piece among. absurd among; inputs = λ k bytes chunk among. absurd among };
}
