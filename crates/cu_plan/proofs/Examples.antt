-- What some plans say, and why some expressions have none.
use Rattle.std.proofs.Common.{◌≡◌, ◌++◌, pos, false, List, ℕ, [], ◌∷◌, None, Some, refl, codes}
use Rattle.std.specs.Fmt.{digits}
use Rattle.cu_num.specs.declared.types.Dtype.TheVariants.{Int16, Int32}
use Rattle.cu_num.specs.declared.functions.Fn2.TheVariants.{Add, Multiply}
use Rattle.cu_form.specs.Expression.{Expression}
use Rattle.cu_form.specs.declared.args.Arg.{Arg}
use Rattle.cu_form.specs.declared.expr.Node.{Node}
use Rattle.cu_form.specs.declared.form.Form.{Form}
use Rattle.cu_node.specs.Info.{info_of}
use Rattle.cu_node.specs.declared.element_op.ElementOp.{ElementOp}
use Rattle.cu_node.specs.declared.info.NodeInfo.{NodeInfo}
use Rattle.cu_expr.specs.declared.inputs.InputInfo.{InputInfo}
use Rattle.cu_lower.specs.Parts.{made_layout}
use Rattle.cu_lower.specs.Plan.{plan_of}
use Rattle.cu_lower.specs.declared.options.Options.{Options}
use Rattle.cu_plan.specs.Plan.{merged_plan_of}
use Rattle.cu_plan.specs.Refusal.{refusal_of}
use Rattle.cu_plan.specs.Text.{operation_fields, plan_line, plan_text}
use Rattle.cu_plan.specs.declared.fault.PlanFault.TheVariants.{OverMemory, OverLimit}

abbrev with_memory : ℕ → Options
with_memory allowed = record { allowed = allowed; reserved = 0; split_every = 4; retries = 2; workers = 1; backups = false; fusion = 1 }

abbrev rechunk : List ℕ → ℕ → ℕ → Node
rechunk name source size = record { name = name; form = Form.Rechunk (Arg.Node source ∷ []) (size ∷ []) }

-- ---- 6 numbers in chunks of 4

abbrev numbers : Expression
numbers = record { nodes = record { name = codes "s"; form = Form.Arange (pos 0) (pos 6) (pos 1) Int32 (4 ∷ []) } ∷ []; out = 0; store_as = codes "y" }

numbers_text : plan_text (plan_of numbers (info_of Int32 (6 ∷ []) (4 ∷ []) ∷ []) [] (with_memory 64))
    ≡ codes "op 0 pull node=0 tasks=2 cells=2 projected=32" ++ 10 ∷ codes "plan ops=1 tasks=2 cells=2 peak=32" ++ 10 ∷ []
unfolding digits operation_fields plan_line
numbers_text = refl

-- ---- 7 elements of 2 bytes from chunks of 5 to 3

abbrev fives : NodeInfo
fives = info_of Int16 (7 ∷ []) (5 ∷ [])

abbrev tight : Expression
tight = record { nodes = record { name = codes "x"; form = Form.Input (codes "x") } ∷ rechunk (codes "t") 0 3 ∷ []; out = 1; store_as = codes "y" }

abbrev tight_infos : List NodeInfo
tight_infos = fives ∷ info_of Int16 (7 ∷ []) (3 ∷ []) ∷ []

abbrev tight_inputs : List InputInfo
tight_inputs = record { name = codes "x"; layout = made_layout fives } ∷ []

tight_text : plan_text (plan_of tight tight_infos tight_inputs (with_memory 20))
    ≡ codes "op 0 copy node=1 tasks=3 cells=3 projected=16" ++ 10 ∷ codes "plan ops=1 tasks=3 cells=3 peak=16" ++ 10 ∷ []
unfolding digits operation_fields plan_line
tight_text = refl

least_memory : refusal_of (with_memory 20) tight tight_infos ≡ None
least_memory = refl

one_byte_short : refusal_of (with_memory 19) tight tight_infos ≡ Some (OverMemory 1 20 19)
one_byte_short = refl

-- ---- copies of one another into chunks of one

abbrev ones : NodeInfo
ones = info_of Int32 (65536 ∷ []) (1 ∷ [])

abbrev chain : Expression
chain = record {
  nodes = record { name = codes "a"; form = Form.Arange (pos 0) (pos 65536) (pos 1) Int32 (65536 ∷ []) } ∷ rechunk (codes "b") 0 1 ∷ rechunk (codes "c") 1 1 ∷ rechunk (codes "d") 2 1
      ∷ rechunk (codes "e") 3 1 ∷ [];
  out = 4;
  store_as = codes "y";
}

too_many_chunks : refusal_of (with_memory 200000000) chain (info_of Int32 (65536 ∷ []) (65536 ∷ []) ∷ ones ∷ ones ∷ ones ∷ ones ∷ []) ≡ Some (OverLimit 2 262145)
too_many_chunks = refl

-- memory comes before the counts
memory_first : refusal_of (with_memory 3) chain (info_of Int32 (65536 ∷ []) (65536 ∷ []) ∷ ones ∷ ones ∷ ones ∷ ones ∷ []) ≡ Some (OverMemory 0 524288 3)
memory_first = refl

-- ---- twice a sum

abbrev six : NodeInfo
six = info_of Int32 (6 ∷ []) (4 ∷ [])

abbrev input : List ℕ → Node
input name = record { name = name; form = Form.Input name }

abbrev twice_a_sum : Expression
twice_a_sum = record {
  nodes = input (codes "a") ∷ input (codes "b") ∷ record { name = codes "s"; form = Form.Elementwise (ElementOp.Two Add) (Arg.Node 0 ∷ Arg.Node 1 ∷ []) }
      ∷ record { name = codes "t"; form = Form.Elementwise (ElementOp.Two Multiply) (Arg.Node 2 ∷ Arg.Int (pos 2) ∷ []) } ∷ [];
  out = 3;
  store_as = codes "y";
}

abbrev twice_inputs : List InputInfo
twice_inputs = record { name = codes "a"; layout = made_layout six } ∷ record { name = codes "b"; layout = made_layout six } ∷ []

-- with enough memory the two maps are one, with a byte less they are two, and no memory is refused for it
merged_text : plan_text (merged_plan_of twice_a_sum (six ∷ six ∷ six ∷ six ∷ []) twice_inputs (with_memory 2624))
    ≡ codes "op 0 map node=3 tasks=2 cells=2 projected=2624" ++ 10 ∷ codes "plan ops=1 tasks=2 cells=2 peak=2624" ++ 10 ∷ []
unfolding digits operation_fields plan_line merged_plan_of
merged_text = refl

unmerged_text : plan_text (merged_plan_of twice_a_sum (six ∷ six ∷ six ∷ six ∷ []) twice_inputs (with_memory 2623))
    ≡ codes "op 0 map node=2 tasks=2 cells=2 projected=1600" ++ 10 ∷ codes "op 1 map node=3 tasks=2 cells=2 projected=1584" ++ 10
    ∷ codes "plan ops=2 tasks=4 cells=4 peak=1600" ++ 10 ∷ []
unfolding digits operation_fields plan_line merged_plan_of
unmerged_text = refl

sum_alone : refusal_of (with_memory 1600) twice_a_sum (six ∷ six ∷ six ∷ six ∷ []) ≡ None
sum_alone = refl

sum_refused : refusal_of (with_memory 1599) twice_a_sum (six ∷ six ∷ six ∷ six ∷ []) ≡ Some (OverMemory 2 1600 1599)
sum_refused = refl
