-- What some plans say in which arrays are made where they are read, beside the plans in which all
-- arrays are stored.
use Rattle.cu_expr.specs.declared.inputs.InputInfo.{InputInfo}
use Rattle.cu_form.specs.Expression.{Expression}
use Rattle.cu_form.specs.declared.args.Arg.{Arg}
use Rattle.cu_form.specs.declared.expr.Node.{Node}
use Rattle.cu_form.specs.declared.form.Form.{Form}
use Rattle.cu_lower.specs.Parts.{made_layout}
use Rattle.cu_lower.specs.declared.options.Options.{Options}
use Rattle.cu_node.specs.Info.{info_of}
use Rattle.cu_node.specs.declared.element_op.ElementOp.{ElementOp}
use Rattle.cu_node.specs.declared.index_item.IndexItem.{IndexItem}
use Rattle.cu_node.specs.declared.info.NodeInfo.{NodeInfo}
use Rattle.cu_num.specs.declared.folds.FoldKind.TheVariants.{Sum}
use Rattle.cu_num.specs.declared.functions.Fn1.TheVariants.{Square}
use Rattle.cu_num.specs.declared.functions.Fn2.TheVariants.{Add, FloorDivide, Greater, Multiply, NotEqual}
use Rattle.cu_num.specs.declared.types.Dtype.TheVariants.{Bool, Int16, Int32, Int64}
use Rattle.cu_plan.specs.Plan.{merged_plan_of}
use Rattle.cu_plan.specs.Text.{operation_fields, plan_line, plan_text}
use Rattle.std.proofs.Common.{◌≡◌, ◌++◌, ℕ, pos, false, List, [], ◌∷◌, None, Some, codes, refl}
use Rattle.std.specs.Fmt.{digits}

abbrev by_fusion : ℕ → Options
by_fusion n = record { allowed = 200000000; reserved = 0; split_every = 4; retries = 2; workers = 1; backups = false; fusion = n }

abbrev node : List ℕ → Form → Node
node name form = record { name = name; form = form }

-- ---- how many of the numbers of [12, 4, 4] are above 20 along the first axis

abbrev counted : Expression
counted = record {
  nodes = node (codes "x") (Form.Input (codes "x")) ∷ node (codes "g") (Form.Elementwise (ElementOp.Two Greater) (Arg.Node 0 ∷ Arg.Int (pos 20) ∷ []))
      ∷ node (codes "i") (Form.Elementwise (ElementOp.Astype Int32) (Arg.Node 1 ∷ [])) ∷ node (codes "s") (Form.Reduce Sum (Arg.Node 2 ∷ []) (Some (pos 0 ∷ [])) false) ∷ [];
  out = 3;
  store_as = codes "y";
}

abbrev numbers : NodeInfo
numbers = info_of Int16 (12 ∷ 4 ∷ 4 ∷ []) (4 ∷ 4 ∷ 2 ∷ [])

abbrev counted_infos : List NodeInfo
counted_infos = numbers ∷ info_of Bool (12 ∷ 4 ∷ 4 ∷ []) (4 ∷ 4 ∷ 2 ∷ []) ∷ info_of Int32 (12 ∷ 4 ∷ 4 ∷ []) (4 ∷ 4 ∷ 2 ∷ []) ∷ info_of Int64 (4 ∷ 4 ∷ []) (4 ∷ 2 ∷ []) ∷ []

abbrev counted_inputs : List InputInfo
counted_inputs = record { name = codes "x"; layout = made_layout numbers } ∷ []

stored_text : plan_text (merged_plan_of counted counted_infos counted_inputs (by_fusion 1))
    ≡ codes "op 0 map node=2 tasks=6 cells=6 projected=2368" ++ 10 ∷ codes "op 1 fold node=3 tasks=6 cells=6 projected=320" ++ 10
    ∷ codes "op 2 merge node=3 tasks=2 cells=2 projected=384" ++ 10 ∷ codes "plan ops=3 tasks=14 cells=14 peak=2368" ++ 10 ∷ []
unfolding digits operation_fields plan_line merged_plan_of
stored_text = refl

-- the comparison is made inside the fold
inlined_text : plan_text (merged_plan_of counted counted_infos counted_inputs (by_fusion 2))
    ≡ codes "op 0 fold node=3 tasks=6 cells=6 projected=2432" ++ 10 ∷ codes "op 1 merge node=3 tasks=2 cells=2 projected=384" ++ 10
    ∷ codes "plan ops=2 tasks=8 cells=8 peak=2432" ++ 10 ∷ []
unfolding digits operation_fields plan_line merged_plan_of
inlined_text = refl

-- ---- six numbers and the same backwards

abbrev six : NodeInfo
six = info_of Int32 (6 ∷ []) (4 ∷ [])

abbrev added : Expression
added = record {
  nodes = node (codes "a") (Form.Input (codes "a")) ∷ node (codes "f") (Form.Flip (Arg.Node 0 ∷ []) None)
      ∷ node (codes "t") (Form.Elementwise (ElementOp.Two Add) (Arg.Node 1 ∷ Arg.Node 0 ∷ [])) ∷ [];
  out = 2;
  store_as = codes "y";
}

abbrev added_inputs : List InputInfo
added_inputs = record { name = codes "a"; layout = made_layout six } ∷ []

added_apart : plan_text (merged_plan_of added (six ∷ six ∷ six ∷ []) added_inputs (by_fusion 1))
    ≡ codes "op 0 pull node=1 tasks=2 cells=2 projected=32" ++ 10 ∷ codes "op 1 map node=2 tasks=2 cells=2 projected=1600" ++ 10
    ∷ codes "plan ops=2 tasks=4 cells=4 peak=1600" ++ 10 ∷ []
unfolding digits operation_fields plan_line merged_plan_of
added_apart = refl

added_together : plan_text (merged_plan_of added (six ∷ six ∷ six ∷ []) added_inputs (by_fusion 2))
    ≡ codes "op 0 map node=2 tasks=2 cells=2 projected=1600" ++ 10 ∷ codes "plan ops=1 tasks=2 cells=2 peak=1600" ++ 10 ∷ []
unfolding digits operation_fields plan_line merged_plan_of
added_together = refl

-- ---- the square of a square, where a number isn't 3: each map loads an array once

abbrev squared : Expression
squared = record {
  nodes = node (codes "a") (Form.Input (codes "a")) ∷ node (codes "n") (Form.Elementwise (ElementOp.Two NotEqual) (Arg.Node 0 ∷ Arg.Int (pos 3) ∷ []))
      ∷ node (codes "w") (Form.Elementwise ElementOp.Where (Arg.Node 1 ∷ Arg.Node 0 ∷ Arg.Int (pos 0) ∷ []))
      ∷ node (codes "s") (Form.Elementwise (ElementOp.One Square) (Arg.Node 2 ∷ []))
      ∷ node (codes "q") (Form.Elementwise (ElementOp.Two Multiply) (Arg.Node 3 ∷ Arg.Node 3 ∷ [])) ∷ [];
  out = 4;
  store_as = codes "y";
}

abbrev squared_infos : List NodeInfo
squared_infos = six ∷ info_of Bool (6 ∷ []) (4 ∷ []) ∷ six ∷ six ∷ six ∷ []

squared_apart : plan_text (merged_plan_of squared squared_infos added_inputs (by_fusion 1))
    ≡ codes "op 0 map node=3 tasks=2 cells=2 projected=3648" ++ 10 ∷ codes "op 1 map node=4 tasks=2 cells=2 projected=1600" ++ 10
    ∷ codes "plan ops=2 tasks=4 cells=4 peak=3648" ++ 10 ∷ []
unfolding digits operation_fields plan_line merged_plan_of
squared_apart = refl

squared_together : plan_text (merged_plan_of squared squared_infos added_inputs (by_fusion 2))
    ≡ codes "op 0 map node=4 tasks=2 cells=2 projected=3632" ++ 10 ∷ codes "plan ops=1 tasks=2 cells=2 peak=3632" ++ 10 ∷ []
unfolding digits operation_fields plan_line merged_plan_of
squared_together = refl

-- ---- the place of the greatest number of x[2:10] * 9 // 5 along the first axis: a search in maps in a view

abbrev placed : Expression
placed = record {
  nodes = node (codes "x") (Form.Input (codes "x")) ∷ node (codes "v") (Form.Index (Arg.Node 0 ∷ []) (IndexItem.Slice (Some (pos 2)) (Some (pos 10)) None ∷ []))
      ∷ node (codes "m") (Form.Elementwise (ElementOp.Two Multiply) (Arg.Node 1 ∷ Arg.Int (pos 9) ∷ []))
      ∷ node (codes "d") (Form.Elementwise (ElementOp.Two FloorDivide) (Arg.Node 2 ∷ Arg.Int (pos 5) ∷ []))
      ∷ node (codes "p") (Form.ArgPlace false (Arg.Node 3 ∷ []) (Some (pos 0)) false) ∷ [];
  out = 4;
  store_as = codes "y";
}

abbrev part : NodeInfo
part = info_of Int16 (8 ∷ 4 ∷ 4 ∷ []) (4 ∷ 4 ∷ 2 ∷ [])

abbrev placed_infos : List NodeInfo
placed_infos = numbers ∷ part ∷ part ∷ part ∷ info_of Int64 (4 ∷ 4 ∷ []) (4 ∷ 2 ∷ []) ∷ []

placed_apart : plan_text (merged_plan_of placed placed_infos counted_inputs (by_fusion 1))
    ≡ codes "op 0 pull node=1 tasks=4 cells=4 projected=128" ++ 10 ∷ codes "op 1 map node=3 tasks=4 cells=4 projected=2752" ++ 10
    ∷ codes "op 2 pairfold node=4 tasks=4 cells=8 projected=208" ++ 10 ∷ codes "op 3 pairmerge node=4 tasks=2 cells=2 projected=464" ++ 10
    ∷ codes "plan ops=4 tasks=14 cells=18 peak=2752" ++ 10 ∷ []
unfolding digits operation_fields plan_line merged_plan_of
placed_apart = refl

placed_together : plan_text (merged_plan_of placed placed_infos counted_inputs (by_fusion 2))
    ≡ codes "op 0 pairfold node=4 tasks=4 cells=8 projected=2832" ++ 10 ∷ codes "op 1 pairmerge node=4 tasks=2 cells=2 projected=464" ++ 10
    ∷ codes "plan ops=2 tasks=6 cells=10 peak=2832" ++ 10 ∷ []
unfolding digits operation_fields plan_line merged_plan_of
placed_together = refl
