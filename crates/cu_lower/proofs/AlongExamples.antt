-- Plans of small prefix sums and of groups by labels: their operations, arrays, values and meanings.
use Rattle.std.proofs.Common.{◌≡◌, ◌+◌, ℕ, zero, suc, pos, false, List, [], ◌∷◌, None, Some, refl, codes}
use Rattle.std.specs.Prelude.{map, slice_index}
use Rattle.cu_num.specs.Wrap.{wrapped}
use Rattle.cu_num.specs.declared.folds.FoldKind.TheVariants.{Sum}
use Rattle.cu_num.specs.declared.types.Dtype.TheVariants.{Int8, Int32, Int64}
use Rattle.cu_op.specs.Elements.{Elements}
use Rattle.cu_op.specs.Value.{plan_value}
use Rattle.cu_op.specs.declared.layout.ArrayInfo.{ArrayInfo}
use Rattle.cu_op.specs.declared.operation.Op.TheVariants.{Carry, Copy, Fold, GroupFold, Merge, Scan}
use Rattle.cu_form.specs.Expression.{Expression}
use Rattle.cu_form.specs.declared.args.Arg.{Arg}
use Rattle.cu_form.specs.declared.expr.Node.{Node}
use Rattle.cu_form.specs.declared.form.Form.{Form}
use Rattle.cu_node.specs.Info.{info_of}
use Rattle.cu_node.specs.declared.info.NodeInfo.{NodeInfo}
use Rattle.cu_expr.specs.declared.inputs.InputInfo.{InputInfo}
use Rattle.cu_semantics.specs.Meaning.{meaning_of}
use Rattle.cu_lower.specs.Parts.{made_layout}
use Rattle.cu_lower.specs.Plan.{plan_of}
use Rattle.cu_lower.specs.declared.options.Options.{Options}

abbrev of_form : List ℕ → Form → Node
of_form name form = record { name = name; form = form }

abbrev in_groups : ℕ → Options
in_groups g = record { allowed = 200; reserved = 0; split_every = g; retries = 2; workers = 1; backups = false; fusion = 1 }

abbrev input_of : List ℕ → NodeInfo → InputInfo
input_of name i = record { name = name; layout = made_layout i }

-- ---- prefix sums of 1, 2, 3, 4, 5

abbrev summed : Expression
summed = record { nodes = of_form (codes "a") (Form.Input (codes "a")) ∷ of_form (codes "s") (Form.CumulativeSum (Arg.Node 0 ∷ []) None) ∷ []; out = 1; store_as = codes "y" }

-- in chunks of one, and groups of two: five sums, three and two
abbrev ones : List NodeInfo
ones = info_of Int32 (5 ∷ []) (1 ∷ []) ∷ info_of Int64 (5 ∷ []) (1 ∷ []) ∷ []

abbrev inputs_of_ones : List InputInfo
inputs_of_ones = input_of (codes "a") (info_of Int32 (5 ∷ []) (1 ∷ [])) ∷ []

abbrev counted : Elements
counted array idx = Some (pos (slice_index idx 0 + 1))

the_operations : (plan_of summed ones inputs_of_ones (in_groups 2)).ops
    ≡ record { op = Fold Sum (record { 0 = 1 }) 0 1; node = 1; projected = 20 }
    ∷ record { op = Merge Sum 0 2 1 2; node = 1; projected = 32 }
    ∷ record { op = Merge Sum 0 2 2 3; node = 1; projected = 32 }
    ∷ record { op = Carry 0 2 3 None 4; node = 1; projected = 40 }
    ∷ record { op = Carry 0 2 2 (Some 4) 5; node = 1; projected = 40 }
    ∷ record { op = Carry 0 2 1 (Some 5) 6; node = 1; projected = 40 }
    ∷ record { op = Scan 0 0 (Some 6) 7; node = 1; projected = 28 } ∷ []
the_operations = refl

the_shapes : map (λ (x : ArrayInfo). x.layout.grid.shape) (plan_of summed ones inputs_of_ones (in_groups 2)).arrays
    ≡ (5 ∷ []) ∷ (5 ∷ []) ∷ (3 ∷ []) ∷ (2 ∷ []) ∷ (2 ∷ []) ∷ (3 ∷ []) ∷ (5 ∷ []) ∷ (5 ∷ []) ∷ []
the_shapes = refl

the_last : plan_value (plan_of summed ones inputs_of_ones (in_groups 2)) counted 7 (4 ∷ []) ≡ Some (pos 15)
unfolding wrapped
the_last = refl

the_last_is_meant : meaning_of summed ones (λ k idx. pos (slice_index idx 0 + 1)) 1 (4 ∷ []) ≡ pos 15
unfolding wrapped
the_last_is_meant = refl

-- one chunk: a scan alone
alone : (plan_of summed (info_of Int32 (5 ∷ []) (5 ∷ []) ∷ info_of Int64 (5 ∷ []) (5 ∷ []) ∷ []) (input_of (codes "a") (info_of Int32 (5 ∷ []) (5 ∷ [])) ∷ []) (in_groups 2)).ops
    ≡ record { op = Scan 0 0 None 1; node = 1; projected = 100 } ∷ []
alone = refl

-- ---- three groups of 1, 2, 3, 4, 5 by the labels 0, 1, 0, 3, 1

abbrev grouped : Expression
grouped = record {
  nodes = of_form (codes "a") (Form.Input (codes "a")) ∷ of_form (codes "l") (Form.Input (codes "l")) ∷ of_form (codes "g") (Form.GroupBy false (Arg.Node 0 ∷ Arg.Node 1 ∷ []) (pos 0) 3) ∷ [];
  out = 2;
  store_as = codes "y";
}

abbrev twos : List NodeInfo
twos = info_of Int32 (5 ∷ []) (2 ∷ []) ∷ info_of Int32 (5 ∷ []) (2 ∷ []) ∷ info_of Int64 (3 ∷ []) (3 ∷ []) ∷ []

abbrev inputs_of_twos : List InputInfo
inputs_of_twos = input_of (codes "a") (info_of Int32 (5 ∷ []) (2 ∷ [])) ∷ input_of (codes "l") (info_of Int32 (5 ∷ []) (2 ∷ [])) ∷ []

the_groups : (plan_of grouped twos inputs_of_twos (in_groups 4)).ops
    ≡ record { op = GroupFold Sum 0 3 0 1 2; node = 2; projected = 64 } ∷ record { op = Merge Sum 1 4 2 3; node = 2; projected = 144 } ∷ []
the_groups = refl

-- the labels 0, 1, 0, 3, 1
abbrev label_of : ℕ → ℕ
label_of zero = 0
label_of (suc zero) = 1
label_of (suc (suc zero)) = 0
label_of (suc (suc (suc zero))) = 3
label_of k = 1

abbrev with_labels : Elements
with_labels zero idx = Some (pos (slice_index idx 0 + 1))
with_labels array idx = Some (pos (label_of (slice_index idx 0)))

second_group : plan_value (plan_of grouped twos inputs_of_twos (in_groups 4)) with_labels 3 (1 ∷ []) ≡ Some (pos 7)
unfolding wrapped
second_group = refl

-- labels in one chunk are copied into chunks of two
abbrev other_labels : List NodeInfo
other_labels = info_of Int32 (5 ∷ []) (2 ∷ []) ∷ info_of Int8 (5 ∷ []) (5 ∷ []) ∷ info_of Int64 (3 ∷ []) (3 ∷ []) ∷ []

labels_copied : (plan_of grouped other_labels (input_of (codes "a") (info_of Int32 (5 ∷ []) (2 ∷ [])) ∷ input_of (codes "l") (info_of Int8 (5 ∷ []) (5 ∷ [])) ∷ []) (in_groups 4)).ops
    ≡ record { op = Copy (5 ∷ []) 1 2; node = 2; projected = 10 }
    ∷ record { op = GroupFold Sum 0 3 0 2 3; node = 2; projected = 58 } ∷ record { op = Merge Sum 1 4 3 4; node = 2; projected = 144 } ∷ []
labels_copied = refl
