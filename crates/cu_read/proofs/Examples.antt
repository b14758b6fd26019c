-- The definition on texts: an expression, and texts with a fault.
use Rattle.std.proofs.Common.{◌≡◌, [], ◌∷◌, pos, refl, codes, Ok, Err}
use Rattle.std.specs.Str.{is_utf8, chars}
use Rattle.serde_json.proofs.OnLiterals.{serde_json_on_literals}
use Rattle.cu_num.specs.declared.functions.Fn2.TheVariants.{Add}
use Rattle.cu_form.specs.declared.args.Arg.{Arg}
use Rattle.cu_node.specs.declared.element_op.ElementOp.{ElementOp}
use Rattle.cu_form.specs.declared.form.Form.{Form}
use Rattle.cu_read.specs.Read.{expression_of}

-- two inputs and their sum
addition : expression_of (codes "{\"nodes\":[{\"id\":\"a\",\"op\":\"input\",\"name\":\"x\"},{\"id\":\"b\",\"op\":\"input\",\"name\":\"y\"},{\"id\":\"s\",\"op\":\"add\",\"args\":[\"a\",\"b\"]}],\"out\":\"s\",\"store_as\":\"z\"}")
    ≡ Ok (record {
      nodes = record { name = codes "a"; form = Form.Input (codes "x") } ∷ record { name = codes "b"; form = Form.Input (codes "y") }
          ∷ record { name = codes "s"; form = Form.Elementwise (ElementOp.Two Add) (Arg.Node 0 ∷ Arg.Node 1 ∷ []) } ∷ [];
      out = 2;
      store_as = codes "z";
    })
unfolding expression_of serde_json_on_literals is_utf8 chars
addition = refl

-- numbers between two bounds
bounds : expression_of (codes "{\"nodes\":[{\"id\":\"a\",\"op\":\"input\",\"name\":\"x\"},{\"id\":\"n\",\"op\":\"clip\",\"max\":5,\"args\":[\"a\"],\"min\":2}],\"out\":\"n\",\"store_as\":\"z\"}")
    ≡ Ok (record {
      nodes = record { name = codes "a"; form = Form.Input (codes "x") }
          ∷ record { name = codes "n"; form = Form.Elementwise (ElementOp.Clip (pos 2) (pos 5)) (Arg.Node 0 ∷ []) } ∷ [];
      out = 1;
      store_as = codes "z";
    })
unfolding expression_of serde_json_on_literals is_utf8 chars
bounds = refl

cut_short : expression_of (codes "{\"nodes\":[") ≡ Err (record { code = 1; node = 0 })
unfolding expression_of serde_json_on_literals is_utf8 chars
cut_short = refl

no_operator : expression_of (codes "{\"nodes\":[{\"id\":\"a\",\"op\":\"sort\"}],\"out\":\"a\",\"store_as\":\"z\"}") ≡ Err (record { code = 4; node = 0 })
unfolding expression_of serde_json_on_literals is_utf8 chars
no_operator = refl

used_before : expression_of (codes "{\"nodes\":[{\"id\":\"a\",\"op\":\"input\",\"name\":\"x\"},{\"id\":\"a\",\"op\":\"input\",\"name\":\"y\"}],\"out\":\"a\",\"store_as\":\"z\"}") ≡ Err (record { code = 6; node = 1 })
unfolding expression_of serde_json_on_literals is_utf8 chars
used_before = refl

-- a number in place of an array comes before an id that names no node
number_first : expression_of (codes "{\"nodes\":[{\"id\":\"n\",\"op\":\"matmul\",\"args\":[1,\"q\"]}],\"out\":\"n\",\"store_as\":\"z\"}") ≡ Err (record { code = 5; node = 0 })
unfolding expression_of serde_json_on_literals is_utf8 chars
number_first = refl

-- a number of another kind comes before both
axis_of_a_kind : expression_of (codes "{\"nodes\":[{\"id\":\"n\",\"op\":\"concat\",\"args\":[1],\"axis\":-0}],\"out\":\"n\",\"store_as\":\"z\"}") ≡ Err (record { code = 3; node = 0 })
unfolding expression_of serde_json_on_literals is_utf8 chars
axis_of_a_kind = refl

-- no groups, and a number in place of the labels
no_groups : expression_of (codes "{\"nodes\":[{\"id\":\"n\",\"op\":\"groupby_min\",\"args\":[1],\"axis\":0,\"groups\":0}],\"out\":\"n\",\"store_as\":\"z\"}") ≡ Err (record { code = 3; node = 0 })
unfolding expression_of serde_json_on_literals is_utf8 chars
no_groups = refl

number_for_labels : expression_of (codes "{\"nodes\":[{\"id\":\"n\",\"op\":\"groupby_sum\",\"args\":[\"q\",1],\"axis\":0,\"groups\":65536}],\"out\":\"n\",\"store_as\":\"z\"}") ≡ Err (record { code = 5; node = 0 })
unfolding expression_of serde_json_on_literals is_utf8 chars
number_for_labels = refl
