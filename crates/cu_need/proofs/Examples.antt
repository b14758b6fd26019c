-- Live nodes, needs and counts of small expressions.
use Rattle.std.proofs.Common.{◌≡◌, ℕ, pos, negsuc, true, false, List, [], ◌∷◌, None, Some, refl, codes, map}
use Rattle.cu_num.specs.declared.folds.FoldKind.TheVariants.{Sum}
use Rattle.cu_num.specs.declared.functions.Fn1.TheVariants.{LogicalNot, Negative}
use Rattle.cu_num.specs.declared.types.Dtype.TheVariants.{Bool, Int8, Int32, Int64}
use Rattle.cu_num.specs.declared.functions.Fn2.TheVariants.{Add, Multiply}
use Rattle.cu_form.specs.Expression.{Expression}
use Rattle.cu_form.specs.declared.args.Arg.{Arg}
use Rattle.cu_form.specs.declared.expr.Node.{Node}
use Rattle.cu_node.specs.declared.element_op.ElementOp.{ElementOp}
use Rattle.cu_form.specs.declared.form.Form.{Form}
use Rattle.cu_node.specs.declared.index_item.IndexItem.{IndexItem}
use Rattle.cu_node.specs.Info.{info_of}
use Rattle.cu_node.specs.declared.info.NodeInfo.{NodeInfo}
use Rattle.cu_need.specs.Counts.{plan_counts, over_limit}
use Rattle.cu_need.specs.Live.{is_live, live_nodes}
use Rattle.cu_need.specs.Need.{need_of, first_over}

-- nodes of these forms; no id matters here
abbrev nodes_of : List Form → List Node
nodes_of [] = []
nodes_of (form ∷ forms) = record { name = codes "n"; form = form } ∷ nodes_of forms

abbrev expression : List Form → ℕ → Expression
expression forms out = record { nodes = nodes_of forms; out = out; store_as = codes "y" }

abbrev sum_of : List Arg → Form
sum_of args = Form.Elementwise (ElementOp.Two Add) args

-- inputs a and b; s = a + b; t = s * 2; u = b + b
abbrev five : List Form
five = Form.Input (codes "a") ∷ Form.Input (codes "b") ∷ sum_of (Arg.Node 0 ∷ Arg.Node 1 ∷ []) ∷ Form.Elementwise (ElementOp.Two Multiply) (Arg.Node 2 ∷ Arg.Int (pos 2) ∷ []) ∷ sum_of (Arg.Node 1 ∷ Arg.Node 1 ∷ []) ∷ []

-- the numbers of the live nodes
abbrev numbers_of : Expression → List ℕ
numbers_of e = map (λ numbered. numbered.0) (live_nodes e)

the_last_is_dead : numbers_of (expression five 3) ≡ 0 ∷ 1 ∷ 2 ∷ 3 ∷ []
the_last_is_dead = refl

three_are_dead : numbers_of (expression five 4) ≡ 1 ∷ 4 ∷ []
three_are_dead = refl

an_input_alone : numbers_of (expression five 0) ≡ 0 ∷ []
an_input_alone = refl

past_the_end : is_live (expression five 4) 5 ≡ false
past_the_end = refl

-- ---- needs: int32 arrays of 6 elements in chunks of 4, so 16 bytes a chunk

abbrev six : NodeInfo
six = info_of Int32 (6 ∷ []) (4 ∷ [])

abbrev sixes : List NodeInfo
sixes = six ∷ six ∷ six ∷ six ∷ six ∷ []

-- scratch 16, arguments 32, result 16, three instructions 1536
sum_of_two : need_of 0 4 sixes 2 2 (sum_of (Arg.Node 0 ∷ Arg.Node 1 ∷ [])) ≡ 1600
sum_of_two = refl

-- an array that is an argument twice counts twice
sum_with_itself : need_of 0 4 sixes 4 4 (sum_of (Arg.Node 1 ∷ Arg.Node 1 ∷ [])) ≡ 1600
sum_with_itself = refl

-- a number has an instruction, and no region
product_with_a_number : need_of 100 4 sixes 3 3 (Form.Elementwise (ElementOp.Two Multiply) (Arg.Node 2 ∷ Arg.Int (pos 2) ∷ [])) ≡ 1684
product_with_a_number = refl

-- one byte of scratch, one of the argument, one of the result, two instructions
truth_of_rank_0 : need_of 0 4 (info_of Bool [] [] ∷ info_of Bool [] [] ∷ []) 1 1 (Form.Elementwise (ElementOp.One LogicalNot) (Arg.Node 0 ∷ [])) ≡ 1027
truth_of_rank_0 = refl

-- two arguments, a test and a choice; a number in place of one of them
greater_of_two : need_of 0 4 sixes 2 2 (Form.Elementwise (ElementOp.Extreme false) (Arg.Node 0 ∷ Arg.Node 1 ∷ [])) ≡ 2112
greater_of_two = refl

lesser_of_a_number : need_of 0 4 sixes 2 2 (Form.Elementwise (ElementOp.Extreme true) (Arg.Int (pos 3) ∷ Arg.Node 1 ∷ [])) ≡ 2096
lesser_of_a_number = refl

-- seven instructions
between_bounds : need_of 0 4 sixes 1 1 (Form.Elementwise (ElementOp.Clip (pos 2) (pos 5)) (Arg.Node 0 ∷ [])) ≡ 3632
between_bounds = refl

-- 1000 elements in one chunk, beside chunks of 2: the copy needs more than the sum
one_misaligned : need_of 0 4 (info_of Int32 (1000 ∷ []) (2 ∷ []) ∷ info_of Int32 (1000 ∷ []) (1000 ∷ []) ∷ info_of Int32 (1000 ∷ []) (2 ∷ []) ∷ []) 2 2 (sum_of (Arg.Node 0 ∷ Arg.Node 1 ∷ [])) ≡ 8000
one_misaligned = refl

-- the row that is stretched keeps its chunk
stretched_row : need_of 0 4 (info_of Int32 (2 ∷ 3 ∷ []) (1 ∷ 3 ∷ []) ∷ info_of Int32 (3 ∷ []) (3 ∷ []) ∷ info_of Int32 (2 ∷ 3 ∷ []) (1 ∷ 3 ∷ []) ∷ []) 2 2 (sum_of (Arg.Node 0 ∷ Arg.Node 1 ∷ [])) ≡ 1584
stretched_row = refl

-- ---- views: the greatest chunk as scratch, and one of the result

-- five int32 in chunks of 2, every other one from the last on: 8 and 8
reversed : need_of 0 4 (info_of Int32 (5 ∷ []) (2 ∷ []) ∷ info_of Int32 (3 ∷ []) (2 ∷ []) ∷ []) 1 1 (Form.Index (Arg.Node 0 ∷ []) (IndexItem.Slice None None (Some (negsuc 1)) ∷ [])) ≡ 16
reversed = refl

-- numbers from nothing, int32 in a chunk of 4: 16 and 16, as much as a task of 64 bytes may take; of 31 it may not
abbrev four : NodeInfo
four = info_of Int32 (4 ∷ []) (4 ∷ [])

abbrev counted : Form
counted = Form.Arange (pos 0) (pos 4) (pos 1) Int32 (4 ∷ [])

made_of_nothing : need_of 0 4 (four ∷ []) 0 0 counted ≡ 32
made_of_nothing = refl

within_64 : first_over 64 0 4 (expression (counted ∷ []) 0) (four ∷ []) ≡ None
within_64 = refl

not_within_31 : first_over 31 0 4 (expression (counted ∷ []) 0) (four ∷ []) ≡ Some (record { node = 0; need = 32 })
not_within_31 = refl

-- a source with a greater chunk than the result: 40 and 16; the result has the first source's chunk
joined : need_of 0 4 (four ∷ info_of Int32 (10 ∷ []) (10 ∷ []) ∷ info_of Int32 (14 ∷ []) (4 ∷ []) ∷ []) 2 2 (Form.Concat (Arg.Node 0 ∷ Arg.Node 1 ∷ []) (pos 0)) ≡ 56
joined = refl

-- ---- the first that needs more than is allowed

-- the sum needs as much as is allowed
just_allowed : first_over 1600 0 4 (expression five 3) sixes ≡ None
just_allowed = refl

-- the sum comes before the product, which needs more than 1500 too
first_of_two : first_over 1500 0 4 (expression five 3) sixes ≡ Some (record { node = 2; need = 1600 })
first_of_two = refl

-- node 4 is stored, and node 2 is dead
dead_before : first_over 1599 0 4 (expression five 4) sixes ≡ Some (record { node = 4; need = 1600 })
dead_before = refl

reserved_alone : first_over 99 100 4 (expression five 4) sixes ≡ Some (record { node = 1; need = 100 })
reserved_alone = refl

-- ---- counts

two_of_two_chunks : plan_counts 100 4 (expression five 3) sixes ≡ record { tasks = 4; cells = 4 }
two_of_two_chunks = refl

one_alone : plan_counts 100 4 (expression five 4) sixes ≡ record { tasks = 2; cells = 2 }
one_alone = refl

-- a view has a task for each chunk of its result: 400 times 100 of one element, and as many of the sum; 100 of the numbers
abbrev many : List Form
many = Form.Arange (pos 0) (pos 100) (pos 1) Int8 (1 ∷ []) ∷ Form.BroadcastTo (Arg.Node 0 ∷ []) (400 ∷ 100 ∷ []) (1 ∷ 1 ∷ []) ∷ Form.Elementwise (ElementOp.One Negative) (Arg.Node 1 ∷ []) ∷ []

abbrev of_many : List NodeInfo
of_many = info_of Int8 (100 ∷ []) (1 ∷ []) ∷ info_of Int8 (400 ∷ 100 ∷ []) (1 ∷ 1 ∷ []) ∷ info_of Int8 (400 ∷ 100 ∷ []) (1 ∷ 1 ∷ []) ∷ []

too_many_tasks : over_limit (plan_counts 100 4 (expression many 2) of_many) ≡ Some (record { which = 1; count = 80100 })
too_many_tasks = refl

-- an array without elements has no chunk
nothing_to_do : plan_counts 100 4 (expression five 4) (map (λ i. info_of Int32 (0 ∷ []) (4 ∷ [])) sixes) ≡ record { tasks = 0; cells = 0 }
nothing_to_do = refl

both_kept : over_limit (record { tasks = 65536; cells = 262144 }) ≡ None
both_kept = refl

tasks_first : over_limit (record { tasks = 65537; cells = 262145 }) ≡ Some (record { which = 1; count = 65537 })
tasks_first = refl

cells_alone : over_limit (record { tasks = 65536; cells = 262145 }) ≡ Some (record { which = 2; count = 262145 })
cells_alone = refl

-- ---- reductions

-- nothing to sum: a chunk of the source twice, and one of the result
empty_sum : need_of 0 4 (info_of Int32 (0 ∷ []) (4 ∷ []) ∷ info_of Int64 [] [] ∷ []) 1 1 (Form.Reduce Sum (Arg.Node 0 ∷ []) None false) ≡ 40
empty_sum = refl

-- five numbers in chunks of two: a merge of two pairs needs the most
place_of_five : need_of 0 2 (info_of Int32 (5 ∷ []) (2 ∷ []) ∷ info_of Int64 [] [] ∷ []) 1 1 (Form.ArgPlace true (Arg.Node 0 ∷ []) None false) ≡ 44
place_of_five = refl

-- three operations: three tasks, two and one; the first two store values too
places_counted : plan_counts 100 2 (expression (Form.Input (codes "a") ∷ Form.ArgPlace true (Arg.Node 0 ∷ []) None false ∷ []) 1) (info_of Int32 (5 ∷ []) (2 ∷ []) ∷ info_of Int64 [] [] ∷ [])
    ≡ record { tasks = 6; cells = 11 }
places_counted = refl

-- a matrix of two chunks on the inner axis by a row
by_a_row : need_of 0 4 (info_of Int32 (2 ∷ 3 ∷ []) (2 ∷ 2 ∷ []) ∷ info_of Int32 (3 ∷ []) (2 ∷ []) ∷ info_of Int32 (2 ∷ []) (2 ∷ []) ∷ []) 2 2 (Form.Matmul (Arg.Node 0 ∷ Arg.Node 1 ∷ [])) ≡ 48
by_a_row = refl
