-- Needs and counts of expressions with copies.
use Rattle.std.proofs.Common.{◌≡◌, ℕ, pos, List, [], ◌∷◌, None, Some, refl, codes}
use Rattle.cu_num.specs.declared.functions.Fn2.TheVariants.{Add}
use Rattle.cu_num.specs.declared.types.Dtype.TheVariants.{Int16, Int32}
use Rattle.cu_form.specs.Expression.{Expression}
use Rattle.cu_form.specs.declared.args.Arg.{Arg}
use Rattle.cu_form.specs.declared.expr.Node.{Node}
use Rattle.cu_form.specs.declared.form.Form.{Form}
use Rattle.cu_node.specs.declared.element_op.ElementOp.{ElementOp}
use Rattle.cu_node.specs.Info.{info_of}
use Rattle.cu_node.specs.declared.info.NodeInfo.{NodeInfo}
use Rattle.cu_copy.specs.Copies.{in_chunks, max_mem, staging, rechunk_tasks, rechunk_cells}
use Rattle.cu_need.specs.Counts.{plan_counts, over_limit}
use Rattle.cu_need.specs.Need.{need_of, first_over}
use Rattle.cu_need.specs.Operands.{copies_of}

-- nodes of these forms; no id matters here
abbrev nodes_of : List Form → List Node
nodes_of [] = []
nodes_of (form ∷ forms) = record { name = codes "n"; form = form } ∷ nodes_of forms

abbrev expression : List Form → ℕ → Expression
expression forms out = record { nodes = nodes_of forms; out = out; store_as = codes "y" }

abbrev read : Form
read = Form.Input (codes "x")

-- ---- 7 elements of 2 bytes from chunks of 5 to 3: as much as 20 bytes hold

abbrev tight : Expression
tight = expression (read ∷ Form.Rechunk (Arg.Node 0 ∷ []) (3 ∷ []) ∷ []) 1

abbrev tight_infos : List NodeInfo
tight_infos = info_of Int16 (7 ∷ []) (5 ∷ []) ∷ info_of Int16 (7 ∷ []) (3 ∷ []) ∷ []

tight_most : max_mem 20 0 ≡ 10
tight_most = refl

tight_stages : staging 10 (in_chunks (info_of Int16 (7 ∷ []) (5 ∷ [])) (3 ∷ [])) ≡ record { read = 3 ∷ []; middle = 3 ∷ []; write = 3 ∷ [] }
tight_stages = refl

tight_counts : plan_counts 10 4 tight tight_infos ≡ record { tasks = 3; cells = 3 }
tight_counts = refl

tight_allowed : first_over 20 0 4 tight tight_infos ≡ None
tight_allowed = refl

tight_refused : first_over 19 0 4 tight tight_infos ≡ Some (record { node = 1; need = 20 })
tight_refused = refl

-- with a byte less a region may have 9, and the source's chunk has 10
tight_none : rechunk_tasks (max_mem 19 0) (in_chunks (info_of Int16 (7 ∷ []) (5 ∷ [])) (3 ∷ [])) ≡ 0
tight_none = refl

-- what is reserved comes off what is allowed
tight_reserved : need_of 100 4 tight_infos 1 1 (Form.Rechunk (Arg.Node 0 ∷ []) (3 ∷ [])) ≡ 120
tight_reserved = refl

-- ---- 512 times 512 elements of 4 bytes from [512,64] to [64,512], with 1,000,000 bytes: two copies

abbrev square : NodeInfo
square = info_of Int32 (512 ∷ 512 ∷ []) (512 ∷ 64 ∷ [])

square_stages : staging (max_mem 1000000 0) (in_chunks square (64 ∷ 512 ∷ [])) ≡ record { read = 512 ∷ 192 ∷ []; middle = 192 ∷ 192 ∷ []; write = 192 ∷ 512 ∷ [] }
square_stages = refl

square_tasks : rechunk_tasks (max_mem 1000000 0) (in_chunks square (64 ∷ 512 ∷ [])) ≡ 6
square_tasks = refl

square_cells : rechunk_cells (max_mem 1000000 0) (in_chunks square (64 ∷ 512 ∷ [])) ≡ 17
square_cells = refl

square_need : need_of 0 4 (square ∷ info_of Int32 (512 ∷ 512 ∷ []) (64 ∷ 512 ∷ []) ∷ []) 1 1 (Form.Rechunk (Arg.Node 0 ∷ []) (64 ∷ 512 ∷ [])) ≡ 262144
square_need = refl

-- ---- numbers in one chunk, and copies of one another into chunks of one

abbrev chain : List Form
chain = Form.Arange (pos 0) (pos 65536) (pos 1) Int32 (65536 ∷ []) ∷ Form.Rechunk (Arg.Node 0 ∷ []) (1 ∷ []) ∷ Form.Rechunk (Arg.Node 1 ∷ []) (1 ∷ [])
    ∷ Form.Rechunk (Arg.Node 2 ∷ []) (1 ∷ []) ∷ Form.Rechunk (Arg.Node 3 ∷ []) (1 ∷ []) ∷ []

abbrev ones : NodeInfo
ones = info_of Int32 (65536 ∷ []) (1 ∷ [])

abbrev chain_infos : List NodeInfo
chain_infos = info_of Int32 (65536 ∷ []) (65536 ∷ []) ∷ ones ∷ ones ∷ ones ∷ ones ∷ []

three_copies : plan_counts (max_mem 200000000 0) 4 (expression chain 3) chain_infos ≡ record { tasks = 4; cells = 196609 }
three_copies = refl

four_copies : over_limit (plan_counts (max_mem 200000000 0) 4 (expression chain 4) chain_infos) ≡ Some (record { which = 2; count = 262145 })
four_copies = refl

chain_need : need_of 0 4 chain_infos 3 1 (Form.Rechunk (Arg.Node 0 ∷ []) (1 ∷ [])) ≡ 524288
chain_need = refl

-- ---- an input that is stored itself: a copy into chunks of its own

abbrev six : NodeInfo
six = info_of Int32 (6 ∷ []) (4 ∷ [])

stored_need : need_of 7 4 (six ∷ []) 0 0 read ≡ 39
stored_need = refl

read_need : need_of 7 4 (six ∷ six ∷ []) 1 0 read ≡ 7
read_need = refl

-- 16 bytes a region: one chunk each
stored_counts : plan_counts 16 4 (expression (read ∷ []) 0) (six ∷ []) ≡ record { tasks = 2; cells = 2 }
stored_counts = refl

-- 32 bytes: one region has both
stored_at_once : plan_counts 32 4 (expression (read ∷ []) 0) (six ∷ []) ≡ record { tasks = 1; cells = 2 }
stored_at_once = refl

-- ---- arguments in other chunks

abbrev threes : NodeInfo
threes = info_of Int32 (6 ∷ []) (3 ∷ [])

abbrev sum_of : List Arg → Form
sum_of args = Form.Elementwise (ElementOp.Two Add) args

-- the second argument alone is copied, to the chunks of the first
one_copied : copies_of (six ∷ threes ∷ six ∷ []) 2 2 (sum_of (Arg.Node 0 ∷ Arg.Node 1 ∷ [])) ≡ in_chunks threes (4 ∷ []) ∷ []
one_copied = refl

none_copied : copies_of (six ∷ six ∷ six ∷ []) 2 2 (sum_of (Arg.Node 0 ∷ Arg.Node 1 ∷ [])) ≡ []
none_copied = refl

-- with 24 bytes one region has the whole array: a task that stores 2 chunks, and 2 tasks of the sum
copied_counts : plan_counts 24 4 (expression (read ∷ read ∷ sum_of (Arg.Node 0 ∷ Arg.Node 1 ∷ []) ∷ []) 2) (six ∷ threes ∷ six ∷ []) ≡ record { tasks = 3; cells = 4 }
copied_counts = refl

-- with 16 bytes there are two copies, by way of chunks of 3: 2 tasks each, 2 chunks each, and 2 of the sum
copied_by_two : plan_counts 16 4 (expression (read ∷ read ∷ sum_of (Arg.Node 0 ∷ Arg.Node 1 ∷ []) ∷ []) 2) (six ∷ threes ∷ six ∷ []) ≡ record { tasks = 6; cells = 6 }
copied_by_two = refl

-- 1000 elements in one chunk, beside chunks of 2: the copy needs more than the sum
one_misaligned : need_of 0 4 (info_of Int32 (1000 ∷ []) (2 ∷ []) ∷ info_of Int32 (1000 ∷ []) (1000 ∷ []) ∷ info_of Int32 (1000 ∷ []) (2 ∷ []) ∷ []) 2 2 (sum_of (Arg.Node 0 ∷ Arg.Node 1 ∷ [])) ≡ 8000
one_misaligned = refl

-- a matrix of two inner chunks by a vector in one chunk of 3, which is copied into chunks of 2
abbrev operands : List NodeInfo
operands = info_of Int32 (2 ∷ 3 ∷ []) (2 ∷ 2 ∷ []) ∷ info_of Int32 (3 ∷ []) (3 ∷ []) ∷ info_of Int32 (2 ∷ []) (2 ∷ []) ∷ []

vector_copied : copies_of operands 2 2 (Form.Matmul (Arg.Node 0 ∷ Arg.Node 1 ∷ [])) ≡ in_chunks (info_of Int32 (3 ∷ []) (3 ∷ [])) (2 ∷ []) ∷ []
vector_copied = refl

vector_need : need_of 0 4 operands 2 2 (Form.Matmul (Arg.Node 0 ∷ Arg.Node 1 ∷ [])) ≡ 48
vector_need = refl

-- one copy of a region of 12 bytes into 2 chunks, 2 parts and a merge
vector_counts : plan_counts 12 4 (expression (read ∷ read ∷ Form.Matmul (Arg.Node 0 ∷ Arg.Node 1 ∷ []) ∷ []) 2) operands ≡ record { tasks = 4; cells = 5 }
vector_counts = refl

-- an array without elements has no region and no chunk
nothing_copied : plan_counts 16 4 (expression (read ∷ Form.Rechunk (Arg.Node 0 ∷ []) (3 ∷ []) ∷ []) 1) (info_of Int32 (0 ∷ []) (4 ∷ []) ∷ info_of Int32 (0 ∷ []) (3 ∷ []) ∷ []) ≡ record { tasks = 0; cells = 0 }
nothing_copied = refl
