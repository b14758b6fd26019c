-- How many calls are made for the chunks of arrays: so many for each chunk, or one, and another only where a call failed.
use Rattle.std.proofs.Common.{◌≡◌, ℕ, ◌+◌, ◌*◌, ◌<◌, List, [], ◌∷◌, ◌++◌, length, take, drop, get_or, sym, ◌∙◌, subst, append_assoc, arith}
use Rattle.std.proofs.lemmas.List.Sums.{sum_by-cons, sum_by-append}
use Rattle.cu_form.specs.declared.expr.Node.{Node}
use Rattle.cu_form.specs.declared.form.Form.{Form}
use Rattle.cu_expr.specs.declared.inputs.InputInfo.{InputInfo}
use Rattle.cu_store.specs.Steps.{Shown, OnceEach}
use Rattle.cu_store.proofs.Once.{once_then, once_few}
use Rattle.cu_command.proofs.SeenLemmas.{within_then, within_few}
use Rattle.cu_command.specs.Seen.{WithinCalls}
use Rattle.cu_check.specs.Arrays.{form_arrays, arrays_of_nodes, input_chunk_count, chunks_of_all}
use Rattle.cu_check.proofs.InputNodes.{arrays_split}

-- for the chunks of one array
pub calls_of_array : (tries : ℕ) (a : InputInfo) (old new : Shown) → WithinCalls (input_chunk_count a * tries) old new → WithinCalls (chunks_of_all (a ∷ []) * tries) old new
calls_of_array tries a old new calls = within_few (input_chunk_count a) (chunks_of_all (a ∷ [])) tries old new (let one = sum_by-cons input_chunk_count a [] in omega (arith, one)) calls

pub calls_of_one : (tries : ℕ) (inputs : List InputInfo) (form : Form) (a : InputInfo) (old new : Shown) → form_arrays inputs form ≡ a ∷ [] → WithinCalls (input_chunk_count a * tries) old new
    → WithinCalls (chunks_of_all (form_arrays inputs form) * tries) old new
calls_of_one tries inputs form a old new own calls =
    subst (λ (xs : List InputInfo). WithinCalls (chunks_of_all xs * tries) old new) (sym own) (calls_of_array tries a old new calls)

-- for those of arrays, and then of others
pub calls_of_more : (tries : ℕ) (xs ys : List InputInfo) (a b c : Shown) → WithinCalls (chunks_of_all xs * tries) a b → WithinCalls (chunks_of_all ys * tries) b c
    → WithinCalls (chunks_of_all (xs ++ ys) * tries) a c
calls_of_more tries xs ys a b c first next =
    within_few (chunks_of_all xs + chunks_of_all ys) (chunks_of_all (xs ++ ys)) tries a c (let both = sum_by-append input_chunk_count xs ys in omega (arith, both))
    (within_then (chunks_of_all xs) (chunks_of_all ys) tries a b c first next)

-- for those of the first arrays of a list
pub calls_of_front : (tries : ℕ) (xs ys : List InputInfo) (a b : Shown) → WithinCalls (chunks_of_all xs * tries) a b → WithinCalls (chunks_of_all (xs ++ ys) * tries) a b
calls_of_front tries xs ys a b calls =
    within_few (chunks_of_all xs) (chunks_of_all (xs ++ ys)) tries a b (let both = sum_by-append input_chunk_count xs ys in omega (arith, both)) calls

-- the array of this node ended it
pub node_calls : (tries : ℕ) (inputs : List InputInfo) (nodes : List Node) (k : ℕ) (node : Node) (a b c : Shown) → k < length nodes → node ≡ get_or nodes k node
    → WithinCalls (chunks_of_all (arrays_of_nodes inputs (take k nodes)) * tries) a b → WithinCalls (chunks_of_all (form_arrays inputs node.form) * tries) b c
    → WithinCalls (chunks_of_all (arrays_of_nodes inputs nodes) * tries) a c
node_calls tries inputs nodes k node a b c below at first next =
    let whole = arrays_split inputs nodes k node below at ∙ sym (append_assoc (arrays_of_nodes inputs (take k nodes)) (form_arrays inputs node.form) (arrays_of_nodes inputs (drop (k + 1) nodes))) in
    subst (λ (xs : List InputInfo). WithinCalls (chunks_of_all xs * tries) a c) (sym whole)
    (calls_of_front tries (arrays_of_nodes inputs (take k nodes) ++ form_arrays inputs node.form) (arrays_of_nodes inputs (drop (k + 1) nodes)) a c
    (calls_of_more tries (arrays_of_nodes inputs (take k nodes)) (form_arrays inputs node.form) a b c first next))

-- ---- each chunk called for once, and again only where a call failed

pub once_of_array : (a : InputInfo) (old new : Shown) → OnceEach (input_chunk_count a) old new → OnceEach (chunks_of_all (a ∷ [])) old new
once_of_array a old new once = once_few (input_chunk_count a) (chunks_of_all (a ∷ [])) old new (let one = sum_by-cons input_chunk_count a [] in omega (arith, one)) once

pub once_of_one : (inputs : List InputInfo) (form : Form) (a : InputInfo) (old new : Shown) → form_arrays inputs form ≡ a ∷ [] → OnceEach (input_chunk_count a) old new
    → OnceEach (chunks_of_all (form_arrays inputs form)) old new
once_of_one inputs form a old new own once = subst (λ (xs : List InputInfo). OnceEach (chunks_of_all xs) old new) (sym own) (once_of_array a old new once)

pub once_of_more : (xs ys : List InputInfo) (a b c : Shown) → OnceEach (chunks_of_all xs) a b → OnceEach (chunks_of_all ys) b c → OnceEach (chunks_of_all (xs ++ ys)) a c
once_of_more xs ys a b c first next =
    once_few (chunks_of_all xs + chunks_of_all ys) (chunks_of_all (xs ++ ys)) a c (let both = sum_by-append input_chunk_count xs ys in omega (arith, both))
    (once_then (chunks_of_all xs) (chunks_of_all ys) a b c first next)

pub once_of_front : (xs ys : List InputInfo) (a b : Shown) → OnceEach (chunks_of_all xs) a b → OnceEach (chunks_of_all (xs ++ ys)) a b
once_of_front xs ys a b once = once_few (chunks_of_all xs) (chunks_of_all (xs ++ ys)) a b (let both = sum_by-append input_chunk_count xs ys in omega (arith, both)) once

pub node_once : (inputs : List InputInfo) (nodes : List Node) (k : ℕ) (node : Node) (a b c : Shown) → k < length nodes → node ≡ get_or nodes k node
    → OnceEach (chunks_of_all (arrays_of_nodes inputs (take k nodes))) a b → OnceEach (chunks_of_all (form_arrays inputs node.form)) b c
    → OnceEach (chunks_of_all (arrays_of_nodes inputs nodes)) a c
node_once inputs nodes k node a b c below at first next =
    let whole = arrays_split inputs nodes k node below at ∙ sym (append_assoc (arrays_of_nodes inputs (take k nodes)) (form_arrays inputs node.form) (arrays_of_nodes inputs (drop (k + 1) nodes))) in
    subst (λ (xs : List InputInfo). OnceEach (chunks_of_all xs) a c) (sym whole)
    (once_of_front (arrays_of_nodes inputs (take k nodes) ++ form_arrays inputs node.form) (arrays_of_nodes inputs (drop (k + 1) nodes)) a c
    (once_of_more (arrays_of_nodes inputs (take k nodes)) (form_arrays inputs node.form) a b c first next))
