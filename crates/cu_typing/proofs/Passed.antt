-- What an accepted elementwise function's arguments have passed.
use Rattle.std.proofs.Common.{◌≡◌, ℕ, true, List, Result, Ok, refl}
use Rattle.std.proofs.lemmas.List.Sums.{AllPass-from_list_all}
use Rattle.cu_result.specs.Results.{◌>>=◌}
use Rattle.cu_result.proofs.ResultSteps.{step_ok, check_step_ok}
use Rattle.cu_num.specs.declared.types.Dtype.{Dtype}
use Rattle.cu_node.specs.declared.element_op.ElementOp.{ElementOp}
use Rattle.cu_node.specs.Fault.{fault}
use Rattle.cu_node.specs.Info.{info_of}
use Rattle.cu_node.specs.Limited.{is_chunk_within}
use Rattle.cu_node.proofs.KeptLimits.{given, beside_kept}
use Rattle.cu_node.specs.declared.faults.FaultCode.TheVariants.{Kind}
use Rattle.cu_node.specs.declared.faults.NodeFault.{NodeFault}
use Rattle.cu_node.specs.declared.info.NodeInfo.{NodeInfo}
use Rattle.cu_typing.specs.Accepted.{IsElementwise}
use Rattle.cu_typing.specs.Elementwise.{joined_array, typed_elementwise}
use Rattle.cu_typing.specs.Joined.{arrays_of, joined_shape, joined_chunk, aligned_chunk, aligned_within}
use Rattle.cu_typing.specs.Types.{accepts_arguments, shared_type, result_type, typed_elements}
use Rattle.cu_typing.specs.declared.argument.Argument.{Argument}
use Rattle.cu_typing.proofs.GoingInto.{joined_go_into}

-- the types have passed
types_passed : (op : ElementOp) (args : List Argument) (d : Dtype) → typed_elements op args ≡ Ok d → (t : Dtype) × (accepts_arguments op args ≡ true) × (shared_type op args ≡ Ok t) × (d ≡ result_type op t)
types_passed op args d h =
    let accepted = check_step_ok (accepts_arguments op args) (fault Kind) (λ _. shared_type op args >>= λ t. Ok (result_type op t)) d h in
    let shared = step_ok (shared_type op args) (λ t. Ok (result_type op t)) d accepted.1 in
    let value : Dtype → Result Dtype NodeFault = λ x. Ok x in
    let e : value (result_type op shared.0) ≡ value d = shared.2 in
    (shared.0, accepted.0, shared.1, cc e)

-- so have the shape and the chunks
passed_with : (op : ElementOp) (args : List Argument) (t : Dtype) (shape : List ℕ) → accepts_arguments op args ≡ true → shared_type op args ≡ Ok t → joined_shape (arrays_of args) ≡ Ok shape → aligned_within shape (joined_chunk shape (arrays_of args)) (arrays_of args) ≡ true → IsElementwise op args t (info_of (result_type op t) shape (joined_chunk shape (arrays_of args)))
passed_with op args t shape accepted shared joined within =
    record {
      accepted = accepted;
      shared = shared;
      dtype = refl;
      shape = joined;
      chunk = refl;
      broadcast = joined_go_into (arrays_of args) shape joined;
      within = AllPass-from_list_all (λ i. is_chunk_within i.dtype (aligned_chunk shape (joined_chunk shape (arrays_of args)) i)) (arrays_of args) within;
    }

same_array : (op : ElementOp) (args : List Argument) (t d : Dtype) (shape chunk : List ℕ) (i : NodeInfo) → d ≡ result_type op t → i ≡ info_of d shape chunk → IsElementwise op args t (info_of (result_type op t) shape chunk) → IsElementwise op args t i
same_array op args t d shape chunk i p q h = rw q (rw p h)

pub passed : (op : ElementOp) (args : List Argument) (i : NodeInfo) → typed_elementwise op args ≡ Ok i → (t : Dtype) × IsElementwise op args t i
passed op args i h =
    let typed = step_ok (typed_elements op args) (λ t. joined_shape (arrays_of args) >>= λ shape. joined_array t (arrays_of args) shape) i h in
    let shaped = step_ok (joined_shape (arrays_of args)) (λ shape. joined_array typed.0 (arrays_of args) shape) i typed.2 in
    let types = types_passed op args typed.0 typed.1 in
    let chunk = joined_chunk shaped.0 (arrays_of args) in
    let within = beside_kept (aligned_within shaped.0 chunk (arrays_of args)) typed.0 shaped.0 chunk i shaped.2 in
    let array = given (aligned_within shaped.0 chunk (arrays_of args)) typed.0 shaped.0 chunk i shaped.2 in
    (types.0, same_array op args types.0 typed.0 shaped.0 chunk i types.3 array (passed_with op args types.0 shaped.0 types.1 types.2 shaped.1 within))
