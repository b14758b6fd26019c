-- The elements of a node's arguments depend on earlier nodes alone.
use Rattle.std.proofs.Common.{◌≡◌, ◌-◌, ◌&&◌, nat_lt, zero, suc, Bool, true, false, List, [], ◌∷◌, ℕ, ℤ, map, slice_index, slice_set, Some, refl, ap, ◌∙◌}
use Rattle.std.specs.Prelude.{if◌then◌else◌}
use Rattle.std.specs.List.{list_all}
use Rattle.std.proofs.Math.Path.{fun_ext}
use Rattle.std.proofs.lemmas.Bool.{ltb-true}
use Rattle.cu_num.specs.Scalar.{truth_number}
use Rattle.cu_shape.specs.Index.{back}
use Rattle.cu_form.specs.Form.{is_earlier}
use Rattle.cu_form.specs.declared.args.Arg.{Arg}
use Rattle.cu_node.specs.declared.info.NodeInfo.{NodeInfo}
use Rattle.cu_semantics.specs.Argument.{NodeElements, shape_of_node, argument_at, element_from, shape_from, source_at}
use Rattle.cu_semantics.specs.Meaning.{AgreeBelow}
use Rattle.cu_semantics.specs.View.{concat_at}

pub left_true : (a b : Bool) → (a && b) ≡ true → a ≡ true
left_true true b h = refl
left_true false b h = cc

pub right_true : (a b : Bool) → (a && b) ≡ true → b ≡ true
right_true true b h = h
right_true false b h = cc

-- ---- the elements of arguments

-- one argument that names an earlier node or none
element_agrees : (at other : NodeElements) (k : ℕ) (arg : Arg) (idx : List ℕ) → AgreeBelow k at other → is_earlier k arg ≡ true
    → element_from at (Some arg) idx ≡ element_from other (Some arg) idx
element_agrees at other k (Arg.Node n) idx agree earlier = agree n idx (ltb-true n k earlier)
element_agrees at other k (Arg.Int x) idx agree earlier = refl
element_agrees at other k (Arg.Truth b) idx agree earlier = refl

pub source_agrees : (at other : NodeElements) (k : ℕ) (args : List Arg) (j : ℕ) (idx : List ℕ) → AgreeBelow k at other → list_all (is_earlier k) args ≡ true
    → source_at at args j idx ≡ source_at other args j idx
source_agrees at other k [] j idx agree earlier = refl
source_agrees at other k (arg ∷ args) zero idx agree earlier = element_agrees at other k arg idx agree (left_true (is_earlier k arg) (list_all (is_earlier k) args) earlier)
source_agrees at other k (arg ∷ args) (suc j) idx agree earlier = source_agrees at other k args j idx agree (right_true (is_earlier k arg) (list_all (is_earlier k) args) earlier)

-- the same as functions
pub source_same : (at other : NodeElements) (k : ℕ) (args : List Arg) (j : ℕ) → AgreeBelow k at other → list_all (is_earlier k) args ≡ true → source_at at args j ≡ source_at other args j
source_same at other k args j agree earlier = fun_ext (λ (idx : List ℕ). source_agrees at other k args j idx agree earlier)

pub arguments_agree : (infos : List NodeInfo) (at other : NodeElements) (k : ℕ) (idx : List ℕ) (args : List Arg) → AgreeBelow k at other
    → list_all (is_earlier k) args ≡ true → map (argument_at infos at idx) args ≡ map (argument_at infos other idx) args
arguments_agree infos at other k idx [] agree earlier = refl
arguments_agree infos at other k idx (Arg.Node n ∷ args) agree earlier =
    ap (λ (x : ℤ). x ∷ map (argument_at infos at idx) args) (agree n (back (shape_of_node infos n) idx) (ltb-true n k (left_true (nat_lt n k) (list_all (is_earlier k) args) earlier)))
    ∙ ap (λ (xs : List ℤ). other n (back (shape_of_node infos n) idx) ∷ xs) (arguments_agree infos at other k idx args agree (right_true (nat_lt n k) (list_all (is_earlier k) args) earlier))
arguments_agree infos at other k idx (Arg.Int x ∷ args) agree earlier = ap (λ (xs : List ℤ). x ∷ xs) (arguments_agree infos at other k idx args agree earlier)
arguments_agree infos at other k idx (Arg.Truth b ∷ args) agree earlier = ap (λ (xs : List ℤ). truth_number b ∷ xs) (arguments_agree infos at other k idx args agree earlier)

pub concat_agrees : (infos : List NodeInfo) (at other : NodeElements) (k axis : ℕ) (args : List Arg) (idx : List ℕ) → AgreeBelow k at other
    → list_all (is_earlier k) args ≡ true → concat_at infos at axis args idx ≡ concat_at infos other axis args idx
concat_agrees infos at other k axis [] idx agree earlier = refl
concat_agrees infos at other k axis (arg ∷ args) idx agree earlier =
    ap (λ (x : ℤ). if nat_lt (slice_index idx axis) (slice_index (shape_from infos (Some arg)) axis) then x
    else concat_at infos at axis args (slice_set idx axis (slice_index idx axis - slice_index (shape_from infos (Some arg)) axis)))
    (element_agrees at other k arg idx agree (left_true (is_earlier k arg) (list_all (is_earlier k) args) earlier))
    ∙ ap (λ (x : ℤ). if nat_lt (slice_index idx axis) (slice_index (shape_from infos (Some arg)) axis) then element_from other (Some arg) idx else x)
    (concat_agrees infos at other k axis args (slice_set idx axis (slice_index idx axis - slice_index (shape_from infos (Some arg)) axis)) agree (right_true (is_earlier k arg) (list_all (is_earlier k) args) earlier))
