-- A type and its name.
use Rattle.std.proofs.Common.{◌≡◌, ℕ, true, false, cond, refl, ◌∙◌, ap, ⊎_elim, inl, inr, ◌⊎◌, List, Option, Some, bytes_eq}
use Rattle.std.specs.Prelude.{Bool as Test}
use Rattle.std.proofs.lemmas.Slice.Eq.{bytes_eq-Decides}
use Rattle.cu_num.specs.TypeName.{type_name, dtype_named}
use Rattle.cu_num.specs.declared.types.Dtype.{Dtype}
use Rattle.cu_num.specs.declared.types.Dtype.TheVariants.{Bool, Int8, Int16, Int32, Int64, Uint8, Uint16, Uint32, Uint64}

pub dtype_named-type_name : (t : Dtype) → dtype_named (type_name t) ≡ Some t
dtype_named-type_name Bool = refl
dtype_named-type_name Int8 = refl
dtype_named-type_name Int16 = refl
dtype_named-type_name Int32 = refl
dtype_named-type_name Int64 = refl
dtype_named-type_name Uint8 = refl
dtype_named-type_name Uint16 = refl
dtype_named-type_name Uint32 = refl
dtype_named-type_name Uint64 = refl

-- a choice that gives a type gives one of its two
chosen : (b : Test) (first t : Dtype) (rest : Option Dtype) → cond b (Some first) rest ≡ Some t → ((b ≡ true) × (first ≡ t)) ⊎ (rest ≡ Some t)
chosen true first t rest e = inl (refl, cc)
chosen false first t rest e = inr e

-- a name that gives a type is the type's
pub type_name-dtype_named : (name : List ℕ) (t : Dtype) → dtype_named name ≡ Some t → name ≡ type_name t
type_name-dtype_named name t e =
    from Bool _ e (λ e. from Int8 _ e (λ e. from Int16 _ e (λ e. from Int32 _ e (λ e. from Int64 _ e (λ e. from Uint8 _ e (λ e. from Uint16 _ e (λ e. from Uint32 _ e (λ e. from Uint64 _ e (λ e. cc)))))))))
  where
    from : (u : Dtype) (rest : Option Dtype) → cond (bytes_eq name (type_name u)) (Some u) rest ≡ Some t → (rest ≡ Some t → name ≡ type_name t) → name ≡ type_name t
    from u rest e other = ⊎_elim
        (λ (same, is). (bytes_eq-Decides name (type_name u)).0 same ∙ ap type_name is)
        other
        (chosen (bytes_eq name (type_name u)) u t rest e)
