-- What the copies of a list copy, and a copy that alone reads an array.
use Rattle.std.proofs.Common.{◌≡◌, inl, inr, ℕ, true, false, ◌&&◌, not, List, [], ◌∷◌, refl, ap, ◌∙◌, if◌then◌else◌}
use Rattle.std.specs.List.{list_any}
use Rattle.std.proofs.lemmas.Bool.Decides.{eqb_tells}
use Rattle.cu_op.specs.declared.operation.Op.{Op}
use Rattle.cu_op.specs.declared.operation.Op.TheVariants.{Copy}
use Rattle.cu_op.specs.declared.operation.Planned.{Planned}
use Rattle.cu_op.specs.Operation.{reads_of}
use Rattle.cu_fuse.specs.Copies.{copied_array, copy_sources, is_copy_op}
use Rattle.cu_fuse.specs.Fused.{has_one_reader, is_reader, stands_once}

stands_alone : (source a : ℕ) → source ≡ a → stands_once (source ∷ []) a ≡ true
stands_alone source a e = elim (eqb_tells source a) [
  | inl p ↦ rw p.0 refl
  | inr p ↦ absurd (p.1 e)
]

pub one_copy : (o : Planned) (behind : List Planned) (a : ℕ) (region : List ℕ) (source out : ℕ) → o.op ≡ Copy region source out → source ≡ a
    → (is_copy_op o.op && has_one_reader o behind a) ≡ not (list_any (is_reader a) behind)
one_copy o behind a region source out is e =
    ap (λ (p : Op). is_copy_op p && (stands_once (reads_of p) a && not (list_any (is_reader a) behind))) is
    ∙ (λ i. stands_alone source a e i && not (list_any (is_reader a) behind))

pub sources_taken : (ops rest : List Planned) (o : Planned) (region : List ℕ) (source out : ℕ) → ops ≡ o ∷ rest → o.op ≡ Copy region source out → copy_sources ops ≡ source ∷ copy_sources rest
sources_taken ops rest o region source out e is =
    ap copy_sources e ∙ ap (λ (p : Op). if is_copy_op p then (copied_array p ∷ copy_sources rest) else copy_sources rest) is

pub sources_passed : (ops rest : List Planned) (o : Planned) → ops ≡ o ∷ rest → is_copy_op o.op ≡ false → copy_sources ops ≡ copy_sources rest
sources_passed ops rest o e other = ap copy_sources e ∙ (λ i. if other i then (copied_array o.op ∷ copy_sources rest) else copy_sources rest)

pub no_copy : (op : Op) → ((region : List ℕ) (source out : ℕ) → op ≡ Copy region source out → ⊥) → is_copy_op op ≡ false
no_copy (Copy region source out) other = absurd (other region source out refl)
no_copy op other = refl
