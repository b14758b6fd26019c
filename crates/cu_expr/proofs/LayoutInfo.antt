-- An array keeps the limits exactly where its grid has no fault.
use Rattle.std.proofs.Common.{◌≡◌, ℕ, zero, suc, ◌<◌, ◌≤◌, ◌==◌, ◌^◌, Bool, true, false, List, [], ◌∷◌, length, All, Option, Some, None, refl, sym, if◌then◌else◌, arith}
use Rattle.std.specs.List.{list_any}
use Rattle.std.proofs.lemmas.Bool.{ltb-false, eqb-true, not-false, or_parts, eqb-false, le-ltb, eq-eqb}
use Rattle.std.proofs.lemmas.List.Elements.{All-nil, All-cons}
use Rattle.std.proofs.lemmas.List.Folds.{list_any_none}
use Rattle.cu_num.specs.Dtype.{size_of}
use Rattle.cu_num.specs.declared.types.Dtype.{Dtype}
use Rattle.cu_grid.specs.Limits.{first_fault}
use Rattle.cu_grid.specs.declared.fault.GridFault.{GridFault}
use Rattle.cu_node.specs.Info.{IsInfo, info_of}
use Rattle.cu_node.specs.declared.info.NodeInfo.{NodeInfo}
use Rattle.cu_op.specs.declared.layout.Layout.{Layout}
use Rattle.cu_expr.specs.Inputs.{layout_info}
use Rattle.cu_expr.specs.Premises.{HasGrid}

passed : (b : Bool) (e : GridFault) (rest : Option GridFault) → (if b then Some e else rest) ≡ None → (b ≡ false) × (rest ≡ None)
passed true e rest h = cc
passed false e rest h = (refl, h)

above_zero : (n : ℕ) → (n == 0) ≡ false → 0 < n
above_zero zero h = absurd (eqb-false 0 0 h refl)
above_zero (suc n) h = omega arith

all_above_zero : (xs : List ℕ) → list_any (λ c. c == 0) xs ≡ false → All (λ c. 0 < c) xs
all_above_zero [] h = All-nil (λ (c : ℕ). 0 < c)
all_above_zero (x ∷ xs) h =
    let both = or_parts _ _ h in
    All-cons (λ (c : ℕ). 0 < c) x xs (above_zero x both.0) (all_above_zero xs both.1)

no_fault : (t : Dtype) (shape chunk : List ℕ) → length shape ≤ 6 → first_fault shape chunk (size_of t) ≡ None → IsInfo (info_of t shape chunk)
no_fault t shape chunk short h =
    let a = passed _ _ _ h in
    let b = passed _ _ _ a.1 in
    let c = passed _ _ _ b.1 in
    let d = passed _ _ _ c.1 in
    let e = passed _ _ _ d.1 in
    record {
      ranks = sym (eqb-true _ _ (not-false _ b.0));
      short = short;
      positive = all_above_zero chunk a.0;
      elements = ltb-false _ _ c.0;
      chunks = ltb-false _ _ d.0;
      bytes = ltb-false _ _ e.0;
    }

pub stored_info : (l : Layout) → HasGrid l → IsInfo (layout_info l)
stored_info l h = no_fault l.dtype l.grid.shape l.grid.chunk h.axes h.grid

-- no size is 0
none_zero : (xs : List ℕ) → All (λ c. 0 < c) xs → list_any (λ c. c == 0) xs ≡ false
none_zero xs h = list_any_none (λ c. c == 0) xs (λ k d l. grind (arith, h k d l))

pub has_grid : (i : NodeInfo) → IsInfo i → first_fault i.dims i.chunk (size_of i.dtype) ≡ None
has_grid i h =
    rw (none_zero i.chunk h.positive) (rw (eq-eqb (length i.dims) (length i.chunk) (sym h.ranks)) (rw (le-ltb (2 ^ 40) _ h.elements) (rw (le-ltb 65536 _ h.chunks) (rw (le-ltb (2 ^ 28) _ h.bytes) refl))))
