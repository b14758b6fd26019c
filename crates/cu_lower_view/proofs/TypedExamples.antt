-- Typed views, on worked examples: the law of their pulls speaks of something.
use Rattle.std.proofs.Common.{◌<◌, ◌∷◌, [], ℕ, All, Some, None, pos, negsuc, refl, arith}
use Rattle.std.proofs.lemmas.List.Elements.{All-nil, All-cons}
use Rattle.cu_num.specs.Promotion.{promotion}
use Rattle.cu_num.specs.declared.types.Dtype.TheVariants.{Int8, Int16, Int32, Uint8}
use Rattle.cu_form.specs.declared.args.Arg.{Arg}
use Rattle.cu_form.specs.declared.form.Form.{Form}
use Rattle.cu_node.specs.Info.{IsInfo, info_of}
use Rattle.cu_node.specs.declared.index_item.IndexItem.TheVariants.{At, Slice}
use Rattle.cu_node.specs.declared.info.NodeInfo.{NodeInfo}
use Rattle.cu_typing_view.specs.Creation.{arange_count, holds_ends}
use Rattle.cu_typing_view.specs.Entries.{count_taken}
use Rattle.cu_lower_view.specs.Typed.{IsTypedView}

abbrev signed : NodeInfo
signed = info_of Int8 (3 ∷ 4 ∷ []) (2 ∷ 2 ∷ [])

abbrev unsigned : NodeInfo
unsigned = info_of Uint8 (3 ∷ 1 ∷ []) (3 ∷ 1 ∷ [])

positive : (m n : ℕ) → 0 < m → 0 < n → All (λ c. 0 < c) (m ∷ n ∷ [])
positive m n a b = All-cons (λ c. 0 < c) m (n ∷ []) a (All-cons (λ c. 0 < c) n [] b (All-nil (λ c. 0 < c)))

signed_kept : IsInfo signed
signed_kept = record {
  ranks = refl;
  short = omega arith;
  positive = positive 2 2 (omega arith) (omega arith);
  elements = omega arith;
  chunks = omega arith;
  bytes = omega arith;
}

unsigned_kept : IsInfo unsigned
unsigned_kept = record {
  ranks = refl;
  short = omega arith;
  positive = positive 3 1 (omega arith) (omega arith);
  elements = omega arith;
  chunks = omega arith;
  bytes = omega arith;
}

both_kept : All IsInfo (signed ∷ unsigned ∷ [])
both_kept = All-cons IsInfo signed (unsigned ∷ []) signed_kept (All-cons IsInfo unsigned [] unsigned_kept (All-nil IsInfo))

-- [1, ::-1]
row_backward : IsTypedView (signed ∷ unsigned ∷ []) (Form.Index (Arg.Node 0 ∷ []) (At (pos 1) ∷ Slice None None (Some (negsuc 0)) ∷ [])) (info_of Int8 (4 ∷ []) (2 ∷ []))
unfolding count_taken
row_backward = record { args = refl; ranges = refl; kept = both_kept; typed = refl }

-- the two along their last axis
joined : IsTypedView (signed ∷ unsigned ∷ []) (Form.Concat (Arg.Node 0 ∷ Arg.Node 1 ∷ []) (negsuc 0)) (info_of Int16 (3 ∷ 5 ∷ []) (2 ∷ 2 ∷ []))
unfolding promotion
joined = record { args = refl; ranges = refl; kept = both_kept; typed = refl }

turned_axes : IsTypedView (signed ∷ unsigned ∷ []) (Form.PermuteDims (Arg.Node 0 ∷ []) (pos 1 ∷ pos 0 ∷ [])) (info_of Int8 (4 ∷ 3 ∷ []) (2 ∷ 2 ∷ []))
turned_axes = record { args = refl; ranges = refl; kept = both_kept; typed = refl }

-- 0, 3, 6, 9
counted_up : IsTypedView [] (Form.Arange (pos 0) (pos 10) (pos 3) Int32 (4 ∷ [])) (info_of Int32 (4 ∷ []) (4 ∷ []))
unfolding arange_count holds_ends
counted_up = record { args = refl; ranges = refl; kept = All-nil IsInfo; typed = refl }
