-- One more of a list.
use Rattle.std.proofs.Common.{◌≡◌, ℕ, ◌+◌, ◌<◌, List, [], ◌∷◌, ◌++◌, take, length, All, Some, ap, sym, ◌∙◌}
use Rattle.std.specs.Prelude.{slice_get}
use Rattle.std.proofs.lemmas.List.{take_more}
use Rattle.std.proofs.lemmas.List.Elements.{All-append, All-cons, All-nil}
use Rattle.std.proofs.lemmas.Option.{get_or_from_slice_get}
use Rattle.cu_node.specs.Info.{IsInfo}
use Rattle.cu_node.specs.declared.info.NodeInfo.{NodeInfo}

pub taken : {A : Type 0} (xs : List A) (k : ℕ) (x : A) → k < length xs → slice_get xs k ≡ Some x → take k xs ++ x ∷ [] ≡ take (k + 1) xs
taken xs k x below at = ap (λ y. take k xs ++ y ∷ []) (sym (get_or_from_slice_get xs k x x at)) ∙ sym (take_more xs k x below)

pub kept_more : (xs : List NodeInfo) (x : NodeInfo) → All IsInfo xs → IsInfo x → All IsInfo (xs ++ x ∷ [])
kept_more xs x kept here = All-append IsInfo xs (x ∷ []) kept (All-cons IsInfo x [] here (All-nil IsInfo))
