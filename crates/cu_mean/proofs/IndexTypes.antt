-- What typing has tested of the entries of an index.
use Rattle.std.proofs.Common.{◌≡◌, ◌+◌, ◌||◌, ◌&&◌, ℕ, ℤ, pos, Bool, true, false, List, [], ◌∷◌, drop, length, All, Option, Some, None, Result, Ok, unwrap_or, refl, ap}
use Rattle.std.specs.Prelude.{not, if◌then◌else◌}
use Rattle.std.specs.Ordering.{int_eq}
use Rattle.std.proofs.lemmas.List.Elements.{All-nil, All-cons}
use Rattle.cu_node.specs.declared.faults.NodeFault.{NodeFault}
use Rattle.cu_node.specs.declared.index_item.IndexItem.{IndexItem}
use Rattle.cu_node.specs.declared.info.NodeInfo.{NodeInfo}
use Rattle.cu_typing_view.specs.Entries.{is_ellipsis, width_of, untaken, is_wrong, first_wrong, unless_wrong, typed_index}
use Rattle.cu_mean.specs.Indexing.{HasStep}

not_wrong : (b : Bool) (k : ℕ) (o : Option ℕ) → (if b then Some k else o) ≡ None → (b ≡ false) × (o ≡ None)
not_wrong true k o h = cc
not_wrong false k o h = (refl, h)

tested : (zero seen : Bool) → (not (not zero) || (false && seen)) ≡ false → zero ≡ false
tested true seen h = cc
tested false seen h = refl

has_step : (seen : Bool) (item : IndexItem) (ns : List ℕ) → is_wrong seen item ns ≡ false → HasStep item
has_step seen (IndexItem.At x) ns h = tt
has_step seen (IndexItem.Slice start stop step) [] h = cc
has_step seen (IndexItem.Slice start stop step) (n ∷ ns) h =
    let f : int_eq (unwrap_or step (pos 1)) (pos 0) ≡ false = tested (int_eq (unwrap_or step (pos 1)) (pos 0)) seen h in
    λ e. cc (f, ap (λ (z : ℤ). int_eq z (pos 0)) e)
has_step seen IndexItem.New ns h = tt
has_step seen IndexItem.Ellipsis ns h = tt

steps_from : (more : ℕ) (seen : Bool) (k : ℕ) (items : List IndexItem) (ns : List ℕ) → first_wrong more seen k items ns ≡ None → All HasStep items
steps_from more seen k [] ns h = All-nil HasStep
steps_from more seen k (item ∷ items) ns h =
    let parts = not_wrong (is_wrong seen item ns) k (first_wrong more (seen || is_ellipsis item) (k + 1) items (drop (width_of more item) ns)) h in
    All-cons HasStep item items (has_step seen item ns parts.0) (steps_from more (seen || is_ellipsis item) (k + 1) items (drop (width_of more item) ns) parts.1)

none_wrong : (o : Option ℕ) (typed : Result NodeInfo NodeFault) (info : NodeInfo) → unless_wrong o typed ≡ Ok info → o ≡ None
none_wrong None typed info h = refl
none_wrong (Some k) typed info h = cc

-- no slice has step 0
pub index_steps : (i info : NodeInfo) (items : List IndexItem) → typed_index i items ≡ Ok info → All HasStep items
index_steps i info items h = steps_from (untaken (length i.dims) items) false 0 items i.dims (none_wrong _ _ info h)
