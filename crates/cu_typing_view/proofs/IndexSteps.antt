-- One entry more of an index: what it leaves of the axes that are left stands behind what those before it leave.
use Rattle.std.proofs.Common.{◌≡◌, ℕ, ◌+◌, ◌≤◌, List, ◌∷◌, ◌++◌, length, drop, min, ap, sym, ◌∙◌, arith}
use Rattle.std.proofs.lemmas.List.{append_assoc, drop-drop}
use Rattle.cu_node.specs.declared.index_item.IndexItem.{IndexItem}
use Rattle.cu_typing_view.specs.Entries.{width_of, sizes_left, index_shape, chunk_left, index_chunk}
use Rattle.cu_typing_view.proofs.IndexSizes.{drop_min}

-- the axes that are left behind the entry
axes_behind : (ns : List ℕ) (axis width after rank : ℕ) → rank ≡ length ns → after ≡ min (axis + width) rank → drop width (drop axis ns) ≡ drop after ns
axes_behind ns axis width after rank all is =
    drop-drop width axis ns ∙ sym (drop_min (axis + width) ns) ∙ ap (λ n. drop (min (axis + width) n) ns) (sym all) ∙ ap (λ n. drop n ns) (sym is)

pub still_within : (axis width after rank : ℕ) → after ≡ min (axis + width) rank → after ≤ rank
still_within axis width after rank is = omega arith

shape_first : (more : ℕ) (item : IndexItem) (items : List IndexItem) (ns : List ℕ) (i axis width after rank : ℕ) → drop i items ≡ item ∷ drop (i + 1) items → width ≡ width_of more item → rank ≡ length ns → after ≡ min (axis + width) rank
    → index_shape more (drop i items) (drop axis ns) ≡ sizes_left more item (drop axis ns) ++ index_shape more (drop (i + 1) items) (drop after ns)
shape_first more item items ns i axis width after rank first wide all is =
    ap (λ (is : List IndexItem). index_shape more is (drop axis ns)) first
    ∙ ap (λ w. sizes_left more item (drop axis ns) ++ index_shape more (drop (i + 1) items) (drop w (drop axis ns))) (sym wide)
    ∙ ap (λ xs. sizes_left more item (drop axis ns) ++ index_shape more (drop (i + 1) items) xs) (axes_behind ns axis width after rank all is)

pub more_shape : (more : ℕ) (item : IndexItem) (items : List IndexItem) (ns whole left longer : List ℕ) (i axis width after rank : ℕ) → drop i items ≡ item ∷ drop (i + 1) items → width ≡ width_of more item → rank ≡ length ns → after ≡ min (axis + width) rank
    → longer ≡ left ++ sizes_left more item (drop axis ns) → whole ≡ left ++ index_shape more (drop i items) (drop axis ns) → whole ≡ longer ++ index_shape more (drop (i + 1) items) (drop after ns)
more_shape more item items ns whole left longer i axis width after rank first wide all is added known =
    known
    ∙ ap (λ xs. left ++ xs) (shape_first more item items ns i axis width after rank first wide all is)
    ∙ sym (append_assoc left (sizes_left more item (drop axis ns)) (index_shape more (drop (i + 1) items) (drop after ns)))
    ∙ ap (λ xs. xs ++ index_shape more (drop (i + 1) items) (drop after ns)) (sym added)

chunk_first : (more : ℕ) (item : IndexItem) (items : List IndexItem) (ns cs : List ℕ) (i axis width after rank : ℕ) → drop i items ≡ item ∷ drop (i + 1) items → width ≡ width_of more item → rank ≡ length ns → length cs ≡ length ns → after ≡ min (axis + width) rank
    → index_chunk more (drop i items) (drop axis ns) (drop axis cs) ≡ chunk_left more item (drop axis ns) (drop axis cs) ++ index_chunk more (drop (i + 1) items) (drop after ns) (drop after cs)
chunk_first more item items ns cs i axis width after rank first wide all same is =
    ap (λ (is : List IndexItem). index_chunk more is (drop axis ns) (drop axis cs)) first
    ∙ ap (λ w. chunk_left more item (drop axis ns) (drop axis cs) ++ index_chunk more (drop (i + 1) items) (drop w (drop axis ns)) (drop w (drop axis cs))) (sym wide)
    ∙ ap (λ xs. chunk_left more item (drop axis ns) (drop axis cs) ++ index_chunk more (drop (i + 1) items) xs (drop width (drop axis cs))) (axes_behind ns axis width after rank all is)
    ∙ ap (λ xs. chunk_left more item (drop axis ns) (drop axis cs) ++ index_chunk more (drop (i + 1) items) (drop after ns) xs) (axes_behind cs axis width after rank (all ∙ sym same) is)

pub more_chunk : (more : ℕ) (item : IndexItem) (items : List IndexItem) (ns cs whole left longer : List ℕ) (i axis width after rank : ℕ) → drop i items ≡ item ∷ drop (i + 1) items → width ≡ width_of more item → rank ≡ length ns → length cs ≡ length ns → after ≡ min (axis + width) rank
    → longer ≡ left ++ chunk_left more item (drop axis ns) (drop axis cs) → whole ≡ left ++ index_chunk more (drop i items) (drop axis ns) (drop axis cs) → whole ≡ longer ++ index_chunk more (drop (i + 1) items) (drop after ns) (drop after cs)
more_chunk more item items ns cs whole left longer i axis width after rank first wide all same is added known =
    known
    ∙ ap (λ xs. left ++ xs) (chunk_first more item items ns cs i axis width after rank first wide all same is)
    ∙ sym (append_assoc left (chunk_left more item (drop axis ns) (drop axis cs)) (index_chunk more (drop (i + 1) items) (drop after ns) (drop after cs)))
    ∙ ap (λ xs. xs ++ index_chunk more (drop (i + 1) items) (drop after ns) (drop after cs)) (sym added)
