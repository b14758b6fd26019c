-- The definitions on a worked example: six int32 numbers in chunks of four.
use Rattle.std.proofs.Common.{◌≡◌, [], ◌∷◌, Some, refl, sym, ap, ◌∙◌, inl, inr, codes, pos, arith}
use Rattle.std.specs.Fmt.{digits}
use Rattle.cu_num.specs.Element.{element_bytes}
use Rattle.cu_num.specs.Wrap.{wrapped}
use Rattle.cu_num.specs.declared.types.Dtype.TheVariants.{Int32}
use Rattle.cu_load.specs.Load.{IsArrayCalm, given_at, chunks_in, key_of_chunk, given_chunk, load_line}
use Rattle.cu_load.specs.LoadForm.{GivenArray, layout_given}

-- 1 to 6
unfoldable six : GivenArray
six = record { name = codes "a"; layout = layout_given Int32 (record { shape = 6 ∷ []; chunk = 4 ∷ [] }); elements = pos 1 ∷ pos 2 ∷ pos 3 ∷ pos 4 ∷ pos 5 ∷ pos 6 ∷ [] }

fifth : given_at six (4 ∷ []) ≡ Some (pos 5)
unfolding six
fifth = refl

two_chunks : chunks_in six ≡ 2
unfolding six
two_chunks = refl

first_chunk : given_chunk six 0 ≡ Some (1 ∷ 0 ∷ 0 ∷ 0 ∷ 2 ∷ 0 ∷ 0 ∷ 0 ∷ 3 ∷ 0 ∷ 0 ∷ 0 ∷ 4 ∷ 0 ∷ 0 ∷ 0 ∷ [])
unfolding six element_bytes wrapped
first_chunk = refl

-- past the edge stands the fill value
last_chunk : given_chunk six 1 ≡ Some (5 ∷ 0 ∷ 0 ∷ 0 ∷ 6 ∷ 0 ∷ 0 ∷ 0 ∷ 0 ∷ 0 ∷ 0 ∷ 0 ∷ 0 ∷ 0 ∷ 0 ∷ 0 ∷ [])
unfolding six element_bytes wrapped
last_chunk = refl

last_key : key_of_chunk six 1 ≡ codes "a/c/1"
unfolding six digits
last_key = refl

-- a late put of this chunk, with its value, meets the premise on what is late
late_chunk : IsArrayCalm six ((codes "a/c/1", 5 ∷ 0 ∷ 0 ∷ 0 ∷ 6 ∷ 0 ∷ 0 ∷ 0 ∷ 0 ∷ 0 ∷ 0 ∷ 0 ∷ 0 ∷ 0 ∷ 0 ∷ 0 ∷ []) ∷ [])
late_chunk key bytes (inl (is, same)) of_array = inr (1, omega (arith, two_chunks), (bytes, last_chunk ∙ ap Some (sym same), (is ∙ sym last_key, refl)))
late_chunk key bytes (inr none) of_array = absurd none

line : load_line six ≡ codes "ok elements=6 chunks=2\n"
unfolding six load_line digits
line = refl

-- a row and a column lie past the edges of [[1, 2, 3], [4, 5, 6], [7, 8, 9]] in chunks of two by two
unfoldable square : GivenArray
square = record {
  name = codes "t";
  layout = layout_given Int32 (record { shape = 3 ∷ 3 ∷ []; chunk = 2 ∷ 2 ∷ [] });
  elements = pos 1 ∷ pos 2 ∷ pos 3 ∷ pos 4 ∷ pos 5 ∷ pos 6 ∷ pos 7 ∷ pos 8 ∷ pos 9 ∷ [];
}

edge : given_chunk square 1 ≡ Some (3 ∷ 0 ∷ 0 ∷ 0 ∷ 0 ∷ 0 ∷ 0 ∷ 0 ∷ 6 ∷ 0 ∷ 0 ∷ 0 ∷ 0 ∷ 0 ∷ 0 ∷ 0 ∷ [])
unfolding square element_bytes wrapped
edge = refl

edge_key : key_of_chunk square 1 ≡ codes "t/c/0/1"
unfolding square digits
edge_key = refl
