-- What a run promises of the chunks that its plan makes.
use Rattle.std.proofs.Common.{◌≡◌, ◌≢◌, inl, inr, ℕ, zero, suc, ◌-◌, ◌*◌, ◌%◌, ◌/◌, ◌<◌, Bool, true, false, IsTrue, ℤ, List, [], ◌∷◌, ◌++◌, length, reverse, map, All, Contains, Option, Some, None, option_map, option_and_then, if◌then◌else◌, refl, ap, sym, ◌∙◌, subst, arith}
use Rattle.std.specs.Str.{bytes_eq}
use Rattle.std.proofs.lemmas.Slice.Eq.{bytes_eq-Decides}
use Rattle.std.proofs.lemmas.List.{get_or-reverse, length-reverse}
use Rattle.std.proofs.lemmas.List.Elements.{All-nil, All-cons, All-append}
use Rattle.cu_num.specs.Dtype.{size_of}
use Rattle.cu_num.specs.Element.{low_bytes, in_order, element_bytes}
use Rattle.cu_num.specs.Wrap.{residue, wrapped}
use Rattle.cu_num.specs.declared.types.Dtype.{Dtype}
use Rattle.cu_num.specs.declared.layout.Endian.{Endian}
use Rattle.cu_num.specs.declared.layout.Endian.TheVariants.{Little, Big}
use Rattle.cu_shape.specs.Index.{product}
use Rattle.cu_zarr.specs.Layout.{ArrayLayout}
use Rattle.cu_zarr.specs.Spelling.{parts_in_order, padded_element}
use Rattle.cu_zarr.proofs.Spelled.{length-spelled}
use Rattle.cu_store.specs.Held.{Write}
use Rattle.cu_store.specs.Share.{IsPromiseOf}
use Rattle.cu_store.specs.Yard.{bytes_under}
use Rattle.cu_store.specs.declared.yard.Spec.{Spec}
use Rattle.cu_op.specs.declared.cells.Cell.{Cell}
use Rattle.cu_op.specs.Arrays.{layout_at, maker_at, chunk_room}
use Rattle.cu_op.specs.PlanView.{PlanView}
use Rattle.cu_op.specs.Schedule.{key_of, cell_value}
use Rattle.cu_op.specs.Sound.{IsCell}
use Rattle.cu_op.specs.Elements.{Elements}
use Rattle.cu_op.specs.Value.{plan_value}
use Rattle.cu_work.specs.Shared.{plan_chunks, spec_of, specs_of, with_write, put_value, writes_of_chunks}
use Rattle.cu_work.proofs.PlanChunks.{ChunksApart, chunk_listed, listed_chunk, first_is, behind, front_or, none_in}
use Rattle.cu_work.proofs.StoredChunks.{cell_chunk, IsStoredChunk}

-- ---- a value is of bytes

low_small : (count n : ℕ) → All (λ b. b < 256) (low_bytes count n)
low_small zero n = All-nil (λ b. b < 256)
low_small (suc count) n = All-cons (λ b. b < 256) (n % 256) (low_bytes count (n / 256)) (omega arith) (low_small count (n / 256))

reversed_small : (bytes : List ℕ) → All (λ b. b < 256) bytes → All (λ b. b < 256) (reverse bytes)
reversed_small bytes small k d below =
    let long = length-reverse bytes in
    let here : k < length bytes = omega (arith, below, long) in
    subst (λ (b : ℕ). b < 256) (sym (get_or-reverse bytes k d here)) (small (length bytes - 1 - k) d (omega (arith, here)))

ordered_small : (e : Endian) (bytes : List ℕ) → All (λ b. b < 256) bytes → All (λ b. b < 256) (in_order e bytes)
ordered_small Little bytes small = small
ordered_small Big bytes small = reversed_small bytes small

element_small : (e : Endian) (t : Dtype) (x : ℤ) → All (λ b. b < 256) (element_bytes e t x)
unfolding element_bytes
element_small e t x = ordered_small e (low_bytes (size_of t) (residue (8 * size_of t) (wrapped t x))) (low_small (size_of t) (residue (8 * size_of t) (wrapped t x)))

part_small : (l : ArrayLayout) (x : Option ℤ) (b : List ℕ) → option_map (element_bytes l.endian l.dtype) x ≡ Some b → All (λ b. b < 256) b
part_small l None b e = cc
part_small l (Some x) b e = let same : element_bytes l.endian l.dtype x ≡ b = cc in subst (λ (bs : List ℕ). All (λ b. b < 256) bs) same (element_small l.endian l.dtype x)

joined_last : (front last : Option (List ℕ)) (bytes : List ℕ) → option_and_then (λ a. option_map (λ b. a ++ b) last) front ≡ Some bytes
    → (a : List ℕ) × (b : List ℕ) × (front ≡ Some a) × (last ≡ Some b) × (bytes ≡ a ++ b)
joined_last None last bytes e = cc
joined_last (Some a) None bytes e = cc
joined_last (Some a) (Some b) bytes e = (a, b, refl, refl, cc)

parts_small : (part : ℕ → Option (List ℕ)) → ((p : ℕ) (b : List ℕ) → part p ≡ Some b → All (λ b. b < 256) b) → (n : ℕ) (bytes : List ℕ) → parts_in_order part n ≡ Some bytes → All (λ b. b < 256) bytes
parts_small part small zero bytes e = let none : [] ≡ bytes = cc in subst (λ (bs : List ℕ). All (λ b. b < 256) bs) none (All-nil (λ b. b < 256))
parts_small part small (suc n) bytes e =
    let (a, b, front, last, is) = joined_last (parts_in_order part n) (part n) bytes e in
    subst (λ (bs : List ℕ). All (λ b. b < 256) bs) (sym is) (All-append (λ b. b < 256) a b (parts_small part small n a front) (small n b last))

value_small : (p : PlanView) (env : Elements) (c : Cell) (bytes : List ℕ) → cell_value p env c ≡ Some bytes → All (λ b. b < 256) bytes
value_small p env c bytes value =
    let l = layout_at p.arrays c.array in
    parts_small (λ k. option_map (element_bytes l.endian l.dtype) (padded_element l (plan_value p env c.array) c.coord k))
    (λ k b. part_small l (padded_element l (plan_value p env c.array) c.coord k) b) (product l.chunk) bytes value

-- ---- what is promised

some_same : (a b : List ℕ) → Some a ≡ Some b → a ≡ b
some_same a b e = cc

module _ (p : PlanView) (env : Elements) where
  -- these bytes are the value of a made chunk of the list that has this key
  abbrev IsValueIn : List Cell → List ℕ → List ℕ → Type 0
  IsValueIn cs key bytes = (c : Cell) × Contains cs c × (maker_at p.arrays c.array ≢ None) × (key_of p.arrays c ≡ key) × (cell_value p env c ≡ Some bytes)

  value_more : (c : Cell) (cs : List Cell) (key bytes : List ℕ) → IsValueIn cs key bytes → IsValueIn (c ∷ cs) key bytes
  value_more c cs key bytes (d, listed, made, same, value) = (d, behind c d cs listed, made, same, value)

  by_key : (c : Cell) (cs : List Cell) (key bytes value : List ℕ) (rest : Option (List ℕ)) → maker_at p.arrays c.array ≢ None → cell_value p env c ≡ Some value → (rest ≡ Some bytes → IsValueIn cs key bytes)
      → (b : Bool) → bytes_eq (key_of p.arrays c) key ≡ b → (if b then Some value else rest) ≡ Some bytes → IsValueIn (c ∷ cs) key bytes
  by_key c cs key bytes value rest made is later true same here = (c, first_is c cs, made, (bytes_eq-Decides (key_of p.arrays c) key).0 same, is ∙ here)
  by_key c cs key bytes value rest made is later false other there = value_more c cs key bytes (later there)

  by_value : (c : Cell) (cs : List Cell) (key bytes : List ℕ) (writes : List Write) → maker_at p.arrays c.array ≢ None → (bytes_under writes key ≡ Some bytes → IsValueIn cs key bytes)
      → (v : Option (List ℕ)) → cell_value p env c ≡ v → bytes_under (with_write (key_of p.arrays c) v writes) key ≡ Some bytes → IsValueIn (c ∷ cs) key bytes
  by_value c cs key bytes writes made later None is there = value_more c cs key bytes (later there)
  by_value c cs key bytes writes made later (Some value) is here = by_key c cs key bytes value (bytes_under writes key) made is later (bytes_eq (key_of p.arrays c) key) refl here

  by_maker : (c : Cell) (cs : List Cell) (key bytes : List ℕ) (writes : List Write) → (bytes_under writes key ≡ Some bytes → IsValueIn cs key bytes)
      → (m : Option ℕ) → maker_at p.arrays c.array ≡ m → bytes_under (with_write (key_of p.arrays c) (put_value p env c m) writes) key ≡ Some bytes → IsValueIn (c ∷ cs) key bytes
  by_maker c cs key bytes writes later None none there = value_more c cs key bytes (later there)
  by_maker c cs key bytes writes later (Some k) made here =
      by_value c cs key bytes writes (λ none. let e : None ≡ Some k = sym none ∙ made in cc) later (cell_value p env c) refl here

  -- what is promised under a key is such a value
  promised_is : (cs : List Cell) (key bytes : List ℕ) → bytes_under (writes_of_chunks p env cs) key ≡ Some bytes → IsValueIn cs key bytes
  promised_is [] key bytes e = cc
  promised_is (c ∷ cs) key bytes e = by_maker c cs key bytes (writes_of_chunks p env cs) (promised_is cs key bytes) (maker_at p.arrays c.array) refl e

  module _ (apart : ChunksApart p) where
    module _ (d c : Cell) (bytes : List ℕ) (writes : List Write) (chunk : IsStoredChunk p.arrays d) (own : IsStoredChunk p.arrays c) (made : maker_at p.arrays c.array ≢ None)
        (value : cell_value p env c ≡ Some bytes) (other : ((d ≡ c) → ⊥) → bytes_under writes (key_of p.arrays c) ≡ Some bytes) where
      has_key : (v : List ℕ) → cell_value p env d ≡ Some v → (b : Bool) → bytes_eq (key_of p.arrays d) (key_of p.arrays c) ≡ b → (if b then Some v else bytes_under writes (key_of p.arrays c)) ≡ Some bytes
      has_key v is true same =
          let one = apart d c chunk own ((bytes_eq-Decides (key_of p.arrays d) (key_of p.arrays c)).0 same) in
          sym is ∙ ap (cell_value p env) one ∙ value
      has_key v is false differ = other (λ same. let yes = (bytes_eq-Decides (key_of p.arrays d) (key_of p.arrays c)).1 (ap (key_of p.arrays) same) in cc)

      has_value : (v : Option (List ℕ)) → cell_value p env d ≡ v → bytes_under (with_write (key_of p.arrays d) v writes) (key_of p.arrays c) ≡ Some bytes
      has_value None is = other (λ same. let e : None ≡ Some bytes = sym is ∙ ap (cell_value p env) same ∙ value in cc)
      has_value (Some v) is = has_key v is (bytes_eq (key_of p.arrays d) (key_of p.arrays c)) refl

      has_maker : (m : Option ℕ) → maker_at p.arrays d.array ≡ m → bytes_under (with_write (key_of p.arrays d) (put_value p env d m) writes) (key_of p.arrays c) ≡ Some bytes
      has_maker None none = other (λ same. made (ap (λ (x : Cell). maker_at p.arrays x.array) (sym same) ∙ none))
      has_maker (Some k) is = has_value (cell_value p env d) refl

    -- a made chunk that has a value is promised it
    promised_has : (cs : List Cell) → ((c : Cell) → Contains cs c → IsStoredChunk p.arrays c) → (c : Cell) (bytes : List ℕ) → Contains cs c → maker_at p.arrays c.array ≢ None
        → cell_value p env c ≡ Some bytes → bytes_under (writes_of_chunks p env cs) (key_of p.arrays c) ≡ Some bytes
    promised_has [] all c bytes listed made value = absurd (none_in c listed)
    promised_has (d ∷ cs) all c bytes listed made value =
        has_maker d c bytes (writes_of_chunks p env cs) (all d (first_is d cs)) (all c listed) made value
        (λ differs. elim (front_or d c cs listed) [
          | inl same ↦ absurd (differs same)
          | inr later ↦ promised_has cs (λ x among. all x (behind d x cs among)) c bytes later made value
        ])
        (maker_at p.arrays d.array) refl

    -- the promise has the value of each made chunk, and nothing where it has none
    pub promise_value : (c : Cell) → IsCell p.arrays c.array c.coord → bytes_under (writes_of_chunks p env (plan_chunks p)) (key_of p.arrays c) ≡ cell_value p env c
    promise_value c piece = by (bytes_under (writes_of_chunks p env (plan_chunks p)) (key_of p.arrays c)) refl (cell_value p env c) refl
      where
        by : (u : Option (List ℕ)) → bytes_under (writes_of_chunks p env (plan_chunks p)) (key_of p.arrays c) ≡ u → (v : Option (List ℕ)) → cell_value p env c ≡ v
            → bytes_under (writes_of_chunks p env (plan_chunks p)) (key_of p.arrays c) ≡ cell_value p env c
        by None none None also = none ∙ sym also
        by u under (Some v) value =
            promised_has (plan_chunks p) (listed_chunk p) c v (chunk_listed p c (cell_chunk p.arrays c piece)) piece.made value ∙ sym value
        by (Some u) under None none =
            let (d, listed, made, same, value) = promised_is (plan_chunks p) (key_of p.arrays c) u under in
            let one = apart d c (listed_chunk p d listed) (cell_chunk p.arrays c piece) same in
            under ∙ sym value ∙ ap (cell_value p env) one

    -- it is of bytes, of a chunk's length each
    length_in : (cs : List Cell) → ((c : Cell) → Contains cs c → Contains (plan_chunks p) c)
        → All (λ s. IsTrue s.made → (bytes : List ℕ) → bytes_under (writes_of_chunks p env (plan_chunks p)) s.key ≡ Some bytes → length bytes ≡ s.len) (map (spec_of p.arrays) cs)
    length_in [] among = All-nil (λ (s : Spec). IsTrue s.made → (bytes : List ℕ) → bytes_under (writes_of_chunks p env (plan_chunks p)) s.key ≡ Some bytes → length bytes ≡ s.len)
    length_in (c ∷ cs) among =
        All-cons (λ (s : Spec). IsTrue s.made → (bytes : List ℕ) → bytes_under (writes_of_chunks p env (plan_chunks p)) s.key ≡ Some bytes → length bytes ≡ s.len)
        (spec_of p.arrays c) (map (spec_of p.arrays) cs)
        (λ made bytes under.
        let (d, listed, there, same, value) = promised_is (plan_chunks p) (key_of p.arrays c) bytes under in
        let one = apart d c (listed_chunk p d listed) (listed_chunk p c (among c (first_is c cs))) same in
        length-spelled (layout_at p.arrays d.array) (plan_value p env d.array) d.coord bytes value ∙ ap (λ (x : Cell). chunk_room p.arrays x.array) one)
        (length_in cs (λ d listed. among d (behind c d cs listed)))

    pub promise_fits : IsPromiseOf (specs_of p) (bytes_under (writes_of_chunks p env (plan_chunks p)))
    promise_fits = record {
      lengths = length_in (plan_chunks p) (λ c listed. listed);
      bytes = λ key bytes under.
          let (d, listed, there, same, value) = promised_is (plan_chunks p) key bytes under in
          value_small p env d bytes value;
    }

-- nothing is promised where nothing is told
all_of : (P : Spec → Type 0) → ((s : Spec) → P s) → (specs : List Spec) → All P specs
all_of P each [] = All-nil P
all_of P each (s ∷ ss) = All-cons P s ss (each s) (all_of P each ss)

pub nothing_fits : (specs : List Spec) → IsPromiseOf specs (bytes_under [])
nothing_fits specs = record {
  lengths = all_of (λ (s : Spec). IsTrue s.made → (bytes : List ℕ) → bytes_under [] s.key ≡ Some bytes → length bytes ≡ s.len)
      (λ s made bytes under. let e : None ≡ Some bytes = under in cc) specs;
  bytes = λ key bytes under. let e : None ≡ Some bytes = under in cc;
}
