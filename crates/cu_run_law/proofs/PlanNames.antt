-- The keys of a plan with a name are apart.
use Rattle.std.proofs.Common.{◌≡◌, ◌≢◌, ◌⊎◌, inl, inr, ℕ, zero, suc, ◌<◌, ◌^◌, List, [], ◌∷◌, ◌++◌, length, All, codes, get_or, None, refl, ap, sym, ◌∙◌, subst, arith}
use Rattle.std.specs.Char.{digit_value}
use Rattle.std.specs.Fmt.{decimal}
use Rattle.std.specs.Str.Parse.{AllDigits}
use Rattle.std.proofs.lemmas.Fmt.{decimal_is_IsNumeral}
use Rattle.std.proofs.lemmas.List.{append_assoc, append_cancel_left}
use Rattle.std.proofs.lemmas.List.Elements.{All-head, All-tail}
use Rattle.cu_num.specs.declared.layout.Encoding.{Encoding}
use Rattle.cu_name.specs.Keys.{record_key_of, made_prefix_of}
use Rattle.cu_name.specs.Name.{IsArrayName}
use Rattle.cu_store.specs.Held.{Write}
use Rattle.cu_zarr.specs.Key.{separated, coordinates, chunk_key_of, metadata_key_of}
use Rattle.cu_op.specs.declared.cells.Cell.{Cell}
use Rattle.cu_op.specs.declared.layout.ArrayInfo.{ArrayInfo}
use Rattle.cu_op.specs.Arrays.{array_at, maker_at}
use Rattle.cu_op.specs.Names.{HasCells}
use Rattle.cu_op.specs.Schedule.{key_of}
use Rattle.cu_op.specs.Sound.{Sound, IsCell}
use Rattle.cu_run_law.specs.Names.{HasPlanNames}
use Rattle.cu_run_law.specs.Pieces.{PlanRun, Piece, Text, Chunk, IsPiece, IsInputChunk, piece_key, KeysApart, InputsApart}
use Rattle.cu_codec.proofs.KeyLaws.{same_chunk}
use Rattle.cu_op.proofs.CellsOfTasks.{coordinates_small}
use Rattle.cu_op.specs.Chunks.{cell}
use Rattle.cu_shape.proofs.Places.{inside-length}

-- the key begins with the name and a slash
abbrev IsKeyOf : List ℕ → List ℕ → Type 0
IsKeyOf name key = (rest : List ℕ) × (key ≡ name ++ 47 ∷ rest)

-- it begins with an underscore
abbrev IsOurs : List ℕ → Type 0
IsOurs key = (rest : List ℕ) × (key ≡ 95 ∷ rest)

same_head : (x y : ℕ) (xs ys : List ℕ) → x ∷ xs ≡ y ∷ ys → x ≡ y
same_head x y xs ys e = cc

not_ours : (name key : List ℕ) → IsArrayName name → IsKeyOf name key → IsOurs key → ⊥
not_ours [] key n (r, of_name) (s, ours) = let e = same_head 47 95 r s (sym of_name ∙ ours) in omega (arith, e)
not_ours (x ∷ xs) key n (r, of_name) (s, ours) = n.first (same_head x 95 (xs ++ 47 ∷ r) s (sym of_name ∙ ours))

one_name : (name other r s : List ℕ) → All (λ b. b ≢ 47) name → All (λ b. b ≢ 47) other → name ++ 47 ∷ r ≡ other ++ 47 ∷ s → name ≡ other
one_name [] [] r s p q e = refl
one_name [] (y ∷ ys) r s p q e = absurd (All-head (λ b. b ≢ 47) y ys q (sym (same_head 47 y r (ys ++ 47 ∷ s) e)))
one_name (x ∷ xs) [] r s p q e = absurd (All-head (λ b. b ≢ 47) x xs p (same_head x 47 (xs ++ 47 ∷ r) s e))
one_name (x ∷ xs) (y ∷ ys) r s p q e =
    let first = same_head x y (xs ++ 47 ∷ r) (ys ++ 47 ∷ s) e in
    let behind : xs ++ 47 ∷ r ≡ ys ++ 47 ∷ s = cc in
    let rest = one_name xs ys r s (All-tail (λ b. b ≢ 47) x xs p) (All-tail (λ b. b ≢ 47) y ys q) behind in
    cc

-- a key of one name isn't one of another, and not one of ours
apart_names : (name other key : List ℕ) → IsArrayName name → IsArrayName other → other ≢ name → IsKeyOf name key ⊎ IsOurs key → IsKeyOf other key → ⊥
apart_names name other key n o differ (inl (r, of_name)) (s, of_other) = differ (one_name other name s r o.plain n.plain (sym of_other ∙ of_name))
apart_names name other key n o differ (inr ours) of_other = not_ours other key o of_other ours

chunk_of_name : (name coord : List ℕ) (encoding : Encoding) → IsKeyOf name (chunk_key_of name encoding coord)
chunk_of_name name coord encoding = (coordinates encoding coord, append_assoc name (codes "/") (coordinates encoding coord))

-- the key of a chunk of an array with this prefix
key_is : (c : Cell) (arrays : List ArrayInfo) (prefix : List ℕ) → (array_at arrays c.array).prefix ≡ prefix
    → key_of arrays c ≡ (prefix ++ codes "/") ++ coordinates (array_at arrays c.array).layout.encoding c.coord
key_is c arrays prefix e = ap (λ x. (x ++ codes "/") ++ coordinates (array_at arrays c.array).layout.encoding c.coord) e

-- a decimal number begins with a digit
digit_first : (ds rest : List ℕ) (x : ℕ) (others : List ℕ) → AllDigits 10 ds → 0 < length ds → (digit_value x < 10 → ⊥) → ds ++ rest ≢ x ∷ others
digit_first [] rest x others digits some stops e = omega arith
digit_first (d ∷ ds) rest x others digits some stops e = stops (subst (λ b. digit_value b < 10) (same_head d x (ds ++ rest) others e) digits.0)

number_not : (k : ℕ) (rest : List ℕ) (others : List ℕ) → k < 2 ^ 64 → decimal k ++ rest ≢ 112 ∷ others
number_not k rest others small = let n = decimal_is_IsNumeral k small in digit_first (decimal k) rest 112 others n.0.1 n.0.0 (λ digit. omega arith)

module _ (r : PlanRun) (name recorded metadata : List ℕ) (sound : Sound r.plan) (names : HasPlanNames r name recorded metadata) where
  text_is : (n : ℕ) → n < length r.texts → ((n ≡ 0) × (piece_key r (Text n) ≡ record_key_of name)) ⊎ ((n ≡ 1) × (piece_key r (Text n) ≡ metadata_key_of name))
  text_is n h = from n (subst (λ (ts : List Write). n < length ts) names.texts h)
    where
      at : (n : ℕ) (key : List ℕ) → (get_or {A = Write} ((record_key_of name, recorded) ∷ (metadata_key_of name, metadata) ∷ []) n ([], [])).0 ≡ key → piece_key r (Text n) ≡ key
      at n key e = ap (λ (ts : List Write). (get_or {A = Write} ts n ([], [])).0) names.texts ∙ e

      from : (n : ℕ) → n < 2 → ((n ≡ 0) × (piece_key r (Text n) ≡ record_key_of name)) ⊎ ((n ≡ 1) × (piece_key r (Text n) ≡ metadata_key_of name))
      from zero l = inl (refl, at 0 (record_key_of name) refl)
      from (suc zero) l = inr (refl, at 1 (metadata_key_of name) refl)
      from (suc (suc n)) l = absurd (omega arith)

  -- the array of a piece is made and stored
  has_cells : (c : Cell) → IsPiece r (Chunk c) → HasCells r.plan.arrays c.array
  has_cells c piece = record { within = piece.within; made = piece.made; stored = piece.stored }

  -- a chunk of the array with the name, and of another
  of_name : (c : Cell) → (array_at r.plan.arrays c.array).prefix ≡ name → IsKeyOf name (key_of r.plan.arrays c)
  of_name c e = let k = chunk_of_name name c.coord (array_at r.plan.arrays c.array).layout.encoding in (k.0, key_is c r.plan.arrays name e ∙ k.1)

  of_ours : (c : Cell) (k : ℕ) → (array_at r.plan.arrays c.array).prefix ≡ made_prefix_of name k → IsOurs (key_of r.plan.arrays c)
  of_ours c k e = (((((codes "cubed/" ++ name) ++ codes "/") ++ decimal k) ++ codes "/") ++ coordinates (array_at r.plan.arrays c.array).layout.encoding c.coord, key_is c r.plan.arrays (made_prefix_of name k) e)

  record_ours : IsOurs (record_key_of name)
  record_ours = ((codes "cubed/" ++ name) ++ codes "/plan.json", refl)

  metadata_own : IsKeyOf name (metadata_key_of name)
  metadata_own = (codes "zarr.json", refl)

  -- whose key the key of a piece is
  owner : (q : Piece) → IsPiece r q → IsKeyOf name (piece_key r q) ⊎ IsOurs (piece_key r q)
  owner (Text n) piece =
      elim (text_is n piece) [
        | inl is ↦ inr (record_ours.0, is.1 ∙ record_ours.1)
        | inr is ↦ inl (codes "zarr.json", is.1)
      ]
  owner (Chunk c) piece =
      elim (names.made c.array (has_cells c piece)) [
        | inl is ↦ inl (of_name c is)
        | inr other ↦ inr (of_ours c other.0 other.2)
      ]

  made_apart : (front d t : List ℕ) → (((front ++ codes "/") ++ d) ++ codes "/") ++ t ≡ front ++ 47 ∷ (d ++ 47 ∷ t)
  made_apart front d t =
      append_assoc ((front ++ codes "/") ++ d) (codes "/") t ∙ append_assoc (front ++ codes "/") d (47 ∷ t) ∙ append_assoc front (codes "/") (d ++ 47 ∷ t)

  tail_same : (x y : ℕ) (xs ys : List ℕ) → x ∷ xs ≡ y ∷ ys → xs ≡ ys
  tail_same x y xs ys e = cc

  record_apart : (c : Cell) → IsCell r.plan.arrays c.array c.coord → record_key_of name ≢ key_of r.plan.arrays c
  record_apart c piece e =
      elim (names.made c.array (has_cells c piece)) [
        | inl is ↦ not_ours name (key_of r.plan.arrays c) names.named (of_name c is) (record_ours.0, sym e ∙ record_ours.1)
        | inr other ↦
            let coords = coordinates (array_at r.plan.arrays c.array).layout.encoding c.coord in
            let front = codes "_cubed/" ++ name in
            let whole : front ++ 47 ∷ codes "plan.json" ≡ front ++ 47 ∷ (decimal other.0 ++ 47 ∷ coords) = e ∙ key_is c r.plan.arrays (made_prefix_of name other.0) other.2 ∙ made_apart front (decimal other.0) coords in
            let behind = tail_same 47 47 _ _ (append_cancel_left front _ _ whole) in
            number_not other.0 (47 ∷ coords) (codes "lan.json") other.1 (sym behind)
      ]

  metadata_apart : (c : Cell) → IsCell r.plan.arrays c.array c.coord → metadata_key_of name ≢ key_of r.plan.arrays c
  metadata_apart c piece e =
      elim (names.made c.array (has_cells c piece)) [
        | inl is ↦
            let coords = coordinates (array_at r.plan.arrays c.array).layout.encoding c.coord in
            let whole : name ++ 47 ∷ codes "zarr.json" ≡ name ++ 47 ∷ coords = e ∙ key_is c r.plan.arrays name is ∙ append_assoc name (codes "/") coords in
            let plain : coords ≡ codes "c" ++ separated 47 c.coord = ap (λ w. coordinates w c.coord) (names.encodings c.array (has_cells c piece)) in
            other_head _ (separated 47 c.coord) (tail_same 47 47 _ _ (append_cancel_left name _ _ whole) ∙ plain)
        | inr other ↦ not_ours name (metadata_key_of name) names.named metadata_own (let o = of_ours c other.0 other.2 in (o.0, e ∙ o.1))
      ]
    where
      other_head : (xs ys : List ℕ) → 122 ∷ xs ≡ 99 ∷ ys → ⊥
      other_head xs ys e = let same = same_head 122 99 xs ys e in omega (arith, same)

  texts_apart : (n m : ℕ) → n < length r.texts → m < length r.texts → piece_key r (Text n) ≡ piece_key r (Text m) → Text n ≡ Text m
  texts_apart n m hn hm e =
      elim (text_is n hn) [
        | inl a ↦ elim (text_is m hm) [ inl b ↦ ap Text (a.0 ∙ sym b.0) | inr b ↦ absurd (differ (sym a.1 ∙ e ∙ b.1)) ]
        | inr a ↦ elim (text_is m hm) [ inl b ↦ absurd (differ (sym b.1 ∙ sym e ∙ a.1)) | inr b ↦ ap Text (a.0 ∙ sym b.0) ]
      ]
    where
      differ : record_key_of name ≡ metadata_key_of name → ⊥
      differ same = not_ours name (metadata_key_of name) names.named metadata_own (record_ours.0, sym same ∙ record_ours.1)

  text_chunk : (n : ℕ) (c : Cell) → n < length r.texts → IsCell r.plan.arrays c.array c.coord → piece_key r (Text n) ≢ piece_key r (Chunk c)
  text_chunk n c h piece e = elim (text_is n h) [ inl a ↦ record_apart c piece (sym a.1 ∙ e) | inr a ↦ metadata_apart c piece (sym a.1 ∙ e) ]

  one_piece : (q s : Piece) → IsPiece r q → IsPiece r s → piece_key r q ≡ piece_key r s → q ≡ s
  one_piece (Text n) (Text m) hq hs e = texts_apart n m hq hs e
  one_piece (Text n) (Chunk d) hq hs e = absurd (text_chunk n d hq hs e)
  one_piece (Chunk c) (Text m) hq hs e = absurd (text_chunk m c hs hq (sym e))
  one_piece (Chunk c) (Chunk d) hq hs e = let (a, at) = sound.keys c.array d.array c.coord d.coord hq hs e in λ i. Chunk (record { array = a i; coord = at i })

  pub keys_apart : KeysApart r
  keys_apart = record {
    pieces = one_piece;
    inputs = λ q c piece input e.
        let (named, differ) = names.inputs c.array input.within input.given in
        apart_names name (array_at r.plan.arrays c.array).prefix (piece_key r q) names.named named differ (owner q piece)
        (let k = chunk_of_name (array_at r.plan.arrays c.array).prefix c.coord (array_at r.plan.arrays c.array).layout.encoding in (k.0, e ∙ k.1));
  }

  pub metadata_of_inputs : (q : Piece) (a : ℕ) → IsPiece r q → a < length r.plan.arrays → maker_at r.plan.arrays a ≡ None → piece_key r q ≢ metadata_key_of (array_at r.plan.arrays a).prefix
  metadata_of_inputs q a piece within given e =
      let (named, differ) = names.inputs a within given in
      apart_names name (array_at r.plan.arrays a).prefix (piece_key r q) names.named named differ (owner q piece) (codes "zarr.json", e)

  -- no key of a piece is one of an array with another name
  pub other_names : (q : Piece) (other rest : List ℕ) → IsPiece r q → IsArrayName other → other ≢ name → piece_key r q ≢ other ++ 47 ∷ rest
  other_names q other rest piece named differ e = apart_names name other (piece_key r q) names.named named differ (owner q piece) (rest, e)

  small_chunk : (c : Cell) → IsInputChunk r.plan.arrays c → All (λ i. i < 2 ^ 64) c.coord
  small_chunk c input k d below = let s = coordinates_small r.plan c.array c.coord sound input.within input.coordinate k d below in omega (arith, s)

  -- two chunks of one input with one key are one chunk
  one_chunk : (c d : Cell) → IsInputChunk r.plan.arrays c → IsInputChunk r.plan.arrays d → c.array ≡ d.array → key_of r.plan.arrays c ≡ key_of r.plan.arrays d → c ≡ d
  one_chunk c d input other same e =
      let there : IsInputChunk r.plan.arrays (cell c.array d.coord) = subst (λ (a : ℕ). IsInputChunk r.plan.arrays (cell a d.coord)) (sym same) other in
      let here : key_of r.plan.arrays c ≡ key_of r.plan.arrays (cell c.array d.coord) = e ∙ ap (λ (a : ℕ). key_of r.plan.arrays (cell a d.coord)) (sym same) in
      let coords = same_chunk (array_at r.plan.arrays c.array).prefix (array_at r.plan.arrays c.array).layout.encoding c.coord d.coord (small_chunk c input) (small_chunk (cell c.array d.coord) there)
      (inside-length _ c.coord input.coordinate ∙ sym (inside-length _ d.coord there.coordinate)) here in
      λ i. cell (same i) (coords i)

  -- the keys of two chunks of inputs differ
  pub inputs_apart : InputsApart r
  inputs_apart c d input other e =
      let (named, differ) = names.inputs c.array input.within input.given in
      let (also, unlike) = names.inputs d.array other.within other.given in
      let k = chunk_of_name (array_at r.plan.arrays c.array).prefix c.coord (array_at r.plan.arrays c.array).layout.encoding in
      let l = chunk_of_name (array_at r.plan.arrays d.array).prefix d.coord (array_at r.plan.arrays d.array).layout.encoding in
      let prefixes = one_name (array_at r.plan.arrays c.array).prefix (array_at r.plan.arrays d.array).prefix k.0 l.0 named.plain also.plain (sym k.1 ∙ e ∙ l.1) in
      one_chunk c d input other (names.once c.array d.array input.within other.within input.given other.given prefixes) e
