-- A piece of a run of places, along which a region moves evenly or rests.
use Rattle.std.proofs.Common.{◌≡◌, ℕ, suc, ◌+◌, ◌-◌, ◌*◌, ◌/◌, ◌%◌, ◌<◌, ◌≤◌, List, length, drop, refl, ap, sym, ◌∙◌, subst, arith, ℤ, Option, Some, ⊎_elim}
use Rattle.std.proofs.lemmas.Bool.{cases_lt}
use borrow.Rule.Slice.PartMut.{put_mid}
use Rattle.std.proofs.Math.Nat.{mul-le-mul_left, mul-le-mul_right}
use Rattle.std.specs.List.{between}
use Rattle.std.proofs.lemmas.List.Edits.{length-between}
use Rattle.cu_num.specs.Dtype.{size_of, InRange}
use Rattle.cu_num.specs.Element.{element_at, element_bytes, bytes_at}
use Rattle.cu_num.specs.Wrap.{wrapped}
use Rattle.cu_num.proofs.Wrapped.{wrapped_in_range}
use Rattle.cu_num.specs.declared.types.Dtype.{Dtype}
use Rattle.cu_num.specs.declared.layout.Endian.TheVariants.{Little}
use Rattle.cu_shape.specs.Index.{product, index_at}
use Rattle.cu_kern.specs.declared.lays.Lay.{Lay}
use Rattle.cu_kern.specs.Lays.{LayFits, IsRun, HasValue, place_read, lay_element}
use Rattle.cu_kern.specs.Strips.{strip, strip_element, HasPlaces}
use Rattle.cu_kern.proofs.Parts.{element_moved, element_count, elements_fit, length-put_mid, bytes_below, bytes_inside, has_value_same}
use Rattle.cu_kern.proofs.ReadPlaces.{piece_inside}

-- where a piece begins and how it goes on
pub record Piece : Type 0 where
  pub place : ℕ
  pub run : ℕ
  pub step : ℕ
  pub count : ℕ

-- the piece lies in one run of the region, and `from` is the byte of its first element
pub record IsPiece (l : Lay) (t : Dtype) (ins dims : List ℕ) (p : Piece) (from : ℕ) : Type 0 where
  pub fits : LayFits dims (length ins) l
  pub dtype : l.dtype ≡ t
  pub paced : IsRun l.dims dims p.run p.step
  pub step : p.step ≤ 1
  pub some : 0 < p.count
  pub within : p.place + p.count ≤ product dims
  pub row : p.place % p.run + p.count ≤ p.run
  pub begins : from ≡ l.at + place_read l.dims dims p.place * size_of t

-- a place of the region has its first byte in the buffer
pub place_begins : (l : Lay) (dims : List ℕ) (room at size : ℕ) → LayFits dims room l → at < product l.dims → size ≡ size_of l.dtype → l.at + at * size ≤ room
place_begins l dims room at size fits below e =
    let far : at * size ≤ product l.dims * size = mul-le-mul_right size (let less : at ≤ product l.dims = omega arith in less) in
    let same = ap (λ s. product l.dims * s) e in
    let inside = fits.inside in
    omega arith

bound : (l : Lay) (t : Dtype) (ins dims : List ℕ) (p : Piece) (from k : ℕ) → IsPiece l t ins dims p from → k < p.count → from + p.step * k * size_of t + size_of t ≤ length ins
bound l t ins dims p from k h b =
    let P : Dtype → Type 0 = λ d. l.at + (place_read l.dims dims p.place + p.step * (p.count - 1)) * size_of d + size_of d ≤ length ins in
    let last = subst P h.dtype (piece_inside l dims (length ins) p.place p.run p.step p.count (place_read l.dims dims p.place) h.fits h.paced h.some h.within h.row refl) in
    let less : p.step * k ≤ p.step * (p.count - 1) = mul-le-mul_left p.step (omega arith) in
    let far : p.step * k * size_of t ≤ p.step * (p.count - 1) * size_of t = mul-le-mul_right (size_of t) less in
    let begins = h.begins in
    omega arith

pub strip_places : (l : Lay) (t : Dtype) (ins dims : List ℕ) (p : Piece) (from count : ℕ) → IsPiece l t ins dims p from → count ≡ p.count → HasPlaces t (strip (between from (length ins) ins) p.step) count
strip_places l t ins dims p from count h e = record {
  step = h.step;
  inside = λ k b.
      let far = bound l t ins dims p from k h (omega arith) in
      let long : length (between from (length ins) ins) ≡ length ins - from = length-between ins from (length ins) (omega arith) in
      omega arith;
}

pub strip_read : (l : Lay) (t : Dtype) (ins dims : List ℕ) (p : Piece) (from k : ℕ) → IsPiece l t ins dims p from → k < p.count
    → strip_element t (strip (between from (length ins) ins) p.step) k ≡ lay_element l ins (index_at dims (p.place + k))
strip_read l t ins dims p from k h b =
    let row = h.row in
    let within = h.within in
    let moved = h.paced p.place k (omega arith) (omega arith) in
    element_moved t ins l.at (place_read l.dims dims p.place) from (length ins) (p.step * k) (place_read l.dims dims (p.place + k)) h.begins (bound l t ins dims p from k h b) moved
    ∙ ap (λ d. element_at Little d (drop l.at ins) (place_read l.dims dims (p.place + k))) (sym h.dtype)

-- the part of the result that is written
pub part_within : (t : Dtype) (done count all size bytes : ℕ) → size ≡ size_of t → done + count ≤ all → bytes ≡ all * size_of t → (done * size ≤ (done + count) * size) × ((done + count) * size ≤ bytes)
part_within t done count all size bytes e h n = (mul-le-mul_right size (let less : done ≤ done + count = omega arith in less), elements_fit t (done + count) all size bytes e h n)

pub part_length : (t : Dtype) (out : List ℕ) (done count all size : ℕ) → size ≡ size_of t → done + count ≤ all → length out ≡ all * size_of t
    → ((done + count) * size ≤ length out) × (length (between (done * size) ((done + count) * size) out) ≡ count * size_of t)
part_length t out done count all size e h n =
    let from = ap (λ s. done * s) e in
    let to = ap (λ s. (done + count) * s) e in
    let far : (done + count) * size_of t ≤ all * size_of t = mul-le-mul_right (size_of t) h in
    let fits : (done + count) * size ≤ length out = omega arith in
    (fits, length-between out (done * size) ((done + count) * size) fits ∙ omega arith)

pub part_count : (t : Dtype) (out : List ℕ) (done count all size : ℕ) → size ≡ size_of t → done + count ≤ all → length out ≡ all * size_of t
    → length (between (done * size) ((done + count) * size) out) / size_of t ≡ count
part_count t out done count all size e h n = element_count t count (size_of t) (length (between (done * size) ((done + count) * size) out)) refl (part_length t out done count all size e h n).1

-- the part has the values of the next `count` places, and what lies before it keeps its own
pub values_more : (t : Dtype) (out new : List ℕ) (done count all size : ℕ) (value : ℕ → Option ℤ) → size ≡ size_of t → done + count ≤ all → length out ≡ all * size_of t
    → length new ≡ length (between (done * size) ((done + count) * size) out) → ((k : ℕ) → k < done → HasValue t out k (value k)) → ((j : ℕ) → j < count → HasValue t new j (value (done + j)))
    → (length (put_mid (done * size) ((done + count) * size - done * size) out new) ≡ length out)
    × ((k : ℕ) → k < done + count → HasValue t (put_mid (done * size) ((done + count) * size - done * size) out new) k (value k))
values_more t out new done count all size value own within whole same before after = (length-put_mid a (e - a) out new part (let far = fits.0 in omega (arith, order)), each)
  where
    a : ℕ
    a = done * size

    e : ℕ
    e = (done + count) * size

    fits : (e ≤ length out) × (length (between a e out) ≡ count * size_of t)
    fits = part_length t out done count all size own within whole

    order : a ≤ e
    order = mul-le-mul_right size (let less : done ≤ done + count = omega arith in less)

    part : length new ≡ e - a
    part = same ∙ length-between out a e fits.0

    from : a ≡ done * size_of t
    from = ap (λ s. done * s) own

    inside : a ≤ length out
    inside = let far = fits.0 in omega (arith, order)

    each : (k : ℕ) → k < done + count → HasValue t (put_mid a (e - a) out new) k (value k)
    each k b = ⊎_elim
        (λ less.
        let last : suc k * size_of t ≤ done * size_of t = mul-le-mul_right (size_of t) (let l : suc k ≤ done = omega arith in l) in
        has_value_same t (put_mid a (e - a) out new) out k k (value k) (bytes_below t a (e - a) out new k (omega (arith, from, last)) inside) (before k less))
        (λ more.
        let j = k - done in
        let sum : done + j ≡ k = omega arith in
        let at : k * size_of t ≡ a + j * size_of t = ap (λ q. q * size_of t) (sym sum) ∙ omega (arith, from) in
        let last : suc j * size_of t ≤ count * size_of t = mul-le-mul_right (size_of t) (let l : suc j ≤ count = omega arith in l) in
        let long = fits.1 in
        let room : j * size_of t + size_of t ≤ length new = omega (arith, same, long, last) in
        let P : ℕ → Type 0 = λ q. HasValue t new j (value q) in
        has_value_same t (put_mid a (e - a) out new) new k j (value k) (bytes_inside t a (e - a) out new k j at room inside) (subst P sum (after j (omega arith))))
        (cases_lt k done)

-- the same of places from `from` on
pub values_from : (t : Dtype) (out new : List ℕ) (from done count all size : ℕ) (value : ℕ → Option ℤ) → size ≡ size_of t → done + count ≤ all → length out ≡ all * size_of t
    → length new ≡ length (between (done * size) ((done + count) * size) out) → ((k : ℕ) → k < done → HasValue t out k (value (from + k))) → ((j : ℕ) → j < count → HasValue t new j (value (from + done + j)))
    → (length (put_mid (done * size) ((done + count) * size - done * size) out new) ≡ length out)
    × ((k : ℕ) → k < done + count → HasValue t (put_mid (done * size) ((done + count) * size - done * size) out new) k (value (from + k)))
values_from t out new from done count all size value own within whole same before after =
    values_more t out new done count all size (λ k. value (from + k)) own within whole same before
    (λ j b.
    let P : ℕ → Type 0 = λ q. HasValue t new j (value q) in
    let sum : from + done + j ≡ from + (done + j) = omega arith in
    subst P sum (after j b))

-- a number of the type that a conversion to the type writes
pub copied_value : (t : Dtype) (bytes : List ℕ) (k : ℕ) (x y : ℤ) → InRange t y → x ≡ y → bytes_at t bytes k ≡ element_bytes Little t (wrapped t x) → HasValue t bytes k (Some y)
copied_value t bytes k x y range e is = (range, is ∙ ap (λ x. element_bytes Little t (wrapped t x)) e ∙ ap (element_bytes Little t) (wrapped_in_range t y range))
