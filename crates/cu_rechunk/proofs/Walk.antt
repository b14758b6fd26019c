-- Consolidation by a walk from the last axis to the first, with the product of the sizes at hand.
use Rattle.std.proofs.Common.{◌≡◌, ℕ, ◌+◌, ◌<◌, ◌≤◌, ◌*◌, ◌/◌, List, ◌∷◌, length, get_or, take, drop, set, All, refl, ap, sym, ◌∙◌, subst, arith}
use Rattle.std.proofs.Math.Nat.{div-eq_of_eq-mul_left}
use Rattle.std.proofs.lemmas.List.{drop_more, drop_all, take_all, drop-set, length-set}
use Rattle.std.proofs.lemmas.List.Elements.{All-cons, All-nil}
use Rattle.cu_shape.specs.Index.{product}
use Rattle.cu_shape.proofs.Places.{mul_positive}
use Rattle.cu_rechunk.specs.Stages.{grown, with_axis, consolidated}
use Rattle.cu_rechunk.proofs.Sizes.{product_positive, product_take_more, product_take_positive}
use Rattle.cu_rechunk.proofs.Grown.{grown_kept, share, share_fits}

-- what the walk keeps before an axis, whose later axes are done
pub record IsWalk (room : ℕ) (shape chunk limit sizes : List ℕ) (axis elements : ℕ) : Type 0 where
  pub ranks : length sizes ≡ length chunk
  pub done : drop axis sizes ≡ consolidated room (product (take axis chunk)) (drop axis shape) (drop axis chunk) (drop axis limit)
  pub counted : elements ≡ product (take axis chunk) * product (drop axis sizes)
  pub fits : elements ≤ room
  pub positive : All (λ c. 0 < c) (drop axis sizes)

sizes_step : (room lead : ℕ) (shape chunk limit rest : List ℕ) (k x : ℕ) → k < length shape → k < length chunk → k < length limit
    → rest ≡ consolidated room (lead * get_or chunk k 0) (drop (k + 1) shape) (drop (k + 1) chunk) (drop (k + 1) limit)
    → x ≡ grown (room / (lead * product rest)) (get_or shape k 0) (get_or chunk k 0) (get_or limit k 0)
    → x ∷ rest ≡ consolidated room lead (drop k shape) (drop k chunk) (drop k limit)
sizes_step room lead shape chunk limit rest k x p q r e f =
    rw (drop_more shape k 0 p, drop_more chunk k 0 q, drop_more limit k 0 r)
    (ap (λ y. y ∷ rest) f ∙ ap (λ ys. with_axis room lead (get_or shape k 0) (get_or chunk k 0) (get_or limit k 0) ys) e)

-- at the start no axis is done, and at the end all are
pub walk_none : (room : ℕ) (shape chunk limit : List ℕ) (axis elements : ℕ) → length shape ≡ length chunk → length limit ≡ length chunk → axis ≡ length chunk → elements ≡ product chunk → elements ≤ room
    → IsWalk room shape chunk limit chunk axis elements
walk_none room shape chunk limit axis elements es el h e fits =
    let c = drop_all axis chunk (omega arith) in
    let s = drop_all axis shape (omega arith) in
    let t = take_all axis chunk (omega arith) in
    record {
      ranks = refl;
      done = rw (c, s) refl;
      counted = rw (c, t) (omega arith);
      fits = fits;
      positive = subst (All (λ c. 0 < c)) (sym c) (All-nil (λ c. 0 < c));
    }

pub walk_all : (room : ℕ) (shape chunk limit sizes : List ℕ) (axis elements : ℕ) → axis ≡ 0 → IsWalk room shape chunk limit sizes axis elements → sizes ≡ consolidated room 1 shape chunk limit
walk_all room shape chunk limit sizes axis elements e w = let v = rw e at w.done in v

pub walk_positive : (room : ℕ) (shape chunk limit sizes : List ℕ) (axis elements : ℕ) → axis ≡ 0 → IsWalk room shape chunk limit sizes axis elements → All (λ c. 0 < c) sizes
walk_positive room shape chunk limit sizes axis elements e w = let v = rw e at w.positive in v

-- the elements on the other axes
pub record IsOthers (lead rest size room others : ℕ) : Type 0 where
  pub value : others ≡ lead * rest
  pub some : 0 < others
  pub share : size ≤ room / others

pub others_of : (lead rest size room elements : ℕ) → 0 < lead → 0 < rest → 0 < size → elements ≡ lead * size * rest → elements ≤ room → IsOthers lead rest size room (elements / size)
others_of lead rest size room elements hl hr hs e fits =
    let turned : elements ≡ lead * rest * size = omega arith in
    let o : elements / size ≡ lead * rest = div-eq_of_eq-mul_left hs turned in
    let some : 0 < lead * rest = mul_positive lead rest hl hr in
    rw o (record { value = refl; some = some; share = share room (lead * rest) size some (omega arith) })

-- before the axis k it is known of the axes from k + 1 on
pub at_axis : (room : ℕ) (shape chunk limit sizes : List ℕ) (k elements size : ℕ) → All (λ c. 0 < c) chunk → k < length chunk → IsWalk room shape chunk limit sizes (k + 1) elements
    → size ≡ get_or chunk k 0 → IsOthers (product (take k chunk)) (product (drop (k + 1) sizes)) size room (elements / size)
at_axis room shape chunk limit sizes k elements size p h w e =
    let t = product_take_more chunk k h in
    let s : 0 < get_or chunk k 0 = p k 0 h in
    let here : elements ≡ product (take k chunk) * size * product (drop (k + 1) sizes) = w.counted ∙ ap (λ n. n * product (drop (k + 1) sizes)) (t ∙ ap (λ n. product (take k chunk) * n) (sym e)) in
    others_of (product (take k chunk)) (product (drop (k + 1) sizes)) size room elements (product_take_positive chunk k p) (product_positive (drop (k + 1) sizes) w.positive) (omega arith) here w.fits

pub walk_more : (room : ℕ) (shape chunk limit sizes : List ℕ) (k elements size x : ℕ) → All (λ c. 0 < c) chunk → length shape ≡ length chunk → length limit ≡ length chunk → k < length chunk
    → IsWalk room shape chunk limit sizes (k + 1) elements → size ≡ get_or chunk k 0 → x ≡ grown (room / (elements / size)) (get_or shape k 0) size (get_or limit k 0)
    → (elements / size * x ≤ room) × IsWalk room shape chunk limit (set sizes k x) k (elements / size * x)
walk_more room shape chunk limit sizes k elements size x p es el h w e f =
    let o = at_axis room shape chunk limit sizes k elements size p h w e in
    let s : 0 < get_or chunk k 0 = p k 0 h in
    let ranks = w.ranks in
    let g = grown_kept (room / (elements / size)) (get_or shape k 0) size (get_or limit k 0) (omega arith) o.share in
    let fits_x : x ≤ room / (elements / size) = rw f g.fits in
    let some_x : 0 < x = rw f g.positive in
    let fits : elements / size * x ≤ room = share_fits room (elements / size) x fits_x in
    let front : drop k (set sizes k x) ≡ x ∷ drop (k + 1) sizes = drop-set sizes k x (omega arith) in
    let x_is : x ≡ grown (room / (product (take k chunk) * product (drop (k + 1) sizes))) (get_or shape k 0) (get_or chunk k 0) (get_or limit k 0) =
    f ∙ (ap (λ n. grown (room / n) (get_or shape k 0) size (get_or limit k 0)) o.value ∙ ap (λ n. grown (room / (product (take k chunk) * product (drop (k + 1) sizes))) (get_or shape k 0) n (get_or limit k 0)) e) in
    let rest : drop (k + 1) sizes ≡ consolidated room (product (take k chunk) * get_or chunk k 0) (drop (k + 1) shape) (drop (k + 1) chunk) (drop (k + 1) limit) =
    w.done ∙ ap (λ n. consolidated room n (drop (k + 1) shape) (drop (k + 1) chunk) (drop (k + 1) limit)) (product_take_more chunk k h) in (
      fits,
      record {
        ranks = length-set sizes k x ∙ w.ranks;
        done = front ∙ sizes_step room (product (take k chunk)) shape chunk limit (drop (k + 1) sizes) k x (omega arith) h (omega arith) rest x_is;
        counted = ap (λ n. n * x) o.value ∙ (turned (product (take k chunk)) (product (drop (k + 1) sizes)) x ∙ ap (λ ys. product (take k chunk) * product ys) (sym front));
        fits = fits;
        positive = subst (All (λ c. 0 < c)) (sym front) (All-cons (λ c. 0 < c) x (drop (k + 1) sizes) some_x w.positive);
      },
    )
  where
    turned : (a r x : ℕ) → a * r * x ≡ a * (x * r)
    turned a r x = omega arith
