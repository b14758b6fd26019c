-- What is known where a way of a piece is asked for, and of each kind of view.
use Rattle.std.proofs.Common.{◌≡◌, ℕ, ◌+◌, ◌^◌, ◌<◌, ◌≤◌, List, [], All, length, get_or, ap, ◌∙◌, sym, subst, arith}
use Rattle.std.specs.Prelude.{remove}
use Rattle.std.proofs.lemmas.List.{length-set}
use Rattle.std.proofs.lemmas.List.Edits.{length-remove}
use Rattle.cu_shape.specs.Index.{IsInside}
use Rattle.cu_shape.proofs.Products.{size_within}
use Rattle.cu_grid.specs.Counts.{IsRegion}
use Rattle.cu_origin.specs.Fits.{FitsConcat, FitsStack, FitsPull}
use Rattle.cu_origin.specs.declared.pull.Pull.{Pull}
use Rattle.cu_view_box.specs.Piece.{count_along}
use Rattle.cu_view_box.specs.Way.{read_by}
use Rattle.cu_view_box.specs.declared.way.Way.{Way}
use Rattle.cu_view.specs.Boxes.{first_on, source_of, index_read}
use Rattle.cu_view.specs.Pieces.{pieces_of, number_at}
use Rattle.cu_view.specs.View.{IsView, HasFewElements}
use Rattle.cu_view.proofs.Ranges.{ends_of}

-- what `way_on` requires
pub record IsAsked (pull : Pull) (sources : List (List ℕ)) (shape lo hi : List ℕ) (number axis : ℕ) : Type 0 where
  pub fits : FitsPull pull sources shape
  pub source_sizes : All HasFewElements sources
  pub result_size : HasFewElements shape
  pub below : number < pieces_of pull sources shape
  pub region : IsRegion shape lo hi
  pub first : (d : ℕ) → d < length shape → get_or lo d 0 ≡ first_on pull sources shape number d
  pub in_source : axis < length (get_or sources (source_of pull number) [])

pub asked_as : (pull q : Pull) (sources : List (List ℕ)) (shape lo hi : List ℕ) (number axis : ℕ) → pull ≡ q → IsAsked pull sources shape lo hi number axis → IsAsked q sources shape lo hi number axis
asked_as pull q sources shape lo hi number axis e a = subst (λ (p : Pull). IsAsked p sources shape lo hi number axis) e a

pub ask_as : (pull q : Pull) (sources : List (List ℕ)) (shape lo hi : List ℕ) (number axis : ℕ) → pull ≡ q → IsView pull sources shape → number < pieces_of pull sources shape → IsRegion shape lo hi
    → ((d : ℕ) → d < length shape → get_or lo d 0 ≡ first_on pull sources shape number d) → axis < length (get_or sources (source_of pull number) []) → IsAsked q sources shape lo hi number axis
ask_as pull q sources shape lo hi number axis e v b r f l =
    asked_as pull q sources shape lo hi number axis e (record { fits = v.fits; source_sizes = v.source_sizes; result_size = v.result_size; below = b; region = r; first = f; in_source = l })

-- what it ensures
abbrev pub ReadsAxis : Pull → List (List ℕ) → List ℕ → ℕ → List ℕ → ℕ → Way → Type 0
ReadsAxis pull sources shape number lo axis way = (idx : List ℕ) → IsInside shape idx → number_at pull sources shape idx ≡ number
    → read_by way (count_along lo idx way) ≡ get_or (index_read pull sources shape idx) axis 0

pub reads_back : (pull q : Pull) (sources : List (List ℕ)) (shape : List ℕ) (number : ℕ) (lo : List ℕ) (axis : ℕ) (way : Way) → pull ≡ q → ReadsAxis q sources shape number lo axis way → ReadsAxis pull sources shape number lo axis way
reads_back pull q sources shape number lo axis way e r = subst (λ (p : Pull). ReadsAxis p sources shape number lo axis way) (sym e) r

-- the size of an axis of an array of a plan
pub size_small : (shape : List ℕ) (d : ℕ) → HasFewElements shape → d < length shape → get_or shape d 0 ≤ 2 ^ 56
size_small shape d c l = let b = size_within shape d l in omega arith

pub source_small : (sources : List (List ℕ)) (d : ℕ) → All HasFewElements sources → 0 < length sources → d < length (get_or sources 0 []) → get_or (get_or sources 0 []) d 0 ≤ 2 ^ 56
source_small sources d c p l = size_small (get_or sources 0 []) d (c 0 [] p) l

pub lo_length : (shape lo hi : List ℕ) → IsRegion shape lo hi → length lo ≡ length shape
lo_length shape lo hi r = (ends_of shape lo hi r).lo_rank

pub hi_within : (shape lo hi : List ℕ) → IsRegion shape lo hi → (a : ℕ) → a < length shape → get_or hi a 0 ≤ get_or shape a 0
hi_within shape lo hi r a l = ((ends_of shape lo hi r).at a l).1

-- sources of a concatenation have the result's rank
pub concat_rank : (join : ℕ) (sources : List (List ℕ)) (shape : List ℕ) (number : ℕ) → FitsConcat join sources shape → number < length sources → length (get_or sources number []) ≡ length shape
concat_rank join sources shape number f l =
    sym (length-set (get_or sources number []) join 0) ∙ ap (λ (xs : List ℕ). length xs) (f.off_axis number [] l) ∙ length-set shape join 0

pub stack_rank : (new : ℕ) (sources : List (List ℕ)) (shape : List ℕ) (number : ℕ) → FitsStack new sources shape → number < length sources → length (get_or sources number []) + 1 ≡ length shape
stack_rank new sources shape number f l =
    let e : length (get_or sources number []) ≡ length (remove shape new) = ap (λ (xs : List ℕ). length xs) (f.off_axis number [] l) in
    let m = length-remove shape new f.below in
    omega arith
