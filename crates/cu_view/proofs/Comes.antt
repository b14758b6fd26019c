-- Where the elements of a piece come from.
use Rattle.std.proofs.Common.{◌≡◌, ℕ, ◌<◌, ◌≤◌, List, [], length, get_or, refl, ap, ◌∙◌, sym, subst, arith}
use Rattle.std.proofs.lemmas.List.{ext_get_or, length-map, get_or-map}
use Rattle.cu_shape.specs.Index.{IsInside}
use Rattle.cu_shape.proofs.Places.{inside-length}
use Rattle.cu_origin.specs.Fits.{FitsPull, FitsConcat}
use Rattle.cu_origin.specs.Pull.{concat_from, origin_of, IsInSources}
use Rattle.cu_origin.specs.declared.provenance.Provenance.{Provenance}
use Rattle.cu_origin.specs.declared.provenance.Provenance.TheVariants.{From}
use Rattle.cu_origin.specs.declared.pull.Pull.{Pull}
use Rattle.cu_origin.specs.declared.pull.Pull.TheVariants.{Reshape, Concat, Stack, Triangle, Full, Arange, Eye}
use Rattle.cu_origin.proofs.AxesInside.{inside_at}
use Rattle.cu_origin.proofs.OriginsInside.{inside_sources}
use Rattle.cu_view_box.specs.Piece.{read_by_ways, count_along}
use Rattle.cu_view_box.specs.Way.{read_by}
use Rattle.cu_view_box.specs.declared.way.Way.{Way}
use Rattle.cu_view_box.specs.declared.way.Way.TheVariants.{Fixed}
use Rattle.cu_view.specs.Boxes.{source_of, index_of_source, index_read}
use Rattle.cu_view.specs.Pieces.{source_number, pieces_of, number_at, IsShown}
use Rattle.cu_view.proofs.Asked.{ReadsAxis}
use Rattle.cu_view.proofs.Concats.{concat_at, concat_has}
use Rattle.cu_view.proofs.Fitting.{one_source}

from_parts : (p : Provenance) (s n : ℕ) (i : List ℕ) → p ≡ From s i → source_number p ≡ n → p ≡ From n (index_of_source p)
from_parts p s n i e m = subst (λ (q : Provenance). source_number q ≡ n → q ≡ From n (index_of_source q)) (sym e) (λ k. ap (λ (x : ℕ). From x i) k) m

concat_comes : (join : ℕ) (sources : List (List ℕ)) (shape idx : List ℕ) (number : ℕ) → FitsConcat join sources shape → IsInside shape idx → source_number (concat_from join 0 sources idx) ≡ number → concat_from join 0 sources idx ≡ From number (index_of_source (concat_from join 0 sources idx))
concat_comes join sources shape idx number f h e =
    let b = inside_at shape idx join h f.below in
    let l = f.below in
    let n = inside-length shape idx h in
    let t = f.along in
    let w = concat_has join (get_or idx join 0) sources (omega arith) in
    from_parts (concat_from join 0 sources idx) _ number _ (concat_at join 0 w.0 sources idx (omega arith) w.1 w.2 w.3) e

-- the element at an index of a piece comes from the index that is read, in the piece's source
pub comes_from : (pull : Pull) (sources : List (List ℕ)) (shape idx : List ℕ) (number : ℕ) → FitsPull pull sources shape → IsInside shape idx → number < pieces_of pull sources shape → number_at pull sources shape idx ≡ number → IsShown pull idx
    → origin_of pull sources shape idx ≡ From (source_of pull number) (index_read pull sources shape idx)
comes_from Reshape sources shape idx number f h b e s = absurd (omega arith)
comes_from (Concat axis) sources shape idx number f h b e s = concat_comes axis sources shape idx number f h e
comes_from (Stack axis) sources shape idx number f h b e s = ap (λ (k : ℕ). From k (index_of_source (origin_of (Stack axis) sources shape idx))) e
comes_from (Triangle lower k) sources shape idx number f h b e s = rw s refl
comes_from (Full value) sources shape idx number f h b e s = absurd (omega arith)
comes_from (Arange start step) sources shape idx number f h b e s = absurd (omega arith)
comes_from (Eye k) sources shape idx number f h b e s = absurd (omega arith)
comes_from pull sources shape idx number f h b e s = refl

from_inside : (pull : Pull) (sources : List (List ℕ)) (shape idx : List ℕ) (s : ℕ) (i : List ℕ) → FitsPull pull sources shape → IsInside shape idx → origin_of pull sources shape idx ≡ From s i → IsInside (get_or sources s []) i
from_inside pull sources shape idx s i f h e =
    let w = subst (λ (p : Provenance). IsInSources sources p) e (inside_sources pull sources shape idx f h) in
    w.1

-- what a piece reads lies inside its source, also where a triangle has 0
pub read_inside : (pull : Pull) (sources : List (List ℕ)) (shape idx : List ℕ) (number : ℕ) → FitsPull pull sources shape → IsInside shape idx → number < pieces_of pull sources shape → number_at pull sources shape idx ≡ number
    → IsInside (get_or sources (source_of pull number) []) (index_read pull sources shape idx)
read_inside Reshape sources shape idx number f h b e = absurd (omega arith)
read_inside (Triangle lower k) sources shape idx number f h b e =
    let g = one_source (λ (s : List ℕ). (s ≡ shape) × (2 ≤ length shape)) sources f in
    subst (λ (x : List ℕ). IsInside x idx) (sym g.holds.0) h
read_inside (Full value) sources shape idx number f h b e = absurd (omega arith)
read_inside (Arange start step) sources shape idx number f h b e = absurd (omega arith)
read_inside (Eye k) sources shape idx number f h b e = absurd (omega arith)
read_inside pull sources shape idx number f h b e = from_inside pull sources shape idx _ _ f h (comes_from pull sources shape idx number f h b e tt)

-- the ways together read the index that each reads an axis of
pub ways_read : (pull : Pull) (sources : List (List ℕ)) (shape source lo idx : List ℕ) (number : ℕ) (ways : List Way) → length ways ≡ length source → IsInside shape idx → number_at pull sources shape idx ≡ number
    → ((k : ℕ) → k < length ways → ReadsAxis pull sources shape number lo k (get_or ways k (Fixed 0))) → IsInside source (index_read pull sources shape idx)
    → read_by_ways lo ways idx ≡ index_read pull sources shape idx
ways_read pull sources shape source lo idx number ways l h e r i =
    let n = inside-length source (index_read pull sources shape idx) i in
    let m = length-map ways (λ (way : Way). read_by way (count_along lo idx way)) in
    ext_get_or 0 (read_by_ways lo ways idx) (index_read pull sources shape idx) (omega arith)
    (λ k b. get_or-map (λ (way : Way). read_by way (count_along lo idx way)) ways k (Fixed 0) 0 (omega arith) ∙ r k (omega arith) idx h e)

pub from_same : (a b : ℕ) (x y : List ℕ) → a ≡ b → x ≡ y → From a x ≡ From b y
from_same a b x y e f = cc
