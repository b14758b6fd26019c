-- Elements that are written at the places of a line, one after another.
use Rattle.std.proofs.Common.{◌≡◌, ◌≢◌, ℕ, ◌+◌, ◌*◌, ◌<◌, ◌≤◌, List, ◌++◌, length, take, drop, refl, sym, ap, ◌∙◌, arith, length-append, length-drop, below_more, ℤ}
use Rattle.std.proofs.lemmas.List.{length-take}
use Rattle.cu_num.specs.Dtype.{size_of}
use Rattle.cu_num.specs.Element.{bytes_at, element_at, element_bytes, low_bytes}
use Rattle.cu_num.specs.Wrap.{wrapped, residue}
use Rattle.cu_num.specs.declared.types.Dtype.{Dtype}
use Rattle.cu_num.specs.declared.layout.Endian.TheVariants.{Little}
use Rattle.cu_num.proofs.ElementBytes.{written_at, bytes_at-written_at_same, bytes_at-written_at_other, length-element_bytes, element_at_own, element_at-element_bytes}
use Rattle.cu_num.proofs.Wrapped.{wrapped-wrapped}
use Rattle.cu_view_box.specs.Block.{AreSpelled}
use Rattle.cu_view_box.specs.Line.{on_line, FitsLine, IsOneEach, AreOthersKept}
use Rattle.cu_view_box.specs.declared.lines.Line.{Line}

pub length_written : (at count : ℕ) (bytes own : List ℕ) → length own ≡ count → at + count ≤ length bytes → length (take at bytes ++ own ++ drop (at + count) bytes) ≡ length bytes
length_written at count bytes own long fits = simp (length-append, length-take, length-drop) (omega arith)

-- the places of a line up to number `done` have these values, and the other elements are as before
pub record IsLined (line : Line) (value : ℕ → List ℕ) (done : ℕ) (old new : List ℕ) : Type 0 where
  pub same_length : length new ≡ length old
  pub values : (j : ℕ) → j < done → bytes_at line.dtype new (on_line line j) ≡ value j
  pub others : AreOthersKept line done old new

pub lined_none : (line : Line) (value : ℕ → List ℕ) (old : List ℕ) → IsLined line value 0 old old
lined_none line value old = record { same_length = refl; values = λ j b. absurd (omega arith); others = λ q off. refl }

pub lined_more : (line : Line) (value : ℕ → List ℕ) (done count : ℕ) (old now new own : List ℕ) → IsOneEach line count → done < count
    → on_line line done * size_of line.dtype + size_of line.dtype ≤ length old → length own ≡ size_of line.dtype → own ≡ value done
    → new ≡ written_at line.dtype now (on_line line done) own → IsLined line value done old now → IsLined line value (done + 1) old new
lined_more line value done count old now new own one below fits long is wrote was =
    let room : on_line line done * size_of line.dtype + size_of line.dtype ≤ length now = rw was.same_length fits in
    let apart : (q : ℕ) → q ≢ on_line line done → bytes_at line.dtype new q ≡ bytes_at line.dtype now q =
    λ q off. ap (λ all. bytes_at line.dtype all q) wrote ∙ bytes_at-written_at_other line.dtype now own (on_line line done) q off long room in
    record {
      same_length = ap length wrote ∙ (length_written (on_line line done * size_of line.dtype) (size_of line.dtype) now own long room ∙ was.same_length);
      values = below_more (λ j. bytes_at line.dtype new (on_line line j) ≡ value j) done
          (λ j b. apart (on_line line j) (λ e. (let same : j ≡ done = one j done (omega arith) below e in omega arith)) ∙ was.values j b)
          (ap (λ all. bytes_at line.dtype all (on_line line done)) wrote ∙ (bytes_at-written_at_same line.dtype now own (on_line line done) long room ∙ is));
      others = λ q off. apart q (λ e. off done (omega arith) (sym e)) ∙ was.others q (λ j b. off j (omega arith));
    }

-- an element that is spelled as its type has it is the bytes of its number
pub spelled_own : (t : Dtype) (bytes : List ℕ) (p : ℕ) → AreSpelled t bytes → p * size_of t + size_of t ≤ length bytes
    → bytes_at t bytes p ≡ element_bytes Little t (element_at Little t bytes p)
unfolding element_bytes
spelled_own t bytes p spelled fits =
    let (x, e) = spelled p fits in
    let number : element_at Little t bytes p ≡ wrapped t x = element_at_own Little t bytes p ∙ ap (λ own. element_at Little t own 0) e ∙ element_at-element_bytes Little t x in
    e ∙ ap (λ y. low_bytes (size_of t) (residue (8 * size_of t) y)) (sym (wrapped-wrapped t x) ∙ ap (wrapped t) (sym number))

-- ---- one element more
pub lined_converted : (source target : Line) (count done at : ℕ) (number : ℤ) (bytes old now new : List ℕ)
    → FitsLine target count old → IsOneEach target count → done < count
    → at ≡ on_line target done → number ≡ element_at Little source.dtype bytes (on_line source done)
    → new ≡ take (at * size_of target.dtype) now ++ element_bytes Little target.dtype number ++ drop (at * size_of target.dtype + size_of target.dtype) now
    → IsLined target (λ j. element_bytes Little target.dtype (element_at Little source.dtype bytes (on_line source j))) done old now
    → IsLined target (λ j. element_bytes Little target.dtype (element_at Little source.dtype bytes (on_line source j))) (done + 1) old new
lined_converted source target count done at number bytes old now new there one below ea en wrote was =
    lined_more target (λ j. element_bytes Little target.dtype (element_at Little source.dtype bytes (on_line source j))) done count old now new
    (element_bytes Little target.dtype number) one below (there done below).1 (length-element_bytes Little target.dtype number)
    (ap (element_bytes Little target.dtype) en) (wrote ∙ rw ea refl) was
