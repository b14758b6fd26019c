-- A block of places, between two steps of a kernel.
use Rattle.std.proofs.Common.{◌≡◌, ℕ, zero, suc, ◌+◌, ◌-◌, ◌*◌, ◌<◌, ◌≤◌, List, [], ◌∷◌, ◌++◌, length, drop, get_or, Option, Some, refl, ap, sym, ◌∙◌, subst, arith, ℤ, ⊎_elim, ◌⊎◌, inl, inr, length-append, length-drop}
use Rattle.std.specs.List.{slice_get, AllZip}
use Rattle.std.specs.Option.{option_and_then}
use Rattle.std.proofs.lemmas.Option.{same_Some, slice_get_within}
use Rattle.std.proofs.lemmas.List.{drop_all, get_or_append_left, get_or-append_right}
use Rattle.cu_num.specs.Element.{bytes_at, element_bytes}
use Rattle.cu_num.specs.Word.{word_of, IsWord}
use Rattle.cu_num.specs.declared.layout.Endian.TheVariants.{Little}
use Rattle.cu_num.specs.declared.types.Dtype.{Dtype}
use Rattle.cu_op.specs.declared.kernel.Instr.{Instr}
use Rattle.cu_op.specs.Kernel.{results_from, last_of, kernel_value}
use Rattle.cu_op.specs.KernelTypes.{Operand, Typed, GivesOperand, KernelFits}
use Rattle.cu_kern.specs.declared.lays.Lay.{Lay}
use Rattle.cu_kern.specs.Lays.{lay_types, HasValue}
use Rattle.cu_kern.specs.Steps.{loaded_by_place, IsOf, HoldsResults, StepHolds, NamesBefore}
use Rattle.cu_lane.proofs.Words.{is_word, word_range}
use Rattle.cu_kern.proofs.StepResults.{of_push, of_length, of_last, gives_names}

-- a kernel over places: the elements that each loads
pub record Block : Type 0 where
  pub code : List Instr
  pub types : List Dtype
  pub dtype : Dtype
  pub loads : ℕ → ℕ → Option ℤ
  pub count : ℕ

abbrev pub block_of : List Instr → List Lay → Dtype → List ℕ → List ℕ → ℕ → ℕ → Block
block_of code lays t dims ins from count = record { code = code; types = lay_types lays; dtype = t; loads = λ k. loaded_by_place lays ins dims (from + k); count = count }

pub length-lay_types : (lays : List Lay) → length (lay_types lays) ≡ length lays
length-lay_types [] = refl
length-lay_types (l ∷ lays) = ap suc (length-lay_types lays)

-- the results of the first steps at one place, with which the rest gives the kernel's value
pub record Lane (b : Block) (words : List ℕ) (operands : List Operand) (number k : ℕ) : Type 0 where
  pub results : List ℤ
  pub of : AllZip IsOf operands results
  pub holds : HoldsResults words k results
  pub value : kernel_value b.code (b.loads k) ≡ option_and_then last_of (results_from (drop number b.code) (b.loads k) results)

-- the first steps are done at every place
pub record Running (b : Block) (words : List ℕ) (number : ℕ) : Type 0 where
  pub operands : List Operand
  pub done : length operands ≡ number
  pub fits : KernelFits (drop number b.code) b.types operands b.dtype
  pub lanes : (k : ℕ) → k < b.count → Lane b words operands number k

pub begin : (b : Block) (words : List ℕ) → KernelFits b.code b.types [] b.dtype → Running b words 0
begin b words fits = record {
  operands = [];
  done = refl;
  fits = fits;
  lanes = λ k h. record { results = []; of = tt; holds = λ a x e. cc; value = refl };
}

-- the next step
next_gives : (b : Block) (words : List ℕ) (number : ℕ) (i : Instr) → Running b words number → drop number b.code ≡ i ∷ drop (number + 1) b.code
    → (operands : List Operand) × (r : Operand) × (length operands ≡ number) × GivesOperand i b.types operands r × KernelFits (drop (number + 1) b.code) b.types (operands ++ r ∷ []) b.dtype
    × ((k : ℕ) → k < b.count → Lane b words operands number k)
next_gives b words number i run e =
    let P : List Instr → Type 0 = λ is. KernelFits is b.types run.operands b.dtype in
    let (r, gives, rest) = subst P e run.fits in
    (run.operands, r, run.done, gives, rest, run.lanes)

pub next_names : (b : Block) (words before : List ℕ) (number lays : ℕ) (i : Instr) → Running b words number → drop number b.code ≡ i ∷ drop (number + 1) b.code → length b.types ≡ lays → length before ≡ 64 * number
    → NamesBefore i lays (length before)
next_names b words before number lays i run e n l =
    let (operands, r, done, gives, rest, lanes) = next_gives b words number i run e in
    gives_names i b.types operands r lays (length before) gives n (l ∙ ap (λ m. 64 * m) (sym done))

-- the words of earlier steps stay, and those of this step are what it leaves
pub record Stepped (old new : List ℕ) (number count : ℕ) (word : ℕ → ℕ) : Type 0 where
  pub kept : (j : ℕ) → j < 64 * number → get_or new j 0 ≡ get_or old j 0
  pub written : (k : ℕ) → k < count → get_or new (64 * number + k) 0 ≡ word k
  pub short : count ≤ 64

-- what the write of a step's words leaves
pub stepped_of : (front back out words : List ℕ) (number count : ℕ) → words ≡ front ++ back → length front ≡ 64 * number → count ≤ 64 → length out ≡ count
    → Stepped words (front ++ (out ++ drop count back)) number count (λ k. get_or out k 0)
stepped_of front back out words number count e n short m = record {
  kept = λ j b. get_or_append_left front (out ++ drop count back) 0 j (omega arith) ∙ sym (get_or_append_left front back 0 j (omega arith)) ∙ ap (λ ws. get_or ws j 0) (sym e);
  written = λ k b. get_or-append_right front (out ++ drop count back) (64 * number) (64 * number + k) 0 n (omega arith)
      ∙ ap (λ i. get_or (out ++ drop count back) i 0) (let same : 64 * number + k - 64 * number ≡ k = omega arith in same)
      ∙ get_or_append_left out (drop count back) 0 k (omega arith);
  short = short;
}

pub length-stepped : (front back out words : List ℕ) (count : ℕ) → words ≡ front ++ back → length out ≡ count → count ≤ length back → length (front ++ (out ++ drop count back)) ≡ length words
length-stepped front back out words count e n h = simp (length-append, length-drop) (let all = ap length e ∙ length-append front back in omega arith)

pub slice_get_push : (xs : List ℤ) (x y : ℤ) (a : ℕ) → slice_get (xs ++ x ∷ []) a ≡ Some y → (slice_get xs a ≡ Some y) ⊎ ((a ≡ length xs) × (x ≡ y))
slice_get_push [] x y zero e = inr (refl, same_Some x y e)
slice_get_push [] x y (suc a) e = cc
slice_get_push (z ∷ xs) x y zero e = inl e
slice_get_push (z ∷ xs) x y (suc a) e = ⊎_elim (λ h. inl h) (λ (n, h). inr (ap suc n, h)) (slice_get_push xs x y a e)

holds_push : (old new : List ℕ) (number count k : ℕ) (word : ℕ → ℕ) (results : List ℤ) (x : ℤ) → Stepped old new number count word → k < count → length results ≡ number → HoldsResults old k results → word k ≡ word_of x
    → HoldsResults new k (results ++ x ∷ [])
holds_push old new number count k word results x s h n holds is a y e =
    let short = s.short in
    ⊎_elim
    (λ at. let b = slice_get_within results a y at in s.kept (64 * a + k) (omega arith) ∙ holds a y at)
    (λ (last, same). let at : a ≡ number = last ∙ n in ap (λ m. get_or new (64 * m + k) 0) at ∙ s.written k h ∙ is ∙ ap word_of same)
    (slice_get_push results x y a e)

pub next : (b : Block) (old new before : List ℕ) (number : ℕ) (i : Instr) (word : ℕ → ℕ) → Running b old number → drop number b.code ≡ i ∷ drop (number + 1) b.code
    → ((k j : ℕ) → j < 64 * number → get_or before j 0 ≡ get_or old j 0) → Stepped old new number b.count word → ((k : ℕ) → k < b.count → StepHolds i b.types (b.loads k) before k (word k)) → Running b new (number + 1)
next b old new before number i word run e same stepped holds =
    let (operands, r, done, gives, rest, lanes) = next_gives b old number i run e in
    record {
      operands = operands ++ r ∷ [];
      done = simp length-append (omega arith);
      fits = rest;
      lanes = λ k h.
          let lane = lanes k h in
          let n : length lane.results ≡ number = sym (of_length operands lane.results lane.of) ∙ done in
          let earlier : HoldsResults before k lane.results = λ a x at. let short = stepped.short in let inside = slice_get_within lane.results a x at in same k (64 * a + k) (omega arith) ∙ lane.holds a x at in
          let (x, value, of, is) = holds k h operands r lane.results gives lane.of earlier in
          record {
            results = lane.results ++ x ∷ [];
            of = of_push operands lane.results r x lane.of of;
            holds = holds_push old new number b.count k word lane.results x stepped h n lane.holds is;
            value = lane.value ∙ ap (λ is. option_and_then last_of (results_from is (b.loads k) lane.results)) e
                ∙ ap (λ o. option_and_then last_of (option_and_then (λ x. results_from (drop (number + 1) b.code) (b.loads k) (lane.results ++ x ∷ [])) o)) value;
          };
    }

-- after the last step its words are those of the kernel's values
pub ended : (b : Block) (words : List ℕ) (number k w : ℕ) → Running b words number → length b.code ≤ number → number ≡ length b.code → k < b.count → w ≡ get_or words (64 * (number - 1) + k) 0
    → (x : ℤ) × (kernel_value b.code (b.loads k) ≡ Some x) × IsWord b.dtype w x
ended b words number k w run far n h e =
    let none : drop number b.code ≡ [] = drop_all number b.code far in
    let P : List Instr → Type 0 = λ is. KernelFits is b.types run.operands b.dtype in
    let last : last_of run.operands ≡ Some (Typed b.dtype) = subst P none run.fits in
    let lane = run.lanes k h in
    let same = of_length run.operands lane.results lane.of in
    let (x, at, range) = of_last run.operands lane.results (length run.operands - 1) b.dtype lane.of last in
    let value : kernel_value b.code (b.loads k) ≡ last_of lane.results = lane.value ∙ ap (λ is. option_and_then last_of (results_from is (b.loads k) lane.results)) none in
    let is : last_of lane.results ≡ Some x = ap (λ m. slice_get lane.results (m - 1)) (sym same) ∙ at in
    let done = run.done in
    (x, value ∙ is, is_word b.dtype w x (e ∙ ap (λ m. get_or words (64 * (m - 1) + k) 0) (sym done) ∙ lane.holds (length run.operands - 1) x at) range)

-- the bytes that are saved from that word
pub saved : (b : Block) (words out xs : List ℕ) (number k : ℕ) → Running b words number → length b.code ≤ number → number ≤ length b.code → k < b.count
    → get_or xs k 0 ≡ get_or words (64 * (length b.code - 1) + k) 0 → ((x : ℤ) → IsWord b.dtype (get_or xs k 0) x → bytes_at b.dtype out k ≡ element_bytes Little b.dtype x)
    → HasValue b.dtype out k (kernel_value b.code (b.loads k))
saved b words out xs number k run far end h at is =
    let same : number ≡ length b.code = omega arith in
    let (x, value, word) = ended b words number k (get_or xs k 0) run far same h (at ∙ ap (λ m. get_or words (64 * (m - 1) + k) 0) (sym same)) in
    let P : Option ℤ → Type 0 = HasValue b.dtype out k in
    subst P (sym value) (word_range b.dtype (get_or xs k 0) x word, is x word)

-- a kernel that fits has a step
pub code_positive : (code : List Instr) (types : List Dtype) (t : Dtype) → KernelFits code types [] t → 0 < length code
code_positive [] types t fits = cc
code_positive (i ∷ is) types t fits = omega arith
