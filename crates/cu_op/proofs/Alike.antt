-- What depends on some elements alone is the same where these are.
use Rattle.cu_op.specs.Kernel.{kernel_value, last_of, instruction_value, results_from}
use Rattle.cu_op.specs.Elements.{Elements}
use Rattle.cu_op.specs.Kind.Pull.{pulled}
use Rattle.cu_op.specs.declared.kernel.Instr.{Instr}
use Rattle.cu_op.specs.declared.kernel.Instr.TheVariants.{Load}
use Rattle.cu_origin.specs.declared.provenance.Provenance.{Provenance}
use Rattle.cu_origin.specs.declared.provenance.Provenance.TheVariants.{From, Const as Number}
use Rattle.std.proofs.Common.{◌≡◌, ℕ, ℤ, suc, List, [], ◌∷◌, ◌++◌, map, Contains, Option, None, Some, refl, ap, ◌∙◌, arith}
use Rattle.std.specs.List.{slice_get}
use Rattle.std.specs.Option.{option_and_then}

-- a kernel depends on what it loads alone
same_instruction : (i : Instr) (load other : ℕ → Option ℤ) (results : List ℤ) → ((k : ℕ) → load k ≡ other k) → instruction_value i load results ≡ instruction_value i other results
same_instruction (Load k) load other results h = h k
same_instruction i load other results h = refl

pub same_then : {A B : Type 0} (o q : Option A) (f g : A → Option B) → o ≡ q → ((x : A) → f x ≡ g x) → option_and_then f o ≡ option_and_then g q
same_then None None f g e h = refl
same_then (Some x) (Some y) f g e h = let same : x ≡ y = cc in h x ∙ ap g same
same_then None (Some y) f g e h = cc
same_then (Some x) None f g e h = cc

same_results : (code : List Instr) (load other : ℕ → Option ℤ) (results : List ℤ) → ((k : ℕ) → load k ≡ other k) → results_from code load results ≡ results_from code other results
same_results [] load other results h = refl
same_results (i ∷ is) load other results h =
    same_then (instruction_value i load results) (instruction_value i other results) (λ x. results_from is load (results ++ x ∷ [])) (λ x. results_from is other (results ++ x ∷ []))
    (same_instruction i load other results h) (λ x. same_results is load other (results ++ x ∷ []) h)

pub same_kernel : (code : List Instr) (load other : ℕ → Option ℤ) → ((k : ℕ) → load k ≡ other k) → kernel_value code load ≡ kernel_value code other
same_kernel code load other h = ap (option_and_then last_of) (same_results code load other [] h)

-- what an array gives depends on the elements of that array alone
pub same_given : (o : Option ℕ) (f g : ℕ → Option ℤ) → ((a : ℕ) → o ≡ Some a → f a ≡ g a) → option_and_then f o ≡ option_and_then g o
same_given None f g h = refl
same_given (Some a) f g h = h a refl

pub same_pulled : (ins : List ℕ) (at other : Elements) (o : Provenance) → ((source a : ℕ) (i : List ℕ) → slice_get ins source ≡ Some a → o ≡ From source i → at a i ≡ other a i) → pulled ins at o ≡ pulled ins other o
same_pulled ins at other (From source i) h = same_given (slice_get ins source) (λ a. at a i) (λ a. other a i) (λ a e. h source a i e refl)
same_pulled ins at other (Number x) h = refl

-- what is made of each element of a list
pub same_mapped : {A B : Type 0} (f g : A → B) (xs : List A) → ((x : A) → Contains xs x → f x ≡ g x) → map f xs ≡ map g xs
same_mapped f g [] h = refl
same_mapped f g (x ∷ xs) h =
    let first : f x ≡ g x = h x (0, omega arith, refl) in
    let rest : map f xs ≡ map g xs = same_mapped f g xs (λ y c. h y (suc c.0, (let l = c.1 in omega arith), c.2)) in
    both (f x) (g x) (map f xs) (map g xs) first rest
  where
    both : {B : Type 0} (x y : B) (xs ys : List B) → x ≡ y → xs ≡ ys → x ∷ xs ≡ y ∷ ys
    both x y xs ys e r = cc
