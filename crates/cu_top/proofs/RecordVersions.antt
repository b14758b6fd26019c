-- Records of plans of both versions, and where texts differ.
use Rattle.std.proofs.Common.{◌≡◌, ◌≢◌, ◌∙◌, inl, inr, ℕ, ◌+◌, ◌<◌, ◌≤◌, ◌==◌, true, false, List, [], ◌∷◌, ◌++◌, Some, codes, decimal, string_bytes, get_or, length, length-append, take, ap, sym, refl, subst, arith, append_assoc}
use Rattle.std.specs.List.{slice_get}
use Rattle.std.proofs.Math.Seq.{get_or-append_seam, take-append_seam}
use Rattle.std.proofs.lemmas.Bool.{cases_lt}
use Rattle.std.proofs.lemmas.Fmt.{decimal_digit}
use Rattle.std.proofs.lemmas.List.{get_or-take, length-take}
use Rattle.std.proofs.lemmas.Option.{slice_get-get_or, slice_get_past}
use Rattle.cu_command.specs.declared.job.Job.{Job}
use Rattle.cu_lower.specs.declared.options.Options.{Options}
use Rattle.cu_op.proofs.Members.{bool_cases}
use Rattle.cu_top.specs.Held.{TextsDifferAt}
use Rattle.cu_top.specs.Record.{before_version, inputs_text, record_text, record_version}

-- ---- the byte of the version

regroup : (p v a b c d e f g h i : List ℕ) → p ++ v ++ a ++ b ++ c ++ d ++ e ++ f ++ g ++ h ++ i ≡ p ++ (v ++ (a ++ b ++ c ++ d ++ e ++ f ++ g ++ h ++ i))
regroup p v a b c d e f g h i = simp append_assoc

seam : (p r : List ℕ) (x : ℕ) → slice_get (p ++ x ∷ r) (length p) ≡ Some x
seam p r x =
    let long = length-append p (x ∷ r) in
    slice_get-get_or (p ++ x ∷ r) (length p) 0 (omega (arith, long)) ∙ ap Some (get_or-append_seam p x r 0)

differ : (p r s : List ℕ) (x y : ℕ) → x ≢ y → TextsDifferAt (p ++ x ∷ r) (p ++ y ∷ s) (length p)
differ p r s x y apart =
    (take-append_seam p (x ∷ r) ∙ sym (take-append_seam p (y ∷ s)), λ same. apart (let a = seam p r x in let b = seam p s y in cc))

small : (o : Options) → record_version o < 10
small o = elim (bool_cases (o.fusion == 2)) [ inl t ↦ rw t (omega arith) | inr f ↦ rw f (omega arith) ]

-- what stands behind the version
abbrev behind : Options → Job → List ℕ
behind o job = codes ",\"expr\":" ++ string_bytes job.compact ++ codes ",\"inputs\":{" ++ inputs_text job.inputs.items ++ codes "},\"reserved\":"
    ++ decimal o.reserved ++ codes ",\"split_every\":" ++ decimal o.split_every ++ codes "}"

parts : (o : Options) (job : Job) → record_text o job ≡ before_version o ++ (48 + record_version o) ∷ behind o job
unfolding record_text
parts o job =
    regroup (before_version o) (decimal (record_version o)) (codes ",\"expr\":") (string_bytes job.compact) (codes ",\"inputs\":{") (inputs_text job.inputs.items) (codes "},\"reserved\":")
    (decimal o.reserved) (codes ",\"split_every\":") (decimal o.split_every) (codes "}")
    ∙ ap (λ (v : List ℕ). before_version o ++ (v ++ behind o job)) (decimal_digit (record_version o) (small o))

pub version_differs : (o other : Options) (a b : Job) → o.allowed ≡ other.allowed → record_version o ≢ record_version other
    → TextsDifferAt (record_text o a) (record_text other b) (length (before_version o))
version_differs o other a b same apart =
    let p = before_version o in
    let here = parts o a in
    let there : record_text other b ≡ p ++ (48 + record_version other) ∷ behind other b =
    parts other b ∙ ap (λ (n : ℕ). codes "{\"allowed\":" ++ decimal n ++ codes ",\"cubed\":" ++ (48 + record_version other) ∷ behind other b) (sym same) in
    subst (λ (t : List ℕ). TextsDifferAt t (record_text other b) (length p)) (sym here)
    (subst (λ (t : List ℕ). TextsDifferAt (p ++ (48 + record_version o) ∷ behind o a) t (length p)) (sym there)
    (differ p (behind o a) (behind other b) (48 + record_version o) (48 + record_version other) (λ e. apart (omega (arith, e)))))

-- ---- texts differ first at one byte

before : (a : List ℕ) (i j : ℕ) → i < j → slice_get (take j a) i ≡ slice_get a i
before a i j below =
    let long = length-take j a in
    elim (cases_lt i (length a)) [
      | inl within ↦
          slice_get-get_or (take j a) i 0 (omega (arith, long, within, below)) ∙ ap Some (get_or-take j a i 0 below) ∙ sym (slice_get-get_or a i 0 within)
      | inr past ↦ slice_get_past (take j a) i (omega (arith, long, past)) ∙ sym (slice_get_past a i past)
    ]

not_before : (a b : List ℕ) (i j : ℕ) → TextsDifferAt a b i → TextsDifferAt a b j → j ≤ i
not_before a b i j at other =
    elim (cases_lt i j) [
      | inl less ↦ absurd (at.1 (sym (before a i j less) ∙ ap (λ (t : List ℕ). slice_get t i) other.0 ∙ before b i j less))
      | inr least ↦ least
    ]

pub differ_once : (a b : List ℕ) (place other : ℕ) → TextsDifferAt a b place → TextsDifferAt a b other → place ≡ other
differ_once a b place other at too =
    let one = not_before a b place other at too in
    let two = not_before a b other place too at in
    omega (arith, one, two)
