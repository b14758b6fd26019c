-- What a hand knows of the values under a folder.
use Rattle.std.proofs.Common.{◌≡◌, ◌⊎◌, inl, inr, ℕ, true, IsTrue, ◌||◌, List, [], Option, Some, None, refl, sym, ◌∙◌, rules}
use Rattle.std.specs.Prelude.{Result, Ok, Err, OnOk}
use Rattle.std.specs.declared.io.Error.{Error}
use Rattle.cu_store.specs.Held.{Contents, Holds}
use Rattle.cu_store.specs.Share.{Lent, HoldsPromised}
use Rattle.cu_store.specs.Steps.{PutOf, OrLate, Lands}
use Rattle.cu_store.specs.Yard.{is_made}
use Rattle.cu_store.specs.declared.depot.Got.{Got}
use Rattle.cu_store.specs.declared.depot.Got.TheVariants.{Absent, Held}
use Rattle.cu_store.specs.declared.yard.Spec.{Spec}
use Rattle.cu_dir.specs.Common.{KnowsOf, LearnsAt, IsUnion, IsReadAs, IsLentAs, is_there, told_with}
use Rattle.cu_dir.specs.Names.{IsFileKey, path_of}
use Rattle.cu_dir.specs.Tree.{ReadsFile, values_in, values_under}
use Rattle.cu_dir.proofs.ValuesLemmas.{value_at, no_value, new_or_not}

read_first : (specs : List Spec) (values : Option Contents) → IsReadAs specs values values
read_first specs None = tt
read_first specs (Some v) = λ key read. refl

-- at first a hand knows what the tree tells
pub knows_first : (l : Lent) (values : Option Contents) → HoldsPromised l values → KnowsOf l values values
knows_first l values held = record { made = held; read = read_first l.specs values }

pub lent_first : (specs : List Spec) (values : Option Contents) → IsLentAs specs values values
lent_first specs None = tt
lent_first specs (Some v) = λ key served. refl

pub learns_same : (l : Lent) (asked : List ℕ) (values : Option Contents) → LearnsAt l asked values values
learns_same l asked None = tt
learns_same l asked (Some v) = λ key. inl refl

pub learns_then : (l : Lent) (asked : List ℕ) (a b c : Option Contents) → LearnsAt l asked a b → LearnsAt l asked b c → LearnsAt l asked a c
learns_then l asked None None None first more = tt
learns_then l asked (Some a) (Some b) (Some c) first more = λ key.
    elim (more key) [
      | inl same ↦ elim (first key) [
        | inl before ↦ inl (same ∙ before)
        | inr put ↦ inr (put.0, rw same put.1)
      ]
      | inr put ↦ inr put
    ]
learns_then l asked None None (Some c) first more = absurd more
learns_then l asked None (Some b) c first more = absurd first
learns_then l asked (Some a) None c first more = absurd first
learns_then l asked (Some a) (Some b) None first more = absurd more

-- what is learned may be known
knows_made : (l : Lent) (asked : List ℕ) (old new : Contents) → HoldsPromised l (Some old) → LearnsAt l asked (Some old) (Some new) → HoldsPromised l (Some new)
knows_made l asked old new held learned = λ key bytes made is.
    elim (learned key) [
      | inl same ↦ held key bytes made (sym same ∙ is)
      | inr put ↦ put.1.3 ∙ (sym put.1.1 ∙ is)
    ]

read_on : (l : Lent) (asked : List ℕ) (entries old new : Contents) → IsReadAs l.specs (Some entries) (Some old) → LearnsAt l asked (Some old) (Some new) → IsReadAs l.specs (Some entries) (Some new)
read_on l asked entries old new read learned = λ key unmade.
    elim (learned key) [
      | inl same ↦ same ∙ read key unmade
      | inr put ↦ let made : is_made l.specs key ≡ true = put.1.2 in absurd (search (rules, made, unmade))
    ]

pub knows_on : (l : Lent) (asked : List ℕ) (entries old new : Option Contents) → KnowsOf l entries old → LearnsAt l asked old new → KnowsOf l entries new
knows_on l asked None None None knows learned = record { made = tt; read = tt }
knows_on l asked (Some e) (Some old) (Some new) knows learned =
    record { made = knows_made l asked old new knows.made learned; read = read_on l asked e old new knows.read learned }
knows_on l asked None (Some old) new knows learned = absurd knows.read
knows_on l asked (Some e) None new knows learned = absurd knows.read
knows_on l asked None None (Some new) knows learned = absurd learned
knows_on l asked (Some e) (Some old) None knows learned = absurd learned

-- what a file's read tells of a value
pub reads_value : (folder key buf : List ℕ) (files : Option Contents) (answer : Result Got Error)
    → OnOk answer (IsFileKey key) → ReadsFile files (path_of folder key) buf answer → ReadsFile (values_under folder files) key buf answer
reads_value folder key buf None answer fits read = tt
reads_value folder key buf (Some files) (Ok Absent) fits read = value_at folder files key fits.apart ∙ read
reads_value folder key buf (Some files) (Ok (Held n)) fits read = (read.0, value_at folder files key fits.apart ∙ read.1, read.2, read.3)
reads_value folder key buf (Some files) (Err e) fits read = tt

holds_here : (folder key bytes : List ℕ) (files : Option Contents) → IsFileKey key → Holds files (path_of folder key) bytes → Holds (values_under folder files) key bytes
holds_here folder key bytes None fits holds = tt
holds_here folder key bytes (Some files) fits holds = value_at folder files key fits.apart ∙ holds

pub holds_value : (folder key bytes : List ℕ) (files : Option Contents) (answer : Result (Unit {0}) Error)
    → OnOk answer (IsFileKey key) → OnOk answer (Holds files (path_of folder key) bytes) → OnOk answer (Holds (values_under folder files) key bytes)
holds_value folder key bytes files (Ok x) fits holds = holds_here folder key bytes files fits holds
holds_value folder key bytes files (Err e) fits holds = tt

-- a put of the promised bytes tells that they lie there
pub put_learns : (l : Lent) (entries old new : Option Contents) (key bytes : List ℕ)
    → KnowsOf l entries old → IsTrue (is_made l.specs key) → Holds (told_with entries l.promise) key bytes
    → Lands (OrLate (PutOf key bytes) []) old new → LearnsAt l key old new
put_learns l None None None key bytes knows made promised lands = tt
put_learns l (Some e) (Some old) (Some new) key bytes knows made promised lands = λ k.
    elim (lands k) [
      | inl same ↦ inl same
      | inr (inl put) ↦ inr (put.0, (bytes, put.1, rw put.0 made, rw put.0 promised))
      | inr (inr late) ↦ absurd late.2
    ]
put_learns l None (Some old) new key bytes knows made promised lands = absurd knows.read
put_learns l (Some e) None new key bytes knows made promised lands = absurd knows.read
put_learns l None None (Some new) key bytes knows made promised lands = absurd lands
put_learns l (Some e) (Some old) None key bytes knows made promised lands = absurd lands

-- ---- what two hands know together

union_at : (folder : List ℕ) (a b both : Contents) → IsUnion (Some a) (Some b) (Some both) → (key : List ℕ)
    → ((values_in folder both key ≡ values_in folder a key) ⊎ (values_in folder both key ≡ values_in folder b key))
    × (is_there (values_in folder both key) ≡ (is_there (values_in folder a key) || is_there (values_in folder b key)))
union_at folder a b both union key =
    elim (new_or_not key) [
      | inl ends ↦ rw (no_value folder both key ends, no_value folder a key ends, no_value folder b key ends) (inl refl, refl)
      | inr apart ↦ rw (value_at folder both key apart, value_at folder a key apart, value_at folder b key apart) (union (path_of folder key))
    ]

pub union_values : (folder : List ℕ) (a b both : Option Contents) → IsUnion a b both
    → IsUnion (values_under folder a) (values_under folder b) (values_under folder both)
union_values folder None None None union = tt
union_values folder (Some a) (Some b) (Some both) union = union_at folder a b both union
union_values folder None None (Some both) union = absurd union
union_values folder None (Some b) both union = absurd union
union_values folder (Some a) None both union = absurd union
union_values folder (Some a) (Some b) None union = absurd union

pub knows_both : (l : Lent) (entries a b both : Option Contents) → KnowsOf l entries a → KnowsOf l entries b → IsUnion a b both → KnowsOf l entries both
knows_both l None None None None one other union = record { made = tt; read = tt }
knows_both l (Some e) (Some a) (Some b) (Some both) one other union = record {
  made = λ key bytes made is. elim (union key).0 [
    | inl same ↦ one.made key bytes made (sym same ∙ is)
    | inr same ↦ other.made key bytes made (sym same ∙ is)
  ];
  read = λ key unmade. elim (union key).0 [
    | inl same ↦ same ∙ one.read key unmade
    | inr same ↦ same ∙ other.read key unmade
  ];
}
knows_both l None (Some a) b both one other union = absurd one.read
knows_both l (Some e) None b both one other union = absurd one.read
knows_both l None None (Some b) both one other union = absurd other.read
knows_both l (Some e) (Some a) None both one other union = absurd other.read
knows_both l None None None (Some both) one other union = absurd union
knows_both l (Some e) (Some a) (Some b) None one other union = absurd union
