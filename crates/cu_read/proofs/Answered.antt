-- What a text is read as, and the answer for it.
use Rattle.std.proofs.Common.{◌≡◌, ap, ℕ, ◌≤◌, ◌<◌, Bool, true, false, List, length, nat_le, Some, None, IsUtf8, refl, sym, ◌∙◌, Err, arith}
use Rattle.std.specs.Str.{is_utf8}
use Rattle.std.proofs.lemmas.Bool.{le-leb}
use Rattle.std.proofs.lemmas.Str.{IsUtf8-from_is_utf8, is_utf8-from_IsUtf8}
use Rattle.serde_json.specs.Data.{Data}
use Rattle.serde_json.specs.Read.{read}
use Rattle.cu_form.specs.Expression.{Expression}
use Rattle.cu_read.specs.Faults.{IfReadFault, GivesAs}
use Rattle.cu_read.specs.Read.{whole_fault, expression_in, expression_of}
use Rattle.cu_read.specs.declared.faults.ReadFault.{ReadFault}
use Rattle.cu_read.specs.declared.faults.ReadRefused.{ReadRefused}

-- ---- the text

longer : (m n : ℕ) → n < m → nat_le m n ≡ false
longer m n h = grind arith

pub too_long : (text : List ℕ) → 1048576 < length text → expression_of text ≡ Err (whole_fault 7)
unfolding expression_of
too_long text long = rw (longer _ _ long) refl

false_unless : (b : Bool) → (b ≡ true → ⊥) → b ≡ false
false_unless true h = absurd (h refl)
false_unless false h = refl

pub no_text : (text : List ℕ) → length text ≤ 1048576 → ¬ (IsUtf8 text) → expression_of text ≡ Err (whole_fault 1)
unfolding expression_of
no_text text short refuted = rw (le-leb _ _ short, false_unless (is_utf8 text) (λ e. refuted (IsUtf8-from_is_utf8 text e))) refl

no_value : (text : List ℕ) → length text ≤ 1048576 → IsUtf8 text → read text ≡ None → expression_of text ≡ Err (whole_fault 1)
unfolding expression_of
no_value text short utf8 none = rw (le-leb _ _ short, is_utf8-from_IsUtf8 text utf8, none) refl

pub value_of : (text : List ℕ) (d : Data) → length text ≤ 1048576 → IsUtf8 text → read text ≡ Some d → expression_of text ≡ expression_in d
unfolding expression_of
value_of text d short utf8 value = rw (le-leb _ _ short, is_utf8-from_IsUtf8 text utf8, value) refl

pub refused_for_no_value : (text same : List ℕ) (e : ReadRefused) → length text ≤ 1048576 → IsUtf8 text → same ≡ text
    → IfReadFault e (λ f. (f ≡ whole_fault 1) × (read same ≡ None)) → IfReadFault e (λ f. expression_of text ≡ Err f)
refused_for_no_value text same (ReadRefused.Fault fault) short utf8 is h = no_value text short utf8 (ap read (sym is) ∙ h.1) ∙ ap (λ (f : ReadFault). Err f) (sym h.0)
refused_for_no_value text same ReadRefused.NoMemory short utf8 is h = tt

-- ---- the answer

pub refused_with : (text : List ℕ) (d : Data) (e : ReadRefused) → expression_of text ≡ expression_in d
    → GivesAs {A = Expression} {B = Expression} (λ x. x) (Err e) (expression_in d) → IfReadFault e (λ f. expression_of text ≡ Err f)
refused_with text d (ReadRefused.Fault fault) is h = is ∙ h
refused_with text d ReadRefused.NoMemory is h = tt
