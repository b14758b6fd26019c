-- The value of a made key that is handed out.
use Rattle.std.proofs.Common.{◌≡◌, ℕ, zero, suc, ◌+◌, ◌*◌, ◌/◌, ◌%◌, ◌<◌, ext_get_or, Bool, true, false, IsTrue, if◌then◌else◌, List, [], ◌∷◌, ◌++◌, length, get_or, take, drop, Option, Some, None, sym, ap, ◌∙◌, arith}
use Rattle.std.proofs.lemmas.List.{take-append-le}
use Rattle.cu_store.specs.Held.{Contents}
use Rattle.cu_store.specs.Yard.{bytes_under, is_made}
use Rattle.cu_store.specs.declared.yard.Spec.{Spec}
use Rattle.std.specs.Int.{w64, from_le_bytes, to_le_bytes}
use native.Mathlib.Decide.{dec_lt}
use Rattle.cu_cells.specs.Layout.{Laid, cell_size, first_word, value_at, is_named_cell}
use Rattle.cu_cells.specs.Cells.{spec_key, length_at, entries_in, entry_at, place_in, IsFair}
use Rattle.cu_cells.proofs.CellFacts.{byte_small, cell_of}
use Rattle.cu_cells.proofs.Found.{stands}
use Rattle.cu_cells.proofs.Gets.{byte_at_back}
use Rattle.cu_cells.proofs.Lands.{named_made}
use Rattle.cu_cells.proofs.Lates.{take_within}
use Rattle.cu_cells.proofs.Own.{place_own, promised_there}

length_there : (ss : List Spec) (c : ℕ) (s : Spec) → c < length ss → get_or ss c s ≡ s → length_at ss c ≡ s.len
length_there [] c s less at = absurd (omega arith)
length_there (t ∷ ts) zero s less at = ap (λ (x : Spec). x.len) at
length_there (t ∷ ts) (suc c) s less at = length_there ts c s (omega arith) at

none_is : (bytes : List ℕ) (P : Type 0) → None ≡ Some bytes → P
none_is bytes P e = cc

promised_if : (seen made : Bool) (p e : Option (List ℕ)) (bytes : List ℕ) → made ≡ true → (if seen then p else (if made then None else e)) ≡ Some bytes → p ≡ Some bytes
promised_if true made p e bytes is held = held
promised_if false true p e bytes is held = none_is bytes (p ≡ Some bytes) held
promised_if false false p e bytes is held = let no_ : false ≡ true = is in cc

-- what was copied of a value as long as the buffer is the value
pub whole_value : (bytes out : List ℕ) → length bytes ≡ length out → take (length bytes) out ≡ take (length out) bytes → out ≡ bytes
whole_value bytes out long same = sym (take_within (length bytes) out (omega (arith, long))) ∙ (same ∙ take_within (length out) bytes (omega (arith, long)))

whole_of : (bytes out : List ℕ) (m : ℕ) → m ≡ length bytes → length bytes ≡ length out → take m out ≡ take (length out) bytes → out ≡ bytes
whole_of bytes out m is long same = whole_value bytes out long (ap (λ (n : ℕ). take n out) (sym is) ∙ same)

pub handed_out : (l pl : Laid) (seen : Bool) (es : List (Option (List ℕ))) (promise : Contents) (c m : ℕ) (out : List ℕ) → IsFair l → pl ≡ l → c < length l.specs → is_made l.specs (spec_key l.specs c) ≡ true
    → promise (spec_key l.specs c) ≡ bytes_under l.promise (spec_key l.specs c) → length out ≡ length_at l.specs c
    → (bytes : List ℕ) × ((if seen then bytes_under pl.promise (spec_key l.specs c) else entries_in pl es (spec_key l.specs c)) ≡ Some bytes) × (m ≡ length bytes) × (take m out ≡ take (length out) bytes)
    → promise (spec_key l.specs c) ≡ Some out
handed_out l pl seen es promise c m out fair laid less made same long got =
    let key = spec_key l.specs c in
    let bytes = got.0 in
    let told : bytes_under l.promise key ≡ Some bytes =
    ap (λ (x : Laid). bytes_under x.promise key) (sym laid)
    ∙ promised_if seen (is_made pl.specs key) (bytes_under pl.promise key) (entry_at es (place_in pl.specs key)) bytes (ap (λ (x : Laid). is_made x.specs key) laid ∙ made) got.1 in
    let place = place_own l.specs c fair.apart less in
    let here = stands l.specs key c place in
    let s = here.spec in
    let size : length bytes ≡ s.len = (cell_of l key bytes c fair made told place).long s (here.at s) in
    let all : length bytes ≡ length out = size ∙ (sym (length_there l.specs c s less (here.at s)) ∙ sym long) in
    same ∙ (told ∙ ap (λ (bs : List ℕ). Some bs) (sym (whole_of bytes out m got.2 all got.3)))

pub written_back : (n : ℕ) (out room : List ℕ) → n ≡ length room → length out ≡ length room → take n (out ++ drop (length out) room) ≡ out
written_back n out room size long =
    take-append-le n out (drop (length out) room) (omega (arith, size, long)) ∙ take_within n out (omega (arith, size, long))

-- what was read of the cell of a late put is the promise of its key
pub late_value : (l kl : Laid) (c first : ℕ) (s : Spec) (out : List ℕ) → kl ≡ l → IsFair l → c < length l.specs → IsTrue (is_named_cell l c) → get_or l.specs c s ≡ s → first ≡ first_word l c → length out ≡ s.len
    → ((i : ℕ) → i < s.len → get_or out i 0 ≡ get_or (to_le_bytes w64 (value_at kl (first + i / 8))) (i % 8) 0) → bytes_under l.promise (spec_key l.specs c) ≡ Some out
late_value l kl c first s out same fair less named there start long read =
    let key = spec_key l.specs c in
    let promised = promised_there l c named in
    let bytes = promised.0 in
    let place = place_own l.specs c fair.apart less in
    let cell = cell_of l key bytes c fair (named_made l c named) promised.1 place in
    let size : length bytes ≡ s.len = cell.long s there in
    let small : (i : ℕ) → get_or bytes i 0 < 256 = λ i. byte_small bytes i (fair.promise.bytes key bytes promised.1) (dec_lt i (length bytes)) in
    let is : out ≡ bytes = ext_get_or 0 out bytes (omega (arith, long, size)) (λ i within.
    let inside : i / 8 < cell_size l c = omega (arith, (cell.cell first start).count, size, long, within) in
    let value : value_at kl (first + i / 8) ≡ from_le_bytes w64 (drop (8 * (i / 8)) bytes) = ap (λ (x : Laid). value_at x (first + i / 8)) same ∙ (cell.cell first start).promised (i / 8) inside in
    read i (omega (arith, long, within)) ∙ (ap (λ (x : ℕ). get_or (to_le_bytes w64 x) (i % 8) 0) value ∙ byte_at_back bytes i small)) in
    promised.1 ∙ ap (λ (bs : List ℕ). Some bs) (sym is)
