-- Pieces that are read and written one after another.
use Rattle.std.proofs.Common.{◌≡◌, inl, ℕ, ◌+◌, ◌-◌, ◌≤◌, min, Bool, false, List, ◌++◌, length, take, drop, Option, Some, None, Result, Ok, Err, refl, sym, ap, ◌∙◌, append_assoc, append-nil, arith, length-drop, length-take}
use Rattle.std.specs.Prelude.{if◌then◌else◌}
use Rattle.std.specs.Result.{is_ok, is_err}
use Rattle.std.proofs.lemmas.List.{take-append-le}
use Rattle.std.proofs.Math.Seq.{take-add, take-length}
use Rattle.cu_store.specs.Streams.{Appends, Takes}
use Rattle.cu_command.specs.Streams.{Took, InputHasEnded, ReadsAll, WroteFront}

-- ---- reading

-- the front of the buffer goes behind the text
pub grown : {E : Type 0} (r : Result (Unit {0}) E) (failed : Bool) (n : ℕ) (buf behind text new : List ℕ) → failed ≡ is_err r → failed ≡ false
    → new ≡ (if is_ok r then text ++ take n (buf ++ behind) else text) → n ≤ length buf → new ≡ text ++ take n buf
grown (Ok x) failed n buf behind text new is fails h within = h ∙ ap (λ (front : List ℕ). text ++ front) (take-append-le n buf behind within)
grown (Err e) failed n buf behind text new is fails h within = cc

pub took_more : (first mid now : Option (List ℕ)) (text buf new : List ℕ) (n : ℕ) → Took first mid text → Takes mid now buf (Ok n) → new ≡ text ++ take n buf → Took first now new
took_more None None None text buf new n took takes is = tt
took_more (Some first) (Some mid) (Some now) text buf new n took takes is =
    took ∙ ap (λ (rest : List ℕ). text ++ rest) takes.0 ∙ sym (append_assoc text (take n buf) now) ∙ ap (λ (all : List ℕ). all ++ now) (sym is)
took_more None None (Some now) text buf new n took takes is = takes
took_more None (Some mid) now text buf new n took takes is = absurd took
took_more (Some first) None now text buf new n took takes is = absurd took
took_more (Some first) (Some mid) None text buf new n took takes is = takes

-- where nothing was taken, the input has ended
ended : (mid now : Option (List ℕ)) (buf : List ℕ) (n : ℕ) → Takes mid now buf (Ok n) → n ≡ 0 → InputHasEnded now
ended None None buf n takes zero = tt
ended (Some mid) (Some now) buf n takes zero = sym (takes.0 ∙ ap (λ (k : ℕ). take k buf ++ now) zero) ∙ takes.1 zero
ended None (Some now) buf n takes zero = absurd takes
ended (Some mid) None buf n takes zero = tt

pub took_last : (first mid now : Option (List ℕ)) (text buf : List ℕ) (n : ℕ) → Took first mid text → Takes mid now buf (Ok n) → n ≡ 0 → ReadsAll first now text
took_last first mid now text buf n took takes zero =
    let same : text ≡ text ++ take n buf = sym (ap (λ (k : ℕ). text ++ take k buf) zero ∙ append-nil text) in
    (took_more first mid now text buf text n took takes same, inl (ended mid now buf n takes zero))

pub within_room : (len room n : ℕ) (piece : List ℕ) → len ≤ 1048577 → room ≡ min (1048577 - len) 4096 → n ≤ length (take room piece) → len + n ≤ 1048577
within_room len room n piece so_far is within = omega (arith, length-take room piece)

-- ---- writing

-- the rest of the bytes, as the code slices it
pub rest_is : (bytes : List ℕ) (done : ℕ) → take (length bytes - done) (drop done bytes) ≡ drop done bytes
rest_is bytes done = rw (← length-drop done bytes) (take-length (drop done bytes))

pub within_rest : (bytes : List ℕ) (done more : ℕ) → done ≤ length bytes → more ≤ length (take (length bytes - done) (drop done bytes)) → done + more ≤ length bytes
within_rest bytes done more so_far bound =
    let rest : more ≤ length (drop done bytes) = rw (rest_is bytes done) at bound in
    omega (arith, length-drop done bytes)

pub wrote_more : (first mid new : Option (List ℕ)) (bytes : List ℕ) (done more : ℕ)
    → WroteFront first mid bytes done → Appends mid new (take (length bytes - done) (drop done bytes)) (Ok more) → WroteFront first new bytes (done + more)
wrote_more None None None bytes done more front appended = tt
wrote_more (Some first) (Some mid) (Some new) bytes done more front appended =
    let piece = rw (rest_is bytes done) at appended in
    rw (piece, front, take-add, append_assoc) refl
wrote_more None None (Some new) bytes done more front appended = appended
wrote_more None (Some mid) new bytes done more front appended = absurd front
wrote_more (Some first) None new bytes done more front appended = absurd front
wrote_more (Some first) (Some mid) None bytes done more front appended = appended
