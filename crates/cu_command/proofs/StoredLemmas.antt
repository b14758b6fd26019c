-- What is read of a stored array's metadata.
use Rattle.std.proofs.Common.{◌≡◌, inl, inr, ℕ, ◌<◌, ◌≤◌, arith, List, length, take, Option, Some, None, Result, Ok, Err, IfErr, IfOk, sym, ap, ◌∙◌, refl}
use Rattle.std.proofs.lemmas.List.{take_all}
use Rattle.cu_meta.proofs.Answered.{read_too_long}
use Rattle.cu_meta.proofs.Accepted.{read_accepted}
use Rattle.cu_meta.specs.Fault.{too_long}
use Rattle.cu_meta.specs.Metadata.{read_metadata}
use Rattle.cu_op.specs.Layout.{layout_view}
use Rattle.cu_op.specs.declared.layout.Layout.{Layout}
use Rattle.cu_store.specs.Held.{Contents, Gets, IsGone}
use Rattle.cu_store.specs.Steps.{Shown, NoChange, Steps}
use Rattle.cu_store.specs.declared.depot.Got.TheVariants.{Absent, Held}
use Rattle.cu_v2.proofs.Answered.{read_too_long as zarray_too_long}
use Rattle.cu_v2.proofs.Exact.{read_storable}
use Rattle.cu_v2.specs.Fault.{over_length}
use Rattle.cu_v2.specs.Zarray.{zarray_layout}
use Rattle.cu_zarr.specs.Key.{metadata_key_of, zarray_key_of}
use Rattle.cu_zarr.specs.Layout.{ArrayLayout}
use Rattle.cu_command.proofs.SeenLemmas.{stepped, gone_before}
use Rattle.cu_command.specs.Stored.{IsArrayLayout, IsMetadata, IsZarrayOf, IsRefusedText, IsRefusedZarray, HoldsSuch, HoldsLayout, HoldsZarray, HoldsRefused, HoldsRefusedZarray, FindsLayout, IsTextFront, HoldsFront, IsTextFault, IsTextRefusal, IsMetadataFault, IsZarrayFault, IsFindFault}
use Rattle.cu_command.specs.declared.status.Status.{Status}
use Rattle.cu_command.specs.declared.status.Status.TheVariants.{DepotFailed, BadMeta, NoArray, NoMemory}

pub gone_of : (held : Option Contents) (key buf : List ℕ) → Gets held key buf (Ok Absent) → IsGone held key
gone_of None key buf got = tt
gone_of (Some held) key buf got = got

-- ---- the front of a text

-- a text that has room is read whole
pub short_front : (held : Option Contents) (key buf : List ℕ) (n : ℕ) → Gets held key buf (Ok (Held n)) → n ≤ length buf → HoldsFront held key (take n buf)
short_front None key buf n got room = tt
short_front (Some held) key buf n (bytes, here, is_n, front) room =
    let whole : take (length buf) bytes ≡ bytes = take_all (length buf) bytes (omega (arith, is_n, room)) in
    (bytes, here, inl (sym (front ∙ whole)))

-- of a longer one there is one byte more than metadata may have
pub long_front : (held : Option Contents) (key buf : List ℕ) (n : ℕ) → Gets held key buf (Ok (Held n)) → length buf ≡ 1048577 → 1048576 < n → HoldsFront held key (take 1048577 buf)
long_front None key buf n got room long = tt
long_front (Some held) key buf n (bytes, here, is_n, front) room long =
    let whole : length (take 1048577 buf) ≡ length buf = ap length (take_all 1048577 buf (omega (arith, room))) in
    (bytes, here, inr (omega (arith, whole, room), omega (arith, is_n, long)))

-- A reader that refuses each text that is too long, for one reason, answers the same of a text and of its front.
module _ {E : Type 0} (reader : List ℕ → Result ArrayLayout E) (fault : E) (refuses : (bytes : List ℕ) → 1048576 < length bytes → reader bytes ≡ Err fault) where
  front_reads : (front text : List ℕ) (r : Result ArrayLayout E) → IsTextFront front text → reader front ≡ r → reader text ≡ r
  front_reads front text r (inl same) reads = ap reader same ∙ reads
  front_reads front text r (inr (long, longer)) reads = refuses text longer ∙ sym (refuses front long) ∙ reads

such_more : (held : Option Contents) (key : List ℕ) (P Q : List ℕ → Type 0) → ((text : List ℕ) → P text → Q text) → HoldsSuch held key P → HoldsSuch held key Q
such_more None key P Q more holds = tt
such_more (Some held) key P Q more (text, there, is) = (text, there, more text is)

holds_layout : (held : Option Contents) (key front : List ℕ) (l : Layout) → HoldsFront held key front → IsMetadata l front → HoldsLayout held key l
holds_layout held key front l holds says =
    such_more held key (IsTextFront front) (IsMetadata l) (λ text is. record {
      grid = says.grid;
      reads = front_reads read_metadata too_long read_too_long front text (Ok (layout_view l)) is says.reads;
    }) holds

holds_zarray : (held : Option Contents) (key front : List ℕ) (l : Layout) → HoldsFront held key front → IsZarrayOf l front → HoldsZarray held key l
holds_zarray held key front l holds says =
    such_more held key (IsTextFront front) (IsZarrayOf l) (λ text is. record {
      grid = says.grid;
      reads = front_reads zarray_layout over_length zarray_too_long front text (Ok (layout_view l)) is says.reads;
    }) holds

holds_refused : (held : Option Contents) (key front : List ℕ) (code : ℕ) → HoldsFront held key front → IsRefusedText front code → HoldsRefused held key code
holds_refused held key front code holds (reason, refused, is_code) =
    such_more held key (IsTextFront front) (λ text. IsRefusedText text code)
    (λ text is. (reason, front_reads read_metadata too_long read_too_long front text (Err reason) is refused, is_code)) holds

holds_refused_zarray : (held : Option Contents) (key front : List ℕ) (code : ℕ) → HoldsFront held key front → IsRefusedZarray front code → HoldsRefusedZarray held key code
holds_refused_zarray held key front code holds (reason, refused, is_code) =
    such_more held key (IsTextFront front) (λ text. IsRefusedZarray text code)
    (λ text is. (reason, front_reads zarray_layout over_length zarray_too_long front text (Err reason) is refused, is_code)) holds

-- ---- one key

pub are_inputs : (front : List ℕ) (r : Result Layout Status) → IfOk r (λ l. IsMetadata l front) → IfOk r IsArrayLayout
are_inputs front (Ok l) says = record { grid = says.grid; storable = read_accepted front (layout_view l) says.reads }
are_inputs front (Err status) says = tt

pub are_zarray_inputs : (front : List ℕ) (r : Result Layout Status) → IfOk r (λ l. IsZarrayOf l front) → IfOk r IsArrayLayout
are_zarray_inputs front (Ok l) says = record { grid = says.grid; storable = read_storable front (layout_view l) says.reads }
are_zarray_inputs front (Err status) says = tt

pub are_held : (held : Option Contents) (key front : List ℕ) (r : Result Layout Status) → HoldsFront held key front → IfOk r (λ l. IsMetadata l front) → IfOk r (HoldsLayout held key)
are_held held key front (Ok l) holds says = holds_layout held key front l holds says
are_held held key front (Err status) holds says = tt

pub are_held_zarray : (held : Option Contents) (key front : List ℕ) (r : Result Layout Status) → HoldsFront held key front → IfOk r (λ l. IsZarrayOf l front) → IfOk r (HoldsZarray held key)
are_held_zarray held key front (Ok l) holds says = holds_zarray held key front l holds says
are_held_zarray held key front (Err status) holds says = tt

pub text_fault : (tries : ℕ) (old new : Shown) (name : List ℕ) (status : Status) → IsTextFault tries old new name (metadata_key_of name) status
    → IsMetadataFault tries old.faults new.faults new.held name status
text_fault tries old new name (DepotFailed failed) h = h
text_fault tries old new name (NoArray missing) h = h
text_fault tries old new name NoMemory h = tt
text_fault tries old new name status h = absurd h

pub zarray_text_fault : (tries : ℕ) (old new : Shown) (name : List ℕ) (status : Status) → IsTextFault tries old new name (zarray_key_of name) status
    → IsZarrayFault tries old new name status
zarray_text_fault tries old new name (DepotFailed failed) h = h
zarray_text_fault tries old new name (NoArray missing) h = h
zarray_text_fault tries old new name NoMemory h = tt
zarray_text_fault tries old new name status h = absurd h

refusal_fault : (tries : ℕ) (old new : Shown) (name front : List ℕ) (status : Status) → HoldsFront new.held (metadata_key_of name) front → IsTextRefusal name (IsRefusedText front) status
    → IsMetadataFault tries old.faults new.faults new.held name status
refusal_fault tries old new name front (BadMeta bad code) holds h = (h.0, holds_refused new.held (metadata_key_of name) front code holds h.1)
refusal_fault tries old new name front NoMemory holds h = tt
refusal_fault tries old new name front status holds h = absurd h

zarray_refusal_fault : (tries : ℕ) (old new : Shown) (name front : List ℕ) (status : Status) → HoldsFront new.held (zarray_key_of name) front → IsTextRefusal name (IsRefusedZarray front) status
    → IsZarrayFault tries old new name status
zarray_refusal_fault tries old new name front (BadMeta bad code) holds h = (h.0, holds_refused_zarray new.held (zarray_key_of name) front code holds h.1)
zarray_refusal_fault tries old new name front NoMemory holds h = tt
zarray_refusal_fault tries old new name front status holds h = absurd h

pub are_refused : (tries : ℕ) (old new : Shown) (name front : List ℕ) (r : Result Layout Status) → HoldsFront new.held (metadata_key_of name) front → IfErr r (IsTextRefusal name (IsRefusedText front))
    → IfErr r (IsMetadataFault tries old.faults new.faults new.held name)
are_refused tries old new name front (Ok l) holds h = tt
are_refused tries old new name front (Err status) holds h = refusal_fault tries old new name front status holds h

pub are_refused_zarray : (tries : ℕ) (old new : Shown) (name front : List ℕ) (r : Result Layout Status) → HoldsFront new.held (zarray_key_of name) front
    → IfErr r (IsTextRefusal name (IsRefusedZarray front)) → IfErr r (IsZarrayFault tries old new name)
are_refused_zarray tries old new name front (Ok l) holds h = tt
are_refused_zarray tries old new name front (Err status) holds h = zarray_refusal_fault tries old new name front status holds h

-- ---- both keys, one after the other

module _ {l m : ℕ} (tries : ℕ) (old mid new : Shown) (name : List ℕ) (gone : IsGone mid.held (metadata_key_of name)) (first : Steps NoChange l m old mid) where
  before : IsGone old.held (metadata_key_of name)
  before = gone_before old mid (metadata_key_of name) (stepped first) gone

  pub found_second : (r : Result Layout Status) → IfOk r (HoldsZarray new.held (zarray_key_of name)) → IfOk r (FindsLayout old.held new.held name)
  found_second (Ok layout) holds = inr (before, holds)
  found_second (Err status) holds = tt

  second_fault : {n k : ℕ} (status : Status) → Steps NoChange n k old new → IsZarrayFault tries mid new name status → IsFindFault tries old new name status
  second_fault (DepotFailed failed) both h = (inr (h.0, before), omega (arith, h.1, first.count))
  second_fault (BadMeta refused code) both h = (h.0, inr (before, h.1))
  second_fault (NoArray missing) both h = (h.0, (before, gone_before old new (zarray_key_of name) (stepped both) h.1))
  second_fault NoMemory both h = tt
  second_fault status both h = absurd h

  pub second_faults : {n k : ℕ} (r : Result Layout Status) → Steps NoChange n k old new → IfErr r (IsZarrayFault tries mid new name) → IfErr r (IsFindFault tries old new name)
  second_faults (Ok layout) both h = tt
  second_faults (Err status) both h = second_fault status both h

pub first_fault : (tries : ℕ) (old new : Shown) (name : List ℕ) (status : Status) → IsMetadataFault tries old.faults new.faults new.held name status
    → ((missing : List ℕ) → status ≡ NoArray missing → ⊥) → IsFindFault tries old new name status
first_fault tries old new name (DepotFailed failed) h other = (inl h.0, h.1)
first_fault tries old new name (BadMeta refused code) h other = (h.0, inl h.1)
first_fault tries old new name (NoArray missing) h other = absurd (other missing refl)
first_fault tries old new name NoMemory h other = tt
first_fault tries old new name status h other = absurd h
