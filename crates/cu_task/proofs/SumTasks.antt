-- A task of a carry or a scan as the code has it: its input in two parts.
use Rattle.std.proofs.Common.{◌≡◌, ℕ, ◌+◌, ◌*◌, ◌<◌, ◌≤◌, set, List, [], ◌∷◌, ◌++◌, length, take, drop, get_or, All, Option, refl, sym, ap, ◌∙◌, subst, arith}
use Rattle.std.specs.Prelude.{slice_index_or}
use Rattle.std.proofs.lemmas.List.{length-drop, take-append-drop}
use Rattle.cu_num.specs.Dtype.{size_of, IsInteger}
use Rattle.cu_shape.specs.Index.{product, differences}
use Rattle.cu_grid.specs.Grid.{IsGrid}
use Rattle.cu_scan.specs.Scanned.{IsCarriedInto}
use Rattle.cu_scan.proofs.Told.{IsOneGroup}
use Rattle.cu_op.specs.Along.{group_walk, carried_walks}
use Rattle.cu_op.specs.Arrays.{grid_at, type_at, grid_counts}
use Rattle.cu_op.specs.Cells.{regions_of, task_lo, task_hi}
use Rattle.cu_op.specs.Chunks.{walk}
use Rattle.cu_op.specs.Kind.Carry.{CarryFits}
use Rattle.cu_op.specs.Kind.Scan.{ScanFits}
use Rattle.cu_op.specs.Operation.{target_of}
use Rattle.cu_op.specs.Sound.{Sound}
use Rattle.cu_op.specs.TaskView.{TaskView, task_op}
use Rattle.cu_op.specs.Walks.{input_walks}
use Rattle.cu_op.specs.declared.layout.ArrayInfo.{ArrayInfo}
use Rattle.cu_op.specs.declared.operation.Op.{Op}
use Rattle.cu_op.specs.declared.operation.Op.TheVariants.{Carry, Scan}
use Rattle.cu_op.specs.declared.walks.Walk.{Walk}
use Rattle.cu_op.proofs.Operations.{Fit}
use Rattle.cu_op.proofs.Plans.{grid_ok}
use Rattle.cu_op.proofs.TaskCells.{fit_of}
use Rattle.cu_region.proofs.ByteElements.{integer_elements}
use Rattle.cu_region.specs.Writing.{AreElements}
use Rattle.cu_task.specs.Inputs.{walk_room, room_of_walks, IsCarryOf, IsScanOf}
use Rattle.cu_task.specs.OfTask.{read_bytes, made_bytes, IsMadeFrom, AreOfItsType}
use Rattle.cu_task.proofs.ScanTask.{IsTyped, Cut, sizes, beside_room, rooms_split, given_room, ScansAs, CarriesAs, scan_lo, scan_hi, scan_size, scan_one, scan_typed, scan_region_is, scan_rank, scan_is, carry_lo, carry_hi, carry_end, carry_one, carry_typed, carry_rank, carry_row, carry_is}
use Rattle.cu_task.proofs.TaskRooms.{IsComputedBy, computed_by}

-- ---- what both have alike

pub record SumTask (t : TaskView) (axis source out : ℕ) : Type 0 where
  pub s : ℕ
  pub end : ℕ
  pub above : Option ℕ
  pub lo : List ℕ
  pub hi : List ℕ
  pub one : IsOneGroup axis s lo hi
  pub typed : IsTyped t.plan.arrays out above
  pub integer : IsInteger (type_at t.plan.arrays out)
  pub walks : input_walks t.plan.arrays (task_op t) t.number ≡ group_walk source axis s end lo hi ∷ carried_walks above axis s lo hi
  pub made : target_of (task_op t) ≡ out
  pub out_within : out < length t.plan.arrays
  pub room : made_bytes t ≡ product (differences hi lo) * size_of (type_at t.plan.arrays out)

module _ (t : TaskView) (axis source out : ℕ) (k : SumTask t axis source out) where
  abbrev arrays : List ArrayInfo
  arrays = t.plan.arrays

  -- the region of the elements, and its sizes
  abbrev pub own : Walk
  own = group_walk source axis k.s k.end k.lo k.hi

  abbrev pub own_sizes : List ℕ
  own_sizes = sizes arrays axis k.s source out k.end k.lo k.hi k.one

  pub walk_is : (w : Walk) → w ≡ slice_index_or (input_walks arrays (task_op t) t.number) 0 (walk 0 [] []) → w ≡ own
  walk_is w e = e ∙ ap (λ (ws : List Walk). slice_index_or ws 0 (walk 0 [] [])) k.walks

  pub sizes_are : (w : Walk) (ds : List ℕ) → w ≡ slice_index_or (input_walks arrays (task_op t) t.number) 0 (walk 0 [] []) → ds ≡ differences w.region.hi w.region.lo → ds ≡ own_sizes
  sizes_are w ds e d = d ∙ ap (λ (x : Walk). differences x.region.hi x.region.lo) (walk_is w e)

  pub bytes_are : (w : Walk) (n : ℕ) → w ≡ slice_index_or (input_walks arrays (task_op t) t.number) 0 (walk 0 [] []) → n ≡ walk_room arrays w → n ≡ walk_room arrays own
  bytes_are w n e b = b ∙ ap (walk_room arrays) (walk_is w e)

  pub two_rooms : (inputs : List ℕ) → length inputs ≡ read_bytes t → length inputs ≡ walk_room arrays own + beside_room arrays k.above axis k.s k.lo k.hi
  two_rooms inputs e = e ∙ ap (room_of_walks arrays) k.walks ∙ rooms_split arrays k.above own axis k.s k.lo k.hi

  -- the parts
  pub record IsSplit (n : ℕ) (inputs front behind : List ℕ) : Type 0 where
    pub all : length inputs ≡ read_bytes t
    pub at : n ≡ walk_room arrays own
    pub long : length front ≡ n
    pub first : front ≡ take n inputs
    pub rest : behind ≡ drop n inputs

  pub fits : (inputs : List ℕ) (n : ℕ) → length inputs ≡ read_bytes t → n ≡ walk_room arrays own → n ≤ length inputs
  fits inputs n all at = let e = two_rooms inputs all in omega (arith, at, e)

  pub front_long : (n : ℕ) (inputs front behind : List ℕ) → IsSplit n inputs front behind → length front ≡ product own_sizes * size_of (type_at arrays source)
  front_long n inputs front behind p = p.long ∙ p.at

  pub cut : (n : ℕ) (inputs front behind : List ℕ) → IsSplit n inputs front behind → Cut (walk_room arrays own) inputs front behind
  cut n inputs front behind p = record {
    long = p.long ∙ p.at;
    whole = sym (take-append-drop n inputs) ∙ (λ i. sym p.first i ++ sym p.rest i);
    rest = ap (λ m. drop m inputs) (sym p.at) ∙ sym p.rest;
  }

  pub behind_long : (n : ℕ) (inputs front behind : List ℕ) → IsSplit n inputs front behind → length behind ≡ beside_room arrays k.above axis k.s k.lo k.hi
  behind_long n inputs front behind p =
      let e = two_rooms inputs p.all in
      let at = p.at in
      let d = ap length p.rest ∙ length-drop n inputs in
      omega (arith, e, at, d)

  pub given : (n : ℕ) (inputs front behind : List ℕ) → IsSplit n inputs front behind → IsCarriedInto (type_at arrays out) (product (set own_sizes axis 1)) behind
  given n inputs front behind p = given_room arrays axis k.s source out k.end k.lo k.hi k.one k.above behind k.typed (behind_long n inputs front behind p)

  pub elements : (output : List ℕ) → All (λ b. b < 256) output → AreOfItsType t output
  elements output small = subst (λ a. AreElements (type_at arrays a) output) (sym k.made) (integer_elements (type_at arrays out) output k.integer small)

-- ---- a carry

pub record CarryParts (op : Op) (axis out : ℕ) : Type 0 where
  pub group : ℕ
  pub sums : ℕ
  pub above : Option ℕ
  pub is : op ≡ Carry axis group sums above out

pub carry_parts : (op : Op) (axis out : ℕ) → IsCarryOf op axis out → CarryParts op axis out
carry_parts (Carry along group sums above made) axis out is = record { group = group; sums = sums; above = above; is = rw (is.0, is.1) refl }
carry_parts op axis out is = absurd is

module _ (t : TaskView) (sound : Sound t.plan) (axis out : ℕ) (m : CarryParts (task_op t) axis out) where
  carry_fit : Fit t.plan.arrays t.op (Carry axis m.group m.sums m.above out)
  carry_fit = subst (Fit t.plan.arrays t.op) m.is (fit_of t.plan sound t.op t.operation)

  carry_fits : CarryFits t.plan.arrays axis m.group m.sums m.above out
  carry_fits = carry_fit.2

  carry_grid : IsGrid (grid_at t.plan.arrays out)
  carry_grid = grid_ok t.plan out sound (carry_fit.1 0 0 (omega arith)).0

  carry_in : t.number < product (grid_counts (grid_at t.plan.arrays out))
  carry_in = subst (λ (o : Op). t.number < regions_of t.plan.arrays o) m.is t.within

  pub carry_task : SumTask t axis m.sums out
  carry_task = record {
    s = m.group;
    end = carry_end t.plan.arrays axis m.group m.sums m.above out t.number carry_fits carry_grid carry_in;
    above = m.above;
    lo = carry_lo t.plan.arrays axis m.group m.sums m.above out t.number carry_fits carry_grid carry_in;
    hi = carry_hi t.plan.arrays axis m.group m.sums m.above out t.number carry_fits carry_grid carry_in;
    one = carry_one t.plan.arrays axis m.group m.sums m.above out t.number carry_fits carry_grid carry_in;
    typed = carry_typed t.plan.arrays axis m.group m.sums m.above out t.number carry_fits carry_grid carry_in;
    integer = carry_fits.integer;
    walks = ap (λ (o : Op). input_walks t.plan.arrays o t.number) m.is;
    made = ap target_of m.is;
    out_within = (carry_fit.1 0 0 (omega arith)).0;
    room = ap (λ (o : Op). product (differences (task_hi t.plan.arrays o t.number) (task_lo t.plan.arrays o t.number)) * size_of (type_at t.plan.arrays (target_of o))) m.is;
  }

  pub carry_type : type_at t.plan.arrays m.sums ≡ type_at t.plan.arrays out
  carry_type = sym carry_fits.types

  pub carry_own_rank : axis < length (own_sizes t axis m.sums out carry_task)
  unfolding carry_task
  carry_own_rank = carry_rank t.plan.arrays axis m.group m.sums m.above out t.number carry_fits carry_grid carry_in

  pub carry_made : product (set (own_sizes t axis m.sums out carry_task) axis 1) * size_of (type_at t.plan.arrays out) ≡ made_bytes t
  unfolding carry_task
  carry_made = ap (λ (ds : List ℕ). product ds * size_of (type_at t.plan.arrays out)) (carry_row t.plan.arrays axis m.group m.sums m.above out t.number carry_fits carry_grid carry_in) ∙ sym carry_task.room

  pub carry_values : (n : ℕ) (inputs front behind output : List ℕ) → IsSplit t axis m.sums out carry_task n inputs front behind
      → CarriesAs (type_at t.plan.arrays out) (own_sizes t axis m.sums out carry_task) axis front behind output → IsMadeFrom t inputs output
  unfolding carry_task
  carry_values n inputs front behind output p totals =
      let value : IsComputedBy t.plan.arrays (Carry axis m.group m.sums m.above out) t.number out inputs output =
      λ at regions idx w. carry_is t.plan.arrays axis m.group m.sums m.above out t.number carry_fits carry_grid carry_in at inputs front behind output
      (cut t axis m.sums out carry_task n inputs front behind p) (behind_long t axis m.sums out carry_task n inputs front behind p) regions totals idx w in
      computed_by t.plan t.op t.number (Carry axis m.group m.sums m.above out) inputs output m.is value

-- ---- a scan

pub record ScanParts (op : Op) (axis source out : ℕ) : Type 0 where
  pub carry : Option ℕ
  pub is : op ≡ Scan axis source carry out

pub scan_parts : (op : Op) (axis source out : ℕ) → IsScanOf op axis source out → ScanParts op axis source out
scan_parts (Scan along from carry made) axis source out is = record { carry = carry; is = rw (is.0, is.1, is.2) refl }
scan_parts op axis source out is = absurd is

module _ (t : TaskView) (sound : Sound t.plan) (axis source out : ℕ) (m : ScanParts (task_op t) axis source out) where
  scan_fit : Fit t.plan.arrays t.op (Scan axis source m.carry out)
  scan_fit = subst (Fit t.plan.arrays t.op) m.is (fit_of t.plan sound t.op t.operation)

  scan_fits : ScanFits t.plan.arrays axis source m.carry out
  scan_fits = scan_fit.2

  scan_grid : IsGrid (grid_at t.plan.arrays out)
  scan_grid = grid_ok t.plan out sound (scan_fit.1 0 0 (omega arith)).0

  scan_in : t.number < product (grid_counts (grid_at t.plan.arrays out))
  scan_in = subst (λ (o : Op). t.number < regions_of t.plan.arrays o) m.is t.within

  pub scan_task : SumTask t axis source out
  scan_task = record {
    s = scan_size t.plan.arrays axis source m.carry out t.number scan_fits scan_grid scan_in;
    end = get_or (scan_hi t.plan.arrays axis source m.carry out t.number scan_fits scan_grid scan_in) axis 0;
    above = m.carry;
    lo = scan_lo t.plan.arrays axis source m.carry out t.number scan_fits scan_grid scan_in;
    hi = scan_hi t.plan.arrays axis source m.carry out t.number scan_fits scan_grid scan_in;
    one = scan_one t.plan.arrays axis source m.carry out t.number scan_fits scan_grid scan_in;
    typed = scan_typed t.plan.arrays axis source m.carry out t.number scan_fits scan_grid scan_in;
    integer = scan_fits.types;
    walks = ap (λ (o : Op). input_walks t.plan.arrays o t.number) m.is;
    made = ap target_of m.is;
    out_within = (scan_fit.1 0 0 (omega arith)).0;
    room = ap (λ (o : Op). product (differences (task_hi t.plan.arrays o t.number) (task_lo t.plan.arrays o t.number)) * size_of (type_at t.plan.arrays (target_of o))) m.is;
  }

  pub source_within : source < length t.plan.arrays
  source_within = (scan_fit.0 0 0 (omega arith)).0

  pub scan_own_rank : axis < length (own_sizes t axis source out scan_task)
  unfolding scan_task
  scan_own_rank = scan_rank t.plan.arrays axis source m.carry out t.number scan_fits scan_grid scan_in

  pub scan_made : product (own_sizes t axis source out scan_task) * size_of (type_at t.plan.arrays out) ≡ made_bytes t
  unfolding scan_task
  scan_made = ap (λ (ds : List ℕ). product ds * size_of (type_at t.plan.arrays out)) (scan_region_is t.plan.arrays axis source m.carry out t.number scan_fits scan_grid scan_in) ∙ sym scan_task.room

  pub scan_values : (n : ℕ) (inputs front behind output : List ℕ) → IsSplit t axis source out scan_task n inputs front behind
      → ScansAs (type_at t.plan.arrays source) (type_at t.plan.arrays out) (own_sizes t axis source out scan_task) axis front behind output → IsMadeFrom t inputs output
  unfolding scan_task
  scan_values n inputs front behind output p sums =
      let value : IsComputedBy t.plan.arrays (Scan axis source m.carry out) t.number out inputs output =
      λ at regions idx w. scan_is t.plan.arrays axis source m.carry out t.number scan_fits scan_grid scan_in at inputs front behind output
      (cut t axis source out scan_task n inputs front behind p) (behind_long t axis source out scan_task n inputs front behind p) regions sums idx w in
      computed_by t.plan t.op t.number (Scan axis source m.carry out) inputs output m.is value
