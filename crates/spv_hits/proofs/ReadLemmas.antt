-- The bits of a watch as they are read.
use Rattle.std.proofs.Common.{IfSome, ◌≡◌, ◌∙◌, ap, ℕ, ◌+◌, ◌<◌, ◌||◌, not, false, true, cond, List, Option, Some, None, map, refl, sym, subst}
use Rattle.std.specs.List.{range_with_len}
use Rattle.std.proofs.lemmas.List.{ext_get_or}
use Rattle.std.proofs.lemmas.List.FromFn.{get_or-map-range_with_len, length-map-range_with_len}
use Rattle.std.proofs.lemmas.Option.{get_or_from_slice_get}
use Rattle.spv_dbg.specs.declared.frames.Bit.{Bit}
use Rattle.spv_dbg.specs.declared.frames.ShownFrame.{ShownFrame}
use Rattle.spv_dbg.specs.Tables.{Tables}
use Rattle.spv_expr.specs.Bits.{AreBits, shown, unbound, variable_bit}
use Rattle.spv_expr.specs.declared.cells.InCell.{InCell}
use Rattle.spv_base.specs.Bits.{cell_bits}
use Rattle.spv_frame.specs.Frames.{Held as Frame}
use Rattle.spv_frame.specs.Stacks.{Stacked}
use Rattle.spv_mem.specs.Memory.{Held as Memory}
use Rattle.spv_stops.specs.Watches.{WatchKey}
use Rattle.spv_hits.specs.Watches.{bits_in, frame_of, has_frame, is_there, watched_in}
use Rattle.spv_hits.specs.Kept.{bits_of_cell}

-- bits from one on are a list
pub bits_are : (bit : ℕ → Bit) (first count : ℕ) (bits : List Bit) → AreBits bit first count bits → bits ≡ map bit (range_with_len first count)
bits_are bit first count bits is =
    ext_get_or unbound bits (map bit (range_with_len first count)) (is.long ∙ sym (length-map-range_with_len bit first count))
    (λ k l. let below : k < count = subst (λ n. k < n) is.long l in get_or_from_slice_get bits k (bit (first + k)) unbound (is.each k below) ∙ sym (get_or-map-range_with_len bit first count k (first + k) unbound below refl))

-- the bits of a watch that is there
pub watched_read : (t : Tables) (k : WatchKey) (m : Memory) (s : Stacked) (f : Option ShownFrame) (i v first count : ℕ) (bits : List Bit) → i ≡ k.inv → v ≡ k.variable → first ≡ k.first → count ≡ k.count
    → f ≡ frame_of k → is_there k s.frames ≡ true → AreBits (variable_bit m i t s f v) first count bits → Some bits ≡ watched_in t k m s.frames
watched_read t k m s f i v first count bits inv variable from many frame there are =
    ap Some
    (bits_are (variable_bit m i t s f v) first count bits are
    ∙ ap (λ x. map (variable_bit m x t s f v) (range_with_len first count)) inv
    ∙ ap (λ x. map (variable_bit m k.inv t s f x) (range_with_len first count)) variable
    ∙ ap (λ x. map (variable_bit m k.inv t s f k.variable) (range_with_len x count)) from
    ∙ ap (λ x. map (variable_bit m k.inv t s f k.variable) (range_with_len k.first x)) many
    ∙ ap (λ x. map (variable_bit m k.inv t s x k.variable) (range_with_len k.first k.count)) frame)
    ∙ sym (ap (λ b. cond b (Some (bits_in t k m s.frames)) None) there)

-- the same bits, counted otherwise
pub bits_elsewhere : (bit other : ℕ → Bit) (first from count : ℕ) → ((j : ℕ) → j < count → bit (first + j) ≡ other (from + j)) → map bit (range_with_len first count) ≡ map other (range_with_len from count)
bits_elsewhere bit other first from count same =
    ext_get_or unbound (map bit (range_with_len first count)) (map other (range_with_len from count)) (length-map-range_with_len bit first count ∙ sym (length-map-range_with_len other from count))
    (λ k l. let below : k < count = subst (λ n. k < n) (length-map-range_with_len bit first count) l in
    get_or-map-range_with_len bit first count k (first + k) unbound below refl ∙ same k below ∙ sym (get_or-map-range_with_len other from count k (from + k) unbound below refl))

-- a watch on a global has the bits of the cell where they lie
pub watched_there : (t : Tables) (k : WatchKey) (m : Memory) (frames : List Frame) (i v first count : ℕ) (x : InCell) → i ≡ k.inv → v ≡ k.variable → first ≡ k.first → count ≡ k.count → k.local ≡ false
    → ((s : Stacked) (f : Option ShownFrame) (j : ℕ) → j < count → variable_bit m i t s f v (first + j) ≡ shown (cell_bits x.cell) (x.bit + j)) → watched_in t k m frames ≡ Some (bits_of_cell x k.count)
watched_there t k m frames i v first count x inv variable from many global there =
    let calls : Stacked = record { frames = frames; room = 0 } in
    let all : is_there k frames ≡ true = ap (λ b. not b || has_frame k frames) global in
    ap (λ b. cond b (Some (bits_in t k m frames)) None) all
    ∙ ap Some
    (sym (ap (λ y. map (variable_bit m y t calls (frame_of k) v) (range_with_len first count)) inv
    ∙ ap (λ y. map (variable_bit m k.inv t calls (frame_of k) y) (range_with_len first count)) variable
    ∙ ap (λ y. map (variable_bit m k.inv t calls (frame_of k) k.variable) (range_with_len y count)) from
    ∙ ap (λ y. map (variable_bit m k.inv t calls (frame_of k) k.variable) (range_with_len k.first y)) many)
    ∙ bits_elsewhere (variable_bit m i t calls (frame_of k) v) (shown (cell_bits x.cell)) first x.bit count (there calls (frame_of k))
    ∙ ap (bits_of_cell x) many)

pub if_some : {A : Type 0} (o : Option A) (P Q : A → Type 0) → ((x : A) → P x → Q x) → IfSome o P → IfSome o Q
if_some None P Q f p = p
if_some (Some x) P Q f p = f x p
