-- What paths name, counted exactly, and the bits that are shown of it.
use Rattle.std.proofs.Common.{◌≡◌, ◌∙◌, ℕ, ◌+◌, ◌<◌, List, [], ◌∷◌, ◌++◌, Option, Some, Result, Ok, Err, OnOk, ap, sym, arith, slice_get, slice_index_or, zero, suc}
use Rattle.std.specs.List.{flat_map}
use Rattle.spv_base.specs.declared.causes.CmdRefusal.{CmdRefusal}
use Rattle.spv_cmd.specs.declared.command.PathPart.{PathPart}
use Rattle.spv_cmd.specs.declared.command.PathText.{PathText}
use Rattle.spv_cmd.specs.Paths.{path_text}
use Rattle.spv_dbg.specs.declared.frames.Bit.{Bit}
use Rattle.spv_dbg.specs.declared.frames.ShownFrame.{ShownFrame}
use Rattle.spv_dbg.specs.Tables.{Tables}
use Rattle.spv_expr.specs.Bits.{AreBits}
use Rattle.spv_frame.specs.Stacks.{Stacked}
use Rattle.spv_mem.specs.Memory.{Held as Memory}
use Rattle.spv_parts.specs.Parts.{TypePart}
use Rattle.spv_paths.specs.declared.paths.Named as kept
use Rattle.spv_paths.specs.Kept.{kept_named, saturated_answer, saturated_named}
use Rattle.spv_paths.specs.Paths.{Named}
use Rattle.spv_print.specs.declared.pieces.Piece.{Piece}
use Rattle.spv_print.specs.Layouts.{layout_of}
use Rattle.spv_print.specs.Leaves.{Bits, bits_in, unbound}
use Rattle.spv_print.specs.Pieces.{pieces_end, text_of}
use Rattle.spv_group.specs.Group.{state_in}
use Rattle.spv_stops.specs.Watches.{WatchKey}
use Rattle.spv_session.specs.Reply.{part_told, told_reply, told_with, watch_in, watch_with}
use Rattle.spv_search.specs.Keys.{tables_in}
use Rattle.spv_session.specs.Variables.{focus_calls, line_in, named, named_in, part_text, path_line, selected, value_line, variable_line, watch_key}
use Rattle.spv_session.specs.View.{View}

-- an answer whose numbers are exact
pub exact_answer : (due : Result Named CmdRefusal) (k x : kept.Named) → Ok (kept_named k) ≡ saturated_answer due → ((n : Named) → kept_named k ≡ saturated_named n → kept_named x ≡ n) → Ok (kept_named x) ≡ due
exact_answer (Ok n) k x e f = let same : kept_named k ≡ saturated_named n = cc in ap (λ m. Ok m) (f n same)
exact_answer (Err r) k x e f = absurd (cc)

-- ---- bits

found : (bits : List Bit) (k : ℕ) (b : Bit) → slice_get bits k ≡ Some b → slice_index_or bits k unbound ≡ b
found [] k b h = absurd (cc)
found (x ∷ bits) zero b h = cc
found (x ∷ bits) (suc k) b h = found bits k b h

pub bits_shown : (bit : ℕ → Bit) (first count : ℕ) (bits : List Bit) → AreBits bit first count bits → (k : ℕ) → k < count → bits_in bits k ≡ bit (first + k)
bits_shown bit first count bits are k h = found bits k (bit (first + k)) (are.each k h)

-- what an answer without want of memory gives, where it gives something else
pub on_ok : {T E : Type 0} (r : Result T E) (P Q : Type 0) → (P → Q) → OnOk r P → OnOk r Q
on_ok (Ok x) P Q f h = f h
on_ok (Err e) P Q f h = tt

-- the text of a part of a variable, as its layout is written with its bits
pub part_written : (t : Tables) (p : TypePart) (size due : ℕ) (pieces : List Piece) (slice bits : List Bit) (bit : ℕ → Bit) (first count : ℕ) (old new : List ℕ)
    → pieces ≡ layout_of t p size → size ≡ due → slice ≡ bits → AreBits bit first count bits → count ≡ pieces_end pieces
    → ((all : Bits) → ((k : ℕ) → k < pieces_end pieces → bits_in slice k ≡ all k) → new ≡ old ++ text_of t all pieces)
    → new ≡ old ++ text_of t (λ j. bit (first + j)) (layout_of t p due)
part_written t p size due pieces slice bits bit first count old new laid sized lent are counted told =
    told (λ j. bit (first + j)) (λ k h. ap (λ (bs : List Bit). bits_in bs k) lent ∙ bits_shown bit first count bits are k (omega arith))
    ∙ ap (λ (ps : List Piece). old ++ text_of t (λ j. bit (first + j)) ps) (laid ∙ ap (layout_of t p) sized)

-- ---- where variables are read

-- what is read in the same place is the same
same_place : {X : Type 0} (g : Tables → Memory → ℕ → Stacked → Option ShownFrame → X) (t u : Tables) (m n : Memory) (i j : ℕ) (s k : Stacked) (f h : Option ShownFrame) → t ≡ u → m ≡ n → i ≡ j → s ≡ k → f ≡ h
    → g t m i s f ≡ g u n j k h
same_place g t u m n i j s k f h et em ei es ef = ap (λ x. g x m i s f) et ∙ ap (λ x. g u x i s f) em ∙ ap (λ x. g u n x s f) ei ∙ ap (λ x. g u n j x f) es ∙ ap (λ x. g u n j k x) ef

module _ (v : View) (t : Tables) (m : Memory) (i : ℕ) (s : Stacked) (f : Option ShownFrame) (tables : t ≡ tables_in v.group) (memory : m ≡ (state_in v.group).memory) (inv : i ≡ v.focus) (stack : s ≡ focus_calls v) where
  -- the lines of variables
  pub lines_told : (h : Option ShownFrame) (ids due : List ℕ) (old new : List ℕ) → f ≡ h → ids ≡ due → new ≡ old ++ flat_map (variable_line t m i s f) ids → new ≡ old ++ flat_map (line_in v h) due
  lines_told h ids due old new frame is e =
      e
      ∙ ap (λ l. old ++ l) (same_place (λ (a : Tables) (b : Memory) (c : ℕ) (d : Stacked) (x : Option ShownFrame). flat_map (variable_line a b c d x) ids) t (tables_in v.group) m (state_in v.group).memory i v.focus s (focus_calls v) f h tables memory inv stack frame)
      ∙ ap (λ (l : List ℕ). old ++ flat_map (line_in v h) l) is

  named_same : (name : List ℕ) (parts : List PathPart) → f ≡ selected v → named_in t m i s f name parts ≡ named v name parts
  named_same name parts frame =
      same_place (λ (a : Tables) (b : Memory) (c : ℕ) (d : Stacked) (x : Option ShownFrame). named_in a b c d x name parts) t (tables_in v.group) m (state_in v.group).memory i v.focus s (focus_calls v) f (selected v) tables memory inv stack frame

  line_same : (path : PathText) (n : Named) → f ≡ selected v → value_line (path_text path) (part_text t m i s f n) ≡ path_line v path n
  line_same path n frame =
      ap (value_line (path_text path)) (same_place (λ (a : Tables) (b : Memory) (c : ℕ) (d : Stacked) (x : Option ShownFrame). part_text a b c d x n) t (tables_in v.group) m (state_in v.group).memory i v.focus s (focus_calls v) f (selected v) tables memory inv stack frame)

  -- what a path names
  pub path_told : (path : PathText) (name : List ℕ) (parts : List PathPart) (n : Named) (old new : List ℕ) → f ≡ selected v → Ok n ≡ named_in t m i s f name parts
      → new ≡ old ++ value_line (path_text path) (part_text t m i s f n) → new ≡ old ++ (told_reply v (part_told v path (named v name parts))).0
  path_told path name parts n old new frame is e =
      e
      ∙ ap (λ l. old ++ l) (line_same path n frame)
      ∙ ap (λ (r : Result Named CmdRefusal). old ++ (told_reply v (part_told v path r)).0) (is ∙ named_same name parts frame)

  -- what a watch of it looks at, and the line of that
  pub watch_found : (path : PathText) (name : List ℕ) (parts : List PathPart) (n : Named) (key : WatchKey) (line : List ℕ) → f ≡ selected v → Ok n ≡ named_in t m i s f name parts
      → key ≡ watch_key v n → line ≡ value_line (path_text path) (part_text t m i s f n) → told_with (watch_in v path) (named v name parts) ≡ watch_with v key line
  watch_found path name parts n key line frame is key_is line_is =
      sym (ap (told_with (watch_in v path)) (is ∙ named_same name parts frame))
      ∙ ap (λ k. watch_with v k (path_line v path n)) (sym key_is)
      ∙ ap (watch_with v key) (sym (line_is ∙ line_same path n frame))
