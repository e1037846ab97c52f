-- The debug events that a run passes.
use Rattle.std.proofs.Common.{◌≡◌, ◌∙◌, ℕ, ◌-◌, ◌==◌, Bool, true, false, cond, List, [], ◌∷◌, ◌++◌, append-nil, length, map, Option, Some, Vec, refl, sym, ap, subst, slice_get}
use Rattle.std.specs.Prelude.{unwrap_or}
use Rattle.std.specs.Option.{option_map_or}
use Rattle.std.specs.declared.alloc.Global.{Global}
use Rattle.spv_base.specs.Entries.{reads}
use Rattle.spv_base.specs.declared.instructions.Inst.{Inst}
use Rattle.spv_index.specs.Positions.{Stand, stands_of}
use Rattle.spv_valid.specs.Acceptance.{Accepted, IsAccepted}
use Rattle.spv_valid.specs.Validity.{IsValid}
use Rattle.spv_frame.specs.Frames.{Held as Frame, fresh}
use Rattle.spv_frame.specs.Registers.{Planned}
use Rattle.spv_plans.specs.Plans.{plan_of}
use Rattle.spv_frame.specs.Stacks.{Stacked, top}
use Rattle.spv_base.specs.declared.values.PassedEvent.{PassedEvent}
use Rattle.spv_state.specs.Events.{IsReadable, behind, captures_before, due, due_at, entries, entry, listed, pass, passed, since, under}
use Rattle.spv_state.specs.Sound.{IsSoundFrame}
use Rattle.spv_state.specs.State.{State, depth_of, on_frame, on_frames, top_of}
use Rattle.spv_state.specs.declared.captures.Capture.{Capture}
use Rattle.spv_state.proofs.Lists.{change_same}
use Rattle.spv_state.proofs.StartSound.{HavePlans, entry_frame}
use Rattle.spv_state.proofs.TopLemmas.{of_function}

-- ---- carried along from one instruction to the next

-- where some were passed since the last executable or label
abbrev pub carried : List Inst → List Capture → List Stand → List (ℕ × List Capture)
carried insts before [] = []
carried insts before (s ∷ ss) = entry s before ++ carried insts (behind insts s before) ss

pub entries-carried : (insts : List Inst) (before ss : List Stand) → entries insts before ss ≡ carried insts (since insts before) ss
entries-carried insts before [] = refl
entries-carried insts before (s ∷ ss) = ap (λ (es : List (ℕ × List Capture)). entry s (since insts before) ++ es) (entries-carried insts (s ∷ before) ss)

-- behind the last one
pub entries_all : (insts : List Inst) (before : List Capture) (es : List (ℕ × List Capture)) (rest all : List Stand) → rest ≡ [] → es ++ carried insts before rest ≡ carried insts [] all → es ≡ entries insts [] all
entries_all insts before es rest all none e =
    sym (append-nil es) ∙ sym (ap (λ (xs : List Stand). es ++ carried insts before xs) none) ∙ e ∙ sym (entries-carried insts [] all)

-- ---- as the code keeps them

pub under_listed : (es : List (ℕ × Vec Capture Global)) (pc : ℕ) → under es pc ≡ unwrap_or (reads pc (map listed es)) []
under_listed [] pc = refl
under_listed (e ∷ es) pc = by_key (e.0 == pc) (under_listed es pc)
  where
    by_key : (b : Bool) → under es pc ≡ unwrap_or (reads pc (map listed es)) []
        → option_map_or (λ (v : Vec Capture Global). v.items) (cond b (Some e.1) (reads pc es)) [] ≡ unwrap_or (cond b (Some e.1.items) (reads pc (map listed es))) []
    by_key true rest = refl
    by_key false rest = rest

pub captures_kept : (a : Accepted) (insts : List Inst) (es : List (ℕ × Vec Capture Global)) → insts ≡ a.insts → map listed es ≡ entries insts [] (stands_of insts) → (pc : ℕ) → under es pc ≡ captures_before a pc
unfolding captures_before
captures_kept a insts es same are pc =
    under_listed es pc ∙ ap (λ (xs : List (ℕ × List Capture)). unwrap_or (reads pc xs) []) (are ∙ ap (λ (is : List Inst). entries is [] (stands_of is)) same)

-- ---- in a state

-- the events that are due in the top frame
pub due_top : (a : Accepted) (s : State) (i depth : ℕ) (f : Frame) → Some f ≡ top_of s i → depth ≡ depth_of s i → due a depth f ≡ due_at a s i
due_top a s i depth f is same = ap (λ (n : ℕ). due a n f) same ∙ ap (λ (o : Option Frame). option_map_or (due a (depth_of s i)) o []) is

pub top_at : (s : State) (i : ℕ) (k : Stacked) (f : Frame) → slice_get s.stacks i ≡ Some k → top k.frames ≡ Some f → top_of s i ≡ Some f
top_at s i k f at here = rw at here

-- where they are appended, they are passed
pub passed_is : (a : Accepted) (s : State) (i : ℕ) (es : List PassedEvent) → es ≡ due_at a s i → on_frame i (λ f. record f { events = f.events ++ es }) s ≡ pass a i s
passed_is a s i es is =
    let g : Frame → Frame = λ f. record f { events = f.events ++ es } in
    let h : Frame → Frame = passed a (depth_of s i) in
    ap (λ (ks : List Stacked). record s { stacks = ks })
    (change_same i (on_frames g) (on_frames h) s.stacks (λ k stack.
    ap (λ (fs : List Frame). record k { frames = fs })
    (change_same (length k.frames - 1) g h k.frames (λ x here.
    ap (λ (ds : List PassedEvent). record x { events = x.events ++ ds }) (is ∙ sym (due_top a s i (depth_of s i) x (sym (top_at s i k x stack here)) refl))))))

-- ---- frames

pub readable : (a : Accepted) (f : Frame) → IsSoundFrame a f → IsReadable a f
readable a f sound = record { function = of_function a f sound; shaped = sound.shaped }

-- the first frame of a run
pub begun_readable : HavePlans → (a b : Accepted) (plan : Planned) → b ≡ a → ∥ IsAccepted b ∥₁ → ∥ IsValid b ∥₁ → plan ≡ plan_of b b.entry → IsReadable a (fresh plan)
begun_readable has a b plan same accepted valid is =
    subst (λ (x : Accepted). IsReadable x (fresh plan)) same
    (subst (λ (p : Planned). IsReadable b (fresh p)) (sym is) (readable b (fresh (plan_of b b.entry)) (entry_frame has b accepted valid)))
